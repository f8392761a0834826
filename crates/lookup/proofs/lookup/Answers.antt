-- `lookup::lookup` meets its contract: the blocks are replaced one after another, and what a block
-- finds is as the call found it.
use Rattle.std.proofs.Common.{◌≡◌, ◌∙◌, refl, arith, rules, ℕ, ◌+◌, eq-eqb, ne_eqb, length}
use Rattle.std.specs.Float.{nan}
use Rattle.lists.specs.Stored.{Stored, stored_none, stored_then, stored_as, stored_above, stored_inside, stored_all, stored_end}
use Rattle.lists.specs.Part.{back, length_part, get_d_part, stored_part}
use Rattle.lookup.specs.Lookup.{looked, looked_up}
use Rattle.lookup.proofs.lookup.Goals.{After-replace}
use Rattle.lookup.proofs.lookup.Goals as goal

-- a table of another length
pub returns-then-table-ne-FINE_TABLE_LENGTH : goal.returns-then-table-ne-FINE_TABLE_LENGTH
unfolding looked_up
returns-then-table-ne-FINE_TABLE_LENGTH c =
    let other = ne_eqb (length c.args.table.now) 4096 (λ e. omega arith) in
    record { answer = rw other; values = rw other }

pub loop-at-init : goal.loop-at-init
loop-at-init c = stored_end stored_none (omega arith)

-- the values after one block more, which was lent
module _ (c : After-replace) where
  lent : let at = c.loop-at.at in let end = at + c.min-n.result in
      Stored (looked c.args.table.now c.loop-at.values) at end c.loop-at.values
      (back at end c.loop-at.values c.replace.new.block)
  unfolding looked
  lent =
      let at = c.loop-at.at in
      let end = at + c.min-n.result in
      let long = length_part at end c.loop-at.values (omega arith) in
      stored_part at end c.loop-at.values c.replace.new.block nan (omega arith) (omega arith)
      (c.replace.ensures.same_length ∙ long) (looked c.args.table.now c.loop-at.values)
      (λ k low.
      stored_inside c.replace.ensures k nan (omega arith) (omega (arith, long)) (omega (arith, long))
      ∙ rw (get_d_part at end c.loop-at.values k nan low))

  replaced : {k : ℕ} → c.loop-at.at + c.min-n.result ≡ k
      → Stored (looked c.args.table.now c.args.values.now) 0 k c.args.values.now
      (back c.loop-at.at (c.loop-at.at + c.min-n.result) c.loop-at.values c.replace.new.block)
  unfolding looked
  replaced e =
      let r = stored_end c.loop-at.invariant (omega arith) in
      stored_end (stored_then r (stored_as lent (λ w low high. rw (stored_above r w nan low)))) e

pub loop-at-preserved : goal.loop-at-preserved
loop-at-preserved c = replaced (goal.at.loop-at-preserved c).After-replace (omega arith)

-- all blocks are replaced
pub returns-else-table-ne-FINE_TABLE_LENGTH : goal.returns-else-table-ne-FINE_TABLE_LENGTH
unfolding looked_up
returns-else-table-ne-FINE_TABLE_LENGTH c =
    let full = eq-eqb (length c.args.table.now) 4096 (omega arith) in
    record { answer = rw full; values = rw full (stored_all c.loop-at.invariant refl (omega arith)) }

pub returns-else-table-ne-FINE_TABLE_LENGTH-2 : goal.returns-else-table-ne-FINE_TABLE_LENGTH-2
unfolding looked_up
returns-else-table-ne-FINE_TABLE_LENGTH-2 c =
    let full = eq-eqb (length c.args.table.now) 4096 (omega arith) in
    let all = replaced (goal.at.returns-else-table-ne-FINE_TABLE_LENGTH-2 c).After-replace refl in
    record { answer = rw full; values = rw full (stored_all all refl (omega arith)) }

pub replace-requires : goal.replace-requires
replace-requires c = search rules
