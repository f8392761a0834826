-- `kind_of`: the array is the definition's list, and past its end it has the same answer.
use Rattle.std.proofs.Common.{ℕ, ◌≡◌, sym, arith, ℤ, to_z-of_z}
use Rattle.tables.specs.Kinds.{kind_of}
use Rattle.tables.specs.KindLaws.{kind_past}
use Rattle.tables.proofs.kind_of.Goals as goal

same-slopes : (k q : ℕ) {a b c d : ℤ} → a ≡ b → c ≡ d → kind_of k q a c ≡ kind_of k q b d
same-slopes k q start end = rw (start, end)

pub returns-then-k-le-LAST_KIND : goal.returns-then-k-le-LAST_KIND
unfolding kind_of
returns-then-k-le-LAST_KIND c =
    let given = c.args in
    let fits = c.ranges in
    same-slopes given.k given.tension_q8 (to_z-of_z fits.start_slope_q8) (to_z-of_z fits.end_slope_q8)

pub returns-else-k-le-LAST_KIND : goal.returns-else-k-le-LAST_KIND
returns-else-k-le-LAST_KIND c = sym (kind_past c.args.k _ (omega arith))
