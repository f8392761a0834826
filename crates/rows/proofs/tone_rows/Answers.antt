-- `rows::tone_rows` meets its contract: the tests find which pixels these are.
use Rattle.std.proofs.Common.{arith, ◌∙◌, mul-one}
use Rattle.rows.proofs.Walk.{
  all_toned,
  some_bytes,
  last_of_two,
  last_of_four,
  one_table,
  plane_same,
  rows_of_bytes,
}
use Rattle.rows.proofs.tone_rows.Goals as goal

pub tone_plane-requires : goal.tone_plane-requires
tone_plane-requires c = (omega arith, rows_of_bytes (some_bytes c.requires.0) c.requires.1)

pub returns-then-p-kept : goal.returns-then-p-kept
returns-then-p-kept c =
    let table = c.args.table.now in
    let is = rw mul-one at c.tone_plane.ensures in
    is
    ∙ plane_same _ _ _ _ _
    (λ k b. one_table 1 1 table k b
    ∙ all_toned _ _ table (some_bytes c.requires.0) c.if-p-kept.true k b) _

pub returns-then-p-eq2 : goal.returns-then-p-eq2
returns-then-p-eq2 c =
    let two = c.if-p-eq2.true in
    rw (two, last_of_two c.requires.0 c.if-p-kept.false two)
    (c.tone_plane-then-p-eq2.ensures ∙ plane_same _ _ _ _ _ (one_table _ _ _) _)

pub returns-else-p-eq2 : goal.returns-else-p-eq2
returns-else-p-eq2 c =
    let last = last_of_four c.requires.0 c.if-p-kept.false c.if-p-eq2.false in
    rw (last.0, last.1)
    (c.tone_plane-else-p-eq2.ensures ∙ plane_same _ _ _ _ _ (one_table _ _ _) _)
