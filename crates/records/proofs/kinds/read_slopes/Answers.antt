-- `read_slopes` meets its contract where four bytes are there.
use Rattle.std.proofs.Common.{◌≡◌, arith, rules, length, le-ltb, w16, to_z, of_z}
use Rattle.std.proofs.lemmas.List.{take_rest}
use Rattle.records.specs.Kinds.{read_slopes}
use Rattle.records.proofs.kinds.read_slopes.Goals as goal

pub returns : goal.returns
unfolding read_slopes
returns c =
    let s = c.args.rest.now in
    let x = c.stored_slope-start in
    let y = c.stored_slope-end in
    let start : to_z w16 (of_z w16 x.result) ≡ x.result = search rules in
    let end : to_z w16 (of_z w16 y.result) ≡ y.result = search rules in
    rw (
      c.kind_of.ensures,
      start,
      end,
      x.ensures,
      y.ensures,
      take_rest s 4,
      le-ltb (length s) 4 (omega arith),
    )
