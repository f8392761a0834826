-- `push_slope`: the two bytes of its two's complement.
use Rattle.std.proofs.Common.{◌≡◌, ◌/◌, ◌%◌, arith, rules, w16, to_z, of_z}
use Rattle.writing.specs.Encode.{unsigned16}
use Rattle.writing.proofs.Laws.{appended_then, appended_as, pushed, slope_is, slope_small}
use Rattle.writing.proofs.push_slope.Goals as goal

pub returns : goal.returns
returns c =
    let n = unsigned16 c.args.v in
    let back : to_z w16 (of_z w16 c.args.v) ≡ c.args.v = search rules in
    let small = slope_small c.args.v c.ranges.v in
    let high : n / 256 % 256 ≡ n / 256 = omega arith in
    appended_as
    (appended_then (pushed _ _ _ c.push.ensures.items) (pushed _ _ _ c.push-2.ensures.items))
    (rw (c.to_le_bytes.ensures, back, slope_is, high))
