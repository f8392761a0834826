-- `single::to_byte` meets its contract: the nearest whole number, put right at a half
-- (`proofs/Nearest.antt`).
use Rattle.std.proofs.Common.{◌≡◌, sym, ap, ◌∙◌, ◌+◌, lt_of_le_of_lt, le_trans, arith, T, lit<, lit≤, Float}
use lib.Ieee.{binary32, to_unsigned, in_unsigned}
use Rattle.single.specs.Constants.{𝟐𝟓𝟓}
use Rattle.single.specs.Rules.{nearest_whole, held, byte_of}
use Rattle.single.specs.RuleLaws.{𝟐𝟓𝟓-float}
use Rattle.single.specs.ByteLaws.{nearest_rule, byte_small}
use Rattle.single.proofs.Nearest.{near, Split, held_split, whole_held, cast_back, byte_here, byte_above}
use Rattle.single.proofs.to_byte.Goals as goal

kept : (x b : Float) → b ≡ held 𝟐𝟓𝟓 x → Split 255 b × (byte_of b ≡ byte_of x)
unfolding byte_of
kept x b e = rw (e, 𝟐𝟓𝟓-float) (held_split 255 (lit≤ tt) x, whole_held nearest_whole 255 nearest_rule (lit≤ tt) x)

cast : {b : Float} (s : Split 255 b) → T (in_unsigned binary32 8 (near b)) × (to_unsigned 8 (near b) ≡ s.w)
cast s = cast_back 8 s.w _ (lt_of_le_of_lt s.small (lit< tt)) (le_trans s.small (lit≤ tt)) s.whole

pub float_to_int-k : goal.float_to_int-k
float_to_int-k c = (cast (kept _ _ c.hold-b.ensures).0).0

pub returns-then-b-t : goal.returns-then-b-t
returns-then-b-t c =
    let (s, same) = kept _ _ c.hold-b.ensures in
    (cast s).1 ∙ sym (byte_here s c.if-b-t.true) ∙ same

pub overflow_add-result : goal.overflow_add-result
overflow_add-result c =
    let (s, same) = kept _ _ c.hold-b.ensures in
    omega (arith, (cast s).1, byte_above s c.if-b-t.false, byte_small c.hold-b.result)

pub returns : goal.returns
returns c =
    let (s, same) = kept _ _ c.hold-b.ensures in
    ap (◌+ 1) (cast s).1 ∙ sym (byte_above s c.if-b-t.false) ∙ same
