-- `single::floor` meets its contract: the nearest whole number, or one less where it lies above x
-- (`proofs/Nearest.antt`).
use Rattle.std.proofs.Common.{◌≡◌, sym, ap, ◌∙◌, ℕ, ◌+◌, ◌-◌, ◌/◌, lt_of_le_of_lt, arith, lit<, lit≤, Float}
use Rattle.floats.specs.Notation.{◌⊖◌}
use Rattle.floats.specs.Whole.{whole_less}
use Rattle.single.specs.Constants.{𝟏, 𝟒𝟎𝟗𝟒}
use Rattle.single.specs.Rules.{float, held, floor_of}
use Rattle.single.specs.RuleLaws.{𝟏-float, 𝟒𝟎𝟗𝟒-float}
use Rattle.single.specs.ByteLaws.{floor_rule}
use Rattle.single.proofs.Nearest.{near, Split, held_split, whole_held, floor_here, floor_before}
use Rattle.single.proofs.floor.Goals as goal

kept : (x b : Float) → b ≡ held 𝟒𝟎𝟗𝟒 x → Split 4094 b × (floor_of b ≡ floor_of x)
unfolding floor_of
kept x b e = rw (e, 𝟒𝟎𝟗𝟒-float) (held_split 4094 (lit≤ tt) x, whole_held ◌/◌ 4094 floor_rule (lit≤ tt) x)

less_one : {b : Float} (s : Split 4094 b) (k : ℕ) → k + 1 ≡ s.w → near b ⊖ 𝟏 ≡ float k
less_one s k e =
    let z : s.w - 1 ≡ k = omega arith in
    rw (s.whole, 𝟏-float, whole_less s.w 1 (omega arith) (lt_of_le_of_lt s.small (lit< tt)), z)

pub returns-then-b-t : goal.returns-then-b-t
returns-then-b-t c =
    let (s, same) = kept _ _ c.hold-b.ensures in
    less_one s _ (ap (◌+ 1) (sym same) ∙ floor_before s c.if-b-t.true)

pub returns : goal.returns
returns c =
    let (s, same) = kept _ _ c.hold-b.ensures in
    s.whole ∙ ap float (sym (floor_here s c.if-b-t.false) ∙ same)
