-- `single::abs` meets its contract: a float above zero is its own size, and zero less any other is
-- exact, since the format holds it.
use Rattle.std.proofs.Common.{◌≡◌, refl, sym, true, false, true≢false, ◌+◌, ◌-◌, ◌*◌, arith, T, Float, ltb-false}
use lib.Ieee.{nan, inf, fin, binary32, up, down, fits, lt, neg, sub, of_bits}
use lib.Ieee.Fits.{down_pos, neg-fits}
use Rattle.floats.specs.Notation.{◌⊖◌}
use Rattle.floats.specs.Value.{absolute}
use Rattle.floats.specs.Unique.{rounds_to}
use Rattle.single.specs.Constants.{𝟎}
use Rattle.single.proofs.abs.Goals as goal

above : (x : Float) → lt 𝟎 x ≡ true → x ≡ absolute x
unfolding lt of_bits absolute
above nan h = absurd (true≢false (sym h))
above (inf true) h = absurd (true≢false (sym h))
above (inf false) h = refl
above (fin true m e) h = absurd (true≢false (sym h))
above (fin false m e) h = refl

zero-less : (x : Float) → T (fits binary32 x) → lt 𝟎 x ≡ false → 𝟎 ⊖ x ≡ absolute x
unfolding lt of_bits sub neg absolute
zero-less nan t h = refl
zero-less (inf true) t h = refl
zero-less (inf false) t h = absurd (true≢false h)
zero-less (fin true m e) t h =
    let fit = neg-fits binary32 (fin true m e) t in
    rounds_to binary32 (fin false m e) (0 * down e + m * up e * 1) (1 * down e) tt fit (omega (arith, down_pos e))
    (omega arith)
zero-less (fin false m e) t h =
    let none : m * up e ≡ 0 = omega (arith, ltb-false (0 * down e) (m * up e * 1) h) in
    let less : 0 * down e - m * up e * 1 ≡ 0 = omega arith in
    rw h (rounds_to binary32 (fin false m e) (0 * down e - m * up e * 1) (1 * down e) tt t (omega (arith, down_pos e))
    (rw (less, none) (omega arith)))

pub returns-then-x : goal.returns-then-x
returns-then-x c = above c.args.x c.if-x.true

pub returns-else-x : goal.returns-else-x
returns-else-x c = zero-less c.args.x (rw c.well_formed.0.1 tt) c.if-x.false
