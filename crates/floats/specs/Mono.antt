-- The operations keep the order in each operand, signs and overflow included. What lies between two
-- values of the format rounds to a value between them.
use Rattle.std.specs.Prelude.{ℕ, ◌+◌, ◌*◌, ◌<◌, T, Float}
use Rattle.std.proofs.Common.{le_refl, mul-pos, mul-le-mul_left, arith}
use Rattle.std.specs.Float.{Format}
use Rattle.std.specs.Float.Ieee.{fits, neg, add, sub, mul, div, le}
use Rattle.std.specs.Float.Ieee.Scale.{finite}
use Rattle.std.specs.Float.Ieee.Positive.{den, den_pos}
use Rattle.floats.specs.Signed.{Le, poly, sum_le}
use Rattle.floats.specs.Value.{dens_pos, top, bot, Is, own, is_neg, le_of, of_le}
use Rattle.floats.specs.Order.{finite_between}
use Rattle.floats.specs.Round.{Rounds, rounds_mono}
use Rattle.floats.specs.Unique.{rounds_own}
use Rattle.floats.specs.Ops.{add_own, mul_rounds, div_rounds}

-- ---- the sum grows with each term
pub add_mono : (f : Format) (x z y w : Float) → T (finite x) → T (finite z) → T (finite y)
    → T (finite w) → T (le x z) → T (le y w)
    → T (le (add f x y) (add f z w))
add_mono f x z y w p r q s h k =
    rounds_mono f _ _ _ _ _ _ _ _ (dens_pos x y) (dens_pos z w) (add_own f x y p q)
    (add_own f z w r s) (sum_le _ _ _ _ _ _ _ _ _ _ _ _ (of_le x z p r h) (of_le y w q s k))

pub sub_mono_left : (f : Format) (x z y : Float) → T (finite x) → T (finite z) → T (finite y)
    → T (le x z) → T (le (sub f x y) (sub f z y))
unfolding sub
sub_mono_left f x z y p q r h =
    let n : T (finite (neg y)) = (is_neg y _ _ _ (own y r)).0 in
    add_mono f x z _ _ p q n n h (le_of _ _ n n (le_refl _))

-- ---- the product by d ≥ 0 grows with the other factor, and by d ≤ 0 falls
scale_le : (q e p n c r l d : ℕ) → Le p n c r l d
    → Le (q * p + 0 * n) (q * n + 0 * p) (e * c) (q * r + 0 * l) (q * l + 0 * r) (e * d)
scale_le q e p n c r l d h = let k = simp poly at (mul-le-mul_left (q * e) h) in
    simp poly (omega arith)

pub mul_mono_left : (f : Format) (d x y : Float) (q e : ℕ) → 0 < e → Is d q 0 e → T (finite x)
    → T (finite y) → T (le x y)
    → T (le (mul f d x) (mul f d y))
mul_mono_left f d x y q e E D p r h =
    rounds_mono f _ _ _ _ _ _ _ _ (mul-pos E (den_pos x)) (mul-pos E (den_pos y))
    (mul_rounds f d x q 0 e _ _ _ E (den_pos x) D (own x p))
    (mul_rounds f d y q 0 e _ _ _ E (den_pos y) D (own y r))
    (scale_le q e _ _ _ _ _ _ (of_le x y p r h))

scale_ge : (q e p n c r l d : ℕ) → Le p n c r l d
    → Le (0 * r + q * l) (0 * l + q * r) (e * d) (0 * p + q * n) (0 * n + q * p) (e * c)
scale_ge q e p n c r l d h = let k = simp poly at (mul-le-mul_left (q * e) h) in
    simp poly (omega arith)

pub mul_anti_left : (f : Format) (d x y : Float) (q e : ℕ) → 0 < e → Is d 0 q e → T (finite x)
    → T (finite y) → T (le x y)
    → T (le (mul f d y) (mul f d x))
mul_anti_left f d x y q e E D p r h =
    rounds_mono f _ _ _ _ _ _ _ _ (mul-pos E (den_pos y)) (mul-pos E (den_pos x))
    (mul_rounds f d y 0 q e _ _ _ E (den_pos y) D (own y r))
    (mul_rounds f d x 0 q e _ _ _ E (den_pos x) D (own x p))
    (scale_ge q e _ _ _ _ _ _ (of_le x y p r h))

-- ---- the quotient by a divisor above zero grows with what is divided
pub div_mono_left : (f : Format) (x z y : Float) (p n c r l e q d : ℕ) → 0 < c → 0 < e → 0 < d
    → 0 < q
    → Is x p n c → Is z r l e → Is y q 0 d → Le p n c r l e → T (le (div f x y) (div f z y))
div_mono_left f x z y p n c r l e q d C E D Q h g k i =
    rounds_mono f _ _ (p * d) (n * d) (c * q) (r * d) (l * d) (e * q) (mul-pos C Q) (mul-pos E Q)
    (div_rounds f x y p n c q d C D Q h k) (div_rounds f z y r l e q d E D Q g k)
    (let j = simp poly at (mul-le-mul_left (d * q) i) in simp poly (omega arith))

-- ---- a fraction between two values of the format rounds to a value between them, which is finite
pub rounds_between : (f : Format) (lo z hi : Float) (p n c : ℕ) → 0 < c → T (fits f lo)
    → T (fits f hi) → T (finite lo) → T (finite hi)
    → Rounds f z p n c → Le (top lo) (bot lo) (den lo) p n c → Le p n c (top hi) (bot hi) (den hi)
    → T (finite z) × T (le lo z) × T (le z hi)
rounds_between f lo z hi p n c C tl th fl fh r a b =
    let above = rounds_mono f lo z _ _ _ p n c (den_pos lo) C (rounds_own f lo fl tl) r a in
    let below = rounds_mono f z hi p n c _ _ _ C (den_pos hi) r (rounds_own f hi fh th) b in
    (finite_between lo z hi fl fh above below, above, below)
