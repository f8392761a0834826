-- `Approx i x r`: the float x is finite, and within i / 2 ^ 24 of the fraction r. Each operation
-- adds the errors of its operands and its own.
use Rattle.std.specs.Prelude.{ℕ, zero, suc, ◌+◌, ◌*◌, ◌^◌, ◌≤◌, ◌<◌, T, Float}
use Rattle.std.proofs.Common.{lt-suc_self, mul-pos, arith, lit<}
use Rattle.std.specs.Float.Ieee.{size}
use Rattle.std.specs.Float.Ieee.Digits.{size-lt, size-le, size_reaches}
use Rattle.std.specs.Float.Ieee.Scale.{finite}
use Rattle.std.specs.Float.Ieee.Positive.{den_pos}
use Rattle.floats.specs.Notation.{◌⊕◌, ◌⊖◌, ◌⊗◌}
use Rattle.floats.specs.Signed.{le→up}
use Rattle.floats.specs.Value.{dens_pos, own, is→le, is→ge}
use Rattle.floats.specs.Ops.{add_rounds, sub_rounds, mul_rounds}
use Rattle.floats.specs.Frac.{Frac, Ok, plus, minus, times, Close, Size, Sized, size_close}
use Rattle.floats.specs.Frac.{
  close_through,
  close_more,
  close_cut,
  close_plus,
  close_minus,
  close_times,
  close_times_by,
}
use Rattle.floats.specs.Calc.{val, IsF, RoundsF, rounds_close}

-- errors are counted in the unit roundoff u = 2⁻²⁴, half the distance of 1 and the float after it
abbrev pub u⁻¹ : ℕ
u⁻¹ = 2 ^ 24

pub record Approx (i : ℕ) (x : Float) (r : Frac) : Type 0 where
  pub fin : T (finite x)
  pub near : Close i u⁻¹ (val x) r

pub approx_is : (x : Float) (r : Frac) → IsF x r → Approx 0 x r
approx_is x r h = record {
  fin = h.0;
  near = (
    le→up 0 u⁻¹ _ _ _ _ _ _ (is→le x _ _ _ h),
    le→up 0 u⁻¹ _ _ _ _ _ _ (is→ge x _ _ _ h),
  );
}

pub approx_more : (i j : ℕ) (x : Float) (r : Frac) → i ≤ j → Approx i x r → Approx j x r
approx_more i j x r l h = record { fin = h.fin; near = close_more i j u⁻¹ _ r l h.near }

-- ---- one rounding
size_twice : (b : ℕ) → 0 < b → 2 ^ size b ≤ 2 * b
size_twice b B = go _ (size-lt b) (size_reaches b)
  where
    go : (k : ℕ) → b < 2 ^ k → ((j : ℕ) → j < k → 2 ^ j ≤ b) → 2 ^ k ≤ 2 * b
    go zero h reach = omega arith
    go (suc j) h reach = omega (arith, reach j (lt-suc_self j))

-- the error is at most b / 2 ^ 24, for a fraction of at most b in size
pub rounds_by : (z : Float) (r : Frac) (b : ℕ) → 0 < b → b < 2 ^ 127 → Ok r → Size b r → RoundsF z r
    → Approx b z r
rounds_by z r b B L C s q =
    let k = size b in
    let c = rounds_close z r b k (size-le b 127 L) C (size-lt b) s q in
    record {
      fin = c.0;
      near = close_cut 2 b u⁻¹ _ r (lit< tt)
          (close_more (2 ^ k) (2 * b) _ _ r (size_twice b B) c.1);
    }

-- z is q rounded, and q is near r, which is at most b in size
pub rounds_approx : (z : Float) (q r : Frac) (i b : ℕ) → Ok q → Ok r → i ≤ u⁻¹ → b + 1 < 2 ^ 127
    → Size b r → Close i u⁻¹ q r → RoundsF z q
    → Approx (b + 1 + i) z r
rounds_approx z q r i b Q R l L s h a =
    let w = rounds_by z q (b + 1) (omega arith) L Q (size_close i u⁻¹ b q r (lit< tt) R l s h) a in
    record { fin = w.fin; near = close_through (b + 1) i u⁻¹ _ q r Q w.near h }

-- ---- the operations
module _ (i j b : ℕ) (x y : Float) (r q : Frac) (R : Ok r) (Q : Ok q) (l : i + j ≤ u⁻¹)
    (L : b + 1 < 2 ^ 127) where
  pub add_approx : Size b (plus r q) → Approx i x r → Approx j y q
      → Approx (b + 1 + (i + j)) (x ⊕ y) (plus r q)
  add_approx s h g =
      rounds_approx (x ⊕ y) _ _ (i + j) b (dens_pos x y) (mul-pos R Q) l L s
      (close_plus i j u⁻¹ _ r _ q h.near g.near)
      (add_rounds _ x y _ _ _ _ _ _ (den_pos x) (den_pos y) (own x h.fin) (own y g.fin))

  pub sub_approx : Size b (minus r q) → Approx i x r → Approx j y q
      → Approx (b + 1 + (i + j)) (x ⊖ y) (minus r q)
  sub_approx s h g =
      rounds_approx (x ⊖ y) _ _ (i + j) b (dens_pos x y) (mul-pos R Q) l L s
      (close_minus i j u⁻¹ _ r _ q h.near g.near)
      (sub_rounds _ x y _ _ _ _ _ _ (den_pos x) (den_pos y) (own x h.fin) (own y g.fin))

-- |r| ≤ a, |q| ≤ b, |r * q| ≤ e
pub mul_approx : (i j a b e : ℕ) (x y : Float) (r q : Frac) → Ok r → Ok q → j ≤ u⁻¹
    → (b + 1) * i + a * j ≤ u⁻¹ → e + 1 < 2 ^ 127
    → Size a r → Size b q → Size e (times r q) → Approx i x r → Approx j y q
    → Approx (e + 1 + ((b + 1) * i + a * j)) (x ⊗ y) (times r q)
mul_approx i j a b e x y r q R Q l m L sa sb se h g =
    rounds_approx (x ⊗ y) _ _ _ e (dens_pos x y) (mul-pos R Q) m L se
    (close_times i j u⁻¹ (b + 1) a _ r _ q R (den_pos y)
    (size_close j u⁻¹ b _ q (lit< tt) Q l sb g.near) sa h.near g.near)
    (mul_rounds _ x y _ _ _ _ _ _ (den_pos x) (den_pos y) (own x h.fin) (own y g.fin))

-- y is q exactly, and i * |q| ≤ j
pub mul_approx_by : (i j e : ℕ) (x y : Float) (r q : Frac) → Ok r → Ok q → j ≤ u⁻¹ → e + 1 < 2 ^ 127
    → Sized i j q → Size e (times r q)
    → Approx i x r → IsF y q → Approx (e + 1 + j) (x ⊗ y) (times r q)
mul_approx_by i j e x y r q R Q l L s se h g =
    rounds_approx (x ⊗ y) _ _ j e (mul-pos (den_pos x) Q) (mul-pos R Q) l L se
    (close_times_by i j u⁻¹ q _ r s h.near)
    (mul_rounds _ x y _ _ _ _ _ _ (den_pos x) Q (own x h.fin) g)
