-- What the code's whole numbers have to do with `root_of_units`: p is the nearest root by two
-- comparisons, and its digits are the result's bit pattern.
use mathlib.Core.Path.{◌≡◌, refl, sym, ap, ◌∙◌}
use mathlib.Core.Logic.{inl, inr}
use mathlib.Core.Bool.{false, not}
use Prim.Native.Nat.{ℕ, zero, suc, ◌+◌, ◌-◌, ◌*◌, ◌/◌, ◌%◌, ◌^◌, ◌≤◌, ◌<◌}
use native.Mathlib.Nat.{le_of_lt, le_of_eq, lt_of_lt_of_le, lt_of_not-le, not-le_of_lt, le_of_suc-le-suc, mul_assoc}
use native.Mathlib.Nat.{div-eq_of_eq-mul_left, mul-pos, mul-le-mul_left, mul-le-mul_right, mul-lt-mul_of_pos_right}
use native.Mathlib.Omega.{arith}
use lib.Dec.{T, ltb, ltb→lt, not_T}
use lib.Pow.{pow_pos, pow-add, pow_mono, shl_lt, shl-shr}
use lib.Ieee.{Float, nan, inf, fin, binary32, size, units, to_bits, of_bits, nan_bits}
use lib.Ieee.Digits.{size-le}
use lib.Ieee.Exact.{HasValue, units_val}
use lib.Ieee.Fits.{down_pos}
use lib.Ieee.Bits.{of_bits-to_bits, nan_bits_above}
use Rattle.floats.specs.Closest.{size_above}
use Rattle.single.specs.Root.{nearest_root, root_of_units}
use Rattle.single.specs.NearestRoot.{NearestRoot, square, square_of, nearest_root_unique}
use Rattle.single.specs.RootUnits.{even_power, dropped, units_nearest, units_fits}

-- ---- a float of q * 2 ^ k units, q being of 24 digits, by its pattern
module _ (q k : ℕ) (low : 2 ^ 23 ≤ q) (high : q < 2 ^ 24) where
  size-units : size (q * 2 ^ k) - 24 ≡ k
  size-units =
      let a : 23 + k < size (q * 2 ^ k) = size_above _ (23 + k) (rw (pow-add 2 23 k) (mul-le-mul_right (2 ^ k) low)) in
      omega (arith, size-le (q * 2 ^ k) (24 + k) (shl_lt 24 k high))

  bits_of : (v : Float) → HasValue v false (q * 2 ^ k) (2 ^ 149) → to_bits binary32 v ≡ k * 8388608 + q
  unfolding to_bits
  bits_of nan h = absurd h
  bits_of (inf t) h = absurd h
  bits_of (fin t m e) h =
      rw (h.0, div-eq_of_eq-mul_left (down_pos e) h.1, size-units, shl-shr q k) (omega arith)

  units-bits : k ≤ 200 → units binary32 false q k ≡ of_bits binary32 (k * 8388608 + q)
  units-bits h =
      let under : q * 2 ^ k < 2 ^ 277 =
      lt_of_lt_of_le (shl_lt 24 k high) (pow_mono {i = 24 + k} {j = 277} (omega arith)) in
      let v = units binary32 false q k in
      rw (← bits_of v (units_val binary32 false q k under)) (sym (of_bits-to_bits binary32 v (units_fits q k high under)))

-- ---- p is nearest to the root of m, and so of m * 2 ^ (2 * k). There is no tie: 4 * m is even,
-- and the squares of 2 * p - 1 and 2 * p + 1 are odd.
low-square : (m p : ℕ) → p * p < m + p → (2 * p - 1) * (2 * p - 1) < 4 * m
low-square m zero h = omega arith
low-square m (suc q) h = let odd : 2 * suc q - 1 ≡ 2 * q + 1 = omega arith in rw odd (omega arith)

module _ (m k p : ℕ) (above : p * p < m + p) (below : m ≤ p * p + p) where
  positive : 0 < 2 ^ k * 2 ^ k
  positive = mul-pos (pow_pos k) (pow_pos k)

  low : square k (2 * p - 1) < 4 * (m * (2 ^ k * 2 ^ k))
  low = rw (square_of k (2 * p - 1), ← mul_assoc 4 m) (mul-lt-mul_of_pos_right (low-square m p above) positive)

  high : 4 * (m * (2 ^ k * 2 ^ k)) < square k (2 * p + 1)
  high = rw (square_of k (2 * p + 1), ← mul_assoc 4 m) (mul-lt-mul_of_pos_right (omega arith) positive)

  nearest-by-tests : NearestRoot (m * (2 ^ k * 2 ^ k)) k p
  nearest-by-tests = record {
    low = le_of_lt low;
    high = le_of_lt high;
    even = elim [
      | inl e ↦ absurd (not-le_of_lt low (le_of_eq e))
      | inr e ↦ absurd (not-le_of_lt high (le_of_eq (sym e)))
    ];
  }

-- ---- its pattern
-- between the least and the most of 47 or 48 digits that end in 23 zeros or
-- 24: what the code's m is
abbrev pub Wide : ℕ → Type 0
Wide m = (2 ^ 46 ≤ m) × (m ≤ (2 ^ 24 - 1) * 2 ^ 24)

module _ (m p : ℕ) (wide : Wide m) (above : p * p < m + p) (below : m ≤ p * p + p) where
  at_least : 2 ^ 23 ≤ p
  at_least = le_of_suc-le-suc (lt_of_not-le less)
    where
      less : suc p ≤ 2 ^ 23 → ⊥
      less g = let t : suc p * suc p ≤ 2 ^ 23 * suc p = mul-le-mul_right (suc p) g in omega arith

  -- nothing is carried into a 25th digit
  pub at_most : p < 2 ^ 24
  at_most = lt_of_not-le (λ (g : 2 ^ 24 ≤ p). let t : 2 ^ 24 * p ≤ p * p = mul-le-mul_right p g in omega arith)

  module _ (k : ℕ) where
    abbrev n : ℕ
    n = m * (2 ^ k * 2 ^ k)

    dropped-is : dropped n ≡ k
    dropped-is =
        let l : 2 ^ (46 + (k + k)) ≤ n = rw (even_power 46 k) (mul-le-mul_right (2 ^ k * 2 ^ k) wide.0) in
        let h : n < 2 ^ (48 + (k + k)) =
        rw (even_power 48 k) (mul-lt-mul_of_pos_right (omega arith) (mul-pos (pow_pos k) (pow_pos k))) in
        omega (arith, size_above n (46 + (k + k)) l, size-le n (48 + (k + k)) h)

    root-bits : k ≤ 200 → root_of_units n ≡ of_bits binary32 (k * 8388608 + p)
    unfolding root_of_units
    root-bits h =
        let is : NearestRoot n k (nearest_root n k) = rw dropped-is at (units_nearest n) in
        let q-is = nearest_root_unique n k (nearest_root n k) p is (nearest-by-tests m k p above below) in
        ap (λ (j : ℕ). units binary32 false (nearest_root n j) j) dropped-is
        ∙ rw q-is (units-bits p k at_least at_most h)

-- ---- a * 2 ^ (e + 125), a being of 24 digits, as such a number
-- the code's m: a * 2 ^ 23, doubled where e is odd
abbrev pub scaled : ℕ → ℕ → ℕ
scaled a e = a * 8388608 * (1 + e % 2)

pub scaled-wide : (a e : ℕ) → 2 ^ 23 ≤ a → a < 2 ^ 24 → Wide (scaled a e)
scaled-wide a e low high =
    let x : a * 8388608 * 1 ≤ scaled a e = mul-le-mul_left (a * 8388608) (omega arith) in
    let y : scaled a e ≤ a * 8388608 * 2 = mul-le-mul_left (a * 8388608) (omega arith) in
    omega arith

power-of-digit : (r : ℕ) → r < 2 → 2 ^ r ≡ 1 + r
power-of-digit zero h = refl
power-of-digit (suc zero) h = refl
power-of-digit (suc (suc r)) h = omega arith

scaled-is : (a e : ℕ) → a * 2 ^ (e + 125) ≡ scaled a e * (2 ^ (51 + e / 2) * 2 ^ (51 + e / 2))
scaled-is a e =
    let k = 51 + e / 2 in
    let split : e + 125 ≡ 23 + (e % 2 + (k + k)) = omega arith in
    rw (split, pow-add 2 23, even_power (e % 2) k, power-of-digit (e % 2) (omega arith)) (omega arith)

pub root-pattern : (a e p : ℕ) → Wide (scaled a e) → e ≤ 280 → p * p < scaled a e + p → scaled a e ≤ p * p + p
    → of_bits binary32 ((51 + e / 2) * 8388608 + p) ≡ root_of_units (a * 2 ^ (e + 125))
root-pattern a e p w h above below =
    rw (scaled-is a e) (sym (root-bits (scaled a e) p w above below (51 + e / 2) (omega arith)))

-- a pattern below an infinity's is no NaN's
pub no_nan : (b : ℕ) → b < 2139095040 → T (not (nan_bits binary32 b))
no_nan b h = rw (nan_bits_above binary32 b) (not_T (ltb 2139095040 (b % 2147483648)) (λ t. omega (arith, ltb→lt)))
