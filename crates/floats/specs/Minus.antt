-- A float of the format less a whole number not above it: exact, since the difference needs no
-- finer digits and no more of them.
use Rattle.std.specs.Prelude.{◌≡◌, refl, ℕ, zero, suc, ◌+◌, ◌-◌, ◌*◌, ◌^◌, ◌≤◌, ◌<◌, true, false, pos, negsuc, T, Float}
use Rattle.std.proofs.Common.{ap, add-sub_of_le, mul-le-mul_right, le_of_mul-le-mul_right, lt_of_mul-lt-mul_right, arith, lit<, lit≤, pow_pos}
use Rattle.std.specs.Float.{nan, inf, fin, binary32}
use Rattle.std.specs.Float.Ieee.{fits, down}
use Rattle.std.specs.Float.Ieee.Positive.{den_pos}
use Rattle.floats.specs.Notation.{◌⊖◌}
use Rattle.floats.specs.Signed.{Le, le_through}
use Rattle.floats.specs.Value.{Is, is_same, is→le, is→ge}
use Rattle.floats.specs.Exact.{le_of_pow, fits_parts}
use Rattle.floats.specs.Small.{dyadic_sub}

-- v is q / 2 ^ i, with few enough digits
record Dyadic (v : Float) : Type 0 where
  q : ℕ
  i : ℕ
  few : q < 2 ^ 24
  fine : i ≤ 149
  is : Is v q 0 (2 ^ i)

zero_of : (v : Float) → Is v 0 0 1 → Dyadic v
zero_of v h = record { q = 0; i = 0; few = lit< tt; fine = lit≤ tt; is = h }

-- a value p / c below 2 ^ 24
dyadic_of : (v : Float) (p c : ℕ) → T (fits binary32 v) → 0 < c → Is v p 0 c → p < 2 ^ 24 * c
    → Dyadic v
unfolding fits
dyadic_of nan p c t C h l = absurd h.0
dyadic_of (inf s) p c t C h l = absurd h.0
dyadic_of (fin true m e) p c t C h l = zero_of _ (tt, none _ h.1)
  where
    none : (a : ℕ) → 0 * c + 0 * down e ≡ p * down e + a * c
        → 0 * 1 + 0 * down e ≡ 0 * down e + a * 1
    none a h = let z : a ≤ 0 = le_of_mul-le-mul_right {k = c} (omega arith) C in omega arith
dyadic_of (fin false m (pos k)) p c t C h l =
    record {
      q = m * 2 ^ k;
      i = 0;
      few = lt_of_mul-lt-mul_right c (omega arith);
      fine = lit≤ tt;
      is = (tt, refl);
    }
dyadic_of (fin false zero (negsuc k)) p c t C h l = zero_of _ (tt, omega arith)
dyadic_of (fin false (suc m) (negsuc k)) p c t C h l =
    let parts = fits_parts binary32 false m (negsuc k) t in
    record {
      q = suc m;
      i = suc k;
      few = parts.0;
      fine = le_of_pow _ 149 parts.1;
      is = (tt, omega arith);
    }

-- two fractions of one float
equal : (v : Float) (p n c q m d : ℕ) → Is v p n c → Is v q m d → Le p n c q m d
equal v p n c q m d h g =
    le_through p n c _ _ _ q m d (den_pos v) (is→ge v p n c h) (is→le v q m d g)

pub minus_whole : (v x : Float) (a p c : ℕ) → T (fits binary32 v) → 0 < c → Is v p 0 c → Is x a 0 1
    → a * c ≤ p → p < 2 ^ 24 * c
    → Is (v ⊖ x) (p - a * c) 0 c
minus_whole v x a p c t C iv ix l u = from (dyadic_of v p c t C iv u)
  where
    from : Dyadic v → Is (v ⊖ x) (p - a * c) 0 c
    from y =
        let q = y.q in
        let d = 2 ^ y.i in
        let e = equal v q 0 d p 0 c y.is iv in
        let g = equal v p 0 c q 0 d iv y.is in
        let f : (a * c + (p - a * c)) * d ≡ p * d = ap (◌* d) (add-sub_of_le l) in
        let b : a * d ≤ q =
        le_of_mul-le-mul_right {k = c} (omega (arith, mul-le-mul_right d l)) C in
        is_same (v ⊖ x) (q + 0) _ d _ 0 c (pow_pos y.i)
        (dyadic_sub v x q 0 (a * d) 0 y.i y.fine (omega (arith, y.few)) (omega arith) y.is
        (is_same x a 0 1 (a * d) 0 d (lit< tt) ix (omega arith))) (omega arith)
