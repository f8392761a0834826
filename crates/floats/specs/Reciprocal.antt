-- A quotient by a number whose reciprocal is a float is the product with that reciprocal, whatever
-- is divided: a NaN, an infinity, a zero of either sign, and any number whose quotient is rounded,
-- for both round the same fraction.
use Rattle.std.specs.Prelude.{◌≡◌, Bool, ◌*◌, ◌<◌, T, Float}
use Rattle.std.proofs.Math.Path.{refl}
use Rattle.std.proofs.Common.{sym, ap, ◌∙◌, mul_comm, mul-pos, ne_of_gt, arith, ne_eqb}
use Rattle.std.specs.Float.Ieee.{nan, up, unlike, mul, div}
use Rattle.std.specs.Float.{inf, fin, Format}
use Rattle.std.specs.Float.Ieee.Scale.{finite, round_same}
use Rattle.std.specs.Float.Ieee.Positive.{num, den, den_pos, first_pos}
use Rattle.floats.specs.Value.{dens_pos, sign}
use Rattle.floats.specs.Ops.{mul_is, div_is}

-- h is the reciprocal of k: the two have one sign, and the product of their sizes is 1, so that
-- both are finite and neither is a zero
abbrev pub Reciprocal : Float → Float → Type 0
Reciprocal k h = (sign h ≡ sign k) × (num k * num h ≡ den k * den h)

-- ---- by a number that is finite and no zero
finite_nonzero : (y : Float) → 0 < num y → T (finite y)
finite_nonzero nan N = absurd (omega arith)
finite_nonzero (inf t) N = absurd (omega arith)
finite_nonzero (fin t n d) N = tt

inf_times : (f : Format) (s : Bool) (y : Float) → 0 < num y
    → mul f (inf s) y ≡ inf (unlike s (sign y))
unfolding mul
inf_times f s nan N = absurd (omega arith)
inf_times f s (inf t) N = absurd (omega arith)
inf_times f s (fin t n d) N = rw (ne_eqb n 0 (ne_of_gt (first_pos n (up d) N)))

inf_over : (f : Format) (s : Bool) (y : Float) → 0 < num y
    → div f (inf s) y ≡ inf (unlike s (sign y))
unfolding div
inf_over f s nan N = absurd (omega arith)
inf_over f s (inf t) N = absurd (omega arith)
inf_over f s (fin t n d) N = refl

-- ---- the law
module _ (f : Format) (k h : Float) (r : Reciprocal k h) where
  k_nonzero : 0 < num k
  k_nonzero = first_pos (num k) (num h) (rw r.1 (dens_pos k h))

  h_nonzero : 0 < num h
  h_nonzero = first_pos (num h) (num k) (rw (mul_comm (num h) (num k), r.1) (dens_pos k h))

  -- x h is x / k as a fraction
  same : (x : Float) → num x * num h * (num k * den x) ≡ num x * den k * (den x * den h)
  same x = omega (arith, ap (num x * den x *◌) r.1)

  finite_product : (x : Float) → T (finite x) → mul f x h ≡ div f x k
  finite_product x p =
      rw (mul_is f x h p (finite_nonzero h h_nonzero), div_is f x k p k_nonzero, r.0)
      (round_same f _ _ _ _ _ (dens_pos x h) (mul-pos k_nonzero (den_pos x)) (same x))

  pub product_is_quotient : (x : Float) → mul f x h ≡ div f x k
  unfolding mul div
  product_is_quotient nan = refl
  product_is_quotient (inf s) =
      inf_times f s h h_nonzero ∙ rw r.0 (sym (inf_over f s k k_nonzero))
  product_is_quotient (fin s m e) = finite_product (fin s m e) tt
