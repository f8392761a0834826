-- Zero and one as operands, given by their values: which float a product or a quotient is, its sign
-- included, and which value a sum has. Zeros are of either sign, and other operands too.
use Rattle.std.specs.Prelude.{◌≡◌, refl, ℕ, ◌*◌, ◌<◌, Bool, T, Float}
use Rattle.std.proofs.Common.{ap, ◌∙◌, inl, mul-pos, arith, lit<}
use Rattle.std.specs.Float.{Format}
use Rattle.std.specs.Float.Ieee.{unlike, round, fits, add, mul, div}
use Rattle.std.specs.Float.Ieee.Scale.{finite}
use Rattle.std.specs.Float.Ieee.Positive.{num, den, den_pos}
use Rattle.floats.specs.Value.{dens_pos, Is, size_is, sign, sign_is, nought}
use Rattle.floats.specs.Round.{rounds_same}
use Rattle.floats.specs.Exact.{rounds_fits}
use Rattle.floats.specs.Unique.{rounds_to, nought_fits}
use Rattle.floats.specs.Ops.{
  unlike_swap,
  unlike_plus,
  mul_is,
  div_is,
  add_commutes,
  mul_commutes,
  add_rounds,
}

-- a fraction that is 0 rounds to the zero of its sign
pub round_nought : (f : Format) (s : Bool) (a c : ℕ) → 0 < c → a ≡ 0 → round f s a c ≡ nought s
round_nought f s a c C e = rounds_to f _ a c tt (nought_fits f s) C (omega arith)

none : (x : Float) → Is x 0 0 1 → num x ≡ 0
none x h = omega (arith, size_is x 0 0 1 0 h (inl refl))

-- ---- a zero times what is finite, and over what is no zero
pub times_zero : (f : Format) (x y : Float) → T (finite x) → Is y 0 0 1
    → mul f x y ≡ nought (unlike (sign x) (sign y))
times_zero f x y p h =
    mul_is f x y p h.0
    ∙ round_nought f _ _ _ (dens_pos x y) (rw (none y h) (omega arith))

pub zero_times : (f : Format) (x y : Float) → Is x 0 0 1 → T (finite y)
    → mul f x y ≡ nought (unlike (sign x) (sign y))
zero_times f x y h p =
    mul_commutes f x y ∙ times_zero f y x p h ∙ ap nought (unlike_swap _ (sign x))

pub zero_over : (f : Format) (x y : Float) → Is x 0 0 1 → 0 < num y
    → div f x y ≡ nought (unlike (sign x) (sign y))
zero_over f x y h N =
    div_is f x y h.0 N
    ∙ round_nought f _ _ _ (mul-pos N (den_pos x)) (rw (none x h) (omega arith))

-- ---- a zero in a sum: the value of the other term, which fits, stays
pub add_zero : (f : Format) (x y : Float) (p n c : ℕ) → 0 < c → T (fits f x) → Is x p n c
    → Is y 0 0 1 → Is (add f x y) p n c
add_zero f x y p n c C t h k =
    rounds_fits f _ x p n c C
    (rounds_same f _ _ _ (c * 1) p n c (mul-pos C (lit< tt)) C
    (add_rounds f x y p n c 0 0 1 C (lit< tt) h k) (omega arith)) t h

pub zero_add : (f : Format) (x y : Float) (q m d : ℕ) → 0 < d → T (fits f y) → Is x 0 0 1
    → Is y q m d → Is (add f x y) q m d
zero_add f x y q m d D t h k = rw add_commutes (add_zero f y x q m d D t k h)

-- ---- one
pub times_one : (f : Format) (x y : Float) → T (finite x) → T (fits f x) → Is y 1 0 1
    → mul f x y ≡ x
times_one f x y p t h =
    rw (mul_is f x y p h.0, sign_is y 1 0 1 h (lit< tt), unlike_plus)
    (rounds_to f x _ _ p t (dens_pos x y)
    (omega (arith, ap (num x * den x *◌) (size_is y 1 0 1 1 h (inl refl)))))

pub one_times : (f : Format) (x y : Float) → Is x 1 0 1 → T (finite y) → T (fits f y)
    → mul f x y ≡ y
one_times f x y h p t = mul_commutes f x y ∙ times_one f y x p t h
