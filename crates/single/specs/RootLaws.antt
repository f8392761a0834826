-- What the square root of a float is: the root of a positive float by squares, its sign, special
-- values, and a float just below a power of four, where `Rooted` needs the binade.
use Rattle.std.specs.Prelude.{◌≡◌, refl, Bool, true, false, cond, ℤ, pos, negsuc, T, ltb, Float}
use Rattle.std.proofs.Common.{sym, ap, ◌∙◌, le_trans, le_of_lt, lt_of_not-le, mul-le-mul_right, not-le_of_lt, le_of_suc-le-suc, mul-one, mul-lt-mul_of_pos_right, mul_right_comm, zero-lt-suc, arith, lit<, lit≤, pow_pos, pow-add, pow_mono}
use Rattle.std.proofs.Math.Path.{subst}
use Prim.Native.Nat.{ℕ, zero, suc, ◌+◌, ◌-◌, ◌*◌, ◌/◌, ◌^◌, ◌≤◌, ◌<◌}
use Rattle.std.proofs.Math.Nat.{mul_assoc, div-eq_of_eq-mul_left}
use Rattle.std.specs.Float.{nan, inf, fin, binary32}
use Rattle.std.specs.Float.Ieee.{up, down, odd, units, fits, of_bits}
use Rattle.std.specs.Float.Ieee.Fits.{down_pos}
use Rattle.floats.specs.Value.{sign}
use Rattle.floats.specs.Exact.{fits_parts}
use Rattle.single.specs.Root.{nearest_root, root_of_units, root_of}
use Rattle.single.specs.RootUnits.{dropped, part, Rooted, units_rooted}

-- ---- the root of a positive float
-- 2 ^ e in units, where it is a whole number of them
in_units : (e : ℤ) → down e ≤ 2 ^ 149 → (i : ℕ) × (up e * 2 ^ 149 ≡ 2 ^ i * down e)
in_units (pos j) h = (j + 149, rw (mul-one, pow-add))
in_units (negsuc j) h =
    (149 - suc j, sym (part 149 (suc j) (le_of_suc-le-suc (lt_of_not-le more))))
  where
    more : 150 ≤ suc j → ⊥
    more g = not-le_of_lt (lit< {m = 2 ^ 149} {n = 2 ^ 150} tt) (le_trans (pow_mono g) h)

module _ (m : ℕ) (e : ℤ) (f : T (fits binary32 (fin false (suc m) e))) where
  what_fits : (suc m < 2 ^ 24) × (down e ≤ 2 ^ 149) × (suc m * up e < 2 ^ 128 * down e)
  what_fits = fits_parts binary32 false m e f

  abbrev i : ℕ
  i = (in_units e what_fits.1).0

  exact : suc m * up e * 2 ^ 149 ≡ suc m * 2 ^ i * down e
  exact = rw (mul_assoc (suc m) (up e), (in_units e what_fits.1).1, ← mul_assoc (suc m))

  units_are : suc m * up e * 2 ^ 149 / down e ≡ suc m * 2 ^ i
  units_are = div-eq_of_eq-mul_left (down_pos e) exact

  below : suc m * 2 ^ i < 2 ^ 277
  below = lt_of_not-le
      (λ (g : 2 ^ 277 ≤ suc m * 2 ^ i). not-le_of_lt small (mul-le-mul_right (down e) g))
    where
      small : suc m * 2 ^ i * down e < 2 ^ 277 * down e
      small = rw (exact, mul_right_comm (2 ^ 128)) at
          (mul-lt-mul_of_pos_right what_fits.2 (pow_pos 149))

  -- The root of a positive float x is correctly rounded, `Rooted n`, n being x's units times 2 ^
  -- 149. `rooted_unique`: no other float is.
  pub root_is : Rooted (suc m * up e * 2 ^ 149 / down e * 2 ^ 149) (root_of (fin false (suc m) e))
  unfolding root_of
  root_is =
      subst (λ (n : ℕ). Rooted n (root_of_units n))
      (sym (ap (λ (x : ℕ). x * 2 ^ 149) units_are ∙ joined))
      (units_rooted (suc m) (i + 149) (zero-lt-suc m) what_fits.0 (omega arith) 213 most
      (lit≤ tt))
    where
      joined : suc m * 2 ^ i * 2 ^ 149 ≡ suc m * 2 ^ (i + 149)
      joined = rw (pow-add 2 i, ← mul_assoc (suc m))

      most : suc m * 2 ^ (i + 149) ≤ 2 ^ 213 * 2 ^ 213
      most = rw joined at (mul-le-mul_right (2 ^ 149) (le_of_lt below))

-- ---- its sign
odd_unsigned : (d q k l : ℕ) → T (sign (odd d false q k l)) → ⊥
unfolding odd
odd_unsigned d zero k l t = t
odd_unsigned d (suc q) k l t = t

units_unsigned : (q k : ℕ) → T (sign (units binary32 false q k)) → ⊥
unfolding units
units_unsigned q k = go (ltb (q * 2 ^ k) (2 ^ 277))
  where
    go : (b : Bool) → T (sign (cond b (odd 25 false q k 149) (inf false))) → ⊥
    go true t = odd_unsigned 25 q k 149 t
    go false t = t

-- no root is negative but -0, which is the root of -0
pub root_signed : (x : Float) → T (sign (root_of x)) → (e : ℤ) × (x ≡ fin true 0 e)
unfolding root_of root_of_units
root_signed nan t = absurd t
root_signed (inf true) t = absurd t
root_signed (inf false) t = absurd t
root_signed (fin true zero e) t = (e, refl)
root_signed (fin false zero e) t = absurd t
root_signed (fin true (suc m) e) t = absurd t
root_signed (fin false (suc m) e) t =
    let n = suc m * up e * 2 ^ 149 / down e * 2 ^ 149 in
    absurd (units_unsigned (nearest_root n (dropped n)) (dropped n) t)

-- ---- special values
pub root_of_nan : root_of nan ≡ nan
unfolding root_of
root_of_nan = refl

pub root_of_infinity : root_of (inf false) ≡ inf false
unfolding root_of
root_of_infinity = refl

pub root_of_minus_infinity : root_of (inf true) ≡ nan
unfolding root_of
root_of_minus_infinity = refl

-- a zero keeps its sign
pub root_of_zero : (s : Bool) (e : ℤ) → root_of (fin s 0 e) ≡ fin s 0 e
unfolding root_of
root_of_zero s e = refl

pub root_of_negative : (m : ℕ) (e : ℤ) → root_of (fin true (suc m) e) ≡ nan
unfolding root_of
root_of_negative m e = refl

-- ---- why `Rooted` has the binade
-- the float just below 1 is its own root; 1 is not (proofs/Binade), though it is half of its own,
-- wider, step away
abbrev pub below_one : Float
below_one = of_bits binary32 0x3f7f_ffff

-- its units times 2 ^ 149, as in `root_is`
abbrev pub below_one_units : ℕ
below_one_units = 16777215 * up (negsuc 23) * 2 ^ 149 / down (negsuc 23) * 2 ^ 149

pub root_of_below_one : root_of below_one ≡ below_one
unfolding root_of of_bits
root_of_below_one = refl

pub below_one_rooted : Rooted below_one_units below_one
unfolding of_bits fits
below_one_rooted = rw root_of_below_one at (root_is 16777214 (negsuc 23) tt)
