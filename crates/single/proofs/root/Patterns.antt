-- The root of a float by its bit pattern b: one law for each way through `sqrt`.
use mathlib.Core.Path.{◌≡◌, refl, sym, ap}
use mathlib.Core.Logic.{inl, inr}
use mathlib.Core.Bool.{Bool, true, false, cond}
use Prim.Native.Nat.{ℕ, zero, suc, ◌+◌, ◌-◌, ◌*◌, ◌/◌, ◌%◌, ◌^◌, ◌≤◌, ◌<◌}
use native.Mathlib.Nat.{
  mod-eq_of_lt,
  mul_assoc,
  mul-one,
  add_comm,
  mul-pos,
  div-eq_of_eq-mul_left,
  eq-or-lt_of_le,
}
use native.Mathlib.Omega.{arith}
use lib.IntN.{ℤ}
use lib.Dec.{eqb}
use lib.Pow.{pow_pos, pow-add}
use lib.Ieee.{Float, nan, inf, fin, binary32, up, down, odd, of_fields, of_bits, is_nan}
use lib.Ieee.Exact.{HasValue, odd_sign}
use lib.Ieee.Fits.{down_pos}
use Rattle.std.proofs.lemmas.Bool.{false≢true}
use borrow.Author.Tests.{le-leb, lt-leb, ne_eqb}
use Rattle.single.specs.Root.{root_of_units, root_of}

-- ---- the test for a NaN
pub nan-root : (x : Float) → is_nan x ≡ true → x ≡ root_of x
unfolding root_of is_nan
nan-root nan e = refl
nan-root (inf s) e = absurd (false≢true e)
nan-root (fin s m d) e = absurd (false≢true e)

-- ---- the root of a float by its value
nonzero : (c : ℕ) (e : ℤ) (a : ℕ) → 0 < a → zero * up e * c ≡ a * down e → ⊥
nonzero c e a p h = omega (arith, mul-pos p (down_pos e))

by_value : (y : Float) (s : Bool) (a : ℕ) → HasValue y s a (2 ^ 149) → 0 < a
    → cond s nan (root_of_units (a * 2 ^ 149)) ≡ root_of y
unfolding root_of
by_value nan s a h p = absurd h
by_value (inf t) s a h p = absurd h
by_value (fin t zero e) s a h p = absurd (nonzero (2 ^ 149) e a p h.1)
by_value (fin t (suc m) e) true a h p = rw h.0
by_value (fin t (suc m) e) false a h p =
    rw h.0 (ap (λ (n : ℕ). root_of_units (n * 2 ^ 149)) (sym (div-eq_of_eq-mul_left (down_pos e) h.1)))

digits-root : (s : Bool) (q k : ℕ) → 0 < q
    → cond s nan (root_of_units (q * 2 ^ k * 2 ^ 149)) ≡ root_of (odd 24 s q k 149)
digits-root s q k p = by_value _ s _ (odd_sign 24 s q k 149) (mul-pos p (pow_pos k))

-- ---- the fields of a pattern
unsigned-fields : (b : ℕ) → b < 2147483648 → of_bits binary32 b ≡ of_fields binary32 false (b / 8388608) (b % 8388608)
unfolding of_bits
unsigned-fields b h = rw (lt-leb 2147483648 b h, mod-eq_of_lt h)

-- ---- the infinity, the NaNs and -0, whose patterns follow each other
minus-zero-root : of_bits binary32 2147483648 ≡ root_of (of_bits binary32 2147483648)
unfolding root_of of_bits
minus-zero-root = refl

top-root : (t : Bool) → cond t (inf false) nan ≡ root_of (cond t (inf false) nan)
unfolding root_of
top-root true = refl
top-root false = refl

pub own_root : (b : ℕ) → 2139095040 ≤ b → b ≤ 2147483648 → of_bits binary32 b ≡ root_of (of_bits binary32 b)
unfolding of_fields
own_root b low high =
    elim (eq-or-lt_of_le high) [
      | inl e ↦ rw e minus-zero-root
      | inr h ↦ let e : b / 8388608 ≡ 255 = omega arith in rw (unsigned-fields b h, e) (top-root (eqb (b % 8388608) 0))
    ]

-- ---- the negative ones
negative-top : (s t : Bool) (y : Float) → nan ≡ root_of y → nan ≡ root_of (cond s (cond t (inf true) nan) y)
unfolding root_of
negative-top true true y h = refl
negative-top true false y h = refl
negative-top false t y h = h

negative-fields : (x t : ℕ) → 0 < x + t → nan ≡ root_of (of_fields binary32 true x t)
unfolding of_fields
negative-fields zero t p = digits-root true t 0 (omega arith)
negative-fields (suc x) t p =
    negative-top (eqb (suc x) 255) (eqb t 0) _ (digits-root true (8388608 + t) x (omega arith))

pub negative-root : (b : ℕ) → 2147483648 < b → b < 2 ^ 32 → nan ≡ root_of (of_bits binary32 b)
unfolding of_bits
negative-root b low high =
    rw (le-leb 2147483648 b (omega arith)) (negative-fields (b % 2147483648 / 8388608) (b % 8388608) (omega arith))

-- ---- the positive ones
pub subnormal-root : (b z : ℕ) → 0 < b → b < 8388608 → b * 2 ^ z < 2 ^ 24 → z ≤ 24
    → root_of_units (b * 2 ^ z % 2 ^ 32 * 2 ^ (24 - z + 125)) ≡ root_of (of_bits binary32 b)
unfolding of_fields
subnormal-root b z low high short most =
    let fits : b * 2 ^ z % 2 ^ 32 ≡ b * 2 ^ z = mod-eq_of_lt (omega arith) in
    let total : z + (24 - z + 125) ≡ 149 = omega arith in
    let field : b / 8388608 ≡ 0 = omega arith in
    rw (fits, mul_assoc b, ← pow-add 2 z, total, unsigned-fields b (omega arith), field, mod-eq_of_lt high)
    (rw mul-one at (digits-root false b 0 low))

pub normal-root : (b : ℕ) → 8388608 ≤ b → b < 2139095040
    → root_of_units ((b % 8388608 + 8388608) * 2 ^ (b / 8388608 + 23 + 125)) ≡ root_of (of_bits binary32 b)
unfolding of_fields
normal-root b low high =
    let x = b / 8388608 - 1 in
    let field : b / 8388608 ≡ suc x = omega arith in
    let power : suc x + 23 + 125 ≡ x + 149 = omega arith in
    let finite = ne_eqb (suc x) 255 (λ e. omega arith) in
    rw (unsigned-fields b (omega arith), field, add_comm (b % 8388608), power, pow-add 2 x, ← mul_assoc, finite)
    (digits-root false (8388608 + b % 8388608) x (omega arith))
