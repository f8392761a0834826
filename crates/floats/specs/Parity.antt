-- Whether a float's significand is even. A float of q * 2 ^ k smallest values, q having the
-- format's digits, is even or odd as q is.
use Rattle.std.specs.Prelude.{◌≡◌, ◌↔◌, ℕ, suc, ◌+◌, ◌-◌, ◌*◌, ◌/◌, ◌%◌, ◌^◌, ◌≤◌, ◌<◌, Bool, true, false, not, cond, T}
use Rattle.std.proofs.Common.{sym, ap, ◌∙◌, le_antisymm, lt_of_not-le, le_of_mul-le-mul_right, mul_assoc, mul-le-mul_right, mul-div_cancel, pow-suc, arith, pow-add, pow_pos, shl_lt}
use Rattle.std.proofs.Math.Nat.{mul-mod_left}
use Rattle.std.proofs.Math.Decide.{dec_le}
use Rattle.std.proofs.Math.Arith.{lt_of_le-ne}
use Rattle.std.proofs.Math.Pow.{pow-lt}
use lib.Ieee.{Float, nan, inf, fin, Format, binary32, binary64, prec, low, hid, size}
use lib.Ieee.{neg, to_bits}
use Rattle.std.specs.Float.Ieee.Digits.{back, size-le, size_reaches}
use Rattle.std.specs.Float.Ieee.Fits.{two, down_pos}
use Rattle.std.specs.Float.Ieee.Exact.{HasValue}
use Rattle.std.specs.Float.Ieee.Scale.{finite}
use Rattle.floats.specs.Closest.{size_above}

-- the significand's last digit is the last bit of the pattern
abbrev pub Even : Format → Float → Type 0
Even f x = to_bits f x % 2 ≡ 0

-- ---- a sign and k steps in front of the digits q change nothing
abbrev pattern : Format → Bool → ℕ → ℕ → ℕ
pattern f s k q = cond s (lib.Ieee.top f) 0 + k * hid f + q

same_parity : (f : Format) (s : Bool) (k q : ℕ) → pattern f s k q % 2 ≡ 0 ↔ q % 2 ≡ 0
same_parity binary32 true k q = omega arith
same_parity binary32 false k q = omega arith
same_parity binary64 true k q = omega arith
same_parity binary64 false k q = omega arith

pub even_neg : (f : Format) (x : Float) → T (finite x) → Even f x → Even f (neg x)
unfolding neg to_bits
even_neg f nan t h = absurd t
even_neg f (inf s) t h = absurd t
even_neg f (fin s m e) t h = (same_parity f (not s) _ _).1 ((same_parity f s _ _).0 h)

in_units : (n d q : ℕ) → 0 < d → n ≡ q * d → n / d ≡ q
in_units n d q D e = ap (◌/ d) e ∙ mul-div_cancel q D

-- ---- the p leading digits of q * 2 ^ k
double : (m n : ℕ) → m ≡ n * 2 → m % 2 ≡ 0
double m n e = ap (◌% 2) e ∙ mul-mod_left n 2

power_double : (p : ℕ) → 0 < p → 2 ^ p ≡ 2 ^ (p - 1) * 2
power_double p P =
    let e : p ≡ suc (p - 1) = omega arith in ap (2 ^◌) e ∙ pow-suc 2 (p - 1)

module _ (p q k n : ℕ) (P : 2 ≤ p) (most : q ≤ 2 ^ p) (is : n ≡ q * 2 ^ k) where
  abbrev dropped : ℕ
  dropped = size n - p

  quotient : (w : ℕ) → n ≡ w * 2 ^ dropped → n / 2 ^ dropped ≡ w
  quotient w e = in_units n _ w (pow_pos dropped) e

  -- with fewer than k digits dropped they end in q's digits and zeros
  fewer : dropped ≤ k → n / 2 ^ dropped ≡ q * 2 ^ (k - dropped)
  fewer h = quotient _ (is ∙ rw (mul_assoc, ← pow-add, back k dropped h))

  -- with more, q is 2 ^ p
  carried : k < dropped → n / 2 ^ dropped ≡ 2 ^ (p - 1)
  carried l =
      let large : 2 ^ p * 2 ^ k ≤ n = rw (← pow-add) (size_reaches n (p + k) (omega arith)) in
      let least : 2 ^ p ≤ q = le_of_mul-le-mul_right (rw is at large) (pow_pos k) in
      let all : n ≡ 2 ^ (p + k) = rw (is, pow-add 2 p k, le_antisymm most least) in
      let s : size n ≤ suc (p + k) =
      size-le n (suc (p + k)) (rw all (pow-lt {i = p + k} (omega arith))) in
      let j : p + k ≡ p - 1 + dropped = omega arith in
      quotient _ (all ∙ ap (2 ^◌) j ∙ pow-add 2 (p - 1) dropped)

  leading_even : q % 2 ≡ 0 → n / 2 ^ dropped % 2 ≡ 0
  leading_even even = elim (dec_le dropped k) [
    | yes h ↦ double _ _ (fewer h ∙ twice _)
    | no h ↦ double _ _ (carried (lt_of_not-le h) ∙ power_double (p - 1) (omega arith))
  ]
    where
      twice : (t : ℕ) → q * t ≡ q / 2 * t * 2
      twice t = let e : q ≡ q / 2 * 2 = omega arith in omega (arith, ap (◌* t) e)

  -- an odd q that has all p digits, or has none dropped, is what is left
  leading_odd : (0 < k → 2 ^ (p - 1) ≤ q) → q % 2 ≡ 1 → n / 2 ^ dropped ≡ q
  leading_odd least odd = quotient q (is ∙ ap (λ x. q * 2 ^ x) (sym same))
    where
      clash : q ≡ 2 ^ p → ⊥
      clash e = let even = double q _ (e ∙ power_double p (omega arith)) in omega arith

      few : size n ≤ p + k
      few = size-le n (p + k) (rw is (shl_lt p k (lt_of_le-ne most clash)))

      many : 0 < k → p - 1 + k < size n
      many K = size_above n _ (rw (pow-add 2 (p - 1) k, is) (mul-le-mul_right (2 ^ k) (least K)))

      same : dropped ≡ k
      same =
          elim (dec_le 1 k) [
            | yes K ↦ omega (arith, few, many K)
            | no K ↦ omega
                (arith, few, lt_of_not-le K)
          ]

-- ---- a float of q * 2 ^ k smallest values
module _ (f : Format) (s : Bool) (q k : ℕ) (most : q ≤ 2 ^ prec f) where
  pub units_even : (z : Float) → HasValue z s (q * 2 ^ k) (2 ^ low f) → q % 2 ≡ 0 → Even f z
  unfolding to_bits
  units_even nan h e = absurd h
  units_even (inf t) h e = absurd h
  units_even (fin t m i) h e =
      (same_parity f t _ _).1
      (leading_even _ q k _ (two f) most (in_units _ _ _ (down_pos i) h.1) e)

  pub units_odd : (z : Float) → HasValue z s (q * 2 ^ k) (2 ^ low f)
      → (0 < k → 2 ^ (prec f - 1) ≤ q)
      → q % 2 ≡ 1 → Even f z → ⊥
  unfolding to_bits
  units_odd nan h least odd e = absurd h
  units_odd (inf t) h least odd e = absurd h
  units_odd (fin t m i) h least odd e =
      let last = leading_odd _ q k _ (two f) most (in_units _ _ _ (down_pos i) h.1) least odd in
      omega (arith, rw last at ((same_parity f t _ _).0 e))
