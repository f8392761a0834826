-- A value of the format is known by its sign and its fraction, so a fraction that it has rounds
-- to it and to nothing else.
use Rattle.std.specs.Prelude.{◌≡◌, refl, ℕ, ◌+◌, ◌-◌, ◌*◌, ◌/◌, ◌^◌, ◌<◌, Bool, true, false, cond, T}
use Rattle.std.proofs.Common.{sym, ap, ap₂, ◌∙◌, arith}
use Rattle.std.proofs.Math.Nat.{eq_of_mul-eq-mul_right}
use lib.Ieee.{
  Float,
  nan,
  inf,
  fin,
  Format,
  prec,
  low,
  hid,
  up,
  down,
  size,
  round,
  fits,
  to_bits,
  of_bits,
}
use Rattle.std.specs.Float.Ieee.Fits.{down_pos, round-fits}
use Rattle.std.specs.Float.Ieee.Exact.{HasValue}
use Rattle.std.specs.Float.Ieee.Bits.{of_bits-to_bits}
use Rattle.std.specs.Float.Ieee.Nearest.{div_same}
use Rattle.std.specs.Float.Ieee.Scale.{finite, round_same}
use Rattle.std.specs.Float.Ieee.Positive.{num, den, den_pos}
use Rattle.floats.specs.Value.{top, bot, sign, nought}
use Rattle.floats.specs.Round.{Rounds, over, under}
use Rattle.floats.specs.Exact.{fits_rep, round_rep}

-- x / u and y / w are both a / c
cross : (x y u w a c l : ℕ) → 0 < c → x * c ≡ a * u → y * c ≡ a * w → x * l * w ≡ y * l * u
cross x y u w a c l C h k =
    let e : x * w ≡ y * u =
    eq_of_mul-eq-mul_right c C (x * w) (y * u) (omega (arith, ap (◌* w) h, ap (◌* u) k)) in
    omega (arith, ap (◌* l) e)

-- the bit pattern of n smallest values with the sign s
abbrev pattern : Format → Bool → ℕ → ℕ
pattern f s n = cond s (lib.Ieee.top f) 0 + (size n - prec f) * hid f + n / 2 ^ (size n - prec f)

same_bits : (f : Format) (x y : Float) (s : Bool) (a c : ℕ) → 0 < c → HasValue x s a c
    → HasValue y s a c → to_bits f x ≡ to_bits f y
unfolding to_bits
same_bits f nan y s a c C v w = absurd v
same_bits f (inf t) y s a c C v w = absurd v
same_bits f (fin t m e) nan s a c C v w = absurd w
same_bits f (fin t m e) (inf u) s a c C v w = absurd w
same_bits f (fin t m e) (fin u n d) s a c C v w =
    ap₂ (pattern f) (v.0 ∙ sym w.0)
    (div_same _ _ _ _ (down_pos e) (down_pos d)
    (cross (m * up e) (n * up d) (down e) (down d) a c (2 ^ low f) C v.1 w.1))

pub value_unique : (f : Format) (x y : Float) (s : Bool) (a c : ℕ) → 0 < c → T (fits f x)
    → T (fits f y) → HasValue x s a c → HasValue y s a c
    → x ≡ y
value_unique f x y s a c C p q v w =
    sym (of_bits-to_bits f x p) ∙ ap (of_bits f) (same_bits f x y s a c C v w) ∙ of_bits-to_bits f y q

-- ---- a fraction that a value of the format has rounds to that value, with the sign kept
pub round_own : (f : Format) (x : Float) → T (finite x) → T (fits f x)
    → round f (sign x) (num x) (den x) ≡ x
round_own f nan p t = absurd p
round_own f (inf s) p t = absurd p
round_own f (fin s m e) p t =
    value_unique f _ _ s _ _ (down_pos e) (round-fits f s _ _) t
    (round_rep f s _ _ (down_pos e) (fits_rep f _ tt t)) (refl, refl)

pub rounds_to : (f : Format) (x : Float) (a c : ℕ) → T (finite x) → T (fits f x) → 0 < c
    → a * den x ≡ num x * c → round f (sign x) a c ≡ x
rounds_to f x a c p t C h = round_same f _ a c _ _ C (den_pos x) h ∙ round_own f x p t

pub rounds_own : (f : Format) (x : Float) → T (finite x) → T (fits f x)
    → Rounds f x (top x) (bot x) (den x)
rounds_own f nan p t = absurd p
rounds_own f (inf s) p t = absurd p
rounds_own f (fin false m e) p t = over (m * up e) (omega arith) (sym (round_own f _ p t))
rounds_own f (fin true m e) p t = under (m * up e) (omega arith) (sym (round_own f _ p t))

-- ---- zeros are values of every format
pub nought_fits : (f : Format) (s : Bool) → T (fits f (nought s))
unfolding fits
nought_fits f s = tt
