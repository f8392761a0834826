-- The values of a format, and that rounding leaves them as they are: an operation whose exact
-- result is a value of the format is exact.
use Rattle.std.specs.Prelude.{◌≡◌, ℕ, zero, suc, ◌+◌, ◌-◌, ◌*◌, ◌^◌, ◌≤◌, ◌<◌, Bool, true, false, ℤ, pos, negsuc, T, Float}
use Rattle.std.proofs.Common.{ap, inl, inr, le_of_eq, le_of_suc-le-suc, lt_of_lt_of_le, lt_of_le_of_lt, lt_of_not-le, not-le_of_lt, mul_assoc, mul-lt-mul_of_pos_right, zero-mul, one-mul, arith, ltb→lt, leb→le, lit<, lit≤, pow-add, pow_pos, pow_mono, shl_lt}
use Rattle.std.proofs.Math.Nat.{eq_of_mul-eq-mul_right}
use Rattle.std.proofs.Math.Pow.{pow-lt}
use Rattle.std.specs.Float.{nan, inf, fin, Format, binary32}
use Rattle.std.specs.Float.Ieee.{prec, emax, low, up, down, round, fits}
use Rattle.std.specs.Float.Ieee.Digits.{back}
use Rattle.std.specs.Float.Ieee.Fits.{and_l, and_r}
use Rattle.std.specs.Float.Ieee.Exact.{HasValue, round_exact}
use Rattle.std.specs.Float.Ieee.Scale.{finite}
use Rattle.std.specs.Float.Ieee.Positive.{num, den, den_pos}
use Rattle.floats.specs.Value.{Is, is_of_pos, is_of_neg, Apart, size_is}
use Rattle.floats.specs.Round.{Rounds, over, under}

-- a / c is a value of the format: q * 2 ^ j of its smallest values
pub record Rep (f : Format) (a c : ℕ) : Type 0 where
  pub q : ℕ
  pub j : ℕ
  pub small : q < 2 ^ prec f
  pub fine : q * 2 ^ j < 2 ^ (low f + suc (emax f))
  pub same : a * 2 ^ low f ≡ q * 2 ^ j * c

pub rep_zero : (f : Format) (c : ℕ) → Rep f 0 c
rep_zero f c = record {
  q = 0;
  j = 0;
  small = pow_pos _;
  fine = lt_of_le_of_lt (le_of_eq (zero-mul (2 ^ 0))) (pow_pos _);
  same = simp zero-mul;
}

-- a fraction of the same size
pub rep_same : (f : Format) (a c b d : ℕ) → 0 < c → a * d ≡ b * c → Rep f a c → Rep f b d
rep_same f a c b d C e r = record {
  q = r.q;
  j = r.j;
  small = r.small;
  fine = r.fine;
  same = go _ _ r.same;
}
  where
    go : (u w : ℕ) → a * u ≡ w * c → b * u ≡ w * d
    go u w s = eq_of_mul-eq-mul_right c C (b * u) (w * d) (omega (arith, ap (◌* u) e, ap (◌* d) s))

halves : (l i : ℕ) → i ≤ l → 2 ^ (l - i) * 2 ^ i ≡ 2 ^ l
halves l i h = rw (← pow-add, back l i h)

-- binary32 holds a / 2 ^ i for an a below 2 ^ 24, and i up to 149
pub rep_dyadic : (a i : ℕ) → i ≤ 149 → a < 2 ^ 24 → Rep binary32 a (2 ^ i)
rep_dyadic a i h s = record {
  q = a;
  j = 149 - i;
  small = s;
  fine = lt_of_lt_of_le (shl_lt 24 _ s) (pow_mono {j = 277} (omega arith));
  same = rw (mul_assoc, halves 149 i h);
}

-- a whole number below 2 ^ 24
pub rep_whole : (a : ℕ) → a < 2 ^ 24 → Rep binary32 a 1
rep_whole a s = rep_dyadic a 0 (lit≤ tt) s

-- and such a number times a power of two
pub rep_times : (a k : ℕ) → a < 2 ^ 24 → k ≤ 104 → Rep binary32 (a * 2 ^ k) 1
rep_times a k s h = record {
  q = a;
  j = k + 149;
  small = s;
  fine = lt_of_lt_of_le (shl_lt 24 _ s) (pow_mono {j = 277} (omega arith));
  same = rw (pow-add 2 k 149) (same (2 ^ k) (2 ^ 149));
}
  where
    same : (b u : ℕ) → a * b * u ≡ a * (b * u) * 1
    same b u = omega arith

-- and the powers of two up to 2 ^ 276 of its smallest values
pub rep_power : (k : ℕ) → k ≤ 276 → Rep binary32 (2 ^ k) (2 ^ 149)
rep_power k h = record {
  q = 1;
  j = k;
  small = lit< tt;
  fine = rw one-mul (pow-lt {j = 277} (omega arith));
  same = rw one-mul;
}

-- ---- the size of a float that fits is such a value
pub le_of_pow : (i l : ℕ) → 2 ^ i ≤ 2 ^ l → i ≤ l
le_of_pow i l h = le_of_suc-le-suc (lt_of_not-le (λ g. not-le_of_lt (pow-lt g) h))

rep_of : (f : Format) (m : ℕ) (e : ℤ) → m < 2 ^ prec f → down e ≤ 2 ^ low f
    → m * up e < 2 ^ suc (emax f) * down e → Rep f (m * up e) (down e)
rep_of f m (pos k) s h g = record {
  q = m;
  j = k + low f;
  small = s;
  fine = rw (pow-add 2 k _, pow-add 2 _ _)
      (omega (arith, mul-lt-mul_of_pos_right g (pow_pos (low f))));
  same = rw pow-add (omega arith);
}
rep_of f m (negsuc k) s h g = record {
  q = m;
  j = low f - suc k;
  small = s;
  fine =
      rw (pow-add 2 _ _, ← halves _ _ (le_of_pow _ _ h))
      (omega (arith, mul-lt-mul_of_pos_right g (pow_pos (low f - suc k))));
  same = rw (← halves _ _ (le_of_pow _ _ h)) (omega arith);
}

-- what fits has at most `prec` digits, is a whole number of the smallest values, and
-- lies below 2 ^ (emax + 1)
pub fits_parts : (f : Format) (s : Bool) (m : ℕ) (e : ℤ) → T (fits f (fin s (suc m) e))
    → (suc m < 2 ^ prec f) × (down e ≤ 2 ^ low f) × (suc m * up e < 2 ^ suc (emax f) * down e)
unfolding fits
fits_parts f s m e t = search (and_l, and_r, ltb→lt, leb→le)

pub fits_rep : (f : Format) (x : Float) → T (finite x) → T (fits f x) → Rep f (num x) (den x)
fits_rep f nan p t = absurd p
fits_rep f (inf s) p t = absurd p
fits_rep f (fin s zero e) p t = rw zero-mul (rep_zero f _)
fits_rep f (fin s (suc m) e) p t =
    let h = fits_parts f s m e t in rep_of f _ e h.0 h.1 h.2

-- ---- rounding leaves it as it is
pub round_rep : (f : Format) (s : Bool) (a c : ℕ) → 0 < c → Rep f a c
    → HasValue (round f s a c) s a c
round_rep f s a c C r = round_exact f s a c _ _ C r.small r.fine r.same

-- a result whose size is a value of the format is exact
pub rounds_rep : (f : Format) (z : Float) (p n c : ℕ) → 0 < c → Rounds f z p n c
    → ((a : ℕ) → Apart p n a → Rep f a c) → Is z p n c
rounds_rep f z p n c C (over a e i) r =
    let v : Is z a 0 c =
    rw i (is_of_pos (round f false a c) a c (round_rep f false a c C (r a (inl e)))) in
    (v.0, omega (arith, v.1, ap (◌* den z) e))
rounds_rep f z p n c C (under a e i) r =
    let v : Is z 0 a c =
    rw i (is_of_neg (round f true a c) a c (round_rep f true a c C (r a (inr e)))) in
    (v.0, omega (arith, v.1, ap (◌* den z) e))

-- |p - n| is p - n or n - p, and the other is 0
pub rounds_exact : (f : Format) (z : Float) (p n c : ℕ) → 0 < c → Rounds f z p n c → Rep f (p - n) c
    → Rep f (n - p) c → Is z p n c
rounds_exact f z p n c C q r s =
    rounds_rep f z p n c C q (λ a (e : Apart p n a). elim e [
      | inl h ↦ let k : p - n ≡ a = omega arith in rw k at r
      | inr h ↦ let k : n - p ≡ a = omega arith in rw k at s
    ])

-- a result that is the value of a float of the format is exact
pub rounds_fits : (f : Format) (z y : Float) (p n c : ℕ) → 0 < c → Rounds f z p n c → T (fits f y)
    → Is y p n c → Is z p n c
rounds_fits f z y p n c C r t h =
    rounds_rep f z p n c C r
    (λ a e. rep_same f _ _ a c (den_pos y) (size_is y p n c a h e) (fits_rep f y h.0 t))
