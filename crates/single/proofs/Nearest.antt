-- What `to_byte` and `floor` go by: x kept to 0..n is a fraction a / d, two sums leave the whole
-- number w nearest to it, and one test says on which side of w, or of w + ½, it lies.
use mathlib.Core.Path.{◌≡◌, refl, sym, ap, ◌∙◌}
use mathlib.Core.Bool.{true, false}
use Prim.Native.Nat.{ℕ, zero, suc, ◌+◌, ◌*◌, ◌/◌, ◌^◌, ◌<◌, ◌≤◌, zero-le}
use native.Mathlib.Nat.{le_refl, le_trans, le_of_suc-le-suc, lt_of_not-le, mul-le-mul_right, div-eq_of_lt-le}
use native.Mathlib.Omega.{arith}
use lib.Dec.{T, le→leb, lit<, lit≤}
use lib.Ieee.{Float, nan, inf, fin, binary32, up, down, is_nan, lt, le, of_int, of_bits, to_unsigned, in_unsigned, in_float}
use lib.Ieee.Back.{unsigned_back}
use lib.Ieee.Fits.{down_pos}
use lib.Ieee.Scale.{finite}
use Rattle.lists.specs.Test.{by_test}
use Rattle.floats.specs.Notation.{◌⊕◌, ◌⊖◌}
use Rattle.floats.specs.Value.{Is, own, unsigned, is_same, is_of_le}
use Rattle.floats.specs.Round.{round_unsigned}
use Rattle.floats.specs.Small.{dyadic_add}
use Rattle.floats.specs.Whole.{nearest_whole_lem}
use Rattle.single.specs.Constants.{𝟎, ½, 𝟐²³, ½-is}
use Rattle.single.specs.Rules.{float, held, whole_by, byte_of, floor_of}
use Rattle.floats.specs.Order.{finite_between, le_numbers, le_of_lt, le_of_not_lt}
use Rattle.single.specs.RuleLaws.{lt_true, lt_false, float_is, float_le, 𝟎-float}
use Rattle.single.specs.ByteLaws.{Rule, whole_float, whole_low, whole_high, byte_nearest, floor_quotient}

-- ---- x kept to 0..top
held_cases : (P : Float → Type 0) (top x : Float)
    → (lt 𝟎 x ≡ false → P 𝟎)
    → (T (lt 𝟎 x) → T (lt x top) → P x)
    → (T (lt 𝟎 x) → lt x top ≡ false → P top)
    → P (held top x)
unfolding held
held_cases P top x low between high =
    by_test (lt 𝟎 x)
    (λ e. by_test (lt x top) (λ g. rw (e, g) (between (rw e tt) (rw g tt))) (λ g. rw (e, g) (high (rw e tt) g)))
    (λ e. rw e (low e))

-- x so kept has x's whole number, by any rule
module _ (rule : ℕ → ℕ → ℕ) (n : ℕ) (R : Rule rule) (small : n ≤ 2 ^ 24) where
  whole_none : (x : Float) → lt 𝟎 x ≡ false → whole_by rule n x ≡ 0
  unfolding whole_by is_nan of_bits
  whole_none nan e = refl
  whole_none (inf s) e = whole_low rule n R (inf s) (le_of_not_lt 𝟎 (inf s) tt tt e)
  whole_none (fin s m d) e = whole_low rule n R (fin s m d) (le_of_not_lt 𝟎 (fin s m d) tt tt e)

  whole_top : (x : Float) → T (lt 𝟎 x) → lt x (float n) ≡ false → whole_by rule n x ≡ n
  whole_top x e g =
      let number = (le_numbers 𝟎 x (le_of_lt 𝟎 x e)).1 in
      let number-too = (le_numbers (float n) (float n) (float_le n n (le_refl n) small)).0 in
      whole_high rule n R small x (le_of_not_lt x (float n) number number-too g)

  pub whole_held : (x : Float) → whole_by rule n (held (float n) x) ≡ whole_by rule n x
  unfolding le of_bits
  whole_held x =
      held_cases (λ (z : Float). whole_by rule n z ≡ whole_by rule n x) (float n) x
      (λ e. whole_low rule n R 𝟎 tt ∙ sym (whole_none x e))
      (λ e g. refl)
      (λ e g. whole_float rule n R n (le_refl n) small ∙ sym (whole_top x e g))

-- ---- b, from 0 to n, is a / d, and w is the whole number nearest to it: the two sums leave it
abbrev pub near : Float → Float
near b = b ⊕ 𝟐²³ ⊖ 𝟐²³

pub record Split (n : ℕ) (b : Float) : Type 0 where
  pub a : ℕ
  pub d : ℕ
  pub w : ℕ
  pub positive : 0 < d
  pub is : Is b a 0 d
  pub most : a ≤ n * d
  pub whole : near b ≡ float w
  pub small : w ≤ n
  pub low : 2 * w * d ≤ 2 * a + d
  pub high : 2 * a ≤ 2 * w * d + d

nearest_small : (n a d w : ℕ) → 0 < d → a ≤ n * d → 2 * w * d ≤ 2 * a + d → w ≤ n
nearest_small n a d w D h l =
    le_of_suc-le-suc (lt_of_not-le (λ (g : suc n ≤ w). omega (arith, mul-le-mul_right d g)))

split : (n : ℕ) → n ≤ 2 ^ 22 → (b : Float) → T (unsigned b) → T (finite b) → T (le b (float n)) → Split n b
unfolding of_bits
split n s nan u f h = absurd f
split n s (inf t) u f h = absurd f
split n s (fin true m e) u f h = absurd u
split n s (fin false m e) u f h =
    let b = fin false m e in
    let a = m * up e in
    let d = down e in
    let l = is_of_le b (float n) a 0 d n 0 1 (own b tt) (float_is n (le_trans s (lit≤ tt))) h in
    let k : a ≤ n * d = omega (arith, l) in
    let t = nearest_whole_lem m e (le_trans k (mul-le-mul_right d s)) in
    record {
      a = a;
      d = d;
      w = t.whole;
      positive = down_pos e;
      is = own b tt;
      most = k;
      whole = t.float;
      small = nearest_small n a d t.whole (down_pos e) k t.low;
      low = t.low;
      high = t.high;
    }

above_zero : (x : Float) → T (lt 𝟎 x) → T (unsigned x)
unfolding lt of_bits
above_zero nan e = absurd e
above_zero (inf true) e = absurd e
above_zero (inf false) e = tt
above_zero (fin true m k) e = absurd e
above_zero (fin false m k) e = tt

module _ (n : ℕ) (s : n ≤ 2 ^ 22) where
  exact : n ≤ 2 ^ 24
  exact = le_trans s (lit≤ tt)

  split_float : (k : ℕ) → k ≤ n → Split n (float k)
  unfolding of_int
  split_float k h =
      split n s (float k) (round_unsigned binary32 k 1) (float_is k (le_trans h exact)).0 (float_le k n h exact)

  split_between : (x : Float) → T (lt 𝟎 x) → T (lt x (float n)) → Split n x
  unfolding of_bits
  split_between x e g =
      let below = le_of_lt x (float n) g in
      let number = finite_between 𝟎 x (float n) tt (float_is n exact).0 (le_of_lt 𝟎 x e) below in
      split n s x (above_zero x e) number below

  pub held_split : (x : Float) → Split n (held (float n) x)
  held_split x =
      held_cases (Split n) (float n) x
      (λ e. rw 𝟎-float (split_float 0 zero-le))
      (split_between x)
      (λ e g. split_float n (le_refl n))

-- ---- the cast of a whole number back is exact
pub cast_back : (bits k : ℕ) (t : Float) → k < 2 ^ bits → k ≤ 2 ^ 24 → t ≡ float k
    → T (in_unsigned binary32 bits t) × (to_unsigned bits t ≡ k)
unfolding in_float
cast_back bits k t h l e = rw e (unsigned_back binary32 bits k (le→leb k (2 ^ 24) l) h)

-- ---- to a byte: w where b is below w + ½, which is exact, and w + 1 where it is not
half_above : (w : ℕ) → w ≤ 255 → Is (float w ⊕ ½) (2 * w + 1) 0 2
half_above w h =
    let i = is_same (float w) w 0 1 (2 * w) 0 2 (lit< tt) (float_is w (le_trans h (lit≤ tt))) (omega arith) in
    dyadic_add (float w) ½ (2 * w) 0 1 0 1 (lit≤ tt) (omega arith) (omega arith) i ½-is

module _ {b : Float} (s : Split 255 b) where
  open s use {a, d, w, positive, is, most}

  at_half : Is (near b ⊕ ½) (2 * w + 1) 0 2
  at_half = rw s.whole (half_above w s.small)

  pub byte_here : lt b (near b ⊕ ½) ≡ true → byte_of b ≡ w
  byte_here t =
      let l = (lt_true b (near b ⊕ ½) a 0 d (2 * w + 1) 0 2 positive (lit< tt) is at_half).0 t in
      byte_nearest b a d positive most is ∙ div-eq_of_lt-le (2 * d) (omega (arith, s.low)) (omega (arith, l))

  pub byte_above : lt b (near b ⊕ ½) ≡ false → byte_of b ≡ w + 1
  byte_above t =
      let l = (lt_false b (near b ⊕ ½) a 0 d (2 * w + 1) 0 2 positive (lit< tt) is at_half).0 t in
      byte_nearest b a d positive most is
      ∙ div-eq_of_lt-le (2 * d) (omega (arith, l)) (omega (arith, s.high, positive))

-- ---- the whole part: w where b is not below w, and one less where it is
one_less : (a d w : ℕ) → 2 * w * d ≤ 2 * a + d → a < w * d → a / d + 1 ≡ w
one_less a d zero l h = omega arith
one_less a d (suc v) l h = let e : a / d ≡ v = div-eq_of_lt-le d (omega arith) (omega arith) in omega arith

module _ {b : Float} (s : Split 4094 b) where
  open s use {a, d, w, positive, is, most}

  at_whole : Is (near b) w 0 1
  at_whole = rw s.whole (float_is w (le_trans s.small (lit≤ tt)))

  pub floor_here : lt b (near b) ≡ false → floor_of b ≡ w
  floor_here t =
      let l = (lt_false b (near b) a 0 d w 0 1 positive (lit< tt) is at_whole).0 t in
      floor_quotient b a d positive most is ∙ div-eq_of_lt-le d (omega (arith, l)) (omega (arith, s.high, positive))

  pub floor_before : lt b (near b) ≡ true → floor_of b + 1 ≡ w
  floor_before t =
      let l = (lt_true b (near b) a 0 d w 0 1 positive (lit< tt) is at_whole).0 t in
      ap (◌+ 1) (floor_quotient b a d positive most is) ∙ one_less a d w s.low (omega (arith, l))
