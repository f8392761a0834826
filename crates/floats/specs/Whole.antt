-- Whole numbers as floats. From 2 ^ 23 to 2 ^ 24 single precision has the whole numbers and no
-- others. So for x from 0 to 2 ^ 22 the sum x + 2 ^ 23, less 2 ^ 23, is the whole number
-- nearest to x, and never −0.
use Rattle.std.specs.Prelude.{◌≡◌, refl, ℕ, zero, suc, ◌+◌, ◌-◌, ◌*◌, ◌^◌, ◌≤◌, ◌<◌, true, false, ℤ, pos, negsuc, T, Float}
use Rattle.std.proofs.Common.{sym, ap, lt_of_not-le, le_of_mul-le-mul_right, mul-one, mul-pos, mul-le-mul_right, arith, lit<, lit≤, pow_pos}
use Rattle.std.proofs.Math.Nat.{le_dest, add-sub_cancel_left, pow-succ'}
use Rattle.std.specs.Float.{nan, inf, fin, binary32}
use Rattle.std.specs.Float.Ieee.{fits, up, down, round, of_int}
use Rattle.std.specs.Float.Ieee.Fits.{down_pos, sub-fits, add-fits, of_int-fits}
use Rattle.std.specs.Float.Ieee.Back.{whole_unique, round_whole}
use Rattle.std.specs.Float.Ieee.Scale.{finite}
use Rattle.std.specs.Float.Ieee.Positive.{den}
use Rattle.floats.specs.Notation.{◌⊕◌, ◌⊖◌}
use Rattle.floats.specs.Signed.{Le}
use Rattle.floats.specs.Value.{
  top,
  bot,
  Is,
  own,
  is_of_pos,
  of_le,
  le_of_is,
  unsigned,
  unsigned_value,
}
use Rattle.floats.specs.Round.{round_unsigned}
use Rattle.floats.specs.Exact.{fits_parts}
use Rattle.floats.specs.Ops.{add_rounds}
use Rattle.floats.specs.Sign.{add_unsigned, sub_unsigned}
use Rattle.floats.specs.Mono.{rounds_between}
use Rattle.floats.specs.Small.{whole_sub}
use Rattle.floats.specs.Error.{rounds_near, is_near}

-- ---- from 2 ^ 23 on there is no fraction
few : (m p : ℕ) → 0 < p → m < 2 ^ 24 → 2 ^ 23 * (2 * p) ≤ m * 1 → ⊥
few m p P h k = omega arith

whole_from : (m : ℕ) (e : ℤ) → T (fits binary32 (fin false m e)) → 2 ^ 23 * down e ≤ m * up e
    → (q : ℕ) × (m * up e ≡ q * down e)
whole_from m (pos k) t h = (m * 2 ^ k, sym (mul-one _))
whole_from zero (negsuc k) t h =
    absurd (few 0 (2 ^ k) (pow_pos k) (lit< tt) (rw (pow-succ' 2 k) at h))
whole_from (suc m) (negsuc k) t h =
    absurd (few _ (2 ^ k) (pow_pos k) (fits_parts _ false m (negsuc k) t).0
    (rw (pow-succ' 2 k) at h))

pub big_whole : (x : Float) → T (fits binary32 x) → T (finite x)
    → Le (2 ^ 23) 0 1 (top x) (bot x) (den x) → (r : ℕ) × Is x (2 ^ 23 + r) 0 1
big_whole nan t f h = absurd f
big_whole (inf s) t f h = absurd f
big_whole (fin true m e) t f h = absurd (omega (arith, down_pos e))
big_whole (fin false m e) t f h =
    let w = whole_from m e t (omega arith) in
    let r = le_dest (le_of_mul-le-mul_right {m = 2 ^ 23} {n = w.0} {k = down e} (omega arith)
    (down_pos e)) in
    (r.0, (tt, omega (arith, w.1, ap (◌* down e) r.1)))

-- ---- whole numbers as floats
pub whole_is : (n : ℕ) → n ≤ 2 ^ 24 → Is (of_int binary32 (pos n)) n 0 1
unfolding of_int
whole_is n h = is_of_pos (round binary32 false n 1) n 1 (round_whole binary32 false n h)

whole_float : (z : Float) (k : ℕ) → k ≤ 2 ^ 24 → T (fits binary32 z) → T (unsigned z) → Is z k 0 1
    → z ≡ of_int binary32 (pos k)
unfolding of_int
whole_float z k l t u h =
    whole_unique _ z _ false k t (of_int-fits _ (pos k)) (unsigned_value z k 1 u h)
    (round_whole binary32 false k l)

whole_unsigned : (k : ℕ) → T (unsigned (of_int binary32 (pos k)))
unfolding of_int
whole_unsigned k = round_unsigned binary32 k 1

pub whole_less : (a b : ℕ) → b ≤ a → a < 2 ^ 24
    → of_int binary32 (pos a) ⊖ of_int binary32 (pos b) ≡ of_int binary32 (pos (a - b))
whole_less a b h l =
    let x = of_int binary32 (pos a) in
    let y = of_int binary32 (pos b) in
    let p = whole_is a (omega arith) in
    let q = whole_is b (omega arith) in
    whole_float (x ⊖ y) (a - b) (omega arith) (sub-fits _ x y)
    (sub_unsigned _ x y p.0 q.0 (whole_unsigned a) (whole_unsigned b)
    (le_of_is y x b 0 1 a 0 1 (lit< tt) (lit< tt) q p (omega arith))) (whole_sub x y a b h l p q)

-- ---- the two sums
-- 2 ^ 23
abbrev pub big : Float
big = fin false 1 (pos 23)

-- t is a whole number, at most a half away from a / d
pub record Whole (a d : ℕ) (t : Float) : Type 0 where
  pub whole : ℕ
  pub float : t ≡ of_int binary32 (pos whole)
  pub low : 2 * whole * d ≤ 2 * a + d
  pub high : 2 * a ≤ 2 * whole * d + d

small : (a d r : ℕ) → 0 < d → a ≤ 4194304 * d
    → 2 * (8388608 + r) * d ≤ 2 * a + 2 * (8388608 * d) + d → 8388608 + r < 16777216
small a d r D h k = lt_of_not-le (λ l. clash (mul-le-mul_right d l))
  where
    clash : 16777216 * d ≤ (8388608 + r) * d → ⊥
    clash l = omega arith

pub nearest_whole_lem : (m : ℕ) (e : ℤ) → m * up e ≤ 2 ^ 22 * down e
    → Whole (m * up e) (down e) (fin false m e ⊕ big ⊖ big)
nearest_whole_lem m e h =
    let a = m * up e in
    let d = down e in
    let x = fin false m e in
    let s = x ⊕ big in
    let D = down_pos e in
    let C : 0 < d * 1 = mul-pos D (lit< tt) in
    let rounds = add_rounds _ x big a 0 d _ 0 1 D (lit< tt) (own x tt) (tt, refl) in
    let between =
    rounds_between binary32 big s (fin false 1 (pos 24)) (a * 1 + 2 ^ 23 * d) _ (d * 1) C
    (unfold fits in tt) (unfold fits in tt) tt tt rounds (omega arith) (omega arith) in
    let w = big_whole s (add-fits _ x big) between.0
    (of_le big s tt between.0 between.1) in
    let r = w.0 in
    let near =
    is_near s _ 0 1 _ _ (d * 1) _ _ w.1
    (rounds_near s _ _ (d * 1) 24 (lit≤ tt) C rounds (omega arith) (omega arith)).1 in
    let l : 2 ^ 23 + r < 2 ^ 24 = small a d r D h (omega arith) in
    let value : Is (s ⊖ big) r 0 1 =
    rw (add-sub_cancel_left _ r) at
    (whole_sub s big _ (2 ^ 23) (omega arith) l w.1 (tt, refl)) in
    record {
      whole = r;
      float =
          whole_float _ r (omega arith) (sub-fits _ s big)
          (sub_unsigned _ s big between.0 tt (add_unsigned _ x big tt tt tt tt) tt between.1)
          value;
      low = omega arith;
      high = omega arith;
    }
