-- The second derivatives of the three splines are finite: every row of their systems has one of the
-- shapes that ThomasBounds asks for, as knots are at least 1 apart.
use Rattle.std.specs.Prelude.{◌≡◌, refl, false, List, T, ltb, leb, eqb, Float}
use Rattle.std.proofs.Common.{sym, inl, inr, le_trans, le_of_eq, zero-add, mul-le-mul_right, arith, lit<, lit≤, pow_pos}
use Prim.Native.Nat.{ℕ, zero, suc, ◌+◌, ◌-◌, ◌*◌, ◌^◌, ◌≤◌, ◌<◌, zero-le}
use borrow.Author.Tests.{eq-eqb, ne_eqb, eqb-false, ltb-false}
use Rattle.std.specs.Float.Ieee.{lt, of_bits}
use Rattle.std.specs.Float.Ieee.Positive.{num, den, through}
use Rattle.floats.specs.Notation.{◌⊕◌, ◌⊖◌, ◌⊗◌}
use Rattle.floats.specs.Value.{Is, Apart, absolute, size_is}
use Rattle.floats.specs.Exact.{rep_whole}
use Rattle.floats.specs.Small.{dyadic_sub, whole_add, whole_mul}
use Rattle.floats.specs.Bound.{AtMost, at_most_is, at_most_more, whole_most, mul_most}
use Rattle.floats.specs.Within.{Within, Beyond, within_of, beyond_of, widen}
use Rattle.floats.specs.Within.{within_zero, within_cond, within_test}
use Rattle.floats.specs.Frac.{total}
use Rattle.floats.specs.Segment.{width_is, width_some}
use Rattle.single.specs.Constants.{𝟎, 𝟐, 𝟔, pico, 𝟎-is, 𝟐-is}
use Rattle.single.specs.Rules.{guarded_quotient}
use Rattle.segments.specs.Straight.{slope}
use Rattle.segments.specs.Rows.{Rows, piece}
use Rattle.spline.specs.declared.thomas.Row.{Row}
use Rattle.spline.specs.declared.Segment.{Segment}
use Rattle.spline.specs.declared.thomas.Swept.{Swept}
use Rattle.spline.specs.declared.SplineBoundary.{SplineBoundary}
use Rattle.spline.specs.declared.SplineBoundary.TheVariants.{Natural, Clamped, NotAKnot}
use Rattle.spline.specs.Segments.{segment_at, between}
use Rattle.spline.specs.Thomas.{sweep, none, swept, swept_row, solution}
use Rattle.spline.specs.Second.{inner, not_a_knot_first, not_a_knot_last}
use Rattle.spline.specs.Second.{parabola, recovered, framed, row_count, row_at, unknown}
use Rattle.spline.specs.Second.{natural_at, ends_recovered, not_a_knot_at, second_at}
use Rattle.table_facts.specs.Sizes.{most_within, two_within, knot_small}
use Rattle.table_facts.specs.Sizes.{plus, minus, times, divided}
use Rattle.table_facts.specs.SlopeBounds.{slope_within}
use Rattle.table_facts.specs.ThomasBounds.{Steady, Bounded, InnerRow, steady_bounded}
use Rattle.table_facts.specs.ThomasBounds.{inner_first, inner_next, clamped_first_lem}
use Rattle.table_facts.specs.ThomasBounds.{clamped_last_lem, free_first, free_over, solution_most}

-- ---- from exact values
-- p / c, p being at least b
pub least_beyond : (x : Float) (p c b k : ℕ) → 0 < c → Is x p 0 c → b ≤ p → 2 ^ k * c ≤ b * 2 ^ 149
    → Beyond x k
least_beyond x p c b k C i l h =
    beyond_of i.0
    (through (2 ^ k) p (num x) _ c (den x) C (le_trans h (mul-le-mul_right _ l))
    (le_of_eq (sym (size_is x p 0 c p i (inl (sym (zero-add p)))))))

six_within : Within 𝟔 152
unfolding of_bits
six_within = within_of tt (lit≤ tt)

-- |p² - q²|, as a product
apart_most : (x y : Float) (p q : ℕ) → p < 256 → q < 256 → Is x p 0 1 → Is y q 0 1
    → AtMost ((p - q + (q - p)) * (p + q)) 1 ((x ⊖ y) ⊗ (x ⊕ y))
apart_most x y p q P Q i j =
    let d = p - q + (q - p) in
    let small : d ≤ 256 = omega arith in
    let less = dyadic_sub x y p 0 q 0 0 (lit≤ tt) (omega arith) (omega arith) i j in
    let apart : Apart (p + 0) (0 + q) d =
    elim (total p q) [ inl h ↦ inr (omega arith) | inr h ↦ inl (omega arith) ] in
    mul_most (rep_whole _ (omega (arith, mul-le-mul_right (p + q) small)))
    (at_most_is (x ⊖ y) _ _ 1 d (lit< tt) less apart)
    (whole_most (x ⊕ y) (whole_add x y p q (omega arith) i j)) (le_of_eq refl)

-- where a divisor is known, a guard takes nothing from the bound
quotient_within : {p d : Float} {j l : ℕ} → Within p j → Beyond d l → T (leb (j + 149 - l) 276)
    → Within (guarded_quotient p d pico) (j + 149 - l)
unfolding guarded_quotient
quotient_within {d = d} v w small =
    within_cond (lt (absolute d) pico) (within_zero 𝟎 _ 𝟎-is) (divided v w small)

-- ---- segments: w is the width, a whole number from 1 to 255
pub record Sized (s : Segment) (w : ℕ) : Type 0 where
  pub some : 0 < w
  pub byte : w < 256
  pub width : Is s.width w 0 1
  pub secant : Within s.secant 178

pub width_within : {s : Segment} {w : ℕ} → Sized s w → Within s.width 157
width_within {w = w} z = most_within _ w 1 256 157 (lit< tt) z.width (omega arith) (lit≤ tt)

double_is : {s : Segment} {w : ℕ} → Sized s w → Is (𝟐 ⊗ s.width) (2 * w) 0 1
double_is {w = w} z = whole_mul 𝟐 _ 2 w (omega arith) 𝟐-is z.width

-- right-hand sides
right_most : {x : Float} {k : ℕ} → Within x k → k ≤ 190 → AtMost (2 ^ 41) 1 x
right_most w h = at_most_more (2 ^ 41) 1 (lit< tt) (lit≤ tt) (widen 190 w h).most

six_most : {x y : Float} → Within x 178 → Within y 178 → AtMost (2 ^ 41) 1 (𝟔 ⊗ (x ⊖ y))
six_most v w = right_most (times six_within (minus v w tt) tt) (lit≤ tt)

-- ---- two segments, of the widths u and v
module _ {p q : Segment} {u v : ℕ} (y : Sized p u) (z : Sized q v) where
  sum_is : Is (p.width ⊕ q.width) (u + v) 0 1
  sum_is = whole_add _ _ u v (omega arith) y.width z.width

  inner_row : InnerRow u v (inner p q)
  inner_row = record {
    a = y.width;
    b = whole_mul 𝟐 _ 2 (u + v) (omega arith) 𝟐-is sum_is;
    c = z.width;
    d = six_most z.secant y.secant;
  }

  bend_within : Within (q.secant ⊖ p.secant) 179
  bend_within = minus z.secant y.secant tt

  -- what the end rows of not-a-knot have on the diagonal, where f + g is the other factor, ..
  free_diagonal : (f g : Float) (c d : ℕ) → c < 512 → d < 512 → Is f c 0 1 → Is g d 0 1
      → Is ((p.width ⊕ q.width) ⊗ (f ⊕ g)) ((u + v) * (c + d)) 0 1
  free_diagonal f g c d C D i j =
      let small : u + v ≤ 512 = omega arith in
      whole_mul _ _ (u + v) (c + d) (omega (arith, mul-le-mul_right (c + d) small)) sum_is
      (whole_add f g c d (omega arith) i j)

  -- .. and on the right
  free_right : {x : Float} → Within x 157 → AtMost (2 ^ 41) 1 (x ⊗ 𝟔 ⊗ (q.secant ⊖ p.secant))
  free_right w = right_most (times (times w six_within tt) bend_within tt) (lit≤ tt)

  free_starts : (s : Swept) → Steady (sweep 0 s (not_a_knot_first p q))
  free_starts s =
      free_first _ s y.some y.byte z.some z.byte
      (free_diagonal _ _ u (2 * v) (omega arith) (omega arith) y.width (double_is z))
      (apart_most _ _ v u z.byte y.byte z.width y.width) (free_right (width_within z))

  free_ends : {s : Swept} (k : ℕ) → Steady s → Bounded (sweep (suc k) s (not_a_knot_last p q))
  free_ends k s =
      free_over k _ y.some y.byte z.some z.byte (omega arith) (omega arith)
      (apart_most _ _ u v y.byte z.byte y.width z.width)
      (free_diagonal _ _ (2 * u) v (omega arith) (omega arith) (double_is y) z.width) 𝟎-is
      (free_right (width_within y)) s

  -- what not-a-knot makes of three knots, and of the unknowns f and g
  parabola_within : Within (parabola p q) 179
  parabola_within =
      let width : Beyond (p.width ⊕ q.width) 150 =
      least_beyond _ (u + v) 1 2 150 (lit< tt) sum_is (omega arith) (lit≤ tt) in
      quotient_within (times two_within bend_within tt) width tt

  recovered_within : {f g : Float} → Within f 215 → Within g 215 → Within (recovered p q f g) 225
  unfolding recovered
  recovered_within vf vg =
      let width = least_beyond _ v 1 1 149 (lit< tt) z.width z.some (lit≤ tt) in
      let ratio = quotient_within (width_within y) width tt in
      plus vf (times ratio (minus vf vg tt) tt) tt

-- ---- a system of m rows: the first, those between, and the last where that is not the first
record System (rows : ℕ → Row) (m : ℕ) : Type 0 where
  few : m ≤ 256
  first : 0 < m → (s : Swept) → Steady (sweep 0 s (rows 0))
  next : (k : ℕ) → suc k + 1 < m → {s : Swept} → Steady s → Steady (sweep (suc k) s (rows (suc k)))
  last : (k : ℕ) → suc k + 1 ≡ m → {s : Swept} → Steady s → Bounded (sweep (suc k) s (rows (suc k)))

module _ {rows : ℕ → Row} {m : ℕ} (e : System rows m) where
  swept_steady : (k : ℕ) → k + 1 < m → Steady (swept_row rows k)
  unfolding swept_row swept
  swept_steady zero l = e.first (omega arith) none
  swept_steady (suc k) l = e.next k l (swept_steady k (omega arith))

  swept_bounded : (k : ℕ) → k + 1 ≡ m → Bounded (swept_row rows k)
  unfolding swept_row swept
  swept_bounded zero l = steady_bounded (e.first (omega arith) none)
  swept_bounded (suc k) l = e.last k l (swept_steady k (omega arith))

  solution_within : (k : ℕ) → k < m → Within (solution rows m k) 215
  solution_within k l =
      let most = solution_most rows m e.few swept_steady swept_bounded k l in
      record { most = at_most_more _ _ (pow_pos 149) (lit≤ tt) most }

not_first : (k : ℕ) → eqb (suc k) 0 ≡ false
not_first k = ne_eqb (suc k) 0 (omega arith)

-- the ends, and what is between them
framed_within : (n : ℕ) (first last : Float) (inside : ℕ → Float) (i : ℕ) → i < n
    → Within first 225 → Within last 225 → ((j : ℕ) → j < n - 2 → Within (inside j) 215)
    → Within (framed n first last inside i) 225
unfolding framed
framed_within n first last inside i l v w each =
    within_test (eqb i 0) v (λ later. within_test (eqb (i + 1) n) w (λ more.
    widen 225 (each (i - 1) (omega (arith, eqb-false))) (lit≤ tt)))

-- what the rule that carries slopes asks of them
abbrev pub SlopesWithin : SplineBoundary → Type 0
SlopesWithin Natural = Unit {0}
SlopesWithin (Clamped s0 s1) = Within s0 178 × Within s1 178
SlopesWithin NotAKnot = Unit {0}

-- ---- knots in rows
module _ {xs ys : List Float} {n : ℕ} {a h : ℕ → ℕ} (r : Rows xs ys n a h) where
  -- their x are distinct bytes, so there are at most 256
  place_most : (i : ℕ) → i < n → i ≤ a i
  place_most zero l = zero-le
  place_most (suc i) l =
      omega (arith, place_most i (omega arith), r.rising i (suc i) (omega arith) l)

  knots_few : n ≤ 256
  knots_few = omega (arith, place_most (n - 1) (omega arith))

  pub sized : (i : ℕ) → i + 1 < n → Sized (segment_at xs ys i) (a (i + 1) - a i)
  unfolding segment_at between slope
  sized i l = record {
    some = width_some (piece r i l);
    byte = omega (arith, (piece r i l).last);
    width = width_is (piece r i l);
    secant = slope_within (knot_small r i (omega arith)) (knot_small r (i + 1) l);
  }

  -- an inner row between the segments i and j, in any place but the first
  inner_at : (i j k : ℕ) → i + 1 < n → j + 1 < n → {s : Swept} → Steady s
      → Steady (sweep (suc k) s (inner (segment_at xs ys i) (segment_at xs ys j)))
  inner_at i j k l m w =
      let y = sized i l in
      let z = sized j m in
      inner_next k y.some y.byte z.some z.byte (inner_row y z) w

  -- the rows of each boundary rule
  system : (e : SplineBoundary) → SlopesWithin e → System (row_at xs ys n e) (row_count e n)
  unfolding row_at
  system Natural slopes = record {
    few = omega (arith, knots_few);
    first = λ some s.
        let y = sized 0 (omega arith) in
        let z = sized 1 (omega arith) in
        inner_first s y.some y.byte z.some z.byte (inner_row y z);
    next = λ k l w. inner_at (suc k) _ k (omega arith) (omega arith) w;
    last = λ k l w. steady_bounded (inner_at (suc k) _ k (omega arith) (omega arith) w);
  }
  system (Clamped s0 s1) slopes = record {
    few = knots_few;
    first = λ some s.
        let z = sized 0 (omega arith) in
        clamped_first_lem _ s z.some z.byte (double_is z) z.width
        (six_most z.secant slopes.0);
    next = λ k l w.
        rw (not_first k, ne_eqb (suc k + 1) n (omega arith))
        (inner_at _ (suc k) k (omega arith) l w);
    last = λ k l w.
        let y = sized (suc k - 1) (omega arith) in
        rw (not_first k, eq-eqb _ n l)
        (clamped_last_lem k _ y.some y.byte y.width (double_is y) 𝟎-is
        (six_most slopes.1 y.secant) w);
  }
  system NotAKnot slopes = record {
    few = omega (arith, knots_few);
    first = λ some s. free_starts (sized 0 (omega arith)) (sized 1 (omega arith)) s;
    next = λ k l w.
        rw (not_first k, ne_eqb (suc k + 3) n (omega arith))
        (inner_at (suc k) _ k (omega arith) (omega arith) w);
    last = λ k l w.
        rw (not_first k, eq-eqb (suc k + 3) n (omega arith))
        (free_ends (sized (suc k) (omega arith)) (sized _ (omega arith)) k w);
  }

  unknown_within : (e : SplineBoundary) → SlopesWithin e → (k : ℕ) → k < row_count e n
      → Within (unknown xs ys n e k) 215
  unfolding unknown
  unknown_within e slopes = solution_within (system e slopes)

  -- not-a-knot with at least 4 knots
  ends_within : 3 < n → (i : ℕ) → i < n → Within (ends_recovered xs ys n i) 225
  unfolding ends_recovered
  ends_within four i l =
      let each = unknown_within NotAKnot tt in
      framed_within n _ _ _ i l
      (recovered_within (sized 0 (omega arith)) (sized 1 (omega arith)) (each 0 (omega arith))
      (each 1 (omega arith)))
      (recovered_within (sized (n - 2) (omega arith)) (sized (n - 3) (omega arith))
      (each (n - 3) (omega arith)) (each (n - 4) (omega arith))) each

  -- the second derivatives: at most 2 ^ 76 in size, which is 2 ^ 225 units
  pub second_within : (e : SplineBoundary) → SlopesWithin e → (i : ℕ) → i < n
      → Within (second_at xs ys n e i) 225
  unfolding second_at natural_at not_a_knot_at
  second_within Natural slopes i l =
      let end = within_zero 𝟎 225 𝟎-is in
      framed_within n 𝟎 𝟎 _ i l end end (unknown_within Natural slopes)
  second_within (Clamped s0 s1) slopes i l =
      widen 225 (unknown_within (Clamped s0 s1) slopes i l) (lit≤ tt)
  second_within NotAKnot slopes i l = within_test (ltb n 3) (within_zero 𝟎 225 𝟎-is) (λ few.
      let three : 3 ≤ n = ltb-false n 3 few in
      let middle = parabola_within (sized 0 (omega arith)) (sized 1 (omega arith)) in
      within_test (eqb n 3) (widen 225 middle (lit≤ tt)) (λ more.
      ends_within (omega (arith, eqb-false)) i l))
