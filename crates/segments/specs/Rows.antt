-- What it means that two rows of floats hold n knots, and what that says of the order of the knots'
-- x. The rows of a kept list are such rows.
use Rattle.std.specs.Prelude.{◌≡◌, List, ℕ, ◌+◌, ◌-◌, ◌≤◌, ◌<◌, T, length, Float}
use Rattle.std.proofs.Common.{ap, ◌∙◌, le_of_eq, arith, lit<}
use Rattle.std.proofs.Math.Decide.{ℕ_discrete}
use Rattle.std.specs.Float.{binary32}
use Rattle.std.specs.Float.Ieee.{fits, le}
use Rattle.floats.specs.Value.{Is, le_of_is}
use Rattle.floats.specs.Order.{above_equal, below_equal}
use Rattle.floats.specs.Segment.{Segment}
use Rattle.single.specs.Constants.{𝟎, 𝟐𝟓𝟓, 𝟎-is, 𝟐𝟓𝟓-is}
use Rattle.points.specs.declared.Point.{Point}
use Rattle.points.specs.Knots.{x_of, y_of, x_row, y_row, at}
use Rattle.points.specs.Order.{Proper, all_at, rising_to}
use Rattle.points.specs.Shape.{Shape}
use Rattle.points.specs.Rows.{x_is, y_is, y_at_lem, height_fits}

-- The first n places of xs and ys hold knots: knot i is at the whole number a i and has the height
-- h i / 256. The x rise strictly from 0 to 255.
pub record Rows (xs ys : List Float) (n : ℕ) (a h : ℕ → ℕ) : Type 0 where
  pub two : 2 ≤ n
  pub start : a 0 ≡ 0
  pub end : a (n - 1) ≡ 255
  pub rising : (i j : ℕ) → i < j → j < n → a i < a j
  pub high : (i : ℕ) → i < n → h i ≤ 65280
  pub x_is : (i : ℕ) → i < n → Is (at xs i) (a i) 0 1
  pub y_is : (i : ℕ) → i < n → Is (at ys i) (h i) 0 256
  pub y_fits : (i : ℕ) → i < n → T (fits binary32 (at ys i))

-- ---- the knots of a kept list
pub rows_of : (ks : List Point) → Shape ks
    → Rows (x_row ks) (y_row ks) (length ks) (x_of ks) (y_of ks)
rows_of ks s = record {
  two = s.span.two;
  start = s.span.start;
  end = s.span.end;
  rising = rising_to ks s.span.rising;
  high = λ i l. (all_at Proper ks s.proper i l).1;
  x_is = λ i l. x_is ks i l s.proper;
  y_is = λ i l. y_is ks i l s.proper;
  y_fits = λ i l. rw (y_at_lem ks i l) (height_fits (y_of ks i));
}

module _ {xs ys : List Float} {n : ℕ} {a h : ℕ → ℕ} (r : Rows xs ys n a h) where
  -- ---- the order of the x
  pub x_most : (i : ℕ) → i < n → a i ≤ 255
  x_most i l = elim (ℕ_discrete i (n - 1)) [
    | yes last ↦ le_of_eq (ap a last ∙ r.end)
    | no other ↦ omega (arith, r.rising i (n - 1) (omega arith) (omega arith), r.end)
  ]

  pub x_le : (i j : ℕ) → i ≤ j → j < n → T (le (at xs i) (at xs j))
  x_le i j l u =
      le_of_is (at xs i) (at xs j) (a i) 0 1 (a j) 0 1 (lit< tt) (lit< tt) (r.x_is i (omega arith))
      (r.x_is j u)
      (elim (ℕ_discrete i j) [
        | yes same ↦ omega (arith, ap a same)
        | no other ↦ omega (arith, r.rising i j (omega arith) u)
      ])

  -- from the first knot to the last
  pub from_first : (x : Float) → T (le 𝟎 x) → T (le (at xs 0) x)
  from_first x l =
      above_equal (at xs 0) 𝟎 x 0 0 1 (lit< tt)
      (rw r.start at (r.x_is 0 (omega (arith, r.two)))) 𝟎-is l

  pub to_last : (x : Float) → T (le x 𝟐𝟓𝟓) → T (le x (at xs (n - 1)))
  to_last x u =
      below_equal (at xs (n - 1)) 𝟐𝟓𝟓 x 255 0 1 (lit< tt)
      (rw r.end at (r.x_is (n - 1) (omega (arith, r.two)))) 𝟐𝟓𝟓-is u

  -- what is at a knot's x
  pub knot_low : (x : Float) (i : ℕ) → Is x (a i) 0 1 → T (le 𝟎 x)
  knot_low x i e = le_of_is 𝟎 x 0 0 1 (a i) 0 1 (lit< tt) (lit< tt) 𝟎-is e (omega arith)

  pub knot_high : (x : Float) (i : ℕ) → i < n → Is x (a i) 0 1 → T (le x 𝟐𝟓𝟓)
  knot_high x i l e =
      le_of_is x 𝟐𝟓𝟓 (a i) 0 1 255 0 1 (lit< tt) (lit< tt) e 𝟐𝟓𝟓-is (omega (arith, x_most i l))

  -- ---- the heights are from 0 to 255
  pub y_low : (i : ℕ) → i < n → T (le 𝟎 (at ys i))
  y_low i l =
      le_of_is 𝟎 (at ys i) 0 0 1 (h i) 0 256 (lit< tt) (lit< tt) 𝟎-is (r.y_is i l) (omega arith)

  pub y_high : (i : ℕ) → i < n → T (le (at ys i) 𝟐𝟓𝟓)
  y_high i l =
      le_of_is (at ys i) 𝟐𝟓𝟓 (h i) 0 256 255 0 1 (lit< tt) (lit< tt) (r.y_is i l) 𝟐𝟓𝟓-is
      (omega (arith, r.high i l))

  -- ---- the segment s as the laws of floats have it
  pub piece : (s : ℕ) → s + 1 < n
      → Segment (at xs s) (at ys s) (at xs (s + 1)) (at ys (s + 1)) (a s) (h s) (a (s + 1))
      (h (s + 1))
  piece s l = record {
    apart = r.rising s (s + 1) (omega arith) l;
    last = x_most (s + 1) l;
    high0 = r.high s (omega arith);
    high1 = r.high (s + 1) l;
    x0_is = r.x_is s (omega arith);
    y0_is = r.y_is s (omega arith);
    x1_is = r.x_is (s + 1) l;
    y1_is = r.y_is (s + 1) l;
  }
