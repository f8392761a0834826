-- The cubic piece has the knot's height at either end, whatever its tangents are, if they are
-- finite: there t is 0 or 1 exactly, so one weight is 1 and the others are zeros.
use Rattle.std.specs.Prelude.{ℕ, ◌+◌, ◌<◌, List, T, Float}
use Rattle.std.proofs.Common.{arith, lit<, lit≤}
use Rattle.std.specs.Float.{binary32}
use Rattle.std.specs.Float.Ieee.{fits}
use Rattle.std.specs.Float.Ieee.Scale.{finite}
use Rattle.floats.specs.Notation.{◌⊖◌, ◌⊗◌}
use Rattle.floats.specs.Value.{Is}
use Rattle.floats.specs.Small.{dyadic_sub, dyadic_mul, whole_add, whole_sub, whole_mul}
use Rattle.floats.specs.Position.{part_start, part_end}
use Rattle.floats.specs.Segment.{width_is, at_start, at_end}
use Rattle.floats.specs.Cubic.{left_stays, right_stays}
use Rattle.single.specs.Constants.{𝟏, 𝟐, 𝟏-is, 𝟐-is, 𝟑-is}
use Rattle.points.specs.declared.Knot.{Knot}
use Rattle.points.specs.Knots.{knot_at, at}
use Rattle.segments.specs.Segments.{segment}
use Rattle.segments.specs.Straight.{part}
use Rattle.hermite.specs.Hermite.{hermite}
use Rattle.segments.specs.Rows.{Rows, piece}
use Rattle.table_facts.specs.StraightLaws.{part_plain, at_knots}

-- the cubic piece in the segment s with the tangents of the row ms, at x
abbrev pub cubic_in : List Float → List Float → List Float → ℕ → Float → Float
cubic_in xs ys ms s x = let k = knot_at xs ys s in let m = knot_at xs ys (s + 1) in
    hermite k m (at ms s) (at ms (s + 1)) (part k m x)

-- and in the segment of x
abbrev pub cubic_at : List Float → List Float → List Float → ℕ → Float → Float
cubic_at xs ys ms n x = cubic_in xs ys ms (segment xs n x) x

-- ---- at t = 0 and at t = 1
module _ (a b : Knot) (ma mb t : Float) (w : T (finite (b.x ⊖ a.x))) (fa : T (finite ma))
    (fb : T (finite mb)) where
  pub hermite_start : (n : ℕ) → Is t 0 0 1 → T (fits binary32 a.y) → Is a.y n 0 256
      → T (finite b.y) → Is (hermite a b ma mb t) n 0 256
  unfolding hermite
  hermite_start n e f i g =
      let d : Is (𝟐 ⊗ t) 0 0 1 = whole_mul 𝟐 t 2 0 (lit< tt) 𝟐-is e in
      let u : Is (𝟏 ⊖ t) 1 0 1 = whole_sub 𝟏 t 1 0 (lit≤ tt) (lit< tt) 𝟏-is e in
      let s : Is (t ⊗ t) 0 0 1 = whole_mul t t 0 0 (lit< tt) e e in
      left_stays _ _ _ _ a.y b.y (b.x ⊖ a.x) ma mb
      (whole_mul _ _ 0 1 (lit< tt) (whole_mul _ _ 0 1 (lit< tt) e u) u)
      (dyadic_mul _ _ 0 0 0 1 0 0 (lit≤ tt) (lit< tt) (lit< tt) s
      (dyadic_sub _ _ 0 0 1 0 0 (lit≤ tt) (lit< tt) (lit< tt) e 𝟏-is))
      w fa fb n 0 256 (lit< tt)
      (whole_mul _ _ 1 1 (lit< tt)
      (whole_mul _ _ 1 1 (lit< tt) (whole_add _ _ 1 0 (lit< tt) 𝟏-is d) u) u)
      (whole_mul _ _ 0 3 (lit< tt) s (whole_sub _ _ 3 0 (lit≤ tt) (lit< tt) 𝟑-is d)) f g i

  pub hermite_end : (n : ℕ) → Is t 1 0 1 → T (finite a.y) → T (fits binary32 b.y)
      → Is b.y n 0 256 → Is (hermite a b ma mb t) n 0 256
  unfolding hermite
  hermite_end n e g f i =
      let d : Is (𝟐 ⊗ t) 2 0 1 = whole_mul 𝟐 t 2 1 (lit< tt) 𝟐-is e in
      let u : Is (𝟏 ⊖ t) 0 0 1 = whole_sub 𝟏 t 1 1 (lit≤ tt) (lit< tt) 𝟏-is e in
      let s : Is (t ⊗ t) 1 0 1 = whole_mul t t 1 1 (lit< tt) e e in
      right_stays _ _ _ _ a.y b.y (b.x ⊖ a.x) ma mb
      (whole_mul _ _ 0 0 (lit< tt) (whole_mul _ _ 1 0 (lit< tt) e u) u)
      (whole_mul _ _ 1 0 (lit< tt) s (whole_sub _ _ 1 1 (lit≤ tt) (lit< tt) e 𝟏-is))
      w fa fb n 0 256 (lit< tt)
      (whole_mul _ _ 0 0 (lit< tt)
      (whole_mul _ _ 3 0 (lit< tt) (whole_add _ _ 1 2 (lit< tt) 𝟏-is d) u) u)
      (whole_mul _ _ 1 1 (lit< tt) s (whole_sub _ _ 3 2 (lit≤ tt) (lit< tt) 𝟑-is d)) g f i

-- ---- at the knots of rows
module _ {xs ys : List Float} {n : ℕ} {a h : ℕ → ℕ} (r : Rows xs ys n a h) (ms : List Float)
    (tame : (i : ℕ) → i < n → T (finite (at ms i))) where
  pub cubic_at_knot : (x : Float) (i : ℕ) → i < n → Is x (a i) 0 1
      → Is (cubic_at xs ys ms n x) (h i) 0 256
  cubic_at_knot x i l e =
      at_knots r (λ s. cubic_in xs ys ms s x) x i l e
      (λ s j e.
      let p = piece r s j in
      rw (part_plain r s x j)
      (hermite_start _ _ _ _ _ (width_is p).0 (tame s (omega arith)) (tame (s + 1) j) (h s)
      (part_start (at_start p x e)) (r.y_fits s (omega arith)) p.y0_is p.y1_is.0))
      (λ s j e.
      let p = piece r s j in
      rw (part_plain r s x j)
      (hermite_end _ _ _ _ _ (width_is p).0 (tame s (omega arith)) (tame (s + 1) j) (h (s + 1))
      (part_end (at_end p x e)) p.y0_is.0 (r.y_fits (s + 1) j) p.y1_is))
