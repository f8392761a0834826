-- Document 02, U3, "Slopes decoded by a product": "multiply by 1/256 and by one half .. so every
-- result keeps its bits". The contracts cite document 01's quotients, as they did before; here are
-- the products that the code has, and that they give the same: of any run of the functions that
-- decode a slope and that evaluate a spline, and of every sample of the three splines.
-- P8 as a product is in Marked of the crate `examples`.
use Rattle.std.specs.Prelude.{◌≡◌, refl, cond, List, ℕ, ◌+◌, ℤ, Float}
use Rattle.std.proofs.Common.{sym, ap, ◌∙◌}
use Rattle.std.specs.Float.Ieee.{binary32, of_int}
use Rattle.floats.specs.Notation.{◌⊗◌, ◌⊘◌}
use Rattle.single.specs.Constants.{𝟏/𝟐𝟓𝟔, ½, 𝟐, 𝟐𝟓𝟔}
use Rattle.single.specs.Rules.{clamped}
use Rattle.single.specs.Products.{times_half, times_256th}
use Rattle.points.specs.declared.Point.{Point}
use Rattle.points.specs.declared.Knot.{Knot}
use Rattle.points.specs.Knots.{too_thin}
use Rattle.spline.specs.declared.SplineBoundary.{SplineBoundary}
use Rattle.spline.specs.declared.SplineBoundary.TheVariants.{Natural, Clamped, NotAKnot}
use Rattle.spline.specs.Segments.{
  first_coefficient,
  second_coefficient,
  third_coefficient,
  polynomial_from,
  spline_piece,
  slope_of,
}
use Rattle.spline.specs.Second.{second_at}
use Rattle.tables.specs.declared.CurveInterpolation.TheVariants.{
  NaturalCubic,
  ClampedCubic,
  NotAKnotCubic,
}
use Rattle.tables.specs.Tables.{sample_of}
use Rattle.promises.specs.Results.{sample_in, spline_by}
use Rattle.promises.specs.Demand2 as Demand2

-- ---- "Take out the division by 256 where a slope is decoded": `clamped_slope`
abbrev pub slope_by_product : ℤ → Float
slope_by_product q = of_int binary32 q ⊗ 𝟏/𝟐𝟓𝟔

pub slope_kept : (q : ℤ) {r : Float} → r ≡ slope_of q
    → (r ≡ slope_by_product q) × (r ≡ of_int binary32 q ⊘ 𝟐𝟓𝟔)
unfolding slope_of
slope_kept q call = (call ∙ sym (times_256th _), call)

-- ---- "and the division by 2 in the spline evaluation": `second_coefficient`, whatever float the
-- second derivative m is
pub half_kept : (m : Float) {r : Float} → r ≡ second_coefficient m → (r ≡ m ⊗ ½) × (r ≡ m ⊘ 𝟐)
half_kept m call = (call ∙ sym (times_half m), call)

-- and `spline_piece`, the evaluation itself
abbrev pub piece_by_product : Knot → Knot → Float → Float → Float → Float
piece_by_product a b ma mb x =
    cond (too_thin a.x b.x) a.y
    (polynomial_from a (first_coefficient a b ma mb) (ma ⊗ ½) (third_coefficient a b ma mb) x)

pub piece_kept : (a b : Knot) (ma mb x : Float) {r : Float} → r ≡ spline_piece a b ma mb x
    → r ≡ piece_by_product a b ma mb x
unfolding spline_piece
piece_kept a b ma mb x call = rw (times_half ma) call

-- ---- "every result keeps its bits": sample v of S of the curve of the list l
module _ (l : List Point) (S v : ℕ) where
  abbrev pub spline_by_product : SplineBoundary → Float
  spline_by_product edge =
      let s = sample_in l S v in
      let second : ℕ → Float = second_at s.xs s.ys s.count edge in
      clamped (piece_by_product s.left s.right (second s.segment) (second (s.segment + 1))
      s.position)

  by_product : (edge : SplineBoundary) → spline_by l S v edge ≡ spline_by_product edge
  by_product edge = ap clamped (piece_kept _ _ _ _ _ refl)

  pub natural_kept : sample_of NaturalCubic l S v ≡ spline_by_product Natural
  natural_kept = Demand2.natural_cubic l S v ∙ by_product Natural

  pub clamped_kept : (start end : ℤ)
      → sample_of (ClampedCubic start end) l S v
      ≡ spline_by_product (Clamped (slope_by_product start) (slope_by_product end))
  unfolding slope_of
  clamped_kept start end =
      rw (times_256th (of_int binary32 start), times_256th (of_int binary32 end))
      (Demand2.clamped_cubic l S v start end ∙ by_product _)

  pub not_a_knot_kept : sample_of NotAKnotCubic l S v ≡ spline_by_product NotAKnot
  not_a_knot_kept = Demand2.not_a_knot_cubic l S v ∙ by_product NotAKnot
