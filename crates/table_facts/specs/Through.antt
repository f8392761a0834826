-- All ten kinds: every tangent and second derivative is finite, and so is every sample of both
-- tables. The seven that are no splines: where a sample is at a kept point's x, it is the point's
-- height, in the fine table exactly and in the byte table rounded.
use Rattle.std.specs.Prelude.{◌≡◌, refl, true, false, ℕ, ◌*◌, ◌≤◌, ◌<◌, T, replicate, Float}
use mathlib.Core.List.{List, Memᴰ}
use Rattle.std.proofs.Common.{arith, lit<}
use Rattle.std.proofs.Math.ListN.{length}
use Rattle.std.specs.Float.{nan}
use Rattle.std.specs.Float.Ieee.Scale.{finite}
use Rattle.lists.specs.Tabulate.{get_d_filled}
use Rattle.floats.specs.Value.{Is, le_of_is}
use Rattle.floats.specs.Within.{Within}
use Rattle.single.specs.Constants.{𝟎, 𝟐𝟓𝟓, 𝟎-is, 𝟐𝟓𝟓-is}
use Rattle.single.specs.Rules.{clamped}
use Rattle.single.specs.RuleLaws.{clamped_keeps, clamped_finite}
use Rattle.single.specs.ByteLaws.{byte_256ths}
use Rattle.points.specs.declared.Point.{Point}
use Rattle.points.specs.Points.{rounded, highest, kept}
use Rattle.points.specs.Knots.{knots, x_row, y_row, at}
use Rattle.points.specs.Order.{All, Proper, IsKept, all_mem}
use Rattle.points.specs.Kept.{kept_is_kept}
use Rattle.segments.specs.SegmentLaws.{InRange}
use Rattle.segments.specs.Samples.{sample_256, sample_4096}
use Rattle.spline.specs.declared.SplineBoundary.{SplineBoundary}
use Rattle.spline.specs.declared.SplineBoundary.TheVariants.{Natural, Clamped, NotAKnot}
use Rattle.spline.specs.Segments.{slope_of}
use Rattle.spline.specs.Second.{second_at}
use Rattle.table_facts.specs.StraightLaws.{straight_finite}
use Rattle.table_facts.specs.HermiteKinds.{
  HermiteRule,
  MadeBy,
  catmull_rom,
  cardinal,
  monotone,
  alpha,
  tangent_finite,
  kind_finite,
}
use Rattle.table_facts.specs.SplineBounds.{SlopesWithin, second_within}
use Rattle.table_facts.specs.SplinePieces.{slope_of_within, spline_within}
use Rattle.table_facts.specs.ListLaws.{straight_at_point, kind_at_point}
use Rattle.tables.specs.declared.CurveInterpolation.{CurveInterpolation}
use Rattle.tables.specs.declared.CurveInterpolation.TheVariants.{
  Linear,
  CatmullRom,
  MonotoneCubic,
  MonotoneCubicBox,
  NaturalCubic,
  CentripetalCatmullRom,
  ChordalCatmullRom,
  Cardinal,
  ClampedCubic,
  NotAKnotCubic,
}
use Rattle.sampling.specs.declared.Form.TheVariants.{Cubic, Spline}
use Rattle.tables.specs.Kinds.{carried_of, LegalKind, form_of, knot_value_at, knot_value_row}
use Rattle.sampling.specs.Pieces.{piece_height, height_at, sampled}
use Rattle.tables.specs.Tables.{unclamped_at, sample_of, entry_of}
use Rattle.table_facts.specs.Given.{sample_x, sample_x_is, fine_x_is, given_rows}

-- none of document 01's "Splines (4, 8, 9)"; a tension is a byte, which is said of Cardinal alone
pub record NoSpline (k : CurveInterpolation) : Type 0 where
  pub form : form_of k ≡ Spline → ⊥
  pub tension : (carried_of k).tension < 256

-- how k is drawn: by straight pieces, by cubic ones with tangents by one of the Hermite rules, or
-- by a spline's with second derivatives by a boundary rule
data Drawn (k : CurveInterpolation) : Type 0 where
  lines : k ≡ Linear → Drawn k
  cubics : form_of k ≡ Cubic → HermiteRule (knot_value_at k) → Drawn k
  splines : form_of k ≡ Spline → (rule : SplineBoundary) → (LegalKind k → SlopesWithin rule)
      → knot_value_at k ≡ (λ xs ys n. second_at xs ys n rule) → Drawn k

three_ways : (k : CurveInterpolation) → (carried_of k).tension < 256 → Drawn k
three_ways Linear byte = lines refl
three_ways CatmullRom byte = cubics refl catmull_rom
three_ways MonotoneCubic byte = cubics refl (monotone false)
three_ways MonotoneCubicBox byte = cubics refl (monotone true)
three_ways NaturalCubic byte = splines refl Natural (λ legal. tt) refl
three_ways CentripetalCatmullRom byte = cubics refl (alpha true)
three_ways ChordalCatmullRom byte = cubics refl (alpha false)
three_ways (Cardinal q) byte = cubics refl (cardinal q (omega arith))
three_ways (ClampedCubic start end) byte =
    splines refl (Clamped (slope_of start) (slope_of end))
    (λ legal. (slope_of_within start legal.start, slope_of_within end legal.end)) refl
three_ways NotAKnotCubic byte = splines refl NotAKnot (λ legal. tt) refl

-- a height is not clamped
height_kept : (z : Float) (y : ℕ) → y ≤ highest → Is z y 0 256 → clamped z ≡ z
height_kept z y h i =
    clamped_keeps z (le_of_is 𝟎 z 0 0 1 y 0 256 (lit< tt) (lit< tt) 𝟎-is i (omega arith))
    (le_of_is z 𝟐𝟓𝟓 y 0 256 255 0 1 (lit< tt) (lit< tt) i 𝟐𝟓𝟓-is (omega arith))

module _ (l : List Point) (proper : All Proper l) where
  abbrev ks : List Point
  ks = knots (kept l)

  is_kept : IsKept (kept l)
  is_kept = kept_is_kept l proper

  -- the row of the values at the knots
  abbrev knot_values : CurveInterpolation → List Float
  knot_values k = knot_value_row k (x_row ks) (y_row ks) (length ks)

  made : (k : CurveInterpolation)
      → MadeBy (knot_value_at k) (x_row ks) (y_row ks) (length ks) (knot_values k)
  made k i h = get_d_filled (length ks) _ (replicate 66 𝟎) i nan h

  -- ---- every tangent and every second derivative is finite
  pub knot_values_finite : (k : CurveInterpolation) → LegalKind k → (i : ℕ)
      → i < length (knots (kept l))
      → T (finite (knot_value_at k (x_row (knots (kept l))) (y_row (knots (kept l)))
      (length (knots (kept l))) i))
  knot_values_finite k h i inside = elim (three_ways k h.tension) [
    | lines e ↦ rw e 𝟎-is.0
    | cubics form rule ↦ tangent_finite (given_rows l proper) rule i inside
    | splines form rule slopes second ↦
        rw second (second_within (given_rows l proper) rule (slopes h) i inside).most.fin
  ]

  height_finite : (k : CurveInterpolation) → LegalKind k → (x : Float) → InRange x
      → T (finite (unclamped_at k l x))
  unfolding unclamped_at height_at piece_height
  height_finite k h x p = elim (three_ways k h.tension) [
    | lines e ↦ rw e (straight_finite (given_rows l proper) x p)
    | cubics form rule ↦
        rw form (kind_finite (given_rows l proper) rule (knot_values k) (made k) x p)
    | splines form rule slopes second ↦
        let small : (i : ℕ) → i < length ks → Within (at (knot_values k) i) 225 =
        λ i inside.
        rw (made k i inside, second)
        (second_within (given_rows l proper) rule (slopes h) i inside) in
        rw form (spline_within (given_rows l proper) (knot_values k) small x p).most.fin
  ]

  -- and every sample, so none is NaN: for any S ..
  pub sample_finite : (k : CurveInterpolation) → LegalKind k → (S v : ℕ) → InRange (sample_x S v)
      → T (finite (sample_of k l S v))
  unfolding sample_of sampled
  sample_finite k h S v p =
      clamped_finite (unclamped_at k l (sample_x S v)) (height_finite k h (sample_x S v) p)

  -- .. of 256 samples and of 4,096
  pub byte_sample_finite : (k : CurveInterpolation) → LegalKind k → (v : ℕ) → v < 256
      → T (finite (sample_of k l 256 v))
  byte_sample_finite k h v inside = sample_finite k h 256 v (sample_256 v inside)

  pub fine_sample_finite : (k : CurveInterpolation) → LegalKind k → (v : ℕ) → v < 4096
      → T (finite (sample_of k l 4096 v))
  fine_sample_finite k h v inside = sample_finite k h 4096 v (sample_4096 v inside)

  -- ---- through points
  height_through : (k : CurveInterpolation) → NoSpline k → (p : Point) → Memᴰ p (kept l)
      → (x : Float) → Is x p.x 0 1
      → Is (unclamped_at k l x) p.y 0 256
  unfolding unclamped_at height_at piece_height
  height_through k h p m x e = elim (three_ways k h.tension) [
    | lines linear ↦ rw linear (straight_at_point (kept l) is_kept x p m e)
    | cubics form rule ↦
        rw form (kind_at_point (kept l) is_kept rule (knot_values k) (made k) x p m e)
    | splines form rule slopes second ↦ absurd (h.form form)
  ]

  -- for any S: a sample at a kept point's x has the point's height, exactly
  pub sample_through : (k : CurveInterpolation) → NoSpline k → (p : Point) → Memᴰ p (kept l)
      → (S v : ℕ) → Is (sample_x S v) p.x 0 1
      → Is (sample_of k l S v) p.y 0 256
  unfolding sample_of sampled
  sample_through k h p m S v e =
      let i = height_through k h p m (sample_x S v) e in
      rw (height_kept (unclamped_at k l (sample_x S v)) p.y
      (all_mem Proper (kept l) is_kept.proper p m).1 i) i

  -- of 256 samples: the entry at a kept point's x is its height rounded
  pub through_points : (k : CurveInterpolation) → NoSpline k → (p : Point) → Memᴰ p (kept l)
      → entry_of k l p.x ≡ rounded p.y
  unfolding entry_of
  through_points k h p m =
      let b = all_mem Proper (kept l) is_kept.proper p m in
      byte_256ths (sample_of k l 256 p.x) p.y (omega arith)
      (sample_through k h p m 256 p.x (sample_x_is p.x b.0))

  -- and of 4,096: where the point's x is 17 * j, sample 273 * j is its height
  pub fine_through : (k : CurveInterpolation) → NoSpline k → (p : Point) → Memᴰ p (kept l)
      → (j : ℕ) → p.x ≡ 17 * j
      → Is (sample_of k l 4096 (273 * j)) p.y 0 256
  fine_through k h p m j e =
      let b = all_mem Proper (kept l) is_kept.proper p m in
      sample_through k h p m 4096 (273 * j) (rw e (fine_x_is j (omega arith)))
