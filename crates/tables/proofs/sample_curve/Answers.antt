-- `tables::sample_curve`: the samples drawn through the knots of a list are its fine table.
use Rattle.std.proofs.Common.{◌≡◌, List, ℕ, Float}
use Rattle.lists.specs.Tabulate.{tabulate}
use Rattle.points.specs.declared.Point.{Point}
use Rattle.points.specs.declared.knot_rows.Knots.{Knots}
use Rattle.points.specs.Knots.{given_knots, KnotsOf}
use Rattle.tables.specs.declared.CurveInterpolation.{CurveInterpolation}
use Rattle.sampling.specs.declared.Form.{Form}
use Rattle.tables.specs.Kinds.{form_of, knot_value_row}
use Rattle.sampling.specs.Pieces.{height_at, sampled}
use Rattle.tables.specs.Tables.{unclamped_at, sample_of, fine_table}
use Rattle.tables.proofs.sample_curve.Goals.{Start}
use Rattle.tables.proofs.sample_curve.Goals as goal

-- ---- what the knots give
table : (l : List Point) {k : Knots} → KnotsOf (given_knots l) k → (kind : CurveInterpolation) (S : ℕ) {form : Form} {ms new : List Float}
    → form ≡ form_of kind → ms ≡ knot_value_row kind k.xs k.ys k.count
    → new ≡ tabulate S (sampled (height_at form k.xs k.ys ms k.count) S)
    → new ≡ fine_table kind l S
unfolding sample_of unclamped_at
table l rows kind S f m e = rw (f, m, rows.xs, rows.ys, rows.count) at e

pub returns : goal.returns
returns c =
    table _ c.given_knots-knots.ensures _ _ c.form_of.ensures c.knot_values.ensures c.fill.ensures
