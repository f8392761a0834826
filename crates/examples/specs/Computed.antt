-- What a computation opens, named in this one place: a theorem that unfolds one of these unfolds
-- all that is in its list. Each is another name of the definition that it is equal to.
use Rattle.std.specs.Prelude.{ℕ, List}
use Rattle.std.specs.Float.Ieee.{add, sub, neg, mul, div, lt, of_int, of_bits}
use Rattle.lists.specs.Tabulate.{tabulate, filled}
use Rattle.floats.specs.Value.{absolute}
use Rattle.single.specs.Rules.{clamped, byte_of, guarded_quotient}
use Rattle.single.specs.Root.{root_of}
use Rattle.points.specs.declared.Point.{Point}
use Rattle.points.specs.Points.{rises_from, first_at, kept_below, kept}
use Rattle.points.specs.Knots.{rest, knots, x_at, y_at, x_row, y_row}
use Rattle.segments.specs.Segments.{step, sample_at, seek, segment}
use Rattle.segments.specs.Straight as Straight
use Rattle.hermite.specs.Hermite.{hermite}
use Rattle.segments.specs.Straight.{slope}
use Rattle.tangents.specs.CatmullRom.{catmull_rom_at, looseness, loose_slope, cardinal_at}
use Rattle.monotone.specs.Monotone.{secant_at, mean_at, boxed, circled, adjusted, reached, monotone_at}
use Rattle.chords.specs.Alpha.{chord, spacing, three_terms, alpha_tangent, alpha_at}
use Rattle.spline.specs.Segments.{between, segment_at, first_coefficient, spline_piece, slope_of}
use Rattle.spline.specs.Second.{
  recovered,
  framed,
  row_at,
  unknown,
  natural_at,
  ends_recovered,
  not_a_knot_at,
  second_at,
}
use Rattle.spline.specs.Thomas.{scaled, sweep, swept, swept_row, backward, substituted, solution}
use Rattle.sampling.specs.Pieces.{piece_height, height_at, sampled}
use Rattle.tables.specs.declared.CurveInterpolation.{CurveInterpolation}
use Rattle.tables.specs.Tables.{unclamped_at, sample_of, entry_of}
use Rattle.tables.specs.Kinds.{kind_of}
use Rattle.records.specs.PointLists.{pairs, read_points, read_list}
use Rattle.records.specs.Kinds.{read_kind, read_number, read_carried}
use Rattle.records.specs.Format.{Read, read_fields, read_record}

-- an entry of a byte table
unfoldable pub entry : CurveInterpolation → List Point → ℕ → ℕ
unfolding entry_of sample_of sampled unclamped_at height_at piece_height kept kept_below first_at knots
    rest x_row y_row x_at y_at filled tabulate step sample_at seek segment Straight.part
    Straight.straight
    hermite slope catmull_rom_at looseness loose_slope cardinal_at secant_at mean_at boxed circled
    adjusted reached monotone_at chord spacing three_terms alpha_tangent alpha_at between segment_at
    first_coefficient spline_piece slope_of second_at natural_at not_a_knot_at ends_recovered recovered
    framed unknown row_at solution substituted backward swept_row swept sweep scaled guarded_quotient
    absolute root_of clamped byte_of add sub neg mul div lt of_int of_bits
entry = entry_of

-- what a reader makes of a record
unfoldable pub read : List ℕ → Read
unfolding read_record read_fields read_list read_points pairs read_kind read_number read_carried rises_from
    kind_of
read = read_record
