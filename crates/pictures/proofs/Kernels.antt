-- The tables chosen by the code are those of the definition.
use mathlib.Core.Path.{◌≡◌, refl, ◌∙◌}
use mathlib.Core.Bool.{Bool, true, false, cond, ◌&&◌}
use mathlib.Core.List.{List}
use mathlib.Core.Option.{none, some}
use Prim.Native.Nat.{ℕ, ◌*◌}
use Rattle.lists.specs.Tabulate.{filled}
use Rattle.points.specs.declared.Point.{Point}
use Rattle.points.specs.Points.{list_of}
use Rattle.tables.specs.declared.CurveInterpolation.{CurveInterpolation}
use Rattle.tables.specs.Tables.{byte_table}
use Rattle.sets.specs.declared.Channel.{Channel}
use Rattle.sets.specs.declared.Colour.{Colour}
use Rattle.sets.specs.declared.Colour.TheVariants.{Red, Green, Blue}
use Rattle.sets.specs.Sets.{View, colour_of, channel_of, chosen, own_or_master}
use Rattle.rows.specs.Bytes.{three, row_byte}
use Rattle.rows.specs.Rows.{tight_byte, tight_alpha}
use Rattle.formats.specs.declared.PixelFormat.{PixelFormat}
use Rattle.formats.specs.Formats.{bytes_a_pixel, by_colour}
use Rattle.formats.specs.Checks.{Supported}
use Rattle.formats.specs.FormatLaws.{tight}
use Rattle.pictures.specs.Runs.{tables_of, tight_rows}

-- the chosen table of a channel is that of its list
module _ (kind : CurveInterpolation) (c : Channel) (master : List Point) {own m : List ℕ}
    (m-is : m ≡ byte_table kind master) where
  own_or_master_lem : (present : Bool) → (present ≡ true → own ≡ byte_table kind (list_of c.curve))
      → chosen present own m ≡ byte_table kind (own_or_master (cond present (some (list_of c.curve)) none) master)
  own_or_master_lem true built = built refl
  own_or_master_lem false built = m-is

  pub chosen_is : {table : List ℕ} (by : Bool) → (by && c.present ≡ true → own ≡ byte_table kind (list_of c.curve))
      → table ≡ chosen (by && c.present) own m
      → table ≡ byte_table kind (cond by (own_or_master (channel_of c) master) master)
  chosen_is false built e = e ∙ m-is
  chosen_is true built e = e ∙ own_or_master_lem c.present built

-- a channel's table, where `by` says whether colours count
abbrev channel_table : Bool → View → Colour → List ℕ
channel_table by v c = byte_table v.kind (cond by (own_or_master (colour_of c v) v.master) v.master)

-- the kernel's tight rows are the format's
pub tight_rows_by :
    (f : PixelFormat) (v : View) (w h step : ℕ) (plane out : List ℕ) {by : Bool} {p : ℕ} {red green blue new : List ℕ}
    → Supported f → by ≡ by_colour f → p ≡ bytes_a_pixel f
    → red ≡ channel_table by v Red → green ≡ channel_table by v Green → blue ≡ channel_table by v Blue
    → new ≡ filled (h * (w * p)) (tight_byte (w * p) step (row_byte p (tight_alpha p) (three red green blue)) plane) out
    → new ≡ tight_rows f w h step (tables_of f v) plane out
tight_rows_by f v w h step plane out s by-is p-is red-is green-is blue-is e =
    rw (red-is, green-is, blue-is, by-is, p-is, (tight f s).1) at e
