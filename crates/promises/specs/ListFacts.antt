-- The list that tones a byte: what holds of every list in a set holds of it, and its table is the
-- one that tones the byte.
use Rattle.std.specs.Prelude.{ℕ, zero, suc, ◌<◌, ◌≡◌, List}
use Rattle.std.proofs.Math.Option.{Option, none, some}
use Rattle.lists.specs.Tabulate.{get_d_tabulate}
use Rattle.lists.specs.Test.{by_test}
use Rattle.points.specs.declared.Point.{Point}
use Rattle.tables.specs.declared.CurveInterpolation.{CurveInterpolation}
use Rattle.tables.specs.Kinds.{carried_of}
use Rattle.tables.specs.KindLaws.{spline_number}
use Rattle.tables.specs.Tables.{entry_of}
use Rattle.table_facts.specs.Through.{NoSpline}
use Rattle.sets.specs.declared.Colour.{Colour}
use Rattle.sets.specs.declared.Colour.TheVariants.{Red, Green, Blue}
use Rattle.sets.specs.Sets.{View, colour_of, own_or_master}
use Rattle.sets.specs.Lists.{OfColour, EveryList}
use Rattle.rows.specs.Bytes.{through}
use Rattle.formats.specs.declared.PixelFormat.{PixelFormat}
use Rattle.formats.specs.Formats.{by_colour}
use Rattle.pictures.specs.Runs.{list_for, tables_of, toned_by}
use Rattle.pictures.specs.RunLaws.{tables_of_lem}
use Rattle.promises.specs.Words.{IsSpline}

-- what holds of every list
module _ (P : List Point → Type 0) where
  own_or_master_lem : (o : Option (List Point)) (m : List Point) → OfColour P o → P m
      → P (own_or_master o m)
  own_or_master_lem none m own master = master
  own_or_master_lem (some l) m own master = own

  of_colour_lem : (v : View) → EveryList P v → (c : Colour) → OfColour P (colour_of c v)
  of_colour_lem v every Red = every.red
  of_colour_lem v every Green = every.green
  of_colour_lem v every Blue = every.blue

  of_list : (f : PixelFormat) (v : View) → EveryList P v → (c : Colour) → P (list_for f v c)
  of_list f v every c =
      by_test (by_colour f)
      (λ t. rw t
      (own_or_master_lem (colour_of c v) v.master (of_colour_lem v every c) every.master))
      (λ t. rw t every.master)

  pub of_toning_list : (f : PixelFormat) (v : View) → EveryList P v → (j : ℕ) → P (toned_by f v j)
  of_toning_list f v every zero = of_list f v every Red
  of_toning_list f v every (suc zero) = of_list f v every Green
  of_toning_list f v every (suc (suc j)) = of_list f v every Blue

-- the table that tones a channel is that of its list
pub toning_table : (f : PixelFormat) (v : View) (j x : ℕ) → x < 256
    → through (tables_of f v j) x ≡ entry_of v.kind (toned_by f v j) x
toning_table f v j x h =
    rw (tables_of_lem f v j) (get_d_tabulate 256 (entry_of v.kind (toned_by f v j)) x 0 h)

-- a kind that is no spline, in the words of the table facts
pub no_spline : (k : CurveInterpolation) → (IsSpline k → ⊥) → (carried_of k).tension < 256
    → NoSpline k
no_spline k other byte = record { form = λ e. other (spline_number k e); tension = byte }
