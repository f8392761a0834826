-- A run of the set call: all that it is given, what it answers and what its outputs hold
-- afterwards, as document 01's sections "Pictures" and "When a call says no" have them. Definitions
-- only.
use Rattle.std.specs.Prelude.{ℕ, zero, suc, ◌*◌, ◌<◌, ◌≡◌, Bool, cond, ◌&&◌, List, ◌++◌, length, get_or, drop, Result, Ok}
use Rattle.std.specs.Result.{result_and}
use Rattle.answers.specs.declared.Refusal.{Refusal}
use Rattle.answers.specs.Numbers.{is_done, Answer}
use Rattle.answers.specs.Checks.{Check, first_refusal}
use Rattle.lists.specs.Tabulate.{filled}
use Rattle.points.specs.declared.Point.{Point}
use Rattle.points.specs.declared.Heights.TheVariants.{Fine}
use Rattle.points.specs.Order.{All, Typed}
use Rattle.tables.specs.Tables.{byte_table}
use Rattle.sets.specs.declared.Colour.{Colour}
use Rattle.sets.specs.declared.Colour.TheVariants.{Red, Green, Blue}
use Rattle.sets.specs.Sets.{View, view_of, colour_of, own_or_master, curve_checks, set_checks}
use Rattle.sets.specs.Lists.{EveryList}
use Rattle.tables.specs.Kinds.{carried_of}
use Rattle.rows.specs.Bytes.{three, row_byte}
use Rattle.rows.specs.Rows.{tight_byte}
use Rattle.formats.specs.declared.PixelFormat.{PixelFormat}
use Rattle.formats.specs.declared.Lengths.{Lengths}
use Rattle.formats.specs.Formats.{bytes_a_pixel, alpha_of, by_colour}
use Rattle.formats.specs.Checks.{chroma_read, picture_checks}
use Rattle.pictures.specs.declared.Job.{Job}
use Rattle.pictures.specs.declared.Steps.{Steps}

-- "A plane is its bytes together with its row step"
pub record PlaneOf : Type 0 where
  pub bytes : List ℕ
  pub step : ℕ

-- the three outputs: of the first plane, of Cb and of Cr
pub record Outputs : Type 0 where
  pub first : List ℕ
  pub cb : List ℕ
  pub cr : List ℕ

-- what is lent to a call: the planes, and the outputs as they were before it
pub record Lent : Type 0 where
  pub plane : PlaneOf
  pub cb : PlaneOf
  pub cr : PlaneOf
  pub outputs : Outputs

-- all that one call of the set call is given
pub record Run : Type 0 where
  pub job : Job
  pub lent : Lent

-- how many bytes each slice holds
abbrev pub held : Lent → Lengths
held l = record {
  plane = length l.plane.bytes;
  cb = length l.cb.bytes;
  cr = length l.cr.bytes;
  out = length l.outputs.first;
  out_cb = length l.outputs.cb;
  out_cr = length l.outputs.cr;
}

-- what follows from the code's types, although ℕ has larger numbers: the plane, the points' x and
-- the tension are `u8`, the points' heights `u16`; past the plane's end `get_or` reads 0
pub record InTypes (r : Run) : Type 0 where
  pub plane : (k : ℕ) → get_or r.lent.plane.bytes k 0 < 256
  pub points : EveryList (All Typed) (view_of r.job.set)
  pub tension : (carried_of r.job.set.interpolation).tension < 256

-- ---- what it is answered
module _ (r : Run) where
  -- "row bytes"
  abbrev pub row_bytes : ℕ
  row_bytes = r.job.width * bytes_a_pixel r.job.format

  -- the bytes of the tight rows
  abbrev pub size : ℕ
  size = r.job.height * row_bytes

  abbrev pub has_chroma : Bool
  has_chroma = chroma_read r.job.format

  -- the checks of the set call: 3, 4 and 20 of the set's lists, then 8 to 13
  abbrev pub checks_of_picture : List Check
  checks_of_picture =
      picture_checks r.job.format r.job.width r.job.height r.job.planes
      r.lent.plane.step (held r.lent)

  abbrev pub run_checks : List Check
  run_checks = set_checks (curve_checks Fine) r.job.set ++ checks_of_picture

  unfoldable pub answer : Answer
  answer = first_refusal run_checks

-- ---- the tables of the set call
-- the list of a colour's channel: "In Rgb24 and Rgba the list that tones a byte is its colour's
-- where present; in every other case it is the master's"
abbrev pub list_for : PixelFormat → View → Colour → List Point
list_for f v c = cond (by_colour f) (own_or_master (colour_of c v) v.master) v.master

abbrev pub table_for : PixelFormat → View → Colour → List ℕ
table_for f v c = byte_table v.kind (list_for f v c)

-- the tables by channel
abbrev pub tables_of : PixelFormat → View → ℕ → List ℕ
tables_of f v = three (table_for f v Red) (table_for f v Green) (table_for f v Blue)

-- "the list that tones a byte", by its channel; `tables_of_lem` of `RunLaws` has it that
-- its table tones the channel
abbrev pub toned_by : PixelFormat → View → ℕ → List Point
toned_by f v zero = list_for f v Red
toned_by f v (suc zero) = list_for f v Green
toned_by f v (suc (suc j)) = list_for f v Blue

-- ---- what the set call writes
-- "tight rows" at the front of an output, alpha copied; "Output bytes past that are unchanged"
abbrev pub tight_rows : PixelFormat → ℕ → ℕ → ℕ → (ℕ → List ℕ) → List ℕ → List ℕ → List ℕ
tight_rows f w h step tables plane out =
    filled (h * (w * bytes_a_pixel f))
    (tight_byte (w * bytes_a_pixel f) step (row_byte (bytes_a_pixel f) (alpha_of f) tables) plane) out

-- "for YUV each chroma plane is copied whole", to the front of its output
abbrev pub copied : PlaneOf → List ℕ → List ℕ
copied plane out = plane.bytes ++ drop (length plane.bytes) out

module _ (r : Run) where
  abbrev pub accepted : Bool
  accepted = is_done (answer r)

  -- the first output of an accepted run
  abbrev pub toned_rows : List ℕ
  toned_rows =
      tight_rows r.job.format r.job.width r.job.height r.lent.plane.step
      (tables_of r.job.format (view_of r.job.set))
      r.lent.plane.bytes r.lent.outputs.first

  -- the first output
  unfoldable pub first : List ℕ
  first = cond accepted toned_rows r.lent.outputs.first

  -- a chroma output: copied where there is chroma
  unfoldable pub chroma : PlaneOf → List ℕ → List ℕ
  chroma plane out = cond (accepted && has_chroma r) (copied plane out) out

-- ---- what the set call hands back
module _ (r : Run) where
  -- "its step handed back"; 0 where there is no chroma
  abbrev pub chroma_step : PlaneOf → ℕ
  chroma_step plane = cond (has_chroma r) plane.step 0

  abbrev pub steps_of : Steps
  steps_of = record {
    step = row_bytes r;
    cb_step = chroma_step r.lent.cb;
    cr_step = chroma_step r.lent.cr;
  }

  -- the steps of the outputs, or the first refusal
  abbrev pub handed : Result Steps Refusal
  handed = result_and (answer r) (Ok steps_of)

-- what a call of the set call does: what it hands back, t, and the outputs after it; and what
-- follows from the types of what it was given
pub record SetCall (r : Run) (t : Result Steps Refusal) (after : Outputs) : Type 0 where
  pub handed : t ≡ handed r
  pub first : after.first ≡ first r
  pub cb : after.cb ≡ chroma r r.lent.cb r.lent.outputs.cb
  pub cr : after.cr ≡ chroma r r.lent.cr r.lent.outputs.cr
  pub in_types : InTypes r
