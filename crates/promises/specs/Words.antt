-- The words of the third demand, with document 01's terms, and of document 02's U9, which restates
-- it for finer heights. Definitions only.
use Rattle.std.specs.Prelude.{ℕ, ◌+◌, ◌*◌, ◌≤◌, ◌<◌, ◌≡◌, ◌⊎◌, true, false, cond, List, [], length, get_or, take, Result, Ok, Err}
use Rattle.points.specs.declared.Point.{Point}
use Rattle.points.specs.Knots.{OnLine}
use Rattle.points.specs.Order.{All, WholeHeight, NeverFalls}
use Rattle.tables.specs.declared.CurveInterpolation.{CurveInterpolation}
use Rattle.tables.specs.declared.CurveInterpolation.TheVariants.{Linear}
use Rattle.tables.specs.Kinds.{kind_number}
use Rattle.tables.specs.Tables.{entry_of}
use Rattle.sets.specs.Sets.{view_of}
use Rattle.sets.specs.Lists.{EveryList}
use Rattle.sets.specs.Same.{Same}
use Rattle.rows.specs.Rows.{in_row}
use Rattle.pictures.specs.declared.Steps.{Steps}
use Rattle.formats.specs.Formats.{bytes_a_pixel, alpha_of}
use Rattle.pictures.specs.Runs.{
  Outputs,
  Run,
  row_bytes,
  size,
  has_chroma,
  answer,
  toned_by,
  first,
  chroma,
  SetCall,
}
use Rattle.answers.specs.declared.Refusal.{Refusal}
use Rattle.answers.specs.Numbers.{done}

-- ---- runs
-- a run of the set call, whole: what it was given, what it answered and the three outputs after it,
-- of which its contract holds
pub record Call : Type 0 where
  pub given : Run
  pub answered : Result Steps Refusal
  pub after : Outputs
  pub contract : SetCall given answered after

-- the documents do not refuse the run
abbrev pub Accepted : Call → Type 0
Accepted c = answer c.given ≡ done

-- two runs "share one set, format and size". "Two sets are the same if their lists, point by point,
-- the colours present, and the kind with its tension or slopes agree"
pub record Share (a b : Call) : Type 0 where
  pub set : Same a.given.job.set b.given.job.set
  pub format : a.given.job.format ≡ b.given.job.format
  pub width : a.given.job.width ≡ b.given.job.width
  pub height : a.given.job.height ≡ b.given.job.height

-- ---- places
-- "A byte's place is its row, its column and, in colour, its channel; it is the same in the plane
-- and in the tight output, whatever the row step";
-- where a pixel has one byte, its channel is 0
pub record Place : Type 0 where
  pub row : ℕ
  pub column : ℕ
  pub channel : ℕ

-- a place of the picture
pub record Within (r : Run) (p : Place) : Type 0 where
  pub row : p.row < r.job.height
  pub column : p.column < r.job.width
  pub channel : p.channel < bytes_a_pixel r.job.format

-- how far from its row's start
abbrev pub along : Run → Place → ℕ
along r p = p.column * bytes_a_pixel r.job.format + p.channel

-- the index of its byte in the first plane, and in the tight output
abbrev pub in_plane : Run → Place → ℕ
in_plane r p = p.row * r.lent.plane.step + along r p

abbrev pub in_output : Run → Place → ℕ
in_output r p = p.row * row_bytes r + along r p

-- the byte: before the run in the first plane, after it in the first output
abbrev pub input : Call → Place → ℕ
input c p = get_or c.given.lent.plane.bytes (in_plane c.given p) 0

abbrev pub output : Call → Place → ℕ
output c p = get_or c.after.first (in_output c.given p) 0

-- the channel "alpha", where the format has one
abbrev pub IsAlpha : Run → Place → Type 0
IsAlpha r p = p.channel ≡ alpha_of r.job.format

-- "Toned bytes are those sent through a table": at every place of the picture but alpha
pub record TonedAt (r : Run) (p : Place) : Type 0 where
  pub within : Within r p
  pub not_alpha : IsAlpha r p → ⊥

-- "Padding is every byte of a toned plane that lies in no row"
abbrev pub IsPadding : Run → ℕ → Type 0
IsPadding r k = in_row (row_bytes r) r.job.height r.lent.plane.step k ≡ false

-- ---- the list that tones a byte, its kind and its line
-- "In Rgb24 and Rgba the list that tones a byte is its colour's where present; in every other
-- case it is the master's"
abbrev pub list_that_tones : Run → Place → List Point
list_that_tones r p = toned_by r.job.format (view_of r.job.set) p.channel

abbrev pub kind_in : Run → CurveInterpolation
kind_in r = r.job.set.interpolation

abbrev pub IsLinear : Run → Type 0
IsLinear r = kind_in r ≡ Linear

-- one of "the three splines", document 01's "Splines (4, 8, 9)"
abbrev pub IsSpline : CurveInterpolation → Type 0
IsSpline k = (kind_number k ≡ 4) ⊎ (kind_number k ≡ 8) ⊎ (kind_number k ≡ 9)

-- "no list in the set has a point lower than the one before it"
abbrev pub NoListFalls : Run → Type 0
NoListFalls r = EveryList NeverFalls (view_of r.job.set)

-- b is "the whole number nearest" n / d, "at an exact half it is one of the two
-- nearest": 2 × |b × d − n| ≤ d
abbrev pub Nearest : ℕ → ℕ → ℕ → Type 0
Nearest n d b = (2 * (b * d) ≤ 2 * n + d) × (2 * n ≤ 2 * (b * d) + d)

-- "whole heights": those of document 01, of every point
abbrev pub WholeHeights : List Point → Type 0
WholeHeights l = All WholeHeight l

-- b is "within 1/2 + 1/16,384" of n / d: 16,384 × |b × d − n| ≤ 8,193 × d
abbrev pub NearlyNearest : ℕ → ℕ → ℕ → Type 0
NearlyNearest n d b =
    (16384 * (b * d) ≤ 16384 * n + 8193 * d) × (16384 * n ≤ 16384 * (b * d) + 8193 * d)

-- "The exact broken line" of l is there at v, of a width above 0, and where two pieces
-- meet both give one height
pub record HasLine (l : List Point) (v : ℕ) : Type 0 where
  pub there : (n d : ℕ) × OnLine l v n d
  pub wide : (n d : ℕ) → OnLine l v n d → 0 < d
  pub one_height : (n d m e : ℕ) → OnLine l v n d → OnLine l v m e → n * e ≡ m * d

-- ---- chroma
-- one of the six YUV formats
abbrev pub IsYuv : Run → Type 0
IsYuv r = has_chroma r ≡ true

-- "each chroma plane is copied whole"; "Output bytes past that are unchanged"
pub record Copied (plane before after : List ℕ) : Type 0 where
  pub whole : take (length plane) after ≡ plane
  pub past : (k : ℕ) → length plane ≤ k → get_or after k 0 ≡ get_or before k 0
  pub long : length after ≡ length before

-- ---- what a run that is not refused gives
-- "exactly the picture they define"
pub record ExactPicture (c : Call) : Type 0 where
  pub steps : Steps
  pub done : c.answered ≡ Ok steps
  pub step : steps.step ≡ row_bytes c.given
  -- the three outputs are those of the definition
  pub out_is : c.after.first ≡ first c.given
  pub cb_is : c.after.cb ≡ chroma c.given c.given.lent.cb c.given.lent.outputs.cb
  pub cr_is : c.after.cr ≡ chroma c.given c.given.lent.cr c.given.lent.outputs.cr
  -- every place lies in the plane and in the output
  pub in_plane_lem : (p : Place) → Within c.given p
      → in_plane c.given p < length c.given.lent.plane.bytes
  pub in_output_lem : (p : Place) → Within c.given p
      → in_output c.given p < length c.after.first
  -- byte by byte: a toned byte is its entry in the table of the list that tones it, alpha is
  -- copied, and what lies past the rows stays
  pub toned : (p : Place) → TonedAt c.given p
      → output c p ≡ entry_of (kind_in c.given) (list_that_tones c.given p) (input c p)
  pub alpha : (p : Place) → Within c.given p → IsAlpha c.given p → output c p ≡ input c p
  pub past : (k : ℕ) → size c.given ≤ k
      → get_or c.after.first k 0 ≡ get_or c.given.lent.outputs.first k 0
  pub long : length c.after.first ≡ length c.given.lent.outputs.first
  -- chroma is copied for YUV; the chroma outputs of other formats stay
  pub cb : IsYuv c.given
      → Copied c.given.lent.cb.bytes c.given.lent.outputs.cb c.after.cb
  pub cr : IsYuv c.given
      → Copied c.given.lent.cr.bytes c.given.lent.outputs.cr c.after.cr
  pub other_cb : (IsYuv c.given → ⊥) → c.after.cb ≡ c.given.lent.outputs.cb
  pub other_cr : (IsYuv c.given → ⊥) → c.after.cr ≡ c.given.lent.outputs.cr

-- the steps handed back; zeros beside a refusal, which hands none back
abbrev pub steps_or_none : Result Steps Refusal → Steps
steps_or_none (Ok steps) = steps
steps_or_none (Err _) = record { step = 0; cb_step = 0; cr_step = 0 }

-- alpha and chroma "come out as they went in", the chroma's step "handed back"
pub record PassedThrough (c : Call) : Type 0 where
  pub alpha : (p : Place) → Within c.given p → (TonedAt c.given p → ⊥)
      → output c p ≡ input c p
  pub cb : IsYuv c.given
      → take (length c.given.lent.cb.bytes) c.after.cb ≡ c.given.lent.cb.bytes
  pub cr : IsYuv c.given
      → take (length c.given.lent.cr.bytes) c.after.cr ≡ c.given.lent.cr.bytes
  pub cb_step : IsYuv c.given → (steps_or_none c.answered).cb_step ≡ c.given.lent.cb.step
  pub cr_step : IsYuv c.given → (steps_or_none c.answered).cr_step ≡ c.given.lent.cr.step

-- ---- two runs
-- "alike in their rows": the same byte at every place, alpha too
abbrev pub AlikeInRows : Call → Call → Type 0
AlikeInRows a b = (p : Place) → Within a.given p → input a p ≡ input b p

-- "and chroma", which is of YUV
pub record AlikeInChroma (a b : Call) : Type 0 where
  pub cb : IsYuv a.given → a.given.lent.cb.bytes ≡ b.given.lent.cb.bytes
  pub cr : IsYuv a.given → a.given.lent.cr.bytes ≡ b.given.lent.cr.bytes

-- the bytes that a run writes: the tight rows; and each chroma plane for YUV, of other formats none
abbrev pub written : Call → List ℕ
written c = take (size c.given) c.after.first

abbrev pub written_chroma : Call → List ℕ → List ℕ → List ℕ
written_chroma c plane out = cond (has_chroma c.given) (take (length plane) out) []

-- they "write the same bytes"
pub record WriteTheSame (a b : Call) : Type 0 where
  pub out : written a ≡ written b
  pub cb : written_chroma a a.given.lent.cb.bytes a.after.cb
      ≡ written_chroma b b.given.lent.cb.bytes b.after.cb
  pub cr : written_chroma a a.given.lent.cr.bytes a.after.cr
      ≡ written_chroma b b.given.lent.cr.bytes b.after.cr
