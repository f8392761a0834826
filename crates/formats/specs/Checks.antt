-- The checks of the picture calls on numbers, in the order of document 01's section "When a call
-- says no". Definitions only.
use Rattle.std.specs.Prelude.{ℕ, ◌*◌, ◌≡◌, Bool, cond, ◌||◌, List, [], ◌∷◌, ◌++◌, ltb, eqb}
use Rattle.answers.specs.declared.Refusal.TheVariants.{UnsupportedFormat, PictureTooLarge, MissingPlane, RowStep, PlaneTooShort}
use Rattle.answers.specs.Checks.{Check, ◌when◌, first_refusal, room_check}
use Rattle.rows.specs.Rows.{needed}
use Rattle.formats.specs.declared.PixelFormat.{PixelFormat}
use Rattle.formats.specs.declared.Lengths.{Lengths}
use Rattle.formats.specs.Formats.{bytes_a_pixel, planes_read}
use Rattle.answers.specs.Numbers.{Answer}

-- the limits of 9 and 11
abbrev pub largest_side : ℕ
largest_side = 4096

abbrev pub largest_step : ℕ
largest_step = 32768

-- "Width or height is above 4,096"
abbrev pub too_large : ℕ → ℕ → Bool
too_large w h = ltb largest_side w || ltb largest_side h

-- "row step is below the row bytes or above 32,768"
abbrev pub wrong_step : ℕ → ℕ → Bool
wrong_step row step = ltb step row || ltb largest_step step

-- a first plane of len bytes
abbrev pub plane_checks : ℕ → ℕ → ℕ → ℕ → ℕ → List Check
plane_checks w h row step len =
    RowStep when wrong_step row step ∷ PlaneTooShort when ltb len (needed w h row step) ∷ []

-- the one-table call
abbrev pub lut_checks : PixelFormat → ℕ → ℕ → ℕ → ℕ → List Check
lut_checks f w h step len =
    PictureTooLarge when too_large w h ∷ plane_checks w h (w * bytes_a_pixel f) step len

unfoldable pub lut_answer : PixelFormat → ℕ → ℕ → ℕ → ℕ → Answer
lut_answer f w h step len = first_refusal (lut_checks f w h step len)

-- a format that the set call takes: not "Ya8, Cmyk or CmykInverted"
abbrev pub Supported : PixelFormat → Type 0
Supported f = planes_read f ≡ 0 → ⊥

-- "for YUV": the planes after the first are chroma
abbrev pub chroma_read : PixelFormat → Bool
chroma_read f = eqb (planes_read f) 3

-- the outputs: tight rows of size bytes, and for YUV each chroma plane
abbrev pub output_checks : PixelFormat → ℕ → Lengths → List Check
output_checks f size held =
    room_check size held.out
    ∷ cond (chroma_read f)
    (room_check held.cb held.out_cb ∷ room_check held.cr held.out_cr ∷ []) []

-- the set call, after its lists
abbrev pub picture_checks : PixelFormat → ℕ → ℕ → ℕ → ℕ → Lengths → List Check
picture_checks f w h planes step held =
    let row = w * bytes_a_pixel f in
    UnsupportedFormat when eqb (planes_read f) 0
    ∷ PictureTooLarge when too_large w h
    ∷ MissingPlane when ltb planes (planes_read f)
    ∷ plane_checks w h row step held.plane ++ output_checks f (h * row) held

unfoldable pub picture_answer : PixelFormat → ℕ → ℕ → ℕ → ℕ → Lengths → Answer
picture_answer f w h planes step held = first_refusal (picture_checks f w h planes step held)
