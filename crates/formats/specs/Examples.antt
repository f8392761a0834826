-- The tables of the formats and the limits of the checks, computed. Engine and promises read these
-- tables alike, so that a slip in one would pass every proof. Each value here is document 01's, of
-- its sections "Pictures" and "When a call says no": the sentence is quoted above it.
use Rattle.std.specs.Prelude.{
  ◌≡◌,
  refl,
  true,
  false,
  List,
  [],
  ◌∷◌,
  ◌++◌,
  ℕ,
  ◌+◌,
  length,
  replicate,
}
use Rattle.answers.specs.Numbers.{number_of}
use Rattle.lists.specs.Tabulate.{tabulate}
use Rattle.rows.specs.Rows.{needed}
use Rattle.formats.specs.declared.PixelFormat.{PixelFormat}
use Rattle.formats.specs.declared.PixelFormat.TheVariants.{
  Gray8,
  Ya8,
  Rgb24,
  Rgba,
  Cmyk,
  CmykInverted,
  Yuv420P,
  Yuv422P,
  Yuv444P,
  YuvJ420P,
  YuvJ422P,
  YuvJ444P,
}
use Rattle.formats.specs.Formats.{in_order, last_format, format_of}
use Rattle.formats.specs.Formats.{bytes_a_pixel, alpha_of, planes_read, by_colour}
use Rattle.formats.specs.Checks.{lut_answer, picture_answer}

-- ---- the formats
-- "The six YUV formats are Yuv and YuvJ with 420P, 422P, 444P": a rule of each
abbrev pub yuv : {A : Type 0} → (PixelFormat → A) → List A
yuv rule =
    rule Yuv420P ∷ rule Yuv422P ∷ rule Yuv444P ∷ rule YuvJ420P ∷ rule YuvJ422P ∷ rule YuvJ444P ∷ []

-- a rule of the other six
abbrev pub others : {A : Type 0} → (PixelFormat → A) → List A
others rule =
    rule Gray8 ∷ rule Ya8 ∷ rule Rgb24 ∷ rule Rgba ∷ rule Cmyk ∷ rule CmykInverted ∷ []

-- the numbers from 0 to 11 at the C boundary, as `bindings/c/tone.h` has them
pub numbered : (tabulate 12 format_of ≡ others (λ f. f) ++ yuv (λ f. f))
    × (last_format + 1 ≡ 12) × (last_format + 1 ≡ length in_order)
unfolding tabulate format_of
numbered = (refl, refl, refl)

-- "width times 1 (Gray8, luma), 2 (Ya8), 3 (Rgb24), 4 (Rgba, Cmyk, CmykInverted)"
pub bytes_a_pixel_lem : (others bytes_a_pixel ≡ 1 ∷ 2 ∷ 3 ∷ 4 ∷ 4 ∷ 4 ∷ [])
    × (yuv bytes_a_pixel ≡ replicate 6 1)
bytes_a_pixel_lem = (refl, refl)

-- "alpha of Ya8 and Rgba, chroma and padding unchanged; Cmyk tones all four inks": alpha is the
-- channel after grey, 1, or after the colours, 3; elsewhere the number of channels means none
pub alpha_kept : (others alpha_of ≡ 1 ∷ 1 ∷ 3 ∷ 3 ∷ 4 ∷ 4 ∷ []) × (yuv alpha_of ≡ replicate 6 1)
alpha_kept = (refl, refl)

-- "only the first is read, or the first three for YUV"; none of a format that is answered with 8
pub planes_read_lem : (others planes_read ≡ 1 ∷ 0 ∷ 1 ∷ 1 ∷ 0 ∷ 0 ∷ [])
    × (yuv planes_read ≡ replicate 6 3)
planes_read_lem = (refl, refl)

-- "In Rgb24 and Rgba the list that tones a byte is its colour's where present; in every other case
-- it is the master's"
pub by_colour_lem : (others by_colour ≡ false ∷ false ∷ true ∷ true ∷ false ∷ false ∷ [])
    × (yuv by_colour ≡ replicate 6 false)
by_colour_lem = (refl, refl)

-- ---- the set call's 8 and 10
-- an empty picture of so many planes
abbrev empty : ℕ → PixelFormat → ℕ
empty planes f =
    number_of (picture_answer f 0 0 planes 0
    (record { plane = 0; cb = 0; cr = 0; out = 0; out_cb = 0; out_cr = 0 }))

-- 8: "The set call is given Ya8, Cmyk or CmykInverted"
pub unsupported : (others (empty 3) ≡ 0 ∷ 8 ∷ 0 ∷ 0 ∷ 8 ∷ 8 ∷ []) × (yuv (empty 3) ≡ replicate 6 0)
unfolding picture_answer needed
unsupported = (refl, refl)

-- 10: "The set call has no plane, or fewer than three for YUV"
pub no_plane : (others (empty 0) ≡ 10 ∷ 8 ∷ 10 ∷ 10 ∷ 8 ∷ 8 ∷ []) × (yuv (empty 0) ≡ replicate 6 10)
unfolding picture_answer needed
no_plane = (refl, refl)

pub one_plane : (others (empty 1) ≡ 0 ∷ 8 ∷ 0 ∷ 0 ∷ 8 ∷ 8 ∷ []) × (yuv (empty 1) ≡ replicate 6 10)
unfolding picture_answer needed
one_plane = (refl, refl)

pub two_planes : yuv (empty 2) ≡ replicate 6 10
unfolding picture_answer needed
two_planes = refl

-- ---- the limits, of the one-table call and of the set call with outputs that have room
abbrev lut : PixelFormat → ℕ → ℕ → ℕ → ℕ → ℕ
lut f w h step len = number_of (lut_answer f w h step len)

abbrev set : PixelFormat → ℕ → ℕ → ℕ → ℕ → ℕ
set f w h step len =
    number_of (picture_answer f w h 1 step
    (record { plane = len; cb = 0; cr = 0; out = 9999; out_cb = 0; out_cr = 0 }))

-- what both answer
abbrev Both : PixelFormat → ℕ → ℕ → ℕ → ℕ → ℕ → Type 0
Both f w h step len number = (lut f w h step len ≡ number) × (set f w h step len ≡ number)

-- 9: "Width or height is above 4,096"
pub width_limit : Both Gray8 4096 1 4096 4096 0 × Both Gray8 4097 1 4097 4097 9
unfolding lut_answer picture_answer needed
width_limit = ((refl, refl), (refl, refl))

pub height_limit : Both Gray8 1 4096 1 4096 0 × Both Gray8 1 4097 1 4097 9
unfolding lut_answer picture_answer needed
height_limit = ((refl, refl), (refl, refl))

-- 11: "The first plane's row step is below the row bytes or above 32,768, also at height 0"; the
-- row bytes of two pixels are 6
pub step_limit : Both Rgb24 2 1 32768 6 0 × Both Rgb24 2 1 32769 6 11
unfolding lut_answer picture_answer needed
step_limit = ((refl, refl), (refl, refl))

pub step_least : Both Rgb24 2 1 6 6 0 × Both Rgb24 2 1 5 6 11
unfolding lut_answer picture_answer needed
step_least = ((refl, refl), (refl, refl))

pub step_without_rows : Both Rgb24 2 0 32768 0 0 × Both Rgb24 2 0 32769 0 11
    × Both Rgb24 2 0 6 0 0 × Both Rgb24 2 0 5 0 11
unfolding lut_answer picture_answer needed
step_without_rows = ((refl, refl), (refl, refl), (refl, refl), (refl, refl))

-- 12: "The first plane has fewer bytes than needed", "(height − 1) × step + row": 2 × 7 + 6;
-- "0 if width or height is 0"
pub plane_limit : Both Rgb24 2 3 7 20 0 × Both Rgb24 2 3 7 19 12 × Both Rgb24 2 3 7 0 12
unfolding lut_answer picture_answer needed
plane_limit = ((refl, refl), (refl, refl), (refl, refl))

pub plane_without_pixels : Both Rgb24 0 3 7 0 0 × Both Rgb24 0 3 7 5 0 × Both Rgb24 2 0 7 0 0
unfolding lut_answer picture_answer needed
plane_without_pixels = ((refl, refl), (refl, refl), (refl, refl))

-- 13: "An output holds less than what would be written": tight rows of 3 × 6 bytes, and for YUV
-- each chroma plane whole, here of 4 and 5 bytes
abbrev outputs : PixelFormat → ℕ → ℕ → ℕ → ℕ
outputs f out outCb outCr =
    number_of (picture_answer f 2 3 3 7
    (record { plane = 20; cb = 4; cr = 5; out = out; out_cb = outCb; out_cr = outCr }))

pub output_limit : (outputs Rgb24 18 0 0 ≡ 0) × (outputs Rgb24 17 0 0 ≡ 13)
unfolding picture_answer needed
output_limit = (refl, refl)

pub chroma_limits :
    (yuv (λ f. outputs f 6 4 5) ≡ replicate 6 0) × (yuv (λ f. outputs f 5 4 5) ≡ replicate 6 13)
    × (yuv (λ f. outputs f 6 3 5) ≡ replicate 6 13) × (yuv (λ f. outputs f 6 4 4) ≡ replicate 6 13)
unfolding picture_answer needed
chroma_limits = (refl, refl, refl, refl)

-- ---- the order of the one-table call: "Checks run in this order". Each line mends the first fault
-- of the line before it, and has the later ones still
pub lut_order : (lut Gray8 4097 2 4095 0 ≡ 9) × (lut Gray8 4096 2 4095 0 ≡ 11)
    × (lut Gray8 4096 2 4096 8191 ≡ 12) × (lut Gray8 4096 2 4096 8192 ≡ 0)
unfolding lut_answer needed
lut_order = (refl, refl, refl, refl)
