-- The twelve formats: their numbers, and the layout of each. Definitions only.
use Rattle.std.specs.Prelude.{ℕ, Bool, true, false, cond, List, [], ◌∷◌, get_or, ltb}
use Rattle.std.specs.Prelude.{Result, Ok, Err}
use Rattle.answers.specs.declared.Refusal.{Refusal}
use Rattle.answers.specs.declared.Refusal.TheVariants.{UnsupportedFormat}
use Rattle.formats.specs.declared.Layout.{Layout}
use Rattle.formats.specs.declared.PixelFormat.{PixelFormat}
use Rattle.formats.specs.declared.PixelFormat.TheVariants.{
  Gray8,
  Ya8,
  Rgb24,
  Rgba,
  Cmyk,
  CmykInverted,
  Yuv420P,
  Yuv422P,
  Yuv444P,
  YuvJ420P,
  YuvJ422P,
  YuvJ444P,
}

-- the formats in the order of their numbers at the C boundary, from 0 to 11
abbrev pub in_order : List PixelFormat
in_order =
    Gray8 ∷ Ya8 ∷ Rgb24 ∷ Rgba ∷ Cmyk ∷ CmykInverted ∷ Yuv420P ∷ Yuv422P ∷ Yuv444P ∷ YuvJ420P
    ∷ YuvJ422P ∷ YuvJ444P ∷ []

-- the number of the last
abbrev pub last_format : ℕ
last_format = 11

-- a greater number is none: it is refused before anything is asked of its format
unfoldable pub format_of : ℕ → PixelFormat
format_of n = get_or in_order n Gray8

-- 8 of a number above the last, else its format
abbrev pub numbered_format : ℕ → Result PixelFormat Refusal
numbered_format n = cond (ltb last_format n) (Err UnsupportedFormat) (Ok (format_of n))

-- the columns of the table below: bytes, alpha, planes, by colour
abbrev pub new_layout : ℕ → ℕ → ℕ → Bool → Layout
new_layout bytes alpha planes by_colour =
    record { bytes = bytes; alpha = alpha; planes = planes; by_colour = by_colour }

abbrev pub layout_of : PixelFormat → Layout
layout_of Gray8 = new_layout 1 1 1 false
layout_of Ya8 = new_layout 2 1 0 false
layout_of Rgb24 = new_layout 3 3 1 true
layout_of Rgba = new_layout 4 3 1 true
layout_of Cmyk = new_layout 4 4 0 false
layout_of CmykInverted = new_layout 4 4 0 false
layout_of Yuv420P = new_layout 1 1 3 false
layout_of Yuv422P = new_layout 1 1 3 false
layout_of Yuv444P = new_layout 1 1 3 false
layout_of YuvJ420P = new_layout 1 1 3 false
layout_of YuvJ422P = new_layout 1 1 3 false
layout_of YuvJ444P = new_layout 1 1 3 false

-- "width times 1 (Gray8, luma), 2 (Ya8), 3 (Rgb24), 4 (Rgba, Cmyk, CmykInverted)"
abbrev pub bytes_a_pixel : PixelFormat → ℕ
bytes_a_pixel f = (layout_of f).bytes

-- "alpha of Ya8 and Rgba": the channel that no table tones; the number of channels where there is
-- none
abbrev pub alpha_of : PixelFormat → ℕ
alpha_of f = (layout_of f).alpha

-- "only the first is read, or the first three for YUV"; 0 for a format that the set call refuses
abbrev pub planes_read : PixelFormat → ℕ
planes_read f = (layout_of f).planes

-- "In Rgb24 and Rgba the list that tones a byte is its colour's where present": whether a format is
-- toned by colour
abbrev pub by_colour : PixelFormat → Bool
by_colour f = (layout_of f).by_colour
