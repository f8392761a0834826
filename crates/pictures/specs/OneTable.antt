-- The one-table call: what it answers, and what the plane holds afterwards, as document 01's
-- section "Pictures" has it. Definitions only.
use Rattle.std.specs.Prelude.{ℕ, ◌*◌, ◌≡◌, cond, List, length}
use Rattle.answers.specs.Numbers.{is_done, Answer}
use Rattle.lists.specs.Each.{each}
use Rattle.rows.specs.Bytes.{same, row_byte}
use Rattle.rows.specs.Rows.{plane_byte}
use Rattle.formats.specs.declared.PixelFormat.{PixelFormat}
use Rattle.formats.specs.Formats.{bytes_a_pixel, alpha_of}
use Rattle.formats.specs.Checks.{lut_answer}

-- "The one-table call tones all 12 formats within the plane: alpha of Ya8 and Rgba, chroma and
-- padding unchanged; Cmyk tones all four inks"
abbrev pub toned_within : PixelFormat → ℕ → ℕ → ℕ → List ℕ → List ℕ → List ℕ
toned_within f w h step table plane =
    each (plane_byte (w * bytes_a_pixel f) h step (row_byte (bytes_a_pixel f) (alpha_of f) (same table)))
    plane

-- the answer a, and the plane: toned, or on a refusal unchanged
pub record OneTableCall (f : PixelFormat) (w h step : ℕ) (table old : List ℕ) (a : Answer)
    (new : List ℕ) : Type 0 where
  pub answer : a ≡ lut_answer f w h step (length old)
  pub plane : new ≡ cond (is_done a) (toned_within f w h step table old) old
