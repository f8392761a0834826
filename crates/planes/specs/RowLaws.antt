-- What a plane's row holds, and that the rows of an accepted plane are whole.
use Rattle.std.specs.Prelude.{ℕ, ◌+◌, ◌-◌, ◌*◌, ◌<◌, min, ◌≡◌, List, length, get_or, drop}
use Rattle.std.proofs.Common.{◌∙◌, arith, zero-mul, length-take, length-drop, get_or-take, get_or-drop}
use Rattle.std.proofs.Math.Decide.{dec_lt}
use Rattle.rows.specs.Laws.{rows_inside}
use Rattle.formats.specs.declared.PixelFormat.{PixelFormat}
use Rattle.formats.specs.Formats.{bytes_a_pixel}
use Rattle.formats.specs.CheckLaws.{GoodPlane}
use Rattle.planes.specs.Planes.{row_of}

-- a row has its n bytes, or what is left of the plane
pub row_length : (bytes : List ℕ) (step y n : ℕ)
    → length (row_of bytes step y n) ≡ min n (length bytes - y * step)
unfolding row_of
row_length bytes step y n = rw (length-take, length-drop)

-- byte c of the row at y is the plane's byte y × step + c
pub row_byte_lem : (bytes : List ℕ) (step y n c : ℕ) → c < n
    → get_or (row_of bytes step y n) c 0 ≡ get_or bytes (y * step + c) 0
unfolding row_of
row_byte_lem bytes step y n c inside =
    get_or-take n (drop (y * step) bytes) c 0 inside ∙ get_or-drop (y * step) bytes c 0

-- where a picture call accepts a plane, each of its rows is whole
pub row_whole : (f : PixelFormat) (w h step : ℕ) (bytes : List ℕ) (y : ℕ)
    → GoodPlane f w h step (length bytes) → y < h
    → length (row_of bytes step y (w * bytes_a_pixel f)) ≡ w * bytes_a_pixel f
row_whole f w h step bytes y good below = elim (dec_lt 0 w) [
  | yes wide ↦
      omega (
        arith,
        row_length bytes step y (w * bytes_a_pixel f),
        rows_inside y good.rows (λ e. omega arith) below,
      )
  | no none ↦
      let empty : w ≡ 0 = omega arith in
      let row : w * bytes_a_pixel f ≡ 0 = rw (empty, zero-mul) in
      omega (arith, row_length bytes step y (w * bytes_a_pixel f))
]
