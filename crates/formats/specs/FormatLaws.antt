-- What the kernels ask of a format: each is one that they take.
use Rattle.std.specs.Prelude.{◌≡◌, refl, ℕ, ◌*◌, ◌≤◌}
use Rattle.std.proofs.Common.{inl, inr, mul-le-mul, arith}
use Rattle.rows.specs.Rows.{InPlace, Tight, tight_alpha}
use Rattle.formats.specs.declared.PixelFormat.{PixelFormat}
use Rattle.formats.specs.declared.PixelFormat.TheVariants.{
  Gray8,
  Ya8,
  Rgb24,
  Rgba,
  Cmyk,
  CmykInverted,
  Yuv420P,
  Yuv422P,
  Yuv444P,
  YuvJ420P,
  YuvJ422P,
  YuvJ444P,
}
use Rattle.formats.specs.Formats.{bytes_a_pixel, alpha_of}
use Rattle.formats.specs.Checks.{Supported}

few_in_place : (f : PixelFormat) → (bytes_a_pixel f ≤ 4) × InPlace (bytes_a_pixel f) (alpha_of f)
few_in_place Gray8 = (omega arith, inl (omega arith))
few_in_place Ya8 = (omega arith, inr (inl (refl, refl)))
few_in_place Rgb24 = (omega arith, inl (omega arith))
few_in_place Rgba = (omega arith, inr (inr (refl, refl)))
few_in_place Cmyk = (omega arith, inl (omega arith))
few_in_place CmykInverted = (omega arith, inl (omega arith))
few_in_place Yuv420P = (omega arith, inl (omega arith))
few_in_place Yuv422P = (omega arith, inl (omega arith))
few_in_place Yuv444P = (omega arith, inl (omega arith))
few_in_place YuvJ420P = (omega arith, inl (omega arith))
few_in_place YuvJ422P = (omega arith, inl (omega arith))
few_in_place YuvJ444P = (omega arith, inl (omega arith))

-- no row is so long that a number overflows
pub row_small : (f : PixelFormat) (w : ℕ) → w ≤ 4096 → w * bytes_a_pixel f ≤ 4096 * 4
row_small f w wide = mul-le-mul wide (few_in_place f).0

pub in_place : (f : PixelFormat) → InPlace (bytes_a_pixel f) (alpha_of f)
in_place f = (few_in_place f).1

pub tight : (f : PixelFormat) → Supported f
    → Tight (bytes_a_pixel f) × (tight_alpha (bytes_a_pixel f) ≡ alpha_of f)
unfolding tight_alpha
tight Gray8 s = (inl refl, refl)
tight Ya8 s = absurd (s refl)
tight Rgb24 s = (inr (inl refl), refl)
tight Rgba s = (inr (inr refl), refl)
tight Cmyk s = absurd (s refl)
tight CmykInverted s = absurd (s refl)
tight Yuv420P s = (inl refl, refl)
tight Yuv422P s = (inl refl, refl)
tight Yuv444P s = (inl refl, refl)
tight YuvJ420P s = (inl refl, refl)
tight YuvJ422P s = (inl refl, refl)
tight YuvJ444P s = (inl refl, refl)
