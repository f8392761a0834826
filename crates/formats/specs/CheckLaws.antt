-- What is known once a check has passed.
use Rattle.std.specs.Prelude.{ℕ, ◌*◌, ◌≤◌, ◌≡◌, refl, Bool, true, false, ◌||◌, ltb}
use Rattle.std.proofs.Common.{true≢false, ltb-false}
use Rattle.answers.specs.Checks.{AllPassed, all_passed}
use Rattle.rows.specs.Rows.{Rows, needed}
use Rattle.formats.specs.declared.PixelFormat.{PixelFormat}
use Rattle.formats.specs.Formats.{bytes_a_pixel}
use Rattle.formats.specs.Checks.{too_large, wrong_step, plane_checks, lut_checks, lut_answer}
use Rattle.answers.specs.Numbers.{done}

pub neither : (s t : Bool) → s || t ≡ false → (s ≡ false) × (t ≡ false)
neither true t e = absurd (true≢false e)
neither false t e = (refl, e)

pub sides : (w h : ℕ) → too_large w h ≡ false → (w ≤ 4096) × (h ≤ 4096)
sides w h e = let q = neither (ltb 4096 w) (ltb 4096 h) e in
    (ltb-false 4096 w q.0, ltb-false 4096 h q.1)

pub steps : (row step : ℕ) → wrong_step row step ≡ false → (row ≤ step) × (step ≤ 32768)
steps row step e = let q = neither (ltb step row) (ltb 32768 step) e in
    (ltb-false step row q.0, ltb-false 32768 step q.1)

-- what is known of a plane of len bytes once it is accepted
pub record GoodPlane (f : PixelFormat) (w h step len : ℕ) : Type 0 where
  pub wide : w ≤ 4096
  pub high : h ≤ 4096
  pub stepped : step ≤ 32768
  pub rows : Rows w h (w * bytes_a_pixel f) step len

module _ (f : PixelFormat) (w h step len : ℕ) where
  pub good_plane : too_large w h ≡ false
      → AllPassed (plane_checks w h (w * bytes_a_pixel f) step len)
      → GoodPlane f w h step len
  good_plane small passed =
      let row = w * bytes_a_pixel f in
      let stepped = steps row step passed.0 in
      record {
        wide = (sides w h small).0;
        high = (sides w h small).1;
        stepped = stepped.1;
        rows = record {
          stepped = stepped.0;
          enough = ltb-false len (needed w h row step) passed.1.0;
        };
      }

  pub lut_done : lut_answer f w h step len ≡ done → GoodPlane f w h step len
  unfolding lut_answer
  lut_done e = let passed = all_passed (lut_checks f w h step len) e in
      good_plane passed.0 passed.1
