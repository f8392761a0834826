-- What a one-table call leaves is what is computed for it in specs/Examples.
use Rattle.std.specs.Prelude.{◌≡◌, cond, List, ℕ}
use Rattle.std.proofs.Common.{◌∙◌, ap}
use Rattle.answers.specs.Numbers.{is_done, Answer}
use Rattle.formats.specs.declared.PixelFormat.{PixelFormat}
use Rattle.pictures.specs.OneTable.{OneTableCall, toned_within}
use Rattle.pictures.specs.Examples.{more, plane, left}

pub left_is : (w h step : ℕ) (f : PixelFormat) (a : Answer) (after : List ℕ)
    → OneTableCall f w h step more plane a after → after ≡ left w h step f
left_is w h step f a after c =
    c.plane ∙ ap (λ b. cond (is_done b) (toned_within f w h step more plane) plane) c.answer
