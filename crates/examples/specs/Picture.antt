-- P2 in a picture: a copy of the picture, or of all but its first row, is not what is asked for.
use Rattle.std.specs.Prelude.{ℕ, ◌<◌, ◌≡◌, refl, [], ◌∷◌, replicate}
use Rattle.std.proofs.Common.{arith, ◌∙◌}
use Rattle.lists.specs.Tabulate.{tabulate, tabulate_agree, filled}
use Rattle.points.specs.Points.{at_level}
use Rattle.tables.specs.declared.CurveInterpolation.TheVariants.{Linear}
use Rattle.tables.specs.Tables.{entry_of}
use Rattle.rows.specs.Bytes.{toned, row_byte}
use Rattle.rows.specs.Rows.{tight_byte}
use Rattle.formats.specs.declared.PixelFormat.TheVariants.{Gray8}
use Rattle.pictures.specs.Runs.{first}
use Rattle.sets.specs.Examples.{stored}
use Rattle.pictures.specs.Examples.{run, answered}
use Rattle.examples.specs.Marked.{P2}

P2-rule : replicate {A = ℕ} 256 200 ≡ tabulate 256 (λ (v : ℕ). 200)
unfolding tabulate
P2-rule = refl

P2-entry : (v : ℕ) → v < 256 → entry_of Linear (at_level 128 200 ∷ []) v ≡ 200
P2-entry v lt =
    tabulate_agree (entry_of Linear (at_level 128 200 ∷ [])) (λ w. 200) (P2 ∙ P2-rule) v lt

-- Two rows of 2 bytes with one of padding between them, every byte 5, by P2's list: width 2, two
-- rows, one plane, step 3, 5 bytes, and an output of 5 bytes, each 0. Every byte of both rows comes
-- out as 200, and the byte after them stays.
pub P2-picture : first (run (stored (at_level 128 200 ∷ []) 1) Gray8 2 2 1 3 5 5 0)
    ≡ 200 ∷ 200 ∷ 200 ∷ 200 ∷ 0 ∷ []
unfolding answered first filled tabulate tight_byte row_byte toned
P2-picture = rw (P2-entry 5 (omega arith))
