-- Planes where a slip would show, computed: two rows of step 5, with tables that add 10, 20 and 30;
-- and what a plane needs, at its edges.
use Rattle.std.specs.Prelude.{◌≡◌, refl, List, [], ◌∷◌, ℕ, ◌+◌}
use Rattle.std.proofs.Common.{arith, lit≤}
use Rattle.lists.specs.Each.{each}
use Rattle.lists.specs.Tabulate.{tabulate, filled}
use Rattle.rows.specs.Bytes.{same, three, toned, row_byte}
use Rattle.rows.specs.Rows.{in_row, plane_byte, tight_byte, needed, Rows, tight_alpha}

abbrev more : ℕ → List ℕ
more n = tabulate 256 (λ x. x + n)

-- grey and alpha, two pixels a row: alpha, the byte between the rows and what lies after them stay
pub grey_alpha :
    each (plane_byte 4 2 5 (row_byte 2 1 (same (more 10))))
    (1 ∷ 2 ∷ 3 ∷ 4 ∷ 5 ∷ 6 ∷ 7 ∷ 8 ∷ 9 ∷ 10 ∷ 11 ∷ 12 ∷ [])
    ≡ 11 ∷ 2 ∷ 13 ∷ 4 ∷ 5 ∷ 16 ∷ 7 ∷ 18 ∷ 9 ∷ 10 ∷ 11 ∷ 12 ∷ []
unfolding each tabulate plane_byte in_row row_byte toned
grey_alpha = refl

-- colours, one pixel a row, into tight rows: the last byte of the destination stays
pub colours :
    filled 6 (tight_byte 3 5 (row_byte 3 3 (three (more 10) (more 20) (more 30)))
    (1 ∷ 2 ∷ 3 ∷ 4 ∷ 5 ∷ 6 ∷ 7 ∷ 8 ∷ [])) (0 ∷ 0 ∷ 0 ∷ 0 ∷ 0 ∷ 0 ∷ 99 ∷ [])
    ≡ 11 ∷ 22 ∷ 33 ∷ 16 ∷ 27 ∷ 38 ∷ 99 ∷ []
unfolding filled tabulate tight_byte row_byte toned
colours = refl

-- "Bytes needed": none without a pixel; of two rows of 3 bytes the first with its step, the last
-- without
pub bytes_needed :
    (needed 0 2 3 5 ≡ 0) × (needed 1 0 3 5 ≡ 0) × (needed 1 1 3 5 ≡ 3) × (needed 1 2 3 5 ≡ 8)
unfolding needed
bytes_needed = (refl, refl, refl, refl)

-- these fit into 8 bytes and not into 7, with a step of 3 or more
pub rows_at_edges : Rows 1 2 3 5 8 × Rows 1 2 3 3 6 × (Rows 1 2 3 5 7 → ⊥) × (Rows 1 2 3 2 8 → ⊥)
unfolding needed
rows_at_edges = (
  record { stepped = lit≤ tt; enough = lit≤ tt },
  record { stepped = lit≤ tt; enough = lit≤ tt },
  λ r. omega (arith, r.enough),
  λ r. omega (arith, r.stepped),
)

-- of 4 bytes the last is kept, of 1 or 3 none
pub kept_of_four : (tight_alpha 1 ≡ 1) × (tight_alpha 3 ≡ 3) × (tight_alpha 4 ≡ 3)
unfolding tight_alpha
kept_of_four = (refl, refl, refl)
