-- What `tonetable` prints for document 01's example, and for the same master in records that name
-- no kind.
use Rattle.std.specs.Prelude.{ℕ, zero, suc, ◌≡◌, refl, List, [], ◌∷◌, ◌++◌}
use Rattle.text.specs.Text.{space, newline, character_at, printed}
use Rattle.examples.specs.Computed as Computed

abbrev times : ℕ → List ℕ → List ℕ
times zero l = []
times (suc n) l = l ++ times n l

-- "16 lines, each 07 sixteen times": 0 is the character 48 and 7 the character 55
abbrev line : List ℕ
line = times 15 (48 ∷ 55 ∷ space ∷ []) ++ (48 ∷ 55 ∷ newline ∷ [])

pub sixteen_lines : printed (0x11 ∷ 0x01 ∷ 0x00 ∷ 0x07 ∷ 0x00 ∷ []) ≡ times 16 line
unfolding printed character_at Computed.read Computed.entry
sixteen_lines = refl

-- the same by kind 2, and by kind 3
pub unnamed_lines : (printed (0x01 ∷ 0x01 ∷ 0x00 ∷ 0x07 ∷ []) ≡ times 16 line)
    × (printed (0x81 ∷ 0x01 ∷ 0x00 ∷ 0x07 ∷ []) ≡ times 16 line)
unfolding printed character_at Computed.read Computed.entry
unnamed_lines = (refl, refl)
