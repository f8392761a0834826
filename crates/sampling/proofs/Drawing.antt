-- The samples of a block by parts, and how much is left for the loops that draw blocks.
use mathlib.Core.Path.{◌≡◌}
use Prim.Native.Nat.{ℕ, ◌+◌, ◌-◌, ◌<◌}
use lib.Ieee.{Float, nan}
use lib.ListN.{get_or}
use Rattle.lists.specs.Tabulate.{get_d_tabulate}
use Rattle.single.specs.Rules.{clamped}
use Rattle.segments.specs.Segments.{sample_at}
use Rattle.segments.specs.Straight.{part}
use Rattle.sampling.specs.declared.Form.{Form}
use Rattle.sampling.specs.declared.blocks.Cursor.{Cursor}
use Rattle.points.specs.declared.Piece.{Piece}
use Rattle.sampling.specs.Pieces.{piece_height}
use Rattle.sampling.specs.Walk.{part_from, parts_of, piece_sample}

-- how much of the way is left: the loops' measure
abbrev pub left : ℕ → Cursor → ℕ
left n p = 4096 + n - (p.v + p.i)

-- the sample at each part of a block is the form's, where f gives one at each part
pub at_parts : (form : Form) (f : Piece → Float → Float) (piece : Piece) (s : Float) (v j : ℕ) → j < 4
    → ((x : Float) → f piece (part piece.a piece.b x) ≡ clamped (piece_height form piece x))
    → f piece (get_or (parts_of piece s v) j nan) ≡ piece_sample form piece s (v + j)
unfolding parts_of part_from piece_sample
at_parts form f piece s v j low is =
    rw (get_d_tabulate 4 (part_from piece s v) j nan low) (is (sample_at s (v + j)))
