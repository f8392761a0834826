-- `push_pairs`: after i turns the pairs of the first i points are behind the draft.
use Rattle.std.proofs.Common.{◌+◌, ◌*◌, ◌≡◌, length, take}
use Rattle.points.specs.Points.{list_of}
use Rattle.writing.specs.Encode.{pair_bytes}
use Rattle.writing.specs.Statements.{Appended}
use Rattle.writing.proofs.push_pairs.Given as goal

abbrev pub invariant-loop-i : goal.invariant-loop-i
invariant-loop-i l =
    Appended (pair_bytes (take l.i (list_of l.curve))) l.initial.draft l.draft
    × (length l.draft.items ≡ length l.initial.draft.items + l.i * 2)
