-- `second::thomas_solve`: the forward sweep of the system's rows, then back substitution.
use Rattle.std.proofs.Common.{◌≡◌, ◌<◌, ℕ, Float, length}
use Rattle.lists.specs.Stored.{Stored}
use Rattle.spline.specs.declared.thomas.Row.{Row}
use Rattle.spline.specs.Thomas.{swept, swept_row}
use Rattle.spline.proofs.second.thomas_solve.Given as goal

-- the parts of the swept rows
unfoldable pub above : (ℕ → Row) → ℕ → Float
above rows k = (swept_row rows k).above

unfoldable pub right : (ℕ → Row) → ℕ → Float
right rows k = (swept_row rows k).right

-- for a rule that the rows given follow: the parts of the swept rows below k are stored, and p is
-- the last of these rows
abbrev pub invariant-loop-k : goal.invariant-loop-k
invariant-loop-k g l =
    (rows : ℕ → Row)
    → ((k : ℕ) (r : Row) → k < length l.unknowns → goal.F-post g l.row_at k r → r ≡ rows k)
    → Stored (above rows) 0 l.k l.initial.aboves l.aboves
    × Stored (right rows) 0 l.k l.initial.rights l.rights × (l.p ≡ swept rows l.k)
