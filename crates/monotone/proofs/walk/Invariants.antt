-- `walk`: a turn limits the tangents at both ends of a segment. The left one is then done, the right
-- one is carried.
use Rattle.std.proofs.Common.{◌≡◌, Bool, List, ℕ, Float}
use Rattle.lists.specs.Stored.{Stored}
use Rattle.monotone.specs.Monotone.{reached, monotone_at, Limits}
use Rattle.monotone.proofs.walk.Given as goal

-- at the segment i, before it adjusts its tangents
pub record Turn (box : Bool) (xs ys : List Float) (n i : ℕ) (tangents₀ tangents : List Float) (m : Float) : Type 0 where
  pub stored : Stored (monotone_at box xs ys n) 0 i tangents₀ tangents
  pub tangent : m ≡ reached box xs ys n i

abbrev pub invariant-loop-i : goal.invariant-loop-i
invariant-loop-i g l =
    (box : Bool) → Limits (goal.F-post g l.limit) box
    → Turn box l.knots.xs l.knots.ys l.knots.count l.i l.initial.tangents l.tangents l.m
