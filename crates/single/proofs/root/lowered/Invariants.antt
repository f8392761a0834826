-- `lowered` meets its contract. That r is not too small stays: where the test holds, m is at most r
-- * r - r, which is (r - 1) * (r - 1) + (r - 1).
use Rattle.std.proofs.Common.{◌+◌, ◌*◌, ◌^◌, ◌≤◌}
use Rattle.single.proofs.root.lowered.Given as goal

abbrev pub invariant-loop-r : goal.invariant-loop-r
invariant-loop-r l = (l.m ≤ l.r * l.r + l.r) × (l.r ≤ 2 ^ 26)

abbrev pub decreases-loop-r : goal.decreases-loop-r
decreases-loop-r l = l.r
