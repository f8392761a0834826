-- `raised` meets its contract: its last test is what it ensures. What is still too small is below 2
-- ^ 24, so the way to 2 ^ 26 is a measure.
use Rattle.std.proofs.Common.{◌-◌, ◌^◌, ◌≤◌}
use Rattle.single.proofs.root.raised.Given as goal

abbrev pub invariant-loop-r : goal.invariant-loop-r
invariant-loop-r l = l.r ≤ 2 ^ 26

abbrev pub decreases-loop-r : goal.decreases-loop-r
decreases-loop-r l = 2 ^ 26 - l.r
