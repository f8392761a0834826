-- `raised` meets its contract: its last test is what it ensures. What is still too small is below 2
-- ^ 24, so the way to 2 ^ 26 is a measure.
use Rattle.std.proofs.Common.{ℕ, ◌+◌, ◌*◌, ◌^◌, ◌≤◌, ◌<◌, lt_of_not-le, mul-le-mul, arith}
use mir.Facts.{Fits-below}
use Rattle.single.proofs.root.raised.Goals as goal

still-below : (m r : ℕ) → m < 2 ^ 48 → r * r + r < m → r < 2 ^ 24
still-below m r h t = lt_of_not-le (λ (g : 2 ^ 24 ≤ r). let s : 2 ^ 48 ≤ r * r = mul-le-mul g g in omega arith)

pub overflow_mul-r : goal.overflow_mul-r
overflow_mul-r c = Fits-below tt (mul-le-mul c.loop-r.invariant c.loop-r.invariant)

pub overflow_add-r : goal.overflow_add-r
overflow_add-r c = omega (arith, mul-le-mul c.loop-r.invariant c.loop-r.invariant)

pub loop-r-smaller : goal.loop-r-smaller
loop-r-smaller c = omega (arith, still-below _ _ c.requires.0 c.loop-r-test.true)

pub loop-r-preserved : goal.loop-r-preserved
loop-r-preserved c = omega (arith, still-below _ _ c.requires.0 c.loop-r-test.true)
