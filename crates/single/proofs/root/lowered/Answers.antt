-- `lowered` meets its contract. That r is not too small stays: where the test holds, m is at most r
-- * r - r, which is (r - 1) * (r - 1) + (r - 1).
use Rattle.std.proofs.Common.{◌≡◌, ℕ, zero, suc, ◌+◌, ◌-◌, ◌*◌, ◌≤◌, ◌<◌, mul-le-mul, arith}
use mir.Facts.{Fits-below}
use Rattle.single.proofs.root.lowered.Goals.{In-loop-r}
use Rattle.single.proofs.root.lowered.Goals as goal

positive : (m x r : ℕ) → 0 < m → m + x ≤ r * r → 0 < r
positive m x zero a b = omega arith
positive m x (suc q) a b = omega arith

one_less : (m r : ℕ) → 0 < r → m + r ≤ r * r → m ≤ (r - 1) * (r - 1) + (r - 1)
one_less m zero a b = omega arith
one_less m (suc q) a b = let before : suc q - 1 ≡ q = omega arith in rw before (omega arith)

pub overflow_mul-r : goal.overflow_mul-r
overflow_mul-r c = Fits-below tt (mul-le-mul c.loop-r.invariant.1 c.loop-r.invariant.1)

at_least_one : (c : In-loop-r) → 0 < c.loop-r.r
at_least_one c = positive _ _ _ c.requires.0 c.loop-r-test.true

pub loop-r-smaller : goal.loop-r-smaller
loop-r-smaller c = omega (arith, at_least_one c)

pub loop-r-preserved : goal.loop-r-preserved
loop-r-preserved c = (one_less _ _ (at_least_one c) c.loop-r-test.true, omega arith)

pub overflow_sub-r : goal.overflow_sub-r
overflow_sub-r = at_least_one
