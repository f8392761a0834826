-- The square root of a float: "the correctly rounded one of IEEE 754, stated over whole numbers by
-- comparing squares". Definitions only.
-- `NearestRoot` says what `nearest_root` is without digits, and `RootLaws` what `root_of` is.
use Prim.Native.Nat.{ℕ, zero, suc, ◌+◌, ◌-◌, ◌*◌, ◌/◌, ◌^◌, compare}
use Rattle.std.specs.Prelude.{true, false, cond, leb, Float}
use Rattle.std.specs.Float.{nan, inf, fin, binary32}
use Rattle.std.specs.Float.Ieee.{up, down, size, nearest, units}

-- The largest number whose square is at most n, of those from r below r + 2 ^ d.
-- From the highest digit down, a digit is set where the square stays at most n.
unfoldable pub root_digits : ℕ → ℕ → ℕ → ℕ
root_digits zero r n = r
root_digits (suc d) r n = root_digits d (cond (leb ((r + 2 ^ d) * (r + 2 ^ d)) n) (r + 2 ^ d) r) n

-- The p for which p * 2 ^ k is nearest to the root of n. q is the largest that is not above the
-- root; half-way to the next is (2 * q + 1) * 2 ^ k / 2, and the square of twice that is compared
-- with 4 * n. At a tie the even one.
unfoldable pub nearest_root : ℕ → ℕ → ℕ
unfolding root_digits
nearest_root n k =
    let q = root_digits 24 0 (n / (2 ^ k * 2 ^ k)) in
    let half = (2 * q + 1) * 2 ^ k in
    nearest q (compare (4 * n) (half * half))

-- The root of n as a float, n being at least 2 ^ 46. A unit is the smallest positive float:
-- 1.0 has 2 ^ 149 of them.
-- n is the argument's units times 2 ^ 149, so that its root is in units too.
-- The root has half of n's digits, rounded up; 24 of them are kept and k dropped.
unfoldable pub root_of_units : ℕ → Float
unfolding nearest_root units size
root_of_units n = let k = suc (size n) / 2 - 24 in units binary32 false (nearest_root n k) k

-- the square root of a float: a zero is its own, and what is negative has none
unfoldable pub root_of : Float → Float
unfolding root_of_units
root_of nan = nan
root_of (inf true) = nan
root_of (inf false) = inf false
root_of (fin s zero e) = fin s zero e
root_of (fin true (suc m) e) = nan
root_of (fin false (suc m) e) = root_of_units (suc m * up e * 2 ^ 149 / down e * 2 ^ 149)
