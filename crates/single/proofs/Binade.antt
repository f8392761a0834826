-- Why `Rooted` has the binade: 1 is not the root of the float just below it.
use Rattle.std.specs.Prelude.{◌≡◌, ℕ}
use Rattle.std.proofs.Common.{arith}
use Rattle.std.specs.Float.Ieee.{fits, of_bits}
use Rattle.single.specs.Constants.{𝟏}
use Rattle.single.specs.RootUnits.{Rooted, rooted_unique}
use Rattle.single.specs.RootLaws.{below_one, below_one_units, below_one_rooted}

pub one_not_rooted : Rooted below_one_units 𝟏 → ⊥
unfolding of_bits fits
one_not_rooted h =
    let e : below_one ≡ 𝟏 = rooted_unique below_one_rooted h in
    let z : ◌≡◌ {A = ℕ} 0 1 = cc in
    omega arith
