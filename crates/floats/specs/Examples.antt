-- Rounding where a slip would show, computed: half-way cases, values below a half, the signs of
-- zeros, and reciprocals. Each word is pinned from both sides: the float that is the nearest, and
-- one that is not; a reciprocal, and what is none.
use Rattle.std.specs.Prelude.{◌≡◌, refl, ℕ, ◌^◌, ◌≤◌, true, false, pos, negsuc, Float}
use Rattle.std.proofs.Common.{arith, true≢false, lit<}
use Rattle.std.specs.Float.{inf, fin, binary32}
use Rattle.std.specs.Float.Ieee.{round, add, sub, mul, div, fits, to_bits}
use Rattle.floats.specs.Notation.{◌⊕◌, ◌⊖◌, ◌⊗◌, ◌⊘◌}
use Rattle.floats.specs.Value.{nought}
use Rattle.floats.specs.Round.{over}
use Rattle.floats.specs.NearestFloat.{NearestFloat, rounds_nearest}
use Rattle.floats.specs.Reciprocal.{Reciprocal}

differ : ◌≡◌ {A = ℕ} 0 1 → ⊥
differ e = omega arith

-- ---- half-way between 16,777,216, whose significand is even, and 16,777,218
pub half_way_down : NearestFloat binary32 (fin false 1 (pos 24)) 16777217 0 1
unfolding round
half_way_down =
    rounds_nearest binary32 (fin false 1 (pos 24)) 16777217 0 1 (lit< tt)
    (over 16777217 refl refl) tt

pub half_way_not_up : NearestFloat binary32 (fin false 8388609 (pos 1)) 16777217 0 1 → ⊥
unfolding fits to_bits
half_way_not_up r =
    let odd : ◌≡◌ {A = ℕ} 1 0 = r.even (fin false 1 (pos 24)) tt tt (λ e. differ (cc)) refl in
    omega arith

-- ---- half-way between 16,777,218 and 16,777,220, whose significand is even
pub half_way_up : NearestFloat binary32 (fin false 4194305 (pos 2)) 16777219 0 1
unfolding round
half_way_up =
    rounds_nearest binary32 (fin false 4194305 (pos 2)) 16777219 0 1 (lit< tt)
    (over 16777219 refl refl) tt

-- ---- 2 ^ -30, a float: 0 is not the nearest to it
pub small_itself : NearestFloat binary32 (fin false 1 (negsuc 29)) 1 0 (2 ^ 30)
unfolding round
small_itself =
    rounds_nearest binary32 (fin false 1 (negsuc 29)) 1 0 (2 ^ 30) (lit< tt) (over 1 refl refl) tt

pub small_not_zero : NearestFloat binary32 (nought false) 1 0 (2 ^ 30) → ⊥
unfolding fits
small_not_zero r = let none : 2 ^ 30 ≤ 0 = r.nearest (fin false 1 (negsuc 29)) tt tt in omega arith

-- ---- half of the smallest float: 0 is the even one
pub half_smallest : NearestFloat binary32 (nought false) 1 0 (2 ^ 150)
unfolding round
half_smallest =
    rounds_nearest binary32 (nought false) 1 0 (2 ^ 150) (lit< tt) (over 1 refl refl) tt

pub half_smallest_not_up : NearestFloat binary32 (fin false 1 (negsuc 148)) 1 0 (2 ^ 150) → ⊥
unfolding fits to_bits
half_smallest_not_up r =
    let odd : ◌≡◌ {A = ℕ} 1 0 = r.even (nought false) tt tt (λ e. differ (cc)) refl in
    omega arith

-- ---- zeros
abbrev 𝟏 : Float
𝟏 = fin false 1 (pos 0)

pub one_minus_one : 𝟏 ⊖ 𝟏 ≡ nought false
unfolding sub
one_minus_one = refl

pub minus_zeros_added : nought true ⊕ nought true ≡ nought true
unfolding add
minus_zeros_added = refl

pub zeros_added : nought true ⊕ nought false ≡ nought false
unfolding add
zeros_added = refl

pub minus_zero_times : nought true ⊗ 𝟏 ≡ nought true
unfolding mul
minus_zero_times = refl

pub zero_over_minus_one : nought false ⊘ fin true 1 (pos 0) ≡ nought true
unfolding div
zero_over_minus_one = refl

-- ---- reciprocals: −½ is that of −2, and not that of 2
abbrev −½ : Float
−½ = fin true 1 (negsuc 0)

pub reciprocal_below : Reciprocal (fin true 1 (pos 1)) −½
reciprocal_below = (refl, refl)

pub reciprocal_other_sign : Reciprocal (fin false 1 (pos 1)) −½ → ⊥
reciprocal_other_sign r = true≢false r.0

-- 0 is not that of an infinity, and the float nearest to a third is not that of 3: 5 / 3 is another
-- float than 5 times it. The bits are a processor's (the test `products` of bindings/rust)
abbrev 𝟑 : Float
𝟑 = fin false 3 (pos 0)

abbrev 𝟓 : Float
𝟓 = fin false 5 (pos 0)

abbrev third : Float
third = 𝟏 ⊘ 𝟑

pub reciprocal_infinite : Reciprocal (inf false) (nought false) → ⊥
reciprocal_infinite r = omega (arith, r.1)

pub reciprocal_inexact : Reciprocal 𝟑 third → ⊥
unfolding div
reciprocal_inexact r = omega (arith, r.1)

pub times_third : to_bits binary32 (𝟓 ⊗ third) ≡ 0x3fd5_5556
unfolding mul div to_bits
times_third = refl

pub over_three : to_bits binary32 (𝟓 ⊘ 𝟑) ≡ 0x3fd5_5555
unfolding div to_bits
over_three = refl
