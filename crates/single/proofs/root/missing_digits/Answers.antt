-- `missing_digits` meets its contract: t has j + 1 digits, of 23 at most, and z zeros before them,
-- of 32 places; so z - 8 more make 24.
use Rattle.std.proofs.Common.{◌≡◌, ℕ, suc, ◌+◌, ◌-◌, ◌*◌, ◌^◌, ◌≤◌, ◌<◌, le_trans, not-le_of_lt, lt_of_not-le, mul-le-mul_right, mul-lt-mul_of_pos_right, arith, pow_pos, pow-add, pow_mono}
use lib.Count.{count_leading_zeros, leading_top}
use Rattle.single.proofs.root.missing_digits.Goals as goal

-- r more digits make 24
abbrev Made : ℕ → ℕ → Type 0
Made t r = (2 ^ 23 ≤ t * 2 ^ r) × (t * 2 ^ r < 2 ^ 24) × (r ≤ 24)

lifted : (t z j : ℕ) → z + suc j ≡ 32 → 2 ^ j ≤ t → t < 2 ^ suc j → t < 2 ^ 23 → (8 ≤ z) × Made t (z - 8)
lifted t z j e a b l =
    let g : j < 23 = lt_of_not-le (λ (g : 23 ≤ j). not-le_of_lt l (le_trans (pow_mono g) a)) in
    let low : j + (z - 8) ≡ 23 = omega arith in
    let high : suc j + (z - 8) ≡ 24 = omega arith in
    let least = rw (← pow-add 2 j, low) at (mul-le-mul_right (2 ^ (z - 8)) a) in
    let most = rw (← pow-add 2 (suc j), high) at (mul-lt-mul_of_pos_right b (pow_pos (z - 8))) in
    (omega arith, (least, most, omega arith))

all : (t : ℕ) → 0 < t → t < 2 ^ 23 → (8 ≤ count_leading_zeros 32 t) × Made t (count_leading_zeros 32 t - 8)
all t p l = let (j, sum, low, high) = leading_top 32 t p (omega arith) in lifted t (count_leading_zeros 32 t) j sum low high l

pub overflow_sub-result : goal.overflow_sub-result
overflow_sub-result c = (all c.args.t c.requires.0 c.requires.1).0

pub returns : goal.returns
returns c = (all c.args.t c.requires.0 c.requires.1).1
