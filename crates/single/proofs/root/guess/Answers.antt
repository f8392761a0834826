-- `guess` meets its contract, which is its range: every product is bounded by the most
-- that its factors can be.
use Rattle.std.proofs.Common.{ℕ, ◌+◌, ◌-◌, ◌*◌, ◌/◌, ◌^◌, ◌≤◌, le_trans, le_of_lt, sub-le, mul-le-mul, add-le-add, le_refl, arith, lit≤}
use native.Mathlib.Nat.{div-le_of_le-mul}
use mir.Facts.{Fits-below}
use Rattle.single.proofs.root.guess.Goals.{After-inverse_root-y}
use Rattle.single.proofs.root.guess.Goals as goal

-- what is divided to s, and s; what is divided to the inverse, and the inverse;
-- the numerator of the step
abbrev Product : After-inverse_root-y → ℕ
Product c = c.args.a * (32768 + 13573 * c.args.odd) * c.inverse_root-y.result

abbrev S : After-inverse_root-y → ℕ
S c = Product c / 274877906944

abbrev Scaled : After-inverse_root-y → ℕ
Scaled c = c.inverse_root-y.result / 256 * (32768 - 9598 * c.args.odd)

abbrev Step : After-inverse_root-y → ℕ
Step c = (c.args.m - S c * S c) * (Scaled c / 32768)

first-most : (c : After-inverse_root-y) → c.args.a * (32768 + 13573 * c.args.odd) ≤ 2 ^ 24 * 46341
first-most c = let h : 32768 + 13573 * c.args.odd ≤ 46341 = omega arith in
    mul-le-mul (le_of_lt c.requires.1) h

product-most : (c : After-inverse_root-y) → Product c ≤ 2 ^ 24 * 46341 * (3 * 2 ^ 22)
product-most c = mul-le-mul (first-most c) (le_of_lt c.inverse_root-y.ensures)

s-most : (c : After-inverse_root-y) → S c ≤ 35589888
s-most c = div-le_of_le-mul 274877906944 (product-most c)

scaled-most : (c : After-inverse_root-y) → Scaled c ≤ 49152 * 32768
scaled-most c =
    let y : c.inverse_root-y.result / 256 ≤ 49152 = omega (arith, c.inverse_root-y.ensures) in
    mul-le-mul y (sub-le 32768 (9598 * c.args.odd))

step-most : (c : After-inverse_root-y) → Step c ≤ 2 ^ 48 * 49152
step-most c =
    mul-le-mul (le_trans (sub-le c.args.m (S c * S c)) (le_of_lt c.requires.3))
    (div-le_of_le-mul 32768 {n = 49152} (scaled-most c))

pub overflow_mul-s-2 : goal.overflow_mul-s-2
overflow_mul-s-2 c = Fits-below tt (first-most c)

pub overflow_mul-s-3 : goal.overflow_mul-s-3
overflow_mul-s-3 c = Fits-below tt (product-most c)

pub overflow_mul-s-4 : goal.overflow_mul-s-4
overflow_mul-s-4 c = Fits-below tt (mul-le-mul (s-most c) (s-most c))

pub returns-then-m-s : goal.returns-then-m-s
returns-then-m-s c = le_trans (s-most c.before) (lit≤ tt)

pub overflow_mul-inverse-2 : goal.overflow_mul-inverse-2
overflow_mul-inverse-2 c = Fits-below tt (scaled-most c.before)

pub overflow_mul-result-2 : goal.overflow_mul-result-2
overflow_mul-result-2 c = Fits-below tt (step-most c.before)

pub overflow_add-result : goal.overflow_add-result
overflow_add-result c = Fits-below tt (add-le-add (step-most c.before) (le_refl 274877906944))

sum-most : (s w : ℕ) → s ≤ 35589888 → w ≤ 2 ^ 48 * 49152 → s + (w + 274877906944) / 549755813888 ≤ 2 ^ 26
sum-most s w a b = omega arith

pub returns : goal.returns
returns c = sum-most _ _ (s-most c.before) (step-most c.before)

pub overflow_add-result-2 : goal.overflow_add-result-2
overflow_add-result-2 c = Fits-below tt (returns c)
