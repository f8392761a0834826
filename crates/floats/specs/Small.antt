-- Operations that are exact: on fractions of a power of two with few digits, on whole numbers, zero
-- over a number and a number over itself.
use Rattle.std.proofs.Common.{sym, inl, zero-add, mul-pos, arith, lit<, lit≤, pow-add, pow_pos}
use Rattle.std.specs.Prelude.{ℕ, ◌+◌, ◌-◌, ◌*◌, ◌^◌, ◌≤◌, ◌<◌, Float}
use Rattle.std.specs.Float.{Format, binary32}
use Rattle.std.specs.Float.Ieee.{unlike, div}
use Rattle.floats.specs.Notation.{◌⊕◌, ◌⊖◌, ◌⊗◌, ◌⊘◌}
use Rattle.floats.specs.Value.{Is, is_same, nonzero_is, sign, nought_is}
use Rattle.floats.specs.Round.{Rounds, rounds_same}
use Rattle.floats.specs.Exact.{rep_zero, rep_dyadic, rounds_exact}
use Rattle.floats.specs.Zero.{zero_over}
use Rattle.floats.specs.Ops.{add_rounds, sub_rounds, mul_rounds, div_rounds}

-- ---- fractions of 2 ^ i, where the result has at most 24 digits
spare : (a b k : ℕ) → 0 < k → a < b + k → a - b < k
spare a b k K h = omega arith

dyadic : (z : Float) (p n i : ℕ) → i ≤ 149 → p < n + 2 ^ 24 → n < p + 2 ^ 24
    → Rounds binary32 z p n (2 ^ i) → Is z p n (2 ^ i)
dyadic z p n i I a b r =
    rounds_exact _ z p n (2 ^ i) (pow_pos i) r (rep_dyadic (p - n) i I (spare p n _ (pow_pos 24) a))
    (rep_dyadic (n - p) i I (spare n p _ (pow_pos 24) b))

-- over a common denominator
common : (z : Float) (p n q m d : ℕ) → 0 < d
    → Rounds binary32 z (p * d + q * d) (n * d + m * d) (d * d)
    → Rounds binary32 z (p + q) (n + m) d
common z p n q m d D r =
    rounds_same _ z _ _ (d * d) (p + q) (n + m) d (mul-pos D D) D r (omega arith)

pub dyadic_add : (x y : Float) (p n q m i : ℕ) → i ≤ 149 → p + q < n + m + 2 ^ 24
    → n + m < p + q + 2 ^ 24
    → Is x p n (2 ^ i) → Is y q m (2 ^ i) → Is (x ⊕ y) (p + q) (n + m) (2 ^ i)
dyadic_add x y p n q m i I a b h k =
    dyadic (x ⊕ y) (p + q) (n + m) i I a b
    (common (x ⊕ y) p n q m (2 ^ i) (pow_pos i)
    (add_rounds _ x y p n (2 ^ i) q m (2 ^ i) (pow_pos i) (pow_pos i) h k))

pub dyadic_sub : (x y : Float) (p n q m i : ℕ) → i ≤ 149 → p + m < n + q + 2 ^ 24
    → n + q < p + m + 2 ^ 24
    → Is x p n (2 ^ i) → Is y q m (2 ^ i) → Is (x ⊖ y) (p + m) (n + q) (2 ^ i)
dyadic_sub x y p n q m i I a b h k =
    dyadic (x ⊖ y) (p + m) (n + q) i I a b
    (common (x ⊖ y) p n m q (2 ^ i) (pow_pos i)
    (sub_rounds _ x y p n (2 ^ i) q m (2 ^ i) (pow_pos i) (pow_pos i) h k))

pub dyadic_mul : (x y : Float) (p n q m i j : ℕ) → i + j ≤ 149
    → p * q + n * m < p * m + n * q + 2 ^ 24 → p * m + n * q < p * q + n * m + 2 ^ 24
    → Is x p n (2 ^ i) → Is y q m (2 ^ j) → Is (x ⊗ y) (p * q + n * m) (p * m + n * q) (2 ^ (i + j))
dyadic_mul x y p n q m i j I a b h k =
    dyadic (x ⊗ y) _ _ (i + j) I a b
    (rw pow-add (mul_rounds _ x y p n (2 ^ i) q m (2 ^ j) (pow_pos i) (pow_pos j) h k))

-- ---- whole numbers that are not negative, nor their difference; for the others there are
-- the laws above, at i = 0
pub whole_add : (x y : Float) (a b : ℕ) → a + b < 2 ^ 24 → Is x a 0 1 → Is y b 0 1
    → Is (x ⊕ y) (a + b) 0 1
whole_add x y a b s h k = dyadic_add x y a 0 b 0 0 (lit≤ tt) (omega arith) (omega arith) h k

pub whole_sub : (x y : Float) (a b : ℕ) → b ≤ a → a < 2 ^ 24 → Is x a 0 1 → Is y b 0 1
    → Is (x ⊖ y) (a - b) 0 1
whole_sub x y a b l s h k =
    is_same (x ⊖ y) (a + 0) (0 + b) 1 (a - b) 0 1 (lit< tt)
    (dyadic_sub x y a 0 b 0 0 (lit≤ tt) (omega arith) (omega arith) h k) (omega arith)

pub whole_mul : (x y : Float) (a b : ℕ) → a * b < 2 ^ 24 → Is x a 0 1 → Is y b 0 1
    → Is (x ⊗ y) (a * b) 0 1
whole_mul x y a b s h k =
    is_same (x ⊗ y) _ _ 1 (a * b) 0 1 (lit< tt)
    (dyadic_mul x y a 0 b 0 0 0 (lit≤ tt) (omega arith) (omega arith) h k) (omega arith)

-- ---- quotients by a number above zero: of zero, and of the number itself. Of zero by a number of
-- either sign, as an equation: `zero_over` of Zero
pub zero_div : (f : Format) (x y : Float) (q d : ℕ) → 0 < q → 0 < d → Is x 0 0 1 → Is y q 0 d
    → Is (div f x y) 0 0 1
zero_div f x y q d Q D h k =
    rw (zero_over f x y h (nonzero_is y q 0 d q k (inl (sym (zero-add q))) Q))
    (nought_is (unlike (sign x) (sign y)))

pub div_self : (x y : Float) (h d : ℕ) → 0 < h → 0 < d → Is x h 0 d → Is y h 0 d → Is (x ⊘ y) 1 0 1
div_self x y h d H D i k =
    rounds_exact _ (x ⊘ y) 1 0 1 (lit< tt)
    (rounds_same _ (x ⊘ y) (h * d) (0 * d) (d * h) 1 0 1 (mul-pos D H) (lit< tt)
    (div_rounds _ x y h 0 d h d D D H i k) (omega arith)) (rep_dyadic 1 0 (lit≤ tt) (lit< tt))
    (rep_zero _ 1)
