-- The laws of single precision, in reading order. A finite float is a signed fraction of natural
-- numbers (Signed, Value), so few laws have a case for each sign; Order adds the infinities. Round
-- says which float a fraction is rounded to and that rounding keeps the order, Exact that it leaves
-- a value of the format as it is, Unique that such a value is known by its fraction. Ops says what
-- each operation rounds; from that follow the order (Mono), zeros and one as operands (Zero), the
-- signs (Sign), products in place of quotients (Reciprocal), exact results (Small).
-- NearestFloat says that rounding gives the nearest float, ties to even (and no other:
-- proofs/NearestLaws); Closest has the same of whole numbers, Parity when a significand is even,
-- Distance how far a float is from a fraction, Overflow where a result is infinite. Error bounds
-- the error of one rounding; Frac reckons with fractions, and Calc and Approx add up the errors of
-- a chain of operations. Bound says how large a result is, Within the same by powers of two. Whole
-- has the whole numbers, and the nearest one by two sums.
-- The six after that are about the pieces between two knots. Line has the straight piece as the
-- program computes it, Minus and Position the part of the way gone, Segment how near it is to the
-- exact line and that it keeps the order, Nearest what that means for the nearest whole number;
-- Cubic says that a cubic piece has the knot's height at either end. Examples has computed cases of
-- rounding and of reciprocals.
pub mod Notation
pub mod Signed
pub mod Value
pub mod Order
pub mod Round
pub mod Exact
pub mod Unique
pub mod Ops
pub mod Mono
pub mod Zero
pub mod Sign
pub mod Reciprocal
pub mod Small
pub mod Closest
pub mod Parity
pub mod Distance
pub mod NearestFloat
pub mod Error
pub mod Overflow
pub mod Frac
pub mod Calc
pub mod Approx
pub mod Bound
pub mod Within
pub mod Whole
pub mod Line
pub mod Minus
pub mod Position
pub mod Segment
pub mod Nearest
pub mod Cubic
pub mod Examples
