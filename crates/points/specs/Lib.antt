-- points, given lists, the kept points, and the checks of a list
pub mod Points
-- what is known once they have passed
pub mod CheckLaws
-- knots, their rows of floats, and the exact broken line
pub mod Knots
-- what the small functions of sorting answer
pub mod Steps
-- words for points one by one and in order
pub mod Order
-- laws of the test of heights
pub mod HeightLaws
-- laws of the kept points
pub mod Kept
-- laws of the knots
pub mod Shape
-- laws of their rows
pub mod Rows
-- two rows as a list of points
pub mod Joined
-- what follows from owning a list
pub mod Owned
-- lists, knots and lines at their edges, computed
pub mod Examples
