-- each answer has a number of its own, and none has 1
pub mod NumberLaws
-- lists of checks behind one another
pub mod CheckLaws
-- a check that fails refuses
pub mod Refusals
