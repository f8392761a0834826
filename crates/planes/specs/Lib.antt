-- the rows of a plane
pub mod Planes
-- what a row holds
pub mod RowLaws
