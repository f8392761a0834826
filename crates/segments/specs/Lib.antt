-- Segments and Straight have the definitions. Rows says what rows of knots are, SegmentLaws which
-- segment a position lies in, Samples where the samples of a table are.
pub mod Segments
pub mod Straight
pub mod Rows
pub mod SegmentLaws
pub mod Samples
