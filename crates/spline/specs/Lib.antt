-- segments, pieces and slopes of a spline
pub mod Segments
-- the Thomas solve
pub mod Thomas
-- laws of back substitution
pub mod ThomasLaws
-- second derivatives under each boundary rule
pub mod Second
-- few knots, computed
pub mod Examples
