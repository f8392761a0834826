-- the pieces of a curve, and its samples
pub mod Pieces
-- how the code goes through the samples
pub mod Walk
-- the x of the samples rise
pub mod Positions
-- a sample by parts is that of the height
pub mod ByPart
