-- The facts about the tables of a given list, said of the definitions that the contracts of
-- `tables` cite, for every list of proper points in any order.
-- Through: every sample is finite, and under the seven kinds that are no splines one at a kept
-- point's x is its height; Missed: not under NotAKnotCubic. Near and Ordered, of Linear: how near a
-- sample and an entry are to the exact broken line, and that a table never falls where no point is
-- lower than the one before it.
-- Given has what the three share, BrokenLine that the exact broken line has one height.
-- Below them, of knots in rows: StraightLaws and ListLaws of straight pieces; CubicLaws of cubic
-- ones, whose tangents are finite: HermiteKinds, from the bounds in Sizes, SlopeBounds,
-- MonotoneBounds, RootBounds, AlphaBounds and CubicBounds. Of splines: SplineBounds, that their
-- second derivatives are finite, from ThomasBounds, and SplinePieces, that their pieces are.
pub mod BrokenLine
pub mod Sizes
pub mod SlopeBounds
pub mod MonotoneBounds
pub mod RootBounds
pub mod AlphaBounds
pub mod CubicBounds
pub mod CubicLaws
pub mod ThomasBounds
pub mod SplineBounds
pub mod SplinePieces
pub mod StraightLaws
pub mod ListLaws
pub mod HermiteKinds
pub mod Given
pub mod Through
pub mod Missed
pub mod Near
pub mod Ordered
