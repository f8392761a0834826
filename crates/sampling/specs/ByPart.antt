-- The samples by parts are those of the pieces' heights.
use Rattle.std.specs.Prelude.{◌≡◌, Float}
use Rattle.std.proofs.Common.{refl}
use Rattle.single.specs.Rules.{clamped}
use Rattle.segments.specs.Straight.{part}
use Rattle.sampling.specs.declared.Form.TheVariants.{Straight, Cubic}
use Rattle.points.specs.declared.Piece.{Piece}
use Rattle.sampling.specs.Pieces.{piece_height}
use Rattle.sampling.specs.Walk.{straight_sample, cubic_sample}

pub straight_is : (piece : Piece) (x : Float)
    → straight_sample piece (part piece.a piece.b x) ≡ clamped (piece_height Straight piece x)
unfolding piece_height
straight_is piece x = refl

pub cubic_is : (piece : Piece) (x : Float)
    → cubic_sample piece (part piece.a piece.b x) ≡ clamped (piece_height Cubic piece x)
unfolding piece_height
cubic_is piece x = refl
