-- `begin`: blocks where the guesses are right, else nothing.
use Rattle.std.proofs.Common.{refl}
use Rattle.sampling.proofs.Walk.{start}
use Rattle.sampling.proofs.begin.Goals as goal

pub returns : goal.returns
returns g c = start refl c.args.pieces.knots.now.two
