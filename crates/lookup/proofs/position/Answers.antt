-- `lookup::position` meets its contract.
use Rattle.lookup.specs.Lookup.{position}
use Rattle.lookup.proofs.position.Goals as goal

pub returns : goal.returns
unfolding position
returns c = rw c.clamp_unit.ensures
