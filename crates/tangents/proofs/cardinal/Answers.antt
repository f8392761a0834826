-- `cardinal`: the loose slope from neighbour to neighbour.
use Rattle.std.proofs.Common.{rules}
use Rattle.tangents.specs.CatmullRom.{cardinal_at}
use Rattle.tangents.proofs.cardinal.Goals as goal

pub returns : goal.returns
unfolding cardinal_at
returns c =
    c.by_neighbours.ensures _ (λ i m h said. rw (← c.looseness-scale.ensures) (search rules))
