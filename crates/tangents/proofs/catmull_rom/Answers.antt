-- `catmull_rom`: the slope from neighbour to neighbour.
use Rattle.std.proofs.Common.{rules}
use Rattle.tangents.specs.CatmullRom.{catmull_rom_at}
use Rattle.tangents.proofs.catmull_rom.Goals as goal

pub returns : goal.returns
unfolding catmull_rom_at
returns c = c.by_neighbours.ensures _ (λ i m h said. search rules)
