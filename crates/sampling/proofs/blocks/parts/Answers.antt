-- `blocks::parts`: the four parts of the definition.
use Rattle.std.proofs.Common.{add-zero}
use Rattle.lists.specs.Tabulate.{tabulate}
use Rattle.sampling.specs.Walk.{part_from, parts_of}
use Rattle.sampling.proofs.blocks.parts.Goals as goal

pub returns : goal.returns
unfolding parts_of part_from tabulate
returns c =
    rw (
      c.part.ensures,
      c.part-2.ensures,
      c.part-3.ensures,
      c.part-4.ensures,
      c.position.ensures,
      c.position-2.ensures,
      c.position-3.ensures,
      c.position-4.ensures,
      c.at-piece.ensures,
      add-zero,
    )
