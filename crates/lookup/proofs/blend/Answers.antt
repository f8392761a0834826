-- `lookup::blend` meets its contract: both entries are the table's, since no index passes 4,094.
use Rattle.std.proofs.Common.{arith}
use Rattle.lookup.specs.Lookup.{blended}
use Rattle.lookup.specs.Laws.{entry_inside}
use Rattle.lookup.proofs.blend.Goals as goal

pub bounds-table-i : goal.bounds-table-i
bounds-table-i c = omega (arith, entry_inside c.args.v)

pub bounds-table-next : goal.bounds-table-next
bounds-table-next c = omega (arith, entry_inside c.args.v)

pub returns : goal.returns
unfolding blended
returns c =
    rw (c.count_to_float.ensures, c.position.ensures, c.requires.1)
