-- `lookup::indices` meets its contract: the loop stores one index after another.
use Rattle.lists.specs.Stored.{Stored}
use Rattle.lookup.specs.Lookup.{index_from}
use Rattle.lookup.proofs.indices.Given as goal

abbrev pub invariant-loop-j : goal.invariant-loop-j
invariant-loop-j l = Stored (index_from l.block 0) 0 l.j l.initial.indices l.indices
