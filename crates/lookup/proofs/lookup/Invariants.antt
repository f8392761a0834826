-- `lookup::lookup` meets its contract: the blocks are replaced one after another, and what a block
-- finds is as the call found it.
use Rattle.std.proofs.Common.{min}
use Rattle.lists.specs.Stored.{Stored}
use Rattle.lookup.specs.Lookup.{looked}
use Rattle.lookup.proofs.lookup.Given as goal

abbrev pub invariant-loop-at : goal.invariant-loop-at
invariant-loop-at l =
    Stored (looked l.table l.initial.values) 0 (min l.at l.end) l.initial.values l.values
