-- `lookup::replace` meets its contract: the loop replaces one value after another; the place it
-- reads is as it was when the loop began.
use Rattle.lists.specs.Stored.{Stored}
use Rattle.lookup.specs.Lookup.{looked}
use Rattle.lookup.proofs.replace.Given as goal

abbrev pub invariant-loop-j : goal.invariant-loop-j
invariant-loop-j l = Stored (looked l.table l.initial.block) 0 l.j l.initial.block l.block
