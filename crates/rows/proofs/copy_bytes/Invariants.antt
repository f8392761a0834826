-- `copy_bytes`: the bytes below i are there.
use Rattle.lists.specs.Stored.{Stored}
use Rattle.lists.specs.Copied.{element_of}
use Rattle.rows.proofs.copy_bytes.Given as goal

abbrev pub invariant-loop-i : goal.invariant-loop-i
invariant-loop-i l = Stored (element_of 0 l.src) 0 l.i l.initial.dst l.dst
