-- `tables::to_bytes`: the loop stores the byte of sample v at v.
use Rattle.lists.specs.Stored.{Stored}
use Rattle.tables.specs.Tables.{byte_at}
use Rattle.tables.proofs.to_bytes.Given as goal

abbrev pub invariant-loop-v : goal.invariant-loop-v
invariant-loop-v l = Stored (byte_at l.samples) 0 l.v l.initial.bytes l.bytes
