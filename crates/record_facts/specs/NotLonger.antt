-- How much longer than a record the writer's record of its set may be: a byte, where the record
-- leaves kind 2 out, and else nothing.
use Rattle.std.specs.Prelude.{ℕ, ◌+◌, ◌≤◌, ◌≡◌, List, length}
use Rattle.std.proofs.Common.{arith}
use Rattle.records.specs.Format.{read_record}
use Rattle.writing.specs.Encode.{one_if, encode}
use Rattle.record_facts.specs.Canonical.{leaves_two_out, accepted_length}
use Rattle.answers.specs.Numbers.{done}

pub not_longer : (s : List ℕ) → (read_record s).answer ≡ done
    → length (encode (read_record s).set) ≤ length s + one_if (leaves_two_out s)
not_longer s accepted = omega (arith, accepted_length s accepted)
