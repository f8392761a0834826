-- What the contracts of the writer's functions say of its bytes. Definitions only.
use Rattle.std.specs.Prelude.{ℕ, ◌+◌, ◌≤◌, ◌≡◌, List, ◌++◌, Result, Ok, IfOk}
use Rattle.std.specs.Result.{result_and}
use Rattle.std.proofs.Math.ListN as ListN
use Rattle.arrayvec.specs.ArrayVec.{ArrayVec}
use Rattle.answers.specs.declared.Refusal.{Refusal}
use Rattle.sets.specs.declared.Curves.{Curves}
use Rattle.tables.specs.Kinds.{LegalKind}
use Rattle.sets.specs.SameLaws.{Full}
use Rattle.records.specs.Format.{longest}
use Rattle.writing.specs.Encode.{Write, write_record}

-- there is room for these behind the bytes made so far
pub record Room (bs : List ℕ) (draft : ArrayVec ℕ) : Type 0 where
  pub room : ListN.length draft.items + ListN.length bs ≤ longest

-- these are behind the bytes that were made before
pub record Appended (bs : List ℕ) (before after : ArrayVec ℕ) : Type 0 where
  pub bytes : after.items ≡ before.items ++ bs
  pub length : ListN.length after.items ≡ ListN.length before.items + ListN.length bs

-- what the types say of a set that code holds: arrays of 64 points, a byte of
-- tension, slopes of 16 bits
pub record Held (set : Curves) : Type 0 where
  pub full : Full set
  pub kind : LegalKind set.interpolation

-- the length, or the refusal
abbrev pub length_or_refusal : Write → Result ℕ Refusal
length_or_refusal w = result_and w.answer (Ok w.length)

-- what the writer answers for a set and a buffer that held `before` and holds `after`.
-- Theorems on runs use `held`.
pub record WriteRecordCall (set : Curves) (before : List ℕ) (r : Result ℕ Refusal)
    (after : List ℕ) : Type 0 where
  pub answer : r ≡ length_or_refusal (write_record set before)
  pub buffer : after ≡ (write_record set before).buffer
  pub held : IfOk r (λ length. Held set)
