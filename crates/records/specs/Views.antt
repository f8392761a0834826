-- What the results of the code mean in the words of `Format`.
use Rattle.std.specs.Prelude.{◌≡◌, List, ℕ, Bool, Result, Ok, Err, IfOk}
use Rattle.std.specs.Borrow.{Bor}
use Rattle.answers.specs.declared.Refusal.{Refusal}
use Rattle.answers.specs.Numbers.{done}
use Rattle.points.specs.declared.Point.{Point}
use Rattle.points.specs.declared.Curve.{Curve}
use Rattle.points.specs.declared.Heights.TheVariants.{Whole}
use Rattle.points.specs.Points.{list_of}
use Rattle.sets.specs.declared.Channel.{Channel}
use Rattle.sets.specs.declared.Curves.{Curves}
use Rattle.sets.specs.Sets.{empty_view, view_of, curve_answer, set_answer}
use Rattle.sets.specs.SameLaws.{Full}
use Rattle.records.specs.declared.RecordRead.{RecordRead}
use Rattle.records.specs.Parse.{Parse, good, refused}
use Rattle.records.specs.PointLists.{read_field}
use Rattle.records.specs.Format.{Read, read_record}

-- what a function found: a value, as f sees it, and the bytes after it, or a refusal
abbrev pub parsed_by : {A B : Type 0} → (A → B) → Result (A × Bor (List ℕ)) Refusal → Parse B
parsed_by f (Ok found) = good (f found.0) found.1.now
parsed_by f (Err r) = refused r

abbrev pub parsed : {A : Type 0} → Result (A × Bor (List ℕ)) Refusal → Parse A
parsed r = parsed_by (λ a. a) r

-- a list is read as p says, and passes the writer's check of a set's list
pub record ListRead (p : Parse (List Point)) (r : Result (Curve × Bor (List ℕ)) Refusal) :
    Type 0 where
  pub list : parsed_by list_of r ≡ p
  pub legal : IfOk r (λ found. curve_answer Whole found.0 ≡ done)

-- a colour is marked present or not; its list is read from the front of s, and passes the same
-- check
pub record ColourRead
    (present : Bool) (s : List ℕ) (r : Result (Channel × Bor (List ℕ)) Refusal) : Type 0 where
  pub mark : IfOk r (λ found. found.0.present ≡ present)
  pub list : parsed_by (λ c. list_of c.curve) r ≡ read_field present 0 s
  pub legal : IfOk r (λ found. curve_answer Whole found.0.curve ≡ done)

-- a set, or a refusal, beside which there is the empty set
abbrev pub found_set : Result Curves Refusal → Read
found_set (Ok set) = record { answer = done; set = view_of set }
found_set (Err r) = record { answer = Err r; set = empty_view }

-- a set that is read passes the writer's check, "whole heights only", and is stored as the types
-- have it
pub record ReadWhole (set : Curves) : Type 0 where
  pub legal : set_answer Whole set ≡ done
  pub full : Full set

-- what a call of the reader answers for these bytes
pub record ReadSetCall (stored : List ℕ) (r : Result Curves Refusal) : Type 0 where
  pub is : found_set r ≡ read_record stored
  pub whole : IfOk r ReadWhole

-- what a reader hands back: answer and set, and, on a refusal too, that the set passes the writer's
-- check, "whole heights only", and is stored as the types have it
pub record HandedBack (r : Read) (handed : RecordRead) : Type 0 where
  pub answer : handed.answer ≡ r.answer
  pub set : view_of handed.set ≡ r.set
  pub legal : set_answer Whole handed.set ≡ done
  pub full : Full handed.set

-- what a call of the reader hands back for these bytes
abbrev pub ReadRecordCall : List ℕ → RecordRead → Type 0
ReadRecordCall stored handed = HandedBack (read_record stored) handed
