-- What the writer's definition comes to: a refusal, a record written; and that
-- it answers nothing else; and what a run of it answers then.
use Rattle.std.specs.Prelude.{ℕ, ◌≤◌, ◌≡◌, refl, false, List, [], ◌∷◌, ◌++◌, drop, Result, Ok, Err}
use Rattle.std.proofs.Common.{sym, ◌∙◌, true≢false, le-ltb}
use Rattle.std.proofs.Math.Path.{ap}
use Rattle.std.proofs.Math.ListN as ListN
use Rattle.lists.specs.Test.{by_test}
use Rattle.answers.specs.declared.Refusal.{Refusal}
use Rattle.answers.specs.Numbers.{is_done, Answer, answer_of, done}
use Rattle.answers.proofs.NumberLaws.{done_is, answer_handed}
use Rattle.answers.specs.Checks.{Check, first_refusal, room_check}
use Rattle.answers.proofs.CheckLaws.{first_goes_on, done_append, has_room}
use Rattle.points.specs.declared.Heights.TheVariants.{Whole}
use Rattle.sets.specs.declared.Curves.{Curves}
use Rattle.sets.specs.Sets.{view_of, curve_checks, set_checks, set_answer}
use Rattle.writing.specs.Encode.{encode, outcome, write_checks, write_record}
use Rattle.writing.specs.Statements.{Held, WriteRecordCall}

module _ (s : Curves) (buffer : List ℕ) where
  abbrev room : List Check
  room = room_check (ListN.length (encode (view_of s))) (ListN.length buffer) ∷ []

  -- from the answer
  pub written : {a : Answer} → a ≡ first_refusal (write_checks s (ListN.length buffer))
      → write_record s buffer ≡ outcome a (encode (view_of s)) buffer
  unfolding write_record
  written e = ap (λ a. outcome a (encode (view_of s)) buffer) (sym e)

  module _ (passed : set_answer Whole s ≡ done) where
    pub write_passed : write_record s buffer
        ≡ outcome
        (first_refusal (room_check (ListN.length (encode (view_of s))) (ListN.length buffer) ∷ []))
        (encode (view_of s)) buffer
    unfolding set_answer
    write_passed = written (first_goes_on (set_checks (curve_checks Whole) s) room passed refl)

    pub write_done : ListN.length (encode (view_of s)) ≤ ListN.length buffer
        → write_record s buffer ≡ record {
          answer = done;
          length = ListN.length (encode (view_of s));
          buffer = encode (view_of s) ++ drop (ListN.length (encode (view_of s))) buffer;
        }
    unfolding set_answer
    write_done enough =
        written (first_goes_on (set_checks (curve_checks Whole) s) room passed refl)
        ∙ rw (le-ltb _ _ enough)

  -- the answer is the first refusal of the checks
  outcome_answer : (a : Answer) (bytes : List ℕ) → (outcome a bytes buffer).answer ≡ a
  outcome_answer a bytes = by_test (is_done a) (λ t. rw t (sym (done_is a t))) (λ t. rw t)

  pub write_answer : (write_record s buffer).answer
      ≡ first_refusal (write_checks s (ListN.length buffer))
  unfolding write_record
  write_answer = outcome_answer _ (encode (view_of s))

  -- beside a refusal the buffer is as it was
  outcome_unchanged : (a : Answer) (bytes : List ℕ)
      → is_done (outcome a bytes buffer).answer ≡ false → (outcome a bytes buffer).buffer ≡ buffer
  outcome_unchanged a bytes e =
      by_test (is_done a) (λ t. absurd (true≢false (rw t at e))) (λ t. rw t)

  pub write_unchanged : is_done (write_record s buffer).answer ≡ false
      → (write_record s buffer).buffer ≡ buffer
  unfolding write_record
  write_unchanged e =
      outcome_unchanged (first_refusal (write_checks s (ListN.length buffer)))
      (encode (view_of s)) e

  pub done_case : (write_record s buffer).answer ≡ done
      → (set_answer Whole s ≡ done) × (ListN.length (encode (view_of s)) ≤ ListN.length buffer)
  unfolding set_answer
  done_case e =
      let d = done_append (set_checks (curve_checks Whole) s) room (sym write_answer ∙ e) in
      (d.0, has_room _ _ d.1)

-- ---- in a run
module _ {set : Curves} {before after : List ℕ} {r : Result ℕ Refusal}
    (run : WriteRecordCall set before r after) where
  pub run_answer : answer_of r ≡ (write_record set before).answer
  run_answer = ap answer_of run.answer ∙ answer_handed (write_record set before).answer _

  -- a refusal is the definition's
  pub run_refused : {e : Refusal} → (write_record set before).answer ≡ Err e → r ≡ Err e
  run_refused is = rw is at run.answer

  -- and so is a length
  pub run_done : {n : ℕ} → r ≡ Ok n → (write_record set before).answer ≡ done
  run_done is = sym run_answer ∙ ap answer_of is

  pub run_length : {n : ℕ} → r ≡ Ok n → n ≡ (write_record set before).length
  run_length is = let long = rw (run_done is) at run.answer in cc

  pub run_held : {n : ℕ} → r ≡ Ok n → Held set
  run_held is = rw is at run.held
