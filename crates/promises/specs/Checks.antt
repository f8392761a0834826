-- The words of the first demand: what it says of a call with these checks. The lists of checks are
-- those of the calls' contracts, each in document 01's order and said once: `list_checks` of points,
-- `table_checks` of tables, `lookup_checks` of lookup, `set_checks` of sets, `record_checks` of
-- records, `write_checks` of writing, `lut_checks` and `picture_checks` of formats, `run_checks` of
-- pictures, and those of the C boundary.
use Rattle.std.specs.Prelude.{ℕ, ◌<◌, ◌≡◌, false, List, eqb}
use Rattle.std.proofs.Common.{arith, sym, ap, ◌∙◌, ne_eqb}
use Rattle.answers.specs.Numbers.{Answer, number_of, is_done}
use Rattle.answers.specs.Checks.{Check, first_refusal}
use Rattle.answers.proofs.NumberLaws.{number_done}

pub record Answers (checks : List Check) (number : ℕ) (Unchanged : Type 0) : Type 0 where
  -- it finishes with 0 or "with the first refusal number that document 01 names"
  pub first : number ≡ number_of (first_refusal checks)
  -- "a refusal changes no byte lent"; a table handed back with it "is all 0 and a list is empty", a
  -- set is "the empty set of the default kind"
  pub unchanged : 0 < number → Unchanged

-- so a call does whose contract tells its number, and what it leaves where that is not 0
pub answers : {checks : List Check} {number : ℕ} {Unchanged : Type 0}
    → number ≡ number_of (first_refusal checks) → (eqb number 0 ≡ false → Unchanged)
    → Answers checks number Unchanged
answers {number = number} e leaves =
    record { first = e; unchanged = λ refusal. leaves (ne_eqb number 0 (λ z. omega arith)) }

-- so a call does whose contract tells its answer
pub answers_first : {checks : List Check} {a : Answer} {Unchanged : Type 0}
    → a ≡ first_refusal checks → (is_done a ≡ false → Unchanged)
    → Answers checks (number_of a) Unchanged
answers_first {a = a} e leaves = answers (ap number_of e) (λ no. leaves (sym (number_done a) ∙ no))
