-- Lists of checks behind one another, and what a call that passed its checks knows.
use Rattle.std.specs.Prelude.{ℕ, ◌≤◌, ◌≡◌, List, [], ◌∷◌, ◌++◌, Err}
use Rattle.std.proofs.Common.{sym, ap, ◌∙◌, ltb-false}
use Rattle.answers.specs.declared.Refusal.{Refusal}
use Rattle.answers.specs.Numbers.{Answer, done, first_of}
use Rattle.answers.specs.Checks.{Check, first_refusal, room_check, first_append, all_passed}
use Rattle.answers.proofs.NumberLaws.{both_done}

-- what code answers that asks for the second list only once the first one has passed
module _ (cs ds : List Check) where
  pub first_stops : {r : Refusal} → first_refusal cs ≡ Err r
      → Err r ≡ first_refusal (cs ++ ds)
  first_stops e = ap (λ a. first_of a (first_refusal ds)) (sym e) ∙ sym (first_append cs ds)

  pub first_goes_on : {b : Answer} → first_refusal cs ≡ done → b ≡ first_refusal ds
      → b ≡ first_refusal (cs ++ ds)
  first_goes_on p q = q ∙ ap (λ x. first_of x (first_refusal ds)) (sym p) ∙ sym (first_append cs ds)

-- where nothing is refused, neither list has a refusal
pub done_append : (cs ds : List Check) → first_refusal (cs ++ ds) ≡ done
    → (first_refusal cs ≡ done) × (first_refusal ds ≡ done)
done_append cs ds e = both_done (first_refusal cs) (first_refusal ds) (sym (first_append cs ds) ∙ e)

-- what a check of room that passed says
pub has_room : (count held : ℕ) → first_refusal (room_check count held ∷ []) ≡ done → count ≤ held
has_room count held e = ltb-false held count (all_passed (room_check count held ∷ []) e).0
