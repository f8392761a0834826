-- A check that fails refuses: done is no refusal. And the laws of code that asked whether an answer
-- was done, or joined two, which `?` does now.
use Rattle.std.specs.Prelude.{◌≡◌, refl, Bool, true, false, not, List, ◌++◌, Ok, Err}
use Rattle.std.proofs.Common.{sym, ap, ◌∙◌, true≢false}
use Rattle.std.proofs.lemmas.Bool.{not-true, not-false}
use Rattle.answers.specs.Numbers.{Answer, is_done, first_of}
use Rattle.answers.specs.Checks.{Check, first_refusal, first_append}
use Rattle.answers.proofs.NumberLaws.{done_is}
use Rattle.answers.proofs.CheckLaws.{first_stops}

pub refusal : (c : Check) → c.fails ≡ true → is_done (Err c.refusal) ≡ false
refusal c e = refl

-- code asked whether a is done, and tested that it is not
module _ (a : Answer) {done : Bool} (is : done ≡ is_done a) where
  pub asked_refused : not done ≡ true → is_done a ≡ false
  asked_refused t = sym is ∙ not-true done t

  pub asked_done : not done ≡ false → a ≡ Ok tt
  asked_done t = done_is a (sym is ∙ not-false done t)

-- what code answers that asks for the second list whatever the first one says, or stops at the first
module _ (cs ds : List Check) where
  pub first_then : {a b r : Answer} → a ≡ first_refusal cs → b ≡ first_refusal ds → r ≡ first_of a b
      → r ≡ first_refusal (cs ++ ds)
  first_then {b = b} p q e =
      e ∙ ap (λ x. first_of x b) p ∙ ap (first_of (first_refusal cs)) q ∙ sym (first_append cs ds)

  pub stopped : (a : Answer) → a ≡ first_refusal cs → is_done a ≡ false
      → a ≡ first_refusal (cs ++ ds)
  stopped (Ok tt) e refused = absurd (true≢false refused)
  stopped (Err r) e refused = first_stops cs ds (sym e)
