-- Different answers have different numbers, none of them 1; and what code knows that asks whether an
-- answer is done.
use Rattle.std.specs.Prelude.{◌≡◌, refl, true, eqb, get_or, Result, Ok, Err}
use Rattle.std.specs.Result.{result_and, IsErrAnd}
use Rattle.std.proofs.lemmas.Result.{err_from_is_err_and}
use Rattle.std.proofs.Common.{arith, sym, ap, ◌∙◌, true≢false, ne_eqb}
use Rattle.answers.specs.declared.Refusal.{Refusal}
use Rattle.answers.specs.Numbers.{
  Answer,
  answer_of,
  done,
  number_of,
  is_done,
  first_of,
  in_order,
  at_number,
}

pub number_unique : (a b : Answer) → number_of a ≡ number_of b → a ≡ b
number_unique a b e = sym (at_number a) ∙ ap (λ n. get_or in_order n done) e ∙ at_number b

-- "Refusal 1 therefore never occurs any more"
pub never_one : (a : Answer) → number_of a ≡ 1 → ⊥
never_one a e =
    let is : a ≡ done = sym (at_number a) ∙ ap (λ n. get_or in_order n done) e in
    omega (arith, e, ap number_of is)

-- a refusal has a number, and not 0
pub number_done : (a : Answer) → eqb (number_of a) 0 ≡ is_done a
number_done (Ok tt) = refl
number_done (Err r) = ne_eqb _ 0 (λ e. true≢false (sym (ap is_done (number_unique (Err r) done e))))

pub done_is : (a : Answer) → is_done a ≡ true → a ≡ done
done_is (Ok tt) e = refl
done_is (Err r) e = absurd (true≢false (sym e))

-- a call that hands v back where a is done, and else its refusal, answers a
pub answer_handed : {A : Type 0} (a : Answer) (v : A) → answer_of (result_and a (Ok v)) ≡ a
answer_handed (Ok tt) v = refl
answer_handed (Err r) v = refl

-- done is answered with a value
pub handed_value : {A : Type 0} (r : Result A Refusal) → answer_of r ≡ done → (v : A) × (r ≡ Ok v)
handed_value (Ok v) e = (v, refl)
handed_value (Err r) e = absurd (true≢false (sym (ap is_done e)))

-- what a `?` returns where a call refuses with e
pub exit_refused : {A : Type 0} {e : Refusal} (r : Result A Refusal) → IsErrAnd r (λ y. y ≡ e) → r ≡ Err e
exit_refused r h = let exit = err_from_is_err_and r h in exit.1 ∙ ap (λ y. Err y) exit.2

-- where the first refusal of two is none, neither is a refusal
pub both_done : (a b : Answer) → first_of a b ≡ done → (a ≡ done) × (b ≡ done)
both_done (Ok tt) b e = (refl, e)
both_done (Err r) b e = absurd (true≢false (sym (ap is_done e)))
