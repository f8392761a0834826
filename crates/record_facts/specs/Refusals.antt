-- What the refusals of a list of checks have in common, the first of them has too: so which numbers
-- a call never answers is read off its checks.
use Rattle.std.specs.Prelude.{ℕ, ◌≡◌, refl, Bool, true, false, cond, List, [], ◌∷◌, ◌++◌, eqb, Err}
use Rattle.lists.specs.Test.{by_test}
use Rattle.answers.specs.Numbers.{number_of, Answer, done}
use Rattle.answers.specs.Checks.{Check, first_refusal}
use Rattle.points.specs.declared.Curve.{Curve}
use Rattle.sets.specs.declared.Curves.{Curves}
use Rattle.sets.specs.Sets.{channel_checks, set_checks}

-- the number n is not this answer's
abbrev pub Never : ℕ → Answer → Type 0
Never n a = eqb (number_of a) n ≡ false

-- P of the answer of every check that refuses
infixr 20 ◌and◌ ◌also◌
pub data Refusals (P : Answer → Type 0) : List Check → Type 0 where
  no_more : Refusals P []
  ◌and◌ : {c : Check} {cs : List Check} → (c.fails ≡ true → P (Err c.refusal)) → Refusals P cs
      → Refusals P (c ∷ cs)

-- P of a check's answer, whether it refuses or not
pub ◌also◌ : {P : Answer → Type 0} {c : Check} {cs : List Check} → P (Err c.refusal) → Refusals P cs
    → Refusals P (c ∷ cs)
h also rest = (λ t. h) and rest

module _ {P : Answer → Type 0} where
  -- so P of the first refusal, and of done where there is none
  pub first_has : {cs : List Check} → P done → Refusals P cs → P (first_refusal cs)
  first_has done no_more = done
  first_has done (◌and◌ {c} h rest) =
      by_test (c.fails) (λ t. rw t (h t)) (λ t. rw t (first_has done rest))

  pub refusals_append : {cs ds : List Check} → Refusals P cs → Refusals P ds
      → Refusals P (cs ++ ds)
  refusals_append no_more k = k
  refusals_append (h and rest) k = h and refusals_append rest k

  -- of checks that are asked where b says so
  pub refusals_if : (b : Bool) {cs : List Check} → (b ≡ true → Refusals P cs)
      → Refusals P (cond b cs [])
  refusals_if true h = h refl
  refusals_if false h = no_more

  -- of a set's checks, by those of its lists
  pub set_refusals : (checks : Curve → List Check) (s : Curves) → Refusals P (checks s.master)
      → Refusals P (channel_checks checks s.red) → Refusals P (channel_checks checks s.green)
      → Refusals P (channel_checks checks s.blue) → Refusals P (set_checks checks s)
  set_refusals checks s master red green blue =
      refusals_append (refusals_append (refusals_append master red) green) blue
