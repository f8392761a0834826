-- One reading after another. Definitions only.
use Rattle.std.specs.Prelude.{ℕ, List, [], ◌∷◌, cond}
use Rattle.answers.specs.declared.Refusal.{Refusal}
use Rattle.answers.specs.Checks.{Check}

-- what a reading finds: a value and the bytes after it, or a refusal
pub data Parse (A : Type 0) : Type 0 where
  good : A → List ℕ → Parse A
  refused : Refusal → Parse A

-- then: a refusal stays
infixl 20 ◌▷◌
abbrev pub ◌▷◌ : {A B : Type 0} → Parse A → (A → List ℕ → Parse B) → Parse B
good a s ▷ f = f a s
refused r ▷ f = refused r

-- a reading behind checks: their first refusal, or what the reading finds
abbrev pub checked : {A : Type 0} → List Check → Parse A → Parse A
checked [] p = p
checked (c ∷ cs) p = cond c.fails (refused c.refusal) (checked cs p)
