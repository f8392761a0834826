-- The checks of a call in document 01's order, "When a call says no", and the first refusal among
-- them. The answer in a call's contract is the first refusal of the call's list of checks, so
-- that the order is said once.
use Rattle.std.specs.Prelude.{ℕ, ◌≡◌, refl, Bool, true, false, cond, List, [], ◌∷◌, ◌++◌, ltb, Err}
use Rattle.std.proofs.Common.{sym, ap, true≢false}
use Rattle.answers.specs.declared.Refusal.{Refusal}
use Rattle.answers.specs.declared.Refusal.TheVariants.{OutputTooSmall}
use Rattle.answers.specs.Numbers.{Answer, done, is_done, first_of}

-- a check: with what it refuses, and whether what a call is given fails it
pub record Check : Type 0 where
  pub refusal : Refusal
  pub fails : Bool

infix 68 ◌when◌
abbrev pub ◌when◌ : Refusal → Bool → Check
r when failed = record { refusal = r; fails = failed }

-- "the first refusal": that of the first check that fails, and done where none does
abbrev pub first_refusal : List Check → Answer
first_refusal [] = done
first_refusal (c ∷ cs) = cond c.fails (Err c.refusal) (first_refusal cs)

-- 13: "An output holds less than what would be written", which is count bytes
abbrev pub room_check : ℕ → ℕ → Check
room_check count held = OutputTooSmall when ltb held count

-- 14: the lengths of a float table, "256 or 4,096"
abbrev pub table_length : ℕ
table_length = 256

abbrev pub fine_table_length : ℕ
fine_table_length = 4096

-- ---- lists behind one another
pub first_append : (cs ds : List Check)
    → first_refusal (cs ++ ds) ≡ first_of (first_refusal cs) (first_refusal ds)
first_append [] ds = refl
first_append (c ∷ cs) ds =
    elim (c.fails) as (λ t. cond t (Err c.refusal) (first_refusal (cs ++ ds))
    ≡ first_of (cond t (Err c.refusal) (first_refusal cs)) (first_refusal ds))
    [ true ↦ refl | false ↦ first_append cs ds ]

-- ---- where nothing is refused, every check was passed
abbrev pub AllPassed : List Check → Type 0
AllPassed [] = Unit {0}
AllPassed (c ∷ cs) = (c.fails ≡ false) × AllPassed cs

module _ (c : Check) (cs : List Check) where
  by_passed : (t : Bool) → c.fails ≡ t → cond t (Err c.refusal) (first_refusal cs) ≡ done
      → (c.fails ≡ false) × (first_refusal cs ≡ done)
  by_passed true h e = absurd (true≢false (sym (ap is_done e)))
  by_passed false h e = (h, e)

pub all_passed : (cs : List Check) → first_refusal cs ≡ done → AllPassed cs
all_passed [] e = tt
all_passed (c ∷ cs) e = let p = by_passed c cs c.fails refl e in (p.0, all_passed cs p.1)
