-- Computed cases: digits there and back, and what a read leaves of an input.
use Rattle.std.specs.Prelude.{◌≡◌, refl, ℕ, zero, suc, ◌≤◌, List, [], ◌∷◌, length, codes}
use Rattle.std.specs.Prelude.{Option, None, Some, Ok, Err}
use Rattle.std.proofs.Common.{ap, arith}
use Rattle.questions.specs.Questions.{bytes_of, in_digits}
use Rattle.questions.specs.Reading.{Takes}

-- low and high bytes, and each half at 9 and at 10
pub printed : in_digits (0 ∷ 9 ∷ 10 ∷ 159 ∷ 160 ∷ 255 ∷ []) ≡ codes "00090a9fa0ff"
printed = refl

pub read_back : bytes_of (in_digits (0 ∷ 9 ∷ 10 ∷ 159 ∷ 160 ∷ 255 ∷ [])) 0 6
    ≡ 0 ∷ 9 ∷ 10 ∷ 159 ∷ 160 ∷ 255 ∷ []
read_back = refl

-- ---- what is left
abbrev input : Option (List ℕ)
input = Some (1 ∷ 2 ∷ 3 ∷ [])

abbrev how_many : Option (List ℕ) → ℕ
how_many None = 0
how_many (Some s) = length s

-- two of three bytes: the third is left, no more and no less
pub two_taken : Takes {V = ℕ} {E = ℕ} 2 input (Some (3 ∷ [])) (Ok 0)
two_taken = refl

pub one_is_too_few : Takes {V = ℕ} {E = ℕ} 2 input (Some (2 ∷ 3 ∷ [])) (Ok 0) → ⊥
one_is_too_few e = let n : 2 ≡ 1 = ap how_many e in omega (arith, n)

pub three_are_too_many : Takes {V = ℕ} {E = ℕ} 2 input (Some []) (Ok 0) → ⊥
three_are_too_many e = let n : 0 ≡ 1 = ap how_many e in omega (arith, n)

-- more than there are: nothing is left
pub all_taken : Takes {V = ℕ} {E = ℕ} 4 input (Some []) (Ok 0)
all_taken = refl

-- a read of one byte that failed took it or none, and not the second
pub failed_early : Takes {V = ℕ} {E = ℕ} 1 input input (Err 0)
failed_early = (0, omega arith, refl)

pub failed_late : Takes {V = ℕ} {E = ℕ} 1 input (Some (2 ∷ 3 ∷ [])) (Err 0)
failed_late = (1, omega arith, refl)

pub failed_beyond : Takes {V = ℕ} {E = ℕ} 1 input (Some (3 ∷ [])) (Err 0) → ⊥
failed_beyond (zero, few, e) = let n : 1 ≡ 3 = ap how_many e in omega (arith, n)
failed_beyond (suc zero, few, e) = let n : 1 ≡ 2 = ap how_many e in omega (arith, n)
failed_beyond (suc (suc k), few, e) = omega arith
