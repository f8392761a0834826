-- What a read takes of an input.
use Rattle.std.specs.Prelude.{◌≡◌, ℕ, ◌≤◌, List, drop, Option, Some, IfSome, Result, MatchResult}

-- of an input whose bytes were known, what is behind the first n is left; nothing, where it had no
-- more
abbrev pub IsPast : ℕ → Option (List ℕ) → Option (List ℕ) → Type 0
IsPast n old new = IfSome old (λ s. new ≡ Some (drop n s))

-- a read of n bytes took these, or all that there were; one that failed took some of the first n,
-- or none
abbrev pub Takes : {V E : Type 0} → ℕ → Option (List ℕ) → Option (List ℕ) → Result V E → Type 0
Takes n old new r = MatchResult r (λ _. IsPast n old new) (λ _.
    (k : ℕ) × (k ≤ n) × IsPast k old new)
