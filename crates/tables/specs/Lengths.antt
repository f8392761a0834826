-- The lengths of a fine table are such as its samples may be.
use Rattle.std.specs.Prelude.{ℕ, ◌≤◌, ◌≡◌, true, [], ◌∷◌}
use Rattle.std.proofs.Math.Decide.{ℕ_discrete}
use Rattle.std.proofs.Common.{arith, ne_eqb, eqb-true}
use Rattle.std.proofs.lemmas.Bool.{not-false}
use Rattle.answers.specs.Checks.{first_refusal, all_passed}
use Rattle.tables.specs.Tables.{is_table_length, length_check}
use Rattle.answers.specs.Numbers.{done}

two_to_4096 : (S : ℕ) → is_table_length S ≡ true → (2 ≤ S) × (S ≤ 4096)
two_to_4096 S e = elim (ℕ_discrete S 256) [
  | yes is ↦ (omega arith, omega arith)
  | no other ↦
      let is : S ≡ 4096 = eqb-true S 4096 (rw (ne_eqb S 256 other) at e) in
      (omega arith, omega arith)
]

pub length_passed : (S : ℕ) → first_refusal (length_check S ∷ []) ≡ done → (2 ≤ S) × (S ≤ 4096)
length_passed S e = two_to_4096 S (not-false _ (all_passed (length_check S ∷ []) e).0)
