-- What a loop leaves that copies a list to the front of another.
use Rattle.std.specs.Prelude.{◌≡◌, ℕ, ◌≤◌, length, get_or}
use Rattle.std.proofs.Math.Path.{refl, ap}
use Rattle.std.proofs.Common.{sym, ◌∙◌}
use mathlib.Core.List.{List, ◌++◌}
use Rattle.std.proofs.Math.ListN.{drop}
use Rattle.lists.specs.Tabulate.{tabulate, filled, is_tabulate}
use Rattle.lists.specs.Stored.{Stored, stored_front}

module _ {ℓ} {A : Type ℓ} where
  -- the rule of the loop: element w of xs, d past its end
  unfoldable pub element_of : A → List A → ℕ → A
  element_of d xs w = get_or xs w d

  pub stored_copy : (d : A) (xs : List A) {b : ℕ} {l m : List A} → Stored (element_of d xs) 0 b l m
      → b ≡ length xs
      → length xs ≤ length l → m ≡ xs ++ drop (length xs) l
  unfolding filled element_of
  stored_copy d xs {l = l} r e h =
      let all : xs ≡ tabulate (length xs) (element_of d xs) = is_tabulate d refl (λ k lt. refl) in
      stored_front r e h ∙ ap (λ (t : List A). t ++ drop (length xs) l) (sym all)
