-- `each f l`: every element of l replaced by f of its place and itself. Wherever an element is
-- read, d is what `get_or` answers past the end.
use Rattle.std.specs.Prelude.{◌≡◌, length, get_or}
use Rattle.std.proofs.Math.Path.{refl, ap}
use Rattle.std.proofs.Common.{sym, ◌∙◌, zero-add, add-suc, suc-add, arith, ext_get_or}
use mathlib.Core.List.{List, [], ◌∷◌}
use Prim.Native.Nat.{ℕ, suc, zero, ◌+◌, ◌<◌}
use Rattle.std.proofs.Math.Nat.{add-zero}

module _ {ℓ} {A : Type ℓ} where
  -- the same where the first element's place is i
  each_from : (ℕ → A → A) → ℕ → List A → List A
  each_from f i [] = []
  each_from f i (x ∷ xs) = f i x ∷ each_from f (suc i) xs

  unfoldable pub each : (ℕ → A → A) → List A → List A
  unfolding each_from
  each f l = each_from f 0 l

  length_each_from : (f : ℕ → A → A) (i : ℕ) (l : List A) → length (each_from f i l) ≡ length l
  unfolding each_from
  length_each_from f i [] = refl
  length_each_from f i (x ∷ xs) = ap suc (length_each_from f (suc i) xs)

  get_d_each_from : (f : ℕ → A → A) (i : ℕ) (l : List A) (k : ℕ) (d : A) → k < length l
      → get_or (each_from f i l) k d ≡ f (i + k) (get_or l k d)
  unfolding each_from
  get_d_each_from f i [] k d h = absurd (omega arith)
  get_d_each_from f i (x ∷ xs) zero d h = simp add-zero
  get_d_each_from f i (x ∷ xs) (suc k) d h =
      get_d_each_from f (suc i) xs k d (omega arith) ∙ simp (add-suc, suc-add)

  pub length_each : (f : ℕ → A → A) (l : List A) → length (each f l) ≡ length l
  unfolding each
  length_each f l = length_each_from f 0 l

  pub get_d_each : (f : ℕ → A → A) (l : List A) (k : ℕ) (d : A) → k < length l
      → get_or (each f l) k d ≡ f k (get_or l k d)
  unfolding each
  get_d_each f l k d h = get_d_each_from f 0 l k d h ∙ ap (λ (i : ℕ). f i (get_or l k d)) (zero-add k)

  -- a list as long as l that has f's element at each place
  pub is_each : {m : List A} (d : A) (f : ℕ → A → A) (l : List A) → length m ≡ length l
      → ((k : ℕ) → k < length l → get_or m k d ≡ f k (get_or l k d)) → m ≡ each f l
  is_each {m} d f l e h =
      ext_get_or d m (each f l) (e ∙ sym (length_each f l))
      (λ k lt. let lt-l : k < length l = omega arith in h k lt-l ∙ sym (get_d_each f l k d lt-l))

  -- functions that agree at each place on what is there
  pub each_same : (d : A) (f g : ℕ → A → A) (l : List A)
      → ((k : ℕ) → k < length l → f k (get_or l k d) ≡ g k (get_or l k d)) → each f l ≡ each g l
  each_same d f g l h = is_each d g l (length_each f l) (λ k lt. get_d_each f l k d lt ∙ h k lt)
