-- Lists by their rule: `tabulate n f` is f 0, f 1, .., f (n - 1), and `filled n f l` is l with
-- those in place of its first n elements.
-- Wherever an element is read, d is what `get_or` answers past the end.
use Rattle.std.specs.Prelude.{◌≡◌, List, [], ◌∷◌, ◌++◌, get_or, drop}
use Rattle.std.proofs.Math.Path.{refl, ap}
use Rattle.std.proofs.Common.{sym, ◌∙◌, zero-add, add-suc, suc-add, length-append, length-drop, get_or-append-add, get_or-drop, ext_get_or}
use Prim.Native.Nat.{ℕ, zero, suc, ◌+◌, ◌-◌, ◌<◌, ◌≤◌}
use Rattle.std.proofs.Math.Nat.{add-zero}
use native.Mathlib.Omega.{arith}
use Rattle.std.proofs.Math.ListN.{length, get_or-append}

module _ {ℓ} {A : Type ℓ} where
  -- f i, f (i + 1), .., n of them
  from : ℕ → ℕ → (ℕ → A) → List A
  from i zero f = []
  from i (suc n) f = f i ∷ from (suc i) n f

  unfoldable pub tabulate : ℕ → (ℕ → A) → List A
  unfolding from
  tabulate n f = from 0 n f

  length_from : (i n : ℕ) (f : ℕ → A) → length (from i n f) ≡ n
  unfolding from
  length_from i zero f = refl
  length_from i (suc n) f = ap suc (length_from (suc i) n f)

  get_d_from : (i n : ℕ) (f : ℕ → A) (k : ℕ) (d : A) → k < n → get_or (from i n f) k d ≡ f (i + k)
  unfolding from
  get_d_from i zero f k d h = absurd (omega arith)
  get_d_from i (suc n) f zero d h = simp add-zero
  get_d_from i (suc n) f (suc k) d h =
      get_d_from (suc i) n f k d (omega arith) ∙ simp (add-suc, suc-add)

  pub length_tabulate : (n : ℕ) (f : ℕ → A) → length (tabulate n f) ≡ n
  unfolding tabulate
  length_tabulate n f = length_from 0 n f

  pub get_d_tabulate : (n : ℕ) (f : ℕ → A) (k : ℕ) (d : A) → k < n → get_or (tabulate n f) k d ≡ f k
  unfolding tabulate
  get_d_tabulate n f k d h = get_d_from 0 n f k d h ∙ ap f (zero-add k)

  -- a list of n elements that has f k at each place k
  pub is_tabulate : {n : ℕ} {f : ℕ → A} {l : List A} (d : A) → length l ≡ n
      → ((k : ℕ) → k < n → get_or l k d ≡ f k) → l ≡ tabulate n f
  is_tabulate {n} {f} {l} d e h =
      ext_get_or d l (tabulate n f) (e ∙ sym (length_tabulate n f))
      (λ k lt. let lt-n : k < n = omega arith in h k lt-n ∙ sym (get_d_tabulate n f k d lt-n))

  -- rules that agree below n have equal tables
  pub tabulate_same : (n : ℕ) {f g : ℕ → A} → ((k : ℕ) → k < n → f k ≡ g k)
      → tabulate n f ≡ tabulate n g
  tabulate_same n {f} h =
      is_tabulate (f 0) (length_tabulate n f) (λ k lt. get_d_tabulate n f k (f 0) lt ∙ h k lt)

  -- rules with equal tables agree below n: a table that antt computes whole, by `refl`,
  -- says what is at each place
  pub tabulate_agree : {n : ℕ} (f g : ℕ → A) → tabulate n f ≡ tabulate n g → (k : ℕ) → k < n
      → f k ≡ g k
  tabulate_agree {n} f g e k h =
      sym (get_d_tabulate n f k (f k) h) ∙ ap (λ (l : List A). get_or l k (f k)) e
      ∙ get_d_tabulate n g k (f k) h

  -- a row: the rule at the first n places, l after them
  unfoldable pub filled : ℕ → (ℕ → A) → List A → List A
  filled n f l = tabulate n f ++ drop n l

  pub length_filled : (n : ℕ) (f : ℕ → A) (l : List A) → n ≤ length l
      → length (filled n f l) ≡ length l
  unfolding filled
  length_filled n f l h = simp (length-append, length_tabulate, length-drop) (omega arith)

  pub get_d_filled : (n : ℕ) (f : ℕ → A) (l : List A) (k : ℕ) (d : A) → k < n
      → get_or (filled n f l) k d ≡ f k
  unfolding filled
  get_d_filled n f l k d h =
      get_or-append (tabulate n f) (drop n l) d k (omega (arith, length_tabulate n f))
      ∙ get_d_tabulate n f k d h

  pub get_d_filled_rest : (n : ℕ) (f : ℕ → A) (l : List A) (k : ℕ) (d : A) → n ≤ k
      → get_or (filled n f l) k d ≡ get_or l k d
  unfolding filled
  get_d_filled_rest n f l k d h =
      let past-table : length (tabulate n f) + (k - n) ≡ k = omega (arith, length_tabulate n f) in
      let past-n : n + (k - n) ≡ k = omega arith in
      rw past-table at (get_or-append-add (tabulate n f) (drop n l) (k - n) d)
      ∙ rw past-n at (get_or-drop n l (k - n) d)
