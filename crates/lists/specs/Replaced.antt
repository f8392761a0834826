-- A loop that replaces in place: `Replaced d f a b l m` says that m is l with f w x for each
-- element x at a place w from a up to b.
-- It is `Stored` with a rule that reads l itself, so that runs of one function follow one
-- another whatever code did each.
-- Wherever an element is read, d is what `get_or` answers past the end.
use Rattle.std.specs.Prelude.{◌≡◌, refl, List, ℕ, ◌+◌, ◌<◌, ◌≤◌, length, get_or, set}
use Rattle.std.proofs.Math.Path.{ap}
use Rattle.std.proofs.Common.{◌∙◌}
use Rattle.lists.specs.Each.{each}
use Rattle.lists.specs.Stored.{
  Stored,
  stored_none,
  stored_next,
  stored_then,
  stored_as,
  stored_end,
  stored_here,
  stored_above,
  stored_kept,
  stored_each,
}

module _ {ℓ} {A : Type ℓ} where
  -- f of the place w and of what is in l there
  unfoldable pub replacing : A → (ℕ → A → A) → List A → ℕ → A
  replacing d f l w = f w (get_or l w d)

  -- a record, so that a law finds its implicit arguments; `same_length` is here for `omega`
  pub record Replaced (d : A) (f : ℕ → A → A) (a b : ℕ) (l m : List A) : Type ℓ where
    pub same_length : length m ≡ length l
    pub is_stored : Stored (replacing d f l) a b l m

  pub replaced : {d : A} {f : ℕ → A → A} {a b : ℕ} {l m : List A} → Stored (replacing d f l) a b l m
      → Replaced d f a b l m
  replaced r = record { same_length = r.same_length; is_stored = r }

  pub replaced_none : {d : A} {f : ℕ → A → A} {a : ℕ} {l : List A} → Replaced d f a a l l
  replaced_none = replaced stored_none

  -- a store of what f makes of the element that is there
  pub replaced_next : {d x : A} {f : ℕ → A → A} {a b : ℕ} {l m : List A} → Replaced d f a b l m
      → x ≡ f b (get_or m b d)
      → Replaced d f a (b + 1) l (set m b x)
  unfolding replacing
  replaced_next {d} {f = f} {b = b} r e =
      replaced (stored_next r.is_stored (e ∙ ap (f b) (stored_here r.is_stored d)))

  -- a run after another, of what the first left
  pub replaced_then : {d : A} {f : ℕ → A → A} {a b c : ℕ} {l m k : List A} → Replaced d f a b l m
      → Replaced d f b c m k
      → Replaced d f a c l k
  unfolding replacing
  replaced_then {d} {f} r s =
      replaced
      (stored_then r.is_stored
      (stored_as s.is_stored (λ w low high. ap (f w) (stored_above r.is_stored w d low))))

  -- another function that agrees on the span
  pub replaced_as : {d : A} {f g : ℕ → A → A} {a b : ℕ} {l m : List A} → Replaced d f a b l m
      → ((w : ℕ) → a ≤ w → w < b → (x : A) → f w x ≡ g w x) → Replaced d g a b l m
  unfolding replacing
  replaced_as {d} {l = l} r h =
      replaced (stored_as r.is_stored (λ w low high. h w low high (get_or l w d)))

  -- places past the end whose elements f keeps
  pub replaced_kept : {d : A} {f : ℕ → A → A} {a b c : ℕ} {l m : List A} → Replaced d f a b l m
      → b ≤ c
      → ((w : ℕ) → b ≤ w → w < c → (x : A) → f w x ≡ x) → Replaced d f a c l m
  unfolding replacing
  replaced_kept {d} {l = l} r h same =
      replaced (stored_kept r.is_stored d h (λ w low high. same w low high (get_or l w d)))

  -- the end in other words
  pub replaced_end : {d : A} {f : ℕ → A → A} {a b c : ℕ} {l m : List A} → Replaced d f a b l m
      → b ≡ c → Replaced d f a c l m
  replaced_end r e = replaced (stored_end r.is_stored e)

  -- every place is replaced
  pub replaced_each : {d : A} {f : ℕ → A → A} {b : ℕ} {l m : List A} → Replaced d f 0 b l m
      → length l ≤ b → m ≡ each f l
  unfolding replacing
  replaced_each {d} {f} r h = stored_each r.is_stored d f h (λ w lt. refl)
