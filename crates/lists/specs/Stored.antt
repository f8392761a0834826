-- What a loop leaves that stores f w at each place w from a up to b: the function `store`, and the
-- fact `Stored`, which is the loop's invariant.
-- Before the loop it is `stored_none`, a turn is `stored_next` (from the back `stored_before`), and
-- the last three laws say what is there in the end.
-- Wherever an element is read, d is what `get_or` answers past the end.
use Rattle.std.specs.Prelude.{◌≡◌, List, length, get_or, set}
use Rattle.std.proofs.Math.Path.{refl}
use Rattle.std.proofs.Common.{sym, ap, ◌∙◌, eq-or-lt_of_le, add-suc, add_assoc, le_refl, get_or-set_same, ext_get_or}
use Rattle.std.proofs.Math.Logic.{⊎_elim}
use Prim.Native.Nat.{ℕ, zero, suc, ◌+◌, ◌-◌, ◌<◌, ◌≤◌}
use Rattle.std.proofs.Math.Decide.{dec_lt}
use Rattle.std.proofs.Math.Nat.{add-zero, suc-add}
use native.Mathlib.Omega.{arith}
use Rattle.std.proofs.Math.ListN.{length-set}
use Rattle.std.proofs.Math.Seq.{get_or-set_other}
use Rattle.std.proofs.lemmas.List.{set_comm, set-get_or}
use Rattle.lists.specs.Tabulate.{
  tabulate,
  is_tabulate,
  filled,
  length_filled,
  get_d_filled,
  get_d_filled_rest,
}
use Rattle.lists.specs.Each.{each, is_each}

module _ {ℓ} {A : Type ℓ} where
  -- l after the stores of f w at place w, for the n places w from a on; a store
  -- past l's end changes nothing
  pub store : (ℕ → A) → ℕ → ℕ → List A → List A
  store f a zero l = l
  store f a (suc n) l = set (store f a n l) (a + n) (f (a + n))

  length_store : (f : ℕ → A) (a n : ℕ) (l : List A) → length (store f a n l) ≡ length l
  unfolding store
  length_store f a zero l = refl
  length_store f a (suc n) l = length-set (store f a n l) (a + n) (f (a + n)) ∙ length_store f a n l

  store_below : (f : ℕ → A) (a n : ℕ) (l : List A) (w : ℕ) (d : A) → w < a
      → get_or (store f a n l) w d ≡ get_or l w d
  unfolding store
  store_below f a zero l w d h = refl
  store_below f a (suc n) l w d h =
      get_or-set_other (store f a n l) (a + n) w (f (a + n)) d (λ e. omega arith)
      ∙ store_below f a n l w d h

  store_above : (f : ℕ → A) (a n : ℕ) (l : List A) (w : ℕ) (d : A) → a + n ≤ w
      → get_or (store f a n l) w d ≡ get_or l w d
  unfolding store
  store_above f a zero l w d h = refl
  store_above f a (suc n) l w d h =
      get_or-set_other (store f a n l) (a + n) w (f (a + n)) d (λ e. omega arith)
      ∙ store_above f a n l w d (omega arith)

  store_inside : (f : ℕ → A) (a n : ℕ) (l : List A) (w : ℕ) (d : A) → a ≤ w → w < a + n
      → w < length l → get_or (store f a n l) w d ≡ f w
  unfolding store
  store_inside f a zero l w d low high lt = absurd (omega arith)
  store_inside f a (suc n) l w d low high lt =
      let up_to : w ≤ a + n = omega arith in
      ⊎_elim
      (λ e. rw e
      (get_or-set_same (store f a n l) (a + n) (f (a + n)) d
      (omega (arith, length_store f a n l))))
      (λ less. get_or-set_other (store f a n l) (a + n) w (f (a + n)) d (λ e. omega arith)
      ∙ store_inside f a n l w d low less lt)
      (eq-or-lt_of_le up_to)

  -- the lowest place stored last
  store_before : (f : ℕ → A) (a n : ℕ) (l : List A)
      → store f a (suc n) l ≡ set (store f (suc a) n l) a (f a)
  unfolding store
  store_before f a zero l = simp add-zero
  store_before f a (suc n) l =
      rw (store_before f a n l, suc-add, add-suc)
      (set_comm (store f (suc a) n l) a (suc (a + n)) (f a) (f (suc (a + n))) (λ e. omega arith))

  store_then : (f : ℕ → A) (a n p : ℕ) (l : List A)
      → store f a (n + p) l ≡ store f (a + n) p (store f a n l)
  unfolding store
  store_then f a n zero l = simp add-zero
  store_then f a n (suc p) l = rw (add-suc, store, store_then f a n p l, ← add_assoc)

  store_as : (f g : ℕ → A) (a n : ℕ) (l : List A) → ((w : ℕ) → a ≤ w → w < a + n → f w ≡ g w)
      → store f a n l ≡ store g a n l
  unfolding store
  store_as f g a zero l h = refl
  store_as f g a (suc n) l h =
      rw (
        store_as f g a n l (λ w low high. h w low (omega arith)),
        h (a + n) (omega arith) (omega arith),
      )

  store_kept : (d : A) (f : ℕ → A) (a n : ℕ) (l : List A)
      → ((w : ℕ) → a ≤ w → w < a + n → f w ≡ get_or l w d) → store f a n l ≡ l
  unfolding store
  store_kept d f a zero l h = refl
  store_kept d f a (suc n) l h =
      rw (
        store_kept d f a n l (λ w low high. h w low (omega arith)),
        h (a + n) (omega arith) (omega arith),
      ) (set-get_or l (a + n) d)

  -- m is l with f w at each place w from a up to b. A record, so that a law finds its implicit
  -- arguments. `same_length` follows from `is`;
  -- it is here, as `order` is, because `omega` reads a record's fields.
  pub record Stored (f : ℕ → A) (a b : ℕ) (l m : List A) : Type ℓ where
    pub order : a ≤ b
    pub same_length : length m ≡ length l
    pub is : m ≡ store f a (b - a) l

  stored : {f : ℕ → A} {a b : ℕ} {l m : List A} → a ≤ b → m ≡ store f a (b - a) l → Stored f a b l m
  stored {f} {a} {b} {l} h e =
      record { order = h; same_length = ap length e ∙ length_store f a (b - a) l; is = e }

  pub stored_none : {f : ℕ → A} {a : ℕ} {l : List A} → Stored f a a l l
  unfolding store
  stored_none {a = a} = let none : a - a ≡ 0 = omega arith in stored (le_refl a) (rw none)

  -- a store at the end. Two stores a turn are `stored_next (stored_next r e) e₂`; before a third
  -- `stored_end .. (omega arith)` makes b + 1 + 1 the code's b + 2.
  pub stored_next : {f : ℕ → A} {a b : ℕ} {l m : List A} {x : A} → Stored f a b l m → x ≡ f b
      → Stored f a (b + 1) l (set m b x)
  unfolding store
  stored_next {f} {a} {b} r e =
      let more : b + 1 - a ≡ suc (b - a) = omega arith in
      let place : a + (b - a) ≡ b = omega arith in
      stored (omega arith) (rw (r.is, e, more, store, place))

  -- a store just below the start
  pub stored_before : {f : ℕ → A} {a b k : ℕ} {l m : List A} {x : A} → Stored f a b l m → x ≡ f k
      → k + 1 ≡ a → Stored f k b l (set m k x)
  stored_before {f} {a} {b} {k} r e at-k =
      let more : b - k ≡ suc (b - a) = omega arith in
      let next : a ≡ suc k = omega arith in
      stored (omega arith) (rw (r.is, e, more, store_before, ← next))

  -- a run of stores after another, by the same rule
  pub stored_then : {f : ℕ → A} {a b c : ℕ} {l m k : List A} → Stored f a b l m → Stored f b c m k
      → Stored f a c l k
  stored_then {f} {a} {b} {c} r s =
      let both : c - a ≡ (b - a) + (c - b) = omega arith in
      let place : a + (b - a) ≡ b = omega arith in
      stored (omega arith) (rw (s.is, r.is, both, store_then, place))

  -- another rule that agrees on the span
  pub stored_as : {f g : ℕ → A} {a b : ℕ} {l m : List A} → Stored f a b l m
      → ((w : ℕ) → a ≤ w → w < b → f w ≡ g w) → Stored g a b l m
  stored_as {f} {g} {a} {b} {l} r h =
      stored r.order
      (r.is ∙ store_as f g a (b - a) l (λ w low high. h w low (omega (arith, r.order))))

  -- the start, or the end, in other words
  pub stored_start : {f : ℕ → A} {a b c : ℕ} {l m : List A} → Stored f a b l m → a ≡ c
      → Stored f c b l m
  stored_start r e = rw (← e) r

  pub stored_end : {f : ℕ → A} {a b c : ℕ} {l m : List A} → Stored f a b l m → b ≡ c
      → Stored f a c l m
  stored_end r e = rw (← e) r

  module _ {f : ℕ → A} {a b : ℕ} {l m : List A} (r : Stored f a b l m) where
    -- what is in the span, below it, and from its end on
    pub stored_inside : (w : ℕ) (d : A) → a ≤ w → w < b → w < length l → get_or m w d ≡ f w
    stored_inside w d low high lt = rw r.is (store_inside f a (b - a) l w d low (omega arith) lt)

    pub stored_below : (w : ℕ) (d : A) → w < a → get_or m w d ≡ get_or l w d
    stored_below w d h = rw r.is (store_below f a (b - a) l w d h)

    pub stored_above : (w : ℕ) (d : A) → b ≤ w → get_or m w d ≡ get_or l w d
    stored_above w d h = rw r.is (store_above f a (b - a) l w d (omega arith))

    -- what a loop that replaces in place reads before its store
    pub stored_here : (d : A) → get_or m b d ≡ get_or l b d
    stored_here d = stored_above b d (le_refl b)

    -- places past the end whose rule is what is there count as stored: kept bytes, padding
    pub stored_kept : {c : ℕ} (d : A) → b ≤ c → ((w : ℕ) → b ≤ w → w < c → f w ≡ get_or l w d)
        → Stored f a c l m
    stored_kept {c} d h same =
        stored_then r
        (stored h
        (sym (store_kept d f b (c - b) m
        (λ w low high. same w low (omega arith) ∙ sym (stored_above w d low)))))

  -- every place is stored
  pub stored_all : {f : ℕ → A} {b n : ℕ} {l m : List A} → Stored f 0 b l m → length l ≡ n → n ≤ b
      → m ≡ tabulate n f
  stored_all {f} r e h =
      is_tabulate (f 0) (r.same_length ∙ e)
      (λ k lt. stored_inside r k (f 0) (omega arith) (omega arith) (omega arith))

  -- the first n places are
  pub stored_front : {f : ℕ → A} {b n : ℕ} {l m : List A} → Stored f 0 b l m → b ≡ n → n ≤ length l
      → m ≡ filled n f l
  stored_front {f} {b} {n} {l} {m} r e h =
      ext_get_or (f 0) m (filled n f l) (r.same_length ∙ sym (length_filled n f l h))
      (λ k lt. elim (dec_lt k n) [
        | yes low ↦
            stored_inside r k (f 0) (omega arith) (omega arith) (omega arith)
            ∙ sym (get_d_filled n f l k (f 0) low)
        | no high ↦
            stored_above r k (f 0) (omega arith)
            ∙ sym (get_d_filled_rest n f l k (f 0) (omega arith))
      ])

  -- every place is, by g of the place and what stood there
  pub stored_each : {f : ℕ → A} {b : ℕ} {l m : List A} → Stored f 0 b l m → (d : A) (g : ℕ → A → A)
      → length l ≤ b
      → ((w : ℕ) → w < length l → f w ≡ g w (get_or l w d)) → m ≡ each g l
  stored_each {l = l} r d g h e =
      is_each d g l r.same_length
      (λ k lt. stored_inside r k d (omega arith) (omega arith) lt ∙ e k lt)
