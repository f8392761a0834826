-- A part of a list that is lent, as `&mut s[a..e]` is, and comes back: what was stored in the
-- part is stored in the whole.
-- Wherever an element is read, d is what `get_or` answers past the end.
use Rattle.std.specs.Prelude.{◌≡◌, refl, List, ◌++◌, ℕ, zero, suc, ◌+◌, ◌-◌, ◌<◌, ◌≤◌, length, get_or, set, take, drop}
use Rattle.std.proofs.Common.{sym, ◌∙◌, arith, length-append, length-take, length-drop, get_or-append-add, get_or-take, get_or-drop, ext_get_or}
use Rattle.std.proofs.Math.Path.{ap}
use Rattle.std.proofs.Math.Decide.{dec_lt}
use Rattle.std.proofs.Math.ListN.{get_or-append}
use Rattle.lists.specs.Each.{each, length_each, get_d_each}
use Rattle.lists.specs.Stored.{
  Stored,
  stored_none,
  stored_next,
  stored_end,
  stored_inside,
  stored_below,
  stored_above,
}
use Rattle.lists.specs.Replaced.{Replaced, replacing, replaced}

module _ {ℓ} {A : Type ℓ} where
  -- the elements from the place a up to e
  abbrev pub part : ℕ → ℕ → List A → List A
  part a e l = take (e - a) (drop a l)

  -- l after m came back for that part
  abbrev pub back : ℕ → ℕ → List A → List A → List A
  back a e l m = take a l ++ (m ++ drop (e - a) (drop a l))

  pub length_part : (a e : ℕ) (l : List A) → e ≤ length l → length (part a e l) ≡ e - a
  length_part a e l h = simp (length-take, length-drop) (omega arith)

  pub get_d_part : (a e : ℕ) (l : List A) (k : ℕ) (d : A) → k < e - a
      → get_or (part a e l) k d ≡ get_or l (a + k) d
  get_d_part a e l k d h = get_or-take (e - a) (drop a l) k d h ∙ get_or-drop a l k d

  -- there is a list that has f's elements in the span and l's elsewhere
  stores : (f : ℕ → A) (a n : ℕ) (l : List A) {G : Type ℓ}
      → ((m : List A) → Stored f a (a + n) l m → G) → G
  stores f a zero l made = made l (stored_end stored_none (omega arith))
  stores f a (suc n) l made =
      stores f a n l
      (λ m r. made (set m (a + n) (f (a + n))) (stored_end (stored_next r refl) (omega arith)))

  -- any such list is Stored
  pub is_stored : {f : ℕ → A} {a b : ℕ} {l m : List A} (d : A) → a ≤ b → length m ≡ length l
      → ((w : ℕ) → a ≤ w → w < b → w < length l → get_or m w d ≡ f w)
      → ((w : ℕ) → w < a → get_or m w d ≡ get_or l w d)
      → ((w : ℕ) → b ≤ w → w < length l → get_or m w d ≡ get_or l w d) → Stored f a b l m
  is_stored {f} {a} {b} {l} {m} d order e inside below above =
      stores f a (b - a) l (λ k r.
      let same : m ≡ k = ext_get_or d m k (e ∙ sym r.same_length) (λ w lt. elim (dec_lt w a) [
        | yes low ↦ below w low ∙ sym (stored_below r w d low)
        | no high ↦ elim (dec_lt w b) [
          | yes in_span ↦
              inside w (omega arith) in_span (omega arith)
              ∙ sym (stored_inside r w d (omega arith) (omega arith) (omega arith))
          | no past ↦ above w (omega arith) (omega arith) ∙ sym (stored_above r w d (omega arith))
        ]
      ]) in
      let r-m : Stored f a (a + (b - a)) l m = rw same r in
      stored_end r-m (omega arith))

  module _ (a e : ℕ) (l m : List A) (d : A) (order : a ≤ e) (inside : e ≤ length l)
      (count : length m ≡ e - a) where
    back_length : length (back a e l m) ≡ length l
    back_length = simp (length-append, length-take, length-drop) (omega arith)

    back_below : (w : ℕ) → w < a → get_or (back a e l m) w d ≡ get_or l w d
    back_below w h =
        let front : length (take a l) ≡ a = simp length-take (omega arith) in
        get_or-append (take a l) (m ++ drop (e - a) (drop a l)) d w (omega arith)
        ∙ get_or-take a l w d h

    back_from : (k : ℕ) → get_or (back a e l m) (a + k) d ≡ get_or (m ++ drop (e - a) (drop a l)) k d
    back_from k =
        let front : length (take a l) ≡ a = simp length-take (omega arith) in
        ap (λ (n : ℕ). get_or (back a e l m) (n + k) d) (sym front)
        ∙ get_or-append-add (take a l) (m ++ drop (e - a) (drop a l)) k d

    back_inside : (k : ℕ) → k < e - a → get_or (back a e l m) (a + k) d ≡ get_or m k d
    back_inside k h = back_from k ∙ get_or-append m (drop (e - a) (drop a l)) d k (omega arith)

    back_above : (w : ℕ) → e ≤ w → get_or (back a e l m) w d ≡ get_or l w d
    back_above w h =
        let place : a + (length m + (w - e)) ≡ w = omega arith in
        ap (λ (n : ℕ). get_or (back a e l m) n d) (sym place)
        ∙ back_from (length m + (w - e))
        ∙ get_or-append-add m (drop (e - a) (drop a l)) (w - e) d
        ∙ get_or-drop (e - a) (drop a l) (w - e) d
        ∙ get_or-drop a l (e - a + (w - e)) d
        ∙ ap (λ (n : ℕ). get_or l n d) (omega arith)

    -- the part came back with f's elements
    pub stored_part : (f : ℕ → A) → ((k : ℕ) → k < e - a → get_or m k d ≡ f (a + k))
        → Stored f a e l (back a e l m)
    stored_part f h =
        is_stored d order back_length
        (λ w low high lt.
        let place : a + (w - a) ≡ w = omega arith in
        ap (λ (n : ℕ). get_or (back a e l m) n d) (sym place)
        ∙ back_inside (w - a) (omega arith)
        ∙ h (w - a) (omega arith)
        ∙ ap f place)
        back_below
        (λ w past lt. back_above w past)

  -- the part came back with what g makes of each element of r
  pub stored_part_each : (a e : ℕ) (l r : List A) {m : List A} (d : A) (f : ℕ → A) (g : ℕ → A → A)
      → a ≤ e → e ≤ length l → length r ≡ e - a
      → m ≡ each g r → ((k : ℕ) → k < e - a → g k (get_or r k d) ≡ f (a + k))
      → Stored f a e l (back a e l m)
  stored_part_each a e l r {m} d f g order inside count is h =
      stored_part a e l m d order inside (ap length is ∙ length_each g r ∙ count) f
      (λ k lt. ap (λ (x : List A). get_or x k d) is ∙ get_d_each g r k d (omega arith) ∙ h k lt)

  -- of each of its own
  pub replaced_part : (a e : ℕ) (l : List A) {m : List A} (d : A) (f g : ℕ → A → A) → a ≤ e
      → e ≤ length l → m ≡ each g (part a e l)
      → ((k : ℕ) → k < e - a → (x : A) → g k x ≡ f (a + k) x) → Replaced d f a e l (back a e l m)
  unfolding replacing
  replaced_part a e l d f g order inside is h =
      replaced
      (stored_part_each a e l (part a e l) d (replacing d f l) g order inside
      (length_part a e l inside) is
      (λ k lt. ap (g k) (get_d_part a e l k d lt) ∙ h k lt (get_or l (a + k) d)))
