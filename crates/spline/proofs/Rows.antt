-- Rows of floats by their rules: one of which a slice was lent, and one whose inner knots are stored
-- first and its ends after that.
use mathlib.Core.Path.{◌≡◌, refl, sym, ◌∙◌}
use mathlib.Core.List.{List}
use Prim.Native.Nat.{ℕ, zero, suc, ◌+◌, ◌-◌, ◌<◌, ◌≤◌}
use native.Mathlib.Nat.{sub-zero, le_refl}
use native.Mathlib.Omega.{arith}
use borrow.Author.Tests.{eq-eqb, ne_eqb}
use borrow.Rule.Slice.PartMut.{put_mid}
use lib.ListN.{length, get_or, set, take, replicate}
use lib.Ieee.{Float, nan}
use Rattle.std.proofs.Math.Seq.{paste, paste-zero, paste-suc}
use Rattle.std.proofs.lemmas.Slice.{put_mid-paste}
use Rattle.std.proofs.lemmas.List.{get_or-replicate, length-replicate, length-take-le}
use Rattle.lists.specs.Tabulate.{tabulate, is_tabulate, length_tabulate, get_d_tabulate}
use Rattle.lists.specs.Stored.{Stored, stored_none, stored_as, stored_before, stored_end, stored_next, stored_inside}
use Rattle.spline.specs.Second.{framed}

-- a rule whose first value goes to place `start`
abbrev starting_at : ℕ → (ℕ → Float) → ℕ → Float
starting_at start f w = f (w - start)

-- the row l, of which a slice from place `start` on was lent, and the first m values of f in it
module _ (f : ℕ → Float) (start m : ℕ) (l : List Float) (room : start + m ≤ length l) where
  pasted : (i : ℕ) → i ≤ m → Stored (starting_at start f) start (start + i) l (paste l start (tabulate m f) i)
  pasted zero h = rw (← paste-zero l start (tabulate m f)) (stored_end stored_none (omega arith))
  pasted (suc i) h =
      let below : i < m = omega arith in
      let place : start + i - start ≡ i = omega arith in
      let full = length_tabulate m f in
      rw (← paste-suc l start (tabulate m f) i nan (omega arith) (omega arith))
      (stored_end (stored_next (pasted i (omega arith)) (rw place (get_d_tabulate m f i nan below))) (omega arith))

  -- the slice came back with them
  lent : {k : ℕ} {u : List Float} → u ≡ tabulate m f → m ≡ k
      → Stored (starting_at start f) start (start + m) l (put_mid start k l u)
  lent {k} {u} e same =
      rw (put_mid-paste start k l u (tabulate m f) m e same (sym (length_tabulate m f))) (pasted m (le_refl m))

-- a slice of the front came back with the first n values of f
module _ (f : ℕ → Float) (n : ℕ) (l : List Float) (room : n ≤ length l) where
  pub lent_front : {u : List Float} → u ≡ tabulate n f → Stored f 0 n l (put_mid 0 n l u)
  lent_front e =
      stored_end (stored_as (lent f 0 n l (omega arith) e refl) (λ w low high. simp sub-zero)) (omega arith)

  -- and filled with one value
  pub filled_front : {v : Float} {u : List Float} → u ≡ replicate (length (take n l)) v
      → ((w : ℕ) → w < n → v ≡ f w) → Stored f 0 n l (put_mid 0 n l u)
  filled_front {v} e same =
      let long : length (take n l) ≡ n = length-take-le n l room in
      lent_front
      (e ∙ is_tabulate nan (length-replicate _ v ∙ long)
      (λ k low. rw long (get_or-replicate n k v nan low ∙ same k low)))

-- the slice of the inner knots of n came back with the values f
module _ (n : ℕ) (f : ℕ → Float) (l : List Float) (room : n ≤ length l) (two : 2 ≤ n)
    {u : List Float} (e : u ≡ tabulate (n - 2) f) where
  inner : Stored (starting_at 1 f) 1 (1 + (n - 2)) l (put_mid 1 (n - 1 - 1) l u)
  inner = lent f 1 (n - 2) l (omega arith) e (omega arith)

  pub inner_value : (k j : ℕ) → j + 1 ≡ k → k + 1 < n → get_or (put_mid 1 (n - 1 - 1) l u) k nan ≡ f j
  inner_value k j same high =
      let place : k - 1 ≡ j = omega arith in
      stored_inside inner k nan (omega arith) (omega arith) (omega arith) ∙ rw place

  -- with a value at each end the row is framed
  pub framed_row : (first last : Float)
      → Stored (framed n first last f) 0 n l (set (set (put_mid 1 (n - 1 - 1) l u) 0 first) (n - 1) last)
  unfolding framed
  framed_row first last =
      let inside =
      stored_as {g = framed n first last f} inner
      (λ w low high. rw (ne_eqb w 0 (λ e. omega arith), ne_eqb (w + 1) n (λ e. omega arith))) in
      let front = stored_end {a = 0} {c = n - 1} (stored_before inside refl (omega arith)) (omega arith) in
      stored_end
      (stored_next front (rw (ne_eqb (n - 1) 0 (λ e. omega arith), eq-eqb (n - 1 + 1) n (omega arith)))) (omega arith)
