-- The way of `fill` through the samples: the search for a segment from another one on, the state
-- from block to block, and sample by sample.
use mathlib.Core.Path.{◌≡◌, refl, ◌∙◌}
use mathlib.Core.Bool.{Bool, true, false, not, ◌&&◌, false≢true}
use mathlib.Core.List.{List}
use Prim.Native.Nat.{ℕ, suc, ◌+◌, ◌-◌, ◌≤◌, ◌<◌}
use native.Mathlib.Decide.{dec_lt}
use native.Mathlib.Nat.{sub-zero}
use native.Mathlib.Numerals.{add-one}
use native.Mathlib.Omega.{arith}
use borrow.Author.Tests.{lt-ltb, le-ltb}
use lib.Ieee.{Float, nan, lt}
use lib.ListN.{length, get_or, get_or-replicate}
use Rattle.lists.specs.Tabulate.{tabulate, is_tabulate}
use Rattle.lists.specs.Stored.{Stored, stored_inside, stored_below, stored_above}
use Rattle.single.specs.ByteLaws.{floor_small}
use Rattle.floats.specs.Notation.{◌⊘◌}
use Rattle.segments.specs.Segments.{step, sample_at, seek, segment}
use Rattle.points.specs.Knots.{at}
use Rattle.sampling.specs.declared.Form.{Form}
use Rattle.sampling.specs.declared.blocks.Cursor.{Cursor}
use Rattle.sampling.specs.Pieces.{piece_at, height_at, sampled}
use Rattle.sampling.specs.Walk.{end_at, Ends, next_cursor, piece_sample, State}
use Rattle.sampling.specs.Positions.{past_later, inside_earlier}

-- ---- the search for a segment, from the segment i on
module _ (xs : List Float) (n i : ℕ) (x : Float) where
  -- the next knot is not less than x: it is the one
  pub seek_stays : lt (at xs (i + 1)) x ≡ false → i + 2 < n → seek xs x (n - 2 - i) i ≡ i
  unfolding seek
  seek_stays t h = let more : n - 2 - i ≡ suc (n - 3 - i) = omega arith in rw (more, ← add-one i, t)

  -- it is: the search goes on from there
  pub seek_on : lt (at xs (i + 1)) x ≡ true → i + 2 < n → seek xs x (n - 2 - i) i ≡ seek xs x (n - 2 - (i + 1)) (i + 1)
  unfolding seek
  seek_on t h = let more : n - 2 - i ≡ suc (n - 2 - (i + 1)) = omega arith in rw (more, seek, ← add-one i, t)

  -- there is none
  pub seek_last : n ≤ i + 2 → seek xs x (n - 2 - i) i ≡ i
  unfolding seek
  seek_last h = let none : n - 2 - i ≡ 0 = omega arith in rw none

-- ---- what a test tells
pub both_true : (a b : Bool) → (a && b) ≡ true → (a ≡ true) × (b ≡ true)
both_true true b h = (refl, h)
both_true false b h = absurd (false≢true h)

pub not_true : (b : Bool) → not b ≡ true → b ≡ false
not_true true h = absurd (false≢true h)
not_true false h = refl

-- ---- the next cursor
-- the segment of sample w of S, sought from the segment i on
abbrev sought : List Float → ℕ → ℕ → ℕ → ℕ → ℕ
sought xs n S i w = seek xs (sample_at (step S) w) (n - 2 - i) i

-- q comes after the block at p: the samples in between lie on p's piece, and from q on none lies left of q's
pub record Next (xs : List Float) (n S : ℕ) (p q : Cursor) : Type 0 where
  pub room : q.i + 1 < n
  pub order : p.v ≤ q.v
  pub far : q.v ≤ p.v + 4
  pub more : p.v + p.i < q.v + q.i
  pub inside : (w : ℕ) → p.v ≤ w → w < q.v → sought xs n S p.i w ≡ p.i
  pub ahead : (w : ℕ) → q.v ≤ w → w < S → sought xs n S p.i w ≡ sought xs n S q.i w

module _ {xs : List Float} {n S : ℕ} {p : Cursor} (room : p.i + 1 < n) where
  -- four samples on, where the piece has them
  four_on : ((w : ℕ) → p.v ≤ w → w < p.v + 4 → sought xs n S p.i w ≡ p.i)
      → Next xs n S p (record { v = p.v + 4; i = p.i })
  four_on inside = record {
    room = room;
    order = omega arith;
    far = omega arith;
    more = omega arith;
    inside = inside;
    ahead = λ w low high. refl;
  }

  -- the cursor that the definition gives
  pub next : {q : Cursor} {ends : List ℕ} {s : Float} → Ends xs n ends s S → p.v + 4 ≤ S → q ≡ next_cursor ends p
      → Next xs n S p q
  unfolding next_cursor end_at
  next old-given far q-is =
      let given = rw old-given.step_is at old-given in
      rw q-is (elim (dec_lt (p.i + 2) n) [
        | yes inner ↦
            let x = at xs (p.i + 1) in
            let e = end_at xs (step S) p.i in
            let held = floor_small (x ⊘ step S) in
            let is-end = both_true (lt x (sample_at (step S) e)) _ (given.right.end p.i inner) in
            let inside : (w : ℕ) → w < e → sought xs n S p.i w ≡ p.i =
            λ w high. seek_stays _ _ _ _
            (inside_earlier S given.some given.held x w (e - 1) (omega arith) (omega arith)
            (not_true _ is-end.1))
            inner in
            rw (stored_inside given.row p.i 0 (omega arith) (omega arith) (omega arith))
            (elim (dec_lt (p.v + 4) e) [
              | yes more ↦ rw (lt-ltb (p.v + 4) e more) (four_on (λ w low high. inside w (omega arith)))
              | no enough ↦ rw (le-ltb (p.v + 4) e (omega arith)) (record {
                room = omega arith;
                order = omega arith;
                far = omega arith;
                more = omega arith;
                inside = λ w low high. inside w (omega arith);
                ahead = λ w low high. seek_on _ _ _ _
                    (past_later S given.some given.held x e w (omega arith) (omega arith) is-end.0) inner;
              })
            ])
        | no last ↦
            rw (
              stored_above given.row p.i 0 (omega arith) ∙ get_or-replicate 66 p.i 8192 0 (omega arith),
              lt-ltb (p.v + 4) 8192 (omega arith),
            )
            (four_on (λ w low high. seek_last _ _ _ _ (omega arith)))
      ])

-- ---- the state
module _ {form : Form} {xs ys ms : List Float} {n S : ℕ} where
  pub start : {l : List Float} → length l ≡ S → 2 ≤ n → State form xs ys ms n S (record { v = 0; i = 0 }) l
  unfolding segment
  start long h =
      record {
        long = long;
        room = omega arith;
        done = λ w low high. absurd (omega arith);
        ahead = λ w low high. simp sub-zero;
      }

  module _ {p : Cursor} {l : List Float} (state : State form xs ys ms n S p l) where
    -- the samples before r, after stores from the cursor on by a rule that gives them
    done_to : {f : ℕ → Float} {r b : ℕ} {m : List Float} → Stored f p.v b l m → r ≤ b
        → ((w : ℕ) → p.v ≤ w → w < r → w < S → f w ≡ sampled (height_at form xs ys ms n) S w)
        → (w : ℕ) → w < r → w < S → get_or m w nan ≡ sampled (height_at form xs ys ms n) S w
    done_to block far same w low high = elim (dec_lt w p.v) [
      | yes before ↦ stored_below block w nan before ∙ state.done w before high
      | no after ↦
          stored_inside block w nan (omega arith) (omega arith) (omega arith) ∙ same w (omega arith) low high
    ]

    pub after_block : {q : Cursor} {s : Float} {m : List Float} → Next xs n S p q → s ≡ step S
        → Stored (piece_sample form (piece_at xs ys ms p.i) s) p.v (p.v + 4) l m → State form xs ys ms n S q m
    unfolding piece_sample sampled height_at
    after_block on step_is block = record {
      long = block.same_length ∙ state.long;
      room = on.room;
      done = done_to block on.far (λ w low high lt. rw (step_is, state.ahead w low lt, on.inside w low high));
      ahead = λ w low high. state.ahead w (omega arith) high ∙ on.ahead w low high;
    }

    -- after stores up to the end
    pub all_done : {v : ℕ} {m : List Float} → Stored (sampled (height_at form xs ys ms n) S) p.v v l m
        → S ≤ v → m ≡ tabulate S (sampled (height_at form xs ys ms n) S)
    all_done r end =
        is_tabulate nan (r.same_length ∙ state.long) (λ w high. done_to r end (λ w low high lt. refl) w high high)
