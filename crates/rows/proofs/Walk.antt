-- Turns of the loops: a pixel after others, a row of a plane, a part stored behind others; and
-- which pixels a test has found.
use mathlib.Core.Path.{◌≡◌, refl, sym, ap, ◌∙◌}
use mathlib.Core.Bool.{false}
use mathlib.Core.List.{List, ◌++◌, append-nil}
use mathlib.Core.Logic.{⊎_elim}
use Prim.Native.Nat.{ℕ, zero, suc, ◌+◌, ◌-◌, ◌*◌, ◌%◌, ◌≤◌, ◌<◌}
use native.Mathlib.Nat.{mod-lt}
use native.Mathlib.Omega.{arith}
use lib.ListN.{length, get_or, drop}
use lib.Seq.{drop-length}
use borrow.Author.Tests.{ne_eqb}
use lib.Dec.{eqb}
use Rattle.std.proofs.Common.{add-mul, mul-one, zero-mul}
use Rattle.std.proofs.Math.Nat.{mul-add-mod_self_right}
use Rattle.lists.specs.Each.{each, each_same, is_each}
use Rattle.lists.specs.Replaced.{
  Replaced,
  replacing,
  replaced_then,
  replaced_as,
  replaced_kept,
  replaced_end,
  replaced_each,
}
use Rattle.lists.specs.Stored.{Stored, stored_then, stored_end, stored_inside}
use Rattle.lists.specs.Part.{part, back, length_part, get_d_part, stored_part_each, replaced_part}
use Rattle.rows.specs.Bytes.{same, three, through, toned, row_byte, pixel_byte}
use Rattle.rows.specs.Rows.{in_row, plane_byte, needed, Rows, InPlace, Pixels}
use Rattle.rows.specs.Places.{mul_next, mul_part, mul_bound}
use Rattle.rows.specs.Laws.{
  toned_through,
  toned_kept,
  row_channel,
  plane_row,
  plane_padding,
  beside_row,
}

-- channel j of the pixel that starts at i
pub pixel_channel : (i j : ℕ) (tables : ℕ → List ℕ) (b : ℕ) → pixel_byte i tables (i + j) b ≡ through (tables j) b
unfolding pixel_byte
pixel_channel i j tables b = let channel : i + j - i ≡ j = omega arith in rw channel

-- pixel x, which starts at i, after others from a on: its channels went through their tables, but
-- for the last if it is kept
pub pixel_next : {p kept a i : ℕ} {l m k : List ℕ} (tables : ℕ → List ℕ) (x : ℕ) → i ≡ x * p
    → Pixels p kept → Replaced 0 (row_byte p kept tables) a i l m
    → Replaced 0 (pixel_byte i tables) i (i + kept) m k
    → Replaced 0 (row_byte p kept tables) a ((x + 1) * p) l k
pixel_next {p} {kept} {i = i} tables x at few r s =
    let channel : (j b : ℕ) → j < p → row_byte p kept tables (i + j) b ≡ toned kept tables j b =
    λ j b lt. rw at (row_channel p kept tables x j b lt) in
    let place : (w : ℕ) → i ≤ w → w ≡ i + (w - i) = λ w low. omega arith in
    let colours = replaced_as {g = row_byte p kept tables} s (λ w low high b. rw (
      place w low,
      pixel_channel i (w - i) tables b,
      channel (w - i) b (omega arith),
      toned_through kept (w - i) tables b (λ e. omega arith),
    )) in
    let whole : Replaced 0 (row_byte p kept tables) _ (i + p) _ _ =
    replaced_kept (replaced_then r colours) (omega arith) (λ w low high b. rw (
      place w (omega arith),
      channel (w - i) b (omega arith),
      toned_kept kept (w - i) tables b (omega arith),
    )) in
    replaced_end whole (omega (arith, mul_next x p))

-- one table for all three colours
three_same : (table : List ℕ) (channel : ℕ) → three table table table channel ≡ table
three_same table zero = refl
three_same table (suc zero) = refl
three_same table (suc (suc channel)) = refl

pub one_table : (p kept : ℕ) (table : List ℕ) (c b : ℕ)
    → row_byte p kept (three table table table) c b ≡ row_byte p kept (same table) c b
unfolding row_byte toned
one_table p kept table c b = rw (three_same table (c % p))

-- where no channel is kept, every byte goes through the table: each is a pixel by itself
pub all_toned : (p kept : ℕ) (table : List ℕ) → 1 ≤ p → p ≤ kept → (c b : ℕ)
    → row_byte 1 1 (same table) c b ≡ row_byte p kept (same table) c b
unfolding row_byte
all_toned p kept table some none c b =
    let alone : c % 1 < 1 = mod-lt c (omega arith) in
    let channel : c % p < p = mod-lt c some in
    rw (
      toned_through 1 (c % 1) (same table) b (λ q. omega arith),
      toned_through kept (c % p) (same table) b (λ q. omega arith),
    )

-- a copy as long as its original, of which each byte was then replaced
pub copied_each : {copy m : List ℕ} (f : ℕ → ℕ → ℕ) (src dst : List ℕ) → length dst ≡ length src
    → copy ≡ src ++ drop (length src) dst → m ≡ each f copy → m ≡ each f src
copied_each f src dst e is replaced = replaced ∙ rw (is, ← e, drop-length dst, append-nil src)

-- the pixels that a test has found
pub some_bytes : {p kept : ℕ} → InPlace p kept → 1 ≤ p
some_bytes = ⊎_elim (λ q. q.0) (⊎_elim (λ q. omega arith) (λ q. omega arith))

pub last_of_two : {p kept : ℕ} → InPlace p kept → kept < p → p ≡ 2 → kept ≡ 1
last_of_two o lt e = ⊎_elim (λ q. absurd (omega arith)) (⊎_elim (λ q. q.1) (λ q. absurd (omega arith))) o

pub last_of_four : {p kept : ℕ} → InPlace p kept → kept < p → (p ≡ 2 → ⊥) → (p ≡ 4) × (kept ≡ 3)
last_of_four o lt n = ⊎_elim (λ q. absurd (omega arith)) (⊎_elim (λ q. absurd (n q.0)) (λ q. q)) o

-- the rows of a plane, each byte a pixel
none_same : (w p : ℕ) → 1 ≤ p → eqb (w * p) 0 ≡ eqb w 0
none_same zero p some = rw (zero-mul p)
none_same (suc w) p some =
    let wide = mul_bound 1 1 (suc w) p (omega arith) some in
    rw (ne_eqb (suc w * p) 0 (λ e. omega arith), ne_eqb (suc w) 0 (λ e. omega arith))

pub rows_of_bytes : {w h p step len : ℕ} → 1 ≤ p → Rows w h (w * p) step len
    → Rows (w * p) h (w * p * 1) step len
unfolding needed
rows_of_bytes {w = w} {p = p} some rows =
    rw mul-one (record { stepped = rows.stepped; enough = rw (none_same w p some) rows.enough })

-- a row of a plane after others
module _ (row h step : ℕ) (g : ℕ → ℕ → ℕ) where
  pub plane_next : {l m n : List ℕ} (y : ℕ) → row ≤ step → y < h → y * step + row ≤ length m
      → Replaced 0 (plane_byte row h step g) 0 (y * step) l m → n ≡ each g (part (y * step) (y * step + row) m)
      → Replaced 0 (plane_byte row h step g) 0 ((y + 1) * step) l (back (y * step) (y * step + row) m n)
  plane_next {m = m} y stepped below inside r is =
      let one = replaced_part (y * step) (y * step + row) m 0 (plane_byte row h step g) g (omega arith) inside is
      (λ c lt b. sym (plane_row row h step g y c b stepped below (omega arith))) in
      replaced_end
      (replaced_kept (replaced_then r one) (omega arith) (λ k low high b.
      let place : k ≡ y * step + (k - y * step) = omega arith in
      rw place (plane_padding row h step g _ b (beside_row row h step y (k - y * step) (omega arith) (omega arith)))))
      (sym (mul_next y step))

  -- a function that agrees with g on every byte
  pub plane_same : (f : ℕ → ℕ → ℕ) → ((c b : ℕ) → g c b ≡ f c b) → (l : List ℕ)
      → each (plane_byte row h step g) l ≡ each (plane_byte row h step f) l
  unfolding plane_byte
  plane_same f same l = each_same 0 _ _ l (λ k lt. rw (same (k % step) (get_or l k 0)))

  -- the bytes from n on are padding
  pub plane_done : {n : ℕ} {l m : List ℕ} → Replaced 0 (plane_byte row h step g) 0 n l m
      → ((k : ℕ) → n ≤ k → in_row row h step k ≡ false) → m ≡ each (plane_byte row h step g) l
  plane_done {n} {l} r out =
      let whole : Replaced 0 (plane_byte row h step g) 0 (n + length l) l _ =
      replaced_kept r (omega arith) (λ k low high b. plane_padding row h step g k b (out k low)) in
      replaced_each whole (omega arith)

-- a part of src, through g, behind what is stored
pub part_next : {l m n : List ℕ} (f : ℕ → ℕ) (g : ℕ → ℕ → ℕ) (src : List ℕ) (from to size : ℕ)
    → from + size ≤ length src → to + size ≤ length m → Stored f 0 to l m
    → n ≡ each g (part from (from + size) src) → ((c : ℕ) → c < size → g c (get_or src (from + c) 0) ≡ f (to + c))
    → Stored f 0 (to + size) l (back to (to + size) m n)
part_next {m = m} f g src from to size source target r is rule =
    let count = length_part from (from + size) src source in
    stored_then r
    (stored_part_each to (to + size) m (part from (from + size) src) 0 f g (omega arith) target (omega arith) is
    (λ c lt. ap (g c) (get_d_part from (from + size) src c 0 (omega arith)) ∙ rule c (omega arith)))

-- count pixels of a row behind the x before them
pub block_next : {l m n : List ℕ} {w : ℕ} (p : ℕ) (g : ℕ → ℕ → ℕ) (src : List ℕ) (x count : ℕ)
    → ((c b : ℕ) → g (x * p + c) b ≡ g c b) → x + count ≤ w → length src ≡ w * p → length m ≡ w * p
    → Stored (replacing 0 g src) 0 (x * p) l m
    → n ≡ each g (part (x * p) (x * p + count * p) src)
    → Stored (replacing 0 g src) 0 ((x + count) * p) l (back (x * p) (x * p + count * p) m n)
unfolding replacing
block_next {w = w} p g src x count same inside source target r is =
    let room = mul_part x count w p inside in
    stored_end
    (part_next (replacing 0 g src) g src (x * p) (x * p) (count * p) (omega arith) (omega arith) r is
    (λ c lt. sym (same c _)))
    (sym (add-mul x count p))

-- the bytes of a row from pixel x on
pub row_from : (p kept : ℕ) (tables : ℕ → List ℕ) (x c b : ℕ)
    → row_byte p kept tables (x * p + c) b ≡ row_byte p kept tables c b
unfolding row_byte
row_from p kept tables x c b = rw (mul-add-mod_self_right x p c)

-- every byte of a row is stored
pub row_done : {l m : List ℕ} {b : ℕ} (g : ℕ → ℕ → ℕ) (src : List ℕ) → Stored (replacing 0 g src) 0 b l m
    → length l ≡ length src → length src ≤ b → m ≡ each g src
unfolding replacing
row_done g src r e h =
    is_each 0 g src (omega arith)
    (λ k lt. stored_inside r k 0 (omega arith) (omega arith) (omega arith))
