-- What is at each place of a plane and of tight rows: for any function of a place
-- and a byte, and for tables.
-- Byte c of row y is at y × step + c in the plane, and at y × row + c in tight rows.
use Rattle.std.specs.Prelude.{
  ◌≡◌,
  false,
  List,
  ℕ,
  ◌+◌,
  ◌-◌,
  ◌*◌,
  ◌/◌,
  ◌%◌,
  ◌≤◌,
  ◌<◌,
  length,
  get_or,
}
use Rattle.std.proofs.Common.{sym, ◌∙◌, le-div_iff_mul-le, mul-le-mul_right, arith}
use Rattle.std.proofs.Math.Bool.{and-false}
use Rattle.std.proofs.Math.Decide.{dec_lt}
use borrow.Author.Tests.{lt-ltb, le-ltb, eq-eqb, ne_eqb}
use Rattle.std.proofs.Math.ListN.{get_or-eq_default}
use Rattle.lists.specs.Each.{each, get_d_each, length_each}
use Rattle.lists.specs.Tabulate.{filled, get_d_filled}
use Rattle.rows.specs.Bytes.{through, toned, row_byte}
use Rattle.rows.specs.Rows.{in_row, plane_byte, tight_byte, needed, Rows}
use Rattle.rows.specs.Places.{place_row, place_in, mul_room}

-- a channel that is not kept goes through its table; the kept one stays
pub toned_through : (kept channel : ℕ) (tables : ℕ → List ℕ) (x : ℕ) → (channel ≡ kept → ⊥)
    → toned kept tables channel x ≡ through (tables channel) x
unfolding toned
toned_through kept channel tables x other = rw (ne_eqb channel kept other)

pub toned_kept : (kept channel : ℕ) (tables : ℕ → List ℕ) (x : ℕ) → channel ≡ kept
    → toned kept tables channel x ≡ x
unfolding toned
toned_kept kept channel tables x e = rw (eq-eqb channel kept e)

-- channel j of pixel x of a row
pub row_channel : (p kept : ℕ) (tables : ℕ → List ℕ) (x j b : ℕ) → j < p
    → row_byte p kept tables (x * p + j) b ≡ toned kept tables j b
unfolding row_byte
row_channel p kept tables x j b h = rw (place_in x p j h)

-- the rows of a checked plane lie in it
pub rows_inside : {w h row step len : ℕ} (y : ℕ) → Rows w h row step len → (w ≡ 0 → ⊥) → y < h
    → y * step + row ≤ len
unfolding needed
rows_inside {w} {h} {row} {step} y rows wide lt =
    let enough = rw (ne_eqb w 0 wide, ne_eqb h 0 (λ e. omega arith)) at rows.enough in
    let above : y * step ≤ (h - 1) * step = mul-le-mul_right step (omega arith) in
    omega arith

-- padding: beside a row, after the last row, and all of a plane without columns
module _ (row h step : ℕ) where
  pub beside_row : (y c : ℕ) → row ≤ c → c < step → in_row row h step (y * step + c) ≡ false
  unfolding in_row
  beside_row y c past lt = rw (place_in y step c lt, le-ltb c row past, and-false)

  pub below_rows : (k : ℕ) → 0 < step → h * step ≤ k → in_row row h step k ≡ false
  unfolding in_row
  below_rows k some past =
      rw (le-ltb (k / step) h ((le-div_iff_mul-le {x = h} {y = k} some).1 past))

  pub no_columns_lem : (k : ℕ) → row ≡ 0 → in_row row h step k ≡ false
  unfolding in_row
  no_columns_lem k none = rw (le-ltb (k % step) row (omega arith), and-false)

-- a byte of a row of a plane whose rows went through g, and a byte of padding
module _ (row h step : ℕ) (g : ℕ → ℕ → ℕ) where
  pub plane_row : (y c b : ℕ) → row ≤ step → y < h → c < row
      → plane_byte row h step g (y * step + c) b ≡ g c b
  unfolding plane_byte in_row
  plane_row y c b stepped below inside =
      rw (
        place_row y step c (omega arith),
        place_in y step c (omega arith),
        lt-ltb y h below,
        lt-ltb c row inside,
      )

  pub plane_padding : (k b : ℕ) → in_row row h step k ≡ false → plane_byte row h step g k b ≡ b
  unfolding plane_byte
  plane_padding k b e = rw e

-- tight rows out of a plane
pub tight_row : (row step : ℕ) (g : ℕ → ℕ → ℕ) (plane : List ℕ) (y c : ℕ) → c < row
    → tight_byte row step g plane (y * row + c) ≡ g c (get_or plane (y * step + c) 0)
unfolding tight_byte
tight_row row step g plane y c h = rw (place_row y row c h, place_in y row c h)

-- What the toned list holds: channel j of the pixel at row y and column x, in the plane and in
-- tight rows, and all else.
module _ (w h step p kept : ℕ) (tables : ℕ → List ℕ) where
  pub plane_pixel : (plane : List ℕ) (y x j : ℕ) → Rows w h (w * p) step (length plane) → y < h
      → x < w → j < p
      → get_or (each (plane_byte (w * p) h step (row_byte p kept tables)) plane)
      (y * step + (x * p + j)) 0
      ≡ toned kept tables j (get_or plane (y * step + (x * p + j)) 0)
  unfolding plane_byte in_row
  plane_pixel plane y x j rows below left channel =
      let inside = rows_inside y rows (λ e. omega arith) below in
      let room = mul_room x w p left in
      let stepped = rows.stepped in
      let at = y * step + (x * p + j) in
      rw (
        get_d_each (plane_byte (w * p) h step (row_byte p kept tables)) plane at 0 (omega arith),
        place_row y step (x * p + j) (omega arith),
        place_in y step (x * p + j) (omega arith),
        lt-ltb y h below,
        lt-ltb (x * p + j) (w * p) (omega arith),
      )
      (row_channel p kept tables x j _ channel)

  pub tight_pixel : (plane dst : List ℕ) (y x j : ℕ) → y < h → x < w → j < p
      → get_or (filled (h * (w * p)) (tight_byte (w * p) step (row_byte p kept tables) plane) dst)
      (y * (w * p) + (x * p + j)) 0
      ≡ toned kept tables j (get_or plane (y * step + (x * p + j)) 0)
  unfolding tight_byte
  tight_pixel plane dst y x j below left channel =
      let room = mul_room x w p left in
      let rows = mul_room y h (w * p) below in
      let at = y * (w * p) + (x * p + j) in
      let rule = tight_byte (w * p) step (row_byte p kept tables) plane in
      rw (
        get_d_filled (h * (w * p)) rule dst at 0 (omega arith),
        place_row y (w * p) (x * p + j) (omega arith),
        place_in y (w * p) (x * p + j) (omega arith),
      )
      (row_channel p kept tables x j _ channel)

-- padding is as it was; so are bytes after tight rows, by `get_d_filled_rest`
pub padding_stays : (row h step : ℕ) (g : ℕ → ℕ → ℕ) (plane : List ℕ) (k : ℕ)
    → in_row row h step k ≡ false
    → get_or (each (plane_byte row h step g) plane) k 0 ≡ get_or plane k 0
padding_stays row h step g plane k out = elim (dec_lt k (length plane)) [
  | yes lt ↦ get_d_each _ plane k 0 lt ∙ plane_padding row h step g k _ out
  | no past ↦
      get_or-eq_default (each (plane_byte row h step g) plane) 0
      (omega (arith, length_each (plane_byte row h step g) plane))
      ∙ sym (get_or-eq_default plane 0 (omega arith))
]
