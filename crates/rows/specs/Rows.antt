-- The rows of a plane and tight rows, as document 01's section "Pictures"
-- has them. Definitions only.
-- "A plane is its bytes together with its row step. The row at y is the plane's part from y × step,
-- of row bytes". In tight rows the step is row.
-- g is any function of a byte's place in its row and of the byte.
use Rattle.std.specs.Prelude.{
  ℕ,
  ◌+◌,
  ◌-◌,
  ◌*◌,
  ◌/◌,
  ◌%◌,
  ◌≤◌,
  ◌≡◌,
  ◌⊎◌,
  Bool,
  cond,
  ◌&&◌,
  List,
  eqb,
  ltb,
  get_or,
}

-- index k of a plane lies in a row; what lies in none is "padding"
unfoldable pub in_row : ℕ → ℕ → ℕ → ℕ → Bool
in_row row height step k = ltb (k / step) height && ltb (k % step) row

-- the byte x at index k of a plane whose rows went through g
unfoldable pub plane_byte : ℕ → ℕ → ℕ → (ℕ → ℕ → ℕ) → ℕ → ℕ → ℕ
plane_byte row height step g k x = cond (in_row row height step k) (g (k % step) x) x

-- byte k of tight rows, out of the rows of a plane
unfoldable pub tight_byte : ℕ → ℕ → (ℕ → ℕ → ℕ) → List ℕ → ℕ → ℕ
tight_byte row step g plane k = g (k % row) (get_or plane (k / row * step + k % row) 0)

-- "Bytes needed: 0 if width or height is 0, else (height − 1) × step + row"
unfoldable pub needed : ℕ → ℕ → ℕ → ℕ → ℕ
needed width height row step =
    cond (eqb width 0) 0 (cond (eqb height 0) 0 ((height - 1) * step + row))

-- a plane of len bytes has its rows
pub record Rows (width height row step len : ℕ) : Type 0 where
  pub stepped : row ≤ step
  pub enough : needed width height row step ≤ len

-- pixels that are toned in place: of any number of bytes where no channel is kept, or of 2 or 4
-- of which the last is kept
abbrev pub InPlace : ℕ → ℕ → Type 0
InPlace p kept = ((1 ≤ p) × (p ≤ kept)) ⊎ (((p ≡ 2) × (kept ≡ 1)) ⊎ ((p ≡ 4) × (kept ≡ 3)))

-- pixels that are toned into tight rows: 1, 3 or 4 bytes
abbrev pub Tight : ℕ → Type 0
Tight p = (p ≡ 1) ⊎ ((p ≡ 3) ⊎ (p ≡ 4))

-- pixels of p bytes of which the first ones are toned, and at most one byte after them is kept.
-- This stays a clause: p and toned are const parameters, and a slice is not in a struct with them
abbrev pub Pixels : ℕ → ℕ → Type 0
Pixels p toned = (1 ≤ p) × ((toned ≤ p) × (p ≤ toned + 1))

-- the channel that these keep: the last of 4, else none
unfoldable pub tight_alpha : ℕ → ℕ
tight_alpha p = cond (eqb p 4) 3 p
