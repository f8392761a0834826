-- What becomes of a byte by its place in a row, as document 01's section "Pictures"
-- has it. Definitions only.
-- A row is pixels of p bytes, one after another. The bytes of a pixel are its channels, numbered
-- from 0: red, green, blue, alpha; or grey, alpha.
use Rattle.std.specs.Prelude.{ℕ, zero, suc, ◌-◌, ◌%◌, cond, List, eqb, get_or}

-- the table of each channel: one for all, or one for each colour
abbrev pub same : List ℕ → ℕ → List ℕ
same table channel = table

abbrev pub three : List ℕ → List ℕ → List ℕ → ℕ → List ℕ
three red green blue zero = red
three red green blue (suc zero) = green
three red green blue (suc (suc channel)) = blue

-- a byte x "sent through a table"
abbrev pub through : List ℕ → ℕ → ℕ
through table x = get_or table x 0

-- a byte x of a channel: in the kept one, alpha, it stays; in any other it goes
-- through the channel's table.
-- Where kept is p or more no channel is kept.
unfoldable pub toned : ℕ → (ℕ → List ℕ) → ℕ → ℕ → ℕ
toned kept tables channel x = cond (eqb channel kept) x (through (tables channel) x)

-- the byte x at place c of a row
unfoldable pub row_byte : ℕ → ℕ → (ℕ → List ℕ) → ℕ → ℕ → ℕ
row_byte p kept tables c x = toned kept tables (c % p) x

-- the same for the toned channels of the pixel that starts at place i
unfoldable pub pixel_byte : ℕ → (ℕ → List ℕ) → ℕ → ℕ → ℕ
pixel_byte i tables c x = through (tables (c - i)) x
