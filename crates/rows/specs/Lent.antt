-- What the kernels are lent, in the words of `Bytes` and `Rows`. Definitions only.
use Rattle.std.specs.Prelude.{ℕ, ◌*◌, List}
use Rattle.rows.specs.declared.Tables.{Tables}
use Rattle.rows.specs.declared.Grid.{Grid}
use Rattle.rows.specs.Bytes.{three}
use Rattle.rows.specs.Rows.{Rows}

-- the table of each channel
abbrev pub by_channel : Tables → ℕ → List ℕ
by_channel t = three t.red.now t.green.now t.blue.now

-- a plane of len bytes has the grid's rows, of pixels of p bytes. This stays a clause, and no
-- invariant of Grid: the plane's slice is not in the struct, and document 01 has "the core first on
-- slice and number"
abbrev pub HasRows : Grid → ℕ → ℕ → Type 0
HasRows g p len = Rows g.w g.h (g.w * p) g.step len
