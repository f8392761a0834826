-- `single::count_to_float` meets its contract: the count is the same signed, and
-- a float holds it exactly.
use Rattle.std.proofs.Common.{◌≡◌, ap, ℕ, ◌≤◌, ◌^◌, lt_of_le_of_lt, T, le→leb, lit<, pos, w32, to_z}
use lib.Ieee.{binary32, in_float, of_int}
use mir.Facts.{to_z_pos}
use Rattle.single.proofs.count_to_float.Goals as goal

signed : (n : ℕ) → n ≤ 2 ^ 24 → to_z w32 n ≡ pos n
signed n h = to_z_pos w32 (lt_of_le_of_lt h (lit< tt))

exact : (n : ℕ) → n ≤ 2 ^ 24 → T (in_float binary32 (to_z w32 n))
unfolding in_float
exact n h = rw (signed n h) (le→leb n (2 ^ 24) h)

pub int_to_float-result : goal.int_to_float-result
int_to_float-result c = exact _ c.requires

pub returns : goal.returns
returns c = ap (of_int binary32) (signed _ c.requires)
