-- The rows of a plane, as document 01's section "Pictures" has them. Definitions only.
use Rattle.std.specs.Prelude.{ℕ, ◌*◌, List, take, drop}

-- "The row at y is the plane's part from y × step, of row bytes": n bytes, or those of
-- them that the plane holds
unfoldable pub row_of : List ℕ → ℕ → ℕ → ℕ → List ℕ
row_of bytes step y n = take n (drop (y * step) bytes)
