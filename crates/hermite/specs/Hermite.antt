-- The cubic Hermite piece between two knots, unclamped. The order of operations is the file's.
-- Definitions only.
use Rattle.std.specs.Prelude.{Float}
use Rattle.floats.specs.Notation.{◌⊕◌, ◌⊖◌, ◌⊗◌}
use Rattle.single.specs.Constants.{𝟏, 𝟐, 𝟑}
use Rattle.points.specs.declared.Knot.{Knot}

-- "Hermite kinds": the cubic piece from a to b with the tangents ma and mb, at t
unfoldable pub hermite : Knot → Knot → Float → Float → Float → Float
hermite a b ma mb t =
    let w = b.x ⊖ a.x in
    let h00 = (𝟏 ⊕ 𝟐 ⊗ t) ⊗ (𝟏 ⊖ t) ⊗ (𝟏 ⊖ t) in
    let h10 = t ⊗ (𝟏 ⊖ t) ⊗ (𝟏 ⊖ t) in
    let h01 = t ⊗ t ⊗ (𝟑 ⊖ 𝟐 ⊗ t) in
    let h11 = t ⊗ t ⊗ (t ⊖ 𝟏) in
    h00 ⊗ a.y ⊕ h10 ⊗ w ⊗ ma ⊕ h01 ⊗ b.y ⊕ h11 ⊗ w ⊗ mb
