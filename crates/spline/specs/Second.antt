-- The second derivatives Mᵢ at n knots (de Boor, "A Practical Guide to Splines", 1978): the rows of
-- the system under each boundary rule, and what is made of its solution. The segment i has the
-- width hᵢ and the secant Δᵢ. Definitions only.
use Rattle.std.specs.Prelude.{ℕ, ◌+◌, ◌-◌, cond, List, eqb, ltb, Float}
use Rattle.floats.specs.Notation.{◌⊕◌, ◌⊖◌, ◌⊗◌}
use Rattle.single.specs.Constants.{𝟎, 𝟐, 𝟔, pico}
use Rattle.single.specs.Rules.{guarded_quotient}
use Rattle.spline.specs.declared.thomas.Row.{Row}
use Rattle.spline.specs.declared.Segment.{Segment}
use Rattle.spline.specs.declared.SplineBoundary.{SplineBoundary}
use Rattle.spline.specs.declared.SplineBoundary.TheVariants.{Natural, Clamped, NotAKnot}
use Rattle.spline.specs.Segments.{segment_at}
use Rattle.spline.specs.Thomas.{solution}

-- the row of an inner knot i between the segments p and q, which are i − 1 and i:
--   hᵢ₋₁ Mᵢ₋₁ + 2 (hᵢ₋₁ + hᵢ) Mᵢ + hᵢ Mᵢ₊₁ = 6 (Δᵢ − Δᵢ₋₁)
abbrev pub inner : Segment → Segment → Row
inner p q = record {
  a = p.width;
  b = 𝟐 ⊗ (p.width ⊕ q.width);
  c = q.width;
  d = 𝟔 ⊗ (q.secant ⊖ p.secant);
}

-- clamped: the rows of the first and the last knot, from the slopes s0 and s1:
--   2 h₀ M₀ + h₀ M₁ = 6 (Δ₀ − s₀),   hₙ₋₂ Mₙ₋₂ + 2 hₙ₋₂ Mₙ₋₁ = 6 (s₁ − Δₙ₋₂)
abbrev pub clamped_first : Float → Segment → Row
clamped_first s0 q = record { a = 𝟎; b = 𝟐 ⊗ q.width; c = q.width; d = 𝟔 ⊗ (q.secant ⊖ s0) }

abbrev pub clamped_last : Float → Segment → Row
clamped_last s1 p = record { a = p.width; b = 𝟐 ⊗ p.width; c = 𝟎; d = 𝟔 ⊗ (s1 ⊖ p.secant) }

-- not-a-knot: the rows of the first and the last inner knot. The third derivative does not jump
-- there, (M₁ − M₀) / h₀ = (M₂ − M₁) / h₁, so M₀ = M₁ + (h₀ / h₁) (M₁ − M₂). The inner row with this
-- M₀, times h₁:
--   (h₀ + h₁) (h₀ + 2 h₁) M₁ + (h₁ − h₀) (h₁ + h₀) M₂ = 6 h₁ (Δ₁ − Δ₀)
abbrev pub not_a_knot_first : Segment → Segment → Row
not_a_knot_first p q =
    let h0 = p.width in
    let h1 = q.width in
    record {
      a = 𝟎;
      b = (h0 ⊕ h1) ⊗ (h0 ⊕ 𝟐 ⊗ h1);
      c = (h1 ⊖ h0) ⊗ (h1 ⊕ h0);
      d = h1 ⊗ 𝟔 ⊗ (q.secant ⊖ p.secant);
    }

-- and at the other end, with g₀ = hₙ₋₃ and g₁ = hₙ₋₂, times g₀:
--   (g₀ − g₁) (g₀ + g₁) Mₙ₋₃ + (g₀ + g₁) (2 g₀ + g₁) Mₙ₋₂ = 6 g₀ (Δₙ₋₂ − Δₙ₋₃)
abbrev pub not_a_knot_last : Segment → Segment → Row
not_a_knot_last p q =
    let g0 = p.width in
    let g1 = q.width in
    record {
      a = (g0 ⊖ g1) ⊗ (g0 ⊕ g1);
      b = (g0 ⊕ g1) ⊗ (𝟐 ⊗ g0 ⊕ g1);
      c = 𝟎;
      d = g0 ⊗ 𝟔 ⊗ (q.secant ⊖ p.secant);
    }

-- "Not-a-knot with 3 knots fills 2 × (secant1 − secant0) / (h0 + h1)"
abbrev pub parabola : Segment → Segment → Float
parabola p q = guarded_quotient (𝟐 ⊗ (q.secant ⊖ p.secant)) (p.width ⊕ q.width) pico

-- an end value M₀ = M₁ + (h₀ / h₁) (M₁ − M₂), from p and q, those of the next two knots; g is the
-- segment from the end to p's knot, h the next one
unfoldable pub recovered : Segment → Segment → Float → Float → Float
recovered g h p q = p ⊕ guarded_quotient g.width h.width pico ⊗ (p ⊖ q)

-- a value for each of n knots: `first`, then the inner knots' by a rule that counts from the
-- first of them, then `last`
unfoldable pub framed : ℕ → Float → Float → (ℕ → Float) → ℕ → Float
framed n first last inside i = cond (eqb i 0) first (cond (eqb (i + 1) n) last (inside (i - 1)))

-- the system of n knots has a row for each inner knot, or for each knot where the slopes are given
abbrev pub row_count : SplineBoundary → ℕ → ℕ
row_count Natural n = n - 2
row_count (Clamped s0 s1) n = n
row_count NotAKnot n = n - 2

-- n knots are in the rows xs and ys
module _ (xs ys : List Float) (n : ℕ) where
  abbrev segment : ℕ → Segment
  segment i = segment_at xs ys i

  -- the row k, p and q being the segments before and after its knot: knot k where the slopes
  -- are given, else knot k + 1
  unfoldable pub row_at : SplineBoundary → ℕ → Row
  row_at Natural k = inner (segment k) (segment (k + 1))
  row_at (Clamped s0 s1) k =
      let p = segment (k - 1) in
      let q = segment k in
      cond (eqb k 0) (clamped_first s0 q) (cond (eqb (k + 1) n) (clamped_last s1 p) (inner p q))
  row_at NotAKnot k =
      let p = segment k in
      let q = segment (k + 1) in
      cond (eqb k 0) (not_a_knot_first p q) (cond (eqb (k + 3) n) (not_a_knot_last p q) (inner p q))

  -- the unknowns of the system
  unfoldable pub unknown : SplineBoundary → ℕ → Float
  unknown e = solution (row_at e) (row_count e n)

  -- natural: 0 at both ends
  unfoldable pub natural_at : ℕ → Float
  natural_at = framed n 𝟎 𝟎 (unknown Natural)

  -- not-a-knot with at least 4 knots: the two end values are recovered from the unknowns
  unfoldable pub ends_recovered : ℕ → Float
  ends_recovered =
      framed n
      (recovered (segment 0) (segment 1) (unknown NotAKnot 0) (unknown NotAKnot 1))
      (recovered (segment (n - 2)) (segment (n - 3)) (unknown NotAKnot (n - 3))
      (unknown NotAKnot (n - 4)))
      (unknown NotAKnot)

  -- not-a-knot: "with 2 knots, zeros"
  unfoldable pub not_a_knot_at : ℕ → Float
  not_a_knot_at i =
      cond (ltb n 3) 𝟎 (cond (eqb n 3) (parabola (segment 0) (segment 1)) (ends_recovered i))

  -- the second derivative at knot i
  unfoldable pub second_at : SplineBoundary → ℕ → Float
  second_at Natural = natural_at
  second_at (Clamped s0 s1) = unknown (Clamped s0 s1)
  second_at NotAKnot = not_a_knot_at
