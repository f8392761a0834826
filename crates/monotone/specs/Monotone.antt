-- The tangents of MonotoneCubic and MonotoneCubicBox (Fritsch and Carlson, "Monotone Piecewise
-- Cubic Interpolation", 1980), as document 01 has them. In their letters: Δᵢ is the secant of the
-- segment i, mᵢ the tangent at the knot i, and of the segment i
--   α = mᵢ / Δᵢ,   β = mᵢ₊₁ / Δᵢ,   τ = 3 / √(α² + β²).
-- Document 01 calls α and β a and b. Definitions only.
use Rattle.std.specs.Prelude.{◌≡◌, ℕ, zero, suc, ◌+◌, ◌-◌, Bool, true, false, cond, List, eqb, Float}
use Rattle.std.specs.Float.Ieee.{lt}
use Rattle.floats.specs.Notation.{◌⊕◌, ◌⊗◌, ◌⊘◌}
use Rattle.single.specs.Constants.{𝟎, ½, 𝟑, 𝟗}
use Rattle.single.specs.Rules.{tiny}
use Rattle.single.specs.Root.{root_of}
use Rattle.monotone.specs.declared.Tangents.{Tangents}
use Rattle.points.specs.Knots.{knot_at}
use Rattle.segments.specs.Straight.{slope}

-- Δᵢ, the secant of the segment i
unfoldable pub secant_at : List Float → List Float → ℕ → Float
secant_at xs ys i = slope (knot_at xs ys i) (knot_at xs ys (i + 1))

-- "mean of neighbours, one-sided at the ends": the first mᵢ, of n knots: Δ₀, (Δᵢ₋₁ + Δᵢ) / 2, Δₙ₋₂
unfoldable pub mean_at : List Float → List Float → ℕ → ℕ → Float
mean_at xs ys n i =
    cond (eqb i 0) (secant_at xs ys 0)
    (cond (eqb (i + 1) n) (secant_at xs ys (i - 1))
    (½ ⊗ (secant_at xs ys (i - 1) ⊕ secant_at xs ys i)))

-- "a negative one sets its tangent 0": the tangent m, with the ratio m / Δ, which is α or β
abbrev pub nonnegative : Float → Float → Float
nonnegative m ratio = cond (lt ratio 𝟎) 𝟎 m

-- "The Box kind caps each at 3 secants"
abbrev pub capped : Float → Float → Float → Float
capped m ratio Δ = cond (lt 𝟑 ratio) (𝟑 ⊗ Δ) (nonnegative m ratio)

-- the tangents l = mᵢ and r = mᵢ₊₁ of a segment, each capped by itself
unfoldable pub boxed : Float → Float → Float → Tangents
boxed Δ l r =
    let α = l ⊘ Δ in
    let β = r ⊘ Δ in
    record { left = capped l α Δ; right = capped r β Δ }

-- "if a × a + b × b > 9, both become 3 / root × a (or b) × secant, from the a
-- and b before that zeroing"
unfoldable pub circled : Float → Float → Float → Tangents
circled Δ l r =
    let α = l ⊘ Δ in
    let β = r ⊘ Δ in
    let s = α ⊗ α ⊕ β ⊗ β in
    let τ = 𝟑 ⊘ root_of s in
    cond (lt 𝟗 s) (record { left = τ ⊗ α ⊗ Δ; right = τ ⊗ β ⊗ Δ })
    (record { left = nonnegative l α; right = nonnegative r β })

-- the tangents of a segment as it leaves them: "a secant below 1e-9 in size sets both tangents 0"
unfoldable pub adjusted : Bool → Float → Float → Float → Tangents
adjusted box Δ l r =
    cond (tiny Δ) (record { left = 𝟎; right = 𝟎 })
    (cond box (boxed Δ l r) (circled Δ l r))

-- "segment by segment from the left": the tangent of knot i as the segments before it leave it
unfoldable pub reached : Bool → List Float → List Float → ℕ → ℕ → Float
reached box xs ys n zero = mean_at xs ys n 0
reached box xs ys n (suc i) =
    (adjusted box (secant_at xs ys i) (reached box xs ys n i) (mean_at xs ys n (suc i))).right

-- and as the segment after it leaves it; the last knot has none after it
unfoldable pub monotone_at : Bool → List Float → List Float → ℕ → ℕ → Float
monotone_at box xs ys n i =
    cond (eqb (i + 1) n) (reached box xs ys n i)
    (adjusted box (secant_at xs ys i) (reached box xs ys n i) (mean_at xs ys n (i + 1))).left

-- MonotoneCubic's tangents, and those of "the Box kind"
abbrev pub circle_at : List Float → List Float → ℕ → ℕ → Float
circle_at = monotone_at false

abbrev pub box_at : List Float → List Float → ℕ → ℕ → Float
box_at = monotone_at true

-- ---- what the code asks of a closure that limits the tangents of a segment, by what it may say
unfoldable pub limited : Bool → Float → Float → Float → Tangents
limited box Δ l r = cond box (boxed Δ l r) (circled Δ l r)

abbrev pub Limits : (Float → Float → Float → Float → Tangents → Type 0) → Bool → Type 0
Limits post box = (Δ l r : Float) (t : Tangents) → post Δ l r (r ⊘ Δ) t → t ≡ limited box Δ l r
