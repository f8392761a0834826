-- The words of the three demands, pinned from both sides: at its edge each has a computed case that
-- it covers and one that it does not. So a word that is made to say less, or to ask for more, is
-- refused here, whatever becomes of the proofs that meet it.
use Rattle.std.specs.Prelude.{ℕ, zero, suc, ◌+◌, ◌*◌, ◌≤◌, ◌<◌, ◌≡◌, refl, ◌⊎◌, true, false, List, [], ◌∷◌, eqb, ℤ, length, get_or}
use Rattle.std.proofs.Common.{mul-pos, mul-le-mul_right, arith, ap, inl, inr, ⊎_elim, lit<, lit≤}
use Rattle.std.proofs.Math.Decide.{dec_lt}
use Rattle.std.proofs.lemmas.Bool.{eqb-false}
use Rattle.answers.specs.declared.Refusal.TheVariants.{RecordTruncated, PointCount}
use Rattle.answers.specs.Checks.{◌when◌}
use Rattle.points.specs.declared.Point.{Point}
use Rattle.points.specs.Points.{pt, at_level}
use Rattle.points.specs.Knots.{x_of, OnLine}
use Rattle.tables.specs.declared.CurveInterpolation.TheVariants.{
  Linear,
  CatmullRom,
  MonotoneCubic,
  MonotoneCubicBox,
  NaturalCubic,
  CentripetalCatmullRom,
  ChordalCatmullRom,
  Cardinal,
  ClampedCubic,
  NotAKnotCubic,
}
use Rattle.rows.specs.Rows.{in_row}
use Rattle.formats.specs.declared.PixelFormat.TheVariants.{Gray8, Ya8, Rgb24}
use Rattle.examples.specs.Computed as Computed
use Rattle.promises.specs.Checks.{Answers}
use Rattle.promises.specs.Results.{ExactPlane}
use Rattle.promises.specs.Words.{IsSpline, WholeHeights, Nearest, NearlyNearest}
use Rattle.promises.specs.Words.{HasLine, Copied}

-- ---- the first demand
-- 0 where nothing is refused, which asks nothing of what was lent; not a number that no check
-- gives, nor the second of two, nor a change beside the least number
pub answers_zero : Answers [] 0 ⊥
answers_zero = record { first = refl; unchanged = λ refusal. omega arith }

pub no_answers : (Answers [] 3 (Unit {0}) → ⊥)
    × (Answers (RecordTruncated when true ∷ PointCount when true ∷ []) 3 (Unit {0}) → ⊥)
    × (Answers (RecordTruncated when true ∷ []) 2 ⊥ → ⊥)
no_answers = (
  λ a. let z : ◌≡◌ {A = ℕ} 3 0 = a.first in omega (arith, z),
  λ a. let z : ◌≡◌ {A = ℕ} 3 2 = a.first in omega (arith, z),
  λ a. a.unchanged (lit< tt),
)

-- ---- kinds
-- just the three are splines
pub the_splines : (start end : ℤ)
    → IsSpline NaturalCubic × IsSpline (ClampedCubic start end) × IsSpline NotAKnotCubic
the_splines start end = (inl refl, inr (inl refl), inr (inr refl))

-- a kind whose number is none of the three: each pair of numbers that would say so differs
by_number : {j k l m n o : ℕ} → eqb j k ≡ false → eqb l m ≡ false → eqb n o ≡ false
    → (j ≡ k) ⊎ (l ≡ m) ⊎ (n ≡ o) → ⊥
by_number {j} {k} {l} {m} {n} {o} e f g =
    ⊎_elim (eqb-false j k e) (⊎_elim (eqb-false l m f) (eqb-false n o g))

pub no_splines : (q : ℕ)
    → (IsSpline Linear → ⊥) × (IsSpline CatmullRom → ⊥) × (IsSpline MonotoneCubic → ⊥)
    × (IsSpline MonotoneCubicBox → ⊥) × (IsSpline CentripetalCatmullRom → ⊥)
    × (IsSpline ChordalCatmullRom → ⊥) × (IsSpline (Cardinal q) → ⊥)
no_splines q = (
  by_number refl refl refl,
  by_number refl refl refl,
  by_number refl refl refl,
  by_number refl refl refl,
  by_number refl refl refl,
  by_number refl refl refl,
  by_number refl refl refl,
)

pub linear_is_no_spline : IsSpline Linear → ⊥
linear_is_no_spline = by_number refl refl refl

-- ---- the broken line
-- at a third only the nearer one is nearest; a half is `nearest_half` of Controls
pub nearest_third : Nearest 1 3 0 × (Nearest 1 3 1 → ⊥) × Nearest 2 3 1 × (Nearest 2 3 0 → ⊥)
nearest_third = (
  (lit≤ tt, lit≤ tt),
  λ h. omega (arith, h.0, h.1),
  (lit≤ tt, lit≤ tt),
  λ h. omega (arith, h.0, h.1),
)

-- "within 1/2 + 1/16,384": 8,191 / 16,384 is so far below 1, and 24,577 / 16,384 so far above it
pub nearly_at_edges : NearlyNearest 8191 16384 1 × (NearlyNearest 8190 16384 1 → ⊥)
    × NearlyNearest 24577 16384 1 × (NearlyNearest 24578 16384 1 → ⊥)
nearly_at_edges = (
  (lit≤ tt, lit≤ tt),
  λ h. omega (arith, h.0, h.1),
  (lit≤ tt, lit≤ tt),
  λ h. omega (arith, h.0, h.1),
)

-- and no farther: 4,095 / 8,191 and 12,287 / 8,191 are 1 / (16,384 × 8,191) too far from 1
pub nearly_no_farther : NearlyNearest 4096 8191 1 × (NearlyNearest 4095 8191 1 → ⊥)
    × NearlyNearest 12286 8191 1 × (NearlyNearest 12287 8191 1 → ⊥)
nearly_no_farther = (
  (lit≤ tt, lit≤ tt),
  λ h. omega (arith, h.0, h.1),
  (lit≤ tt, lit≤ tt),
  λ h. omega (arith, h.0, h.1),
)

-- whole heights: every point's
pub whole_heights_at_edges : WholeHeights (pt 0 0 ∷ pt 1 256 ∷ pt 2 65280 ∷ [])
    × (WholeHeights (pt 0 0 ∷ pt 1 257 ∷ []) → ⊥) × (WholeHeights (pt 0 255 ∷ pt 1 0 ∷ []) → ⊥)
whole_heights_at_edges =
    ((refl, (refl, (refl, tt))), λ w. omega (arith, w.1.0), λ w. omega (arith, w.0))

-- the line of (0,0),(12,54) ends at 255: there is none at 256
abbrev slanting : List Point
slanting = at_level 0 0 ∷ at_level 12 54 ∷ []

abbrev its_knots : List Point
its_knots = at_level 0 0 ∷ at_level 12 54 ∷ at_level 255 54 ∷ []

past_the_end : (i : ℕ) → suc i < length its_knots → 256 ≤ x_of its_knots (suc i) → ⊥
past_the_end zero h r = omega (arith, r)
past_the_end (suc zero) h r = omega (arith, r)
past_the_end (suc (suc i)) h r = omega (arith, h)

pub line_ends : HasLine slanting 256 → ⊥
unfolding Computed.entry
line_ends h = let o = h.there.2 in past_the_end o.i o.inside (omega (arith, o.right))

-- bytes nearest one line, be it by two of its pieces, are one or neighbours
pub nearest_one_line : {l : List Point} {v n d m e : ℕ} (b c : ℕ) → HasLine l v → OnLine l v n d
    → OnLine l v m e → Nearest n d b → Nearest m e c → b ≤ c + 1
nearest_one_line {n = n} {d} {m} {e} b c h o p b-near c-near = elim (dec_lt (c + 1) b) [
  | yes far ↦
      absurd (omega (
        arith,
        mul-pos (h.wide n d o) (h.wide m e p),
        h.one_height n d m e o p,
        mul-le-mul_right e b-near.0,
        mul-le-mul_right d c-near.1,
        mul-le-mul_right (d * e) far,
      ))
  | no close ↦ omega arith
]

-- ---- chroma
-- a copy has the plane in front, behind it what was there, and the length
behind : (k : ℕ) → 1 ≤ k → ◌≡◌ {A = ℕ} (get_or (1 ∷ 6 ∷ []) k 0) (get_or (5 ∷ 6 ∷ []) k 0)
behind zero h = absurd (omega arith)
behind (suc k) h = refl

pub a_copy : Copied (1 ∷ []) (5 ∷ 6 ∷ []) (1 ∷ 6 ∷ [])
a_copy = record { whole = refl; past = behind; long = refl }

pub no_copies : (Copied (1 ∷ []) (5 ∷ []) (2 ∷ []) → ⊥)
    × (Copied (1 ∷ []) (5 ∷ 6 ∷ []) (1 ∷ 7 ∷ []) → ⊥)
    × (Copied (1 ∷ []) (5 ∷ 0 ∷ []) (1 ∷ []) → ⊥)
no_copies = (
  λ c. omega (arith, ap (λ (l : List ℕ). get_or l 0 0) c.whole),
  λ c. omega (arith, c.past 1 (lit≤ tt)),
  λ c. let z : ◌≡◌ {A = ℕ} 1 2 = c.long in omega (arith, z),
)

-- ---- a plane toned by one table
-- n bytes from v on: of these planes no two bytes are the same, nor of the table 100, 101, ..
abbrev counting : ℕ → ℕ → List ℕ
counting v zero = []
counting v (suc n) = v ∷ counting (suc v) n

-- not exact: a copy, seen by the last pixel's red; toned alpha, by the last row's first; changed
-- padding, between the last two rows; a byte too many
pub no_exact_planes :
    (ExactPlane Rgb24 3 2 10 (counting 100 19) (counting 0 19) (counting 0 19) → ⊥)
    × (ExactPlane Ya8 2 3 5 (counting 100 14) (counting 0 14) (counting 100 14) → ⊥)
    × (ExactPlane Gray8 2 3 4 (counting 100 10) (counting 0 10) (counting 100 10) → ⊥)
    × (ExactPlane Gray8 2 3 4 (counting 100 12) (counting 0 10) (counting 100 11) → ⊥)
unfolding in_row
no_exact_planes = (
  λ e.
      let red : ◌≡◌ {A = ℕ} 0 3 → ⊥ = λ h. omega (arith, h) in
      let z : ◌≡◌ {A = ℕ} 16 116 = e.toned 1 2 0 (lit< tt) (lit< tt) (lit< tt) red in
      omega (arith, z),
  λ e.
      let z : ◌≡◌ {A = ℕ} 111 11 = e.alpha 2 0 1 (lit< tt) (lit< tt) (lit< tt) refl in
      omega (arith, z),
  λ e. let z : ◌≡◌ {A = ℕ} 107 7 = e.padding 7 refl in omega (arith, z),
  λ e. let z : ◌≡◌ {A = ℕ} 11 10 = e.long in omega (arith, z),
)
