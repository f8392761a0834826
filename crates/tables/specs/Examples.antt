-- The kinds' numbers, what they carry, their forms, and the answers of a table build, computed
-- where a slip would show.
-- Each value is document 01's: the sentence is quoted above it.
use Rattle.std.specs.Prelude.{◌≡◌, refl, List, [], ◌∷◌, ℕ, ℤ, pos}
use Rattle.answers.specs.Numbers.{number_of}
use Rattle.answers.specs.Checks.{first_refusal}
use Rattle.points.specs.Points.{pt, all_allowed}
use Rattle.points.specs.Joined.{curve_of}
use Rattle.sampling.specs.declared.Form.TheVariants.{Straight, Cubic, Spline}
use Rattle.tables.specs.declared.CurveInterpolation.TheVariants.{
  Linear,
  CatmullRom,
  MonotoneCubic,
  MonotoneCubicBox,
  NaturalCubic,
  CentripetalCatmullRom,
  ChordalCatmullRom,
  Cardinal,
  ClampedCubic,
  NotAKnotCubic,
}
use Rattle.tables.specs.Kinds.{kind_number, last_kind, kind_of, kind_bits, nothing, carried_of}
use Rattle.tables.specs.Kinds.{form_of}
use Rattle.tables.specs.Tables.{table_checks}

-- ---- the kinds
-- a rule of each number from 0 to 9
abbrev ten_numbers : {A : Type 0} → (ℕ → A) → List A
ten_numbers rule =
    rule 0 ∷ rule 1 ∷ rule 2 ∷ rule 3 ∷ rule 4 ∷ rule 5 ∷ rule 6 ∷ rule 7 ∷ rule 8 ∷ rule 9 ∷ []

-- "Kinds, numbered 0 to 9: Linear, CatmullRom, MonotoneCubic, MonotoneCubicBox, NaturalCubic,
-- CentripetalCatmullRom, ChordalCatmullRom, Cardinal, ClampedCubic, NotAKnotCubic"; "Cardinal
-- carries a tension", "ClampedCubic carries two slopes"
pub kinds : (q : ℕ) (start end : ℤ)
    → ten_numbers (λ k. kind_of k q start end)
    ≡ Linear ∷ CatmullRom ∷ MonotoneCubic ∷ MonotoneCubicBox ∷ NaturalCubic ∷ CentripetalCatmullRom
    ∷ ChordalCatmullRom ∷ Cardinal q ∷ ClampedCubic start end ∷ NotAKnotCubic ∷ []
unfolding kind_of
kinds q start end = refl

pub numbers : (q : ℕ) (start end : ℤ)
    → ten_numbers (λ k. kind_number (kind_of k q start end)) ≡ ten_numbers (λ k. k)
unfolding kind_of
numbers q start end = refl

pub last_kind_lem : last_kind ≡ 9
last_kind_lem = refl

-- "Cardinal carries a tension q", "ClampedCubic carries two slopes", and the others nothing
pub carried : (q : ℕ) (start end : ℤ)
    → ten_numbers (λ k. carried_of (kind_of k q start end))
    ≡ nothing ∷ nothing ∷ nothing ∷ nothing ∷ nothing ∷ nothing ∷ nothing
    ∷ record { tension = q; start = pos 0; end = pos 0 }
    ∷ record { tension = 0; start = start; end = end }
    ∷ nothing ∷ []
unfolding kind_of
carried q start end = refl

-- bit 5 "with Cardinal only", bit 6 "with ClampedCubic only", as a number; none past the last kind
pub bits : (ten_numbers kind_bits ≡ 0 ∷ 0 ∷ 0 ∷ 0 ∷ 0 ∷ 0 ∷ 0 ∷ 1 ∷ 2 ∷ 0 ∷ []) × (kind_bits 10 ≡ 0)
bits = (refl, refl)

-- "Linear", "Hermite kinds (1, 2, 3, 5, 6, 7)", "Splines (4, 8, 9; ..)"
pub forms : (q : ℕ) (start end : ℤ)
    → ten_numbers (λ k. form_of (kind_of k q start end))
    ≡ Straight ∷ Cubic ∷ Cubic ∷ Cubic ∷ Spline ∷ Cubic ∷ Cubic ∷ Cubic ∷ Spline ∷ Spline ∷ []
unfolding kind_of
forms q start end = refl

-- ---- the fine table of a list of so many points, the last at this height, into a slice of so many
-- samples
abbrev build : ℕ → ℕ → ℕ → ℕ
build count height S =
    number_of
    (first_refusal (table_checks (curve_of (pt 0 0 ∷ pt 255 height ∷ []) count) S))

-- "Checks run in this order": 3, "A count of points is above 64", then 20, "a height above 65,280",
-- then 14, "A float table's length isn't 256 or 4,096 (build)"
pub build_order : (build 65 65281 255 ≡ 3) × (build 65 65280 256 ≡ 3) × (build 64 65281 255 ≡ 20)
    × (build 64 65280 255 ≡ 14) × (build 64 65280 256 ≡ 0)
unfolding all_allowed
build_order = (refl, refl, refl, refl, refl)

pub lengths : (build 2 0 257 ≡ 14) × (build 2 0 4095 ≡ 14) × (build 2 0 4096 ≡ 0)
    × (build 2 0 4097 ≡ 14) × (build 2 0 0 ≡ 14)
unfolding all_allowed
lengths = (refl, refl, refl, refl, refl)
