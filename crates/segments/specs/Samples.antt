-- Where the samples of a table are: in order of x, from 0 up to 255; of 256 samples each at its
-- own number, and of 4,096 every 273rd at a multiple of 17.
use Rattle.std.specs.Prelude.{◌≡◌, refl, ℕ, ◌+◌, ◌-◌, ◌*◌, ◌^◌, ◌≤◌, ◌<◌, T, pos}
use Rattle.std.proofs.Math.Bool.{false}
use Rattle.std.proofs.Math.Nat.{mul-le-mul}
use Rattle.std.proofs.Common.{arith, lit<, lit≤}
use Rattle.std.specs.Float.{fin}
use Rattle.std.specs.Float.Ieee.{binary32, fits, lt, eq, le, mul, div, of_int, of_bits}
use Rattle.std.specs.Float.Ieee.Fits.{mul-fits, of_int-fits}
use Rattle.std.specs.Float.Ieee.Scale.{finite}
use Rattle.std.specs.Float.Ieee.Positive.{den, den_pos}
use Rattle.lists.specs.Tabulate.{tabulate, tabulate_agree}
use Rattle.floats.specs.Notation.{◌⊘◌}
use Rattle.floats.specs.Value.{Is, top, is_of_le}
use Rattle.floats.specs.Order.{le_trans}
use Rattle.floats.specs.Ops.{mul_rounds, div_rounds, mul_commutes}
use Rattle.floats.specs.Mono.{mul_mono_left, rounds_between}
use Rattle.floats.specs.Zero.{times_one}
use Rattle.floats.specs.Small.{div_self}
use Rattle.single.specs.Constants.{𝟎, 𝟐𝟓𝟓, 𝟐𝟓𝟓-is}
use Rattle.single.specs.Rules.{float}
use Rattle.single.specs.RuleLaws.{float_is, float_le}
use Rattle.segments.specs.Segments.{step, sample_at}
use Rattle.segments.specs.SegmentLaws.{InRange, nonnegative_is}

-- ---- of 256 samples, sample v is at v
pub sample_byte : (v : ℕ) → v ≤ 255 → sample_at (step 256) v ≡ float v
unfolding sample_at step
sample_byte v h =
    times_one binary32 (float v) (𝟐𝟓𝟓 ⊘ float 255) (float_is v (omega arith)).0
    (of_int-fits binary32 (pos v))
    (div_self 𝟐𝟓𝟓 (float 255) 255 1 (lit< tt) (lit< tt) 𝟐𝟓𝟓-is (float_is 255 (lit≤ tt)))

-- ---- of 4,096 samples, sample 273 * j is at 17 * j, from 0 up to 4,095 at 255
pub sample_fine : (j : ℕ) → j < 16 → sample_at (step 4096) (273 * j) ≡ float (17 * j)
unfolding tabulate sample_at step mul div of_int of_bits
sample_fine =
    let fine : tabulate 16 (λ j. sample_at (step 4096) (273 * j)) ≡ tabulate 16 (λ j. float (17 * j))
    = refl in
    tabulate_agree (λ i. sample_at (step 4096) (273 * i)) (λ i. float (17 * i)) fine

-- ---- of S samples
-- 255 by a whole number is a number from 0 to 255
quotient_between : (n : ℕ) → 1 ≤ n → n ≤ 2 ^ 24
    → T (finite (𝟐𝟓𝟓 ⊘ float n)) × T (le 𝟎 (𝟐𝟓𝟓 ⊘ float n)) × T (le (𝟐𝟓𝟓 ⊘ float n) 𝟐𝟓𝟓)
unfolding of_bits fits
quotient_between n some most =
    rounds_between binary32 𝟎 (𝟐𝟓𝟓 ⊘ float n) 𝟐𝟓𝟓 (255 * 1) (0 * 1) (1 * n) (omega arith) tt tt tt
    tt
    (div_rounds binary32 𝟐𝟓𝟓 (float n) 255 0 1 n 1 (lit< tt) (lit< tt) (omega arith)
    𝟐𝟓𝟓-is (float_is n (omega arith)))
    (omega arith) (omega arith)

module _ (S : ℕ) (two : 2 ≤ S) (most : S ≤ 2 ^ 24) where
  -- so is the step
  step_between : T (finite (step S)) × T (le 𝟎 (step S)) × T (le (step S) 𝟐𝟓𝟓)
  unfolding step
  step_between = quotient_between _ (omega arith) (omega arith)

  step_is : Is (step S) (top (step S)) 0 (den (step S))
  step_is = nonnegative_is (step S) step_between.0 step_between.1

  -- in order
  pub sample_le : (v w : ℕ) → v ≤ w → w ≤ 2 ^ 24
      → T (le (sample_at (step S) v) (sample_at (step S) w))
  unfolding sample_at
  sample_le v w l u =
      rw (mul_commutes binary32 (float v) (step S), mul_commutes binary32 (float w) (step S))
      (mul_mono_left binary32 (step S) (float v) (float w) (top (step S)) (den (step S))
      (den_pos (step S)) step_is
      (float_is v (omega arith)).0 (float_is w (omega arith)).0 (float_le v w l (omega arith)))

  -- none below 0
  sample_between : (v : ℕ) → v < S
      → T (finite (sample_at (step S) v)) × T (le 𝟎 (sample_at (step S) v))
      × T (le (sample_at (step S) v) (fin false 1 (pos 32)))
  unfolding sample_at of_bits fits
  sample_between v u =
      let s = step S in
      let high = is_of_le s 𝟐𝟓𝟓 (top s) 0 (den s) 255 0 1 step_is 𝟐𝟓𝟓-is step_between.2 in
      let product : v * top s ≤ 2 ^ 24 * (255 * den s) =
      mul-le-mul (omega arith) (omega (arith, high)) in
      rounds_between binary32 𝟎 (sample_at s v) (fin false 1 (pos 32)) (v * top s + 0 * 0)
      (v * 0 + 0 * top s) (1 * den s)
      (omega (arith, den_pos s)) tt tt tt tt
      (mul_rounds binary32 (float v) s v 0 1 (top s) 0 (den s) (lit< tt) (den_pos s)
      (float_is v (omega arith)) step_is)
      (omega arith) (omega arith)

  pub sample_low : (v : ℕ) → v < S → T (le 𝟎 (sample_at (step S) v))
  sample_low v u = (sample_between v u).1

  -- where the last is not past 255, none is
  pub sample_in_range : T (le (sample_at (step S) (S - 1)) 𝟐𝟓𝟓) → (v : ℕ) → v < S
      → InRange (sample_at (step S) v)
  sample_in_range last v u = record {
    in_format = unfold sample_at in mul-fits binary32 (float v) (step S);
    low = sample_low v u;
    high = le_trans (sample_at (step S) v) (sample_at (step S) (S - 1)) 𝟐𝟓𝟓
        (sample_le v (S - 1) (omega arith) (omega arith)) last;
  }

-- the last sample of document 01's two tables is not past 255; that of other tables may
-- be, of 22 samples for one
last_256 : T (le (sample_at (step 256) 255) 𝟐𝟓𝟓)
unfolding sample_at step le lt eq mul div of_int of_bits
last_256 = tt

last_4096 : T (le (sample_at (step 4096) 4095) 𝟐𝟓𝟓)
unfolding sample_at step le lt eq mul div of_int of_bits
last_4096 = tt

pub last_22 : T (lt 𝟐𝟓𝟓 (sample_at (step 22) 21))
unfolding sample_at step lt mul div of_int of_bits
last_22 = tt

pub sample_256 : (v : ℕ) → v < 256 → InRange (sample_at (step 256) v)
sample_256 = sample_in_range 256 (lit≤ tt) (lit≤ tt) last_256

pub sample_4096 : (v : ℕ) → v < 4096 → InRange (sample_at (step 4096) v)
sample_4096 = sample_in_range 4096 (lit≤ tt) (lit≤ tt) last_4096
