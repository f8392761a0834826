-- The tangents of CatmullRom and Cardinal are finite.
use Rattle.std.specs.Prelude.{List, ℕ, ◌≤◌, ◌<◌, Float}
use Rattle.std.proofs.Common.{arith, lit<, lit≤}
use Rattle.std.specs.Float.Ieee.{of_bits}
use Rattle.floats.specs.Within.{Within, Beyond, beyond_of}
use Rattle.single.specs.Constants.{𝟐𝟓𝟓}
use Rattle.single.specs.RuleLaws.{float_is}
use Rattle.points.specs.declared.Knot.{Knot}
use Rattle.segments.specs.Straight.{slope}
use Rattle.tangents.specs.CatmullRom.{catmull_rom_at, looseness, loose_slope, cardinal_at}
use Rattle.segments.specs.Rows.{Rows}
use Rattle.table_facts.specs.Sizes.{
  most_within,
  one_within,
  minus,
  times,
  divided,
  micro_guard,
  guarded_within,
  Small,
  run_within,
  rise_within,
  before_small,
  after_small,
}

pub slope_within : {l r : Knot} → Small l → Small r → Within (slope l r) 178
unfolding slope
slope_within p q =
    guarded_within 178 micro_guard (rise_within p q) (run_within p q) (lit≤ tt) (lit≤ tt)

top_beyond : Beyond 𝟐𝟓𝟓 156
unfolding of_bits
top_beyond = beyond_of tt (lit≤ tt)

looseness_within : (q : ℕ) → q ≤ 255 → Within (looseness q) 151
unfolding looseness
looseness_within q h =
    let tension = most_within _ q 1 255 157 (lit< tt) (float_is q (omega arith)) h (lit≤ tt) in
    minus one_within (divided tension top_beyond tt) tt

loose_slope_within : {c : Float} {l r : Knot} → Within c 151 → Small l → Small r
    → Within (loose_slope c l r) 180
unfolding loose_slope
loose_slope_within v p q =
    guarded_within 180 micro_guard (times v (rise_within p q) tt) (run_within p q) (lit≤ tt)
    (lit≤ tt)

module _ {xs ys : List Float} {n : ℕ} {a h : ℕ → ℕ} (r : Rows xs ys n a h) where
  pub catmull_rom_within : (i : ℕ) → i < n → Within (catmull_rom_at xs ys n i) 178
  unfolding catmull_rom_at
  catmull_rom_within i l = slope_within (before_small r i l) (after_small r i l)

  pub cardinal_within : (q : ℕ) → q ≤ 255 → (i : ℕ) → i < n → Within (cardinal_at q xs ys n i) 180
  unfolding cardinal_at
  cardinal_within q h i l =
      loose_slope_within (looseness_within q h) (before_small r i l) (after_small r i l)
