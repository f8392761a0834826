-- Linear: a sample is within 1 / 16,384 of the exact broken line at its position; an entry is
-- within 1 / 2 + 1 / 16,384 of the line, and where the kept points have whole heights it is a whole
-- number nearest to the line.
use Rattle.std.specs.Prelude.{◌≡◌, List, ℕ, suc, ◌+◌, ◌-◌, ◌*◌, ◌/◌, ◌%◌, ◌<◌, T, Float}
use Rattle.std.proofs.Common.{ap, ◌∙◌, mul-pos, add-sub_of_le, add-one, arith, lit<}
use Rattle.std.proofs.Math.Nat.{eq_of_mul-eq-mul_right}
use Rattle.std.specs.Float.Ieee.{le}
use Rattle.std.specs.Float.Ieee.Scale.{finite}
use Rattle.std.specs.Float.Ieee.Positive.{den, den_pos}
use Rattle.floats.specs.Value.{Is, top, bot, is_of_le, le_of_is}
use Rattle.floats.specs.Frac.{frac, Close, close_same}
use Rattle.floats.specs.Calc.{val}
use Rattle.floats.specs.Nearest.{Nearest, nearly, nearest}
use Rattle.single.specs.Constants.{𝟎, 𝟐𝟓𝟓, 𝟐𝟓𝟓-is}
use Rattle.single.specs.Rules.{byte_of}
use Rattle.single.specs.RuleLaws.{clamped_keeps}
use Rattle.single.specs.ByteLaws.{byte_near}
use Rattle.points.specs.declared.Point.{Point}
use Rattle.points.specs.Points.{kept}
use Rattle.points.specs.Knots.{knots, x_of, y_of, x_row, LineAt, OnLine, at}
use Rattle.points.specs.Order.{All, Proper, WholeHeight, all_at}
use Rattle.points.specs.Shape.{knots_whole}
use Rattle.segments.specs.Rows.{x_most}
use Rattle.segments.specs.SegmentLaws.{InRange, nonnegative_is}
use Rattle.segments.specs.Samples.{sample_256, sample_4096}
use Rattle.table_facts.specs.StraightLaws.{
  exact_line,
  straight_finite,
  straight_in_range,
  straight_close,
}
use Rattle.table_facts.specs.ListLaws.{straight_of}
use Rattle.tables.specs.declared.CurveInterpolation.TheVariants.{Linear}
use Rattle.sampling.specs.Pieces.{piece_height, height_at, sampled}
use Rattle.tables.specs.Tables.{unclamped_at, sample_of, entry_of}
use Rattle.table_facts.specs.Given.{sample_x, sample_x_is, linear_height, given_rows}

-- ---- over whole numbers
-- a distance K from a, in parts of e, is k in parts of c
same_distance : (K k a c e t p : ℕ) → a * e + K ≡ t → a * c + k ≡ p → t * c ≡ p * e → K * c ≡ k * e
same_distance K k a c e t p f g h = omega (arith, ap (λ (z : ℕ). z * c) f, ap (λ (z : ℕ). z * e) g)

-- K / W of the way from y0 to y1 is k / w of the way, where the height is n / (w * 256)
same_height : (y0 y1 K W k w n : ℕ) (z : Float) → 0 < W → K * w ≡ k * W
    → n + y0 * k ≡ y0 * w + y1 * k
    → Close 1 16384 (val z) (exact_line y0 y1 K W) → Close 1 16384 (val z) (frac n 0 (w * 256))
same_height y0 y1 K W k w n z some e h near =
    let f = ap (λ (t : ℕ). t * W) h in
    let g = ap (λ (t : ℕ). y0 * t) e in
    let i = ap (λ (t : ℕ). y1 * t) e in
    close_same 1 16384 (val z) (exact_line y0 y1 K W) (frac n 0 (w * 256)) (omega arith) near
    (omega arith) (omega arith)

-- between two levels, at k from the left one and g from the right one, the height is in levels a
-- number of parts of k + g
in_levels : (y0 y1 k g n : ℕ) → y0 % 256 ≡ 0 → y1 % 256 ≡ 0
    → n + y0 * k ≡ y0 * (k + g) + y1 * k
    → (m : ℕ) × (n ≡ m * 256)
in_levels y0 y1 k g n e0 e1 h =
    let left : y0 ≡ y0 / 256 * 256 = omega arith in
    let right : y1 ≡ y1 / 256 * 256 = omega arith in (
      y0 / 256 * g + y1 / 256 * k,
      omega (arith, ap (λ (t : ℕ). t * g) left, ap (λ (t : ℕ). t * k) right),
    )

-- what is nearest to a float that is close to a line of levels is nearest to the line
nearest_level : (R : ℕ) (z : Float) (m w : ℕ) → 0 < w → w < 8192 → Nearest R (val z)
    → Close 1 16384 (val z) (frac (m * 256) 0 (w * 256))
    → Nearest R (frac (m * 256) 0 (w * 256))
nearest_level R z m w some few n near =
    close_same 1 2 (frac R 0 1) (frac m 0 w) (frac (m * 256) 0 (w * 256)) some
    (nearest R (val z) (frac m 0 w) (den_pos z) n
    (close_same 1 16384 (val z) (frac (m * 256) 0 (w * 256)) (frac m 0 w) (omega arith) near
    (omega arith) (omega arith))
    few)
    (omega arith) (omega arith)

-- a float that is not below 0 has no negative part
unsigned : (x : Float) → T (finite x) → T (le 𝟎 x) → bot x ≡ 0
unsigned x f low =
    eq_of_mul-eq-mul_right (den x) (den_pos x) (bot x) 0 (omega (arith, (nonnegative_is x f low).1))

-- the byte of a float from 0 to 255 is nearest to it
byte_of_range : (z : Float) → T (finite z) → T (le 𝟎 z) → T (le z 𝟐𝟓𝟓) → Nearest (byte_of z) (val z)
byte_of_range z f low high =
    let i = nonnegative_is z f low in
    let near =
    byte_near z (top z) (den z) (den_pos z)
    (omega (arith, is_of_le z 𝟐𝟓𝟓 (top z) 0 (den z) 255 0 1 i 𝟐𝟓𝟓-is high)) i in
    let positive = unsigned z f low in
    (omega arith, omega arith)

module _ (l : List Point) (proper : All Proper l) where
  abbrev ks : List Point
  ks = knots (kept l)

  -- clamping changes no sample
  pub sample_unclamped : (S v : ℕ) → InRange (sample_x S v)
      → sample_of Linear l S v ≡ unclamped_at Linear l (sample_x S v)
  unfolding sample_of sampled unclamped_at height_at piece_height
  sample_unclamped S v r =
      let b = straight_in_range (given_rows l proper) (sample_x S v) r in
      clamped_keeps _ b.0 b.1

  sample_straight : (S v : ℕ) → InRange (sample_x S v)
      → sample_of Linear l S v ≡ straight_of (kept l) (sample_x S v)
  sample_straight S v r = sample_unclamped S v r ∙ linear_height l (sample_x S v)

  -- ---- for any S, where the sample is at p / c
  pub sample_near : (S v : ℕ) → InRange (sample_x S v)
      → (p c n d : ℕ) → Is (sample_x S v) p 0 c → LineAt l p c n d
      → Close 1 16384 (val (sample_of Linear l S v)) (frac n 0 d)
  sample_near S v r p c n d e o =
      let rows = given_rows l proper in
      let x = sample_x S v in
      let i = o.i in
      let a = x_of ks i in
      let b = x_of ks (suc i) in
      let a-is = rows.x_is i (omega arith) in
      let low =
      le_of_is (at (x_row ks) i) x a 0 1 p 0 c (lit< tt) o.divisor a-is e (omega arith) in
      let high =
      le_of_is x (at (x_row ks) (suc i)) p 0 c b 0 1 o.divisor (lit< tt) e
      (rows.x_is (suc i) o.inside) (omega arith) in
      let own-left =
      is_of_le (at (x_row ks) i) x a 0 1 (top x) 0 (den x) a-is
      (nonnegative_is x e.0 r.low) low in
      let positive = ap (λ (t : ℕ). t * c) (unsigned x e.0 r.low) in
      let far : (top x - a * den x) * c ≡ (p - a * c) * den x =
      same_distance (top x - a * den x) (p - a * c) a c (den x) (top x) p
      (add-sub_of_le (omega arith)) (add-sub_of_le o.left)
      (omega arith) in
      let apart : 0 < b - a = omega (arith, rows.rising i (suc i) (omega arith) o.inside) in
      rw (sample_straight S v r, o.width)
      (same_height (y_of ks i) (y_of ks (suc i)) (top x - a * den x)
      ((b - a) * den x) (p - a * c) ((b - a) * c) n (straight_of (kept l) x)
      (mul-pos apart (den_pos x)) (omega (arith, ap (λ (t : ℕ). (b - a) * t) far))
      o.height
      ((rw (add-one i) at (straight_close rows x r i)) o.inside low high))

  -- of 256 samples, where sample v is at v ..
  pub byte_sample_near : (v : ℕ) → v < 256 → (n d : ℕ) → OnLine l v n d
      → Close 1 16384 (val (sample_of Linear l 256 v)) (frac n 0 d)
  byte_sample_near v h n d o = sample_near 256 v (sample_256 v h) v 1 n d (sample_x_is v h) o

  -- .. and of 4,096
  pub fine_sample_near : (v : ℕ) → v < 4096
      → (p c n d : ℕ) → Is (sample_x 4096 v) p 0 c → LineAt l p c n d
      → Close 1 16384 (val (sample_of Linear l 4096 v)) (frac n 0 d)
  fine_sample_near v h = sample_near 4096 v (sample_4096 v h)

  -- ---- an entry
  module _ (v : ℕ) (h : v < 256) where
    sample_nearest : Nearest (entry_of Linear l v) (val (sample_of Linear l 256 v))
    unfolding entry_of
    sample_nearest =
        let rows = given_rows l proper in
        let x = sample_x 256 v in
        let r = sample_256 v h in
        let b = straight_in_range rows x r in
        let same = sample_straight 256 v r in
        byte_of_range (sample_of Linear l 256 v) (rw same (straight_finite rows x r))
        (rw same b.0) (rw same b.1)

    -- within 1 / 2 + 1 / 16,384 of the line
    pub entry_nearly : (n d : ℕ) → OnLine l v n d
        → Close 8193 16384 (frac (entry_of Linear l v) 0 1) (frac n 0 d)
    entry_nearly n d o =
        let z = sample_of Linear l 256 v in
        nearly (entry_of Linear l v) (val z) (frac n 0 d) (den_pos z) sample_nearest
        (byte_sample_near v h n d o)

    -- the whole number nearest to the line of whole heights, at an exact half one of the two
    -- nearest
    pub entry_near : All WholeHeight (kept l) → (n d : ℕ) → OnLine l v n d
        → Nearest (entry_of Linear l v) (frac n 0 d)
    entry_near whole n d o =
        let i = o.i in
        let a = x_of ks i in
        let b = x_of ks (suc i) in
        let levels = knots_whole (kept l) whole in
        let rise = (given_rows l proper).rising i (suc i) (omega arith) o.inside in
        let parts : (v - a * 1) + (b * 1 - v) ≡ (b - a) * 1 = omega (arith, o.left, o.right) in
        let (m, e) =
        in_levels (y_of ks i) (y_of ks (suc i)) (v - a * 1) (b * 1 - v) n
        (all_at WholeHeight ks levels i (omega (arith, o.inside)))
        (all_at WholeHeight ks levels (suc i) o.inside) (rw parts o.height) in
        let same : d ≡ (b - a) * 256 = omega (arith, o.width) in
        rw (e, same)
        (nearest_level (entry_of Linear l v) (sample_of Linear l 256 v) m (b - a)
        (omega (arith, rise))
        (omega (arith, x_most (given_rows l proper) (suc i) o.inside)) sample_nearest
        (rw (e, same) at (byte_sample_near v h n d o)))
