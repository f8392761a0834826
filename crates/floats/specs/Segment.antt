-- The straight piece between two knots, at any float of the format from one to the other: exact at
-- the knots, near the exact line, in order, and within the heights of the knots. The position of a
-- byte is one of those floats.
use Rattle.std.specs.Prelude.{◌≡◌, ℕ, ◌+◌, ◌-◌, ◌*◌, ◌≤◌, ◌<◌, T, Float}
use Rattle.std.proofs.Common.{ap, subst, le_refl, mul-pos, mul-le-mul_left, mul-le-mul_right, add-sub_of_le, arith, lit<, lit≤}
use Rattle.std.specs.Float.{binary32}
use Rattle.std.specs.Float.Ieee.{fits, le}
use Rattle.std.specs.Float.Ieee.Scale.{finite}
use Rattle.std.specs.Float.Ieee.Positive.{den, den_pos}
use Rattle.floats.specs.Notation.{◌⊖◌, ◌⊗◌}
use Rattle.floats.specs.Value.{top, Is, own, is_same, is_of_le, le_of, le_of_is, not_below}
use Rattle.floats.specs.Small.{dyadic_add, dyadic_sub, dyadic_mul, whole_sub}
use Rattle.floats.specs.Order.{le_trans, finite_between, above_equal, below_equal}
use Rattle.floats.specs.Mono.{add_mono, mul_mono_left, mul_anti_left}
use Rattle.floats.specs.Frac.{
  Frac,
  frac,
  plus,
  times,
  Close,
  Size,
  size_plus,
  size_times,
  close_more,
  close_cut,
  close_same,
}
use Rattle.floats.specs.Calc.{val}
use Rattle.floats.specs.Approx.{Approx, approx_is, add_approx, mul_approx}
use Rattle.floats.specs.Line.{part, line}
use Rattle.floats.specs.Minus.{minus_whole}
use Rattle.floats.specs.Position.{
  Position,
  part_start,
  part_end,
  part_near,
  part_low,
  part_high,
  part_order,
}

-- the knots (x0, y0) and (x1, y1): at the whole numbers a0 < a1, with the
-- heights n0 / 256 and n1 / 256
pub record Segment (x0 y0 x1 y1 : Float) (a0 n0 a1 n1 : ℕ) : Type 0 where
  pub apart : a0 < a1
  pub last : a1 ≤ 255
  pub high0 : n0 ≤ 65280
  pub high1 : n1 ≤ 65280
  pub x0_is : Is x0 a0 0 1
  pub y0_is : Is y0 n0 0 256
  pub x1_is : Is x1 a1 0 1
  pub y1_is : Is y1 n1 0 256

module _ {x0 y0 x1 y1 : Float} {a0 n0 a1 n1 : ℕ} (s : Segment x0 y0 x1 y1 a0 n0 a1 n1) where
  -- ---- the width is exact, and at least 1
  pub width_is : Is (x1 ⊖ x0) (a1 - a0) 0 1
  width_is = whole_sub x1 x0 a1 a0 (omega arith) (omega arith) s.x1_is s.x0_is

  pub width_some : 0 < a1 - a0
  width_some = omega arith

  -- ---- positions: of a byte, of the two knots, and of any float of the format
  pub at_whole : (v : Float) (b : ℕ) → Is v b 0 1 → a0 ≤ b → b ≤ a1
      → Position x0 x1 v (b - a0) (a1 - a0)
  at_whole v b i l u = record {
    fin = i.0;
    c = 1;
    unit = lit< tt;
    far = whole_sub v x0 b a0 l (omega arith) i s.x0_is;
    width = width_is;
    some = width_some;
    inside = omega arith;
  }

  pub at_start : (v : Float) → Is v a0 0 1 → Position x0 x1 v 0 (a1 - a0)
  at_start v i =
      subst (λ k. Position x0 x1 v k (a1 - a0)) (omega arith)
      (at_whole v a0 i (omega arith) (omega arith))

  pub at_end : (v : Float) → Is v a1 0 1 → Position x0 x1 v (a1 - a0) (a1 - a0)
  at_end v i = at_whole v a1 i (omega arith) (omega arith)

  pub at_float : (v : Float) → T (fits binary32 v) → T (le x0 v) → T (le v x1)
      → Position x0 x1 v (top v - a0 * den v) ((a1 - a0) * den v)
  at_float v t l u =
      let c = den v in
      let C : 0 < c = den_pos v in
      let f : T (finite v) = finite_between x0 v x1 s.x0_is.0 s.x1_is.0 l u in
      let low = is_of_le x0 v a0 0 1 _ _ c s.x0_is (own v f) l in
      let i : Is v (top v) 0 c = not_below v f (omega arith) in
      let high = is_of_le v x1 _ 0 c a1 0 1 i s.x1_is u in
      let split : (a0 + (a1 - a0)) * c ≡ a1 * c = ap (◌* c) (add-sub_of_le (omega arith)) in
      record {
        fin = f;
        c = c;
        unit = C;
        far = minus_whole v x0 a0 _ c t C i s.x0_is (omega arith)
            (omega (arith, high, mul-le-mul_right c s.last));
        width = is_same (x1 ⊖ x0) _ 0 1 _ 0 c (lit< tt) width_is (omega arith);
        some = mul-pos width_some C;
        inside = omega arith;
      }

  -- ---- the height of the line at v
  abbrev pub height : Float → Float
  height v = line x0 y0 x1 y1 v

  abbrev product : Float → Float
  product v = (y1 ⊖ y0) ⊗ part x0 x1 v

  rise : Is (y1 ⊖ y0) n1 n0 256
  rise =
      is_same (y1 ⊖ y0) _ _ 256 n1 n0 256 (lit< tt)
      (dyadic_sub y1 y0 n1 0 n0 0 8 (lit≤ tt) (omega arith) (omega arith) s.y1_is s.y0_is)
      (omega arith)

  -- where the part is exactly e = 0 or 1
  exact : (v : Float) (e m : ℕ) → e ≤ 1 → n0 + n1 * e ≡ m + n0 * e → Is (part x0 x1 v) e 0 1
      → Is (height v) m 0 256
  exact v e m l q i =
      let a : n0 * e ≤ n0 * 1 = mul-le-mul_left n0 l in
      let b : n1 * e ≤ n1 * 1 = mul-le-mul_left n1 l in
      is_same (height v) _ _ 256 m 0 256 (lit< tt)
      (dyadic_add y0 _ n0 0 _ _ 8 (lit≤ tt) (omega arith) (omega arith) s.y0_is
      (dyadic_mul _ _ n1 n0 e 0 8 0 (lit≤ tt) (omega arith) (omega arith) rise i)) (omega arith)

  pub line_start : {v : Float} {h : ℕ} → Position x0 x1 v 0 h → Is (height v) n0 0 256
  line_start {v} at = exact v 0 n0 (omega arith) (omega arith) (part_start at)

  pub line_end : {v : Float} {h : ℕ} → Position x0 x1 v h h → Is (height v) n1 0 256
  line_end {v} at = exact v 1 n1 (omega arith) (omega arith) (part_end at)

  -- ---- near the exact line Y + D * S: in units of 1 / 2 ^ 24 the part errs by 1, the product by
  -- 511 and the sum by 1,022
  abbrev Y : Frac
  Y = frac n0 0 256

  abbrev D : Frac
  D = frac n1 n0 256

  module _ {v : Float} {k h : ℕ} (at : Position x0 x1 v k h) where
    abbrev S : Frac
    S = frac k 0 h

    D-size : Size 255 D
    D-size = omega arith

    S-size : Size 1 S
    S-size = omega arith

    product_near : Approx 511 (product v) (times D S)
    product_near =
        mul_approx 0 1 255 1 255 _ _ D S (lit< tt) at.some (lit≤ tt) (lit≤ tt) (lit< tt) D-size
        S-size (size_times 255 1 D S D-size S-size) (approx_is _ D rise) (part_near at)

    sum_near : Approx 1022 (height v) (plus Y (times D S))
    sum_near =
        add_approx 0 511 510 y0 _ Y _ (lit< tt) (mul-pos (lit< tt) at.some) (lit≤ tt) (lit< tt)
        (size_plus 255 255 Y _ (omega arith) (size_times 255 1 D S D-size S-size))
        (approx_is y0 Y s.y0_is) product_near

    pub line_finite : T (finite (height v))
    line_finite = sum_near.fin

    -- within 1 / 16,384 of (n0 * h + (n1 - n0) * k) / (256 * h)
    pub line_near : Close 1 16384 (val (height v)) (frac (n0 * h + n1 * k) (n0 * k) (256 * h))
    line_near =
        let r = plus Y (times D S) in
        close_same 1 16384 _ r _ (mul-pos (lit< tt) (mul-pos (lit< tt) at.some))
        (close_cut 1024 1 16384 _ r (lit< tt)
        (close_more 1022 1024 _ _ r (lit≤ tt) sum_near.near)) (omega arith) (omega arith)

  -- ---- in order
  module _ {v w : Float} {k h j g : ℕ} (at : Position x0 x1 v k h) (to : Position x0 x1 w j g) where
    lift : T (le (product v) (product w)) → T (le (height v) (height w))
    lift =
        let f = s.y0_is.0 in
        add_mono _ y0 y0 _ _ f f (product_near at).fin (product_near to).fin
        (le_of y0 y0 f f (le_refl _))

    up : n0 ≤ n1 → T (le (part x0 x1 v) (part x0 x1 w)) → T (le (height v) (height w))
    up n l =
        lift (mul_mono_left _ _ _ _ _ 256 (lit< tt)
        (is_same (y1 ⊖ y0) n1 n0 256 (n1 - n0) 0 256 (lit< tt) rise (omega arith))
        (part_near at).fin (part_near to).fin l)

    down : n1 ≤ n0 → T (le (part x0 x1 w) (part x0 x1 v)) → T (le (height v) (height w))
    down n l =
        lift (mul_anti_left _ _ _ _ _ 256 (lit< tt)
        (is_same (y1 ⊖ y0) n1 n0 256 0 (n0 - n1) 256 (lit< tt) rise (omega arith))
        (part_near to).fin (part_near at).fin l)

  pub line_rises : {v w : Float} {k h j g : ℕ} → Position x0 x1 v k h → Position x0 x1 w j g
      → n0 ≤ n1 → T (le v w) → T (le (height v) (height w))
  line_rises at to n l = up at to n (part_order at to s.x0_is.0 l)

  -- ---- within the heights of the knots
  first : Position x0 x1 x0 0 (a1 - a0)
  first = at_start x0 s.x0_is

  final : Position x0 x1 x1 (a1 - a0) (a1 - a0)
  final = at_end x1 s.x1_is

  module _ {v : Float} {k h : ℕ} (at : Position x0 x1 v k h) where
    from_first : T (le (part x0 x1 x0) (part x0 x1 v))
    from_first = part_low at _ (part_start first)

    to_final : T (le (part x0 x1 v) (part x0 x1 x1))
    to_final = part_high at _ (part_end final)

    pub rising_within : n0 ≤ n1 → T (le y0 (height v)) × T (le (height v) y1)
    rising_within n = (
      above_equal y0 _ _ n0 0 256 (lit< tt) s.y0_is (line_start first)
          (up first at n from_first),
      below_equal y1 _ _ n1 0 256 (lit< tt) s.y1_is (line_end final) (up at final n to_final),
    )

    pub falling_within : n1 ≤ n0 → T (le y1 (height v)) × T (le (height v) y0)
    falling_within n = (
      above_equal y1 _ _ n1 0 256 (lit< tt) s.y1_is (line_end final) (down final at n to_final),
      below_equal y0 _ _ n0 0 256 (lit< tt) s.y0_is (line_start first)
          (down at first n from_first),
    )

-- from one segment into a later one, where the heights never fall
pub line_across : {x0 y0 x1 y1 x2 y2 x3 y3 v w : Float} {a0 n0 a1 n1 a2 n2 a3 n3 k h j g : ℕ}
    (s : Segment x0 y0 x1 y1 a0 n0 a1 n1) (t : Segment x2 y2 x3 y3 a2 n2 a3 n3)
    → Position x0 x1 v k h → Position x2 x3 w j g
    → n0 ≤ n1 → n1 ≤ n2 → n2 ≤ n3 → T (le (height s v) (height t w))
line_across {y1 = y1} {y2 = y2} {v = v} {w = w} {n1 = n1} {n2 = n2} s t at to l m n =
    le_trans _ y1 _ (rising_within s at l).1
    (le_trans y1 y2 _ (le_of_is y1 y2 n1 0 256 n2 0 256 (lit< tt) (lit< tt) s.y1_is t.y0_is
    (omega arith)) (rising_within t to n).0)
