-- The straight piece at any position: exact at the knots, within 1 / 16,384 of the exact broken
-- line, finite, and in order where the heights are.
use Rattle.std.specs.Prelude.{◌≡◌, List, ℕ, ◌+◌, ◌-◌, ◌*◌, ◌^◌, ◌≤◌, ◌<◌, T, Float}
use Rattle.std.proofs.Common.{inl, inr, arith, lit<}
use Rattle.std.proofs.Math.Decide.{ℕ_discrete}
use Rattle.std.specs.Float.Ieee.{le}
use Rattle.std.specs.Float.Ieee.Scale.{finite}
use Rattle.std.specs.Float.Ieee.Positive.{den, den_pos}
use Rattle.floats.specs.Signed.{le_through}
use Rattle.floats.specs.Value.{Is, top, bot, own, is_of_le, is→le, is→ge}
use Rattle.floats.specs.Order.{le_trans, finite_between}
use Rattle.floats.specs.Frac.{Frac, frac, Below, Close, total, close_same}
use Rattle.floats.specs.Calc.{val}
use Rattle.floats.specs.Line as Line
use Rattle.floats.specs.Position.{Position}
use Rattle.floats.specs.Segment.{width_is, at_float, at_start, at_end}
use Rattle.floats.specs.Segment.{
  line_start,
  line_end,
  line_finite,
  line_near,
  line_rises,
  rising_within,
  falling_within,
  line_across,
}
use Rattle.single.specs.Constants.{𝟎, 𝟐𝟓𝟓, micro, micro_is}
use Rattle.single.specs.RuleLaws.{guarded_value}
use Rattle.points.specs.Knots.{knot_at, at}
use Rattle.segments.specs.Segments.{segment}
use Rattle.segments.specs.Straight.{part, straight}
use Rattle.segments.specs.Rows.{Rows, knot_low, knot_high, y_low, y_high, piece}
use Rattle.segments.specs.SegmentLaws.{
  InRange,
  Holds,
  segment_holds,
  between_holds,
  held_at_knot,
  held_between,
  held_order,
}

-- the straight piece in the segment s, at x
abbrev pub straight_in : List Float → List Float → ℕ → Float → Float
straight_in xs ys s x = let k = knot_at xs ys s in let m = knot_at xs ys (s + 1) in
    straight k m (part k m x)

-- and in the segment of x
abbrev pub straight_at : List Float → List Float → ℕ → Float → Float
straight_at xs ys n x = straight_in xs ys (segment xs n x) x

-- the exact line from the height n0 / 256 to n1 / 256, k / w of the way
abbrev pub exact_line : (n0 n1 k w : ℕ) → Frac
exact_line n0 n1 k w = frac (n0 * w + n1 * k) (n0 * k) (256 * w)

-- what lies between a value and itself is that value
equal_is : (x y : Float) (p n c : ℕ) → Is y p n c → T (le y x) → T (le x y) → Is x p n c
equal_is x y p n c i low high =
    let f : T (finite x) = finite_between y x y i.0 i.0 low high in (
      f,
      omega (
        arith,
        is_of_le y x p n c (top x) (bot x) (den x) i (own x f) low,
        is_of_le x y (top x) (bot x) (den x) p n c (own x f) i high,
      ),
    )

-- floats of one value are equally near to a fraction
equally_close : (z w : Float) (p n c : ℕ) (r : Frac) → 0 < c → Is z p n c → Is w p n c
    → Close 1 16384 (val w) r → Close 1 16384 (val z) r
equally_close z w p n c r C i j near =
    let turned =
    close_same 1 16384 r (val w) (val z) (den_pos w) (near.1, near.0) (below w z j i)
    (below z w i j) in
    (turned.1, turned.0)
  where
    below : (x y : Float) → Is x p n c → Is y p n c → Below (val x) (val y)
    below x y i j =
        le_through _ _ (den x) p n c _ _ (den y) C (is→le x p n c i) (is→ge y p n c j)

module _ {xs ys : List Float} {n : ℕ} {a h : ℕ → ℕ} (r : Rows xs ys n a h) where
  -- ---- the guard against a width of 0 never applies
  pub part_plain : (s : ℕ) (x : Float) → s + 1 < n
      → part (knot_at xs ys s) (knot_at xs ys (s + 1)) x ≡ Line.part (at xs s) (at xs (s + 1)) x
  unfolding part
  part_plain s x l =
      let p = piece r s l in
      guarded_value _ _ micro _ 0 1 8796093 (2 ^ 43) (lit< tt) (lit< tt) (width_is p) micro_is
      (omega arith)

  abbrev pub line : ℕ → Float → Float
  line s x = Line.line (at xs s) (at ys s) (at xs (s + 1)) (at ys (s + 1)) x

  pub straight_line : (s : ℕ) (x : Float) → s + 1 < n → straight_in xs ys s x ≡ line s x
  unfolding straight
  straight_line s x l = rw (part_plain s x l)

  -- ---- at the knots
  -- what has the knot's height at both ends of every segment has it at every knot,
  -- in the segment found there
  pub at_knots : (f : ℕ → Float) (x : Float) (i : ℕ) → i < n → Is x (a i) 0 1
      → ((s : ℕ) → s + 1 < n → Is x (a s) 0 1 → Is (f s) (h s) 0 256)
      → ((s : ℕ) → s + 1 < n → Is x (a (s + 1)) 0 1 → Is (f s) (h (s + 1)) 0 256)
      → Is (f (segment xs n x)) (h i) 0 256
  at_knots f x i l e left right =
      let s = segment xs n x in
      let k = segment_holds r x (knot_low r x i e) (knot_high r x i l e) in
      elim (held_at_knot r x i s l e k) [
        | inl next ↦ rw next (right s k.inside (rw next at e))
        | inr first ↦ let same : i ≡ s = omega arith in
            rw same (left s k.inside (rw same at e))
      ]

  pub straight_at_knot : (x : Float) (i : ℕ) → i < n → Is x (a i) 0 1
      → Is (straight_at xs ys n x) (h i) 0 256
  straight_at_knot x i l e =
      at_knots (λ s. straight_in xs ys s x) x i l e
      (λ s j e. let p = piece r s j in rw (straight_line s x j) (line_start p (at_start p x e)))
      (λ s j e. let p = piece r s j in rw (straight_line s x j) (line_end p (at_end p x e)))

  -- ---- between them
  -- k / w of the way from the knot i to the next; at an inner knot this may be either side of it
  pub straight_near : (x : Float) (i : ℕ) {k w : ℕ} → i + 1 < n → T (le (at xs i) x)
      → T (le x (at xs (i + 1)))
      → Position (at xs i) (at xs (i + 1)) x k w
      → Close 1 16384 (val (straight_at xs ys n x)) (exact_line (h i) (h (i + 1)) k w)
  straight_near x i {k} {w} l low high at_x =
      let p = piece r i l in
      let near = line_near p at_x in
      elim (held_between r x i _ l high (between_holds r x i l low high)) [
        | inl same ↦ rw (← same, straight_line i x l) near
        | inr on-knot ↦
            let e = equal_is x _ (a i) 0 1 p.x0_is low on-knot in
            equally_close (straight_at xs ys n x) (line i x) (h i) 0 256 _ (lit< tt)
            (straight_at_knot x i (omega arith) e) (line_start p (at_start p x e)) near
      ]

  -- where x is a float in range, and so top x / den x
  pub straight_close : (x : Float) → InRange x → (i : ℕ) → i + 1 < n → T (le (at xs i) x)
      → T (le x (at xs (i + 1)))
      → Close 1 16384 (val (straight_at xs ys n x))
      (exact_line (h i) (h (i + 1)) (top x - a i * den x) ((a (i + 1) - a i) * den x))
  straight_close x p i l low high =
      straight_near x i l low high (at_float (piece r i l) x p.in_format low high)

  -- ---- in every segment
  pub on_piece : {x : Float} {s : ℕ} → InRange x → Holds xs n x s
      → Position (at xs s) (at xs (s + 1)) x (top x - a s * den x) ((a (s + 1) - a s) * den x)
  on_piece {x} {s} p k = at_float (piece r s k.inside) x p.in_format k.low k.high

  pub held : {x : Float} → InRange x → Holds xs n x (segment xs n x)
  held {x} p = segment_holds r x p.low p.high

  pub straight_finite : (x : Float) → InRange x → T (finite (straight_at xs ys n x))
  straight_finite x p =
      let k = held p in
      rw (straight_line _ x k.inside) (line_finite (piece r _ k.inside) (on_piece p k))

  -- from 0 to 255, so that clamping changes nothing
  pub straight_in_range : (x : Float) → InRange x
      → T (le 𝟎 (straight_at xs ys n x)) × T (le (straight_at xs ys n x) 𝟐𝟓𝟓)
  straight_in_range x p =
      let s = segment xs n x in
      let k = held p in
      let l : s < n = omega arith in
      let g = piece r s k.inside in
      rw (straight_line s x k.inside)
      (elim (total (h s) (h (s + 1))) [
        | inl up ↦
            let b = rising_within g (on_piece p k) up in (
              le_trans 𝟎 _ _ (y_low r s l) b.0,
              le_trans _ _ 𝟐𝟓𝟓 b.1 (y_high r (s + 1) k.inside),
            )
        | inr down ↦
            let b = falling_within g (on_piece p k) down in (
              le_trans 𝟎 _ _ (y_low r (s + 1) k.inside) b.0,
              le_trans _ _ 𝟐𝟓𝟓 b.1 (y_high r s l),
            )
      ])

  -- ---- in order, where no knot is lower than one before it
  module _ (never-falls : (i j : ℕ) → i ≤ j → j < n → h i ≤ h j) where
    rise : (s : ℕ) → s + 1 < n → h s ≤ h (s + 1)
    rise s l = never-falls s (s + 1) (omega arith) l

    pieces_rise : {x y : Float} {s t : ℕ} → InRange x → InRange y → T (le x y) → Holds xs n x s
        → Holds xs n y t → T (le (line s x) (line t y))
    pieces_rise {x} {y} {s} {t} p q l k m = elim (ℕ_discrete s t) [
      | yes same ↦
          let here : Holds xs n y s = rw same m in
          rw (← same)
          (line_rises (piece r s k.inside) (on_piece p k) (on_piece q here)
          (rise s k.inside) l)
      | no other ↦
          let order = held_order r x y s t l k m in
          line_across (piece r s k.inside) (piece r t m.inside) (on_piece p k) (on_piece q m)
          (rise s k.inside)
          (never-falls (s + 1) t (omega arith) (omega arith)) (rise t m.inside)
    ]

    pub straight_order : (x y : Float) → InRange x → InRange y → T (le x y)
        → T (le (straight_at xs ys n x) (straight_at xs ys n y))
    straight_order x y p q l =
        rw (straight_line _ x (held p).inside, straight_line _ y (held q).inside)
        (pieces_rise p q l (held p) (held q))
