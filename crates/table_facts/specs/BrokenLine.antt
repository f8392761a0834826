-- The exact broken line of a given list: it is there at every position from 0 to 255, has one value
-- there, also where two pieces meet, and at a knot's x it is the knot's height.
use Rattle.std.specs.Prelude.{◌≡◌, refl, List, ℕ, zero, suc, ◌+◌, ◌-◌, ◌*◌, ◌≤◌, ◌<◌, length}
use Rattle.std.proofs.Common.{sym, ap, ◌∙◌, le_refl, le_of_lt, mul-pos, mul-lt-mul_of_pos_right, add-sub_of_le, arith, lit<}
use Rattle.std.proofs.Math.Nat.{eq_of_mul-eq-mul_right}
use Rattle.std.proofs.Math.Decide.{ℕ_discrete, dec_le, dec_lt}
use Rattle.points.specs.declared.Point.{Point}
use Rattle.points.specs.Points.{kept}
use Rattle.points.specs.Knots.{given_knots, x_of, y_of, LineAt}
use Rattle.points.specs.Order.{All, Typed, rising_to}
use Rattle.points.specs.Kept.{kept_all, kept_rises}
use Rattle.points.specs.Shape.{Span, knots_span}

-- some neighbours among f 0, .., f (n + 1) have v between them
between : (f : ℕ → ℕ) (v n : ℕ) → f 0 ≤ v → v ≤ f (suc n)
    → (i : ℕ) × (i ≤ n) × (f i ≤ v) × (v ≤ f (suc i))
between f v zero low high = (0, omega arith, low, high)
between f v (suc n) low high = elim (dec_le v (f (suc n))) [
  | yes below ↦ let r = between f v n low below in (r.0, omega arith, r.2, r.3)
  | no above ↦ (suc n, le_refl (suc n), omega arith, high)
]

-- ---- a piece from the height m0 to m1, at k from its left end and g from its right one
inside_piece : (m0 m1 k g : ℕ) → (m0 * g + m1 * k) + m0 * k ≡ m0 * (k + g) + m1 * k
inside_piece m0 m1 k g = omega arith

-- ---- the line at the position p / c
module _ (l : List Point) (typed : All Typed l) (p c : ℕ) where
  abbrev ks : List Point
  ks = given_knots l

  span : Span ks
  span = knots_span (kept l) (kept_all Typed l typed) (kept_rises l)

  rise : (i j : ℕ) → i < j → j < length ks → x_of ks i < x_of ks j
  rise = rising_to ks span.rising

  -- the width of a piece, in parts of c
  abbrev wide : ℕ → ℕ
  wide i = (x_of ks (suc i) - x_of ks i) * c

  width_split : (i : ℕ) → suc i < length ks → x_of ks i * c + wide i ≡ x_of ks (suc i) * c
  width_split i h =
      let whole = add-sub_of_le (le_of_lt (rise i (suc i) (le_refl (suc i)) h)) in
      omega (arith, ap (λ (t : ℕ). t * c) whole)

  -- its divisor is above 0
  pub line_width : (n d : ℕ) → LineAt l p c n d → 0 < d
  line_width n d o =
      let apart : 0 < x_of ks (suc o.i) - x_of ks o.i =
      omega (arith, rise o.i (suc o.i) (le_refl (suc o.i)) o.inside) in
      rw o.width (mul-pos (mul-pos apart o.divisor) (lit< tt))

  -- it is there
  piece : (i : ℕ) → 0 < c → suc i < length ks → x_of ks i * c ≤ p → p ≤ x_of ks (suc i) * c
      → (n d : ℕ) × LineAt l p c n d
  piece i some h low high =
      let k = p - x_of ks i * c in
      let g = x_of ks (suc i) * c - p in
      let parts : k + g ≡ wide i = omega (arith, width_split i h) in (
        y_of ks i * g + y_of ks (suc i) * k,
        wide i * 256,
        record {
          divisor = some;
          i = i;
          inside = h;
          left = low;
          right = high;
          width = refl;
          height = rw parts at (inside_piece (y_of ks i) (y_of ks (suc i)) k g);
        },
      )

  pub on_line : 0 < c → p ≤ 255 * c → (n d : ℕ) × LineAt l p c n d
  on_line some h =
      let last : suc (length ks - 2) ≡ length ks - 1 = omega (arith, span.two) in
      let r =
      between (λ i. x_of ks i * c) p (length ks - 2) (rw span.start (omega arith))
      (rw (last, span.end) h) in
      piece r.0 some (omega (arith, span.two)) r.2 r.3

  -- at a knot's x it is the knot's height
  pub line_at_knot : (n d : ℕ) → LineAt l p c n d
      → (j : ℕ) → j < length (given_knots l) → x_of (given_knots l) j * c ≡ p
      → n * 256 ≡ y_of (given_knots l) j * d
  line_at_knot n d o j h e =
      let i = o.i in
      let apart : (a b : ℕ) → a < b → b < length ks → x_of ks a * c < x_of ks b * c =
      λ a b less inside. mul-lt-mul_of_pos_right (rise a b less inside) o.divisor in
      let not-before : j < i → ⊥ = λ less. omega (arith, apart j i less (omega arith), o.left) in
      let not_behind : suc i < j → ⊥ = λ more. omega (arith, apart (suc i) j more h, o.right) in
      elim (ℕ_discrete j i) [
        | yes same ↦
            let left : p - x_of ks i * c ≡ 0 = omega (arith, ap (λ (t : ℕ). x_of ks t * c) same) in
            rw (same, o.width) (omega (arith, rw left at o.height))
        | no other ↦
            let next : j ≡ suc i = omega arith in
            let right : p - x_of ks i * c ≡ wide i =
            omega (arith, ap (λ (t : ℕ). x_of ks t * c) next, width_split i o.inside) in
            rw (next, o.width) (omega (arith, rw right at o.height))
      ]

  -- two pieces meet at a knot
  meet : (n d m e : ℕ) (o : LineAt l p c n d) (q : LineAt l p c m e) → o.i < q.i → n * e ≡ m * d
  meet n d m e o q less =
      let j = suc o.i in
      let not-past : j < q.i → ⊥ =
      λ past.
      omega (
        arith,
        mul-lt-mul_of_pos_right (rise j q.i past (omega arith)) o.divisor,
        o.right,
        q.left,
      ) in
      let same : q.i ≡ j = omega arith in
      let at_p : x_of ks j * c ≡ p =
      omega (arith, ap (λ (t : ℕ). x_of ks t * c) same, o.right, q.left) in
      let first = line_at_knot n d o j o.inside at_p in
      let second = line_at_knot m e q j o.inside at_p in
      eq_of_mul-eq-mul_right 256 (lit< tt) (n * e) (m * d)
      (omega (arith, ap (λ (t : ℕ). t * e) first, ap (λ (t : ℕ). t * d) second))

  -- one value
  pub one_value : (n d m e : ℕ) → LineAt l p c n d → LineAt l p c m e → n * e ≡ m * d
  one_value n d m e o q = elim (dec_lt o.i q.i) [
    | yes less ↦ meet n d m e o q less
    | no not_less ↦ elim (dec_lt q.i o.i) [
      | yes more ↦ sym (meet m e n d q o more)
      | no not_more ↦
          let same : q.i ≡ o.i = omega arith in
          let width : d ≡ e = o.width ∙ sym (rw same at q.width) in
          let height : n ≡ m = omega (arith, o.height, rw same at q.height) in
          rw (width, height)
    ]
  ]
