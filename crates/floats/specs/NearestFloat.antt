-- Rounding to the nearest float, ties to even, as IEEE 754 has it, for results of every magnitude:
-- no float of the format is nearer to the exact fraction than the one that an operation gives;
-- where another is as near, the one given has an even significand. That but for a zero's sign (Sign)
-- no other float is so: proofs/NearestLaws. Where results are finite: Overflow.
use Rattle.std.specs.Prelude.{◌≡◌, refl, ℕ, ◌+◌, ◌*◌, ◌%◌, ◌^◌, ◌≤◌, ◌<◌, true, false, T, Float}
use Rattle.std.proofs.Common.{sym, ap, ◌∙◌, le_trans, le_antisymm, zero-mul, mul_right_comm, mul_assoc, mul-pos, arith, pow_pos}
use Rattle.std.proofs.Math.Nat.{eq_of_mul-eq-mul_right}
use Rattle.std.proofs.Math.Decide.{ℕ_discrete}
use Rattle.std.specs.Float.{nan, inf, fin, Format}
use Rattle.std.specs.Float.Ieee.{prec, low, down, round, neg, fits}
use Rattle.std.specs.Float.Ieee.Fits.{two, two-le_pos, down_pos, neg-fits, round-fits}
use Rattle.std.specs.Float.Ieee.Exact.{HasValue}
use Rattle.std.specs.Float.Ieee.Order.{drop, kept}
use Rattle.std.specs.Float.Ieee.Scale.{finite, round_val, round_under}
use Rattle.std.specs.Float.Ieee.Positive.{den}
use Rattle.floats.specs.Value.{Is, is_of_pos, is_of_neg}
use Rattle.floats.specs.Value.{den_neg, finite_neg}
use Rattle.floats.specs.Round.{Rounds, over, under, round_opposite, neg_twice}
use Rattle.floats.specs.Exact.{fits_rep}
use Rattle.floats.specs.Unique.{value_unique}
use Rattle.floats.specs.Closest.{gap, closest_nearest, closest_zero, kept_le, grid_nearest}
use Rattle.floats.specs.Closest.{grid_even, grid_neighbour}
use Rattle.floats.specs.Distance.{distance, NoFurther, AsFar, distance_neg, distance_above}
use Rattle.floats.specs.Distance.{distance_below, no_further, same_parts}
use Rattle.floats.specs.Parity.{Even, even_neg, units_even, units_odd}

-- z is a finite float of the format f; none is nearer to (p - n) / c; and if another is as near, z
-- has an even significand
pub record NearestFloat (f : Format) (z : Float) (p n c : ℕ) : Type 0 where
  pub number : T (finite z)
  pub fitting : T (fits f z)
  pub nearest : (y : Float) → T (finite y) → T (fits f y) → NoFurther z y p n c
  pub even : (y : Float) → T (finite y) → T (fits f y) → (y ≡ z → ⊥) → AsFar z y p n c → Even f z

-- ---- a positive fraction a / c beside another float y, both in smallest values, L of which are 1
module _ (f : Format) (z : Float) (a c p n : ℕ) (C : 0 < c) (e : p ≡ n + a)
    (i : z ≡ round f false a c) (F : T (finite z)) where
  abbrev L : ℕ
  L = 2 ^ low f

  abbrev k : ℕ
  k = drop (prec f) (a * L) c

  abbrev q : ℕ
  q = kept (prec f) (a * L) c

  -- z is q * 2 ^ k, and as far from a / c as this
  abbrev far : ℕ
  far = gap (q * (c * 2 ^ k)) (a * L)

  P : 0 < prec f
  P = two-le_pos _ (two f)

  step : 0 < c * 2 ^ k
  step = mul-pos C (pow_pos k)

  fitting : T (fits f z)
  fitting = rw i (round-fits f false a c)

  pub value : HasValue z false (q * 2 ^ k) L
  value = rw i (round_val f a c (round_under f a c (rw i at F)))

  mine : distance z p n c * L ≡ far * den z
  mine =
      distance_above _ L a c p n e z value
      ∙ ap (λ x. gap x (a * L) * den z) (mul_right_comm q _ c ∙ mul_assoc q c _)

  -- ---- y has no sign, and is v smallest values
  module _ (y : Float) (v : ℕ) (is : HasValue y false v L) where
    above : distance y p n c * L ≡ gap (v * c) (a * L) * den y
    above = distance_above v L a c p n e y is

    further_above : far ≤ gap (v * c) (a * L) → NoFurther z y p n c
    further_above h = no_further z y p n c far _ L mine above (pow_pos _) h

    far_above : AsFar z y p n c → far ≡ gap (v * c) (a * L)
    far_above h = same_parts z y p n c far _ L mine above h

  -- ---- y has one: it is on the other side of 0
  module _ (y : Float) (v : ℕ) (is : HasValue y true v L) where
    below : distance y p n c * L ≡ (v * c + a * L) * den y
    below = distance_below v L a c p n e y is

    from_zero : far ≤ a * L
    from_zero = omega (arith, closest_nearest (a * L) _ 0 step)

    further_below : NoFurther z y p n c
    further_below =
        no_further z y p n c far _ L mine below (pow_pos _) (le_trans from_zero (omega arith))

    -- as far only where y is a zero, and z one too
    far_below : AsFar z y p n c → (v ≡ 0) × (q ≡ 0)
    far_below h =
        let s : far ≡ v * c + a * L = same_parts z y p n c far _ L mine below h in
        let t : far ≡ a * L = le_antisymm from_zero (omega arith) in
        let none : v ≡ 0 = eq_of_mul-eq-mul_right c C v 0 (omega (arith, from_zero)) in
        (none, closest_zero (a * L) _ step t)

  -- ---- any y
  closer : (y : Float) → T (finite y) → T (fits f y) → NoFurther z y p n c
  closer nan t h = absurd t
  closer (inf s) t h = absurd t
  closer (fin false m d) t h =
      let o = fits_rep f _ t h in
      further_above (fin false m d) _ (refl, o.same)
      (grid_nearest _ (a * L) c P C _ _ o.small)
  closer (fin true m d) t h =
      let o = fits_rep f _ t h in
      further_below (fin true m d) _ (refl, o.same)

  tie : (y : Float) → T (finite y) → T (fits f y) → (y ≡ z → ⊥) → AsFar z y p n c → q % 2 ≡ 0
  tie nan t h d g = absurd t
  tie (inf s) t h d g = absurd t
  tie (fin false m w) t h d g =
      let y = fin false m w in
      let o = fits_rep f y t h in
      let v = o.q * 2 ^ o.j in
      let other : v ≡ q * 2 ^ k → ⊥ =
      λ s. d (value_unique f y z false _ L (pow_pos _) h fitting (refl, o.same ∙ ap (◌* down w) s)
      value) in
      grid_even _ (a * L) c P C _ _ o.small other (far_above y v (refl, o.same) g)
  tie (fin true m w) t h d g =
      let o = fits_rep f _ t h in
      ap (◌% 2) (far_below (fin true m w) _ (refl, o.same) g).1

  nearest_over : NearestFloat f z p n c
  nearest_over = record {
    number = F;
    fitting = fitting;
    nearest = closer;
    even = λ y t h d g. units_even f false q k (kept_le (prec f) (a * L) c) z value (tie y t h d g);
  }

  -- ---- what is nearest, and even at a tie, has z's value
  pub unique_over : (y : Float) → NearestFloat f y p n c → Is y (q * 2 ^ k) 0 L
  unique_over nan r = absurd r.number
  unique_over (inf s) r = absurd r.number
  unique_over (fin false m w) r =
      let y = fin false m w in
      let o = fits_rep f y tt r.fitting in
      let v = o.q * 2 ^ o.j in
      let t : AsFar z y p n c = le_antisymm (closer y tt r.fitting) (r.nearest z F fitting) in
      elim (ℕ_discrete v (q * 2 ^ k)) [
        | yes g ↦ is_of_pos y _ L (refl, o.same ∙ ap (◌* down w) g)
        | no g ↦
            let h =
            grid_neighbour _ (a * L) c P C _ _ o.small g
            (far_above y v (refl, o.same) t) in
            let other : z ≡ y → ⊥ =
            λ i. g (eq_of_mul-eq-mul_right _ (down_pos w) v _
            (sym o.same ∙ (rw i at value).1)) in
            absurd (units_odd f false h.0 k h.3 y (refl, o.same ∙ ap (◌* down w) h.1)
            h.4 h.2 (r.even z F fitting other (sym t)))
      ]
  unique_over (fin true m w) r =
      let y = fin true m w in
      let o = fits_rep f y tt r.fitting in
      let t : AsFar z y p n c = le_antisymm (closer y tt r.fitting) (r.nearest z F fitting) in
      let h = far_below y _ (refl, o.same) t in
      rw (h.1, zero-mul (2 ^ k)) (is_of_neg y 0 L (refl, o.same ∙ ap (◌* down w) h.0))

-- ---- and a negative one: the same with all signs changed
pub nearest_neg : {f : Format} {z : Float} {p n c : ℕ} → NearestFloat f z n p c
    → NearestFloat f (neg z) p n c
nearest_neg {f} {z} {p} {n} {c} r = record {
  number = finite_neg z r.number;
  fitting = neg-fits f z r.fitting;
  nearest =
      λ y t h.
      let s = r.nearest _ (finite_neg y t) (neg-fits f y h) in
      rw (distance_neg z p n c, den_neg z, ← distance_neg y n p c, ← den_neg y) s;
  even =
      λ y t h d g.
      let other : neg y ≡ z → ⊥ = λ s. d (sym (neg_twice y) ∙ ap neg s) in
      let as-far : AsFar z (neg y) n p c =
      rw (distance_neg y n p c, den_neg y, ← distance_neg z p n c, ← den_neg z) g in
      let s = r.even _ (finite_neg y t) (neg-fits f y h) other as-far in
      even_neg f z r.number s;
}

-- ---- every operation gives the nearest float, where its result is finite
pub rounds_nearest : (f : Format) (z : Float) (p n c : ℕ) → 0 < c → Rounds f z p n c → T (finite z)
    → NearestFloat f z p n c
rounds_nearest f z p n c C (over a e i) F = nearest_over f z a c p n C e i F
rounds_nearest f z p n c C (under a e i) F =
    let r = nearest_over f _ a c n p C e (ap neg i ∙ round_opposite f true a c) (finite_neg z F) in
    rw neg_twice at (nearest_neg r)
