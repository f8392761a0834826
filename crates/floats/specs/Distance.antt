-- How far a float is from a fraction (p - n) / c, and which of two floats is nearer to it.
use Rattle.std.specs.Prelude.{◌≡◌, ℕ, ◌+◌, ◌-◌, ◌*◌, ◌≤◌, ◌<◌, true, false, Float}
use Rattle.std.proofs.Common.{sym, ap, ap₂, ◌∙◌, le_of_mul-le-mul_right, add-mul, mul_comm, mul-pos, mul-le-mul_right, arith, true≢false}
use Rattle.std.proofs.Math.Nat.{eq_of_mul-eq-mul_right, mul-sub}
use Rattle.std.specs.Float.{nan, inf, fin}
use Rattle.std.specs.Float.Ieee.{neg}
use Rattle.std.specs.Float.Ieee.Exact.{HasValue}
use Rattle.std.specs.Float.Ieee.Positive.{den, den_pos}
use Rattle.floats.specs.Value.{top, bot}
use Rattle.floats.specs.Closest.{gap}

-- |x - (p - n) / c|, in parts of 1 / (den x * c)
abbrev pub distance : Float → ℕ → ℕ → ℕ → ℕ
distance x p n c = gap (top x * c + n * den x) (p * den x + bot x * c)

-- x is no further from (p - n) / c than y
abbrev pub NoFurther : Float → Float → ℕ → ℕ → ℕ → Type 0
NoFurther x y p n c = distance x p n c * den y ≤ distance y p n c * den x

-- x is as far from (p - n) / c as y
abbrev pub AsFar : Float → Float → ℕ → ℕ → ℕ → Type 0
AsFar x y p n c = distance x p n c * den y ≡ distance y p n c * den x

-- with all signs changed
pub distance_neg : (x : Float) (p n c : ℕ) → distance (neg x) p n c ≡ distance x n p c
unfolding neg
distance_neg nan p n c = omega arith
distance_neg (inf s) p n c = omega arith
distance_neg (fin true m e) p n c = omega arith
distance_neg (fin false m e) p n c = omega arith

-- ---- in parts of 1 / L, c of these in one: x is U / L in size, and (p - n) / c is a / c
gap_times : (x y k : ℕ) → gap x y * k ≡ gap (x * k) (y * k)
gap_times x y k = add-mul (x - y) (y - x) k ∙ ap₂ ◌+◌ (minus_times x y) (minus_times y x)
  where
    minus_times : (m n : ℕ) → (m - n) * k ≡ m * k - n * k
    minus_times m n = rw (mul_comm (m - n) k, mul_comm m k, mul_comm n k) (mul-sub k m n)

gap_cancel : (x y t : ℕ) → gap (x + t) (y + t) ≡ gap x y
gap_cancel x y t = omega arith

module _ (U L a c p n : ℕ) (e : p ≡ n + a) where
  -- x is X / D
  same_side : (X D : ℕ) → X * L ≡ U * D
      → gap (X * c + n * D) (p * D + 0 * c) * L ≡ gap (U * c) (a * L) * D
  same_side X D h =
      gap_times _ _ L
      ∙ ap₂ gap first second
      ∙ gap_cancel _ _ _
      ∙ sym (gap_times (U * c) (a * L) D)
    where
      first : (X * c + n * D) * L ≡ U * c * D + n * D * L
      first = omega (arith, ap (◌* c) h)

      second : (p * D + 0 * c) * L ≡ a * L * D + n * D * L
      second = omega (arith, ap (λ x. x * D * L) e)

  other_side : (X D : ℕ) → X * L ≡ U * D
      → gap (0 * c + n * D) (p * D + X * c) * L ≡ (U * c + a * L) * D
  other_side X D h = ap (◌* L) sum ∙ omega (arith, ap (◌* c) h)
    where
      sum : gap (0 * c + n * D) (p * D + X * c) ≡ a * D + X * c
      sum = let g : p * D ≡ n * D + a * D = ap (◌* D) e ∙ add-mul n a D in omega arith

  pub distance_above : (x : Float) → HasValue x false U L
      → distance x p n c * L ≡ gap (U * c) (a * L) * den x
  distance_above nan h = absurd h
  distance_above (inf s) h = absurd h
  distance_above (fin true m k) h = absurd (true≢false h.0)
  distance_above (fin false m k) h = same_side _ _ h.1

  pub distance_below : (x : Float) → HasValue x true U L
      → distance x p n c * L ≡ (U * c + a * L) * den x
  distance_below nan h = absurd h
  distance_below (inf s) h = absurd h
  distance_below (fin false m k) h = absurd (true≢false (sym h.0))
  distance_below (fin true m k) h = other_side _ _ h.1

-- ---- compared in these parts
module _ (x y : Float) (p n c i j L : ℕ) (first : distance x p n c * L ≡ i * den x)
    (second : distance y p n c * L ≡ j * den y) where
  pub no_further : 0 < L → i ≤ j → NoFurther x y p n c
  no_further l h = go (distance x p n c) _ (distance y p n c) _ first second
    where
      go : (d D g G : ℕ) → d * L ≡ i * D → g * L ≡ j * G → d * G ≤ g * D
      go d D g G s t =
          le_of_mul-le-mul_right {k = L}
          (omega (
            arith,
            ap (◌* G) s,
            ap (◌* D) t,
            mul-le-mul_right
                (D * G) h,
          )) l

  pub same_parts : AsFar x y p n c → i ≡ j
  same_parts h =
      go (distance x p n c) _ (distance y p n c) _ (den_pos x) (den_pos y) first second h
    where
      go : (d D g G : ℕ) → 0 < D → 0 < G → d * L ≡ i * D → g * L ≡ j * G → d * G ≡ g * D → i ≡ j
      go d D g G k l s t h =
          eq_of_mul-eq-mul_right (D * G) (mul-pos k l) i j
          (omega (arith, ap (◌* G) s, ap (◌* D) t, ap (◌* L) h))
