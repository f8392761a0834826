-- Which segment `segment` finds: the one that holds x, at an inner knot the left one; and a larger
-- x never has an earlier segment.
use Rattle.std.specs.Prelude.{◌≡◌, ◌⊎◌, List, Float}
use Rattle.std.proofs.Common.{sym, inl, inr, lit<}
use Rattle.std.proofs.Math.Path.{subst}
use Prim.Native.Nat.{ℕ, zero, suc, ◌+◌, ◌-◌, ◌≤◌, ◌<◌}
use Rattle.std.proofs.Math.Numerals.{add-one}
use Rattle.std.proofs.Math.Decide.{dec_lt}
use native.Mathlib.Omega.{arith}
use Rattle.std.proofs.Math.Dec.{T}
use Rattle.std.specs.Float.{binary32}
use Rattle.std.specs.Float.Ieee.{fits, lt, le}
use Rattle.std.specs.Float.Ieee.Scale.{finite}
use Rattle.std.specs.Float.Ieee.Positive.{den}
use Rattle.lists.specs.Test.{by_test}
use Rattle.floats.specs.Value.{Is, top, bot, own, is_of_le, not_below}
use Rattle.floats.specs.Order.{
  le_trans,
  above_equal,
  le_numbers,
  le_of_lt,
  le_of_not_lt,
  not_lt_of_le,
}
use Rattle.single.specs.Constants.{𝟎, 𝟐𝟓𝟓, 𝟎-is}
use Rattle.segments.specs.Segments.{seek, segment}
use Rattle.points.specs.Knots.{at}
use Rattle.segments.specs.Rows.{Rows, x_le, from_first, to_last, knot_low, knot_high}

-- where a curve has a height: at the floats of the format from 0 to 255
pub record InRange (x : Float) : Type 0 where
  pub in_format : T (fits binary32 x)
  pub low : T (le 𝟎 x)
  pub high : T (le x 𝟐𝟓𝟓)

-- such a float as a fraction without a sign
pub nonnegative_is : (x : Float) → T (finite x) → T (le 𝟎 x) → Is x (top x) 0 (den x)
nonnegative_is x f low =
    not_below x f (omega (arith, is_of_le 𝟎 x 0 0 1 (top x) (bot x) (den x) 𝟎-is (own x f) low))

-- Of n knots, x lies between the knots s and s + 1, and above the first of them
-- unless that is the very first.
pub record Holds (xs : List Float) (n : ℕ) (x : Float) (s : ℕ) : Type 0 where
  pub inside : s + 1 < n
  pub low : T (le (at xs s) x)
  pub high : T (le x (at xs (s + 1)))
  pub above : 0 < s → T (lt (at xs s) x)

-- x is above y, and not
clash : (x y : Float) → T (lt y x) → T (le x y) → ⊥
clash x y l u = subst T (not_lt_of_le x y u) l

module _ {xs ys : List Float} {n : ℕ} {a h : ℕ → ℕ} (r : Rows xs ys n a h) where
  -- ---- the segment found holds x
  seek_holds : (x : Float) → T (le x 𝟐𝟓𝟓) → (k s : ℕ) → s + 2 + k ≡ n → T (le (at xs s) x)
      → (0 < s → T (lt (at xs s) x))
      → Holds xs n x (seek xs x k s)
  unfolding seek
  seek_holds x u zero s e low above = record {
    inside = omega arith;
    low = low;
    high = let last : n - 1 ≡ s + 1 = omega arith in rw last at (to_last r x u);
    above = above;
  }
  seek_holds x u (suc k) s e low above =
      let next : s + 1 ≡ suc s = add-one s in
      by_test (lt (at xs (suc s)) x)
      (λ t.
      let past : T (lt (at xs (suc s)) x) = subst T (sym t) tt in
      rw t (seek_holds x u k (suc s) (omega arith) (le_of_lt (at xs (suc s)) x past)
      (λ some. past)))
      (λ t.
      rw t
      (record {
        inside = omega arith;
        low = low;
        high =
            rw next
            (le_of_not_lt (at xs (suc s)) x
            (le_numbers (at xs s) (at xs (suc s)) (x_le r s (suc s) (omega arith) (omega arith))
            ).1
            (le_numbers x 𝟐𝟓𝟓 u).0 t);
        above = above;
      }))

  pub segment_holds : (x : Float) → T (le 𝟎 x) → T (le x 𝟐𝟓𝟓) → Holds xs n x (segment xs n x)
  unfolding segment
  segment_holds x l u =
      seek_holds x u (n - 2) 0 (omega (arith, r.two)) (from_first r x l)
      (λ some. absurd (omega arith))

  -- ---- at the knot i that is the segment left of it, and for the first knot the first segment
  pub held_at_knot : (x : Float) (i s : ℕ) → i < n → Is x (a i) 0 1 → Holds xs n x s
      → (i ≡ s + 1) ⊎ ((i ≡ 0) × (s ≡ 0))
  held_at_knot x i s l e k = elim (dec_lt (s + 1) i) [
    | yes right ↦
        let most =
        is_of_le x (at xs (s + 1)) (a i) 0 1 (a (s + 1)) 0 1 e (r.x_is (s + 1) k.inside)
        k.high in
        absurd (omega (arith, most, r.rising (s + 1) i right l))
    | no not_right ↦ elim (dec_lt s i) [
      | yes next ↦ inl (omega arith)
      | no not-next ↦ elim (dec_lt 0 s) [
        | yes some ↦
            absurd
            (clash x (at xs s) (k.above some)
            (above_equal x (at xs i) (at xs s) (a i) 0 1 (lit< tt) e (r.x_is i l)
            (x_le r i s (omega arith) (omega (arith, k.inside)))))
        | no first ↦ inr (omega arith, omega arith)
      ]
    ]
  ]

  -- ---- a larger x has no earlier segment
  pub held_order : (x y : Float) (s t : ℕ) → T (le x y) → Holds xs n x s → Holds xs n y t → s ≤ t
  held_order x y s t l k m = elim (dec_lt t s) [
    | yes earlier ↦
        absurd
        (clash x (at xs s) (k.above (omega arith))
        (le_trans x y (at xs s) l
        (le_trans y (at xs (t + 1)) (at xs s) m.high
        (x_le r (t + 1) s (omega arith) (omega (arith, k.inside))))))
    | no not-Earlier ↦ omega arith
  ]

  -- ---- between the knots i and i + 1 it is their segment, or x is on the knot i
  pub between_holds : (x : Float) (i : ℕ) → i + 1 < n → T (le (at xs i) x)
      → T (le x (at xs (i + 1))) → Holds xs n x (segment xs n x)
  between_holds x i l low high =
      segment_holds x
      (le_trans 𝟎 (at xs i) x (knot_low r (at xs i) i (r.x_is i (omega arith))) low)
      (le_trans x (at xs (i + 1)) 𝟐𝟓𝟓 high
      (knot_high r (at xs (i + 1)) (i + 1) l (r.x_is (i + 1) l)))

  pub held_between : (x : Float) (i s : ℕ) → i + 1 < n → T (le x (at xs (i + 1))) → Holds xs n x s
      → (i ≡ s) ⊎ T (le x (at xs i))
  held_between x i s l high k = elim (dec_lt i s) [
    | yes left ↦
        absurd
        (clash x (at xs s) (k.above (omega arith))
        (le_trans x (at xs (i + 1)) (at xs s) high
        (x_le r (i + 1) s (omega arith) (omega (arith, k.inside)))))
    | no not_left ↦ elim (dec_lt s i) [
      | yes right ↦
          inr (le_trans x (at xs (s + 1)) (at xs i) k.high
          (x_le r (s + 1) i (omega arith) (omega arith)))
      | no not_right ↦ inl (omega arith)
    ]
  ]
