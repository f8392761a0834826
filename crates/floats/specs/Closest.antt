-- A fraction a / b rounded to the nearest whole number, `closest a b` of the library: it is at most
-- a half away, no whole number is nearer, and it is even where another is as near. Then the same of
-- the numbers q * 2 ^ k with a q of p digits, which is how a format's values lie: the library's
-- `kept` * 2 ^ `drop` is nearest to n / c. Nothing here is about floats.
use Rattle.std.specs.Prelude.{◌≡◌, refl, not, T}
use Rattle.std.proofs.Math.Path.{sym, ap}
use Rattle.std.proofs.Common.{◌∙◌, le_refl, ne_of_lt, lt_of_mul-lt-mul_right, le_of_suc-le-suc, lt_of_lt_of_le, not-le_of_lt, mul-le-mul_right, mul-lt-mul_of_pos_right, mul_assoc, mul-pos, div-add-mod', div-lt_iff_lt-mul, mod-lt, le-div_iff_mul-le, leb→le, eqb→eq, pow_pos, pow_mono, shl_lt}
use Prim.Native.Nat.{ℕ, zero, suc, ◌+◌, ◌-◌, ◌*◌, ◌/◌, ◌%◌, ◌^◌, ◌≤◌, ◌<◌, compare, Ordering}
use Rattle.std.proofs.Math.Nat.{le_of_lt, le_trans, le_antisymm, lt_of_not-le, div-div-eq-div-mul}
use Rattle.std.proofs.Math.Decide.{dec_le, ℕ_discrete}
use native.Mathlib.Omega.{arith}
use Rattle.std.proofs.Math.Dec.{is_le, compare_is_eq, nleb→lt}
use Rattle.std.proofs.Math.Arith.{lt_of_le-ne}
use Rattle.std.proofs.Math.Pow.{pow-add}
use Rattle.std.specs.Float.Ieee.{size, nearest}
use Rattle.std.specs.Float.Ieee.Digits.{size-lt, size_reaches, back}
use Rattle.std.specs.Float.Ieee.Fits.{eq→eqb, nearest-le, kept-lt}
use Rattle.std.specs.Float.Ieee.Nearest.{closest}
use Rattle.std.specs.Float.Ieee.Order.{drop, kept}

-- how many digits a number has
pub size_above : (n j : ℕ) → 2 ^ j ≤ n → j < size n
size_above n j h = lt_of_not-le (λ g. not-le_of_lt (size-lt n) (le_trans (pow_mono g) h))

-- |a - b|
abbrev pub gap : ℕ → ℕ → ℕ
gap a b = (a - b) + (b - a)

-- ---- the nearest whole number is at most a half away
abbrev Compared : Ordering → ℕ → ℕ → Type 0
Compared Ordering.lt a b = a < b
Compared Ordering.eq a b = a ≡ b
Compared Ordering.gt a b = b < a

compared : (a b : ℕ) → Compared (compare a b) a b
compared a b =
    go (compare a b) (leb→le a b) (nleb→lt a b) (eqb→eq a b) eq→eqb
  where
    go : (o : Ordering) → (T (is_le o) → a ≤ b) → (T (not (is_le o)) → b < a) → (T (compare_is_eq o) → a ≡ b)
        → (a ≡ b → T (compare_is_eq o)) → Compared o a b
    go Ordering.lt h k e n = lt_of_le-ne (h tt) n
    go Ordering.eq h k e n = e tt
    go Ordering.gt h k e n = k tt

-- a is w * b + r
near_whole : (o : Ordering) (a b w r : ℕ) → Compared o (r * 2) b → w * b + r ≡ a → r < b
    → (nearest w o * b * 2 ≤ a * 2 + b) × (a * 2 ≤ nearest w o * b * 2 + b)
near_whole Ordering.lt a b w r h e l = omega arith
near_whole Ordering.eq a b w r h e l =
    let up : w % 2 ≤ 1 = omega arith in omega (arith, mul-le-mul_right b up)
near_whole Ordering.gt a b w r h e l = omega arith

pub closest_near : (a b : ℕ) → 0 < b
    → (closest a b * b * 2 ≤ a * 2 + b) × (a * 2 ≤ closest a b * b * 2 + b)
closest_near a b B =
    near_whole (compare (a % b * 2) b) a b _ _ (compared _ b) (div-add-mod' a b) (mod-lt a B)

-- ---- no whole number is nearer
half_away : (q a b : ℕ) → (q * b * 2 ≤ a * 2 + b) × (a * 2 ≤ q * b * 2 + b) → gap (q * b) a * 2 ≤ b
half_away q a b h = omega arith

pub closest_half : (a b : ℕ) → 0 < b → gap (closest a b * b) a * 2 ≤ b
closest_half a b B = half_away _ a b (closest_near a b B)

-- two multiples of b are at least b apart
multiples : (q w a b : ℕ) → q < w → b ≤ gap (q * b) a + gap (w * b) a
multiples q w a b l = omega (arith, mul-le-mul_right b l)

others : (q w a b : ℕ) → (w ≡ q → ⊥) → b ≤ gap (q * b) a + gap (w * b) a
others q w a b d = elim (dec_le w q) [
  | yes h ↦ omega (arith, multiples w q a b (lt_of_le-ne h d))
  | no h ↦ multiples q w a b (lt_of_not-le h)
]

pub closest_nearest : (a b w : ℕ) → 0 < b → gap (closest a b * b) a ≤ gap (w * b) a
closest_nearest a b w B = elim (ℕ_discrete w (closest a b)) [
  | yes e ↦ rw e (le_refl _)
  | no d ↦ omega (arith, closest_half a b B, others (closest a b) w a b d)
]

-- ---- at a tie it is even
even_whole : (o : Ordering) (a b w r : ℕ) → Compared o (r * 2) b → w * b + r ≡ a → r < b
    → gap (nearest w o * b) a * 2 ≡ b
    → nearest w o % 2 ≡ 0
even_whole Ordering.lt a b w r h e l t = absurd (omega arith)
even_whole Ordering.eq a b w r h e l t = omega arith
even_whole Ordering.gt a b w r h e l t = absurd (omega arith)

pub closest_even : (a b w : ℕ) → 0 < b → (w ≡ closest a b → ⊥)
    → gap (closest a b * b) a ≡ gap (w * b) a → closest a b % 2 ≡ 0
closest_even a b w B d t =
    even_whole (compare (a % b * 2) b) a b _ _ (compared _ b) (div-add-mod' a b) (mod-lt a B) tie
  where
    tie : gap (closest a b * b) a * 2 ≡ b
    tie = le_antisymm (closest_half a b B) (omega (arith, others (closest a b) w a b d))

-- a half would be as near to 0 as to 1, which is odd; so 0 is as near only where it is the nearest
zero_of : (q a b : ℕ) → 0 < b → gap (q * b) a * 2 ≤ b → gap (q * b) a ≡ a
    → ((0 ≡ q → ⊥) → q % 2 ≡ 0) → q ≡ 0
zero_of zero a b B h t even = refl
zero_of (suc q) a b B h t even =
    let e = even (λ z. omega arith) in
    let two : 2 ≤ suc q = omega arith in absurd (omega (arith, mul-le-mul_right b two))

pub closest_zero : (a b : ℕ) → 0 < b → gap (closest a b * b) a ≡ a → closest a b ≡ 0
closest_zero a b B t =
    zero_of _ a b B (closest_half a b B) t (λ g. closest_even a b 0 B g (t ∙ omega arith))

-- ---- two numbers at most a half away are neighbours, and one of them lies between bounds of a / b
half_next : (q w a b : ℕ) → 0 < b → q < w → gap (q * b) a * 2 ≤ b → gap (w * b) a * 2 ≤ b
    → w ≡ suc q
half_next q w a b B l h g =
    le_antisymm (le_of_suc-le-suc (lt_of_mul-lt-mul_right b (omega arith))) l

half_odd : (q w a b : ℕ) → 0 < b → (w ≡ q → ⊥) → gap (q * b) a * 2 ≤ b → gap (w * b) a * 2 ≤ b
    → q % 2 ≡ 0 → w % 2 ≡ 1
half_odd q w a b B d h g e = elim (dec_le w q) [
  | yes l ↦ omega (arith, half_next w q a b B (lt_of_le-ne l d) g h)
  | no l ↦ omega (arith, half_next q w a b B (lt_of_not-le l) h g)
]

half_least : (w a b t : ℕ) → 0 < b → gap (w * b) a * 2 ≤ b → t * b ≤ a → t ≤ w
half_least w a b t B h l = le_of_suc-le-suc (lt_of_mul-lt-mul_right b (omega arith))

half_most : (w a b t : ℕ) → 0 < b → gap (w * b) a * 2 ≤ b → a < t * b → w ≤ t
half_most w a b t B h l = le_of_suc-le-suc (lt_of_mul-lt-mul_right b (omega arith))

-- ---- of the numbers q * 2 ^ k with a q of p digits, the library keeps the one nearest to n / c
digits : (p n d : ℕ) → n / (d * 2 ^ drop p n d) < 2 ^ p
digits p n d = rw div-div-eq-div-mul at (kept-lt p (n / d))

pub kept_le : (p n d : ℕ) → kept p n d ≤ 2 ^ p
kept_le p n d =
    let u = d * 2 ^ drop p n d in le_trans (nearest-le _ (compare (n % u * 2) u)) (digits p n d)

module _ (p n c : ℕ) (P : 0 < p) (C : 0 < c) where
  abbrev k : ℕ
  k = drop p n c

  abbrev u : ℕ
  u = c * 2 ^ k

  in_steps : (w : ℕ) → w * 2 ^ k * c ≡ w * u
  in_steps w = omega arith

  -- where digits are dropped n / c has p digits before the point, counted in steps of 2 ^ k
  leading : 0 < k → 2 ^ (p - 1) * u ≤ n
  leading K =
      let w = n / c in
      let a : 2 ^ (p - 1) * 2 ^ k ≤ w = rw (← pow-add) (size_reaches w _ (omega arith)) in
      rw (← in_steps (2 ^ (p - 1))) ((le-div_iff_mul-le C).0 a)

  -- For each such number there is a multiple of 2 ^ k that is no further from n / c, and as far
  -- only where it is the number itself: what is finer than 2 ^ k lies below 2 ^ (p - 1) * 2 ^ k.
  Step : ℕ → Type 0
  Step y =
      (w : ℕ) × (gap (w * u) n ≤ gap (y * c) n) × (gap (w * u) n ≡ gap (y * c) n → y ≡ w * 2 ^ k)

  step : (v j : ℕ) → v < 2 ^ p → Step (v * 2 ^ j)
  unfolding Step
  step v j small = elim (dec_le k j) [
    | yes h ↦
        let w = v * 2 ^ (j - k) in
        let e : v * 2 ^ j ≡ w * 2 ^ k = rw (mul_assoc, ← pow-add, back j k h) in
        let g : v * 2 ^ j * c ≡ w * u = ap (◌* c) e ∙ in_steps w in
        (w, rw g (le_refl _), λ _. e)
    | no h ↦
        let f : j < k = lt_of_not-le h in
        let b = 2 ^ (p - 1) in
        let l : v * 2 ^ j < 2 ^ (p - 1) * 2 ^ k =
        rw (← pow-add) (lt_of_lt_of_le (shl_lt p j small) (pow_mono (omega arith))) in
        let m : v * 2 ^ j * c < b * u = rw (← in_steps b) (mul-lt-mul_of_pos_right l C) in
        let t : b * u ≤ n = leading (omega arith) in
        let l = nearer (b * u) _ t m in
        (b, le_of_lt l, λ s. absurd (ne_of_lt l s))
  ]
    where
      nearer : (x y : ℕ) → x ≤ n → y < x → gap x n < gap y n
      nearer x y t m = omega arith

  abbrev q : ℕ
  q = kept p n c

  positive : 0 < u
  positive = mul-pos C (pow_pos k)

  module _ (v j : ℕ) (small : v < 2 ^ p) where
    pub grid_nearest : gap (q * u) n ≤ gap (v * 2 ^ j * c) n
    unfolding Step
    grid_nearest =
        let s = step v j small in le_trans (closest_nearest n u s.0 positive) s.1

    module _ (d : v * 2 ^ j ≡ q * 2 ^ k → ⊥) (t : gap (q * u) n ≡ gap (v * 2 ^ j * c) n) where
      other : (w : ℕ) × (v * 2 ^ j ≡ w * 2 ^ k) × (w ≡ q → ⊥) × (gap (q * u) n ≡ gap (w * u) n)
      unfolding Step
      other =
          let s = step v j small in
          let l = closest_nearest n u s.0 positive in
          let e = le_antisymm s.1 (rw t at l) in
          (s.0, s.2 e, λ h. d (s.2 e ∙ ap (◌* 2 ^ k) h), t ∙ sym e)

      pub grid_even : q % 2 ≡ 0
      grid_even = closest_even n u other.0 positive other.2 other.3

      -- another number as near is the next multiple of 2 ^ k, up or down, an odd one
      pub grid_neighbour : (w : ℕ) × (v * 2 ^ j ≡ w * 2 ^ k) × (w % 2 ≡ 1) × (w ≤ 2 ^ p)
          × (0 < k → 2 ^ (p - 1) ≤ w)
      grid_neighbour =
          let w = other.0 in
          let mine = closest_half n u positive in
          let its = rw other.3 at mine in (
            w,
            other.1,
            half_odd q w n u positive other.2 mine its grid_even,
            half_most w n u _ positive its ((div-lt_iff_lt-mul positive).0 (digits p n c)),
            λ K. half_least w n u _ positive its (leading K),
          )
