-- The rounded root by squares alone. `NearestRoot n k p` says that p * 2 ^ k is nearest to the root
-- of n, p being even at a tie:
-- there is one such p, and `nearest_root n k` is it.
use Rattle.std.specs.Prelude.{◌≡◌, refl, ◌⊎◌, not, T, leb}
use Rattle.std.proofs.Common.{sym, ap, subst, inl, inr, le_trans, le_of_lt, le_of_eq, le_antisymm, lt_of_le_of_lt, lt_of_not-le, not-le_of_lt, le_of_suc-le-suc, mul-le-mul, mul-pos, mul-le-mul_left, mul-le-mul_right, mul-lt-mul_of_pos_right, div-lt_iff_lt-mul, div-mul-le_self, arith, leb→le, eqb→eq, pow_pos}
use Prim.Native.Nat.{
  ℕ,
  zero,
  suc,
  ◌+◌,
  ◌-◌,
  ◌*◌,
  ◌/◌,
  ◌%◌,
  ◌^◌,
  ◌≤◌,
  ◌<◌,
  compare,
  Ordering,
  zero-le,
}
use Rattle.std.proofs.Math.Nat.{mul-mul-mul_comm}
use Rattle.std.proofs.Math.Dec.{nleb→lt, is_le, compare_is_eq}
use Rattle.std.specs.Float.Ieee.{nearest}
use Rattle.std.specs.Float.Ieee.Fits.{eq→eqb}
use Rattle.lists.specs.Test.{by_test}
use Rattle.single.specs.Root.{root_digits, nearest_root}

-- the square of a * 2 ^ k
abbrev pub square : ℕ → ℕ → ℕ
square k a = a * 2 ^ k * (a * 2 ^ k)

-- Twice the root of n lies between (2 * p - 1) * 2 ^ k and (2 * p + 1) * 2 ^ k, and where it is
-- one of the two, p is even.
pub record NearestRoot (n k p : ℕ) : Type 0 where
  pub low : square k (2 * p - 1) ≤ 4 * n
  pub high : 4 * n ≤ square k (2 * p + 1)
  pub even : (4 * n ≡ square k (2 * p - 1)) ⊎ (4 * n ≡ square k (2 * p + 1)) → p % 2 ≡ 0

-- ---- squares and their order
pub square_of : (k a : ℕ) → square k a ≡ a * a * (2 ^ k * 2 ^ k)
square_of k a = mul-mul-mul_comm a (2 ^ k) a (2 ^ k)

square_double : (k a : ℕ) → square k (2 * a) ≡ 4 * (a * a * (2 ^ k * 2 ^ k))
square_double k a = omega arith

pub square_mono : (k : ℕ) {a b : ℕ} → a ≤ b → square k a ≤ square k b
square_mono k h = mul-le-mul (mul-le-mul_right (2 ^ k) h) (mul-le-mul_right (2 ^ k) h)

squares_lt : {a b : ℕ} → a < b → a * a < b * b
squares_lt {a} {b} h =
    lt_of_le_of_lt (mul-le-mul_left a (le_of_lt h))
    (mul-lt-mul_of_pos_right h (lt_of_le_of_lt zero-le h))

square_le : (k a b : ℕ) → square k a ≤ square k b → a ≤ b
square_le k a b h =
    le_of_suc-le-suc
    (lt_of_not-le
    (λ (g : suc b ≤ a). not-le_of_lt (squares_lt (mul-lt-mul_of_pos_right g (pow_pos k))) h))

-- ---- the digits' root is the largest number whose square is at most n
abbrev WholeRoot : ℕ → ℕ → Type 0
WholeRoot n q = (q * q ≤ n) × (n < (q + 1) * (q + 1))

digits_are : (d r n : ℕ) → r * r ≤ n → n < (r + 2 ^ d) * (r + 2 ^ d)
    → WholeRoot n (root_digits d r n)
unfolding root_digits
digits_are zero r n a b = (a, b)
digits_are (suc d) r n a b =
    let double : r + 2 ^ suc d ≡ r + 2 ^ d + 2 ^ d = omega arith in
    by_test (leb ((r + 2 ^ d) * (r + 2 ^ d)) n)
    (λ e. rw e (digits_are d (r + 2 ^ d) n (leb→le _ _ (rw e tt)) (rw double at b)))
    (λ e. rw e (digits_are d r n a (nleb→lt _ _ (rw e tt))))

-- ---- of q and q + 1, between which the root lies, the nearer one
module _ (n k q : ℕ) (low : square k (2 * q) ≤ 4 * n) (high : 4 * n < square k (2 * q + 2)) where
  stays : 4 * n ≤ square k (2 * q + 1) → (4 * n ≡ square k (2 * q + 1) → q % 2 ≡ 0)
      → NearestRoot n k q
  stays h tie = record {
    low = le_trans (square_mono k (omega arith)) low;
    high = h;
    even = elim [
      | inl e ↦ omega (arith, square_le k (2 * q) (2 * q - 1) (le_trans low (le_of_eq e)))
      | inr e ↦ tie e
    ];
  }

  rises : square k (2 * q + 1) ≤ 4 * n → (4 * n ≡ square k (2 * q + 1) → suc q % 2 ≡ 0)
      → NearestRoot n k (suc q)
  rises h tie =
      let odd : 2 * suc q - 1 ≡ 2 * q + 1 = omega arith in
      let next : square k (2 * q + 2) ≤ square k (2 * suc q + 1) = square_mono k (omega arith) in
      record {
        low = rw odd h;
        high = le_trans (le_of_lt high) next;
        even = elim [
          | inl e ↦ tie (rw odd at e)
          | inr e ↦ absurd (not-le_of_lt high (le_trans next (le_of_eq (sym e))))
        ];
      }

  at_tie : (r : ℕ) → q % 2 ≡ r → 4 * n ≡ square k (2 * q + 1) → NearestRoot n k (q + r)
  at_tie zero e t = subst (NearestRoot n k) (omega arith) (stays (le_of_eq t) (λ _. e))
  at_tie (suc zero) e t =
      subst (NearestRoot n k) (omega arith) (rises (le_of_eq (sym t)) (λ _. omega arith))
  at_tie (suc (suc r)) e t = absurd (omega arith)

  nearer : NearestRoot n k (nearest q (compare (4 * n) (square k (2 * q + 1))))
  nearer = go (compare (4 * n) half) (leb→le (4 * n) half) (nleb→lt (4 * n) half)
      (eqb→eq (4 * n) half) eq→eqb
    where
      half : ℕ
      half = square k (2 * q + 1)

      go : (o : Ordering)
          → (T (is_le o) → 4 * n ≤ half)
          → (T (not (is_le o)) → half < 4 * n)
          → (T (compare_is_eq o) → 4 * n ≡ half)
          → (4 * n ≡ half → T (compare_is_eq o))
          → NearestRoot n k (nearest q o)
      go Ordering.lt le gt same tie = stays (le tt) (λ e. absurd (tie e))
      go Ordering.eq le gt same tie = at_tie (q % 2) refl (same tt)
      go Ordering.gt le gt same tie = rises (le_of_lt (gt tt)) (λ e. absurd (tie e))

nearest_root_at : (n k q : ℕ) → q ≡ root_digits 24 0 (n / (2 ^ k * 2 ^ k))
    → nearest_root n k ≡ nearest q (compare (4 * n) (square k (2 * q + 1)))
unfolding nearest_root
nearest_root_at n k q e = ap (λ (q : ℕ). nearest q (compare (4 * n) (square k (2 * q + 1)))) (sym e)

pub nearest_root_is : (n k : ℕ) → n < 2 ^ 48 * (2 ^ k * 2 ^ k) → NearestRoot n k (nearest_root n k)
nearest_root_is n k h =
    subst (NearestRoot n k) (sym (nearest_root_at n k q refl)) (nearer n k q low high)
  where
    unit : ℕ
    unit = 2 ^ k * 2 ^ k

    positive : 0 < unit
    positive = mul-pos (pow_pos k) (pow_pos k)

    q : ℕ
    q = root_digits 24 0 (n / unit)

    root : WholeRoot (n / unit) q
    root = digits_are 24 0 (n / unit) zero-le ((div-lt_iff_lt-mul positive).1 h)

    low : square k (2 * q) ≤ 4 * n
    low = rw (square_double k q)
        (mul-le-mul_left 4 (le_trans (mul-le-mul_right unit root.0) (div-mul-le_self n unit)))

    high : 4 * n < square k (2 * q + 2)
    high = omega (arith, (div-lt_iff_lt-mul positive).0 root.1)

-- ---- there is one
module _ (n k : ℕ) where
  not_above : (p q : ℕ) → NearestRoot n k p → NearestRoot n k q → p ≤ q
  not_above p q a b = le_of_suc-le-suc (lt_of_not-le go)
    where
      go : suc q ≤ p → ⊥
      go h =
          let next : p ≡ suc q =
          omega (arith, square_le k (2 * p - 1) (2 * q + 1) (le_trans a.low b.high)) in
          let same : 2 * p - 1 ≡ 2 * q + 1 = omega arith in
          let x : p % 2 ≡ 0 = a.even (inl (le_antisymm (rw same b.high) a.low)) in
          let y : q % 2 ≡ 0 = b.even (inr (le_antisymm b.high (rw same at a.low))) in
          omega arith

  pub nearest_root_unique : (p q : ℕ) → NearestRoot n k p → NearestRoot n k q → p ≡ q
  nearest_root_unique p q a b = le_antisymm (not_above p q a b) (not_above q p b a)

-- ---- it keeps the order: a whole multiple of 2 ^ k that is not above the root is not above its
-- nearest, and the same below
pub nearest_root_least : {n k p : ℕ} → NearestRoot n k p → (a : ℕ) → a * a * (2 ^ k * 2 ^ k) ≤ n
    → a ≤ p
nearest_root_least {n} {k} {p} r a h =
    let s : square k (2 * a) ≤ 4 * n = rw (square_double k a) (mul-le-mul_left 4 h) in
    omega (arith, square_le k (2 * a) (2 * p + 1) (le_trans s r.high))

pub nearest_root_most : {n k p : ℕ} → NearestRoot n k p → (a : ℕ) → n ≤ a * a * (2 ^ k * 2 ^ k)
    → p ≤ a
nearest_root_most {n} {k} {p} r a h =
    let s : 4 * n ≤ square k (2 * a) = rw (square_double k a) (mul-le-mul_left 4 h) in
    omega (arith, square_le k (2 * p - 1) (2 * a) (le_trans r.low s))
