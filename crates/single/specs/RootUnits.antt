-- The root of n units as a float, `root_of_units n`: powers of two around it, and its value where n
-- has 24 digits at most, followed by zeros.
use Rattle.std.specs.Prelude.{◌≡◌, ℕ, suc, ◌+◌, ◌-◌, ◌*◌, ◌/◌, ◌^◌, ◌≤◌, ◌<◌, T, ltb, Float}
use Rattle.std.proofs.Common.{ap, ◌∙◌, le_trans, le_of_lt, le_of_suc-le-suc, lt_of_le_of_lt, lt_of_lt_of_le, lt_of_not-le, one-mul, le_antisymm, mul_assoc, mul-le-mul, mul-le-mul_left, mul-le-mul_right, pow-suc, arith, pow-add, pow_pos, pow_mono, shl_lt}
use Rattle.std.proofs.Math.Bool.{false}
use Rattle.std.proofs.Math.Nat.{mul-mul-mul_comm}
use Rattle.std.proofs.Math.Decide.{dec_le}
use Rattle.std.proofs.Math.Pow.{pow-lt}
use Rattle.std.specs.Float.{inf}
use Rattle.std.specs.Float.Ieee.{binary32, size, odd, units, fits}
use Rattle.std.specs.Float.Ieee.Digits.{size-lt, size_reaches, size-le, back}
use Rattle.std.specs.Float.Ieee.Fits.{odd-fits, cond-fits, inf-fits}
use Rattle.std.specs.Float.Ieee.Exact.{HasValue, units_val}
use Rattle.floats.specs.Unique.{value_unique}
use Rattle.floats.specs.Closest.{size_above}
use Rattle.single.specs.Root.{nearest_root, root_of_units}
use Rattle.single.specs.NearestRoot.{NearestRoot, square, square_of, nearest_root_unique}
use Rattle.single.specs.NearestRoot.{square_mono, nearest_root_is, nearest_root_least}
use Rattle.single.specs.NearestRoot.{nearest_root_most}

-- ---- powers of two and digits
pub even_power : (c k : ℕ) → 2 ^ (c + (k + k)) ≡ 2 ^ c * (2 ^ k * 2 ^ k)
even_power c k = pow-add 2 c (k + k) ∙ ap (λ (x : ℕ). 2 ^ c * x) (pow-add 2 k k)

-- 2 ^ t as a multiple of 2 ^ k
pub part : (t k : ℕ) → k ≤ t → 2 ^ (t - k) * 2 ^ k ≡ 2 ^ t
part t k h = rw (← pow-add 2 (t - k) k, back t k h)

part_square : (t k : ℕ) → k ≤ t → 2 ^ (t - k) * 2 ^ (t - k) * (2 ^ k * 2 ^ k) ≡ 2 ^ t * 2 ^ t
part_square t k h = rw (mul-mul-mul_comm (2 ^ (t - k)), part t k h)

-- ---- the root of n units
-- how many of its digits are dropped
abbrev pub dropped : ℕ → ℕ
dropped n = suc (size n) / 2 - 24

module _ (n : ℕ) where
  abbrev k : ℕ
  k = dropped n

  abbrev p : ℕ
  p = nearest_root n k

  below : n < 2 ^ 48 * (2 ^ k * 2 ^ k)
  below =
      let enough : size n ≤ 48 + (k + k) = omega arith in
      rw (← even_power 48 k) (lt_of_lt_of_le (size-lt n) (pow_mono enough))

  pub units_nearest : NearestRoot n k p
  units_nearest = nearest_root_is n k below

  up_to : (t : ℕ) → n ≤ 2 ^ t * 2 ^ t → p * 2 ^ k ≤ 2 ^ t
  up_to t h =
      let l : n < 2 ^ suc (t + t) =
      lt_of_le_of_lt h (rw (← pow-add 2 t t) (pow-lt {i = t + t} (omega arith))) in
      let s : size n ≤ suc (t + t) = size-le n (suc (t + t)) l in
      let kt : k ≤ t = omega arith in
      rw (part t k kt) at (mul-le-mul_right (2 ^ k)
      (nearest_root_most units_nearest (2 ^ (t - k)) (rw (part_square t k kt) h)))

  down_to : (t : ℕ) → 2 ^ t * 2 ^ t ≤ n → 2 ^ t ≤ p * 2 ^ k
  down_to t h = go (dec_le k t)
    where
      go : Dec (k ≤ t) → 2 ^ t ≤ p * 2 ^ k
      go (yes kt) =
          rw (part t k kt) at (mul-le-mul_right (2 ^ k)
          (nearest_root_least units_nearest (2 ^ (t - k)) (rw (part_square t k kt) h)))
      go (no f) =
          let tk : t < k = lt_of_not-le f in
          let s : 2 ^ (k + k) ≤ n = size_reaches n (k + k) (omega arith) in
          let one : 1 * 1 * (2 ^ k * 2 ^ k) ≤ n = rw (one-mul (2 ^ k * 2 ^ k), ← pow-add 2 k k) s in
          le_trans (pow_mono (le_of_lt tk))
          (rw one-mul at (mul-le-mul_right (2 ^ k) (nearest_root_least units_nearest 1 one)))

  in_range : (t : ℕ) → n ≤ 2 ^ t * 2 ^ t → t ≤ 276 → p * 2 ^ k < 2 ^ 277
  in_range t h s = lt_of_le_of_lt (up_to t h) (pow-lt {i = t} {j = 277} (omega arith))

  value : (t : ℕ) → n ≤ 2 ^ t * 2 ^ t → t ≤ 276
      → HasValue (root_of_units n) false (p * 2 ^ k) (2 ^ 149)
  unfolding root_of_units
  value t h s = units_val binary32 false p k (in_range t h s)

  -- the root of what lies between the squares of two powers lies between the powers
  pub root_most : (t : ℕ) → n ≤ 2 ^ t * 2 ^ t → t ≤ 276
      → (g : ℕ) × HasValue (root_of_units n) false g (2 ^ 149) × (g ≤ 2 ^ t)
  root_most t h s = (p * 2 ^ k, value t h s, up_to t h)

  pub root_between : (u t : ℕ) → 2 ^ u * 2 ^ u ≤ n → n ≤ 2 ^ t * 2 ^ t → t ≤ 276
      → (g : ℕ) × HasValue (root_of_units n) false g (2 ^ 149) × (2 ^ u ≤ g) × (g ≤ 2 ^ t)
  root_between u t l h s = (p * 2 ^ k, value t h s, down_to u l, up_to t h)

-- ---- the root of a number of 24 digits at most, followed by zeros
-- "The correctly rounded one of IEEE 754, stated over whole numbers by comparing squares": r is the
-- float of p * 2 ^ k units, and p is the root of n in steps of 2 ^ k, rounded to the nearest whole
-- number and to the even one at a tie. The step is that of the floats around the root, which has 24
-- digits before the point when it is counted in steps (`binade`), as p has.
pub record Rooted (n : ℕ) (r : Float) : Type 0 where
  pub k : ℕ
  pub p : ℕ
  pub fitting : T (fits binary32 r)
  pub value : HasValue r false (p * 2 ^ k) (2 ^ 149)
  pub digits : (2 ^ 23 ≤ p) × (p < 2 ^ 24)
  pub binade : (square k (2 ^ 23) ≤ n) × (n < square k (2 ^ 24))
  pub nearest : NearestRoot n k p

-- the binade leaves one k: without it the step could be twice as wide just below a power of four,
-- and r one of two floats
binade_most : (n i j : ℕ) → square i (2 ^ 23) ≤ n → n < square j (2 ^ 24) → i ≤ j
binade_most n i j l h = le_of_suc-le-suc (lt_of_not-le wider)
  where
    -- the step of i is at least twice that of j
    wider : suc j ≤ i → ⊥
    wider g =
        let t : 2 ^ 23 * 2 ^ suc j ≤ 2 ^ 23 * 2 ^ i = mul-le-mul_left (2 ^ 23) (pow_mono g) in
        let s : square (suc j) (2 ^ 23) ≤ square i (2 ^ 23) = mul-le-mul t t in
        omega (arith, rw (pow-suc 2 j) at s)

-- no two floats are the root of one n
pub rooted_unique : {n : ℕ} {r s : Float} → Rooted n r → Rooted n s → r ≡ s
rooted_unique {n} {r} {s} a b =
    let most : b.k ≤ a.k = binade_most n b.k a.k b.binade.0 a.binade.1 in
    let least : a.k ≤ b.k = binade_most n a.k b.k a.binade.0 b.binade.1 in
    let i : b.k ≡ a.k = le_antisymm most least in
    let q : a.p ≡ b.p =
    nearest_root_unique n a.k a.p b.p a.nearest (rw i at b.nearest) in
    value_unique binary32 r s false (a.p * 2 ^ a.k) (2 ^ 149) (pow_pos 149)
    a.fitting b.fitting a.value (rw (q, ← i) b.value)

pub units_fits : (q k : ℕ) → q < 2 ^ 24 → q * 2 ^ k < 2 ^ 277
    → T (fits binary32 (units binary32 false q k))
unfolding units
units_fits q k l h =
    cond-fits binary32 (ltb (q * 2 ^ k) (2 ^ 277)) (odd 25 false q k 149) (inf false)
    (odd-fits binary32 25 false q k (omega arith) (omega arith) h) (inf-fits binary32 false)

-- Nothing is carried into a 25th digit: of the numbers of 48 digits that end in 24 zeros, the
-- largest has its root nearer to 2 ^ 24 - 1.
no_carry : (n c d : ℕ) → n ≡ c * (2 ^ 24 * d) → n < 2 ^ 48 * d
    → (2 ^ 25 - 1) * (2 ^ 25 - 1) * d ≤ 4 * n → ⊥
no_carry n c d e h l =
    let t : c * (2 ^ 24 * d) ≤ (2 ^ 24 - 1) * (2 ^ 24 * d) =
    mul-le-mul_right (2 ^ 24 * d) (le_of_suc-le-suc (lt_of_not-le larger)) in
    omega arith
  where
    larger : 2 ^ 24 ≤ c → ⊥
    larger g = let s : 2 ^ 24 * (2 ^ 24 * d) ≤ c * (2 ^ 24 * d) = mul-le-mul_right (2 ^ 24 * d) g in
        omega arith

module _ (a j : ℕ) (least : 0 < a) (most : a < 2 ^ 24) (zeros : 46 ≤ j) where
  abbrev n : ℕ
  n = a * 2 ^ j

  abbrev d : ℕ
  d = 2 ^ k n * 2 ^ k n

  above : 2 ^ 46 * d ≤ n
  above =
      let l : 2 ^ j ≤ n = rw one-mul at (mul-le-mul_right (2 ^ j) least) in
      let s : 46 < size n = size_above n 46 (le_trans (pow_mono zeros) l) in
      rw (even_power 46 (k n)) at (size_reaches n (46 + (k n + k n)) (omega arith))

  p_least : 2 ^ 23 ≤ p n
  p_least = nearest_root_least (units_nearest n) (2 ^ 23) above

  p_most : p n < 2 ^ 24
  p_most = lt_of_not-le carry
    where
      carry : 2 ^ 24 ≤ p n → ⊥
      carry g = no_carry n (a * 2 ^ (j - w)) d multiple (below n) large
        where
          large : (2 ^ 25 - 1) * (2 ^ 25 - 1) * d ≤ 4 * n
          large = rw (← square_of (k n) (2 ^ 25 - 1))
              (le_trans (square_mono (k n) (omega arith)) (units_nearest n).low)

          w : ℕ
          w = 24 + (k n + k n)

          fewer : suc j ≤ w → ⊥
          fewer h =
              let t : n < 2 ^ 47 * d =
              rw (← even_power 47 (k n))
              (lt_of_lt_of_le (shl_lt 24 j most) (pow_mono (omega arith))) in
              omega (arith, large)

          multiple : n ≡ a * 2 ^ (j - w) * (2 ^ 24 * d)
          multiple =
              let enough = le_of_suc-le-suc (lt_of_not-le fewer) in
              rw (← even_power 24 (k n), mul_assoc a (2 ^ (j - w)), part j w enough)

  pub units_rooted : (t : ℕ) → n ≤ 2 ^ t * 2 ^ t → t ≤ 276 → Rooted n (root_of_units n)
  unfolding root_of_units
  units_rooted t h s = record {
    k = k n;
    p = p n;
    fitting = units_fits (p n) (k n) p_most (in_range n t h s);
    value = value n t h s;
    digits = (p_least, p_most);
    binade = (omega (arith, above), omega (arith, below n));
    nearest = units_nearest n;
  }
