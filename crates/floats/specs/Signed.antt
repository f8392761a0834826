-- Signed fractions (p - n) / c of natural numbers, c above zero: their order, also up to a slack i
-- / k, and their sums, products and quotients.
-- Nothing here is about floats.
use Rattle.std.specs.Prelude.{◌≡◌, ℕ, ◌+◌, ◌*◌, ◌≤◌, ◌<◌}
use Rattle.std.proofs.Common.{ap, le_trans, add-zero, zero-add, mul_comm, mul_assoc, mul_left_comm, mul-add, add-mul, mul-le-mul_left, mul-le-mul_right, le_of_mul-le-mul_right, arith}

-- A sum of products, multiplied out and sorted, for where omega's own multiplying out meets its
-- bound: `simp poly at h`, `simp poly (omega arith)`.
pub ruleset poly = (mul_assoc, mul_comm, mul_left_comm, mul-add, add-mul)

-- (p - n) / c ≤ (q - m) / d
abbrev pub Le : ℕ → ℕ → ℕ → ℕ → ℕ → ℕ → Type 0
Le p n c q m d = p * d + m * c ≤ q * c + n * d

-- (p - n) / c < (q - m) / d
abbrev pub Lt : ℕ → ℕ → ℕ → ℕ → ℕ → ℕ → Type 0
Lt p n c q m d = p * d + m * c < q * c + n * d

-- (p - n) / c = (q - m) / d
abbrev pub Equal : ℕ → ℕ → ℕ → ℕ → ℕ → ℕ → Type 0
Equal p n c q m d = p * d + m * c ≡ q * c + n * d

-- (p - n) / c ≤ (q - m) / d + i / k
abbrev pub Up : ℕ → ℕ → ℕ → ℕ → ℕ → ℕ → ℕ → ℕ → Type 0
Up i k p n c q m d = k * (p * d + m * c) ≤ k * (q * c + n * d) + i * (c * d)

-- both ways: the two are no further apart than i / k
abbrev pub Near : ℕ → ℕ → ℕ → ℕ → ℕ → ℕ → ℕ → ℕ → Type 0
Near i k p n c q m d = Up i k p n c q m d × Up i k q m d p n c

-- ---- chains
pub le_through : (p n c q m d r l e : ℕ) → 0 < d → Le p n c q m d → Le q m d r l e → Le p n c r l e
le_through p n c q m d r l e D h k =
    le_of_mul-le-mul_right {k = d} (omega (arith, mul-le-mul_right e h, mul-le-mul_right c k)) D

pub le→up : (i k p n c q m d : ℕ) → Le p n c q m d → Up i k p n c q m d
le→up i k p n c q m d h = le_trans (mul-le-mul_left k h) (omega arith)

-- the slacks of a chain add up
pub up_through : (i j k p n c q m d r l e : ℕ) → 0 < d → Up i k p n c q m d → Up j k q m d r l e
    → Up (i + j) k p n c r l e
up_through i j k p n c q m d r l e D h g =
    let first = simp poly at (mul-le-mul_right e h) in
    let second = simp poly at (mul-le-mul_right c g) in
    le_of_mul-le-mul_right {m = k * (p * e + l * c)} {n = k * (r * c + n * e) + (i + j) * (c * e)}
    {k = d} (simp poly (omega arith)) D

pub le_up : (i k p n c q m d r l e : ℕ) → 0 < d → Le p n c q m d → Up i k q m d r l e
    → Up i k p n c r l e
le_up i k p n c q m d r l e D h g =
    rw zero-add at (up_through 0 i k p n c q m d r l e D (le→up 0 k p n c q m d h) g)

pub up_le : (i k p n c q m d r l e : ℕ) → 0 < d → Up i k p n c q m d → Le q m d r l e
    → Up i k p n c r l e
up_le i k p n c q m d r l e D h g =
    rw add-zero at (up_through i 0 k p n c q m d r l e D h (le→up 0 k q m d r l e g))

-- ---- both signs changed, and a larger slack
pub up_flip : (i k p n c q m d : ℕ) → Up i k p n c q m d → Up i k m q d n p c
up_flip i k p n c q m d h = simp poly (omega (arith, simp poly at h))

pub near_flip : (i k p n c q m d : ℕ) → Near i k p n c q m d → Near i k n p c m q d
near_flip i k p n c q m d h = (up_flip i k q m d p n c h.1, up_flip i k p n c q m d h.0)

pub up_more : (i j k p n c q m d : ℕ) → i ≤ j → Up i k p n c q m d → Up j k p n c q m d
up_more i j k p n c q m d l h = le_trans h (omega (arith, mul-le-mul_right (c * d) l))

-- ---- sums, products and quotients: only the values of their operands count
module _ (a b c e f g p n d q m h : ℕ) (x : Equal a b c p n d) (y : Equal e f g q m h) where
  pub sum_same : Equal (a * g + e * c) (b * g + f * c) (c * g) (p * h + q * d) (n * h + m * d)
      (d * h)
  sum_same =
      let first = simp poly at (ap (◌* (g * h)) x) in
      let second = simp poly at (ap (◌* (c * d)) y) in
      simp poly (omega arith)

  pub product_same : Equal (a * e + b * f) (a * f + b * e) (c * g) (p * q + n * m) (p * m + n * q)
      (d * h)
  product_same =
      let x₁ = simp poly at (ap (◌* (e * h)) x) in
      let x₂ = simp poly at (ap (◌* (f * h)) x) in
      let y₁ = simp poly at (ap (◌* (p * c)) y) in
      let y₂ = simp poly at (ap (◌* (n * c)) y) in
      simp poly (omega arith)

-- by e / g = q / h
pub quotient_same : (a b c e g p n d q h : ℕ) → Equal a b c p n d → e * h ≡ q * g
    → Equal (a * g) (b * g) (e * c) (p * h) (n * h) (d * q)
quotient_same a b c e g p n d q h x y =
    let first = simp poly at (ap (◌* (q * g)) x) in
    let y₁ = simp poly at (ap (◌* (n * c)) y) in
    let y₂ = simp poly at (ap (◌* (p * c)) y) in
    simp poly (omega arith)

-- a sum grows with each term
pub sum_le : (a b c e f g p n d q m h : ℕ) → Le a b c p n d → Le e f g q m h
    → Le (a * g + e * c) (b * g + f * c) (c * g) (p * h + q * d) (n * h + m * d) (d * h)
sum_le a b c e f g p n d q m h x y =
    let first = simp poly at (mul-le-mul_right (g * h) x) in
    let second = simp poly at (mul-le-mul_right (c * d) y) in
    simp poly (omega arith)
