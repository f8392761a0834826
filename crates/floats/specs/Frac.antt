-- Signed fractions as records: their sums and products, how far apart two of them are, how
-- large one is. Sums and products of fractions that are near each other are near each other.
-- Nothing here is about floats.
use Rattle.std.specs.Prelude.{◌⊎◌, ℕ, ◌+◌, ◌-◌, ◌*◌, ◌≤◌, ◌<◌}
use Rattle.std.proofs.Common.{inl, inr, le_trans, le_of_lt, lt_of_not-le, add_comm, mul_comm, add-sub_of_le, mul-pos, mul-le-mul_left, mul-le-mul_right, le_of_mul-le-mul_right, arith}
use Rattle.std.proofs.Math.Decide.{dec_le}
use Rattle.floats.specs.Signed.{Le, Up, poly, up_through, le_up, up_le, up_flip, near_flip}
use Rattle.floats.specs.Signed.{up_more}

-- (p - n) / c
pub record Frac : Type 0 where
  pub p : ℕ
  pub n : ℕ
  pub c : ℕ

abbrev pub frac : ℕ → ℕ → ℕ → Frac
frac p n c = record { p = p; n = n; c = c }

-- the denominator is above zero
abbrev pub Ok : Frac → Type 0
Ok x = 0 < x.c

abbrev pub opposite : Frac → Frac
opposite x = record { p = x.n; n = x.p; c = x.c }

abbrev pub plus : Frac → Frac → Frac
plus x y = record { p = x.p * y.c + y.p * x.c; n = x.n * y.c + y.n * x.c; c = x.c * y.c }

abbrev pub minus : Frac → Frac → Frac
minus x y = plus x (opposite y)

abbrev pub times : Frac → Frac → Frac
times x y = record { p = x.p * y.p + x.n * y.n; n = x.p * y.n + x.n * y.p; c = x.c * y.c }

-- x ≤ y
abbrev pub Below : Frac → Frac → Type 0
Below x y = Le x.p x.n x.c y.p y.n y.c

-- x ≤ y + i / k
abbrev pub Upto : ℕ → ℕ → Frac → Frac → Type 0
Upto i k x y = Up i k x.p x.n x.c y.p y.n y.c

-- |x - y| ≤ i / k
abbrev pub Close : ℕ → ℕ → Frac → Frac → Type 0
Close i k x y = Upto i k x y × Upto i k y x

-- |x| ≤ b
abbrev pub Size : ℕ → Frac → Type 0
Size b x = (x.p ≤ x.n + b * x.c) × (x.n ≤ x.p + b * x.c)

-- i * |x| ≤ j
abbrev pub Sized : ℕ → ℕ → Frac → Type 0
Sized i j x = (i * x.p ≤ i * x.n + j * x.c) × (i * x.n ≤ i * x.p + j * x.c)

-- ---- the sign of p - n
pub total : (a b : ℕ) → (a ≤ b) ⊎ (b ≤ a)
total a b = elim (dec_le a b) [ yes h ↦ inl h | no h ↦ inr (le_of_lt (lt_of_not-le h)) ]

-- what holds where it is a, and where it is -a, holds
pub by_sign : (P : ℕ → ℕ → Type 0) → ((n a : ℕ) → P (n + a) n) → ((p a : ℕ) → P p (p + a))
    → (p n : ℕ) → P p n
by_sign P above below p n =
    elim (total n p) [
      | inl h ↦ rw (add-sub_of_le h) at (above n (p - n))
      | inr h ↦ rw (add-sub_of_le h) at (below p (n - p))
    ]

-- ---- chains
pub close_more : (i j k : ℕ) (x y : Frac) → i ≤ j → Close i k x y → Close j k x y
close_more i j k x y l h = (up_more i j k _ _ _ _ _ _ l h.0, up_more i j k _ _ _ _ _ _ l h.1)

pub close_through : (i j k : ℕ) (x y z : Frac) → Ok y → Close i k x y → Close j k y z
    → Close (i + j) k x z
close_through i j k x y z Y h g = (
  up_through i j k _ _ _ _ _ _ _ _ _ Y h.0 g.0,
  rw (add_comm i j) (up_through j i k _ _ _ _ _ _ _ _ _ Y g.1 h.1),
)

-- a fraction of the same value in the place of y
pub close_same : (i k : ℕ) (x y z : Frac) → Ok y → Close i k x y → Below y z → Below z y
    → Close i k x z
close_same i k x y z Y h a b =
    (up_le i k _ _ _ _ _ _ _ _ _ Y h.0 a, le_up i k _ _ _ _ _ _ _ _ _ Y b h.1)

-- g * i / (g * k) is i / k
upto_cut : (g i k : ℕ) (x y : Frac) → 0 < g → Upto (g * i) (g * k) x y → Upto i k x y
upto_cut g i k x y G h =
    let a = x.p * y.c + y.n * x.c in
    let b = y.p * x.c + x.n * y.c in
    le_of_mul-le-mul_right {m = k * a} {n = k * b + i * (x.c * y.c)} {k = g} (omega arith) G

pub close_cut : (g i k : ℕ) (x y : Frac) → 0 < g → Close (g * i) (g * k) x y → Close i k x y
close_cut g i k x y G h = (upto_cut g i k x y G h.0, upto_cut g i k y x G h.1)

-- ---- sums and differences
upto_plus : (i j k : ℕ) (x z y w : Frac) → Upto i k x z → Upto j k y w
    → Upto (i + j) k (plus x y) (plus z w)
upto_plus i j k x z y w h g =
    let first = simp poly at (mul-le-mul_right (y.c * w.c) h) in
    let second = simp poly at (mul-le-mul_right (x.c * z.c) g) in
    simp poly (omega arith)

pub close_plus : (i j k : ℕ) (x z y w : Frac) → Close i k x z → Close j k y w
    → Close (i + j) k (plus x y) (plus z w)
close_plus i j k x z y w h g =
    (upto_plus i j k x z y w h.0 g.0, upto_plus i j k z x w y h.1 g.1)

pub close_minus : (i j k : ℕ) (x z y w : Frac) → Close i k x z → Close j k y w
    → Close (i + j) k (minus x y) (minus z w)
close_minus i j k x z y w h g =
    close_plus i j k x z (opposite y) (opposite w) h (near_flip j k _ _ _ _ _ _ g)

-- ---- products
-- x ≤ y + i / k, times a / e, which is (n + a - n) / e
upto_times : (i j k e n a : ℕ) (x y : Frac) → i * a ≤ j * e → Upto i k x y
    → Up j k (x.p * (n + a) + x.n * n) (x.p * n + x.n * (n + a)) (x.c * e)
    (y.p * (n + a) + y.n * n) (y.p * n + y.n * (n + a)) (y.c * e)
upto_times i j k e n a x y s h =
    let near = simp poly at (mul-le-mul_right (a * e) h) in
    let slack = simp poly at (mul-le-mul_right (x.c * y.c * e) s) in
    simp poly (omega arith)

-- what is i / k apart is j / k apart, times an r with i * |r| ≤ j
pub close_times_by : (i j k : ℕ) (r x y : Frac) → Sized i j r → Close i k x y
    → Close j k (times x r) (times y r)
close_times_by i j k r x y s h = (
  go x y h.0 h.1 _ _ s.0 s.1,
  go y x h.1 h.0 _ _ s.0 s.1,
)
  where
    go : (x y : Frac) → Upto i k x y → Upto i k y x → (p n : ℕ) → i * p ≤ i * n + j * r.c
        → i * n ≤ i * p + j * r.c
        → Upto j k (times x (frac p n r.c)) (times y (frac p n r.c))
    go x y h g =
        by_sign _ (λ n a u v. upto_times i j k _ n a x y (omega arith) h)
        (λ p a u v. up_flip j k _ _ _ _ _ _ (upto_times i j k _ p a y x (omega arith) g))

-- |r| ≤ b gives i * |r| ≤ i * b
pub size→sized : (i b : ℕ) (r : Frac) → Size b r → Sized i (i * b) r
size→sized i b r h = omega (arith, mul-le-mul_left i h.0, mul-le-mul_left i h.1)

pub close_times_right : (i k b : ℕ) (r x y : Frac) → Size b r → Close i k x y
    → Close (b * i) k (times x r) (times y r)
close_times_right i k b r x y s h =
    close_times_by i (b * i) k r x y (rw (mul_comm b i) (size→sized i b r s)) h

pub close_times_left : (i k b : ℕ) (r x y : Frac) → Size b r → Close i k x y
    → Close (b * i) k (times r x) (times r y)
close_times_left i k b r x y s h =
    let t = close_times_right i k b r x y s h in
    (simp poly (omega (arith, simp poly at t.0)), simp poly (omega (arith, simp poly at t.1)))

-- two products: |x y - z w| ≤ |x - z| |y| + |z| |y - w|
pub close_times : (i j k b a : ℕ) (x z y w : Frac) → Ok z → Ok y → Size b y → Size a z
    → Close i k x z → Close j k y w
    → Close (b * i + a * j) k (times x y) (times z w)
close_times i j k b a x z y w Z Y s t h g =
    close_through (b * i) (a * j) k _ _ _ (mul-pos Z Y) (close_times_right i k b y x z s h)
    (close_times_left j k a z y w t g)

-- ---- sizes
pub size_plus : (a b : ℕ) (x y : Frac) → Size a x → Size b y → Size (a + b) (plus x y)
size_plus a b x y h g =
    omega (
      arith,
      mul-le-mul_right y.c h.0,
      mul-le-mul_right y.c h.1,
      mul-le-mul_right x.c g.0,
      mul-le-mul_right x.c g.1,
    )

-- u ≤ a * e and a * w ≤ b * d give u / e * w / d ≤ b
part : (a b e d u w : ℕ) → u ≤ a * e → a * w ≤ b * d → u * w ≤ b * (e * d)
part a b e d u w h g = le_trans (mul-le-mul_right w h) (omega (arith, mul-le-mul_right e g))

-- (p - n) * (q - m) ≤ k
abbrev Product : ℕ → ℕ → ℕ → ℕ → ℕ → Type 0
Product p n q m k = p * q + n * m ≤ p * m + n * q + k

-- |p - n| / e ≤ a and a * |q - m| / d ≤ b give (p - n) / e * (q - m) / d ≤ b
product_above : (a b e d n u : ℕ) → u ≤ a * e → (q m : ℕ) → a * q ≤ a * m + b * d
    → a * m ≤ a * q + b * d → Product (n + u) n q m (b * (e * d))
product_above a b e d n u h =
    by_sign _ (λ m w g i. omega (arith, part a b e d u w h (omega arith))) (λ q w g i. omega arith)

product_most : (a b e d q m : ℕ) → a * q ≤ a * m + b * d → a * m ≤ a * q + b * d
    → (p n : ℕ) → p ≤ n + a * e → n ≤ p + a * e → Product p n q m (b * (e * d))
product_most a b e d q m g i =
    by_sign _ (λ n u h k. product_above a b e d n u (omega arith) q m g i)
    (λ p u h k. omega (arith, product_above a b e d p u (omega arith) m q i g))

-- |x| ≤ a and a * |y| ≤ b give |x * y| ≤ b
pub size_times_by : (a b : ℕ) (x y : Frac) → Size a x → Sized a b y → Size b (times x y)
size_times_by a b x y h g = (
  product_most a b _ _ _ _ g.0 g.1 _ _ h.0 h.1,
  product_most a b _ _ _ _ g.1 g.0 _ _ h.0 h.1,
)

pub size_times : (a b : ℕ) (x y : Frac) → Size a x → Size b y → Size (a * b) (times x y)
size_times a b x y h g = size_times_by a (a * b) x y h (size→sized a b y g)

-- ---- the size of what is near: h * |y| ≤ b, and x within i / k of y with h * i
-- ≤ k, give h * |x| ≤ b + 1
sized_next : (h b i k : ℕ) (x y : Frac) → 0 < k → Ok y → h * i ≤ k → h * y.p ≤ h * y.n + b * y.c
    → Upto i k x y
    → h * x.p ≤ h * x.n + (b + 1) * x.c
sized_next h b i k x y K Y l s u =
    let size = simp poly at (mul-le-mul_left (k * x.c) s) in
    let near = simp poly at (mul-le-mul_left h u) in
    let slack = simp poly at (mul-le-mul_right (x.c * y.c) l) in
    le_of_mul-le-mul_right {m = h * x.p} {n = h * x.n + (b + 1) * x.c} {k = k * y.c}
    (simp poly (omega arith)) (mul-pos K Y)

pub sized_close : (h b i k : ℕ) (x y : Frac) → 0 < k → Ok y → h * i ≤ k → Sized h b y
    → Close i k x y → Sized h (b + 1) x
sized_close h b i k x y K Y l s g = (
  sized_next h b i k x y K Y l s.0 g.0,
  sized_next h b i k (opposite x) (opposite y) K Y l s.1 (up_flip i k _ _ _ _ _ _ g.1),
)

-- what is near something of size b, within 1, is of size b + 1
pub size_close : (i k b : ℕ) (x y : Frac) → 0 < k → Ok y → i ≤ k → Size b y → Close i k x y
    → Size (b + 1) x
size_close i k b x y K Y l s h =
    let t = sized_close 1 b i k x y K Y (omega arith) (omega arith) h in
    omega arith
