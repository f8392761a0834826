-- The Thomas solve of the splines' systems does not overflow. On the diagonal a row of an inner
-- knot has twice the sum of what is beside it, so a swept row has the bound of the one before it.
-- Only the last row may be larger, once. Segments are less than 256 wide.
use Rattle.std.specs.Prelude.{◌≡◌, Float}
use Prim.Native.Nat.{ℕ, zero, suc, ◌+◌, ◌-◌, ◌*◌, ◌/◌, ◌^◌, ◌≤◌, ◌<◌}
use Rattle.std.proofs.Math.Decide.{ℕ_discrete}
use Rattle.std.proofs.Common.{le_trans, ne_of_gt, mul-le-mul, mul-le-mul_left, le_of_mul-le-mul_right, lt_of_mul-lt-mul_right, div-mul-le_self, arith, ne_eqb, lit<, lit≤, pow_pos}
use Rattle.std.proofs.Math.Nat.{mul-le-mul_right, lt-div-mul-add}
use Rattle.std.proofs.Math.Pow.{pow_mono}
use Rattle.std.specs.Float.Ieee.{binary32, lt}
use Rattle.floats.specs.Value.{Is, absolute}
use Rattle.floats.specs.Exact.{rep_dyadic, rep_whole, rep_times}
use Rattle.floats.specs.Bound.{
  AtMost,
  AtLeast,
  at_most_more,
  at_most_cond,
  at_most_mul,
  at_most_div,
}
use Rattle.floats.specs.Bound.{whole_most, whole_least, mul_most, sub_most, sub_least}
use Rattle.single.specs.Constants.{𝟎, 𝟏, pico, 𝟎-is, 𝟏-is}
use Rattle.single.specs.Rules.{guarded_quotient}
use Rattle.spline.specs.declared.thomas.Row.{Row}
use Rattle.spline.specs.declared.thomas.Swept.{Swept}
use Rattle.spline.specs.Thomas.{inverse, scaled, sweep, swept_row, backward, substituted, solution}

-- a swept row that cannot grow
pub record Steady (s : Swept) : Type 0 where
  pub above : AtMost 1 1 s.above
  pub right : AtMost (2 ^ 42) 1 s.right

-- the last row's right-hand side may be larger, once
pub record Bounded (s : Swept) : Type 0 where
  pub above : AtMost 1 1 s.above
  pub right : AtMost (2 ^ 58) 1 s.right

pub steady_bounded : {s : Swept} → Steady s → Bounded s
steady_bounded h =
    record { above = h.above; right = at_most_more (2 ^ 58) 1 (lit< tt) (lit≤ tt) h.right }

-- ---- the inverse of a pivot
-- r / 2 ^ j is a value of the format, at least 1 / n, and hardly more
record Inverse (n j r : ℕ) : Type 0 where
  pos : 0 < n
  fine : j ≤ 149
  small : r < 2 ^ 24
  least : 2 ^ j ≤ r * n
  most : r * n ≤ 2 ^ j + n

inverse_of : (j n : ℕ) → j ≤ 149 → 0 < n → 2 ^ j + n < 2 ^ 24 * n → Inverse n j (2 ^ j / n + 1)
inverse_of j n J N s =
    let low = lt-div-mul-add {a = 2 ^ j} N in
    let high = div-mul-le_self (2 ^ j) n in
    record {
      pos = N;
      fine = J;
      small = lt_of_mul-lt-mul_right n (omega arith);
      least = omega arith;
      most = omega arith;
    }

-- ---- rows over their pivots
-- above the diagonal is at most 1, and on the right-hand side at most t * 2 ^ 41
record Over (t : ℕ) (s : Swept) : Type 0 where
  above : AtMost 1 1 s.above
  right : AtMost (t * 2 ^ 41) 1 s.right

steady : {s : Swept} → Over 2 s → Steady s
steady h = record { above = h.above; right = h.right }

bounded : {s : Swept} → Over (2 ^ 17) s → Bounded s
bounded h = record { above = h.above; right = h.right }

module _ {n j r : ℕ} (v : Inverse n j r) where
  -- where the guard's test holds, the inverse is 0, which is no larger
  inverse_most : (x : Float) → AtLeast n 1 x → AtMost r (2 ^ j) (inverse x)
  unfolding guarded_quotient
  inverse_most x h =
      let u = 2 ^ j in
      at_most_cond (lt (absolute x) pico)
      (at_most_more r u (pow_pos j) (omega arith) (whole_most 𝟎 𝟎-is))
      (at_most_div binary32 r u (pow_pos j) (rep_dyadic r j v.fine v.small)
      (whole_most 𝟏 𝟏-is) h v.pos (omega arith))

  -- where the pivot is at least n, c at most a and d at most b * 2 ^ 41
  scaled_most : {a : ℕ} (b t : ℕ) {pivot c d : Float} → t < 2 ^ 24 → AtLeast n 1 pivot
      → AtMost a 1 c → AtMost (b * 2 ^ 41) 1 d → a * r ≤ 2 ^ j → b * r ≤ t * 2 ^ j
      → Over t (scaled pivot c d)
  unfolding scaled
  scaled_most b t {pivot} few h c d l m =
      let i = inverse_most pivot h in
      let rep = rep_times t 41 few (lit≤ tt) in
      record {
        above = at_most_mul binary32 1 1 (lit< tt) (rep_whole 1 (lit< tt)) c i (omega arith);
        right = at_most_mul binary32 _ 1 (lit< tt) rep d i (many (2 ^ 41) (2 ^ j) m);
      }
    where
      many : (w u : ℕ) → b * r ≤ t * u → b * w * r * 1 ≤ t * w * (1 * u)
      many w u h = omega (arith, mul-le-mul_right w h)

  -- the first row, where the inverse is at most 2
  first_most : {c : ℕ} (row : Row) (s : Swept) → 23 ≤ j → Is row.b n 0 1 → AtMost c 1 row.c
      → AtMost (2 ^ 41) 1 row.d → c * r ≤ 2 ^ j → Steady (sweep 0 s row)
  unfolding sweep
  first_most row s J b c d l =
      steady
      (scaled_most 1 2 (lit< tt) (whole_least _ b) c d l
      (omega (arith, pow_mono {i = 23} {j = j} J)))

  -- a later row, whose pivot is at least b - a
  later_most : {a b c : ℕ} (t k : ℕ) {s : Swept} (row : Row) → t < 2 ^ 24 → Steady s
      → AtMost a 1 row.a → Is row.b b 0 1 → AtMost c 1 row.c → AtMost (2 ^ 41) 1 row.d
      → n + a ≤ b → b + a < 2 ^ 24 → c * r ≤ 2 ^ j → (2 * a + 1) * r ≤ t * 2 ^ j
      → Over t (sweep (suc k) s row)
  unfolding sweep
  later_most {a} t k row few h ia ib ic id l m e f =
      let below = mul_most (rep_whole a (omega arith)) ia h.above (omega arith) in
      let twice = rep_times (2 * a) 41 (omega arith) (lit≤ tt) in
      let more = rep_times (2 * a + 1) 41 (omega arith) (lit≤ tt) in
      let right = sub_most more id (mul_most twice ia h.right (omega arith)) (omega arith) in
      rw (ne_eqb (suc k) 0 (ne_of_gt (omega arith)))
      (scaled_most _ t few (sub_least _ n l m ib below) ic right e f)

-- ---- r / u is the inverse of n, as `Inverse` has it
-- a * r / u is at most 1, where a is less than n by no less than f
times_most : (a f n r u : ℕ) → a + f ≤ n → n ≤ f * r → r * n ≤ u + n → a * r ≤ u
times_most a f n r u h g k = omega (arith, mul-le-mul_right r h)

-- r is at least k, where n is at most m
times_least : (k m n r u : ℕ) → 0 < m → k * m ≤ u → n ≤ m → u ≤ r * n → k ≤ r
times_least k m n r u M h g l =
    le_of_mul-le-mul_right {k = m} (le_trans h (le_trans l (mul-le-mul_left r g))) M

-- where n is a sum of a few widths, a is less than c * n, and c is at most 2
small : (n : ℕ) → 0 < n → Inverse n 23 (2 ^ 23 / n + 1)
small n N = inverse_of 23 n (lit≤ tt) N (omega arith)

small_most : {n r : ℕ} (a c : ℕ) → c ≤ 2 → a < c * n → n ≤ 1020 → Inverse n 23 r
    → a * r ≤ c * 2 ^ 23
small_most {n} {r} a c C l m v =
    let many = times_least 2040 1020 n r (2 ^ 23) (lit< tt) (lit≤ tt) m v.least in
    times_most a 1 (c * n) r _ (omega arith) (omega (arith, mul-le-mul_right n C))
    (omega (arith, mul-le-mul_left c v.most))

small_first : {n q : ℕ} (r : Row) (s : Swept) → 0 < n → n ≤ 1020 → q < n → Is r.b n 0 1
    → Is r.c q 0 1 → AtMost (2 ^ 41) 1 r.d → Steady (sweep 0 s r)
small_first {n} {q} r s N m l b c d =
    let v = small n N in
    let above = small_most q 1 (lit≤ tt) (omega arith) m v in
    first_most v r s (lit≤ tt) b (whole_most r.c c) d above

-- ---- inner knots
-- the row of an inner knot between segments p and q wide, whole numbers
pub record InnerRow (p q : ℕ) (r : Row) : Type 0 where
  pub a : Is r.a p 0 1
  pub b : Is r.b (2 * (p + q)) 0 1
  pub c : Is r.c q 0 1
  pub d : AtMost (2 ^ 41) 1 r.d

pub inner_first : {p q : ℕ} {r : Row} (s : Swept) → 0 < p → p < 256 → 0 < q → q < 256
    → InnerRow p q r → Steady (sweep 0 s r)
inner_first {r = r} s P p< Q q< i =
    small_first r s (omega arith) (omega arith) (omega arith) i.b i.c i.d

pub inner_next : {p q : ℕ} (k : ℕ) {s : Swept} {r : Row} → 0 < p → p < 256 → 0 < q → q < 256
    → InnerRow p q r → Steady s → Steady (sweep (suc k) s r)
inner_next {p} {q} k {r = r} P p< Q q< i h =
    let v = small (p + 2 * q) (omega arith) in
    let above = small_most q 1 (lit≤ tt) (omega arith) (omega arith) v in
    let right = small_most (2 * p + 1) 2 (lit≤ tt) (omega arith) (omega arith) v in
    steady
    (later_most v 2 k r (lit< tt) h (whole_most r.a i.a) i.b (whole_most r.c i.c)
    i.d (omega arith) (omega arith) above right)

-- ---- slopes given
pub clamped_first_lem : {q : ℕ} (r : Row) (s : Swept) → 0 < q → q < 256 → Is r.b (2 * q) 0 1
    → Is r.c q 0 1 → AtMost (2 ^ 41) 1 r.d → Steady (sweep 0 s r)
clamped_first_lem r s Q q< b c d = small_first r s (omega arith) (omega arith) (omega arith) b c d

-- in a last row a rough bound of the inverse will do, 1 / 2 ^ j
last_most : {a b : ℕ} (j k : ℕ) {s : Swept} (r : Row) → j ≤ 149 → Steady s → AtMost a 1 r.a
    → Is r.b b 0 1 → Is r.c 0 0 1 → AtMost (2 ^ 41) 1 r.d → 2 ^ j + a ≤ b → b + a < 2 ^ 24
    → 2 * a + 1 ≤ 2 ^ 17 * 2 ^ j → Bounded (sweep (suc k) s r)
last_most j k r J h a b c d l m f =
    let P = pow_pos j in
    let v : Inverse (2 ^ j) j 1 =
    record { pos = P; fine = J; small = lit< tt; least = omega arith; most = omega arith } in
    let zero = whole_most r.c c in
    bounded (later_most v (2 ^ 17) k r (lit< tt) h a b zero d l m (omega arith) (omega arith))

pub clamped_last_lem : {p : ℕ} (k : ℕ) {s : Swept} (r : Row) → 0 < p → p < 256 → Is r.a p 0 1
    → Is r.b (2 * p) 0 1 → Is r.c 0 0 1 → AtMost (2 ^ 41) 1 r.d → Steady s
    → Bounded (sweep (suc k) s r)
clamped_last_lem k r P p< a b c d h =
    last_most 0 k r (lit≤ tt) h (whole_most r.a a) b c d (omega arith) (omega arith)
    (omega arith)

-- ---- not-a-knot, with |g - h| written g - h + (h - g)
-- the diagonal, where v is the sum of both widths and one of them
diagonal : (w v : ℕ) → 2 ≤ w → w ≤ 510 → w < v → v < w + 256 → (6 ≤ w * v) × (w * v ≤ 390150)
diagonal w v a b l m =
    (mul-le-mul {n₁ = 2} {m₁ = 3} a (omega arith), mul-le-mul {n₂ = 510} {m₂ = 765} b (omega arith))

-- e is |g - h|, and f what it lacks to h + 2 * g
free_most : (h g e f r u : ℕ) → e + f ≤ h + 2 * g → h + 2 * g ≤ f * r
    → r * ((h + g) * (h + 2 * g)) ≤ u + (h + g) * (h + 2 * g) → e * (g + h) * r ≤ u
free_most h g e f r u s l m =
    let w = g + h in
    times_most (e * w) (f * w) _ r u (omega (arith, mul-le-mul_right w s))
    (omega (arith, mul-le-mul_right w l)) m

pub free_first : {h g : ℕ} (r : Row) (s : Swept) → 0 < h → h < 256 → 0 < g → g < 256
    → Is r.b ((h + g) * (h + 2 * g)) 0 1 → AtMost ((g - h + (h - g)) * (g + h)) 1 r.c
    → AtMost (2 ^ 41) 1 r.d → Steady (sweep 0 s r)
free_first {h} {g} r s H h< G g< b c d =
    let v = h + 2 * g in
    let n = (h + g) * v in
    let i = 2 ^ 26 / n + 1 in
    let e = g - h + (h - g) in
    let f = v - e in
    let size = diagonal (h + g) v (omega arith) (omega arith) (omega arith) (omega arith) in
    let o = inverse_of 26 n (lit≤ tt) (omega arith) (omega arith) in
    let many = times_least 86 390150 n i (2 ^ 26) (lit< tt) (lit≤ tt) size.1 o.least in
    let near : v ≤ f * 86 = omega arith in
    first_most o r s (lit≤ tt) b c d
    (free_most h g e f i (2 ^ 26) (omega arith) (le_trans near (mul-le-mul_left f many)) o.most)

-- the last row, where v is more than the sum of both widths, and less than a byte more
pub free_over : {h g v : ℕ} (k : ℕ) {s : Swept} (r : Row) → 0 < h → h < 256 → 0 < g → g < 256
    → h + g < v → v < h + g + 256
    → AtMost ((h - g + (g - h)) * (h + g)) 1 r.a → Is r.b ((h + g) * v) 0 1
    → Is r.c 0 0 1 → AtMost (2 ^ 41) 1 r.d → Steady s → Bounded (sweep (suc k) s r)
free_over {h} {g} {v} k r H h< G g< over near a b c d i =
    let w = h + g in
    let e = h - g + (g - h) in
    let less : e < v = omega arith in
    let pivot : 2 + e * w ≤ w * v = omega (arith, mul-le-mul_right w less) in
    let size = diagonal w v (omega arith) (omega arith) (omega arith) (omega arith) in
    let side : e * w ≤ 129540 = mul-le-mul {n₂ = 254} {m₂ = 510} (omega arith) (omega arith) in
    last_most 1 k r (lit≤ tt) i a b c d pivot (omega arith) (omega arith)

-- v as it is in the last row: twice the one width and the other. Nothing rests on this
pub free_last : {h g : ℕ} (k : ℕ) {s : Swept} (r : Row) → 0 < h → h < 256 → 0 < g → g < 256
    → AtMost ((h - g + (g - h)) * (h + g)) 1 r.a → Is r.b ((h + g) * (2 * h + g)) 0 1
    → Is r.c 0 0 1 → AtMost (2 ^ 41) 1 r.d → Steady s → Bounded (sweep (suc k) s r)
free_last k r H h< G g< = free_over k r H h< G g< (omega arith) (omega arith)

-- ---- back substitution adds at most 2 ^ 58 for each unknown
module _ (s : ℕ → Swept) (m : ℕ) (few : m ≤ 256) (all : (k : ℕ) → k < m → Bounded (s k)) where
  backward_most : (j : ℕ) → j ≤ m → AtMost (j * 2 ^ 58) 1 (backward s m j)
  unfolding backward
  backward_most zero l = whole_most 𝟎 𝟎-is
  backward_most (suc j) l =
      let row = all (m - suc j) (omega arith) in
      let next = backward_most j (omega arith) in
      let rep = rep_times j 58 (omega arith) (lit≤ tt) in
      let more = rep_times (suc j) 58 (omega arith) (lit≤ tt) in
      sub_most more row.right (mul_most rep row.above next (omega arith)) (omega arith)

pub solution_most : (rows : ℕ → Row) (m : ℕ) → m ≤ 256
    → ((k : ℕ) → k + 1 < m → Steady (swept_row rows k))
    → ((k : ℕ) → k + 1 ≡ m → Bounded (swept_row rows k))
    → (k : ℕ) → k < m → AtMost (2 ^ 66) 1 (solution rows m k)
unfolding solution substituted
solution_most rows m few inner last k l =
    let most = backward_most _ m few all (m - k) (omega arith) in
    at_most_more (2 ^ 66) 1 (lit< tt) (omega arith) most
  where
    all : (i : ℕ) → i < m → Bounded (swept_row rows i)
    all i h = elim (ℕ_discrete (i + 1) m) [
      | yes e ↦ last i e
      | no more ↦ steady_bounded (inner i (omega arith))
    ]
