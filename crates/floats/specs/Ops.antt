-- What each operation rounds: the exact sum, difference, product and quotient, as a signed fraction
-- made of any fractions that the operands equal.
use Rattle.std.specs.Prelude.{◌≡◌, refl, ℕ, ◌+◌, ◌-◌, ◌*◌, ◌≤◌, ◌<◌, Bool, true, false, not, cond, T, ltb, Float}
use Rattle.std.proofs.Common.{sym, ap, inl, inr, zero-add, add_comm, mul_comm, mul-pos, ne_of_gt, arith, ltb→lt, nltb→le, ne_eqb}
use Rattle.std.specs.Float.{nan, inf, fin, Format}
use Rattle.std.specs.Float.Ieee.{up, down, unlike, round, neg, sum, add, sub, mul, div}
use Rattle.std.specs.Float.Ieee.Scale.{finite}
use Rattle.std.specs.Float.Ieee.Positive.{num, den, den_pos, first_pos}
use Rattle.floats.specs.Signed.{sum_same, product_same, quotient_same}
use Rattle.floats.specs.Value.{dens_pos, top, bot, Is, is_neg, size_is, nonzero_is, sign}
use Rattle.floats.specs.Value.{sign_is}
use Rattle.floats.specs.Value.{sign_is_below}
use Rattle.floats.specs.Round.{Rounds, over, under, rounds_same, round_opposite, rounds_neg}

-- ---- the sign of a product
pub unlike_swap : (s t : Bool) → unlike s t ≡ unlike t s
unlike_swap true true = refl
unlike_swap true false = refl
unlike_swap false true = refl
unlike_swap false false = refl

pub unlike_self : (s : Bool) → unlike s s ≡ false
unlike_self true = refl
unlike_self false = refl

pub unlike_plus : (s : Bool) → unlike s false ≡ s
unlike_plus true = refl
unlike_plus false = refl

unlike_minus : (s : Bool) → unlike s true ≡ not s
unlike_minus true = refl
unlike_minus false = refl

-- ---- finite operands, by sign and size: |x| is num x / den x
pub add_is : (f : Format) (x y : Float) → T (finite x) → T (finite y)
    → add f x y ≡ sum f (sign x) (num x * den y) (sign y) (num y * den x) (den x * den y)
unfolding add
add_is f nan y p q = absurd p
add_is f (inf s) y p q = absurd p
add_is f (fin s m e) nan p q = absurd q
add_is f (fin s m e) (inf t) p q = absurd q
add_is f (fin s m e) (fin t n d) p q = refl

pub sub_is : (f : Format) (x y : Float) → sub f x y ≡ add f x (neg y)
unfolding sub
sub_is f x y = refl

pub mul_is : (f : Format) (x y : Float) → T (finite x) → T (finite y)
    → mul f x y ≡ round f (unlike (sign x) (sign y)) (num x * num y) (den x * den y)
unfolding mul
mul_is f nan y p q = absurd p
mul_is f (inf s) y p q = absurd p
mul_is f (fin s m e) nan p q = absurd q
mul_is f (fin s m e) (inf t) p q = absurd q
mul_is f (fin s m e) (fin t n d) p q = refl

pub div_is : (f : Format) (x y : Float) → T (finite x) → 0 < num y
    → div f x y ≡ round f (unlike (sign x) (sign y)) (num x * den y) (num y * den x)
unfolding div
div_is f nan y p N = absurd p
div_is f (inf s) y p N = absurd p
div_is f (fin s m e) nan p N = absurd (omega arith)
div_is f (fin s m e) (inf t) p N = absurd (omega arith)
div_is f (fin s m e) (fin t n d) p N = rw (ne_eqb n 0 (ne_of_gt (first_pos n (up d) N)))

-- ---- the order of the operands does not matter
opposite : (f : Format) (a b c : ℕ) → sum f false a true b c ≡ sum f true b false a c
unfolding sum
opposite f a b c = go (ltb a b) (ltb b a) (ltb→lt a b) (ltb→lt b a) (nltb→le a b) (nltb→le b a)
  where
    go : (t u : Bool) → (T t → a < b) → (T u → b < a) → (T (not t) → b ≤ a) → (T (not u) → a ≤ b)
        → cond t (round f true (b - a) c) (round f false (a - b) c)
        ≡ cond u (round f false (a - b) c) (round f t (b - a) c)
    go true true h k i j = absurd (omega (arith, h tt, k tt))
    go true false h k i j = refl
    go false true h k i j = refl
    go false false h k i j = let zero : a - b ≡ b - a = omega (arith, i tt, j tt) in
        ap (λ z. round f false z c) zero

sum_swap : (f : Format) (s : Bool) (a : ℕ) (t : Bool) (b c : ℕ) → sum f s a t b c ≡ sum f t b s a c
unfolding sum
sum_swap f false a false b c = rw (add_comm a b)
sum_swap f false a true b c = opposite f a b c
sum_swap f true a false b c = sym (opposite f b a c)
sum_swap f true a true b c = rw (add_comm a b)

pub add_commutes : (f : Format) (x y : Float) → add f x y ≡ add f y x
unfolding add
add_commutes f nan nan = refl
add_commutes f nan (inf t) = refl
add_commutes f nan (fin t n d) = refl
add_commutes f (inf s) nan = refl
add_commutes f (inf true) (inf true) = refl
add_commutes f (inf true) (inf false) = refl
add_commutes f (inf false) (inf true) = refl
add_commutes f (inf false) (inf false) = refl
add_commutes f (inf s) (fin t n d) = refl
add_commutes f (fin s m e) nan = refl
add_commutes f (fin s m e) (inf t) = refl
add_commutes f (fin s m e) (fin t n d) = rw (mul_comm (down e) (down d)) (sum_swap f s _ t _ _)

pub mul_commutes : (f : Format) (x y : Float) → mul f x y ≡ mul f y x
unfolding mul
mul_commutes f nan nan = refl
mul_commutes f nan (inf t) = refl
mul_commutes f nan (fin t n d) = refl
mul_commutes f (inf s) nan = refl
mul_commutes f (inf s) (inf t) = ap inf (unlike_swap s t)
mul_commutes f (inf s) (fin t n d) = rw (unlike_swap s t)
mul_commutes f (fin s m e) nan = refl
mul_commutes f (fin s m e) (inf t) = rw (unlike_swap s t)
mul_commutes f (fin s m e) (fin t n d) =
    rw (unlike_swap s t, mul_comm (m * up e) (n * up d), mul_comm (down e) (down d))

-- ---- the sum
-- a / c - b / c
differ : (f : Format) (a b c p n : ℕ) → p ≡ a → n ≡ b → Rounds f (sum f false a true b c) p n c
unfolding sum
differ f a b c p n e g = go (ltb a b) (ltb→lt a b) (nltb→le a b)
  where
    go : (t : Bool) → (T t → a < b) → (T (not t) → b ≤ a)
        → Rounds f (cond t (round f true (b - a) c) (round f false (a - b) c)) p n c
    go true h k = under (b - a) (let l = h tt in omega arith) refl
    go false h k = over (a - b) (let l = k tt in omega arith) refl

pub add_own : (f : Format) (x y : Float) → T (finite x) → T (finite y)
    → Rounds f (add f x y) (top x * den y + top y * den x) (bot x * den y + bot y * den x)
    (den x * den y)
unfolding add sum
add_own f nan y p q = absurd p
add_own f (inf s) y p q = absurd p
add_own f (fin s m e) nan p q = absurd q
add_own f (fin s m e) (inf t) p q = absurd q
add_own f (fin false m e) (fin false n d) p q =
    over (m * up e * down d + n * up d * down e) (omega arith) refl
add_own f (fin false m e) (fin true n d) p q =
    differ f _ (n * up d * down e) _ _ _ (omega arith) (omega arith)
add_own f (fin true m e) (fin false n d) p q =
    rw (← opposite f _ _ _) (differ f _ (m * up e * down d) _ _ _ (omega arith) (omega arith))
add_own f (fin true m e) (fin true n d) p q =
    under (m * up e * down d + n * up d * down e) (omega arith) refl

-- ---- the product
mul_own : (f : Format) (x y : Float) → T (finite x) → T (finite y)
    → Rounds f (mul f x y) (top x * top y + bot x * bot y) (top x * bot y + bot x * top y)
    (den x * den y)
unfolding mul
mul_own f nan y p q = absurd p
mul_own f (inf s) y p q = absurd p
mul_own f (fin s m e) nan p q = absurd q
mul_own f (fin s m e) (inf t) p q = absurd q
mul_own f (fin false m e) (fin false n d) p q = over (m * up e * (n * up d)) (omega arith) refl
mul_own f (fin false m e) (fin true n d) p q = under (m * up e * (n * up d)) (omega arith) refl
mul_own f (fin true m e) (fin false n d) p q = under (m * up e * (n * up d)) (omega arith) refl
mul_own f (fin true m e) (fin true n d) p q = over (m * up e * (n * up d)) (omega arith) refl

-- ---- the operands as any fractions
module _ (f : Format) (x y : Float) (p n c q m d : ℕ) (C : 0 < c) (D : 0 < d) (h : Is x p n c)
    (k : Is y q m d) where
  pub add_rounds : Rounds f (add f x y) (p * d + q * c) (n * d + m * c) (c * d)
  add_rounds =
      rounds_same f _ _ _ _ _ _ (c * d) (dens_pos x y) (mul-pos C D) (add_own f x y h.0 k.0)
      (sum_same _ _ _ _ _ _ p n c q m d h.1 k.1)

  pub mul_rounds : Rounds f (mul f x y) (p * q + n * m) (p * m + n * q) (c * d)
  mul_rounds =
      rounds_same f _ _ _ _ _ _ (c * d) (dens_pos x y) (mul-pos C D) (mul_own f x y h.0 k.0)
      (product_same _ _ _ _ _ _ p n c q m d h.1 k.1)

pub sub_rounds : (f : Format) (x y : Float) (p n c q m d : ℕ) → 0 < c → 0 < d → Is x p n c
    → Is y q m d
    → Rounds f (sub f x y) (p * d + m * c) (n * d + q * c) (c * d)
sub_rounds f x y p n c q m d C D h k =
    rw sub_is (add_rounds f x _ p n c m q d C D h (is_neg y q m d k))

-- ---- the quotient, by a divisor above zero and by one below
scaled : (f : Format) (x : Float) (a c : ℕ) → T (finite x)
    → Rounds f (round f (sign x) (num x * a) c) (top x * a) (bot x * a) c
scaled f nan a c p = absurd p
scaled f (inf s) a c p = absurd p
scaled f (fin false m e) a c p = over (m * up e * a) (omega arith) refl
scaled f (fin true m e) a c p = under (m * up e * a) (omega arith) refl

module _ (f : Format) (x y : Float) (p n c q d : ℕ) (C : 0 < c) (D : 0 < d) (Q : 0 < q)
    (h : Is x p n c) where
  -- x over the size of y, which is q / d
  by_size : 0 < num y → num y * d ≡ q * den y
      → Rounds f (round f (sign x) (num x * den y) (num y * den x)) (p * d) (n * d) (c * q)
  by_size N e =
      rounds_same f _ _ _ _ (p * d) (n * d) (c * q) (mul-pos N (den_pos x)) (mul-pos C Q)
      (scaled f x (den y) (num y * den x) h.0) (quotient_same _ _ _ _ _ p n c q d h.1 e)

  -- (p - n) / c over q / d is (p - n) * d / (c * q)
  pub div_rounds : Is y q 0 d → Rounds f (div f x y) (p * d) (n * d) (c * q)
  div_rounds k =
      let apart = inl (sym (zero-add q)) in
      let N = nonzero_is y q 0 d q k apart Q in
      rw (div_is f x y h.0 N, sign_is y q 0 d k Q, unlike_plus)
      (by_size N (size_is y q 0 d q k apart))

  -- and over -q / d it is (n - p) * d / (c * q)
  pub div_rounds_below : Is y 0 q d → Rounds f (div f x y) (n * d) (p * d) (c * q)
  div_rounds_below k =
      let apart = inr (sym (zero-add q)) in
      let N = nonzero_is y 0 q d q k apart Q in
      rw (div_is f x y h.0 N, sign_is_below y 0 q d k Q, unlike_minus, ← round_opposite)
      (rounds_neg f _ (p * d) (n * d) (c * q) (by_size N (size_is y 0 q d q k apart)))
