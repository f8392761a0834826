-- How large a float is. `AtMost a c x` says that x is finite and |x| ≤ a / c, `AtLeast a c x`
-- that x is finite and |x| ≥ a / c. Rounding passes no value of the format. So a bound r / e
-- that the format holds (`Rep f r e`) bounds a result where it bounds the exact result.
-- Operands have either sign.
use Rattle.std.specs.Prelude.{◌≡◌, refl, ℕ, ◌+◌, ◌-◌, ◌*◌, ◌^◌, ◌≤◌, ◌<◌, Bool, true, false, ◌&&◌, cond, T, ltb, Float}
use Rattle.std.proofs.Common.{sym, ◌∙◌, inl, zero-le, lt_of_lt_of_le, le_trans, le_of_eq, zero-add, mul-pos, mul-le-mul, mul-le-mul_right, arith, lit<, ltb-false}
use Rattle.std.specs.Bool.{beq}
use Rattle.std.specs.Float.{nan, inf, fin, Format, binary32}
use Rattle.std.specs.Float.Ieee.{round, neg, sum, add, sub, mul, div, lt}
use Rattle.std.specs.Float.Ieee.Fits.{down_pos}
use Rattle.std.specs.Float.Ieee.Order.{round_mono}
use Rattle.std.specs.Float.Ieee.Scale.{finite}
use Rattle.std.specs.Float.Ieee.Positive.{num, den, den_pos, first_pos, through}
use Rattle.floats.specs.Notation.{◌⊖◌, ◌⊗◌}
use Rattle.floats.specs.Value.{
  dens_pos,
  Is,
  top,
  bot,
  own,
  is_of_pos,
  is_of_le,
  Apart,
  size_is,
  sign,
  unsigned,
  nought,
  finite_neg,
  absolute,
}
use Rattle.floats.specs.Order.{le_cross, finite_between}
use Rattle.floats.specs.Round.{Rounds, over, under, round_neg, round_opposite, round_unsigned}
use Rattle.floats.specs.Exact.{Rep, rep_whole, round_rep}
use Rattle.floats.specs.Ops.{add_is, sub_is, mul_is, div_is, sub_rounds}

-- |x| ≤ a / c
pub record AtMost (a c : ℕ) (x : Float) : Type 0 where
  pub fin : T (finite x)
  pub unit : 0 < c
  pub most : num x * c ≤ a * den x

-- |x| ≥ a / c
pub record AtLeast (a c : ℕ) (x : Float) : Type 0 where
  pub fin : T (finite x)
  pub unit : 0 < c
  pub least : a * den x ≤ num x * c

-- ---- exact values, and weaker bounds
pub at_most_is : (x : Float) (p n c a : ℕ) → 0 < c → Is x p n c → Apart p n a → AtMost a c x
at_most_is x p n c a C h e =
    record { fin = h.0; unit = C; most = le_of_eq (size_is x p n c a h e) }

pub at_least_zero : (x : Float) → T (finite x) → AtLeast 0 1 x
at_least_zero x p = record { fin = p; unit = lit< tt; least = omega arith }

-- a / c ≤ b / d
pub at_most_more : {a c : ℕ} {x : Float} (b d : ℕ) → 0 < d → a * d ≤ b * c → AtMost a c x
    → AtMost b d x
at_most_more {a} {c} {x} b d D l h =
    record { fin = h.fin; unit = D; most = through _ a b _ c d h.unit h.most l }

-- ---- rounding
-- what has no sign is its size
unsigned_is : (x : Float) → T (unsigned x) → T (finite x) → Is x (num x) 0 (den x)
unsigned_is nan u p = absurd u
unsigned_is (inf s) u p = absurd p
unsigned_is (fin true m e) u p = absurd u
unsigned_is (fin false m e) u p = (tt, refl)

pub at_most_neg : {a c : ℕ} {x : Float} → AtMost a c x → AtMost a c (neg x)
unfolding neg
at_most_neg {x = nan} h = absurd h.fin
at_most_neg {x = inf s} h = absurd h.fin
at_most_neg {x = fin s m e} h = record { fin = tt; unit = h.unit; most = h.most }

pub at_least_neg : {a c : ℕ} {x : Float} → AtLeast a c x → AtLeast a c (neg x)
unfolding neg
at_least_neg {x = nan} h = absurd h.fin
at_least_neg {x = inf s} h = absurd h.fin
at_least_neg {x = fin s m e} h = record { fin = tt; unit = h.unit; least = h.least }

rep_is : (f : Format) (r e : ℕ) → 0 < e → Rep f r e → Is (round f false r e) r 0 e
rep_is f r e E R = is_of_pos (round f false r e) r e (round_rep f false r e E R)

-- p / c ≤ r / e
pub round_at_most : (f : Format) (s : Bool) (p c r e : ℕ) → 0 < c → 0 < e → Rep f r e
    → p * e ≤ r * c → AtMost r e (round f s p c)
round_at_most f s p c r e C E R h = go s
  where
    plain : AtMost r e (round f false p c)
    plain =
        let x = round f false p c in
        let u = round_unsigned f p c in
        let i = rep_is f r e E R in
        let l = round_mono f p c r e C E h in
        let least = le_cross (nought false) x tt u in
        let F = finite_between _ x _ (finite_neg (nought false) tt) i.0 least l in
        let j = unsigned_is x u F in
        record { fin = F; unit = E; most = omega (arith, is_of_le x _ _ 0 _ r 0 e j i l) }

    go : (s : Bool) → AtMost r e (round f s p c)
    go false = plain
    go true = rw (← round_neg) (at_most_neg plain)

-- r / e ≤ p / c, and nothing overflows
pub round_at_least : (f : Format) (s : Bool) (p c r e : ℕ) → 0 < c → 0 < e → Rep f r e
    → r * c ≤ p * e → T (finite (round f s p c))
    → AtLeast r e (round f s p c)
round_at_least f s p c r e C E R h = go s
  where
    plain : T (finite (round f false p c)) → AtLeast r e (round f false p c)
    plain F =
        let x = round f false p c in
        let i = rep_is f r e E R in
        let j = unsigned_is x (round_unsigned f p c) F in
        let l = round_mono f r e p c E C h in
        record { fin = F; unit = E; least = omega (arith, is_of_le _ x r 0 e _ 0 _ i j l) }

    go : (s : Bool) → T (finite (round f s p c)) → AtLeast r e (round f s p c)
    go false F = plain F
    go true F =
        let G = finite_neg (round f true p c) F in
        rw (← round_neg) (at_least_neg (plain (rw round_opposite at G)))

pub at_most_cond : (b : Bool) {a c : ℕ} {x y : Float} → AtMost a c x → AtMost a c y
    → AtMost a c (cond b x y)
at_most_cond true h g = h
at_most_cond false h g = g

-- ---- the operations, on operands bounded by a / c and b / d
sum_at_most : (f : Format) (s : Bool) (p : ℕ) (t : Bool) (q u r e : ℕ) → 0 < u → 0 < e → Rep f r e
    → (p + q) * e ≤ r * u
    → AtMost r e (sum f s p t q u)
unfolding sum
sum_at_most f s p t q u r e U E R h =
    at_most_cond (beq s t) (most s (p + q) (omega arith))
    (at_most_cond (ltb p q) (most t (q - p) (omega arith))
    (most (s && ltb q p) (p - q) (omega arith)))
  where
    most : (s : Bool) (d : ℕ) → d ≤ p + q → AtMost r e (round f s d u)
    most s d l = round_at_most f s d u r e U E R (le_trans (mul-le-mul_right e l) h)

like_sum : (f : Format) (s t : Bool) (p q u : ℕ) → s ≡ t → sum f s p t q u ≡ round f s (p + q) u
unfolding sum
like_sum f true t p q u e = rw (← e)
like_sum f false t p q u e = rw (← e)

-- p / q ≤ a / c and s / t ≤ b / d
plus_le : (p q a c s t b d : ℕ) → p * c ≤ a * q → s * d ≤ b * t
    → (p * t + s * q) * (c * d) ≤ (a * d + b * c) * (q * t)
plus_le p q a c s t b d h g = omega (arith, mul-le-mul_right (t * d) h, mul-le-mul_right (q * c) g)

times_le : (p q a c s t b d : ℕ) → p * c ≤ a * q → s * d ≤ b * t → p * s * (c * d) ≤ a * b * (q * t)
times_le p q a c s t b d h g = omega (arith, mul-le-mul h g)

-- p / q ≤ a / c and b / d ≤ s / t
over_le : (p q a c s t b d : ℕ) → p * c ≤ a * q → b * t ≤ s * d → p * t * (c * b) ≤ a * d * (s * q)
over_le p q a c s t b d h g = omega (arith, mul-le-mul h g)

module _ (f : Format) {a c b d : ℕ} {x y : Float} (r e : ℕ) (E : 0 < e) (R : Rep f r e) where
  -- the exact bound is (a * d + b * c) / (c * d)
  pub at_most_add : AtMost a c x → AtMost b d y → (a * d + b * c) * e ≤ r * (c * d)
      → AtMost r e (add f x y)
  at_most_add h g l =
      rw (add_is f x y h.fin g.fin)
      (sum_at_most f _ _ _ _ _ r e (dens_pos x y) E R
      (through _ _ r _ (c * d) e (mul-pos h.unit g.unit)
      (plus_le _ _ a c _ _ b d h.most g.most) l))

  -- of two terms with one sign
  pub at_least_add : AtLeast a c x → AtLeast b d y → sign x ≡ sign y
      → r * (c * d) ≤ (a * d + b * c) * e → T (finite (add f x y)) → AtLeast r e (add f x y)
  at_least_add h g z l w =
      let is = add_is f x y h.fin g.fin ∙ like_sum f _ _ _ _ _ z in
      rw is (round_at_least f _ _ _ r e (dens_pos x y) E R
      (through r _ _ e (c * d) _ (mul-pos h.unit g.unit) l
      (plus_le a c _ _ b d _ _ h.least g.least)) (rw is at w))

  -- the exact bound is a * b / (c * d)
  pub at_most_mul : AtMost a c x → AtMost b d y → a * b * e ≤ r * (c * d) → AtMost r e (mul f x y)
  at_most_mul h g l =
      rw (mul_is f x y h.fin g.fin)
      (round_at_most f _ _ _ r e (dens_pos x y) E R
      (through _ (a * b) r _ (c * d) e (mul-pos h.unit g.unit)
      (times_le _ _ a c _ _ b d h.most g.most) l))

  pub at_least_mul : AtLeast a c x → AtLeast b d y → r * (c * d) ≤ a * b * e
      → T (finite (mul f x y)) → AtLeast r e (mul f x y)
  at_least_mul h g l w =
      let is = mul_is f x y h.fin g.fin in
      rw is (round_at_least f _ _ _ r e (dens_pos x y) E R
      (through r (a * b) _ e (c * d) _ (mul-pos h.unit g.unit) l
      (times_le a c _ _ b d _ _ h.least g.least)) (rw is at w))

  -- the exact bound is a * d / (c * b)
  pub at_most_div : AtMost a c x → AtLeast b d y → 0 < b → a * d * e ≤ r * (c * b)
      → AtMost r e (div f x y)
  at_most_div h g B l =
      let N : 0 < num y = first_pos _ d (lt_of_lt_of_le (mul-pos B (den_pos y)) g.least) in
      rw (div_is f x y h.fin N)
      (round_at_most f _ _ _ r e (mul-pos N (den_pos x)) E R
      (through _ (a * d) r _ (c * b) e (mul-pos h.unit B)
      (over_le _ _ a c _ _ b d h.most g.least) l))

pub at_most_sub : (f : Format) {a c b d : ℕ} {x y : Float} (r e : ℕ) → 0 < e → Rep f r e
    → AtMost a c x → AtMost b d y
    → (a * d + b * c) * e ≤ r * (c * d) → AtMost r e (sub f x y)
at_most_sub f r e E R h g l = rw sub_is (at_most_add f r e E R h (at_most_neg g) l)

-- ---- a test of the size: what is not below a guard is at least what the guard is
pub at_least_guarded : {a c : ℕ} {x guard : Float} → T (finite x) → T (unsigned guard)
    → AtLeast a c guard → lt (absolute x) guard ≡ false
    → AtLeast a c x
unfolding lt absolute
at_least_guarded {x = nan} p u h e = absurd p
at_least_guarded {x = inf s} p u h e = absurd p
at_least_guarded {x = fin s m k} {guard = nan} p u h e = absurd u
at_least_guarded {x = fin s m k} {guard = inf t} p u h e = absurd h.fin
at_least_guarded {x = fin s m k} {guard = fin true n i} p u h e = absurd u
at_least_guarded {a} {c} {x = fin s m k} {guard = fin false n i} p u h e =
    record {
      fin = tt;
      unit = h.unit;
      least = through a _ _ c _ _ (down_pos i) h.least (ltb-false _ _ e);
    }

-- ---- bounds that are whole numbers, in single precision
pub whole_most : (x : Float) {n : ℕ} → Is x n 0 1 → AtMost n 1 x
whole_most x {n} i = at_most_is x n 0 1 n (lit< tt) i (inl (sym (zero-add n)))

pub whole_least : (x : Float) {n : ℕ} → Is x n 0 1 → AtLeast n 1 x
whole_least x {n} i =
    let size = size_is x n 0 1 n i (inl (sym (zero-add n))) in
    record { fin = i.0; unit = lit< tt; least = le_of_eq (sym size) }

pub mul_most : {a b r : ℕ} {x y : Float} → Rep binary32 r 1 → AtMost a 1 x → AtMost b 1 y
    → a * b ≤ r
    → AtMost r 1 (x ⊗ y)
mul_most {r = r} rep h g l = at_most_mul _ r 1 (lit< tt) rep h g (omega arith)

pub sub_most : {a b r : ℕ} {x y : Float} → Rep binary32 r 1 → AtMost a 1 x → AtMost b 1 y
    → a + b ≤ r
    → AtMost r 1 (x ⊖ y)
sub_most {r = r} rep h g l = at_most_sub _ r 1 (lit< tt) rep h g (omega arith)

-- ---- a difference from below: n less what is at most a in size
top_most : {a : ℕ} (x : Float) → AtMost a 1 x → top x ≤ a * den x
top_most nan h = absurd h.fin
top_most (inf s) h = absurd h.fin
top_most (fin true m e) h = zero-le
top_most (fin false m e) h = omega (arith, h.most)

pub sub_least : (x : Float) {y : Float} {n a : ℕ} (b : ℕ) → b + a ≤ n → n + a < 2 ^ 24 → Is x n 0 1
    → AtMost a 1 y → AtLeast b 1 (x ⊖ y)
sub_least x {y} {n} {a} b l s i h =
    let y_is = own y h.fin in
    go (sub_rounds _ x y n 0 1 _ _ _ (lit< tt) (den_pos y) i y_is)
  where
    u : ℕ
    u = 1 * den y

    least : (t : Bool) (c : ℕ) → x ⊖ y ≡ round binary32 t c u → b * u ≤ c → AtLeast b 1 (x ⊖ y)
    least t c z g =
        let f = (sub_most (rep_whole (n + a) s) (whole_most x i) h (omega arith)).fin in
        let U : 0 < u = omega (arith, den_pos y) in
        let rep = rep_whole b (omega arith) in
        rw z (round_at_least _ t c u b 1 U (lit< tt) rep (omega arith) (rw z at f))

    go : Rounds binary32 (x ⊖ y) (n * den y + bot y * 1) (0 * den y + top y * 1) u
        → AtLeast b 1 (x ⊖ y)
    go (over c e z) = least false c z (omega (arith, mul-le-mul_right (den y) l, top_most y h))
    go (under c e z) = least true c z (omega (arith, mul-le-mul_right (den y) l, top_most y h))
