-- A finite float is the signed fraction (top - bot) / den, where top or bot is 0; its size is num /
-- den. `Is x p n c` says, for a c above 0, that x is finite and equals (p - n) / c, whichever sign
-- a zero has. The order of finite floats is the order of their fractions.
use Rattle.std.specs.Prelude.{◌≡◌, refl, ◌⊎◌, ◌↔◌, ℕ, ◌+◌, ◌*◌, ◌≤◌, ◌<◌, Bool, true, false, not, ◌&&◌, ◌||◌, pos, T, eqb, Float}
use Rattle.std.proofs.Common.{sym, ap, inl, inr, zero-add, mul-pos, mul-lt-mul_of_pos_right, mul-le-mul_right, le_of_eq, le_of_lt, eq-or-lt_of_le, lt_of_not-le, le_of_suc-le-suc, arith, true≢false, eqb→eq, ltb→lt, lt→ltb, T_not, eq-eqb}
use Rattle.std.proofs.Math.Nat.{eq_of_mul-eq-mul_right}
use Rattle.std.specs.Float.{nan, inf, fin}
use Rattle.std.specs.Float.Ieee.{up, down, neg, le, lt, eq}
use Rattle.std.specs.Float.Ieee.Fits.{down_pos, and_l, and_r, and_i, eq→eqb}
use Rattle.std.specs.Float.Ieee.Exact.{HasValue}
use Rattle.std.specs.Float.Ieee.Bits.{is_false}
use Rattle.std.specs.Float.Ieee.Scale.{finite}
use Rattle.std.specs.Float.Ieee.Positive.{num, den, den_pos, first_pos}
use Rattle.floats.specs.Signed.{Le, Lt, Equal, le_through}

abbrev pub top : Float → ℕ
top nan = 0
top (inf s) = 0
top (fin false m e) = m * up e
top (fin true m e) = 0

abbrev pub bot : Float → ℕ
bot nan = 0
bot (inf s) = 0
bot (fin false m e) = 0
bot (fin true m e) = m * up e

-- x is (p - n) / c, for a c above 0. With the denominator 0 it says nothing: every finite x is (p -
-- p) / 0. So a law asks for 0 < c wherever x's value is concluded from it.
abbrev pub Is : Float → ℕ → ℕ → ℕ → Type 0
Is x p n c = T (finite x) × Equal (top x) (bot x) (den x) p n c

pub own : (x : Float) → T (finite x) → Is x (top x) (bot x) (den x)
own x f = (f, refl)

-- a common denominator of two
pub dens_pos : (x y : Float) → 0 < den x * den y
dens_pos x y = mul-pos (den_pos x) (den_pos y)

-- another fraction of the same value
pub is_same : (x : Float) (p n c q m d : ℕ) → 0 < c → Is x p n c → Equal p n c q m d → Is x q m d
is_same x p n c q m d C h e = (
  h.0,
  eq_of_mul-eq-mul_right c C _ _ (omega (arith, ap (◌* d) h.1, ap (◌* den x) e)),
)

-- ---- the sign changed
pub top_neg : (x : Float) → top (neg x) ≡ bot x
unfolding neg
top_neg nan = refl
top_neg (inf s) = refl
top_neg (fin true m e) = refl
top_neg (fin false m e) = refl

pub bot_neg : (x : Float) → bot (neg x) ≡ top x
unfolding neg
bot_neg nan = refl
bot_neg (inf s) = refl
bot_neg (fin true m e) = refl
bot_neg (fin false m e) = refl

pub den_neg : (x : Float) → den (neg x) ≡ den x
unfolding neg
den_neg nan = refl
den_neg (inf s) = refl
den_neg (fin s m e) = refl

pub is_neg : (x : Float) (p n c : ℕ) → Is x p n c → Is (neg x) n p c
unfolding neg
is_neg nan p n c h = absurd h.0
is_neg (inf s) p n c h = absurd h.0
is_neg (fin false m e) p n c h = (tt, omega arith)
is_neg (fin true m e) p n c h = (tt, omega arith)

pub finite_neg : (x : Float) → T (finite x) → T (finite (neg x))
finite_neg x f = (is_neg x _ _ _ (own x f)).0

-- ---- size
-- |p - n| = a
abbrev pub Apart : ℕ → ℕ → ℕ → Type 0
Apart p n a = (p ≡ n + a) ⊎ (n ≡ p + a)

-- the size of (p - n) / c is |p - n| / c
pub size_is : (x : Float) (p n c a : ℕ) → Is x p n c → Apart p n a → num x * c ≡ a * den x
size_is nan p n c a h e = absurd h.0
size_is (inf s) p n c a h e = absurd h.0
size_is (fin false m k) p n c a h (inl e) = omega (arith, h.1, ap (◌* down k) e)
size_is (fin false m k) p n c a h (inr e) = omega (arith, h.1, ap (◌* down k) e)
size_is (fin true m k) p n c a h (inl e) = omega (arith, h.1, ap (◌* down k) e)
size_is (fin true m k) p n c a h (inr e) = omega (arith, h.1, ap (◌* down k) e)

-- 0 < num x says that x is finite and no zero
pub nonzero_is : (x : Float) (p n c a : ℕ) → Is x p n c → Apart p n a → 0 < a → 0 < num x
nonzero_is x p n c a h e A = first_pos _ c (rw (size_is x p n c a h e) (mul-pos A (den_pos x)))

-- ---- sign
-- the sign bit, which a NaN has not
abbrev pub sign : Float → Bool
sign nan = false
sign (inf s) = s
sign (fin s m e) = s

-- no NaN, and no sign bit
abbrev pub unsigned : Float → Bool
unsigned nan = false
unsigned (inf s) = not s
unsigned (fin s m e) = not s

-- the zero with the sign s
abbrev pub nought : Bool → Float
nought s = fin s 0 (pos 0)

-- the absolute value: the number without its sign, +0 for −0
unfoldable pub absolute : Float → Float
absolute nan = nan
absolute (inf s) = inf false
absolute (fin s m e) = fin false m e

pub nought_is : (s : Bool) → Is (nought s) 0 0 1
nought_is true = (tt, refl)
nought_is false = (tt, refl)

pub unsigned_sign : (x : Float) → T (unsigned x) → sign x ≡ false
unsigned_sign nan u = refl
unsigned_sign (inf s) u = is_false s u
unsigned_sign (fin s m e) u = is_false s u

-- what is above zero has no sign bit
pub sign_is : (x : Float) (p n c : ℕ) → Is x p n c → n < p → sign x ≡ false
sign_is nan p n c h l = refl
sign_is (inf s) p n c h l = absurd h.0
sign_is (fin false m e) p n c h l = refl
sign_is (fin true m e) p n c h l =
    absurd (omega (arith, h.1, mul-lt-mul_of_pos_right l (down_pos e)))

-- and what is below has one
pub sign_is_below : (x : Float) (p n c : ℕ) → Is x p n c → p < n → sign x ≡ true
sign_is_below nan p n c h l = absurd h.0
sign_is_below (inf s) p n c h l = absurd h.0
sign_is_below (fin true m e) p n c h l = refl
sign_is_below (fin false m e) p n c h l =
    absurd (omega (arith, h.1, mul-lt-mul_of_pos_right l (down_pos e)))

-- ---- the library's `HasValue x s a c`: x is finite, has the sign s, and is a / c in size
pub is_of_pos : (x : Float) (a c : ℕ) → HasValue x false a c → Is x a 0 c
is_of_pos nan a c h = absurd h
is_of_pos (inf s) a c h = absurd h
is_of_pos (fin true m e) a c h = absurd (true≢false h.0)
is_of_pos (fin false m e) a c h = (tt, omega arith)

pub is_of_neg : (x : Float) (a c : ℕ) → HasValue x true a c → Is x 0 a c
is_of_neg nan a c h = absurd h
is_of_neg (inf s) a c h = absurd h
is_of_neg (fin false m e) a c h = absurd (true≢false (sym h.0))
is_of_neg (fin true m e) a c h = (tt, omega arith)

pub value_is : (x : Float) (p n c a : ℕ) → Is x p n c → Apart p n a → HasValue x (sign x) a c
value_is nan p n c a h e = absurd h.0
value_is (inf s) p n c a h e = absurd h.0
value_is (fin s m k) p n c a h e = (refl, size_is (fin s m k) p n c a h e)

pub unsigned_value : (x : Float) (a c : ℕ) → T (unsigned x) → Is x a 0 c → HasValue x false a c
unsigned_value x a c u h = rw (unsigned_sign x u) at (value_is x a 0 c a h (inl (sym (zero-add a))))

-- ---- the order: `lt` and `eq` compare the sizes over a common denominator
equal : (a b : ℕ) → a ≡ b → T (eqb a b && true)
equal a b e = search (and_i, eq→eqb)

of_equal : (a b : ℕ) → T (eqb a b && true) → a ≡ b
of_equal a b t = search (eqb→eq, and_l)

zeros : (a b : ℕ) → a + b ≡ 0 → T (eqb a b && eqb a 0)
zeros a b e = rw (eq-eqb a b (omega arith), eq-eqb a 0 (omega arith)) tt

of_zeros : (a b : ℕ) → T (eqb a b && eqb a 0) → a + b ≡ 0
of_zeros a b t =
    let e : a ≡ b = search (eqb→eq, and_l) in let z : a ≡ 0 = search (eqb→eq, and_r) in omega arith

pub either : (a b : Bool) → T (a || b) ↔ (T a ⊎ T b)
either true b = (λ t. inl tt, λ s. tt)
either false b = (λ t. inr t, λ s. elim s [ inl t ↦ absurd t | inr t ↦ t ])

ruleset tests = (ltb→lt, lt→ltb, equal, of_equal, zeros, of_zeros)

compared : (x y : Float) → T (finite x) → T (finite y)
    → (T (lt x y) ↔ Lt (top x) (bot x) (den x) (top y) (bot y) (den y))
    × (T (eq x y) ↔ Equal (top x) (bot x) (den x) (top y) (bot y) (den y))
unfolding lt eq
compared nan y p q = absurd p
compared (inf s) y p q = absurd p
compared (fin s m e) nan p q = absurd q
compared (fin s m e) (inf t) p q = absurd q
compared (fin false m e) (fin false n d) p q = omega (arith, tests)
compared (fin false m e) (fin true n d) p q = omega (arith, tests)
compared (fin true m e) (fin false n d) p q = omega (arith, tests)
compared (fin true m e) (fin true n d) p q = omega (arith, tests)

pub lt_of : (x y : Float) → T (finite x) → T (finite y)
    → Lt (top x) (bot x) (den x) (top y) (bot y) (den y) → T (lt x y)
lt_of x y p q = (compared x y p q).0.1

pub of_lt : (x y : Float) → T (finite x) → T (finite y) → T (lt x y)
    → Lt (top x) (bot x) (den x) (top y) (bot y) (den y)
of_lt x y p q = (compared x y p q).0.0

pub le_of : (x y : Float) → T (finite x) → T (finite y)
    → Le (top x) (bot x) (den x) (top y) (bot y) (den y) → T (le x y)
unfolding le
le_of x y p q h =
    (either (lt x y) (eq x y)).1 (elim (eq-or-lt_of_le h) [
      | inl e ↦ inr ((compared x y p q).1.1 e)
      | inr l ↦ inl (lt_of x y p q l)
    ])

pub of_le : (x y : Float) → T (finite x) → T (finite y) → T (le x y)
    → Le (top x) (bot x) (den x) (top y) (bot y) (den y)
unfolding le
of_le x y p q h = elim ((either (lt x y) (eq x y)).0 h) [
  | inl l ↦ le_of_lt (of_lt x y p q l)
  | inr e ↦ le_of_eq ((compared x y p q).1.0 e)
]

-- ---- the order by any fractions that the two equal
pub is→le : (x : Float) (p n c : ℕ) → Is x p n c → Le (top x) (bot x) (den x) p n c
is→le x p n c h = omega arith

pub is→ge : (x : Float) (p n c : ℕ) → Is x p n c → Le p n c (top x) (bot x) (den x)
is→ge x p n c h = omega arith

pub le_of_is : (x y : Float) (p n c q m d : ℕ) → 0 < c → 0 < d → Is x p n c → Is y q m d
    → Le p n c q m d → T (le x y)
le_of_is x y p n c q m d C D h k l =
    le_of x y h.0 k.0
    (le_through _ _ _ p n c _ _ _ C (is→le x p n c h)
    (le_through p n c q m d _ _ _ D l (is→ge y q m d k)))

pub is_of_le : (x y : Float) (p n c q m d : ℕ) → Is x p n c → Is y q m d → T (le x y)
    → Le p n c q m d
is_of_le x y p n c q m d h k l =
    le_through p n c _ _ _ q m d (den_pos x) (is→ge x p n c h)
    (le_through _ _ _ _ _ _ q m d (den_pos y) (of_le x y h.0 k.0 l) (is→le y q m d k))

-- a test that failed
pub le_of_nlt : (x y : Float) → T (finite x) → T (finite y) → T (not (lt x y)) → T (le y x)
le_of_nlt x y p q h =
    le_of y x q p (le_of_suc-le-suc (lt_of_not-le (λ l. T_not (lt x y) h (lt_of x y p q l))))

-- a float that is at least 0 as a fraction without a sign
pub not_below : (v : Float) → T (finite v) → bot v ≤ top v → Is v (top v) 0 (den v)
not_below nan f h = absurd f
not_below (inf s) f h = absurd f
not_below (fin false m e) f h = (tt, refl)
not_below (fin true m e) f h = (tt, omega (arith, mul-le-mul_right (down e) h))
