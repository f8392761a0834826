-- The sign of a result, as IEEE 754 has it, zeros and infinities included: that of the exact value
-- where it is no zero, and where it is one, + for a sum or difference unless both terms have -; of
-- a product and a quotient, - where one operand's sign is and the other's is not. Then results that
-- have no sign bit, not even as a zero: a sum of two such, a difference that is not below zero, a
-- square.
use Rattle.std.specs.Prelude.{◌≡◌, refl, ℕ, ◌+◌, ◌-◌, ◌*◌, ◌<◌, Bool, true, false, not, ◌&&◌, cond, T, eqb, Float}
use Rattle.std.proofs.Common.{sym, ap, ◌∙◌, mul-pos, arith, le-ltb}
use Rattle.std.proofs.Math.Nat.{eq_of_mul-eq-mul_right}
use Rattle.std.specs.Float.{nan, inf, fin, Format}
use Rattle.std.specs.Float.Ieee.{up, down, unlike, round, neg, sum, add, sub, mul, div, le, is_nan}
use Rattle.std.specs.Float.Ieee.Fits.{down_pos}
use Rattle.std.specs.Float.Ieee.Bits.{is_false}
use Rattle.std.specs.Float.Ieee.Positive.{den}
use Rattle.std.specs.Float.Ieee.Scale.{finite}
use Rattle.floats.specs.Value.{top, bot, Is, is_neg, sign, unsigned, unsigned_sign, nought}
use Rattle.floats.specs.Value.{of_le}
use Rattle.floats.specs.Round.{Rounds, over, under, round_neg, round_unsigned}
use Rattle.floats.specs.Ops.{add_is, sub_is, mul_is, unlike_self}
use Rattle.floats.specs.Zero.{round_nought}

-- ---- the sign of what is rounded stays, also where it is rounded to a zero or an infinity
neg_sign : (x : Float) → T (unsigned x) → sign (neg x) ≡ true
unfolding neg
neg_sign nan u = absurd u
neg_sign (inf s) u = ap not (is_false s u)
neg_sign (fin s m e) u = ap not (is_false s u)

pub round_sign : (f : Format) (s : Bool) (a c : ℕ) → sign (round f s a c) ≡ s
round_sign f false a c = unsigned_sign (round f false a c) (round_unsigned f a c)
round_sign f true a c = ap sign (sym (round_neg f a c)) ∙ neg_sign _ (round_unsigned f a c)

pub rounds_sign_above : (f : Format) (z : Float) (p n c : ℕ) → Rounds f z p n c → n < p
    → sign z ≡ false
rounds_sign_above f z p n c (over a e i) h = ap sign i ∙ round_sign f false a c
rounds_sign_above f z p n c (under a e i) h = absurd (omega arith)

pub rounds_sign_below : (f : Format) (z : Float) (p n c : ℕ) → Rounds f z p n c → p < n
    → sign z ≡ true
rounds_sign_below f z p n c (over a e i) h = absurd (omega arith)
rounds_sign_below f z p n c (under a e i) h = ap sign i ∙ round_sign f true a c

-- ---- a sum that is exactly zero: -0 where both terms have the sign -, as only zeros can; else +0
balanced : (f : Format) (x y : Float) → T (finite x) → T (finite y)
    → top x * den y + top y * den x ≡ bot x * den y + bot y * den x
    → add f x y ≡ nought (sign x && sign y)
unfolding add sum
balanced f nan y p q z = absurd p
balanced f (inf s) y p q z = absurd p
balanced f (fin s m e) nan p q z = absurd q
balanced f (fin s m e) (inf t) p q z = absurd q
balanced f (fin false m e) (fin false l d) p q z =
    round_nought f false _ _ (mul-pos (down_pos e) (down_pos d)) (omega arith)
balanced f (fin true m e) (fin true l d) p q z =
    round_nought f true _ _ (mul-pos (down_pos e) (down_pos d)) (omega arith)
balanced f (fin false m e) (fin true l d) p q z =
    let a = m * up e * down d in
    let b = l * up d * down e in
    rw (le-ltb a b (omega arith))
    (round_nought f false (a - b) _ (mul-pos (down_pos e) (down_pos d)) (omega arith))
balanced f (fin true m e) (fin false l d) p q z =
    let a = m * up e * down d in
    let b = l * up d * down e in
    rw (le-ltb a b (omega arith), le-ltb b a (omega arith))
    (round_nought f false (a - b) _ (mul-pos (down_pos e) (down_pos d)) (omega arith))

pub sum_zero : (f : Format) (x y : Float) (p n c : ℕ) → 0 < c → Is x p n c → Is y n p c
    → add f x y ≡ nought (sign x && sign y)
sum_zero f x y p n c C h k =
    balanced f x y h.0 k.0
    (eq_of_mul-eq-mul_right c C _ _ (omega (arith, ap (◌* den y) h.1, ap (◌* den x) k.1)))

finite_sign_neg : (x : Float) → T (finite x) → sign (neg x) ≡ not (sign x)
unfolding neg
finite_sign_neg nan p = absurd p
finite_sign_neg (inf s) p = absurd p
finite_sign_neg (fin s m e) p = refl

-- a number minus its equal is +0, but for -0 - (+0), which is -0
pub difference_zero : (f : Format) (x y : Float) (p n c : ℕ) → 0 < c → Is x p n c → Is y p n c
    → sub f x y ≡ nought (sign x && not (sign y))
difference_zero f x y p n c C h k =
    rw (sub_is, ← finite_sign_neg y k.0) (sum_zero f x _ p n c C h (is_neg y p n c k))

-- ---- the sign of a product and of a quotient, unless they are NaN
or_nan : (b : Bool) (s : Bool) → T (not (is_nan (cond b nan (inf s))))
    → sign (cond b nan (inf s)) ≡ s
unfolding is_nan
or_nan true s h = absurd h
or_nan false s h = refl

pub mul_sign : (f : Format) (x y : Float) → T (not (is_nan (mul f x y)))
    → sign (mul f x y) ≡ unlike (sign x) (sign y)
unfolding mul is_nan
mul_sign f nan y h = absurd h
mul_sign f (inf s) nan h = absurd h
mul_sign f (inf s) (inf t) h = refl
mul_sign f (inf s) (fin t n d) h = or_nan (eqb n 0) _ h
mul_sign f (fin s m e) nan h = absurd h
mul_sign f (fin s m e) (inf t) h = or_nan (eqb m 0) _ h
mul_sign f (fin s m e) (fin t n d) h = round_sign f _ _ _

pub div_sign : (f : Format) (x y : Float) → T (not (is_nan (div f x y)))
    → sign (div f x y) ≡ unlike (sign x) (sign y)
unfolding div is_nan
div_sign f nan y h = absurd h
div_sign f (inf s) nan h = absurd h
div_sign f (inf s) (inf t) h = absurd h
div_sign f (inf s) (fin t n d) h = refl
div_sign f (fin s m e) nan h = absurd h
div_sign f (fin s m e) (inf t) h = refl
div_sign f (fin s m e) (fin t n d) h = go (eqb n 0) h
  where
    z : Float
    z = round f (unlike s t) (m * up e * down d) (n * up d * down e)

    go : (b : Bool) → T (not (is_nan (cond b (cond (eqb m 0) nan (inf (unlike s t))) z)))
        → sign (cond b (cond (eqb m 0) nan (inf (unlike s t))) z) ≡ unlike s t
    go true i = or_nan (eqb m 0) _ i
    go false i = round_sign f _ _ (n * up d * down e)

-- ---- results that have no sign bit
pub add_unsigned : (f : Format) (x y : Float) → T (finite x) → T (finite y) → T (unsigned x)
    → T (unsigned y) → T (unsigned (add f x y))
unfolding sum
add_unsigned f x y p q u w =
    rw (add_is f x y p q, unsigned_sign x u, unsigned_sign y w) (round_unsigned f _ _)

pub sub_unsigned : (f : Format) (x y : Float) → T (finite x) → T (finite y) → T (unsigned x)
    → T (unsigned y) → T (le y x) → T (unsigned (sub f x y))
unfolding sub add neg sum
sub_unsigned f nan y p q u w h = absurd p
sub_unsigned f (inf s) y p q u w h = absurd p
sub_unsigned f (fin true m e) y p q u w h = absurd u
sub_unsigned f (fin false m e) nan p q u w h = absurd q
sub_unsigned f (fin false m e) (inf t) p q u w h = absurd q
sub_unsigned f (fin false m e) (fin true n d) p q u w h = absurd w
sub_unsigned f (fin false m e) (fin false n d) p q u w h =
    let a = m * up e * down d in
    let b = n * up d * down e in
    rw (le-ltb a b (omega (arith, of_le _ _ tt tt h))) (round_unsigned f (a - b) _)

pub square_unsigned : (f : Format) (x : Float) → T (finite x) → T (unsigned (mul f x x))
square_unsigned f x p = rw (mul_is f x x p p, unlike_self _) (round_unsigned f _ _)
