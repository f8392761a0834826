-- Where a rounded result is an infinity: exactly from half a step above the largest float on.
-- Everything below has a nearest float.
use Rattle.std.specs.Prelude.{◌≡◌, ℕ, ◌+◌, ◌-◌, ◌*◌, ◌^◌, ◌≤◌, ◌<◌, Bool, true, false, pos, T, Float}
use Rattle.std.proofs.Math.Path.{refl}
use Rattle.std.proofs.Common.{sym, ap, ◌∙◌, le_trans, le_of_eq, lt_of_lt_of_le, lt_of_mul-lt-mul_right, mul-pos, mul-one, mul_right_comm, mul-lt-mul_of_pos_right, mul-le-mul_right, arith, lit<, lit≤, pow_pos}
use Rattle.std.specs.Float.{nan, inf, fin, binary32}
use Rattle.std.specs.Float.Ieee.{round, neg}
use Rattle.std.specs.Float.Ieee.Exact.{HasValue}
use Rattle.std.specs.Float.Ieee.Order.{round_mono}
use Rattle.std.specs.Float.Ieee.Scale.{finite}
use Rattle.floats.specs.Order.{over_top}
use Rattle.floats.specs.Round.{Rounds, over, under, neg_twice, rounds_neg}
use Rattle.floats.specs.Error.{grid_near, round_at, part_less}
use Rattle.floats.specs.NearestFloat.{NearestFloat, rounds_nearest}

-- Half a step above the largest float, which is (2 ^ 24 - 1) * 2 ^ 104; the step there is 2 ^ 104.
-- IEEE 754 writes it 2 ^ 127 * (2 - 2 ^ -24).
abbrev pub bound : ℕ
bound = (2 ^ 25 - 1) * 2 ^ 103

-- computed from both sides: itself, and what is less by a half
pub infinite_at_bound : round binary32 false bound 1 ≡ inf false
unfolding round
infinite_at_bound = refl

pub largest_below_bound : round binary32 false (2 * bound - 1) 2 ≡ fin false (2 ^ 24 - 1) (pos 104)
unfolding round
largest_below_bound = refl

-- ---- below it the result is finite
-- t is 2 ^ 252, and g the rounded a in units
less : (a c g t l : ℕ) → 0 < c → a * l < (2 ^ 25 - 1) * t * c → g * c * 2 ≤ a * l * 2 + c * (2 * t)
    → g < 2 ^ 25 * t
less a c g t l C h k = lt_of_mul-lt-mul_right c (omega arith)

finite_of : (x : Float) (s : Bool) (a c : ℕ) → HasValue x s a c → T (finite x)
finite_of nan s a c h = absurd h
finite_of (inf t) s a c h = absurd h
finite_of (fin t m e) s a c h = tt

in_range : (s : Bool) (a c : ℕ) → 0 < c → a < bound * c → T (finite (round binary32 s a c))
in_range s a c C h =
    let u : a * 2 ^ 149 < bound * 2 ^ 149 * c =
    lt_of_lt_of_le (mul-lt-mul_of_pos_right h (pow_pos 149))
    (le_of_eq (mul_right_comm bound c _)) in
    let w : a * 2 ^ 149 < 2 ^ 277 * c = lt_of_lt_of_le u (mul-le-mul_right c (lit≤ tt)) in
    finite_of (round binary32 s a c) s _ _
    (round_at _ s a c (less a c _ (2 ^ 252) _ C u (grid_near binary32 a c 253 C w).0))

pub rounds_finite : (z : Float) (p n c : ℕ) → 0 < c → Rounds binary32 z p n c → p < n + bound * c
    → n < p + bound * c → T (finite z)
rounds_finite z p n c C (over a e i) h g = rw i (in_range false a c C (part_less p n a _ e h))
rounds_finite z p n c C (under a e i) h g = rw i (in_range true a c C (part_less n p a _ e g))

-- so it is the nearest float
pub rounds_nearest_below : (z : Float) (p n c : ℕ) → 0 < c → Rounds binary32 z p n c
    → p < n + bound * c → n < p + bound * c
    → NearestFloat binary32 z p n c
rounds_nearest_below z p n c C r h g = rounds_nearest _ z p n c C r (rounds_finite z p n c C r h g)

-- ---- from it on an infinity
infinite : (a c : ℕ) → 0 < c → bound * c ≤ a → round binary32 false a c ≡ inf false
infinite a c C h =
    over_top _ (rw infinite_at_bound at
    (round_mono binary32 bound 1 a c (lit< tt) C (le_trans h (le_of_eq (sym (mul-one a))))))

positive : (c : ℕ) → 0 < c → 0 < bound * c
positive c C = mul-pos (lit< tt) C

pub rounds_infinite_above : (z : Float) (p n c : ℕ) → 0 < c → Rounds binary32 z p n c
    → n + bound * c ≤ p → z ≡ inf false
rounds_infinite_above z p n c C (over a e i) h = i ∙ infinite a c C (at_least n a p _ e h)
  where
    at_least : (n a p b : ℕ) → p ≡ n + a → n + b ≤ p → b ≤ a
    at_least n a p b e h = omega arith
rounds_infinite_above z p n c C (under a e i) h = absurd (none n a p (bound * c) e h (positive c C))
  where
    none : (n a p b : ℕ) → n ≡ p + a → n + b ≤ p → 0 < b → ⊥
    none n a p b e h l = omega arith

pub rounds_infinite_below : (z : Float) (p n c : ℕ) → 0 < c → Rounds binary32 z p n c
    → p + bound * c ≤ n → z ≡ inf true
rounds_infinite_below z p n c C r h =
    let i = rounds_infinite_above _ n p c C (rounds_neg _ z p n c r) h in
    sym (neg_twice z) ∙ ap neg i ∙ minus
  where
    minus : neg (inf false) ≡ inf true
    minus = unfold neg in refl
