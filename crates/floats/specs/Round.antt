-- The float that a signed fraction (p - n) / c is rounded to: the sign goes through, the order is
-- kept, and only the fraction's value counts.
use Rattle.std.specs.Prelude.{◌≡◌, ℕ, zero, suc, ◌+◌, ◌*◌, ◌^◌, ◌<◌, Bool, true, false, not, cond, T, ltb, Float}
use Rattle.std.proofs.Math.Path.{refl}
use Rattle.std.proofs.Common.{sym, ap, ◌∙◌, le_of_eq, lt_of_le_of_lt, le_of_mul-le-mul_right, zero-mul, arith, pow_pos}
use Rattle.std.proofs.Math.Nat.{le_dest, eq_of_mul-eq-mul_right}
use Rattle.std.specs.Float.{nan, inf, fin, Format}
use Rattle.std.specs.Float.Ieee.{prec, emax, low, odd, units, round, neg, le}
use Rattle.std.specs.Float.Ieee.Fits.{round_is}
use Rattle.std.specs.Float.Ieee.Exact.{HasValue, round_exact}
use Rattle.std.specs.Float.Ieee.Order.{drop, kept, round_mono}
use Rattle.std.specs.Float.Ieee.Scale.{round_same}
use Rattle.floats.specs.Signed.{Le, Equal}
use Rattle.floats.specs.Value.{Is, is_of_pos, is_of_neg, le_of_is, unsigned}
use Rattle.floats.specs.Order.{le_neg, le_cross}

-- z is (p - n) / c rounded. At p = n it is a zero of either sign.
pub data Rounds (f : Format) (z : Float) (p n c : ℕ) : Type 0 where
  over : (a : ℕ) → p ≡ n + a → z ≡ round f false a c → Rounds f z p n c
  under : (a : ℕ) → n ≡ p + a → z ≡ round f true a c → Rounds f z p n c

-- ---- the sign goes through
neg_odd : (d q k l : ℕ) → neg (odd d false q k l) ≡ odd d true q k l
unfolding odd neg
neg_odd d zero k l = refl
neg_odd d (suc q) k l = refl

neg_units : (f : Format) (q k : ℕ) → neg (units f false q k) ≡ units f true q k
unfolding units
neg_units f q k = go (ltb (q * 2 ^ k) (2 ^ (low f + suc (emax f))))
  where
    go : (b : Bool)
        → neg (cond b (odd (suc (prec f)) false q k (low f)) (inf false))
        ≡ cond b (odd (suc (prec f)) true q k (low f)) (inf true)
    go true = neg_odd (suc (prec f)) q k (low f)
    go false = unfold neg in refl

pub round_neg : (f : Format) (a c : ℕ) → neg (round f false a c) ≡ round f true a c
round_neg f a c =
    let q = kept (prec f) (a * 2 ^ low f) c in
    let k = drop (prec f) (a * 2 ^ low f) c in
    ap neg (round_is f false a c) ∙ neg_units f q k ∙ sym (round_is f true a c)

pub neg_twice : (x : Float) → neg (neg x) ≡ x
unfolding neg
neg_twice nan = refl
neg_twice (inf true) = refl
neg_twice (inf false) = refl
neg_twice (fin true m e) = refl
neg_twice (fin false m e) = refl

pub round_opposite : (f : Format) (s : Bool) (a c : ℕ) → neg (round f s a c) ≡ round f (not s) a c
round_opposite f false a c = round_neg f a c
round_opposite f true a c = ap neg (sym (round_neg f a c)) ∙ neg_twice _

pub rounds_neg : (f : Format) (z : Float) (p n c : ℕ) → Rounds f z p n c → Rounds f (neg z) n p c
rounds_neg f z p n c (over a e i) = under a e (ap neg i ∙ round_opposite f false a c)
rounds_neg f z p n c (under a e i) = over a e (ap neg i ∙ round_opposite f true a c)

odd_unsigned : (d q k l : ℕ) → T (unsigned (odd d false q k l))
unfolding odd
odd_unsigned d zero k l = tt
odd_unsigned d (suc q) k l = tt

units_unsigned : (f : Format) (q k : ℕ) → T (unsigned (units f false q k))
unfolding units
units_unsigned f q k = go (ltb (q * 2 ^ k) (2 ^ (low f + suc (emax f))))
  where
    go : (b : Bool) → T (unsigned (cond b (odd (suc (prec f)) false q k (low f)) (inf false)))
    go true = odd_unsigned (suc (prec f)) q k (low f)
    go false = tt

pub round_unsigned : (f : Format) (a c : ℕ) → T (unsigned (round f false a c))
round_unsigned f a c = rw round_is (units_unsigned f _ _)

-- ---- zero
zero_is : (f : Format) (s : Bool) (c : ℕ) → 0 < c → HasValue (round f s 0 c) s 0 c
zero_is f s c C =
    round_exact f s 0 c 0 0 C (pow_pos _) (lt_of_le_of_lt (le_of_eq (zero-mul (2 ^ 0))) (pow_pos _))
    (simp zero-mul)

pub round_zero : (f : Format) (s : Bool) (c : ℕ) → 0 < c → Is (round f s 0 c) 0 0 c
round_zero f true c C = is_of_neg (round f true 0 c) 0 c (zero_is f true c C)
round_zero f false c C = is_of_pos (round f false 0 c) 0 c (zero_is f false c C)

-- ---- the order is kept, overflow and all sign pairs included
zeros : (f : Format) (a c b d : ℕ) → 0 < c → 0 < d → a ≡ 0 → b ≡ 0
    → T (le (round f false a c) (round f true b d))
zeros f a c b d C D z w =
    rw (z, w) (le_of_is _ _ 0 0 c 0 0 d C D (round_zero f false c C) (round_zero f true d D)
    (omega arith))

pub rounds_mono : (f : Format) (z w : Float) (p n c q m d : ℕ) → 0 < c → 0 < d → Rounds f z p n c
    → Rounds f w q m d → Le p n c q m d → T (le z w)
rounds_mono f z w p n c q m d C D (over a e i) (over b g j) h =
    rw (i, j) (round_mono f a c b d C D (omega (arith, ap (◌* d) e, ap (◌* c) g)))
rounds_mono f z w p n c q m d C D (over a e i) (under b g j) h =
    let s = ap (◌* d) e in
    let t = ap (◌* c) g in
    rw (i, j)
    (zeros f a c b d C D (eq_of_mul-eq-mul_right d D a 0 (omega arith))
    (eq_of_mul-eq-mul_right c C b 0 (omega arith)))
rounds_mono f z w p n c q m d C D (under a e i) (over b g j) h =
    rw (i, j, ← round_neg) (le_cross _ _ (round_unsigned f a c) (round_unsigned f b d))
rounds_mono f z w p n c q m d C D (under a e i) (under b g j) h =
    rw (i, j, ← round_neg f a c, ← round_neg f b d)
    (le_neg _ _ (round_mono f b d a c D C (omega (arith, ap (◌* d) e, ap (◌* c) g))))

-- ---- only the fraction's value counts
size_of : (p n c q m d a : ℕ) → 0 < c → p ≡ n + a → Equal p n c q m d
    → (b : ℕ) × (q ≡ m + b) × (a * d ≡ b * c)
size_of p n c q m d a C e h =
    let s = ap (◌* d) e in
    let k = le_dest (le_of_mul-le-mul_right {m = m} {n = q} {k = c} (omega arith) C) in
    (k.0, sym k.1, omega (arith, ap (◌* c) k.1))

pub rounds_same : (f : Format) (z : Float) (p n c q m d : ℕ) → 0 < c → 0 < d → Rounds f z p n c
    → Equal p n c q m d → Rounds f z q m d
rounds_same f z p n c q m d C D (over a e i) h =
    let b = size_of p n c q m d a C e h in
    over b.0 b.1 (i ∙ round_same f false a c b.0 d C D b.2)
rounds_same f z p n c q m d C D (under a e i) h =
    let b = size_of n p c m q d a C e (omega arith) in
    under b.0 b.1 (i ∙ round_same f true a c b.0 d C D b.2)
