-- Bounds by powers of two, for chains of operations: the exponents add. `Within x k` says that x is
-- finite and at most 2 ^ k units in size, of which 1.0 has 2 ^ 149, and `Beyond x k` that it is
-- finite and at least that. The largest power of two of single precision is 2 ^ 276 units.
use Rattle.std.specs.Prelude.{◌≡◌, refl, ℕ, suc, ◌+◌, ◌*◌, ◌^◌, ◌≤◌, ◌<◌, Bool, true, false, cond, T, Float}
use Rattle.std.proofs.Common.{inl, zero-le, mul-le-mul_right, arith, lit<, pow-add, pow_pos, pow_mono}
use Rattle.std.proofs.Math.Nat.{two-pow-succ}
use Rattle.std.specs.Float.Ieee.{lt}
use Rattle.std.specs.Float.Ieee.Scale.{finite}
use Rattle.std.specs.Float.Ieee.Positive.{num, den}
use Rattle.floats.specs.Notation.{◌⊕◌, ◌⊖◌, ◌⊗◌, ◌⊘◌}
use Rattle.floats.specs.Value.{Is, Apart, sign, unsigned, absolute}
use Rattle.floats.specs.Exact.{rep_power}
use Rattle.floats.specs.Bound.{
  AtMost,
  AtLeast,
  at_most_is,
  at_least_zero,
  at_most_more,
  at_least_guarded,
}
use Rattle.floats.specs.Bound.{
  at_most_add,
  at_most_sub,
  at_most_mul,
  at_most_div,
  at_least_add,
  at_least_mul,
}

pub record Within (x : Float) (k : ℕ) : Type 0 where
  pub most : AtMost (2 ^ k) (2 ^ 149) x

pub record Beyond (x : Float) (k : ℕ) : Type 0 where
  pub least : AtLeast (2 ^ k) (2 ^ 149) x

-- ---- from a value
pub within_of : {x : Float} {k : ℕ} → T (finite x) → num x * 2 ^ 149 ≤ 2 ^ k * den x → Within x k
within_of f h = record { most = record { fin = f; unit = pow_pos 149; most = h } }

pub beyond_of : {x : Float} {k : ℕ} → T (finite x) → 2 ^ k * den x ≤ num x * 2 ^ 149 → Beyond x k
beyond_of f h = record { least = record { fin = f; unit = pow_pos 149; least = h } }

pub within_is : (x : Float) (p n c a k : ℕ) → 0 < c → Is x p n c → Apart p n a
    → a * 2 ^ 149 ≤ 2 ^ k * c → Within x k
within_is x p n c a k C h e l =
    record { most = at_most_more (2 ^ k) _ (pow_pos 149) l (at_most_is x p n c a C h e) }

pub within_zero : (x : Float) (k : ℕ) → Is x 0 0 1 → Within x k
within_zero x k h = within_is x 0 0 1 0 k (lit< tt) h (inl refl) zero-le

-- ---- the sizes of numbers, with the units in 1.0 as a variable u: omega reads
-- no number of that length
powers : (i j k l : ℕ) → i + j ≤ k + l → 2 ^ i * 2 ^ j ≤ 2 ^ k * 2 ^ l
powers i j k l h = rw (← pow-add 2 i j, ← pow-add 2 k l) (pow_mono h)

twice : (k u : ℕ) → (2 ^ k * u + 2 ^ k * u) * u ≤ 2 ^ suc k * (u * u)
twice k u = rw two-pow-succ (omega arith)

product : (a b t u : ℕ) → a * b ≤ t * u → a * b * u ≤ t * (u * u)
product a b t u h = omega (arith, mul-le-mul_right u h)

product_least : (a b t u : ℕ) → t * u ≤ a * b → t * (u * u) ≤ a * b * u
product_least a b t u h = omega (arith, mul-le-mul_right u h)

quotient : (a b t u : ℕ) → a * u ≤ t * b → a * u * u ≤ t * (u * b)
quotient a b t u h = omega (arith, mul-le-mul_right u h)

-- ---- the operations
pub widen : {x : Float} {j : ℕ} (k : ℕ) → Within x j → j ≤ k → Within x k
widen k w h =
    record {
      most = at_most_more (2 ^ k) _ (pow_pos 149) (mul-le-mul_right _ (pow_mono h)) w.most;
    }

pub within_cond : (b : Bool) {x y : Float} {k : ℕ} → Within x k → Within y k → Within (cond b x y) k
within_cond true v w = v
within_cond false v w = w

-- y need be bounded only where the test fails
pub within_test : (b : Bool) {x y : Float} {k : ℕ} → Within x k → (b ≡ false → Within y k)
    → Within (cond b x y) k
within_test true v w = v
within_test false v w = w refl

pub within_add : {x y : Float} {k : ℕ} → Within x k → Within y k → k < 276 → Within (x ⊕ y) (suc k)
within_add {k = k} v w K =
    record {
      most = at_most_add _ _ _ (pow_pos 149) (rep_power _ K) v.most w.most
          (twice k (2 ^ 149));
    }

pub within_sub : {x y : Float} {k : ℕ} → Within x k → Within y k → k < 276 → Within (x ⊖ y) (suc k)
within_sub {k = k} v w K =
    record {
      most = at_most_sub _ _ _ (pow_pos 149) (rep_power _ K) v.most w.most
          (twice k (2 ^ 149));
    }

pub within_mul : {x y : Float} {j k : ℕ} (t : ℕ) → Within x j → Within y k → j + k ≤ t + 149
    → t ≤ 276 → Within (x ⊗ y) t
within_mul {j = j} {k = k} t v w h K = record {
  most =
      at_most_mul _ (2 ^ t) _ (pow_pos 149) (rep_power t K) v.most w.most
      (product (2 ^ j) (2 ^ k) (2 ^ t) (2 ^ 149) (powers j k t 149 h));
}

pub within_div : {x y : Float} {j l : ℕ} (t : ℕ) → Within x j → Beyond y l → j + 149 ≤ t + l
    → t ≤ 276 → Within (x ⊘ y) t
within_div {j = j} {l = l} t v w h K = record {
  most =
      at_most_div _ (2 ^ t) _ (pow_pos 149) (rep_power t K) v.most w.least (pow_pos l)
      (quotient (2 ^ j) (2 ^ l) (2 ^ t) (2 ^ 149) (powers j 149 t l h));
}

-- ---- bounds from below, where nothing overflows
-- a sum of two terms with one sign is no smaller than either
pub beyond_add : {x y : Float} {i j k : ℕ} → Beyond x k → Within y i → sign x ≡ sign y
    → Within (x ⊕ y) j → k ≤ 276 → Beyond (x ⊕ y) k
beyond_add {y = y} {k = k} v w e z K = record {
  least =
      at_least_add _ (2 ^ k) _ (pow_pos 149) (rep_power k K) v.least
      (at_least_zero y w.most.fin) e (alone (2 ^ k) (2 ^ 149)) z.most.fin;
}
  where
    alone : (a u : ℕ) → a * (u * 1) ≤ (a * 1 + 0 * u) * u
    alone a u = omega arith

pub beyond_mul : {x y : Float} {i j k : ℕ} (t : ℕ) → Beyond x j → Beyond y k → t + 149 ≤ j + k
    → Within (x ⊗ y) i → t ≤ 276 → Beyond (x ⊗ y) t
beyond_mul {j = j} {k = k} t v w h z K = record {
  least =
      at_least_mul _ (2 ^ t) _ (pow_pos 149) (rep_power t K) v.least w.least
      (product_least (2 ^ j) (2 ^ k) (2 ^ t) _ (powers t 149 j k h)) z.most.fin;
}

-- what is not below a guard in size is at least what the guard is
pub guarded : {x guard : Float} {k l : ℕ} → Within x k → T (unsigned guard) → Beyond guard l
    → lt (absolute x) guard ≡ false → Beyond x l
guarded v u w h = record { least = at_least_guarded v.most.fin u w.least h }
