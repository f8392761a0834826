-- How large squares, sums of squares and roots are, by powers of two in the units of `Within`; and
-- between which powers a number lies.
use Rattle.std.specs.Prelude.{◌≡◌, ◌⊎◌, ℕ, zero, suc, ◌+◌, ◌*◌, ◌/◌, ◌^◌, ◌≤◌, ◌<◌, T, Float}
use Rattle.std.proofs.Math.Path.{refl}
use Rattle.std.proofs.Common.{sym, ◌∙◌, subst, inl, inr, true≢false, zero-le, le_trans, le_of_eq, le_of_lt, lt_of_not-le, not-le_of_lt, zero-mul, mul-pos, mul-le-mul_right, mul_comm, le-div_iff_mul-le, arith, pow-add, pow_pos, pow_mono}
use Rattle.std.proofs.Math.Bool.{true, false}
use Rattle.std.proofs.Math.Nat.{div-le_of_le-mul}
use Rattle.std.proofs.Math.Decide.{dec_le}
use Rattle.std.specs.Float.{nan, inf, fin, binary32}
use Rattle.std.specs.Float.Ieee.{up, down, lt}
use Rattle.std.specs.Float.Ieee.Exact.{HasValue}
use Rattle.std.specs.Float.Ieee.Fits.{down_pos}
use Rattle.std.specs.Float.Ieee.Positive.{num, den}
use Rattle.floats.specs.Notation.{◌⊕◌, ◌⊗◌}
use Rattle.floats.specs.Value.{unsigned, unsigned_sign, absolute}
use Rattle.floats.specs.Order.{le_of_lt as le-of-below, not_lt_of_le}
use Rattle.floats.specs.Ops.{add_commutes}
use Rattle.floats.specs.Sign.{add_unsigned, square_unsigned}
use Rattle.floats.specs.Within.{
  Within,
  Beyond,
  within_of,
  beyond_of,
  within_zero,
  widen,
  within_add,
  within_mul,
  beyond_add,
}
use Rattle.single.specs.Root.{root_of_units, root_of}
use Rattle.single.specs.RootUnits.{root_most, root_between}
use Rattle.table_facts.specs.Sizes.{Guard, passed}

-- ---- x is from +0 to 2 ^ k units
pub record FromZero (x : Float) (k : ℕ) : Type 0 where
  pub most : Within x k
  pub plus : T (unsigned x)

pub square_from_zero : {x : Float} {j : ℕ} (t : ℕ) → Within x j → j + j ≤ t + 149 → t ≤ 276
    → FromZero (x ⊗ x) t
square_from_zero {x} t w h K =
    record { most = within_mul t w w h K; plus = square_unsigned binary32 x w.most.fin }

pub sum_from_zero : {x y : Float} {k : ℕ} → FromZero x k → FromZero y k → k < 276
    → FromZero (x ⊕ y) (suc k)
sum_from_zero {x} {y} v w K = record {
  most = within_add v.most w.most K;
  plus = add_unsigned binary32 x y v.most.most.fin w.most.most.fin v.plus w.plus;
}

-- one term alone
pub term_beyond : {x y : Float} {k l : ℕ} → FromZero x k → FromZero y k → k < 276 → Beyond x l
    → l ≤ 276 → Beyond (x ⊕ y) l × Beyond (y ⊕ x) l
term_beyond {x} {y} v w K b L =
    let least =
    beyond_add b w.most (unsigned_sign x v.plus ∙ sym (unsigned_sign y w.plus))
    (within_add v.most w.most K) L in
    (least, rw (add_commutes binary32 y x) least)

-- what is above a guard
pub above_guard : {x g : Float} {k l : ℕ} → FromZero x k → Guard g l → lt g x ≡ true → Beyond x l
above_guard {x} {g} v guard h =
    passed v.most guard
    (rw (absolute_plus x v.plus) (not_lt_of_le g x (le-of-below g x (subst T (sym h) tt))))
  where
    absolute_plus : (x : Float) → T (unsigned x) → absolute x ≡ x
    absolute_plus nan u = absurd u
    absolute_plus (inf true) u = absurd u
    absolute_plus (inf false) u = unfold absolute in refl
    absolute_plus (fin true m e) u = absurd u
    absolute_plus (fin false m e) u = unfold absolute in refl

-- ---- a root of n units, where n is x's units times 2 ^ 149
value_from_zero : (x : Float) (g k : ℕ) → HasValue x false g (2 ^ 149) → g ≤ 2 ^ k → FromZero x k
value_from_zero nan g k v h = absurd v
value_from_zero (inf s) g k v h = absurd v
value_from_zero (fin true m e) g k v h = absurd (true≢false v.0)
value_from_zero (fin false m e) g k v h =
    record {
      most = within_of tt (le_trans (le_of_eq v.1) (mul-le-mul_right (down e) h));
      plus = tt;
    }

value_beyond : (x : Float) (g l : ℕ) → HasValue x false g (2 ^ 149) → 2 ^ l ≤ g → Beyond x l
value_beyond nan g l v h = absurd v
value_beyond (inf s) g l v h = absurd v
value_beyond (fin s m e) g l v h =
    beyond_of tt (le_trans (mul-le-mul_right (down e) h) (le_of_eq (sym v.1)))

powers : (i j k l : ℕ) → i + j ≤ k + l → 2 ^ i * 2 ^ j ≤ 2 ^ k * 2 ^ l
powers i j k l h =
    le_trans (le_of_eq (sym (pow-add 2 i j))) (le_trans (pow_mono h) (le_of_eq (pow-add 2 k l)))

-- n against the square of 2 ^ t units
units_most : (a d k t : ℕ) → a ≤ 2 ^ k * d → k + 149 ≤ t + t → a / d * 2 ^ 149 ≤ 2 ^ t * 2 ^ t
units_most a d k t h l =
    le_trans (mul-le-mul_right (2 ^ 149) (div-le_of_le-mul d (rw mul_comm h))) (powers k 149 t t l)

root_bounds : {x : Float} {k : ℕ} (t : ℕ) → FromZero x k → k + 149 ≤ t + t → t ≤ 276
    → FromZero (root_of x) t × ((u l : ℕ) → Beyond x l → u + u ≤ l + 149 → Beyond (root_of x) u)
unfolding root_of
root_bounds {x = nan} t v h K = absurd v.plus
root_bounds {x = inf true} t v h K = absurd v.plus
root_bounds {x = inf false} t v h K = absurd v.most.most.fin
root_bounds {x = fin true m e} t v h K = absurd v.plus
root_bounds {x = fin false zero e} t v h K = (
  record { most = within_zero (fin false 0 e) t (tt, omega arith); plus = tt },
  λ u l w g.
      absurd (not-le_of_lt (mul-pos (pow_pos l) (down_pos e)) (simp zero-mul at w.least.least)),
)
root_bounds {x = fin false (suc m) e} {k} t v h K =
    let a = suc m * up e * 2 ^ 149 in
    let n = a / down e * 2 ^ 149 in
    let most = units_most a (down e) k t v.most.most.most h in
    let r = root_most n t most K in (
      value_from_zero (root_of_units n) r.0 t r.1 r.2,
      λ u l w g.
          let least : 2 ^ u * 2 ^ u ≤ n =
          le_trans (powers u u l 149 g)
          (mul-le-mul_right (2 ^ 149) ((le-div_iff_mul-le (down_pos e)).1 w.least.least)) in
          let s = root_between n u t least most K in
          value_beyond (root_of_units n) s.0 u s.1 s.2,
    )

pub root_from_zero : {x : Float} {k : ℕ} (t : ℕ) → FromZero x k → k + 149 ≤ t + t → t ≤ 276
    → FromZero (root_of x) t
root_from_zero t v h K = (root_bounds t v h K).0

pub root_beyond : {x : Float} {k l : ℕ} (u t : ℕ) → FromZero x k → Beyond x l → u + u ≤ l + 149
    → k + 149 ≤ t + t → t ≤ 276 → Beyond (root_of x) u
root_beyond u t v w g h K = (root_bounds t v h K).1 u _ w g

-- ---- where a value lies: at most 2 ^ b units, or between two neighbouring powers from there on
pub size_of : (x : Float) (b k : ℕ) → Within x k
    → Within x b ⊎ ((p : ℕ) × (b ≤ p) × (p < k) × Beyond x p × Within x (suc p))
size_of x b zero w = inl (widen b w zero-le)
size_of x b (suc k) w = elim (dec_le (num x * 2 ^ 149) (2 ^ k * den x)) [
  | yes h ↦ elim (size_of x b k (within_of w.most.fin h)) [
    | inl a ↦ inl a
    | inr a ↦ inr (a.0, a.1, omega arith, a.3, a.4)
  ]
  | no h ↦ elim (dec_le b k) [
    | yes l ↦ inr (k, l, omega arith, beyond_of w.most.fin (le_of_lt (lt_of_not-le h)), w)
    | no l ↦ inl (widen b w (omega arith))
  ]
]
