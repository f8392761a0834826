-- The order of all floats, the infinities with them. A NaN is neither below nor above anything.
use Rattle.std.specs.Prelude.{◌≡◌, refl, ℕ, ◌<◌, Bool, true, false, not, T, Float}
use Rattle.std.proofs.Common.{inl, le_refl, not-le_of_lt, arith}
use Rattle.std.proofs.Math.Bool.{or-false}
use Rattle.std.specs.Float.{nan, inf, fin}
use Rattle.std.specs.Float.Ieee.{is_nan, neg, lt, eq, le}
use Rattle.std.specs.Float.Ieee.Bits.{is_false}
use Rattle.std.specs.Float.Ieee.Scale.{finite}
use Rattle.std.specs.Float.Ieee.Positive.{den_pos}
use Rattle.floats.specs.Signed.{le_through}
use Rattle.floats.specs.Value.{
  Is,
  own,
  is_neg,
  unsigned,
  le_of,
  of_le,
  le_of_is,
  of_lt,
  le_of_nlt,
  either,
}

-- a comparison that holds has no NaN
pub le_numbers : (x y : Float) → T (le x y) → T (not (is_nan x)) × T (not (is_nan y))
unfolding is_nan le
le_numbers nan y h = absurd h
le_numbers (inf s) nan h = absurd h
le_numbers (inf s) (inf t) h = (tt, tt)
le_numbers (inf s) (fin t n d) h = (tt, tt)
le_numbers (fin s m e) nan h = absurd h
le_numbers (fin s m e) (inf t) h = (tt, tt)
le_numbers (fin s m e) (fin t n d) h = (tt, tt)

-- ---- nothing lies past an infinity
pub over_top : (x : Float) → T (le (inf false) x) → x ≡ inf false
unfolding le
over_top nan h = absurd h
over_top (inf true) h = absurd h
over_top (inf false) h = refl
over_top (fin s m e) h = absurd h

pub under_bottom : (x : Float) → T (le x (inf true)) → x ≡ inf true
unfolding le
under_bottom nan h = absurd h
under_bottom (inf true) h = refl
under_bottom (inf false) h = absurd h
under_bottom (fin s m e) h = absurd h

-- what lies between two finite floats is finite
pub finite_between : (a z b : Float) → T (finite a) → T (finite b) → T (le a z) → T (le z b)
    → T (finite z)
unfolding le
finite_between a nan b p q h k = absurd k
finite_between nan (inf s) b p q h k = absurd p
finite_between (inf r) (inf s) b p q h k = absurd p
finite_between (fin r m e) (inf true) b p q h k = absurd h
finite_between (fin r m e) (inf false) b p q h k = let e = over_top b k in rw e at q
finite_between a (fin s n d) b p q h k = tt

pub le_trans : (x y z : Float) → T (le x y) → T (le y z) → T (le x z)
unfolding le is_nan
le_trans nan y z h k = absurd h
le_trans (inf true) y nan h k = (le_numbers y nan k).1
le_trans (inf true) y (inf true) h k = tt
le_trans (inf true) y (inf false) h k = tt
le_trans (inf true) y (fin u o c) h k = tt
le_trans (inf false) y z h k = rw (over_top y h) at k
le_trans (fin s m e) y nan h k = (le_numbers y nan k).1
le_trans (fin s m e) y (inf true) h k = rw (under_bottom y k) at h
le_trans (fin s m e) y (inf false) h k = tt
le_trans (fin s m e) y (fin u o c) h k =
    let x = fin s m e in
    let z = fin u o c in
    let f = finite_between x y z tt tt h k in
    le_of x z tt tt (le_through _ _ _ _ _ _ _ _ _ (den_pos y) (of_le x y tt f h) (of_le y z f tt k))

-- ---- floats of one value are in the same order
module _ (x y z : Float) (p n c : ℕ) (C : 0 < c) (i : Is x p n c) (j : Is y p n c) where
  pub above_equal : T (le y z) → T (le x z)
  above_equal = le_trans x y z (le_of_is x y p n c p n c C C i j (le_refl _))

  pub below_equal : T (le z y) → T (le z x)
  below_equal l = le_trans z y x l (le_of_is y x p n c p n c C C j i (le_refl _))

-- ---- the strict order
pub le_of_lt : (x y : Float) → T (lt x y) → T (le x y)
unfolding le
le_of_lt x y h = (either (lt x y) (eq x y)).1 (inl h)

-- of two numbers y ≤ x holds where x < y does not, and only there
le_is_not_lt : (x y : Float) → T (not (is_nan x)) → T (not (is_nan y)) → le y x ≡ not (lt x y)
unfolding is_nan le
le_is_not_lt nan y p q = absurd p
le_is_not_lt (inf s) nan p q = absurd q
le_is_not_lt (inf true) (inf true) p q = refl
le_is_not_lt (inf true) (inf false) p q = refl
le_is_not_lt (inf false) (inf true) p q = refl
le_is_not_lt (inf false) (inf false) p q = refl
le_is_not_lt (inf s) (fin t n d) p q = or-false _
le_is_not_lt (fin s m e) nan p q = absurd q
le_is_not_lt (fin s m e) (inf true) p q = refl
le_is_not_lt (fin s m e) (inf false) p q = refl
le_is_not_lt (fin s m e) (fin t n d) p q =
    let x = fin s m e in
    let y = fin t n d in
    go (lt x y) (le y x) (le_of_nlt x y tt tt)
    (λ h k. not-le_of_lt (of_lt x y tt tt h) (of_le y x tt tt k))
  where
    go : (a b : Bool) → (T (not a) → T b) → (T a → T b → ⊥) → b ≡ not a
    go true true h k = absurd (k tt tt)
    go true false h k = refl
    go false true h k = refl
    go false false h k = absurd (h tt)

pub le_of_not_lt : (x y : Float) → T (not (is_nan x)) → T (not (is_nan y)) → lt x y ≡ false
    → T (le y x)
le_of_not_lt x y p q h = rw (le_is_not_lt x y p q, h) tt

pub not_lt_of_le : (x y : Float) → T (le x y) → lt y x ≡ false
not_lt_of_le x y h =
    let n = le_numbers x y h in is_false (lt y x) (rw (le_is_not_lt y x n.1 n.0) at h)

-- ---- a sign changed
pub le_neg : (x y : Float) → T (le x y) → T (le (neg y) (neg x))
unfolding le neg
le_neg nan y h = absurd h
le_neg (inf s) nan h = absurd h
le_neg (inf true) (inf true) h = tt
le_neg (inf true) (inf false) h = tt
le_neg (inf false) (inf true) h = absurd h
le_neg (inf false) (inf false) h = tt
le_neg (inf true) (fin t n d) h = tt
le_neg (inf false) (fin t n d) h = absurd h
le_neg (fin s m e) nan h = absurd h
le_neg (fin s m e) (inf true) h = absurd h
le_neg (fin s m e) (inf false) h = tt
le_neg (fin s m e) (fin t n d) h =
    let x = fin s m e in
    let y = fin t n d in
    le_of_is (fin (not t) n d) (fin (not s) m e) _ _ _ _ _ _ (den_pos y) (den_pos x)
    (is_neg y _ _ _ (own y tt)) (is_neg x _ _ _ (own x tt)) (omega (arith, of_le x y tt tt h))

-- what has a sign is not above what has none
pub le_cross : (x y : Float) → T (unsigned x) → T (unsigned y) → T (le (neg x) y)
unfolding le neg
le_cross nan y p q = absurd p
le_cross (inf true) y p q = absurd p
le_cross (inf false) nan p q = absurd q
le_cross (inf false) (inf true) p q = absurd q
le_cross (inf false) (inf false) p q = tt
le_cross (inf false) (fin t n d) p q = tt
le_cross (fin true m e) y p q = absurd p
le_cross (fin false m e) nan p q = absurd q
le_cross (fin false m e) (inf true) p q = absurd q
le_cross (fin false m e) (inf false) p q = tt
le_cross (fin false m e) (fin true n d) p q = absurd q
le_cross (fin false m e) (fin false n d) p q =
    le_of (fin true m e) (fin false n d) tt tt (omega arith)
