-- The tangents of MonotoneCubic and MonotoneCubicBox are finite. A segment leaves a tangent
-- as it is, or sets it to 0, or to at most 8 secants: the circle of radius 3 reaches no
-- further, roundings included.
use Rattle.std.specs.Prelude.{◌≡◌, refl, Bool, true, false, cond, List, eqb, Float}
use Rattle.std.proofs.Common.{inl, inr, arith, lit<, lit≤}
use Prim.Native.Nat.{ℕ, zero, suc, ◌+◌, ◌-◌, ◌≤◌, ◌<◌}
use Rattle.std.proofs.lemmas.Bool.{eqb-false}
use Rattle.std.specs.Float.Ieee.{lt}
use Rattle.floats.specs.Notation.{◌⊕◌, ◌⊗◌, ◌⊘◌}
use Rattle.floats.specs.Value.{absolute}
use Rattle.floats.specs.Within.{Within, Beyond, within_zero, widen, within_cond, within_test}
use Rattle.floats.specs.Within.{within_mul, within_div, beyond_mul}
use Rattle.single.specs.Constants.{𝟎, 𝟑, 𝟗, nano, 𝟎-is}
use Rattle.single.specs.Root.{root_of}
use Rattle.monotone.specs.declared.Tangents.{Tangents}
use Rattle.monotone.specs.Monotone.{
  secant_at,
  mean_at,
  nonnegative,
  capped,
  boxed,
  circled,
  adjusted,
  reached,
  monotone_at,
}
use Rattle.segments.specs.Rows.{Rows}
use Rattle.table_facts.specs.RootBounds.{
  FromZero,
  square_from_zero,
  sum_from_zero,
  term_beyond,
  above_guard,
  root_beyond,
  size_of,
}
use Rattle.table_facts.specs.Sizes.{
  half_within,
  three_within,
  plus,
  times,
  divided,
  either,
  nano_guard,
  nine_guard,
  passed,
  knot_small,
}
use Rattle.table_facts.specs.SlopeBounds.{slope_within}

-- ---- both tangents of a segment are at most 2 ^ 181 units
record Tame (t : Tangents) : Type 0 where
  left : Within t.left 181
  right : Within t.right 181

tame_cond : (b : Bool) {s t : Tangents} → (b ≡ true → Tame s) → (b ≡ false → Tame t)
    → Tame (cond b s t)
tame_cond true v w = v refl
tame_cond false v w = w refl

nonnegative_within : {m : Float} (q : Float) {k : ℕ} → Within m k → Within (nonnegative m q) k
nonnegative_within q {k} w = within_cond (lt q 𝟎) (within_zero 𝟎 k 𝟎-is) w

capped_within : {m d : Float} (q : Float) → Within m 181 → Within d 178 → Within (capped m q d) 181
capped_within q w v = either (lt 𝟑 q) (times three_within v tt) (nonnegative_within q w)

-- ---- the circle
square_within : {x : Float} → Within x 211 → FromZero (x ⊗ x) 273
square_within w = square_from_zero 273 w (lit≤ tt) (lit≤ tt)

-- a sum of two squares is at least each of them, as far as powers of two tell
squares_beyond : {x y : Float} (p : ℕ) → Within x 211 → Within y 211 → 150 ≤ p → p < 211
    → Beyond x p
    → Beyond (x ⊗ x ⊕ y ⊗ y) (p + p - 149) × Beyond (y ⊗ y ⊕ x ⊗ x) (p + p - 149)
squares_beyond p v w low high b =
    term_beyond (square_within v) (square_within w) (lit< tt)
    (beyond_mul (p + p - 149) b b (omega arith) (square_within v).most (omega arith)) (omega arith)

-- where s is above 9 and at least x squared, 3 x over the root of s is at most 8 in size
ratio_within : {x s : Float} → Within x 211 → FromZero s 274 → Beyond s 152
    → ((p : ℕ) → 150 ≤ p → p < 211 → Beyond x p → Beyond s (p + p - 149))
    → Within (𝟑 ⊘ root_of s ⊗ x) 152
ratio_within {x} v w nine squared = elim (size_of x 150 211 v) [
  | inl small ↦
      let root = root_beyond 150 212 w nine (lit≤ tt) (lit≤ tt) (lit≤ tt) in
      widen 152 (times (divided three_within root tt) small tt) (lit≤ tt)
  | inr (p, low, high, least, most) ↦
      let root = root_beyond p 212 w (squared p low high least) (omega arith) (lit≤ tt) (lit≤ tt) in
      within_mul 152 (within_div (300 - p) three_within root (omega arith) (omega arith)) most
      (omega arith) (lit≤ tt)
]

-- ---- a segment with the secant d and the tangents l and r
module _ {d l r : Float} (v : Within d 178) (wl : Within l 181) (wr : Within r 181) where
  boxed_tame : Tame (boxed d l r)
  unfolding boxed
  boxed_tame = record { left = capped_within (l ⊘ d) wl v; right = capped_within (r ⊘ d) wr v }

  circled_tame : Beyond d 119 → Tame (circled d l r)
  unfolding circled
  circled_tame away =
      let a : Within (l ⊘ d) 211 = divided wl away tt in
      let b : Within (r ⊘ d) 211 = divided wr away tt in
      let s = sum_from_zero (square_within a) (square_within b) (lit< tt) in
      tame_cond (lt 𝟗 _)
      (λ above.
      let nine = above_guard s nine_guard above in
      let left = ratio_within a s nine (λ p low high w. (squares_beyond p a b low high w).0) in
      let right = ratio_within b s nine (λ p low high w. (squares_beyond p b a low high w).1) in
      record { left = times left v tt; right = times right v tt })
      (λ else. record {
        left = nonnegative_within (l ⊘ d) wl;
        right = nonnegative_within (r ⊘ d) wr;
      })

  adjusted_tame : (box : Bool) → Tame (adjusted box d l r)
  unfolding adjusted
  adjusted_tame box =
      let zero = within_zero 𝟎 181 𝟎-is in
      tame_cond (lt (absolute d) nano) (λ tiny. record { left = zero; right = zero })
      (λ large.
      tame_cond box (λ is-box. boxed_tame)
      (λ is-circle. circled_tame (passed v nano_guard large)))

module _ {xs ys : List Float} {n : ℕ} {a h : ℕ → ℕ} (r : Rows xs ys n a h) where
  secant_within : (i : ℕ) → i + 1 < n → Within (secant_at xs ys i) 178
  unfolding secant_at
  secant_within i l = slope_within (knot_small r i (omega arith)) (knot_small r (i + 1) l)

  mean_within : (i : ℕ) → i < n → Within (mean_at xs ys n i) 178
  unfolding mean_at
  mean_within i l =
      within_test (eqb i 0) (secant_within 0 (omega arith)) (λ later.
      within_test (eqb (i + 1) n) (secant_within (i - 1) (omega arith)) (λ more.
      let right = secant_within i (omega (arith, eqb-false)) in
      times half_within (plus (secant_within (i - 1) (omega arith)) right tt) tt))

  -- what the segment i makes of its tangents, the right one being the mean of the knot j
  step_tame : (box : Bool) (i j : ℕ) → i + 1 < n → j < n → Within (reached box xs ys n i) 181
      → Tame (adjusted box (secant_at xs ys i) (reached box xs ys n i) (mean_at xs ys n j))
  step_tame box i j l m w =
      adjusted_tame (secant_within i l) w (widen 181 (mean_within j m) (lit≤ tt)) box

  reached_within : (box : Bool) (i : ℕ) → i < n → Within (reached box xs ys n i) 181
  unfolding reached
  reached_within box zero l = widen 181 (mean_within 0 l) (lit≤ tt)
  reached_within box (suc i) l =
      (step_tame box i (suc i) (omega arith) l (reached_within box i (omega arith))).right

  pub monotone_within : (box : Bool) (i : ℕ) → i < n → Within (monotone_at box xs ys n i) 181
  unfolding monotone_at
  monotone_within box i l =
      let left = reached_within box i l in
      within_test (eqb (i + 1) n) left (λ inner.
      let more : i + 1 < n = omega (arith, eqb-false) in
      (step_tame box i (i + 1) more more left).left)
