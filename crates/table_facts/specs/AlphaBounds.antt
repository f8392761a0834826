-- The tangents of CentripetalCatmullRom and ChordalCatmullRom are finite: the guards of 1e-9 keep
-- every divisor away from 0.
use Rattle.std.specs.Prelude.{◌≡◌, refl, Bool, true, false, ◌||◌, List, ℕ, suc, ◌+◌, ◌<◌, T, leb, eqb, Float}
use Rattle.std.proofs.Common.{true≢false, arith, lit<, lit≤}
use Rattle.floats.specs.Notation.{◌⊘◌}
use Rattle.floats.specs.Within.{Within, within_zero, within_cond, within_test}
use Rattle.single.specs.Constants.{𝟎, 𝟎-is}
use Rattle.single.specs.Rules.{tiny}
use Rattle.points.specs.declared.Knot.{Knot}
use Rattle.chords.specs.Alpha.{chord, spacing, over, end_tangent, three_terms, alpha_tangent, alpha_at}
use Rattle.segments.specs.Rows.{Rows}
use Rattle.table_facts.specs.Sizes.{
  plus,
  minus,
  divided,
  either,
  nano_guard,
  passed,
  guarded_within,
  Small,
  run_within,
  rise_within,
  knot_small,
  before_small,
  after_small,
}
use Rattle.table_facts.specs.RootBounds.{square_from_zero, sum_from_zero, root_from_zero}

-- ---- the ways between knots
spacing_within : (centripetal : Bool) {a b : Knot} → Small a → Small b
    → Within (spacing centripetal a b) 159
unfolding spacing chord
spacing_within centripetal p q =
    let dx = square_from_zero 167 (run_within p q) (lit≤ tt) (lit≤ tt) in
    let dy = square_from_zero 167 (rise_within p q) (lit≤ tt) (lit≤ tt) in
    let chord = root_from_zero 159 (sum_from_zero dx dy (lit< tt)) (lit≤ tt) (lit≤ tt) in
    within_cond centripetal (root_from_zero 159 chord (lit≤ tt) (lit≤ tt)).most chord.most

-- ---- quotients
over_within : {p d : Float} {j k : ℕ} → Within p j → Within d k → T (leb (j + 30) 276)
    → Within (over p d) (j + 30)
over_within {j = j} v w small = guarded_within (j + 30) nano_guard v w (omega arith) (lit≤ small)

plain_within : {p d : Float} {k : ℕ} → Within p 158 → Within d k → tiny d ≡ false
    → Within (p ⊘ d) 188
plain_within v w e = divided v (passed w nano_guard e) tt

neither : (a b : Bool) → (a || b) ≡ false → (a ≡ false) × (b ≡ false)
neither true b e = absurd (true≢false e)
neither false b e = (refl, e)

three_terms_within : {right across left dr ds dl : Float} {k : ℕ} → Within right 158
    → Within across 158 → Within left 158
    → Within dr k → Within ds (suc k) → Within dl k
    → Within (three_terms right across left dr ds dl) 190
unfolding three_terms
three_terms_within {dr = dr} {ds} {dl} vr va vl wr ws wl =
    within_test (tiny dl || tiny dr || tiny ds) (within_zero 𝟎 190 𝟎-is) (λ e.
    let first = neither (tiny dl || tiny dr) (tiny ds) e in
    let second = neither (tiny dl) (tiny dr) first.0 in
    let right-less-across =
    minus (plain_within vr wr second.1) (plain_within va ws first.1) tt in
    plus right-less-across (plain_within vl wl second.0) tt)

-- ---- the tangent
end_within : {a b : Knot} {d : Float} {k : ℕ} → Small a → Small b → Within d k
    → Within (end_tangent a b d) 218
end_within p q w =
    over_within (over_within (rise_within p q) w tt) (over_within (run_within p q) w tt) tt

alpha_tangent_within : (centripetal first last : Bool) {l c r : Knot} → Small l → Small c → Small r
    → Within (alpha_tangent centripetal first last l c r) 220
unfolding alpha_tangent
alpha_tangent_within centripetal first last p q s =
    let dl = spacing_within centripetal p q in
    let dr = spacing_within centripetal q s in
    let ds = plus dl dr tt in
    let terms = three_terms_within (rise_within q s) (rise_within p s) (rise_within p q) dr ds dl in
    either first (end_within q s dr)
    (either last (end_within p q dl) (over_within terms (over_within (run_within p s) ds tt) tt))

module _ {xs ys : List Float} {n : ℕ} {a h : ℕ → ℕ} (r : Rows xs ys n a h) where
  pub alpha_within : (centripetal : Bool) (i : ℕ) → i < n
      → Within (alpha_at centripetal xs ys n i) 220
  unfolding alpha_at
  alpha_within centripetal i l =
      alpha_tangent_within centripetal (eqb i 0) (eqb (i + 1) n) (before_small r i l)
      (knot_small r i l) (after_small r i l)
