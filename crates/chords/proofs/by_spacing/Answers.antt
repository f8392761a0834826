-- `by_spacing`: the first tangent, the loop's, and the last, by the row of spacings.
use Rattle.std.proofs.Common.{◌≡◌, ◌∙◌, Bool, List, ℕ, ◌+◌, ◌-◌, ◌≤◌, ◌<◌, arith, rules, of_calls, eq-eqb, ne_eqb, Float}
use Rattle.floats.specs.Notation.{◌⊕◌}
use Rattle.lists.specs.Stored.{stored_none, stored_next, stored_then, stored_end}
use Rattle.points.specs.declared.Knot.{Knot}
use Rattle.points.specs.Knots.{knot_at, at, after}
use Rattle.chords.specs.Alpha.{chord, spacing, inner_tangent, end_tangent, alpha_tangent, alpha_at, Spaces}
use Rattle.chords.proofs.by_spacing.Given.{Over}
use Rattle.chords.proofs.by_spacing.Goals.{After-per_segment-ways}
use Rattle.chords.proofs.by_spacing.Goals as goal

-- ---- the definition with its three cases apart; k tells the centripetal kind
module _ (k : Bool) (xs ys : List Float) (n : ℕ) (two : 2 ≤ n) (ways : List Float)
    (way : (i : ℕ) → i + 1 < n → at ways i ≡ spacing k (knot_at xs ys i) (knot_at xs ys (i + 1))) where
  at_first : {a b : Knot} {m : Float} → a ≡ knot_at xs ys 0 → b ≡ knot_at xs ys 1 → m ≡ end_tangent a b (at ways 0)
      → m ≡ alpha_at k xs ys n 0
  unfolding alpha_at alpha_tangent
  at_first a-is b-is made =
      let second : after n 0 ≡ 1 = omega arith in
      made ∙ rw (second, a-is, b-is, way 0 (omega arith))

  -- the spacing on the left
  back : (i : ℕ) → 1 ≤ i → i < n → at ways (i - 1) ≡ spacing k (knot_at xs ys (i - 1)) (knot_at xs ys i)
  back i low h =
      let here : i - 1 + 1 ≡ i = omega arith in rw here at (way (i - 1) (omega arith))

  module _ (i : ℕ) (low : 1 ≤ i) {l c : Knot} (l-is : l ≡ knot_at xs ys (i - 1)) (c-is : c ≡ knot_at xs ys i)
      {m : Float} where
    at_last : i + 1 ≡ n → m ≡ end_tangent l c (at ways (i - 1)) → m ≡ alpha_at k xs ys n i
    unfolding alpha_at alpha_tangent
    at_last h made =
        made
        ∙ rw (ne_eqb i 0 (λ z. omega arith), eq-eqb (i + 1) n h, l-is, c-is, back i low (omega arith))

    between : {r : Knot} → i + 1 < n → r ≡ knot_at xs ys (i + 1)
        → m ≡ inner_tangent l c r (at ways (i - 1)) (at ways (i - 1) ⊕ at ways i) (at ways i)
        → m ≡ alpha_at k xs ys n i
    unfolding alpha_at alpha_tangent
    between h r-is made =
        let next : after n i ≡ i + 1 = omega arith in
        made
        ∙ rw (
          ne_eqb i 0 (λ z. omega arith),
          ne_eqb (i + 1) n (λ z. omega arith),
          next,
          l-is,
          c-is,
          r-is,
          back i low (omega arith),
          way i h,
        )

-- ---- the row of spacings
way : (g : Over) (c : After-per_segment-ways g) (k : Bool) → Spaces (goal.F-post g c.args.spacing) k
    → (i : ℕ) → i + 1 < c.args.knots.now.count
    → at c.per_segment-ways.result i
    ≡ spacing k (knot_at c.args.knots.now.xs c.args.knots.now.ys i)
    (knot_at c.args.knots.now.xs c.args.knots.now.ys (i + 1))
unfolding spacing
way g c k spaces i h =
    let xs = c.args.knots.now.xs in
    let ys = c.args.knots.now.ys in
    let made = c.per_segment-chords.ensures.said i h in
    let chord-is : at c.per_segment-chords.result i ≡ chord (knot_at xs ys i) (knot_at xs ys (i + 1)) = search rules in
    let said = c.per_segment-ways.ensures.said i h in
    spaces (at c.per_segment-chords.result i) _ (search (rules, of_calls)) ∙ rw chord-is

pub loop-i-init : goal.loop-i-init
loop-i-init g c = λ k spaces. stored_none

pub loop-i-preserved : goal.loop-i-preserved
loop-i-preserved g c = λ k spaces.
    let made = (goal.at.loop-i-preserved g c).After-per_segment-ways in
    stored_next (c.loop-i.invariant k spaces)
    (between _ _ _ _ (omega arith) _ (way g made k spaces) _ (omega arith) c.at-l.ensures c.at-c.ensures (omega arith)
    c.at-r.ensures c.inner_tangent.ensures)

pub returns : goal.returns
returns g c = λ k spaces.
    let n = c.args.knots.now.count in
    let made = (goal.at.returns g c).After-per_segment-ways in
    let first =
    at_first _ _ _ _ (omega arith) _ (way g made k spaces) c.at.ensures c.at-2.ensures c.end_tangent.ensures in
    let last =
    at_last _ _ _ _ (omega arith) _ (way g made k spaces) (n - 1) (omega arith) c.at-3.ensures c.at-4.ensures
    (omega arith) c.end_tangent-2.ensures in
    let inner = stored_end (c.loop-i.invariant k spaces) (omega arith) in
    stored_end (stored_next (stored_then (stored_next stored_none first) inner) last) (omega arith)
