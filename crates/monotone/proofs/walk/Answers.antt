-- `walk`: a turn limits the tangents at both ends of a segment. The left one is then done, the right
-- one is carried.
use Rattle.std.proofs.Common.{◌≡◌, ◌∙◌, Bool, List, ℕ, ◌+◌, ◌-◌, ◌≤◌, ◌<◌, add-one, arith, rules, eq-eqb, ne_eqb, Float, length, set, get_or-set_same, get_or-set_other}
use Rattle.std.proofs.Math.Decide.{ℕ_discrete}
use Rattle.std.specs.Float.{nan}
use Rattle.floats.specs.Notation.{◌⊕◌, ◌⊗◌, ◌⊘◌}
use Rattle.lists.specs.Stored.{Stored, stored_none, stored_next, stored_end}
use Rattle.single.specs.Constants.{½}
use Rattle.monotone.specs.declared.Tangents.{Tangents}
use Rattle.points.specs.Knots.{at}
use Rattle.monotone.specs.Monotone.{secant_at, mean_at, adjusted, limited, reached, monotone_at}
use Rattle.monotone.proofs.walk.Invariants.{Turn}
use Rattle.monotone.proofs.walk.Given.{Over}
use Rattle.monotone.proofs.walk.Goals.{At-loop-i, then-tiny, else-tiny}
use Rattle.monotone.proofs.walk.Goals as goal

-- ---- what is in the rows
-- the right means: those of two secants each, over whose last the last secant is stored
module _ (xs ys : List Float) (n : ℕ) (ds rs : List Float) (two : 2 ≤ n) (room : n - 1 - 1 < length rs)
    (ds-is : (i : ℕ) → i + 1 < n → at ds i ≡ secant_at xs ys i)
    (rs-is : (i : ℕ) → i + 1 < n → at rs i ≡ ½ ⊗ (at ds i ⊕ at ds (i + 1))) where
  right-mean : (i : ℕ) → i + 1 < n
      → at (set rs (n - 1 - 1) (at ds (n - 1 - 1))) i ≡ mean_at xs ys n (i + 1)
  unfolding mean_at
  right-mean i h =
      let one_less : i + 1 - 1 ≡ i = omega arith in
      rw (ne_eqb (i + 1) 0 (λ e. omega arith), one_less) (elim (ℕ_discrete (i + 1 + 1) n) [
        | yes last ↦
            let place : n - 1 - 1 ≡ i = omega arith in
            rw (eq-eqb (i + 1 + 1) n last, place, get_or-set_same rs i (at ds i) nan (omega arith)) (ds-is i h)
        | no inner ↦
            rw (
              ne_eqb (i + 1 + 1) n inner,
              get_or-set_other rs (n - 1 - 1) i (at ds (n - 1 - 1)) nan (λ e. omega arith),
              rs-is i h,
              ds-is i h,
              ds-is (i + 1) (omega arith),
            )
      ])

-- ---- the turns
reached-next : (box : Bool) (xs ys : List Float) (n i : ℕ)
    → reached box xs ys n (i + 1)
    ≡ (adjusted box (secant_at xs ys i) (reached box xs ys n i) (mean_at xs ys n (i + 1))).right
unfolding reached
reached-next box xs ys n i = rw add-one

module _ {box : Bool} {xs ys : List Float} {n i : ℕ} {tangents₀ tangents : List Float} {m : Float}
    (t : Turn box xs ys n i tangents₀ tangents m) where
  next-turn : {d r : Float} {p : Tangents} → i + 1 < n → d ≡ secant_at xs ys i → r ≡ mean_at xs ys n (i + 1)
      → p ≡ adjusted box d m r
      → Turn box xs ys n (i + 1) tangents₀ (set tangents i p.left) p.right
  unfolding monotone_at
  next-turn h secant mean made = record {
    stored = stored_next t.stored (rw (ne_eqb (i + 1) n (λ e. omega arith), ← mean, ← secant, ← t.tangent, made));
    tangent = rw (reached-next box xs ys n i, ← mean, ← secant, ← t.tangent, made);
  }

  last-turn : i + 1 ≡ n → Stored (monotone_at box xs ys n) 0 n tangents₀ (set tangents i m)
  unfolding monotone_at
  last-turn h = stored_end (stored_next t.stored (rw (eq-eqb (i + 1) n h) t.tangent)) h

-- ---- at each turn
module _ (g : Over) (c : At-loop-i g) where
  abbrev n : ℕ
  n = c.args.knots.now.count

  abbrev ds : List Float
  ds = c.per_segment-ds.result

  abbrev rs : List Float
  rs = set c.per_segment-rs.result (n - 1 - 1) (at ds (n - 1 - 1))

  secant : (i : ℕ) → i + 1 < n → at ds i ≡ secant_at c.args.knots.now.xs c.args.knots.now.ys i
  secant i h = let said = c.per_segment-ds.ensures.said i h in search rules

  halved : (i : ℕ) → i + 1 < n → at c.per_segment-rs.result i ≡ ½ ⊗ (at ds i ⊕ at ds (i + 1))
  halved i h = let said = c.per_segment-rs.ensures.said i h in search rules

  mean : (i : ℕ) → i + 1 < n → at rs i ≡ mean_at c.args.knots.now.xs c.args.knots.now.ys n (i + 1)
  mean =
      let long : length c.per_segment-rs.result ≡ 66 = search rules in
      right-mean _ _ _ _ _ (omega arith) (omega arith) secant halved

  quotient : (i : ℕ) → i + 1 < n → at c.per_segment-bs.result i ≡ at rs i ⊘ at ds i
  quotient i h = let said = c.per_segment-bs.ensures.said i h in search rules

pub loop-i-init : goal.loop-i-init
unfolding reached mean_at
loop-i-init g c = λ box limits.
    let said = c.per_segment-ds.ensures.said 0 (omega arith) in
    record { stored = stored_none; tangent = search rules }

pub limit-t-requires : goal.limit-t-requires
limit-t-requires g c =
    let now = (goal.at.limit-t-requires g c).At-loop-i in
    let i = c.loop-i.i in
    rw (← quotient g now i (omega arith)) at (c.requires (at c.per_segment-ds.result i) c.loop-i.m (at (rs g now) i))

pub loop-i-preserved : goal.loop-i-preserved
unfolding adjusted limited
loop-i-preserved g c = λ box limits.
    let now = (goal.at.loop-i-preserved g c).At-loop-i in
    let i = c.loop-i.i in
    let h : i + 1 < c.args.knots.now.count = omega arith in
    next-turn (c.loop-i.invariant box limits) h (secant g now i h) (mean g now i h)
    (elim c.if-tiny.branch [
      | then-tiny w ↦ w.t-is ∙ rw (← c.tiny.ensures, w.if-tiny.true)
      | else-tiny w ↦
          w.t-is
          ∙ limits _ _ _ _ (rw (quotient g now i h) at w.limit-t.ensures)
          ∙ rw (← c.tiny.ensures, w.if-tiny.false)
    ])

pub returns : goal.returns
returns g c = λ box limits.
    let end : c.loop-i.i ≡ c.args.knots.now.count - 1 = omega arith in
    rw (← end) (last-turn (c.loop-i.invariant box limits) (omega arith))
