-- `ends::guess`: the loop stores the rule's element at each place, and all stay
-- right as long as each is.
use Rattle.std.proofs.Common.{◌≡◌, ap, ℕ, ◌+◌, ◌≤◌, arith, Float}
use Rattle.std.proofs.Math.Decide.{dec_lt}
use Rattle.lists.specs.Stored.{stored_none, stored_next, stored_end}
use Rattle.single.specs.Rules.{floor_of}
use Rattle.single.specs.ByteLaws.{floor_small}
use Rattle.sampling.specs.Walk.{end_at}
use Rattle.sampling.proofs.Walk.{both_true, not_true}
use Rattle.sampling.proofs.ends.guess.Goals as goal

index-most : (x : Float) {k : ℕ} → k ≡ floor_of x → k ≤ 4094
index-most x e = rw e (floor_small x)

pub loop-i-init : goal.loop-i-init
loop-i-init c = (
  stored_none,
  λ h. record {
    wide = λ k low. let zeroth : k ≡ 0 = omega arith in rw (zeroth, ← c.too_thin-right.ensures) (not_true _ h);
    end = λ k low. absurd (omega arith);
  },
)

pub loop-i-preserved : goal.loop-i-preserved
unfolding end_at
loop-i-preserved c =
    let i = c.loop-i.i in
    let end = ap (λ (k : ℕ). k + 1) c.index-e.ensures in (
      stored_next c.loop-i.invariant.0 end,
      λ h.
          let last = both_true _ _ h in
          let first = both_true _ _ last.0 in
          let before = c.loop-i.invariant.1 first.0 in
          let two : i + 1 + 1 ≡ i + 2 = omega arith in
          record {
            wide = λ k low. elim (dec_lt i k) [
              | yes after ↦
                  let same : k ≡ i + 1 = omega arith in rw (same, two, ← c.too_thin.ensures) (not_true _ last.1)
              | no up_to_lem ↦ before.wide k (omega arith)
            ];
            end = λ k low. elim (dec_lt k i) [
              | yes up_to_lem ↦ before.end k (omega arith)
              | no after ↦ let same : k ≡ i = omega arith in rw (same, ← end, ← c.is_end.ensures) first.1
            ];
          },
    )

pub returns : goal.returns
returns c =
    let inv = c.loop-i.invariant in
    let all : c.loop-i.i + 2 ≡ c.args.knots.now.count = omega arith in
    record { row = stored_end inv.0 (omega arith); right = λ h. rw (← all) (inv.1 h) }

pub overflow_add-e : goal.overflow_add-e
overflow_add-e c = omega (arith, index-most _ c.index-e.ensures)

pub overflow_cast-ends : goal.overflow_cast-ends
overflow_cast-ends c = omega (arith, index-most _ c.index-e.ensures)

pub is_end-requires : goal.is_end-requires
is_end-requires c = omega (arith, index-most _ c.index-e.ensures)
