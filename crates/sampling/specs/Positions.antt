-- The x of the samples rise: what is less than one is less than every later one. For any number of
-- samples from 2 to 4,096.
use Rattle.std.specs.Prelude.{◌≡◌, true, false, ℕ, ◌≤◌, T, Float}
use Rattle.std.proofs.Common.{sym, ◌∙◌, subst, true≢false, arith}
use Rattle.std.specs.Float.Ieee.{lt}
use Rattle.lists.specs.Test.{by_test}
use Rattle.floats.specs.Order.{le_trans, le_numbers, le_of_lt, le_of_not_lt, not_lt_of_le}
use Rattle.segments.specs.Segments.{step, sample_at}
use Rattle.segments.specs.Samples.{sample_le}

-- S samples
module _ (S : ℕ) (some : 2 ≤ S) (most : S ≤ 4096) where
  -- past a at sample v, past it at every later one
  pub past_later : (a : Float) (v w : ℕ) → v ≤ w → w ≤ 4096 → lt a (sample_at (step S) v) ≡ true
      → lt a (sample_at (step S) w) ≡ true
  past_later a v w h k t =
      let order = sample_le S some (omega arith) v w h (omega arith) in
      let left = le_of_lt a _ (subst T (sym t) tt) in
      by_test (lt a (sample_at (step S) w)) (λ e. e)
      (λ e.
      let right = le_of_not_lt a _ (le_numbers a _ left).0 (le_numbers _ _ order).1 e in
      absurd (true≢false (sym t ∙ not_lt_of_le _ a (le_trans _ _ a order right))))

  pub inside_earlier : (a : Float) (v w : ℕ) → v ≤ w → w ≤ 4096 → lt a (sample_at (step S) w) ≡ false
      → lt a (sample_at (step S) v) ≡ false
  inside_earlier a v w h k t =
      by_test (lt a (sample_at (step S) v))
      (λ e. absurd (true≢false (sym (past_later a v w h k e) ∙ t))) (λ e. e)
