-- Nothing but the result is nearest, and even at a tie, but for a zero's sign.
use Rattle.std.specs.Prelude.{◌≡◌, ℕ, ◌+◌, ◌<◌, false, true, T, Float}
use Rattle.std.proofs.Common.{sym, ap, ◌∙◌, pow_pos}
use Rattle.std.specs.Float.{Format}
use Rattle.std.specs.Float.Ieee.{round, neg}
use Rattle.std.specs.Float.Ieee.Scale.{finite}
use Rattle.std.specs.Float.Ieee.Positive.{den}
use Rattle.floats.specs.Value.{top, bot, Is, is_same, is_neg, is_of_pos, top_neg}
use Rattle.floats.specs.Value.{bot_neg, den_neg, finite_neg}
use Rattle.floats.specs.Round.{Rounds, over, under, round_opposite, neg_twice}
use Rattle.floats.specs.NearestFloat.{NearestFloat, value, unique_over, nearest_neg}

module _ (f : Format) (z : Float) (a c p n : ℕ) (C : 0 < c) (e : p ≡ n + a)
    (i : z ≡ round f false a c) (F : T (finite z)) where
  unique_value : (y : Float) → NearestFloat f y p n c → Is y (top z) (bot z) (den z)
  unique_value y r =
      let v = is_of_pos z _ _ (value f z a c p n C e i F) in
      is_same y _ 0 _ _ _ _ (pow_pos _) (unique_over f z a c p n C e i F y r) (sym v.1)

-- ---- what is nearest, and even at a tie, is the result but for a zero's sign
pub nearest_unique : (f : Format) (y z : Float) (p n c : ℕ) → 0 < c → Rounds f z p n c
    → T (finite z) → NearestFloat f y p n c
    → Is y (top z) (bot z) (den z)
nearest_unique f y z p n c C (over a e i) F r = unique_value f z a c p n C e i F y r
nearest_unique f y z p n c C (under a e i) F r =
    let w = neg z in
    let v =
    unique_value f w a c n p C e (ap neg i ∙ round_opposite f true a c) (finite_neg z F) _
    (nearest_neg r) in
    rw (neg_twice y, top_neg z, bot_neg z, den_neg z) at (is_neg (neg y) _ _ _ v)
