-- `cubic`: `by_circle` limits as the definition does.
use Rattle.std.proofs.Common.{rules, false}
use Rattle.monotone.specs.Monotone.{limited}
use Rattle.monotone.proofs.cubic.Goals as goal

pub returns : goal.returns
unfolding limited
returns c = c.walk.ensures false (λ Δ l r t said. search rules)
