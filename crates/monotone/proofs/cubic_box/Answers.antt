-- `cubic_box`: `by_box` limits as the definition does.
use Rattle.std.proofs.Common.{rules, true}
use Rattle.monotone.specs.Monotone.{limited}
use Rattle.monotone.proofs.cubic_box.Goals as goal

pub returns : goal.returns
unfolding limited
returns c = c.walk.ensures true (λ Δ l r t said. search rules)
