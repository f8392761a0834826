-- `blocks::four`: the loop stores what the function gives of j.
use Rattle.std.proofs.Common.{◌≡◌, ◌+◌, ◌<◌, ℕ, Float}
use Rattle.lists.specs.Stored.{Stored}
use Rattle.sampling.proofs.blocks.four.Given as goal

abbrev pub invariant-loop-j : goal.invariant-loop-j
invariant-loop-j g l =
    (f : ℕ → Float) → ((j : ℕ) (y : Float) → j < 4 → goal.F-post g l.sample j y → y ≡ f (l.v + j))
    → Stored f l.v (l.v + l.j) l.initial.samples l.samples
