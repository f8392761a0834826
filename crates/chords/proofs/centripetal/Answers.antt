-- `centripetal`: the spacing of a chord is its root.
use Rattle.std.proofs.Common.{rules, true}
use Rattle.chords.proofs.centripetal.Goals as goal

pub returns : goal.returns
returns c = c.by_spacing.ensures true (λ chord s said. search rules)
