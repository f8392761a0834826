-- `chordal`: the spacing of a chord is the chord.
use Rattle.std.proofs.Common.{rules, false}
use Rattle.chords.proofs.chordal.Goals as goal

pub returns : goal.returns
returns c = c.by_spacing.ensures false (λ chord s said. search rules)
