-- `thomas::substitute`: from the back, each unknown by the one after it.
use Rattle.std.proofs.Common.{◌≡◌, length}
use Rattle.lists.specs.Stored.{Stored}
use Rattle.spline.specs.Thomas.{substituted, swept_in}
use Rattle.spline.proofs.thomas.substitute.Given as goal

abbrev pub invariant-loop-k : goal.invariant-loop-k
invariant-loop-k l =
    let m = length l.initial.unknowns in
    let unknown = substituted (swept_in l.aboves l.rights) m in
    Stored unknown l.k m l.initial.unknowns l.unknowns × (l.next ≡ unknown l.k)
