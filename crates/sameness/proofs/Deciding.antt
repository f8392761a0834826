-- Answers that go with a proposition: of two propositions together, and of one that another comes
-- to.
use mathlib.Core.Path.{◌≡◌, refl}
use mathlib.Core.Bool.{Bool, true, false, ◌&&◌, not, false≢true}
use borrow.Author.Tests.{not-true}
use Rattle.sameness.specs.Decides.{Decides}

pub decides_as : {P Q : Type 0} {r : Bool} → (P → Q) → (Q → P) → Decides P r → Decides Q r
decides_as f g d = record { sound = λ e. f (d.sound e); complete = λ q. d.complete (g q) }

both_true : (p q : Bool) → p && q ≡ true → (p ≡ true) × (q ≡ true)
both_true true q e = (refl, e)
both_true false q e = absurd (false≢true e)

pub decides_both : {P Q : Type 0} {p q : Bool} → Decides P p → Decides Q q → Decides (P × Q) (p && q)
decides_both {p = p} {q = q} d e = record {
  sound = λ t. let b = both_true p q t in (d.sound b.0, e.sound b.1);
  complete = λ r. rw (d.complete r.0) (e.complete r.1);
}

pub decides_on : (b : Bool) → Decides (b ≡ true) b
decides_on b = record { sound = λ e. e; complete = λ e. e }

pub decides_off : (b : Bool) → Decides (b ≡ false) (not b)
decides_off b = record { sound = not-true b; complete = λ e. rw e }
