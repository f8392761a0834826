-- What is known once the checks of a list have passed.
use Rattle.std.specs.Prelude.{ℕ, ◌≤◌, ◌≡◌, true, List, ◌∷◌}
use Rattle.std.proofs.Common.{ltb-false, le-ltb}
use Rattle.std.proofs.lemmas.Bool.{not-false}
use Rattle.answers.specs.Checks.{Check, first_refusal, all_passed}
use Rattle.points.specs.declared.Point.{Point}
use Rattle.points.specs.declared.Curve.{Curve}
use Rattle.points.specs.declared.Heights.{Heights}
use Rattle.points.specs.declared.Heights.TheVariants.{Fine}
use Rattle.points.specs.Points.{limit, list_of, all_allowed}
use Rattle.points.specs.Points.{count_check, height_check, list_checks}
use Rattle.answers.specs.Numbers.{done}

pub few_points : (n : ℕ) (cs : List Check) → first_refusal (count_check n ∷ cs) ≡ done → n ≤ limit
few_points n cs e = ltb-false limit n (all_passed (count_check n ∷ cs) e).0

pub allowed_points : (heights : Heights) (l : List Point) (cs : List Check)
    → first_refusal (height_check heights l ∷ cs) ≡ done → all_allowed heights l ≡ true
allowed_points heights l cs e = not-false _ (all_passed (height_check heights l ∷ cs) e).0

-- a given list passes that claims no more points than it may have, and has no height that it may
-- not have
pub given_passes : (c : Curve) → c.count ≤ limit → all_allowed Fine (list_of c) ≡ true
    → first_refusal (list_checks c) ≡ done
given_passes c few high = rw (le-ltb limit c.count few, high)
