-- The test of a list's heights: what it says of every point, and that it lets every list of proper
-- points through.
use Rattle.std.specs.Prelude.{ℕ, ◌%◌, ◌≤◌, ◌≡◌, true, leb}
use Rattle.std.proofs.Math.Path.{refl}
use Rattle.std.proofs.lemmas.Bool.{false≢true}
use mathlib.Core.List.{List, [], ◌∷◌}
use Rattle.std.proofs.Common.{arith, le-leb, leb-true, eqb-true}
use Rattle.lists.specs.Test.{by_test}
use Rattle.points.specs.declared.Point.{Point}
use Rattle.points.specs.declared.Heights.{Heights}
use Rattle.points.specs.declared.Heights.TheVariants.{Fine, Whole}
use Rattle.points.specs.Points.{level, rounded, highest, allowed, all_allowed}
use Rattle.points.specs.Order.{All, Typed, Proper, WholeHeight}

-- ---- of one height
whole_allowed : (y : ℕ) → allowed Whole y ≡ true → (y ≤ highest) × (y % 256 ≡ 0)
whole_allowed y e =
    by_test (leb y highest) (λ t. (leb-true y highest t, eqb-true (y % 256) 0 (rw t at e)))
    (λ t. absurd (false≢true (rw t at e)))

allowed_high : (heights : Heights) (y : ℕ) → allowed heights y ≡ true → y ≤ highest
allowed_high Fine y e = leb-true y highest e
allowed_high Whole y e = (whole_allowed y e).0

-- ---- of every point
module _ (heights : Heights) (P : Point → Type 0) where
  every_point : ((p : Point) → allowed heights p.y ≡ true → P p) → (l : List Point)
      → all_allowed heights l ≡ true → All P l
  unfolding all_allowed
  every_point f [] e = tt
  every_point f (p ∷ l) e =
      by_test (allowed heights p.y) (λ t. (f p t, every_point f l (rw t at e)))
      (λ t. absurd (false≢true (rw t at e)))

  -- a list passes where every point has P, and P lets its height through
  every_allowed_lem : ((p : Point) → P p → allowed heights p.y ≡ true) → (l : List Point) → All P l
      → all_allowed heights l ≡ true
  unfolding all_allowed
  every_allowed_lem f [] a = refl
  every_allowed_lem f (p ∷ l) a = rw (f p a.0) (every_allowed_lem f l a.1)

abbrev High : Point → Type 0
High p = p.y ≤ highest

high_points : (heights : Heights) (l : List Point) → all_allowed heights l ≡ true → All High l
high_points heights = every_point heights High (λ p e. allowed_high heights p.y e)

-- ---- what a list has that passed
pub passed_proper : (heights : Heights) (l : List Point) → All Typed l → all_allowed heights l ≡ true
    → All Proper l
passed_proper heights l typed e = both l typed (high_points heights l e)
  where
    both : (l : List Point) → All Typed l → All High l → All Proper l
    both [] a b = tt
    both (p ∷ l) a b = ((a.0.0, b.0), both l a.1 b.1)

pub passed_whole : (l : List Point) → all_allowed Whole l ≡ true → All WholeHeight l
passed_whole = every_point Whole WholeHeight (λ p e. (whole_allowed p.y e).1)

-- ---- what passes
high_passes : (l : List Point) → All High l → all_allowed Fine l ≡ true
high_passes = every_allowed_lem Fine High (λ p h. le-leb p.y highest h)

pub proper_passes : (l : List Point) → All Proper l → all_allowed Fine l ≡ true
proper_passes = every_allowed_lem Fine Proper (λ p h. le-leb p.y highest h.1)

-- whatever heights it was let have, it may be toned
pub passed_fine : (heights : Heights) (l : List Point) → all_allowed heights l ≡ true
    → all_allowed Fine l ≡ true
passed_fine heights l e = high_passes l (high_points heights l e)

-- ---- a level rounded is that level
pub rounded_level : (n : ℕ) → rounded (level n) ≡ n
rounded_level n = omega arith
