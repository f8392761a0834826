-- The points of a record of edition 1: their heights are levels, whatever the bytes are; and where
-- their types hold, none is above 65,280. So they pass the writer's test of heights.
use Rattle.std.specs.Prelude.{ℕ, zero, suc, ◌*◌, ◌%◌, ◌<◌, ◌≡◌, refl, true, List, get_or, drop}
use Rattle.std.proofs.Common.{arith, le-leb, eq-eqb}
use Rattle.points.specs.declared.Heights.TheVariants.{Whole}
use Rattle.points.specs.Points.{highest, level, allowed, all_allowed}
use Rattle.points.specs.Order.{All, Typed, WholeHeight}
use Rattle.records.specs.declared.point_lists.Edition.TheVariants.{One}
use Rattle.records.specs.PointLists.{point_bytes, pairs}

-- a level of 16 bits may be written
level_allowed : (n : ℕ) → level n < 65536 → allowed Whole (level n) ≡ true
level_allowed n h =
    rw (le-leb (n * 256) highest (omega arith), eq-eqb (n * 256 % 256) 0 (omega arith))

pub pairs_whole : (n : ℕ) (s : List ℕ) → All WholeHeight (pairs One n s)
unfolding pairs
pairs_whole zero s = tt
pairs_whole (suc n) s = (omega arith, pairs_whole n (drop (point_bytes One) s))

pub pairs_allowed : (n : ℕ) (s : List ℕ) → All Typed (pairs One n s)
    → all_allowed Whole (pairs One n s) ≡ true
unfolding pairs all_allowed
pairs_allowed zero s typed = refl
pairs_allowed (suc n) s typed =
    rw (level_allowed (get_or s 1 0) typed.0.1)
    (pairs_allowed n (drop (point_bytes One) s) typed.1)
