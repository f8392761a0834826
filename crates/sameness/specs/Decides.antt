-- What it means that an answer decides a proposition. Definitions only.
use Rattle.std.specs.Prelude.{◌≡◌, Bool, true}

-- the answer yes goes with P
pub record Decides (P : Type 0) (yes : Bool) : Type 0 where
  pub sound : yes ≡ true → P
  pub complete : P → yes ≡ true
