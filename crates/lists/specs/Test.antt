-- A case split on the outcome of a test, which each branch gets as an equation.
use Rattle.std.specs.Prelude.{◌≡◌, refl, Bool, true, false}

pub by_test {ℓ} : {X : Type ℓ} (b : Bool) → (b ≡ true → X) → (b ≡ false → X) → X
by_test true f g = f refl
by_test false f g = g refl
