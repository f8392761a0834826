-- Laws of back substitution: a turn of its loop, and that it goes by the m rows given only.
use Rattle.std.specs.Prelude.{◌≡◌}
use Rattle.std.proofs.Math.Path.{refl}
use Prim.Native.Nat.{ℕ, zero, suc, ◌+◌, ◌-◌, ◌<◌, ◌≤◌}
use native.Mathlib.Omega.{arith}
use Rattle.floats.specs.Notation.{◌⊖◌, ◌⊗◌}
use Rattle.single.specs.Constants.{𝟎}
use Rattle.spline.specs.declared.thomas.Swept.{Swept}
use Rattle.spline.specs.Thomas.{backward, substituted}

module _ (s : ℕ → Swept) (m : ℕ) where
  pub substituted_past : 𝟎 ≡ substituted s m m
  unfolding backward substituted
  substituted_past = let none : m - m ≡ 0 = omega arith in rw none

  pub substituted_at : (j k : ℕ) → j + 1 ≡ k → k ≤ m
      → substituted s m j ≡ (s j).right ⊖ (s j).above ⊗ substituted s m k
  unfolding backward substituted
  substituted_at j k e h =
      let more : m - j ≡ suc (m - k) = omega arith in
      let row : m - suc (m - k) ≡ j = omega arith in
      rw (more, backward, row)

-- rules that agree below m
module _ (s t : ℕ → Swept) (m : ℕ) (same : (k : ℕ) → k < m → s k ≡ t k) where
  backward_same : (j : ℕ) → j ≤ m → backward s m j ≡ backward t m j
  unfolding backward
  backward_same zero h = refl
  backward_same (suc j) h = rw (same (m - suc j) (omega arith), backward_same j (omega arith))

  pub substituted_same : (k : ℕ) → substituted s m k ≡ substituted t m k
  unfolding substituted
  substituted_same k = backward_same (m - k) (omega arith)
