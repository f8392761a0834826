-- Where a byte lies: index y × step + c is byte c of row y, and c = x × p + j is channel j of pixel
-- x. Laws of whole numbers.
use Rattle.std.specs.Prelude.{◌≡◌, ℕ, ◌+◌, ◌*◌, ◌/◌, ◌%◌, ◌≤◌, ◌<◌}
use Rattle.std.proofs.Common.{
  ap,
  ◌∙◌,
  add-zero,
  add-mul,
  suc-mul,
  le_antisymm,
  le_trans,
  mul-le-mul_right,
  mul-le-mul_left,
  mod-eq_of_lt,
  add-one,
  add-one-le,
  arith,
}
use Rattle.std.proofs.Math.Nat.{div-eq_of_lt, mul-add-div_right, mul-add-mod_self_right}

-- c is below the step, or j below p: the row, or the pixel, and the place in it
pub place_row : (y step c : ℕ) → c < step → (y * step + c) / step ≡ y
place_row y step c h = mul-add-div_right (omega arith) y c ∙ rw (div-eq_of_lt h, add-zero)

pub place_in : (y step c : ℕ) → c < step → (y * step + c) % step ≡ c
place_in y step c h = mul-add-mod_self_right y step c ∙ mod-eq_of_lt h

-- the next row, or pixel, begins where this one ends
pub mul_next : (x p : ℕ) → (x + 1) * p ≡ x * p + p
mul_next x p = rw (add-one, suc-mul)

-- and ends by the end of the last
pub mul_room : (x w p : ℕ) → x < w → x * p + p ≤ w * p
mul_room x w p h = rw (← mul_next x p) (mul-le-mul_right p (add-one-le h))

-- n pixels after x others end by the end of all w
pub mul_part : (x n w p : ℕ) → x + n ≤ w → x * p + n * p ≤ w * p
mul_part x n w p h = rw (← add-mul x n p) (mul-le-mul_right p h)

pub mul_last : (y h n : ℕ) → y ≤ h → h ≤ y → y * n ≡ h * n
mul_last y h n le ge = ap (λ (k : ℕ). k * n) (le_antisymm le ge)

pub mul_bound : (a b m n : ℕ) → a ≤ m → b ≤ n → a * b ≤ m * n
mul_bound a b m n h k = le_trans (mul-le-mul_right b h) (mul-le-mul_left m k)
