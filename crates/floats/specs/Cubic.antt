-- The sum of four products by which a cubic piece is computed, at an end of the piece: one of the
-- four weights is 1 and the others are zeros.
-- The height beside the 1 is the value of the sum, whatever the signs of the zeros, as
-- long as all else is finite.
use Rattle.std.specs.Prelude.{ℕ, ◌<◌, T, Float}
use Rattle.std.proofs.Common.{lit<}
use Rattle.std.specs.Float.{binary32}
use Rattle.std.specs.Float.Ieee.{unlike, fits}
use Rattle.std.specs.Float.Ieee.Fits.{add-fits, mul-fits}
use Rattle.std.specs.Float.Ieee.Scale.{finite}
use Rattle.floats.specs.Notation.{◌⊕◌, ◌⊗◌}
use Rattle.floats.specs.Value.{Is, sign, nought_is}
use Rattle.floats.specs.Zero.{zero_times, one_times, add_zero, zero_add}

-- the weights a, b, c, d by the heights y and z, the width w and the tangents m and n
abbrev pub cubic : (a b c d y z w m n : Float) → Float
cubic a b c d y z w m n = a ⊗ y ⊕ b ⊗ w ⊗ m ⊕ c ⊗ z ⊕ d ⊗ w ⊗ n

none : (x y : Float) → Is x 0 0 1 → T (finite y) → Is (x ⊗ y) 0 0 1
none x y h f = rw (zero_times _ x y h f) (nought_is (unlike (sign x) (sign y)))

module _ (a b c d y z w m n : Float) (ib : Is b 0 0 1) (id : Is d 0 0 1) (fw : T (finite w))
    (fm : T (finite m)) (fn : T (finite n)) where
  second : Is (b ⊗ w ⊗ m) 0 0 1
  second = none (b ⊗ w) m (none b w ib fw) fm

  fourth : Is (d ⊗ w ⊗ n) 0 0 1
  fourth = none (d ⊗ w) n (none d w id fw) fn

  module _ (p q e : ℕ) (E : 0 < e) where
    -- at the left end the first weight is 1
    pub left_stays : Is a 1 0 1 → Is c 0 0 1 → T (fits binary32 y) → T (finite z) → Is y p q e
        → Is (cubic a b c d y z w m n) p q e
    left_stays ia ic ty fz iy =
        let first : Is (a ⊗ y) p q e = rw (one_times _ a y ia iy.0 ty) iy in
        let fits-first : T (fits binary32 (a ⊗ y)) = rw (one_times _ a y ia iy.0 ty) ty in
        let two = add_zero _ (a ⊗ y) _ p q e E fits-first first second in
        let three = add_zero _ _ (c ⊗ z) p q e E (add-fits _ _ _) two (none c z ic fz) in
        add_zero _ _ _ p q e E (add-fits _ _ _) three fourth

    -- at the right end the third is
    pub right_stays : Is a 0 0 1 → Is c 1 0 1 → T (finite y) → T (fits binary32 z) → Is z p q e
        → Is (cubic a b c d y z w m n) p q e
    right_stays ia ic fy tz iz =
        let third : Is (c ⊗ z) p q e = rw (one_times _ c z ic iz.0 tz) iz in
        let fits-third : T (fits binary32 (c ⊗ z)) = rw (one_times _ c z ic iz.0 tz) tz in
        let two = add_zero _ (a ⊗ y) _ 0 0 1 (lit< tt) (mul-fits _ a y) (none a y ia fy) second in
        let three = zero_add _ _ (c ⊗ z) p q e E fits-third two third in
        add_zero _ _ _ p q e E (add-fits _ _ _) three fourth
