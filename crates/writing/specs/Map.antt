-- The bit map: what the reader finds in it is what the writer put there.
use Rattle.std.specs.Prelude.{ℕ, ◌/◌, ◌%◌, ◌≤◌, ◌≡◌, List, Bool}
use Rattle.std.proofs.Common.{arith, lit≤}
use Rattle.std.proofs.Math.Bool.{true}
use Rattle.std.proofs.Math.Option.{Option}
use Rattle.lists.specs.Test.{by_test}
use Rattle.points.specs.declared.Point.{Point}
use Rattle.tables.specs.declared.CurveInterpolation.{CurveInterpolation}
use Rattle.tables.specs.Kinds.{kind_number, carries_tension, carries_slopes, kind_bits}
use Rattle.records.specs.Map.{bit, carried_bits}
use Rattle.writing.specs.Encode.{names_kind, one_if, bits_under, there, map_of}

-- ---- a mark is a digit of the map
one_at_most : (b : Bool) → one_if b ≤ 1
one_at_most b = by_test b (λ t. rw t (lit≤ tt)) (λ t. rw t (lit≤ tt))

mark_is : (w map : ℕ) (b : Bool) → map / w % 2 ≡ one_if b → bit w map ≡ b
mark_is w map b e = rw e (by_test b (λ t. rw t) (λ t. rw t))

pub carried_small : (n : ℕ) → kind_bits n ≤ 2
carried_small n =
    by_test (carries_tension n) (λ t. rw t (lit≤ tt))
    (λ t. rw t (by_test (carries_slopes n) (λ u. rw u (lit≤ tt)) (λ u. rw u (lit≤ tt))))

-- ---- what the reader finds in the map
module _ (m r g b : Option (List Point)) (k : CurveInterpolation) where
  pub record MapBack : Type 0 where
    pub master : bit 1 (map_of m r g b k) ≡ there m
    pub red : bit 2 (map_of m r g b k) ≡ there r
    pub green : bit 4 (map_of m r g b k) ≡ there g
    pub blue : bit 8 (map_of m r g b k) ≡ there b
    pub kind : bit 16 (map_of m r g b k) ≡ names_kind k
    pub carried : carried_bits (map_of m r g b k) ≡ kind_bits (kind_number k)
    pub newer : bit 128 (map_of m r g b k) ≡ true

  pub map_back : MapBack
  unfolding bits_under
  map_back =
      let m≤1 = one_at_most (there m) in
      let r≤1 = one_at_most (there r) in
      let g≤1 = one_at_most (there g) in
      let b≤1 = one_at_most (there b) in
      let k≤1 = one_at_most (names_kind k) in
      let map = map_of m r g b k in
      let above = carried_small (kind_number k) in
      record {
        master = mark_is 1 map (there m) (omega arith);
        red = mark_is 2 map (there r) (omega arith);
        green = mark_is 4 map (there g) (omega arith);
        blue = mark_is 8 map (there b) (omega arith);
        kind = mark_is 16 map (names_kind k) (omega arith);
        carried = omega arith;
        newer = mark_is 128 map true (omega arith);
      }
