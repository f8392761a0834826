-- What a `Curve` that a function is given, or that a call hands back, tells of its points: there
-- are 64 places, each of a byte and a 16-bit number.
-- The type says neither, but that the value is held does, in a form that `search` finds. At a goal
-- of a function of a parameter `curve`, with `p = c.args.curve`:
--     let full : FullRows p = search rules in
--     let typed : All Typed (list_of p) =
--         all_take Typed _ _ (rows_typed p.xs p.ys (λ i. search rules) (λ i. search rules)) in ..
use Rattle.std.specs.Prelude.{◌≡◌, List, map, ℕ, min, length, take}
use Rattle.std.proofs.Common.{sym, ◌∙◌, arith, length-take, take_all}
use Rattle.std.proofs.Math.Decide.{dec_le}
use borrow.Author.Rules.{elem_fits_field}
use Rattle.std.specs.Int.{w8, w16}
use mir.Val.{Val}
use denote.Array.{each}
use denote.Shadow.{shadow}
use denote.Plain.{UInt}
use Rattle.points.specs.declared.Curve.{Curve}
use Rattle.points.specs.Points.{joined, places_of, list_of}
use Rattle.points.specs.Order.{All, Typed}
use Rattle.points.specs.Joined.{rows_typed}

pub owned_typed : (xs ys : List ℕ) (us vs : List Val)
    → shadow (each ℕ (UInt w8).own_val (map (λ (v : ℕ). v) xs) us)
    → shadow (each ℕ (UInt w16).own_val (map (λ (v : ℕ). v) ys) vs)
    → All Typed (joined xs ys)
owned_typed xs ys us vs p q =
    rows_typed xs ys (λ i. elem_fits_field w8 w8 xs us i p tt)
    (λ i. elem_fits_field w16 w16 ys vs i q tt)

-- so the list has as many points as are claimed, and no more than 64
pub list_length : (c : Curve) → length (places_of c) ≡ 64 → length (list_of c) ≡ min c.count 64
list_length c long = rw (length-take, long)

-- and a claim cut to 64 leaves the list as it is
pub limited_list : {A : Type 0} (l : List A) (n : ℕ) → length l ≡ 64 → take (min n 64) l ≡ take n l
limited_list l n long = elim (dec_le n 64) [
  | yes few ↦ let same : min n 64 ≡ n = omega arith in rw same
  | no many ↦
      let most : min n 64 ≡ 64 = omega arith in
      rw most (take_all 64 l (omega arith) ∙ sym (take_all n l (omega arith)))
]
