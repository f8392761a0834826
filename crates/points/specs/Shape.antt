-- The knots of a kept list: from 0 to 255, strictly rising, every point of the list among them, and
-- never falling where the list never falls.
use Rattle.std.specs.Prelude.{◌≡◌, refl, suc, ◌+◌, ◌-◌, ◌≤◌, ◌<◌, length}
use mathlib.Core.List.Memᴰ
use mathlib.Core.List.{List, [], ◌∷◌, Memᴰ}
use Rattle.std.proofs.Common.{le_refl, sub-one, arith, eq-eqb, ne_eqb, lit<, lit≤}
use Rattle.std.proofs.Math.Decide.{ℕ_discrete}
use Rattle.points.specs.declared.Point.{Point}
use Rattle.points.specs.Points.{pt}
use Rattle.points.specs.Knots.{rest, knots, x_of}
use Rattle.points.specs.Order.{All, Nexts, Before, NoLower, Typed, Proper, WholeHeight}
use Rattle.points.specs.Order.{Rising, NeverFalls, IsKept, proper_typed}

-- ---- p and what is behind it
-- what holds both of none and of one at 255 holds of what is behind the last point
by_end : (P : List Point → Type 0) (p : Point) → (p.x ≡ 255 → P [])
    → ((p.x ≡ 255 → ⊥) → P (pt 255 p.y ∷ [])) → P (rest p [])
unfolding rest
by_end P p without with-one = elim (ℕ_discrete p.x 255) [
  | yes here ↦ rw (eq-eqb p.x 255 here) (without here)
  | no other ↦ rw (ne_eqb p.x 255 other) (with-one other)
]

rest_all : (P : Point → Type 0) → ((p : Point) → P p → P (pt 255 p.y))
    → (p : Point) (l : List Point) → All P (p ∷ l) → All P (p ∷ rest p l)
unfolding rest
rest_all P end p [] a =
    by_end (λ t. All P (p ∷ t)) p (λ here. a) (λ other. (a.0, (end p a.0, tt)))
rest_all P end p (q ∷ l) a = (a.0, rest_all P end q l a.1)

rest_nexts : (R : Point → Point → Type 0) → ((p : Point) → p.x < 255 → R p (pt 255 p.y))
    → (p : Point) (l : List Point)
    → All Typed (p ∷ l) → Nexts R (p ∷ l) → Nexts R (p ∷ rest p l)
unfolding rest
rest_nexts R end p [] a n =
    by_end (λ t. Nexts R (p ∷ t)) p (λ here. tt) (λ other. (end p (omega (arith, a.0.0)), tt))
rest_nexts R end p (q ∷ l) a n = (n.0, rest_nexts R end q l a.1 n.1)

rest_last : (p : Point) (l : List Point) → x_of (p ∷ rest p l) (length (rest p l)) ≡ 255
unfolding rest
rest_last p [] = by_end (λ t. x_of (p ∷ t) (length t) ≡ 255) p (λ here. here) (λ other. refl)
rest_last p (q ∷ l) = rest_last q l

rest_some : (p : Point) (l : List Point) → p.x ≡ 0 → 0 < length (rest p l)
unfolding rest
rest_some p [] z = by_end (λ t. 0 < length t) p (λ here. absurd (omega arith)) (λ other. lit< tt)
rest_some p (q ∷ l) z = omega arith

rest_length : (p : Point) (l : List Point) → length (rest p l) ≤ suc (length l)
unfolding rest
rest_length p [] = by_end (λ t. length t ≤ 1) p (λ here. lit≤ tt) (λ other. lit≤ tt)
rest_length p (q ∷ l) = omega (arith, rest_length q l)

rest_mem : (p q : Point) (l : List Point) → Memᴰ p (q ∷ l)
    → Memᴰ p (q ∷ rest q l)
unfolding rest
rest_mem p q l (Memᴰ.head e) = Memᴰ.head e
rest_mem p q [] (Memᴰ.tail m) = absurd (Memᴰ.not-nil m)
rest_mem p q (r ∷ l) (Memᴰ.tail m) = Memᴰ.tail (rest_mem p r l m)

-- ---- the knots
-- what holds both without and with one in front holds of the knots
by_front : (P : List Point → Type 0) (p : Point) (l : List Point)
    → (p.x ≡ 0 → P (p ∷ rest p l)) → (0 < p.x → P (pt 0 p.y ∷ p ∷ rest p l))
    → P (knots (p ∷ l))
unfolding knots
by_front P p l without with-one = elim (ℕ_discrete p.x 0) [
  | yes here ↦ rw (eq-eqb p.x 0 here) (without here)
  | no other ↦ rw (ne_eqb p.x 0 other) (with-one (omega arith))
]

-- at least two
pub knots_two : (l : List Point) → 1 < length (knots l)
unfolding knots
knots_two [] = lit< tt
knots_two (p ∷ l) =
    by_front (λ ks. 1 < length ks) p l (λ zero. omega (arith, rest_some p l zero))
    (λ above. omega arith)

-- from 0 to 255, strictly rising
pub record Span (ks : List Point) : Type 0 where
  pub two : 1 < length ks
  pub start : x_of ks 0 ≡ 0
  pub end : x_of ks (length ks - 1) ≡ 255
  pub rising : Rising ks

pub knots_span : (l : List Point) → All Typed l → Rising l → Span (knots l)
unfolding knots
knots_span [] typed rising = record {
  two = lit< tt;
  start = refl;
  end = refl;
  rising = (lit< tt, tt);
}
knots_span (p ∷ l) typed rising =
    let rises = rest_nexts Before (λ q h. h) p l typed rising in
    by_front Span p l
    (λ zero.
    record {
      two = omega (arith, rest_some p l zero);
      start = zero;
      end = rw sub-one (rest_last p l);
      rising = rises;
    })
    (λ above.
    record {
      two = omega arith;
      start = refl;
      end = rw sub-one (rest_last p l);
      rising = (above, rises);
    })

-- of proper points
knots_proper : (l : List Point) → All Proper l → All Proper (knots l)
unfolding knots
knots_proper [] a = ((lit< tt, lit≤ tt), ((lit< tt, lit≤ tt), tt))
knots_proper (p ∷ l) a =
    let proper = rest_all Proper (λ q h. (lit< tt, h.1)) p l a in
    by_front (All Proper) p l (λ zero. proper) (λ above. ((lit< tt, a.0.1), proper))

pub record Shape (ks : List Point) : Type 0 where
  pub span : Span ks
  pub proper : All Proper ks

pub knots_shape : (l : List Point) → IsKept l → Shape (knots l)
knots_shape l k =
    record {
      span = knots_span l (proper_typed l k.proper) k.rising;
      proper = knots_proper l k.proper;
    }

-- whole heights stay whole
pub knots_whole : (l : List Point) → All WholeHeight l → All WholeHeight (knots l)
unfolding knots
knots_whole [] a = (refl, (refl, tt))
knots_whole (p ∷ l) a =
    let whole = rest_all WholeHeight (λ q h. h) p l a in
    by_front (All WholeHeight) p l (λ zero. whole) (λ above. (a.0, whole))

-- at most two more than the list: 64 points give at most 66 knots
pub knots_length : (l : List Point) → length (knots l) ≤ length l + 2
unfolding knots
knots_length [] = lit≤ tt
knots_length (p ∷ l) =
    let h = rest_length p l in
    by_front (λ ks. length ks ≤ length (p ∷ l) + 2) p l (λ zero. omega arith) (λ above. omega arith)

-- the list's points are knots
pub knots_mem : (l : List Point) (p : Point) → Memᴰ p l → Memᴰ p (knots l)
knots_mem [] p m = absurd (Memᴰ.not-nil m)
knots_mem (q ∷ l) p m =
    by_front (Memᴰ p) q l (λ zero. rest_mem p q l m)
    (λ above. Memᴰ.tail (rest_mem p q l m))

-- the knots added at the ends are no higher and no lower than their neighbours
pub knots_never_fall : (l : List Point) → IsKept l → NeverFalls l → NeverFalls (knots l)
unfolding knots
knots_never_fall [] k f = (le_refl 0, tt)
knots_never_fall (p ∷ l) k f =
    let n = rest_nexts NoLower (λ q h. le_refl q.y) p l (proper_typed (p ∷ l) k.proper) f in
    by_front NeverFalls p l (λ zero. n) (λ above. (le_refl p.y, n))
