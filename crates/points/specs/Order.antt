-- The words for a list's points one by one, and for each with the next one; and what these
-- tell of places and members.
use Rattle.std.specs.Prelude.{◌≡◌, ℕ, zero, suc, ◌%◌, ◌≤◌, ◌<◌, length, take}
use Rattle.std.proofs.Common.{sym, lt_trans, le_trans, arith}
use mathlib.Core.List.Memᴰ
use mathlib.Core.List.{List, [], ◌∷◌, Memᴰ}
use Rattle.points.specs.declared.Point.{Point}
use Rattle.points.specs.Points.{nth, highest}

-- P of every point
abbrev pub All : (Point → Type 0) → List Point → Type 0
All P [] = Unit {0}
All P (p ∷ l) = P p × All P l

-- R of every point and the next one
abbrev pub Nexts : (Point → Point → Type 0) → List Point → Type 0
Nexts R [] = Unit {0}
Nexts R (p ∷ []) = Unit {0}
Nexts R (p ∷ q ∷ l) = R p q × Nexts R (q ∷ l)

abbrev pub Before : Point → Point → Type 0
Before p q = p.x < q.x

abbrev pub NoLower : Point → Point → Type 0
NoLower p q = p.y ≤ q.y

-- what the types of a stored point say: x is a byte, y "a 16-bit number"
abbrev pub Typed : Point → Type 0
Typed p = (p.x < 256) × (p.y < 65536)

-- a point of a list that passed 20: its height is at most 65,280
abbrev pub Proper : Point → Type 0
Proper p = (p.x < 256) × (p.y ≤ highest)

-- "Whole heights": a level
abbrev pub WholeHeight : Point → Type 0
WholeHeight p = p.y % 256 ≡ 0

-- the points strictly rise in x
abbrev pub Rising : List Point → Type 0
Rising l = Nexts Before l

-- no point is lower than the one before it
abbrev pub NeverFalls : List Point → Type 0
NeverFalls l = Nexts NoLower l

-- a list that may be one of kept points: proper, and rising
pub record IsKept (l : List Point) : Type 0 where
  pub proper : All Proper l
  pub rising : Rising l

-- ---- places
pub all_at : (P : Point → Type 0) (l : List Point) → All P l → (i : ℕ) → i < length l → P (nth l i)
all_at P [] a i h = absurd (omega arith)
all_at P (p ∷ l) a zero h = a.0
all_at P (p ∷ l) a (suc i) h = all_at P l a.1 i (omega arith)

-- R of a point and any later one, where R is transitive
module _ (R : Point → Point → Type 0) (trans : (p q r : Point) → R p q → R q r → R p r) where
  first_to : (p : Point) (l : List Point) → Nexts R (p ∷ l) → (j : ℕ) → j < length l → R p (nth l j)
  first_to p [] n j h = absurd (omega arith)
  first_to p (q ∷ l) n zero h = n.0
  first_to p (q ∷ l) n (suc j) h = trans p q (nth l j) n.0 (first_to q l n.1 j (omega arith))

  nexts_to : (l : List Point) → Nexts R l → (i j : ℕ) → i < j → j < length l → R (nth l i) (nth l j)
  nexts_to [] n i j h k = absurd (omega arith)
  nexts_to (p ∷ l) n i zero h k = absurd (omega arith)
  nexts_to (p ∷ l) n zero (suc j) h k = first_to p l n j (omega arith)
  nexts_to (p ∷ []) n (suc i) (suc j) h k = absurd (omega arith)
  nexts_to (p ∷ q ∷ l) n (suc i) (suc j) h k =
      nexts_to (q ∷ l) n.1 i j (omega arith) (omega arith)

pub rising_to : (l : List Point) → Rising l → (i j : ℕ) → i < j → j < length l
    → (nth l i).x < (nth l j).x
rising_to = nexts_to Before (λ p q r h k. lt_trans h k)

pub never_falls_to : (l : List Point) → NeverFalls l → (i j : ℕ) → i < j → j < length l
    → (nth l i).y ≤ (nth l j).y
never_falls_to = nexts_to NoLower (λ p q r h k. le_trans h k)

-- ---- members
pub all_mem : (P : Point → Type 0) (l : List Point) → All P l → (p : Point) → Memᴰ p l → P p
all_mem P [] a p m = absurd (Memᴰ.not-nil m)
all_mem P (q ∷ l) a p (Memᴰ.head e) = rw e a.0
all_mem P (q ∷ l) a p (Memᴰ.tail m) = all_mem P l a.1 p m

pub mem_at : (l : List Point) (p : Point) → Memᴰ p l → (i : ℕ) × (i < length l) × (nth l i ≡ p)
mem_at [] p m = absurd (Memᴰ.not-nil m)
mem_at (q ∷ l) p (Memᴰ.head e) = (0, omega arith, sym e)
mem_at (q ∷ l) p (Memᴰ.tail m) = let r = mem_at l p m in
    (suc r.0, omega (arith, r.1), r.2)

pub all_take : (P : Point → Type 0) (n : ℕ) (l : List Point) → All P l → All P (take n l)
all_take P zero l a = tt
all_take P (suc n) [] a = tt
all_take P (suc n) (p ∷ l) a = (a.0, all_take P n l a.1)

-- what every point has that has P
pub all_map : (P Q : Point → Type 0) → ((p : Point) → P p → Q p) → (l : List Point) → All P l
    → All Q l
all_map P Q f [] a = tt
all_map P Q f (p ∷ l) a = (f p a.0, all_map P Q f l a.1)

-- a proper point is one that is stored
pub proper_typed : (l : List Point) → All Proper l → All Typed l
proper_typed = all_map Proper Typed (λ p h. (h.0, omega (arith, h.1)))
