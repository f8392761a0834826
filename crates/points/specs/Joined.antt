-- The points of two rows: how many there are, which is at a place, what a store does, and the rows
-- of a list, which join to it. What is asked of the points is asked of one row.
use Rattle.std.specs.Prelude.{ℕ, zero, suc, ◌<◌, ◌≡◌, refl, List, [], ◌∷◌, map, length, take, get_or, set, replicate}
use Rattle.std.proofs.Common.{ap, arith, Fits}
use Rattle.std.specs.Int.{w8, w16}
use Rattle.points.specs.declared.Point.{Point}
use Rattle.points.specs.declared.Curve.{Curve}
use Rattle.points.specs.declared.Heights.{Heights}
use Rattle.points.specs.Points.{pt, nth, joined, places_of, rises_from, all_allowed}
use Rattle.points.specs.Steps.{at_xs, of_heights}
use Rattle.points.specs.Order.{All, Typed}

pub joined_length : (xs ys : List ℕ) → length xs ≡ length ys → length (joined xs ys) ≡ length xs
joined_length [] ys e = refl
joined_length (x ∷ xs) [] e = absurd (omega arith)
joined_length (x ∷ xs) (y ∷ ys) e = ap suc (joined_length xs ys (omega arith))

-- both rows of a curve have 64 places, as code holds them, although their types are those of all
-- lists
pub record FullRows (c : Curve) : Type 0 where
  pub xs : length c.xs ≡ 64
  pub ys : length c.ys ≡ 64

pub places_long : (c : Curve) → FullRows c → length (places_of c) ≡ 64
places_long c full = omega (arith, full.xs, full.ys, joined_length c.xs c.ys (omega arith))

pub joined_at : (xs ys : List ℕ) (i : ℕ) → i < length xs → i < length ys
    → nth (joined xs ys) i ≡ pt (get_or xs i 0) (get_or ys i 0)
joined_at [] ys i h k = absurd (omega arith)
joined_at (x ∷ xs) [] i h k = absurd (omega arith)
joined_at (x ∷ xs) (y ∷ ys) zero h k = refl
joined_at (x ∷ xs) (y ∷ ys) (suc i) h k = joined_at xs ys i (omega arith) (omega arith)

pub place_at : (c : Curve) (i : ℕ) → FullRows c → i < 64
    → nth (places_of c) i ≡ pt (get_or c.xs i 0) (get_or c.ys i 0)
place_at c i full h =
    joined_at c.xs c.ys i (omega (arith, full.xs)) (omega (arith, full.ys))

pub joined_set : (xs ys : List ℕ) (i a b : ℕ)
    → joined (set xs i a) (set ys i b) ≡ set (joined xs ys) i (pt a b)
joined_set [] ys i a b = refl
joined_set (x ∷ xs) [] zero a b = refl
joined_set (x ∷ xs) [] (suc i) a b = refl
joined_set (x ∷ xs) (y ∷ ys) zero a b = refl
joined_set (x ∷ xs) (y ∷ ys) (suc i) a b =
    ap (λ (l : List Point). pt x y ∷ l) (joined_set xs ys i a b)

pub joined_replicate : (n a b : ℕ) → joined (replicate n a) (replicate n b) ≡ replicate n (pt a b)
joined_replicate zero a b = refl
joined_replicate (suc n) a b = ap (λ (l : List Point). pt a b ∷ l) (joined_replicate n a b)

-- the curve that claims the first n points of a list
abbrev pub curve_of : List Point → ℕ → Curve
curve_of l n =
    record { xs = map (λ (p : Point). p.x) l; ys = map (λ (p : Point). p.y) l; count = n }

pub joined_back : (l : List Point) (n : ℕ) → places_of (curve_of l n) ≡ l
joined_back [] n = refl
joined_back (p ∷ l) n = ap (λ (m : List Point). p ∷ m) (joined_back l n)

-- what the types of two rows say
pub rows_typed : (xs ys : List ℕ) → ((i : ℕ) → Fits w8 (get_or xs i 0))
    → ((i : ℕ) → Fits w16 (get_or ys i 0))
    → All Typed (joined xs ys)
rows_typed [] ys x y = tt
rows_typed (a ∷ xs) [] x y = tt
rows_typed (a ∷ xs) (b ∷ ys) x y =
    (((x 0).fits, (y 0).fits), rows_typed xs ys (λ i. x (suc i)) (λ i. y (suc i)))

-- what the types say of two rows. A function that is lent them does not see it, and asks for it.
pub record TypedRows (xs ys : List ℕ) : Type 0 where
  pub xs_long : length xs ≡ 64
  pub ys_long : length ys ≡ 64
  pub typed : All Typed (joined xs ys)

pub typed_rows : (c : Curve) → FullRows c → ((i : ℕ) → Fits w8 (get_or c.xs i 0))
    → ((i : ℕ) → Fits w16 (get_or c.ys i 0))
    → TypedRows c.xs c.ys
typed_rows c full x y =
    record {
      xs_long = full.xs;
      ys_long = full.ys;
      typed = rows_typed c.xs c.ys x y;
    }

-- ---- what is asked of the points is asked of one row
pub joined_rises : (b n : ℕ) (xs ys : List ℕ) → length xs ≡ length ys
    → rises_from b (take n (joined xs ys)) ≡ rises_from b (at_xs (take n xs))
unfolding rises_from
joined_rises b zero xs ys e = refl
joined_rises b (suc n) [] ys e = refl
joined_rises b (suc n) (x ∷ xs) [] e = absurd (omega arith)
joined_rises b (suc n) (x ∷ xs) (y ∷ ys) e = rw (joined_rises (suc x) n xs ys (omega arith))

pub joined_allowed : (heights : Heights) (n : ℕ) (xs ys : List ℕ) → length xs ≡ length ys
    → all_allowed heights (take n (joined xs ys)) ≡ all_allowed heights (of_heights (take n ys))
unfolding all_allowed
joined_allowed heights zero xs ys e = refl
joined_allowed heights (suc n) [] [] e = refl
joined_allowed heights (suc n) [] (y ∷ ys) e = absurd (omega arith)
joined_allowed heights (suc n) (x ∷ xs) [] e = absurd (omega arith)
joined_allowed heights (suc n) (x ∷ xs) (y ∷ ys) e =
    rw (joined_allowed heights n xs ys (omega arith))
