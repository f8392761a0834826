-- `same_points`: the rows are equal as far as n, and so are the points, which are the rows' joined.
use Rattle.std.proofs.Common.{◌≡◌, refl, sym, ap, ◌∙◌, List, [], ◌∷◌, ℕ, zero, suc, Bool, ◌&&◌, eqb, arith, rules, length, take, length-take, map}
use Rattle.std.proofs.lemmas.Bool.Decides.{Decides-eqb}
use Rattle.std.proofs.lemmas.Slice.Eq.{slice_eq-Decides}
use Rattle.std.specs.Cmp.Lexicographic.{pointwise}
use Rattle.points.specs.declared.Point.{Point}
use Rattle.points.specs.Points.{joined, pt}
use Rattle.points.specs.Joined.{FullRows}
use Rattle.sameness.specs.Decides.{Decides}
use Rattle.sameness.proofs.Deciding.{decides_as, decides_both}
use Rattle.sameness.proofs.same_points.Goals as goal

joined_take : (n : ℕ) (xs ys : List ℕ) → take n (joined xs ys) ≡ joined (take n xs) (take n ys)
joined_take zero xs ys = refl
joined_take (suc n) [] ys = refl
joined_take (suc n) (x ∷ xs) [] = refl
joined_take (suc n) (x ∷ xs) (y ∷ ys) = ap (λ (l : List Point). pt x y ∷ l) (joined_take n xs ys)

-- the rows of joined points
xs_back : (xs ys : List ℕ) → length xs ≡ length ys → map (λ (p : Point). p.x) (joined xs ys) ≡ xs
xs_back [] ys e = refl
xs_back (x ∷ xs) [] e = absurd (omega arith)
xs_back (x ∷ xs) (y ∷ ys) e = ap (λ (l : List ℕ). x ∷ l) (xs_back xs ys (omega arith))

ys_back : (xs ys : List ℕ) → length xs ≡ length ys → map (λ (p : Point). p.y) (joined xs ys) ≡ ys
ys_back [] [] e = refl
ys_back [] (y ∷ ys) e = absurd (omega arith)
ys_back (x ∷ xs) [] e = absurd (omega arith)
ys_back (x ∷ xs) (y ∷ ys) e = ap (λ (l : List ℕ). y ∷ l) (ys_back xs ys (omega arith))

-- a test of two rows
row_decides : (xs ys : List ℕ) {r : Bool} → r ≡ pointwise eqb xs ys → Decides (xs ≡ ys) r
row_decides xs ys {r = r} e =
    let d = slice_eq-Decides Decides-eqb xs ys r e in record { sound = d.0; complete = d.1 }

-- the points of two lists are equal where both their rows are
rows_decide : (n : ℕ) (ks ls ms ns : List ℕ) {p q : Bool} → length ks ≡ length ls → length ms ≡ length ns
    → Decides (take n ks ≡ take n ms) p → Decides (take n ls ≡ take n ns) q
    → Decides (take n (joined ks ls) ≡ take n (joined ms ns)) (p && q)
rows_decide n ks ls ms ns long full x y =
    let left : length (take n ks) ≡ length (take n ls) = rw (length-take, length-take, long) refl in
    let right : length (take n ms) ≡ length (take n ns) = rw (length-take, length-take, full) refl in
    decides_as
    (λ (e : (take n ks ≡ take n ms) × (take n ls ≡ take n ns)).
    joined_take n ks ls
    ∙ ap (λ l. joined l (take n ls)) e.0
    ∙ ap (joined (take n ms)) e.1
    ∙ sym (joined_take n ms ns))
    (λ h. let same = sym (joined_take n ks ls) ∙ h ∙ joined_take n ms ns in (
      sym (xs_back (take n ks) (take n ls) left)
          ∙ ap (map (λ (p : Point). p.x)) same
          ∙ xs_back (take n ms) (take n ns) right,
      sym (ys_back (take n ks) (take n ls) left)
          ∙ ap (map (λ (p : Point). p.y)) same
          ∙ ys_back (take n ms) (take n ns) right,
    ))
    (decides_both x y)

pub returns : goal.returns
returns c =
    let a = c.args.a in
    let b = c.args.b in
    let of_a : FullRows a = search rules in
    let of_b : FullRows b = search rules in
    rows_decide c.args.n a.xs a.ys b.xs b.ys (omega (arith, of_a.xs, of_a.ys)) (omega (arith, of_b.xs, of_b.ys))
    (row_decides _ _ c.eq.ensures) (row_decides _ _ c.eq-2.ensures)
