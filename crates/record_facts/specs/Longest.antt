-- How much of an input decides what is read: no record has more than 522 bytes, so 523 bytes of an
-- input tell as much as all of it.
use Rattle.std.specs.Prelude.{◌≡◌, refl, Bool, true, false, List, [], ◌∷◌, ℕ, zero, suc, ◌+◌, ◌-◌, ◌*◌, ◌≤◌, ◌<◌, ltb, length, take, drop}
use Rattle.std.proofs.Common.{ap, arith, length-take, take_all, get_or-take, le-ltb, ltb-true, ltb-false}
use Rattle.std.proofs.Math.Seq.{take-nil}
use Rattle.lists.specs.Test.{by_test}
use Rattle.answers.specs.declared.Refusal.{Refusal}
use Rattle.answers.specs.declared.Refusal.TheVariants.{RecordTruncated, PointCount, TrailingBytes}
use Rattle.answers.specs.Checks.{Check, ◌when◌}
use Rattle.points.specs.declared.Point.{Point}
use Rattle.points.specs.Points.{limit}
use Rattle.tables.specs.declared.CurveInterpolation.{CurveInterpolation}
use Rattle.tables.specs.Kinds.{carries_tension, carries_slopes}
use Rattle.sets.specs.declared.Colour.{Colour}
use Rattle.sets.specs.declared.Colour.TheVariants.{Red, Green, Blue}
use Rattle.sets.specs.Sets.{View, empty_view}
use Rattle.records.specs.declared.point_lists.Edition.TheVariants.{One}
use Rattle.records.specs.Parse.{Parse, good, refused, ◌▷◌, checked}
use Rattle.records.specs.Map.{bit, colour_bit}
use Rattle.records.specs.PointLists.{point_of, pairs, point_checks, read_points, read_list, read_field}
use Rattle.records.specs.Kinds.{
  unnamed_kind,
  kind_check,
  read_number,
  read_tension,
  read_slopes,
  read_carried,
  bits_check,
  read_agreed,
  read_kind,
}
use Rattle.records.specs.Format.{
  master_step,
  colour_step,
  kind_step,
  end_step,
  longest,
  read_fields,
  read_result,
  read_record,
}

-- what is read of an input, and of its front: the same refusal, or the same value with a front left
-- of at least n bytes, if there are so many
data Fronts {A : Type 0} (n : ℕ) : Parse A → Parse A → Type 0 where
  read : (v : A) (s : List ℕ) (m : ℕ) → n ≤ m → Fronts n (good v s) (good v (take m s))
  none_read : (r : Refusal) → Fronts n (refused r) (refused r)

-- a reading takes at most so many bytes
abbrev Takes : {A : Type 0} → ℕ → (List ℕ → Parse A) → Type 0
Takes most f = (n : ℕ) (s : List ℕ) (m : ℕ) → most + n ≤ m → Fronts n (f s) (f (take m s))

then_fronts : {A B : Type 0} {n k : ℕ} {p q : Parse A} {f : A → List ℕ → Parse B} → Fronts n p q
    → ((v : A) (s : List ℕ) (m : ℕ) → n ≤ m → Fronts k (f v s) (f v (take m s)))
    → Fronts k (p ▷ f) (q ▷ f)
then_fronts (read v s m h) rest = rest v s m h
then_fronts (none_read r) rest = none_read r

checked_fronts : {A : Type 0} {n : ℕ} {p q : Parse A} (cs : List Check) → Fronts n p q
    → Fronts n (checked cs p) (checked cs q)
checked_fronts [] h = h
checked_fronts (c ∷ cs) h =
    by_test (c.fails) (λ t. rw t (none_read c.refusal)) (λ t. rw t (checked_fronts cs h))

drop_take : (k m : ℕ) (s : List ℕ) → drop k (take m s) ≡ take (m - k) (drop k s)
drop_take zero m s = let e : m - 0 ≡ m = omega arith in rw e
drop_take (suc k) zero s = let e : 0 - suc k ≡ 0 = omega arith in rw e
drop_take (suc k) (suc m) [] = rw (take-nil {A = ℕ} (suc m - suc k))
drop_take (suc k) (suc m) (b ∷ s) = let e : suc m - suc k ≡ m - k = omega arith in
    rw e (drop_take k m s)

-- a front of at least k bytes is too short for k just where the whole is
short_take : (k m : ℕ) (s : List ℕ) → k ≤ m → ltb (length (take m s)) k ≡ ltb (length s) k
short_take k m s h =
    by_test (ltb (length s) k) (λ t. rw (take_all m s (omega (arith, ltb-true (length s) k t))))
    (λ t.
    let long : k ≤ length (take m s) =
    rw (length-take m s) (omega (arith, ltb-false (length s) k t)) in
    rw (t, le-ltb (length (take m s)) k long))

-- ---- a list
pairs_take : (c m : ℕ) (s : List ℕ) → c * 2 ≤ m → pairs One c (take m s) ≡ pairs One c s
unfolding pairs
pairs_take zero m s h = refl
pairs_take (suc c) m s h =
    rw (get_or-take m s 0 0 (omega arith), get_or-take m s 1 0 (omega arith), drop_take 2 m s)
    (ap (λ (ps : List Point). point_of One s ∷ ps) (pairs_take c (m - 2) (drop 2 s) (omega arith)))

points_take : (least c : ℕ) → Takes 128 (read_points least c)
unfolding read_points
points_take least c n s m h =
    by_test (ltb limit c) (λ e. rw e (none_read PointCount))
    (λ e.
    let few = ltb-false limit c e in
    rw (
      short_take (c * 2) m s (omega arith),
      pairs_take c m s (omega arith),
      drop_take (c * 2) m s,
    )
    (checked_fronts (point_checks least c s)
    (read (pairs One c s) (drop (c * 2) s) (m - c * 2) (omega arith))))

list_takes : (least : ℕ) → Takes 129 (read_list least)
unfolding read_list
list_takes least n s zero h = absurd (omega arith)
list_takes least n [] (suc m) h = none_read RecordTruncated
list_takes least n (c ∷ s) (suc m) h = points_take least c n s m (omega arith)

field_takes : (present : Bool) (least : ℕ) → Takes 129 (read_field present least)
field_takes true least n s m h = list_takes least n s m h
field_takes false least n s m h = read [] s m (omega arith)

-- ---- the kind
number_takes : (unnamed : CurveInterpolation) (named : Bool) → Takes 1 (read_number unnamed named)
unfolding read_number
number_takes unnamed false n s m h = read _ s m (omega arith)
number_takes unnamed true n s zero h = absurd (omega arith)
number_takes unnamed true n [] (suc m) h = none_read RecordTruncated
number_takes unnamed true n (k ∷ s) (suc m) h =
    checked_fronts (kind_check k ∷ []) (read k s m (omega arith))

tension_takes : (k : ℕ) → Takes 1 (read_tension k)
unfolding read_tension
tension_takes k n s zero h = absurd (omega arith)
tension_takes k n [] (suc m) h = none_read RecordTruncated
tension_takes k n (q ∷ s) (suc m) h = read _ s m (omega arith)

slopes_take : (k : ℕ) → Takes 4 (read_slopes k)
unfolding read_slopes
slopes_take k n s m h =
    rw (
      short_take 4 m s (omega arith),
      get_or-take m s 0 0 (omega arith),
      get_or-take m s 1 0 (omega arith),
      get_or-take m s 2 0 (omega arith),
      get_or-take m s 3 0 (omega arith),
      drop_take 4 m s,
    )
    (checked_fronts (RecordTruncated when ltb (length s) 4 ∷ [])
    (read _ (drop 4 s) (m - 4) (omega arith)))

agreed_takes : (map k : ℕ) → Takes 4 (read_agreed map k)
unfolding read_carried
agreed_takes map k n s m h =
    checked_fronts (bits_check map k ∷ [])
    (by_test (carries_tension k) (λ t. rw t (tension_takes k n s m (omega arith)))
    (λ t. by_test (carries_slopes k) (λ u. rw (t, u) (slopes_take k n s m h))
    (λ u. rw (t, u) (read _ s m (omega arith)))))

-- ---- the fields
master_takes : (map : ℕ) (v : View) → Takes 129 (master_step map v)
master_takes map v n s m h = then_fronts (field_takes (bit 1 map) 1 n s m h) (λ l. read _)

colour_takes : (c : Colour) (map : ℕ) (v : View) → Takes 129 (colour_step c map v)
colour_takes c map v n s m h =
    then_fronts (field_takes (bit (colour_bit c) map) 0 n s m h) (λ l. read _)

kind_takes : (unnamed : CurveInterpolation) (map : ℕ) (v : View)
    → Takes 5 (kind_step unnamed map v)
unfolding read_kind
kind_takes unnamed map v n s m h =
    then_fronts
    (then_fronts (number_takes unnamed (bit 16 map) (4 + n) s m (omega arith))
    (λ k. agreed_takes map k n))
    (λ k. read _)

end_takes : (v : View) → Takes 1 (end_step v)
end_takes v n s zero h = absurd (omega arith)
end_takes v n [] (suc m) h = read v [] (suc m) (omega arith)
end_takes v n (b ∷ s) (suc m) h = none_read TrailingBytes

fields_fronts : (unnamed : CurveInterpolation) (map : ℕ) (s : List ℕ) (m : ℕ) → longest ≤ m
    → Fronts 0 (read_fields unnamed map s) (read_fields unnamed map (take m s))
unfolding read_fields
fields_fronts unnamed map s m h =
    then_fronts
    (then_fronts
    (then_fronts
    (then_fronts
    (then_fronts (master_takes map empty_view 393 s m h) (λ v. colour_takes Red map v 264))
    (λ v. colour_takes Green map v 135))
    (λ v. colour_takes Blue map v 6))
    (λ v. kind_takes unnamed map v 1))
    (λ v. end_takes v 0)

same_result : {n : ℕ} {p q : Parse View} → Fronts n p q → read_result q ≡ read_result p
same_result (read v s m h) = refl
same_result (none_read r) = refl

-- an input longer than any record is read as its front
pub front_tells : (s : List ℕ) (m : ℕ) → longest < m → read_record (take m s) ≡ read_record s
unfolding read_record
front_tells s zero h = absurd (omega arith)
front_tells [] (suc m) h = refl
front_tells (b ∷ s) (suc m) h =
    rw (same_result (fields_fronts (unnamed_kind (bit 128 b)) b s m (omega arith)))
