-- What the writer wrote for a list of whole heights, and for a kind, is read back. Of a whole set
-- proofs/RoundTripLaws says so.
use Rattle.std.specs.Prelude.{ℕ, ◌+◌, ◌-◌, ◌*◌, ◌/◌, ◌%◌, ◌≤◌, ◌<◌, ◌≡◌, refl, List, [], ◌∷◌, ◌++◌, true, length, ℤ, pos, negsuc, eqb}
use Rattle.std.proofs.Common.{arith, sym, ap, ◌∙◌, append_assoc, length-append, drop_at, le-ltb, lt-ltb, eqb-true, eq-eqb}
use Rattle.std.proofs.Math.Option.{Option, none, some}
use Rattle.std.specs.Int.Signed.{mag}
use Rattle.lists.specs.Test.{by_test}
use Rattle.points.specs.declared.Point.{Point}
use Rattle.points.specs.declared.Heights.TheVariants.{Whole}
use Rattle.points.specs.HeightLaws.{passed_whole}
use Rattle.points.specs.Order.{All, WholeHeight}
use Rattle.tables.specs.declared.CurveInterpolation.{CurveInterpolation}
use Rattle.tables.specs.Kinds.{
  kind_number,
  LegalKind,
  last_kind,
  carries_tension,
  carries_slopes,
  kind_bits,
  carried_of,
}
use Rattle.tables.specs.KindLaws.{number_known, kind_with, carried_for, kind_carries}
use Rattle.sets.specs.Legal.{LegalList}
use Rattle.points.specs.Points.{limit}
use Rattle.records.specs.declared.point_lists.Edition.TheVariants.{One}
use Rattle.records.specs.Parse.{good}
use Rattle.records.specs.Map.{bit, carried_bits}
use Rattle.records.specs.PointLists.{point_bytes, pairs, read_points, read_list}
use Rattle.records.specs.Kinds.{
  unnamed_kind,
  stored_slope,
  read_number,
  read_tension,
  read_slopes,
  read_carried,
  read_agreed,
  read_kind,
}
use Rattle.records.specs.Format.{colour_list}
use Rattle.writing.specs.Encode.{pair_bytes, names_kind, kind_bytes, unsigned16, carried_bytes, there}
use Rattle.writing.specs.Lengths.{pairs_length}

-- ---- a list
-- of whole heights the level is stored, and a level is all that is read
pairs_back : (l : List Point) (t : List ℕ) → All WholeHeight l
    → pairs One (length l) (pair_bytes l ++ t) ≡ l
unfolding pairs pair_bytes
pairs_back [] t h = refl
pairs_back (p ∷ l) t h =
    let level : p.y / 256 * 256 ≡ p.y = omega (arith, h.0) in
    rw level (ap (λ (m : List Point). p ∷ m) (pairs_back l t h.1))

pub list_back : (least : ℕ) (l : List Point) (t : List ℕ) → LegalList Whole l → least ≤ length l
    → read_list least (length l ∷ (pair_bytes l ++ t)) ≡ good l t
unfolding read_list read_points
list_back least l t h enough =
    let room : length l * point_bytes One ≤ length (pair_bytes l ++ t) =
    simp (length-append, pairs_length) (omega arith) in
    rw (
      le-ltb limit (length l) h.few,
      le-ltb (length l) least enough,
      le-ltb (length (pair_bytes l ++ t)) (length l * point_bytes One) room,
      pairs_back l t (passed_whole l h.high),
      h.rising,
      drop_at (pair_bytes l) t (length l * point_bytes One) (pairs_length l),
    )

-- ---- a field
-- the list of a colour, empty where there is none
abbrev pub list_or : Option (List Point) → List Point
list_or none = []
list_or (some l) = l

pub colour_back : (o : Option (List Point)) → colour_list (there o) (list_or o) ≡ o
colour_back none = refl
colour_back (some l) = refl

-- ---- the kind
sixteen : (n : ℕ) → n % 256 + n / 256 * 256 ≡ n
sixteen n = omega arith

slope_back : (z : ℤ) → mag z < 32768 → stored_slope (unsigned16 z % 256) (unsigned16 z / 256) ≡ z
slope_back (pos n) h = rw (sixteen n, lt-ltb n 32768 h)
slope_back (negsuc n) h =
    let back : 65535 - (65535 - n) ≡ n = omega arith in
    rw (sixteen (65535 - n), le-ltb (65535 - n) 32768 (omega arith), back)

-- what a kind carries, at the end of a record
carried_back : (k : CurveInterpolation) → LegalKind k
    → read_carried (kind_number k) (carried_bytes k) ≡ good k []
unfolding read_carried read_tension read_slopes
carried_back k h =
    let c = carried_of k in
    let n = kind_number k in
    let read : read_carried n (carried_bytes k) ≡ good (kind_with n (carried_for n c)) [] =
    by_test (carries_tension n) (λ t. rw t)
    (λ t. by_test (carries_slopes n)
    (λ u. rw (t, u, slope_back c.start h.start, slope_back c.end h.end))
    (λ u. rw (t, u))) in
    read ∙ ap (λ i. good i []) (kind_carries k)

-- the kind of number n, where bits 5 and 6 agree with it
agreed_back : (k : CurveInterpolation) (m n : ℕ) → LegalKind k → n ≡ kind_number k
    → carried_bits m ≡ kind_bits (kind_number k) → read_agreed m n (carried_bytes k) ≡ good k []
agreed_back k m n h e carried =
    rw (e, eq-eqb (carried_bits m) (kind_bits (kind_number k)) carried) (carried_back k h)

pub kind_back : (k : CurveInterpolation) (m : ℕ) → LegalKind k → bit 16 m ≡ names_kind k
    → carried_bits m ≡ kind_bits (kind_number k)
    → read_kind (unnamed_kind true) m (kind_bytes k ++ carried_bytes k) ≡ good k []
unfolding read_kind read_number
kind_back k m h named carried =
    let n = kind_number k in
    let d = kind_number (unnamed_kind true) in
    by_test (eqb n d) (λ t. rw (named, t) (agreed_back k m d h (sym (eqb-true n d t)) carried))
    (λ t. rw (named, t, le-ltb last_kind n (number_known k)) (agreed_back k m n h refl carried))

-- ---- the record
pub regroup : (a b c d e f : List ℕ) → a ++ b ++ c ++ d ++ e ++ f ≡ a ++ (b ++ (c ++ (d ++ (e ++ f))))
regroup a b c d e f = simp append_assoc
