-- A set has one record, the writer's: same sets write the same bytes, and every record that a
-- reader accepts is what the writer makes of its set, but for bit 7 and the naming of its kind.
-- "The writer sets bit 7 always and leaves the kind out when it is 3": a record may be without
-- bit 7, may name kind 3, or may, without bit 7, leave kind 2 out.
use Rattle.std.specs.Prelude.{ℕ, ◌+◌, ◌*◌, ◌≡◌, refl, List, [], ◌∷◌, ◌++◌, Bool, true, false, cond, not, ◌&&◌, eqb, length, get_or, drop}
use Rattle.std.proofs.Common.{arith, sym, ap, ◌∙◌, append-nil, true≢false, length-append, eqb-true}
use Rattle.std.proofs.lemmas.Bool.{false≢true, not-false}
use Rattle.lists.specs.Test.{by_test}
use Rattle.answers.specs.Numbers.{is_done, done}
use Rattle.answers.specs.Checks.{first_append}
use Rattle.points.specs.declared.Heights.TheVariants.{Whole}
use Rattle.tables.specs.declared.CurveInterpolation.{CurveInterpolation}
use Rattle.tables.specs.Kinds.{kind_number}
use Rattle.sets.specs.declared.Curves.{Curves}
use Rattle.sets.specs.Sets.{View, view_of, curve_checks, set_checks, set_answer}
use Rattle.sets.specs.Same.{Same}
use Rattle.sets.specs.SameLaws.{same_view, checked_same}
use Rattle.records.specs.Map.{bit}
use Rattle.records.specs.Kinds.{unnamed_kind}
use Rattle.records.specs.Format.{read_record}
use Rattle.writing.specs.Encode.{
  field_bytes,
  master_field,
  one_if,
  bits_under,
  names_kind,
  carried_bytes,
  encode,
  write_record,
}
use Rattle.writing.specs.Map.{map_back}
use Rattle.record_facts.specs.Found.{AllBytes, unnamed_is}
use Rattle.record_facts.specs.Spelling.{
  map_naming,
  body_naming,
  record_naming,
  unnamed_kind_lem,
  record_length,
  record_is,
}

-- ---- same sets write the same bytes
pub same_bytes : (a b : Curves) → Same a b → encode (view_of a) ≡ encode (view_of b)
same_bytes a b e = ap encode (same_view a b e)

-- and the writer's call does the same with them
pub same_written : (a b : Curves) (buffer : List ℕ) → Same a b
    → write_record a buffer ≡ write_record b buffer
unfolding write_record set_answer
same_written a b buffer e =
    rw (
      same_bytes a b e,
      first_append (set_checks (curve_checks Whole) a) _,
      first_append (set_checks (curve_checks Whole) b) _,
      checked_same Whole a b e,
    )

-- ---- the forms of a record
-- bit 4 is set, and the kind is 3, which the writer leaves out
abbrev pub names_three : List ℕ → Bool
names_three [] = false
names_three (m ∷ s) = bit 16 m && not (names_kind (read_record (m ∷ s)).set.kind)

-- neither bit 4 nor bit 7 is set: the kind is 2, which the writer names
abbrev pub leaves_two_out : List ℕ → Bool
leaves_two_out [] = false
leaves_two_out (m ∷ s) = not (bit 16 m) && not (bit 128 m)

-- bit 7 is set, and kind 3 is not named
abbrev pub has_writer_form : List ℕ → Bool
has_writer_form [] = false
has_writer_form (m ∷ s) = bit 128 m && not (names_three (m ∷ s))

-- the same record with bit 7 and the kind named: where it was left out, its byte comes last, as 2
-- and 3 carry nothing
abbrev map_in_full : ℕ → ℕ
map_in_full m = m + 16 * one_if (not (bit 16 m)) + 128 * one_if (not (bit 128 m))

abbrev byte_left_out : ℕ → List ℕ
byte_left_out m = cond (bit 16 m) [] (kind_number (unnamed_kind (bit 128 m)) ∷ [])

abbrev pub named_in_full : List ℕ → List ℕ
named_in_full [] = []
named_in_full (m ∷ s) = map_in_full m ∷ (s ++ byte_left_out m)

-- ---- the writer's record of a set
pub encode_is : (v : View) → encode v ≡ record_naming true (names_kind v.kind) v
unfolding encode record_naming
encode_is v = refl

-- "sets bit 7 always and leaves the kind out when it is 3"
pub writer_sets : (v : View)
    → (bit 128 (get_or (encode v) 0 0) ≡ true) × (bit 16 (get_or (encode v) 0 0) ≡ names_kind v.kind)
unfolding encode
writer_sets v =
    let back = map_back (master_field v.master) v.red v.green v.blue v.kind in
    (back.newer, back.kind)

-- the kind that it leaves out
left_out : (k : CurveInterpolation) → names_kind k ≡ false → k ≡ unnamed_kind true
left_out k e =
    let n = kind_number (unnamed_kind true) in
    unnamed_is true k (eqb-true (kind_number k) n (not-false (eqb (kind_number k) n) e))

-- ---- named in full, a set has one record
one_of : (b : Bool) → one_if b + one_if (not b) ≡ 1
one_of true = refl
one_of false = refl

full_map : (newer named : Bool) (v : View)
    → map_naming newer named v + 16 * one_if (not named) + 128 * one_if (not newer)
    ≡ map_naming true true v
unfolding bits_under
full_map newer named v = omega (arith, one_of newer, one_of named)

full_body : (newer named : Bool) (v : View) → (named ≡ false → v.kind ≡ unnamed_kind newer)
    → body_naming named v ++ cond named [] (kind_number (unnamed_kind newer) ∷ []) ≡ body_naming true v
full_body newer true v h = append-nil (body_naming true v)
full_body newer false v h =
    let kind = h refl in
    let lists = field_bytes (master_field v.master) ++ field_bytes v.red
    ++ field_bytes v.green ++ field_bytes v.blue in
    let carries : carried_bytes (unnamed_kind newer) ≡ [] =
    by_test newer (λ t. rw t) (λ t. rw t) in
    rw (kind, carries, append-nil lists, append-nil lists)
    (sym (append-nil (lists ++ kind_number (unnamed_kind newer) ∷ [])))

in_full : (m : ℕ) (s : List ℕ) (v : View) → m ∷ s ≡ record_naming (bit 128 m) (bit 16 m) v
    → (bit 16 m ≡ false → v.kind ≡ unnamed_kind (bit 128 m))
    → named_in_full (m ∷ s) ≡ record_naming true true v
unfolding record_naming
in_full m s v e unnamed =
    let first : m ≡ map_naming (bit 128 m) (bit 16 m) v = ap (λ (l : List ℕ). get_or l 0 0) e in
    let rest : s ≡ body_naming (bit 16 m) v = ap (λ (l : List ℕ). drop 1 l) e in
    let map : map_in_full m ≡ map_naming true true v =
    omega (arith, first, full_map (bit 128 m) (bit 16 m) v) in
    let body : s ++ byte_left_out m ≡ body_naming true v =
    ap (λ (l : List ℕ). l ++ byte_left_out m) rest ∙ full_body (bit 128 m) (bit 16 m) v unnamed in
    ap (λ (n : ℕ). n ∷ (s ++ byte_left_out m)) map
    ∙ ap (λ (l : List ℕ). map_naming true true v ∷ l) body

written_in_full : (v : View) → named_in_full (encode v) ≡ record_naming true true v
unfolding encode record_naming
written_in_full v =
    let named = names_kind v.kind in
    let bits = writer_sets v in
    in_full (map_naming true named v) (body_naming named v) v (rw (bits.0, bits.1))
    (λ e. rw bits.0 (left_out v.kind (sym bits.1 ∙ e)))

-- ---- an accepted record
pub no_map : (read_record []).answer ≡ done → ⊥
unfolding read_record
no_map e = true≢false (ap is_done (sym e))

-- differs from what the writer makes of its set in what `named_in_full` puts in alone
pub accepted_in_full : (s : List ℕ) → AllBytes s → (read_record s).answer ≡ done
    → named_in_full s ≡ named_in_full (encode (read_record s).set)
accepted_in_full [] bytes accepted = absurd (no_map accepted)
accepted_in_full (m ∷ s) bytes accepted =
    let set = (read_record (m ∷ s)).set in
    in_full m s set (record_is m s accepted bytes) (unnamed_kind_lem m s accepted)
    ∙ sym (written_in_full set)

-- in the writer's form a kind is named just where the writer names it
module _ (m : ℕ) (s : List ℕ) (accepted : (read_record (m ∷ s)).answer ≡ done) where
  abbrev set : View
  set = (read_record (m ∷ s)).set

  pub as_written : has_writer_form (m ∷ s) ≡ true
      → (bit 128 m ≡ true) × (bit 16 m ≡ names_kind set.kind)
  as_written e =
      by_test (bit 128 m)
      (λ newer. (
        newer,
        by_test (bit 16 m)
            (λ named. by_test (names_kind set.kind) (λ u. rw (named, u))
            (λ u. absurd (false≢true (rw (newer, named, u) at e))))
            (λ unnamed. rw (unnamed, unnamed_kind_lem m s accepted unnamed, newer)),
      ))
      (λ older. absurd (false≢true (rw older at e)))

-- what the writer makes of its set has the writer's form; that no other record has it is in
-- proofs/WriterFormLaws
pub writer_form : (s : List ℕ) → (read_record s).answer ≡ done → encode (read_record s).set ≡ s
    → has_writer_form s ≡ true
writer_form [] accepted e = absurd (no_map accepted)
writer_form (m ∷ s) accepted e =
    let set = (read_record (m ∷ s)).set in
    let bits = rw (ap (λ (l : List ℕ). get_or l 0 0) e) at (writer_sets set) in
    rw (bits.0, bits.1) (by_test (names_kind set.kind) (λ t. rw t) (λ t. rw t))

-- ---- how long it is
naming_length : (newer named : Bool) (v : View)
    → length (record_naming newer named v) ≡ length (record_naming true false v) + one_if named
unfolding record_naming
naming_length newer true v = simp length-append (omega arith)
naming_length newer false v = simp length-append (omega arith)

-- a byte less than what the writer makes of its set where it leaves kind 2 out, a byte more where
-- it names kind 3, and else as long
pub accepted_length : (s : List ℕ) → (read_record s).answer ≡ done
    → length s + one_if (leaves_two_out s)
    ≡ length (encode (read_record s).set) + one_if (names_three s)
accepted_length [] accepted = absurd (no_map accepted)
accepted_length (m ∷ s) accepted =
    let set = (read_record (m ∷ s)).set in
    let long = record_length m s accepted ∙ naming_length (bit 128 m) (bit 16 m) set in
    let made = ap length (encode_is set) ∙ naming_length true (names_kind set.kind) set in
    by_test (bit 16 m)
    (λ named. by_test (names_kind set.kind)
    (λ u. rw (named, u) (omega (arith, rw named at long, rw u at made)))
    (λ u. rw (named, u) (omega (arith, rw named at long, rw u at made))))
    (λ unnamed.
    let kind = unnamed_kind_lem m s accepted unnamed in
    by_test (bit 128 m)
    (λ t. rw (unnamed, t) (omega (arith, rw unnamed at long, rw (kind, t) at made)))
    (λ t. rw (unnamed, t) (omega (arith, rw unnamed at long, rw (kind, t) at made))))
