-- How long the record of a legal set is: at most `longest`, which is 522 bytes.
use Rattle.std.specs.Prelude.{◌*◌, ◌≤◌, ◌≡◌, refl, List, [], ◌∷◌, length}
use Rattle.std.proofs.Common.{arith, lit≤, length-append}
use Rattle.std.proofs.Math.Option.{Option, none, some}
use Rattle.lists.specs.Test.{by_test}
use Rattle.points.specs.declared.Point.{Point}
use Rattle.tables.specs.declared.CurveInterpolation.{CurveInterpolation}
use Rattle.tables.specs.Kinds.{kind_number, carries_tension, carries_slopes}
use Rattle.sets.specs.Sets.{View}
use Rattle.points.specs.declared.Heights.TheVariants.{Whole}
use Rattle.sets.specs.Legal.{LegalList, LegalColour, Legal}
use Rattle.writing.specs.Encode.{
  pair_bytes,
  field_bytes,
  master_field,
  names_kind,
  kind_bytes,
  carried_bytes,
  encode,
}
use Rattle.records.specs.Format.{longest, longest_field}
use Rattle.writing.specs.declared.TheConstants.{LONGEST_RECORD}

pub pairs_length : (l : List Point) → length (pair_bytes l) ≡ length l * 2
unfolding pair_bytes
pairs_length [] = refl
pairs_length (p ∷ l) = omega (arith, pairs_length l)

field_length : (o : Option (List Point)) → LegalColour Whole o
    → length (field_bytes o) ≤ longest_field
field_length none h = lit≤ tt
field_length (some l) h = omega (arith, pairs_length l)

-- a legal list is a legal field, empty or not
pub master_legal : (l : List Point) → LegalList Whole l → LegalColour Whole (master_field l)
master_legal [] h = tt
master_legal (p ∷ l) h = h

pub kind_length : (k : CurveInterpolation) → length (kind_bytes k) ≤ 1
kind_length k = by_test (names_kind k) (λ t. rw t (lit≤ tt)) (λ t. rw t (lit≤ tt))

carried_length_lem : (k : CurveInterpolation) → length (carried_bytes k) ≤ 4
carried_length_lem k =
    by_test (carries_tension (kind_number k)) (λ t. rw t (lit≤ tt))
    (λ t. by_test (carries_slopes (kind_number k)) (λ u. rw (t, u) (lit≤ tt))
    (λ u. rw (t, u) (lit≤ tt)))

pub record FieldLengths (v : View) : Type 0 where
  pub master : length (field_bytes (master_field v.master)) ≤ longest_field
  pub red : length (field_bytes v.red) ≤ longest_field
  pub green : length (field_bytes v.green) ≤ longest_field
  pub blue : length (field_bytes v.blue) ≤ longest_field
  pub kind : length (kind_bytes v.kind) ≤ 1
  pub carried : length (carried_bytes v.kind) ≤ 4

pub field_lengths : (v : View) → Legal Whole v → FieldLengths v
field_lengths v h = record {
  master = field_length (master_field v.master) (master_legal v.master h.master);
  red = field_length v.red h.red;
  green = field_length v.green h.green;
  blue = field_length v.blue h.blue;
  kind = kind_length v.kind;
  carried = carried_length_lem v.kind;
}

pub encode_length : (v : View) → Legal Whole v → length (encode v) ≤ longest
unfolding encode
encode_length v h = let f = field_lengths v h in simp length-append (omega arith)

-- the code's number is that, and no more
pub longest_said : LONGEST_RECORD ≡ longest
longest_said = refl
