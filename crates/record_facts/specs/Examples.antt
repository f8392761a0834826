-- The facts about records at their edges: which records have the writer's form, and in what the
-- others differ from it; which numbers are bytes, which sets are legal, which heights whole; a set
-- with the longest record, and one byte less of room or input.
use Rattle.std.specs.Prelude.{ℕ, zero, suc, ◌-◌, ◌<◌, ◌≡◌, refl, true, false, List, [], ◌∷◌, ◌++◌, pos, length, take, get_or, Err}
use Rattle.std.proofs.Common.{arith}
use Rattle.std.proofs.Math.Bool.{false≢true}
use Rattle.std.proofs.Math.Option.{some}
use Rattle.std.proofs.Math.Dec.{lit<, lit≤}
use Rattle.points.specs.Joined.{FullRows, curve_of}
use Rattle.answers.specs.declared.Refusal.TheVariants.{OutputTooSmall, TrailingBytes}
use Rattle.answers.specs.Checks.{first_refusal}
use Rattle.lists.specs.Tabulate.{tabulate}
use Rattle.points.specs.declared.Curve.{Curve}
use Rattle.points.specs.declared.Heights.TheVariants.{Whole}
use Rattle.points.specs.Points.{pt, allowed, all_allowed, rises_from}
use Rattle.tables.specs.declared.CurveInterpolation.TheVariants.{Cardinal, ClampedCubic}
use Rattle.sets.specs.declared.Colour.{Colour}
use Rattle.sets.specs.declared.Colour.TheVariants.{Red, Green, Blue}
use Rattle.sets.specs.declared.Curves.{Curves}
use Rattle.sets.specs.Sets.{
  View,
  view_of,
  empty_view,
  master_only,
  with_colour,
  with_kind,
  present_channel,
}
use Rattle.tables.specs.Kinds.{kind_of}
use Rattle.records.specs.PointLists.{pairs, read_points, read_list}
use Rattle.records.specs.Kinds.{read_number, read_tension, read_slopes, read_carried, read_kind}
use Rattle.records.specs.Format.{longest, read_fields, read_record}
use Rattle.writing.specs.Statements.{Held}
use Rattle.writing.specs.Encode.{pair_bytes, bits_under, encode, write_checks}
use Rattle.record_facts.specs.Found.{AllBytes}
use Rattle.record_facts.specs.Levels.{HoldsLevels}
use Rattle.record_facts.specs.ReadLegal.{LegalSet}
use Rattle.record_facts.specs.Canonical.{
  names_three,
  leaves_two_out,
  has_writer_form,
  named_in_full,
}
use Rattle.answers.specs.Numbers.{done}

-- ---- the writer's form
-- bit 7 is set, and 3 is not named
pub with_bit_7 : (has_writer_form (0x80 ∷ []) ≡ true) × (has_writer_form (0x90 ∷ 2 ∷ []) ≡ true)
    × (has_writer_form (0x90 ∷ 4 ∷ []) ≡ true) × (has_writer_form (0x90 ∷ 3 ∷ []) ≡ false)
unfolding read_record read_fields read_kind read_number read_carried kind_of
with_bit_7 = (refl, refl, refl, refl)

pub without_bit_7 : (has_writer_form [] ≡ false) × (has_writer_form (0x00 ∷ []) ≡ false)
    × (has_writer_form (0x7f ∷ []) ≡ false) × (has_writer_form (0x10 ∷ 2 ∷ []) ≡ false)
without_bit_7 = (refl, refl, refl, refl)

-- 3 is named by "10 03" and by "90 03"; not by the kinds next to it, nor by a tension of 3, nor
-- where no kind is named
pub names_three_lem : (names_three (0x10 ∷ 3 ∷ []) ≡ true) × (names_three (0x90 ∷ 3 ∷ []) ≡ true)
unfolding read_record read_fields read_kind read_number read_carried kind_of
names_three_lem = (refl, refl)

pub names_another : (names_three (0x10 ∷ 2 ∷ []) ≡ false) × (names_three (0x10 ∷ 4 ∷ []) ≡ false)
    × (names_three (0x30 ∷ 7 ∷ 3 ∷ []) ≡ false) × (names_three (0x80 ∷ []) ≡ false)
    × (names_three [] ≡ false)
unfolding read_record read_fields read_kind read_number read_carried read_tension kind_of
names_another = (refl, refl, refl, refl, refl)

-- .. nor where every list is there and no kind
pub every_list : names_three (0x8f ∷ 1 ∷ 0 ∷ 0 ∷ 0 ∷ 0 ∷ 0 ∷ []) ≡ false
every_list = refl

-- 2 is left out where neither bit is set, whatever the others are
pub leaves_two_out_lem : (leaves_two_out (0x00 ∷ []) ≡ true) × (leaves_two_out (0x6f ∷ []) ≡ true)
leaves_two_out_lem = (refl, refl)

pub leaves_none_out : (leaves_two_out (0x80 ∷ []) ≡ false) × (leaves_two_out (0x10 ∷ 2 ∷ []) ≡ false)
    × (leaves_two_out (0x90 ∷ 2 ∷ []) ≡ false) × (leaves_two_out [] ≡ false)
leaves_none_out = (refl, refl, refl, refl)

-- named in full, the three records of a set of kind 2 are one, and so are those of kind 3
pub two_in_full : (named_in_full (0x01 ∷ 1 ∷ 0 ∷ 7 ∷ []) ≡ 0x91 ∷ 1 ∷ 0 ∷ 7 ∷ 2 ∷ [])
    × (named_in_full (0x11 ∷ 1 ∷ 0 ∷ 7 ∷ 2 ∷ []) ≡ 0x91 ∷ 1 ∷ 0 ∷ 7 ∷ 2 ∷ [])
    × (named_in_full (0x91 ∷ 1 ∷ 0 ∷ 7 ∷ 2 ∷ []) ≡ 0x91 ∷ 1 ∷ 0 ∷ 7 ∷ 2 ∷ [])
two_in_full = (refl, refl, refl)

pub three_in_full : (named_in_full (0x81 ∷ 1 ∷ 0 ∷ 7 ∷ []) ≡ 0x91 ∷ 1 ∷ 0 ∷ 7 ∷ 3 ∷ [])
    × (named_in_full (0x11 ∷ 1 ∷ 0 ∷ 7 ∷ 3 ∷ []) ≡ 0x91 ∷ 1 ∷ 0 ∷ 7 ∷ 3 ∷ [])
    × (named_in_full (0x91 ∷ 1 ∷ 0 ∷ 7 ∷ 3 ∷ []) ≡ 0x91 ∷ 1 ∷ 0 ∷ 7 ∷ 3 ∷ [])
three_in_full = (refl, refl, refl)

-- by the two bits alone: of a map with bit 7 alone, with every bit but it, with every list
pub maps_in_full : (named_in_full (0x80 ∷ []) ≡ 0x90 ∷ 3 ∷ [])
    × (named_in_full (0x7f ∷ []) ≡ 0xff ∷ [])
    × (named_in_full (0x8f ∷ 1 ∷ 0 ∷ 0 ∷ []) ≡ 0x9f ∷ 1 ∷ 0 ∷ 0 ∷ 3 ∷ [])
maps_in_full = (refl, refl, refl)

-- the writer makes "80" of "90 03", a byte less, and "90 02" of "00", a byte more
pub three_left_out : encode (read_record (0x90 ∷ 3 ∷ [])).set ≡ 0x80 ∷ []
unfolding read_record read_fields read_kind read_number read_carried encode bits_under kind_of
three_left_out = refl

pub two_named : encode (read_record (0x00 ∷ [])).set ≡ 0x90 ∷ 2 ∷ []
unfolding read_record read_fields read_kind read_number read_carried encode bits_under kind_of
two_named = refl

-- ---- bytes: 255 is one, 256 is none, and as a map it would be read like 0
at_255 : (i : ℕ) → get_or (255 ∷ []) i 0 < 256
at_255 zero = lit< tt
at_255 (suc i) = lit< tt

pub byte_255 : AllBytes (255 ∷ [])
byte_255 = record { byte = at_255 }

pub not_256 : AllBytes (256 ∷ []) → ⊥
not_256 b = omega (arith, b.byte 0)

pub map_256 : encode (read_record (256 ∷ [])).set ≡ encode (read_record (0 ∷ [])).set
unfolding read_record read_fields read_kind read_number read_carried encode bits_under kind_of
map_256 = refl

-- ---- legal sets: a tension is a byte, and lists rise
pub large_tension : LegalSet (with_kind (Cardinal 256) empty_view) → ⊥
large_tension h = omega (arith, h.kind.tension)

pub falling_list : LegalSet (master_only (pt 9 0 ∷ pt 9 0 ∷ [])) → ⊥
unfolding rises_from
falling_list h = false≢true h.lists.master.rising

-- ---- heights: 256 is a whole one, 255 and 257 are none; 65,280 is the highest, and 65,536 the
-- next whole one
module _ (y : ℕ) where
  abbrev pub one_point : View
  one_point = master_only (pt 7 y ∷ [])

  legal_height : allowed Whole y ≡ true → LegalSet one_point
  unfolding rises_from all_allowed
  legal_height e = record {
    lists = record {
      master = record { few = lit≤ tt; rising = refl; high = rw e };
      red = tt;
      green = tt;
      blue = tt;
    };
    kind = record { tension = lit< tt; start = lit< tt; end = lit< tt };
  }

  no_height : allowed Whole y ≡ false → LegalSet one_point → ⊥
  unfolding all_allowed
  no_height e h = false≢true (rw e at h.lists.master.high)

pub height_256 : LegalSet (one_point 256)
height_256 = legal_height 256 refl

pub height_255 : LegalSet (one_point 255) → ⊥
height_255 = no_height 255 refl

pub height_257 : LegalSet (one_point 257) → ⊥
height_257 = no_height 257 refl

pub height_65280 : LegalSet (one_point 65280)
height_65280 = legal_height 65280 refl

pub height_65536 : LegalSet (one_point 65536) → ⊥
height_65536 = no_height 65536 refl

-- in any list
abbrev fine_colour : Colour → View
fine_colour c = with_colour c (some (pt 7 257 ∷ [])) empty_view

pub whole_heights : HoldsLevels (one_point 256)
whole_heights = record { master = (refl, tt); red = tt; green = tt; blue = tt }

pub not_whole : (HoldsLevels (one_point 257) → ⊥) × (HoldsLevels (fine_colour Red) → ⊥)
    × (HoldsLevels (fine_colour Green) → ⊥) × (HoldsLevels (fine_colour Blue) → ⊥)
not_whole = (
  λ h. omega (arith, h.master.0),
  λ h. omega (arith, h.red.0),
  λ h. omega (arith, h.green.0),
  λ h. omega (arith, h.blue.0),
)

-- a stored 255 is the height 65,280; 256, which is no byte, would be 65,536
pub stored_255 : read_record (0x81 ∷ 1 ∷ 7 ∷ 255 ∷ [])
    ≡ record { answer = done; set = one_point 65280 }
unfolding read_record read_fields read_list read_points pairs rises_from read_kind read_number read_carried
    kind_of
stored_255 = refl

pub stored_256 : read_record (0x81 ∷ 1 ∷ 7 ∷ 256 ∷ [])
    ≡ record { answer = done; set = one_point 65536 }
unfolding read_record read_fields read_list read_points pairs rises_from read_kind read_number read_carried
    kind_of
stored_256 = refl

-- without the writer's test of heights 257 would come back as 256
pub same_record : encode (one_point 257) ≡ encode (one_point 256)
unfolding encode bits_under pair_bytes
same_record = refl

-- ---- the longest record: four lists of 64 points and two slopes
abbrev longest_curve : Curve
longest_curve = curve_of (tabulate 64 (λ i. pt i 0)) 64

abbrev pub longest_set : Curves
longest_set = record {
  master = longest_curve;
  red = present_channel longest_curve;
  green = present_channel longest_curve;
  blue = present_channel longest_curve;
  interpolation = ClampedCubic (pos 256) (pos 256);
}

-- as the types of code have it
longest_full : FullRows longest_curve
unfolding tabulate
longest_full = record { xs = refl; ys = refl }

pub longest_held : Held longest_set
longest_held = record {
  full = record {
    master = longest_full;
    red = longest_full;
    green = longest_full;
    blue = longest_full;
  };
  kind = record { tension = lit< tt; start = lit< tt; end = lit< tt };
}

pub longest_is : longest ≡ 522
longest_is = refl

pub longest_reached : length (encode (view_of longest_set)) ≡ longest
unfolding encode bits_under pair_bytes tabulate
longest_reached = refl

-- 522 bytes of room suffice, 521 do not
pub just_enough : first_refusal (write_checks longest_set longest) ≡ done
unfolding rises_from all_allowed encode bits_under pair_bytes tabulate
just_enough = refl

pub one_less : first_refusal (write_checks longest_set (longest - 1)) ≡ Err OutputTooSmall
unfolding rises_from all_allowed encode bits_under pair_bytes tabulate
one_less = refl

-- with a byte behind it, it is refused, and cut to 522 bytes it would not be
abbrev pub byte_behind : List ℕ
byte_behind = encode (view_of longest_set) ++ 0 ∷ []

pub whole_refused : (read_record byte_behind).answer ≡ Err TrailingBytes
unfolding read_record read_fields read_list read_points pairs rises_from read_kind read_number read_carried
    kind_of
    read_slopes encode bits_under pair_bytes tabulate
whole_refused = refl

pub cut_accepted : (read_record (take longest byte_behind)).answer ≡ done
unfolding read_record read_fields read_list read_points pairs rises_from read_kind read_number read_carried
    kind_of
    read_slopes encode bits_under pair_bytes tabulate
cut_accepted = refl
