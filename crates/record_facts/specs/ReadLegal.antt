-- Every set that the reader hands back, on a refusal too, is one that a writer of today's record
-- takes: each list has at most 64 points, strictly rises in x and has whole heights up to 65,280,
-- and what the kind carries is a byte or two numbers of 16 bits.
use Rattle.std.specs.Prelude.{ℕ, ◌/◌, refl, List, [], ◌∷◌, ◌++◌, length}
use Rattle.std.proofs.Common.{arith, lit<, lit≤}
use Rattle.std.proofs.Math.Option.{Option, none, some}
use Rattle.points.specs.declared.Point.{Point}
use Rattle.points.specs.declared.Heights.TheVariants.{Whole}
use Rattle.points.specs.HeightLaws.{proper_passes}
use Rattle.points.specs.Order.{All, Proper, WholeHeight}
use Rattle.points.specs.Points.{rises_from, all_allowed}
use Rattle.tables.specs.Kinds.{LegalKind}
use Rattle.sets.specs.Lists.{OfColour}
use Rattle.sets.specs.Legal.{LegalList, LegalColour, Legal}
use Rattle.sets.specs.Sets.{View, empty_view}
use Rattle.records.specs.Format.{read_record}
use Rattle.writing.specs.Encode.{pair_bytes, field_bytes, master_field}
use Rattle.record_facts.specs.Found.{
  AllBytes,
  bytes_behind,
  bytes_before,
  bytes_rest,
  StoredList,
  Fields,
  handed_has,
  carried_same,
}
use Rattle.record_facts.specs.Levels.{whole_passes}

pub record LegalSet (v : View) : Type 0 where
  pub lists : Legal Whole v
  pub kind : LegalKind v.kind

-- ---- lists
-- a level that is stored as a byte is at most 65,280
bytes_proper : (l : List Point) → AllBytes (pair_bytes l) → All WholeHeight l → All Proper l
unfolding pair_bytes
bytes_proper [] b h = tt
bytes_proper (p ∷ l) b h =
    let rest = bytes_behind (p.x ∷ p.y / 256 ∷ []) (pair_bytes l) b in
    ((b.byte 0, omega (arith, b.byte 1, h.0)), bytes_proper l rest h.1)

colour_legal : (o : Option (List Point)) → AllBytes (field_bytes o) → OfColour StoredList o
    → LegalColour Whole o
colour_legal none b h = tt
colour_legal (some l) b h =
    let proper = bytes_proper l (bytes_rest (length l) (pair_bytes l) b) h.whole in
    record {
      few = h.few;
      rising = h.rising;
      high = whole_passes l (proper_passes l proper) h.whole;
    }

empty_list : LegalList Whole []
unfolding rises_from all_allowed
empty_list = record { few = lit≤ tt; rising = refl; high = refl }

master_legal : (l : List Point) → AllBytes (field_bytes (master_field l)) → StoredList l
    → LegalList Whole l
master_legal [] b h = empty_list
master_legal (p ∷ l) b h = colour_legal (some (p ∷ l)) b h

-- ---- the set
four_fields : (a b c d : List ℕ) → AllBytes (a ++ b ++ c ++ d)
    → AllBytes a × AllBytes b × AllBytes c × AllBytes d
four_fields a b c d h =
    let abc = bytes_before (a ++ b ++ c) d h in
    let ab = bytes_before (a ++ b) c abc in (
      bytes_before a b ab,
      bytes_behind a b ab,
      bytes_behind (a ++ b) c abc,
      bytes_behind (a ++ b ++ c) d h,
    )

fields_legal : (m : ℕ) (v : View) (s : List ℕ) → Fields m v s → AllBytes s → LegalSet v
fields_legal m v s f b =
    let front = bytes_before f.front f.behind (rw f.bytes at b) in
    let each =
    four_fields (field_bytes (master_field v.master)) (field_bytes v.red)
    (field_bytes v.green) (field_bytes v.blue) (rw f.lists.bytes at front) in
    record {
      lists = record {
        master = master_legal v.master each.0 f.stored.master;
        red = colour_legal v.red each.1 f.stored.red;
        green = colour_legal v.green each.2 f.stored.green;
        blue = colour_legal v.blue each.3 f.stored.blue;
      };
      kind = (carried_same f b).1;
    }

empty_legal : LegalSet empty_view
empty_legal = record {
  lists = record { master = empty_list; red = tt; green = tt; blue = tt };
  kind = record { tension = lit< tt; start = lit< tt; end = lit< tt };
}

pub read_legal : (s : List ℕ) → AllBytes s → LegalSet (read_record s).set
unfolding read_record
read_legal [] b = empty_legal
read_legal (m ∷ s) b =
    handed_has LegalSet empty_legal m s (λ v f. fields_legal m v s f (bytes_rest m s b))
