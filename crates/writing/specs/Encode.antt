-- The record of a set, edition 1, byte by byte, and what the writer leaves in a lent buffer, as
-- document 01's sections "Stored record" and "When a call says no" and document 02's U1 and U9 have
-- them.
-- Definitions only.
use Rattle.std.specs.Prelude.{
  ℕ,
  ◌+◌,
  ◌-◌,
  ◌*◌,
  ◌/◌,
  ◌%◌,
  List,
  [],
  ◌∷◌,
  ◌++◌,
  Bool,
  true,
  false,
  cond,
  not,
  length,
  drop,
  eqb,
  ℤ,
  pos,
  negsuc,
}
use Rattle.std.proofs.Math.Option.{Option, none, some}
use Rattle.std.proofs.Math.ListN as ListN
use Rattle.answers.specs.Numbers.{is_done, Answer, done}
use Rattle.answers.specs.Checks.{Check, first_refusal, room_check}
use Rattle.points.specs.declared.Point.{Point}
use Rattle.points.specs.declared.Heights.TheVariants.{Whole}
use Rattle.tables.specs.declared.CurveInterpolation.{CurveInterpolation}
use Rattle.tables.specs.Kinds.{kind_number, carries_tension, carries_slopes, kind_bits, carried_of}
use Rattle.sets.specs.declared.Curves.{Curves}
use Rattle.sets.specs.Sets.{View, view_of, curve_checks, set_checks}
use Rattle.records.specs.Kinds.{unnamed_kind}

-- ---- the lists
-- "x, y pairs": the y is a level
unfoldable pub pair_bytes : List Point → List ℕ
pair_bytes [] = []
pair_bytes (p ∷ ps) = p.x ∷ p.y / 256 ∷ pair_bytes ps

-- "each a count byte, then x, y pairs"; what is absent has no field
abbrev pub field_bytes : Option (List Point) → List ℕ
field_bytes none = []
field_bytes (some l) = length l ∷ pair_bytes l

-- "Bit 0 off: empty master"
abbrev pub master_field : List Point → Option (List Point)
master_field [] = none
master_field (p ∷ ps) = some (p ∷ ps)

-- ---- the kind
-- "The writer sets bit 7 always and leaves the kind out when it is 3", for which bit 7 stands
abbrev pub names_kind : CurveInterpolation → Bool
names_kind k = not (eqb (kind_number k) (kind_number (unnamed_kind true)))

abbrev pub kind_bytes : CurveInterpolation → List ℕ
kind_bytes k = cond (names_kind k) (kind_number k ∷ []) []

-- "two's complement", of 16 bits
abbrev pub unsigned16 : ℤ → ℕ
unsigned16 (pos n) = n
unsigned16 (negsuc n) = 65535 - n

-- "low byte first"
abbrev pub low_first : ℕ → List ℕ
low_first n = n % 256 ∷ n / 256 ∷ []

abbrev pub slope_bytes : ℤ → List ℕ
slope_bytes v = low_first (unsigned16 v)

-- "5 tension byte, 6 start and end slope"
abbrev pub carried_bytes : CurveInterpolation → List ℕ
carried_bytes k =
    let c = carried_of k in
    cond (carries_tension (kind_number k)) (c.tension ∷ [])
    (cond (carries_slopes (kind_number k)) (slope_bytes c.start ++ slope_bytes c.end) [])

-- ---- the bit map
abbrev pub one_if : Bool → ℕ
one_if present = cond present 1 0

-- a bit for each mark, the first in bit 0, with the number `above` from the next bit on
unfoldable pub bits_under : ℕ → List Bool → ℕ
bits_under above [] = above
bits_under above (b ∷ bs) = one_if b + 2 * bits_under above bs

abbrev pub there : {A : Type 0} → Option A → Bool
there none = false
there (some a) = true

-- bits 0 to 4, and above them what the kind says of bits 5 and 6, and bit 7, there worth 4
abbrev pub map_of : Option (List Point) → Option (List Point) → Option (List Point)
    → Option (List Point) → CurveInterpolation → ℕ
map_of master red green blue k =
    bits_under (kind_bits (kind_number k) + 4)
    (there master ∷ there red ∷ there green ∷ there blue ∷ names_kind k ∷ [])

-- ---- the record
-- "First a bit map byte, then only the fields whose bit stands, from bit 0"
unfoldable pub encode : View → List ℕ
encode v =
    (map_of (master_field v.master) v.red v.green v.blue v.kind ∷ [])
    ++ field_bytes (master_field v.master)
    ++ field_bytes v.red ++ field_bytes v.green ++ field_bytes v.blue ++ kind_bytes v.kind
    ++ carried_bytes v.kind

-- ---- the call
-- the answer, the length written, and the buffer afterwards
pub record Write : Type 0 where
  pub answer : Answer
  pub length : ℕ
  pub buffer : List ℕ

-- on a refusal "lent memory is unchanged"; else the writer "gives the length written and
-- changes no byte past it"
abbrev pub outcome : Answer → List ℕ → List ℕ → Write
outcome a bytes buffer =
    cond (is_done a)
    (record {
      answer = done;
      length = ListN.length bytes;
      buffer = bytes ++ drop (ListN.length bytes) buffer;
    })
    (record { answer = a; length = 0; buffer = buffer })

-- the checks of the writer into a buffer of so many bytes: those of the set's lists, which hold
-- "whole heights only", then 13
abbrev pub write_checks : Curves → ℕ → List Check
write_checks s room =
    set_checks (curve_checks Whole) s ++ room_check (length (encode (view_of s))) room ∷ []

unfoldable pub write_record : Curves → List ℕ → Write
write_record s buffer =
    outcome (first_refusal (write_checks s (length buffer))) (encode (view_of s)) buffer
