-- What the bytes of an accepted record are: the map, the lists that it marks, the kind's byte where
-- it names one, and what the kind carries. So a record is known from its set, from its bit 7 and
-- from whether it names the kind.
use Rattle.std.specs.Prelude.{ℕ, suc, ◌+◌, ◌*◌, ◌/◌, ◌%◌, ◌<◌, ◌≡◌, Bool, false, eqb, length}
use Rattle.std.proofs.Common.{arith, sym, ap, ◌∙◌, eqb-true}
use mathlib.Core.List.{List, [], ◌∷◌, ◌++◌, append_assoc}
use Rattle.std.proofs.Math.ListN.{length-append}
use Rattle.std.proofs.lemmas.Bool.{eqb-false}
use Rattle.lists.specs.Test.{by_test}
use Rattle.tables.specs.Kinds.{kind_number, kind_bits}
use Rattle.sets.specs.Sets.{View}
use Rattle.records.specs.Map.{bit, carried_bits}
use Rattle.records.specs.Kinds.{unnamed_kind}
use Rattle.records.specs.Format.{read_record}
use Rattle.writing.specs.Encode.{field_bytes, master_field, carried_bytes, one_if, bits_under, there}
use Rattle.record_facts.specs.Found.{
  AllBytes,
  bytes_rest,
  kind_byte,
  Fields,
  accepted,
  carried_same,
}
use Rattle.answers.specs.Numbers.{done}

-- the record of a set with bit 7, or without it, that names its kind, or does not: its map, and the
-- bytes after that
abbrev pub map_naming : Bool → Bool → View → ℕ
map_naming newer named v =
    bits_under (kind_bits (kind_number v.kind) + 4 * one_if newer)
    (there (master_field v.master) ∷ there v.red ∷ there v.green ∷ there v.blue ∷ named
    ∷ [])

abbrev pub body_naming : Bool → View → List ℕ
body_naming named v =
    field_bytes (master_field v.master) ++ field_bytes v.red ++ field_bytes v.green
    ++ field_bytes v.blue ++ kind_byte named v.kind ++ carried_bytes v.kind

unfoldable pub record_naming : Bool → Bool → View → List ℕ
record_naming newer named v = map_naming newer named v ∷ body_naming named v

-- a map is its bits
bit_back : (n half : ℕ) → half ≡ n / 2 → one_if (eqb (n % 2) 1) + 2 * half ≡ n
bit_back n half e =
    by_test (eqb (n % 2) 1) (λ t. rw t (omega (arith, eqb-true (n % 2) 1 t)))
    (λ t. rw t (omega (arith, eqb-false (n % 2) 1 t)))

map_is : (m : ℕ) → m < 256
    → bits_under (carried_bits m + 4 * one_if (bit 128 m))
    (bit 1 m ∷ bit 2 m ∷ bit 4 m ∷ bit 8 m ∷ bit 16 m ∷ []) ≡ m
unfolding bits_under
map_is m small =
    let top : m / 32 % 4 + 4 * one_if (bit 128 m) ≡ m / 32 =
    omega (arith, bit_back (m / 128) 0 (omega arith)) in
    rw (
      top,
      bit_back (m / 16) (m / 32) (omega arith),
      bit_back (m / 8) (m / 16) (omega arith),
      bit_back (m / 4) (m / 8) (omega arith),
      bit_back (m / 2) (m / 4) (omega arith),
    )
    (omega (arith, bit_back (m / 1) (m / 2) (omega arith)))

module _ (m : ℕ) (s : List ℕ) (v : View) (f : Fields m v s) where
  fields_length : suc (length s) ≡ length (record_naming (bit 128 m) (bit 16 m) v)
  unfolding record_naming
  fields_length =
      rw (f.bytes, f.lists.bytes, f.kind.bytes)
      (simp length-append (omega (arith, f.kind.carried.long)))

  fields_is : AllBytes (m ∷ s) → m ∷ s ≡ record_naming (bit 128 m) (bit 16 m) v
  unfolding record_naming
  fields_is h =
      let same = (carried_same f (bytes_rest m s h)).0 in
      rw (
        f.lists.master,
        f.lists.red,
        f.lists.green,
        f.lists.blue,
        ← f.kind.agreed,
        map_is m (h.byte 0),
      )
      (ap (λ (t : List ℕ). m ∷ t)
      (f.bytes
      ∙ rw (← f.lists.bytes, f.kind.bytes, same)
      (sym (append_assoc f.front (kind_byte (bit 16 m) v.kind) (carried_bytes v.kind)))))

-- ---- an accepted record
module _ (m : ℕ) (s : List ℕ) (e : (read_record (m ∷ s)).answer ≡ done) where
  abbrev set : View
  set = (read_record (m ∷ s)).set

  -- where it names no kind, bit 7 tells it
  pub unnamed_kind_lem : bit 16 m ≡ false → set.kind ≡ unnamed_kind (bit 128 m)
  unnamed_kind_lem = (accepted m s e).kind.unnamed

  pub record_length : suc (length s) ≡ length (record_naming (bit 128 m) (bit 16 m) set)
  record_length = fields_length m s set (accepted m s e)

  pub record_is : AllBytes (m ∷ s) → m ∷ s ≡ record_naming (bit 128 m) (bit 16 m) set
  record_is = fields_is m s set (accepted m s e)
