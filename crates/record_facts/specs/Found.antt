-- What the reader finds in a record: of each value the bytes that spell it, and what a writer asks
-- of it. One walk over the fields tells both; Levels, ReadLegal and Spelling say what comes of it.
use Rattle.std.specs.Prelude.{ℕ, zero, suc, ◌+◌, ◌*◌, ◌/◌, ◌%◌, ◌≤◌, ◌<◌, ◌≡◌, Bool, true, false, cond, ltb, ℤ, length, get_or, drop}
use Rattle.std.proofs.Common.{arith, sym, ap, ◌∙◌, true≢false, lit<, lit≤, get_or-append-add, ltb-true, ltb-false, le-ltb, eqb-true}
use Rattle.std.proofs.Math.Path.{refl}
use mathlib.Core.List.{List, [], ◌∷◌, ◌++◌, append_assoc, append-nil}
use Rattle.std.proofs.Math.Option.{Option, some}
use Rattle.std.proofs.Math.ListN.{get_or-eq_default, get_or-append}
use Rattle.std.specs.Int.Signed.{mag}
use Rattle.std.proofs.lemmas.Bool.{not-false}
use Rattle.lists.specs.Test.{by_test}
use Rattle.answers.specs.declared.Refusal.{Refusal}
use Rattle.answers.specs.declared.Refusal.TheVariants.{RecordTruncated, UnknownKind}
use Rattle.answers.specs.Numbers.{is_done, done}
use Rattle.answers.proofs.NumberLaws.{done_is}
use Rattle.points.specs.declared.Point.{Point}
use Rattle.points.specs.Points.{limit, rises, rises_from}
use Rattle.points.specs.Order.{All, WholeHeight}
use Rattle.tables.specs.declared.CurveInterpolation.{CurveInterpolation}
use Rattle.tables.specs.declared.Carried.{Carried}
use Rattle.tables.specs.Kinds.{nothing, a_tension, two_slopes, kind_number, last_kind}
use Rattle.tables.specs.Kinds.{carries_tension, carries_slopes, kind_bits, LegalKind}
use Rattle.tables.specs.Kinds.{kind_of}
use Rattle.tables.specs.KindLaws.{number_known, kind_with, number_back, carried_back, kind_carries}
use Rattle.tables.specs.KindLaws.{kind_legal}
use Rattle.sets.specs.declared.Colour.{Colour}
use Rattle.sets.specs.declared.Colour.TheVariants.{Red, Green, Blue}
use Rattle.sets.specs.Lists.{OfColour, EveryList}
use Rattle.sets.specs.Sets.{View, empty_view, colour_of, with_master, with_colour, with_kind}
use Rattle.records.specs.declared.point_lists.Edition.TheVariants.{One}
use Rattle.records.specs.Parse.{Parse, good, refused, ◌▷◌}
use Rattle.records.specs.Map.{bit, carried_bits, colour_bit}
use Rattle.records.specs.PointLists.{
  point_bytes,
  pairs,
  point_checks,
  read_points,
  read_list,
  read_field,
}
use Rattle.records.specs.LevelLaws.{pairs_whole}
use Rattle.records.specs.Kinds.{
  unnamed_kind,
  stored_slope,
  read_number,
  read_tension,
  read_slopes,
  read_carried,
  bits_check,
  read_agreed,
  read_kind,
}
use Rattle.records.specs.Format.{
  master_step,
  colour_list,
  colour_step,
  kind_step,
  end_step,
  read_fields,
  read_result,
  read_record,
}
use Rattle.records.specs.CheckLaws.{checked_has, read_empty}
use Rattle.writing.specs.Encode.{
  pair_bytes,
  field_bytes,
  master_field,
  unsigned16,
  slope_bytes,
  carried_bytes,
  there,
}

-- ---- bytes
pub record AllBytes (s : List ℕ) : Type 0 where
  pub byte : (i : ℕ) → get_or s i 0 < 256

pub bytes_behind : (a b : List ℕ) → AllBytes (a ++ b) → AllBytes b
bytes_behind a b h = record { byte = λ i. rw (← get_or-append-add a b i 0) (h.byte (length a + i)) }

pub bytes_before : (a b : List ℕ) → AllBytes (a ++ b) → AllBytes a
bytes_before a b h = record {
  byte = λ i.
      by_test (ltb i (length a))
      (λ t. rw (← get_or-append a b 0 i (ltb-true i (length a) t)) (h.byte i))
      (λ t. rw (get_or-eq_default a 0 (ltb-false i (length a) t)) (lit< tt));
}

pub bytes_rest : (a : ℕ) (s : List ℕ) → AllBytes (a ∷ s) → AllBytes s
bytes_rest a s b = bytes_behind (a ∷ []) s b

-- ---- a reading
-- at the front of s it finds a value v with the bytes c, of which P holds, or it refuses
data Spelled {A : Type 0} (P : A → List ℕ → Type 0) (s : List ℕ) : Parse A → Type 0 where
  found : (v : A) (c t : List ℕ) → P v c → s ≡ c ++ t → Spelled P s (good v t)
  none_found : (r : Refusal) → Spelled P s (refused r)

-- what is found behind the bytes c
behind : {A : Type 0} {P Q : A → List ℕ → Type 0} {s t : List ℕ} {p : Parse A} (c : List ℕ)
    → s ≡ c ++ t → ((v : A) (d : List ℕ) → P v d → Q v (c ++ d)) → Spelled P t p → Spelled Q s p
behind c e f (found v d u h w) = found v (c ++ d) u (f v d h) (rw (e, w) (simp append_assoc))
behind c e f (none_found r) = none_found r

-- of two readings, whichever it is
pub either : {A : Type 0} (F : Parse A → Type 0) (b : Bool) (p q : Parse A) → (b ≡ true → F p)
    → (b ≡ false → F q) → F (cond b p q)
either F true p q f g = f refl
either F false p q f g = g refl

-- ---- lists
pub pairs_length : (n : ℕ) (s : List ℕ) → length (pairs One n s) ≡ n
unfolding pairs
pairs_length zero s = refl
pairs_length (suc n) s = rw (pairs_length n (drop (point_bytes One) s))

-- the level that is stored, from the height that is read
level_back : (n : ℕ) → n * 256 / 256 ≡ n
level_back n = omega arith

pairs_spelled : (n : ℕ) (s : List ℕ) → n * 2 ≤ length s
    → s ≡ pair_bytes (pairs One n s) ++ drop (n * 2) s
unfolding pairs pair_bytes
pairs_spelled zero s h = refl
pairs_spelled (suc n) [] h = absurd (omega arith)
pairs_spelled (suc n) (x ∷ []) h = absurd (omega arith)
pairs_spelled (suc n) (x ∷ y ∷ s) h =
    let e : suc n * 2 ≡ suc (suc (n * 2)) = omega arith in
    rw (e, level_back y) (ap (λ (t : List ℕ). x ∷ y ∷ t) (pairs_spelled n s (omega arith)))

-- what every list is that was read: at most 64 points, which rise in x and are at levels
pub record StoredList (l : List Point) : Type 0 where
  pub few : length l ≤ limit
  pub rising : rises l ≡ true
  pub whole : All WholeHeight l

-- a list that is there, of at least so many points
abbrev ListOf : ℕ → List Point → List ℕ → Type 0
ListOf least l c = StoredList l × (least ≤ length l) × (c ≡ field_bytes (some l))

list_spelled : (least : ℕ) (s : List ℕ) → Spelled (ListOf least) s (read_list least s)
unfolding read_list read_points
list_spelled least [] = none_found RecordTruncated
list_spelled least (n ∷ s) =
    let l = pairs One n s in
    let long = pairs_length n s in
    checked_has (Spelled (ListOf least) (n ∷ s)) none_found (point_checks least n s) _
    (λ passed.
    let few = ltb-false limit n passed.0 in
    let enough = ltb-false n least passed.1.0 in
    let room = ltb-false (length s) (n * 2) passed.1.1.0 in
    found l (field_bytes (some l)) (drop (n * 2) s) (
      record {
        few = omega arith;
        rising = not-false _ passed.1.1.1.0;
        whole = pairs_whole n s;
      },
      omega arith,
      refl,
    )
    (rw (long, ← pairs_spelled n s room)))

-- a field, and whether it is marked
abbrev FieldOf : Bool → Option (List Point) → List ℕ → Type 0
FieldOf marked o c = (there o ≡ marked) × OfColour StoredList o × (c ≡ field_bytes o)

not_empty : (l : List Point) → 1 ≤ length l → master_field l ≡ some l
not_empty [] h = absurd (omega arith)
not_empty (p ∷ l) h = refl

-- a master that is there, or the empty one
stored_master : (l : List Point) → OfColour StoredList (master_field l) → StoredList l
unfolding rises_from
stored_master [] h = record { few = lit≤ tt; rising = refl; whole = tt }
stored_master (p ∷ l) h = h

master_spelled : (marked : Bool) (s : List ℕ)
    → Spelled (λ l. FieldOf marked (master_field l)) s (read_field marked 1 s)
master_spelled true s =
    behind [] refl (λ l c p. rw (not_empty l p.1) (refl, p.0, p.2)) (list_spelled 1 s)
master_spelled false s = found [] [] s (refl, tt, refl) refl

colour_spelled : (marked : Bool) (s : List ℕ)
    → Spelled (λ l. FieldOf marked (colour_list marked l)) s (read_field marked 0 s)
colour_spelled true s = behind [] refl (λ l c p. (refl, p.0, p.2)) (list_spelled 0 s)
colour_spelled false s = found [] [] s (refl, tt, refl) refl

-- ---- what a kind carries
-- so many bytes; and where they are bytes, they are its own, and it is legal
pub record CarriedOf (v : CurveInterpolation) (c : List ℕ) : Type 0 where
  pub long : length c ≡ length (carried_bytes v)
  pub same : AllBytes c → (c ≡ carried_bytes v) × LegalKind v

-- a number of 16 bits and its bytes
module _ (low high : ℕ) (l : low < 256) (h : high < 256) where
  abbrev slope : ℤ
  slope = stored_slope low high

  slope_spelled : (unsigned16 slope % 256 ≡ low) × (unsigned16 slope / 256 ≡ high)
      × (mag slope < 32768)
  slope_spelled =
      let n = low + high * 256 in
      by_test (ltb n 32768) (λ t. rw t (omega arith, omega arith, ltb-true n 32768 t))
      (λ t. rw t (omega arith, omega arith, omega (arith, ltb-false n 32768 t)))

module _ (k : ℕ) (known : ltb last_kind k ≡ false) where
  -- a kind of this number, and what it carries
  abbrev Carries : CurveInterpolation → List ℕ → Type 0
  Carries v c = (kind_number v ≡ k) × CarriedOf v c

  number : (c : Carried) → kind_number (kind_with k c) ≡ k
  number c = number_back k c (ltb-false last_kind k known)

  tension_spelled : carries_tension k ≡ true → (s : List ℕ) → Spelled Carries s (read_tension k s)
  unfolding read_tension
  tension_spelled t [] = none_found RecordTruncated
  tension_spelled t (q ∷ s) =
      let c = a_tension q in
      let bytes : carried_bytes (kind_with k c) ≡ q ∷ [] = rw (number c, t, carried_back k c, t) in
      found (kind_with k c) (q ∷ []) s (
        number c,
        record {
          long = rw bytes;
          same = λ b. (sym bytes, kind_legal k c (b.byte 0) (lit< tt) (lit< tt));
        },
      )
      refl

  slopes_spelled : carries_tension k ≡ false → carries_slopes k ≡ true → (s : List ℕ)
      → Spelled Carries s (read_slopes k s)
  unfolding read_slopes
  slopes_spelled t u [] = none_found RecordTruncated
  slopes_spelled t u (a ∷ []) = none_found RecordTruncated
  slopes_spelled t u (a ∷ b ∷ []) = none_found RecordTruncated
  slopes_spelled t u (a ∷ b ∷ c ∷ []) = none_found RecordTruncated
  slopes_spelled t u (a ∷ b ∷ c ∷ d ∷ s) =
      let v = two_slopes (stored_slope a b) (stored_slope c d) in
      let bytes : carried_bytes (kind_with k v) ≡ slope_bytes v.start ++ slope_bytes v.end =
      rw (number v, t, u, carried_back k v, t, u) in
      rw (le-ltb (length (a ∷ b ∷ c ∷ d ∷ s)) 4 (omega arith))
      (found (kind_with k v) (a ∷ b ∷ c ∷ d ∷ []) s (
        number v,
        record {
          long = rw bytes;
          same = λ h.
              let start = slope_spelled a b (h.byte 0) (h.byte 1) in
              let end = slope_spelled c d (h.byte 2) (h.byte 3) in (
                rw (bytes, start.0, start.1, end.0, end.1),
                kind_legal k v (lit< tt) start.2 end.2,
              );
        },
      )
      refl)

  carried_spelled : (s : List ℕ) → Spelled Carries s (read_carried k s)
  unfolding read_carried
  carried_spelled s =
      let F = Spelled Carries s in
      either F (carries_tension k) _ _ (λ t. tension_spelled t s)
      (λ t. either F (carries_slopes k) _ _ (λ u. slopes_spelled t u s)
      (λ u.
      let bytes : carried_bytes (kind_with k nothing) ≡ [] = rw (number nothing, t, u) in
      let legal = kind_legal k nothing (lit< tt) (lit< tt) (lit< tt) in
      found (kind_with k nothing) [] s
      (number nothing, record { long = rw bytes; same = λ b. (sym bytes, legal) }) refl))

-- ---- the kind
-- the byte that names a kind, in a record that names it
abbrev pub kind_byte : Bool → CurveInterpolation → List ℕ
kind_byte named k = cond named (kind_number k ∷ []) []

pub record KindOf (named : Bool) (m : ℕ) (v : CurveInterpolation) (c : List ℕ) : Type 0 where
  pub agreed : carried_bits m ≡ kind_bits (kind_number v)
  pub unnamed : named ≡ false → v ≡ unnamed_kind (bit 128 m)
  pub rest : List ℕ
  pub carried : CarriedOf v rest
  pub bytes : c ≡ kind_byte named v ++ rest

-- no other kind has the number of an unnamed one
pub unnamed_is : (newer : Bool) (v : CurveInterpolation)
    → kind_number v ≡ kind_number (unnamed_kind newer)
    → v ≡ unnamed_kind newer
unfolding kind_of
unnamed_is false v e = sym (rw e at (kind_carries v))
unnamed_is true v e = sym (rw e at (kind_carries v))

agreed_spelled : (named : Bool) (m k : ℕ) → ltb last_kind k ≡ false
    → (named ≡ false → k ≡ kind_number (unnamed_kind (bit 128 m)))
    → (s : List ℕ) → Spelled (KindOf named m) (cond named (k ∷ []) [] ++ s) (read_agreed m k s)
agreed_spelled named m k known unnamed s =
    let c = cond named (k ∷ []) [] in
    checked_has (Spelled (KindOf named m) (c ++ s)) none_found (bits_check m k ∷ [])
    (read_carried k s)
    (λ agrees. behind c refl
    (λ v d h. record {
      agreed = rw h.0 (eqb-true (carried_bits m) (kind_bits k) (not-false _ agrees.0));
      unnamed = λ e. unnamed_is (bit 128 m) v (h.0 ∙ unnamed e);
      rest = d;
      carried = h.1;
      bytes = rw h.0;
    })
    (carried_spelled k known s))

kind_spelled : (named : Bool) (m : ℕ) (s : List ℕ)
    → Spelled (KindOf named m) s (read_number (unnamed_kind (bit 128 m)) named s ▷ read_agreed m)
unfolding read_number
kind_spelled false m s =
    let unnamed = unnamed_kind (bit 128 m) in
    let known = le-ltb last_kind (kind_number unnamed) (number_known unnamed) in
    agreed_spelled false m (kind_number unnamed) known (λ e. refl) s
kind_spelled true m [] = none_found RecordTruncated
kind_spelled true m (k ∷ s) =
    by_test (ltb last_kind k) (λ above. rw above (none_found UnknownKind))
    (λ known. rw known (agreed_spelled true m k known (λ e. absurd (true≢false e)) s))

-- ---- the set
-- P of the front of its bytes, Q of the rest
abbrev Both : (P Q : View → List ℕ → Type 0) → View → List ℕ → Type 0
Both P Q v c =
    record {
      front : List ℕ;
      back : List ℕ;
      first : P v front;
      second : Q v back;
      whole : c ≡ front ++ back;
    }

-- a reading whose value is put to use
as_spelled : {A B : Type 0} {P : A → List ℕ → Type 0} {Q : B → List ℕ → Type 0} {s : List ℕ}
    {p : Parse A} (g : A → B) → ((x : A) (c : List ℕ) → P x c → Q (g x) c) → Spelled P s p
    → Spelled Q s (p ▷ λ x t. good (g x) t)
as_spelled g k (found x c t h e) = found (g x) c t (k x c h) e
as_spelled g k (none_found r) = none_found r

-- and put into the set: what P says of the other members holds still
module _ {A : Type 0} {P Q : View → List ℕ → Type 0} {R : A → List ℕ → Type 0}
    (put : A → View → View)
    (keeps : (x : A) (v : View) (c d : List ℕ) → P v c → R x d → P (put x v) c × Q (put x v) d)
  where
    then_spelled : {s : List ℕ} {p : Parse View} {read : List ℕ → Parse A} → Spelled P s p
        → ((t : List ℕ) → Spelled R t (read t))
        → Spelled (Both P Q) s (p ▷ λ v t. read t ▷ λ x u. good (put x v) u)
    then_spelled (found v c t h e) r =
        behind c e (λ w d b. b)
        (as_spelled (λ x. put x v)
        (λ x d g.
        let k = keeps x v c d h g in
        record { front = c; back = d; first = k.0; second = k.1; whole = refl })
        (r t))
    then_spelled (none_found r) read = none_found r

-- the fields in their order, as the map m marks them
pub record Lists (m : ℕ) (v : View) (c : List ℕ) : Type 0 where
  pub master : there (master_field v.master) ≡ bit 1 m
  pub red : there v.red ≡ bit 2 m
  pub green : there v.green ≡ bit 4 m
  pub blue : there v.blue ≡ bit 8 m
  pub bytes : c ≡ field_bytes (master_field v.master) ++ field_bytes v.red
      ++ field_bytes v.green ++ field_bytes v.blue

pub record Fields (m : ℕ) (v : View) (c : List ℕ) : Type 0 where
  pub front : List ℕ
  pub behind : List ℕ
  pub lists : Lists m v front
  pub stored : EveryList StoredList v
  pub kind : KindOf (bit 16 m) m v.kind behind
  pub bytes : c ≡ front ++ behind

module _ (m : ℕ) where
  abbrev Master : View → List ℕ → Type 0
  Master v = FieldOf (bit 1 m) (master_field v.master)

  abbrev OneColour : Colour → View → List ℕ → Type 0
  OneColour colour v = FieldOf (bit (colour_bit colour) m) (colour_of colour v)

  abbrev InOrder : View → List ℕ → Type 0
  InOrder =
      Both (Both (Both (Both Master (OneColour Red)) (OneColour Green)) (OneColour Blue))
      (λ v. KindOf (bit 16 m) m v.kind)

  in_order : (s : List ℕ)
      → Spelled InOrder s
      (master_step m empty_view s ▷ colour_step Red m ▷ colour_step Green m ▷ colour_step Blue m ▷
      kind_step (unnamed_kind (bit 128 m)) m)
  unfolding read_kind
  in_order s =
      then_spelled with_kind (λ x v c d h g. (h, g))
      (then_spelled (λ l. with_colour Blue (colour_list (bit 8 m) l)) (λ x v c d h g. (h, g))
      (then_spelled (λ l. with_colour Green (colour_list (bit 4 m) l)) (λ x v c d h g. (h, g))
      (then_spelled (λ l. with_colour Red (colour_list (bit 2 m) l)) (λ x v c d h g. (h, g))
      (as_spelled (λ l. with_master l empty_view) (λ l c h. h) (master_spelled (bit 1 m) s))
      (colour_spelled (bit 2 m)))
      (colour_spelled (bit 4 m)))
      (colour_spelled (bit 8 m)))
      (kind_spelled (bit 16 m) m)

fields_of : (m : ℕ) (v : View) (c : List ℕ) → InOrder m v c → Fields m v c
fields_of m v c kind =
    let blue = kind.first in
    let green = blue.first in
    let red = green.first in
    record {
      front = kind.front;
      behind = kind.back;
      lists = record {
        master = red.first.0;
        red = red.second.0;
        green = green.second.0;
        blue = blue.second.0;
        bytes =
            rw (
              blue.whole,
              green.whole,
              red.whole,
              red.first.2,
              red.second.2,
              green.second.2,
              blue.second.2,
            );
      };
      stored = record {
        master = stored_master v.master red.first.1;
        red = red.second.1;
        green = green.second.1;
        blue = blue.second.1;
      };
      kind = kind.second;
      bytes = kind.whole;
    }

-- ---- the record
-- nothing follows the last field
end_found : {P : View → List ℕ → Type 0} {s : List ℕ} {p : Parse View} → Spelled P s p
    → (read_result (p ▷ end_step)).answer ≡ done → P (read_result (p ▷ end_step)).set s
end_found (found v c [] h w) e = rw (w ∙ append-nil c) h
end_found (found v c (b ∷ t) h w) e = absurd (true≢false (ap is_done (sym e)))
end_found (none_found r) e = absurd (true≢false (ap is_done (sym e)))

pub accepted : (m : ℕ) (s : List ℕ) → (read_record (m ∷ s)).answer ≡ done
    → Fields m (read_record (m ∷ s)).set s
unfolding read_record read_fields
accepted m s e = fields_of m _ s (end_found (in_order m s) e)

-- a set that is handed back has what the empty set has and every set that was found
pub handed_has : (P : View → Type 0) → P empty_view → (m : ℕ) (s : List ℕ)
    → ((v : View) → Fields m v s → P v) → P (read_record (m ∷ s)).set
handed_has P empty m s f =
    let answer = (read_record (m ∷ s)).answer in
    by_test (is_done answer) (λ t. f _ (accepted m s (done_is answer t)))
    (λ t. rw (read_empty (m ∷ s) t) empty)

-- what the kind of a record of bytes carries
pub carried_same : {m : ℕ} {v : View} {s : List ℕ} (f : Fields m v s) → AllBytes s
    → (f.kind.rest ≡ carried_bytes v.kind) × LegalKind v.kind
carried_same {m} {v} f h =
    let back = bytes_behind f.front f.behind (rw f.bytes at h) in
    f.kind.carried.same
    (bytes_behind (kind_byte (bit 16 m) v.kind) f.kind.rest (rw f.kind.bytes at back))
