-- Laws that the proofs of the writer cite.
use Prim.Native.Nat.{ℕ, zero, suc, ◌+◌, ◌*◌, ◌≤◌, ◌<◌, ◌/◌}
use native.Mathlib.Omega.{arith}
use native.Mathlib.Numerals.{add-one}
use mathlib.Core.Path.{◌≡◌, refl, sym, ap, ◌∙◌}
use mathlib.Core.List.{List, [], ◌∷◌, ◌++◌, append-nil, append_assoc}
use mathlib.Core.Bool.{Bool, true, false, cond, not}
use mathlib.Core.Option.{none, some}
use lib.ListN as ListN
use lib.ListN.{take, drop, length-append}
use lib.Dec.{eqb}
use lib.Seq.{take-suc}
use borrow.Author.Tests.{ne_eqb}
use Rattle.std.specs.Prelude.{Result, Ok, Err, IfOk, ℤ, pos, negsuc}
use Rattle.std.proofs.Common.{w16, of_z, SFits}
use Rattle.arrayvec.specs.ArrayVec.{ArrayVec}
use Rattle.answers.specs.declared.Refusal.{Refusal}
use Rattle.answers.specs.Numbers.{done}
use Rattle.answers.specs.Checks.{Check, first_refusal, room_check}
use Rattle.answers.proofs.CheckLaws.{first_stops, first_goes_on}
use Rattle.lists.specs.Test.{by_test}
use Rattle.points.specs.declared.Point.{Point}
use Rattle.points.specs.declared.Curve.{Curve}
use Rattle.points.specs.Points.{places_of, pt, nth, list_of}
use Rattle.sets.specs.declared.Channel.{Channel}
use Rattle.sets.specs.declared.Curves.{Curves}
use Rattle.points.specs.declared.Heights.TheVariants.{Whole}
use Rattle.sets.specs.Sets.{view_of, channel_of, curve_checks, set_checks, curve_answer, channel_answer, set_answer}
use Rattle.sets.specs.Legal.{passed_count}
use Rattle.writing.specs.Encode.{
  pair_bytes,
  master_field,
  one_if,
  bits_under,
  there,
  unsigned16,
  encode,
  Write,
  write_checks,
  write_record,
}
use Rattle.writing.specs.Cases.{written, write_done}
use Rattle.writing.specs.Statements.{Room, Appended, Held, length_or_refusal, WriteRecordCall}

-- ---- bytes behind a draft
pub appended_none : {d : ArrayVec ℕ} → Appended [] d d
appended_none {d} = record { bytes = sym (append-nil d.items); length = omega arith }

pub appended_then : {a b : List ℕ} {d e r : ArrayVec ℕ} → Appended a d e → Appended b e r
    → Appended (a ++ b) d r
appended_then {a} {b} {d} p q = record {
  bytes = q.bytes ∙ rw p.bytes (append_assoc d.items a b);
  length = simp length-append (omega arith);
}

pub appended_as : {a b : List ℕ} {d r : ArrayVec ℕ} → Appended a d r → a ≡ b → Appended b d r
appended_as p e = rw e at p

-- a byte pushed behind
pub pushed : (d r : ArrayVec ℕ) (b : ℕ) → r.items ≡ d.items ++ b ∷ [] → Appended (b ∷ []) d r
pushed d r b e = record { bytes = e; length = ap ListN.length e ∙ length-append d.items (b ∷ []) }

-- ---- the points of a list
pairs_append : (l m : List Point) → pair_bytes (l ++ m) ≡ pair_bytes l ++ pair_bytes m
unfolding pair_bytes
pairs_append [] m = refl
pairs_append (p ∷ l) m = rw (pairs_append l m)

-- one point more
pub pairs_next : (l : List Point) (i : ℕ) → i < ListN.length l
    → pair_bytes (take i l) ++ ((nth l i).x ∷ (nth l i).y / 256 ∷ []) ≡ pair_bytes (take (i + 1) l)
unfolding pair_bytes
pairs_next l i h = rw (add-one i, take-suc l i (pt 0 0) h, pairs_append)

-- ---- room
pub room_first : (a b : List ℕ) {d : ArrayVec ℕ} → Room (a ++ b) d → Room a d
room_first a b r = record { room = omega (arith, simp length-append at r.room) }

pub room_rest : (a b : List ℕ) {d e : ArrayVec ℕ} → Room (a ++ b) d → Appended a d e → Room b e
room_rest a b r p = record { room = omega (arith, simp length-append at r.room) }

-- ---- a record from nothing
pub from_nothing : {bs : List ℕ} {d r : ArrayVec ℕ} → Appended bs d r → d.items ≡ [] → r.items ≡ bs
from_nothing p start = p.bytes ∙ rw start

pub there_channel : (m : Channel) → m.present ≡ there (channel_of m)
there_channel m = by_test m.present (λ t. rw t) (λ t. rw t)

-- ---- the master as a field
module _ (c : Curve) (long : ListN.length (places_of c) ≡ 64) (e : curve_answer Whole c ≡ done) where
  some_or_none : (n : ℕ) (l : List Point) → n ≤ ListN.length l
      → cond (not (eqb n 0)) (some (take n l)) none ≡ master_field (take n l)
  some_or_none zero l h = refl
  some_or_none (suc n) [] h = absurd (omega arith)
  some_or_none (suc n) (p ∷ l) h = rw (ne_eqb (suc n) 0 (λ z. omega arith))

  pub master_channel : channel_of (record { present = not (eqb c.count 0); curve = c }) ≡ master_field (list_of c)
  master_channel = some_or_none c.count (places_of c) (omega (arith, passed_count Whole c e))

pub master_passes : (c : Curve) (b : Bool) → curve_answer Whole c ≡ done
    → channel_answer Whole (record { present = b; curve = c }) ≡ done
unfolding channel_answer curve_answer
master_passes c true e = e
master_passes c false e = refl

-- ---- the bit map
weighted : (b : Bool) (w : ℕ) → cond b w 0 ≡ one_if b * w
weighted true w = omega arith
weighted false w = omega arith

pub map_sum : (a b c d e : Bool) (f : ℕ)
    → cond a 1 0 + cond b 2 0 + cond c 4 0 + cond d 8 0 + cond e 16 0 + f * 32 + 128
    ≡ bits_under (f + 4) (a ∷ b ∷ c ∷ d ∷ e ∷ [])
unfolding bits_under
map_sum a b c d e f = omega (arith, weighted b 2, weighted c 4, weighted d 8, weighted e 16)

-- ---- the two's complement of a slope
-- as the toolchain has it
pub slope_is : (v : ℤ) → of_z w16 v ≡ unsigned16 v
slope_is (pos n) = refl
slope_is (negsuc n) = omega arith

pub slope_small : (v : ℤ) → SFits w16 v → unsigned16 v < 65536
slope_small (pos n) fits = omega (arith, fits.sfits)
slope_small (negsuc n) fits = omega arith

-- ---- the whole call
module _ (s : Curves) (buffer : List ℕ) where
  -- the check of the room for its record, behind those of its lists
  abbrev room : List Check
  room = room_check (ListN.length (encode (view_of s))) (ListN.length buffer) ∷ []

module _ {s : Curves} {buffer : List ℕ} where
  -- from what the definition comes to
  wrote_as : (w : Write) (r : Result ℕ Refusal) (after : List ℕ) → write_record s buffer ≡ w
      → r ≡ length_or_refusal w → after ≡ w.buffer → IfOk r (λ length. Held s)
      → WriteRecordCall s buffer r after
  wrote_as w r after e a b h = record { answer = rw e a; buffer = rw e b; held = h }

  refused : {e : Refusal} → Err e ≡ first_refusal (write_checks s (ListN.length buffer))
      → WriteRecordCall s buffer (Err e) buffer
  refused e = wrote_as _ _ _ (written s buffer e) refl refl tt

  pub lists_refused : {e : Refusal} → set_answer Whole s ≡ Err e
      → WriteRecordCall s buffer (Err e) buffer
  unfolding set_answer
  lists_refused e = refused (first_stops (set_checks (curve_checks Whole) s) (room s buffer) e)

  module _ (passed : set_answer Whole s ≡ done) {n : ℕ} (long : n ≡ ListN.length (encode (view_of s))) where
    pub room_refused : {e : Refusal}
        → first_refusal (room_check n (ListN.length buffer) ∷ []) ≡ Err e
        → WriteRecordCall s buffer (Err e) buffer
    unfolding set_answer
    room_refused e =
        refused (first_goes_on (set_checks (curve_checks Whole) s) (room s buffer) passed (sym (rw long at e)))

    pub wrote_done : {after : List ℕ} → n ≤ ListN.length buffer
        → after ≡ encode (view_of s) ++ drop n buffer → Held s
        → WriteRecordCall s buffer (Ok n) after
    wrote_done enough e held =
        wrote_as _ _ _ (write_done s buffer passed (omega arith)) (ap Ok long) (e ∙ rw long) held
