-- 522 bytes always suffice: into so long a buffer the writer answers what the check of the set's
-- lists does. That this is never 13 is in proofs/RoomLaws.
use Rattle.std.specs.Prelude.{ℕ, ◌≤◌, ◌≡◌, refl, false, List, [], ◌∷◌, length, Ok, Err}
use Rattle.std.proofs.Common.{arith, ◌∙◌, true≢false}
use borrow.Author.Tests.{le-ltb}
use Rattle.lists.specs.Test.{by_test}
use Rattle.answers.specs.Numbers.{Answer, is_done, first_of}
use Rattle.answers.proofs.NumberLaws.{done_is}
use Rattle.answers.specs.Checks.{Check, room_check, first_append}
use Rattle.points.specs.declared.Curve.{Curve}
use Rattle.points.specs.declared.Heights.TheVariants.{Whole}
use Rattle.sets.specs.declared.Curves.{Curves}
use Rattle.sets.specs.declared.Channel.{Channel}
use Rattle.sets.specs.Sets.{view_of, curve_checks, channel_checks, set_checks, set_answer}
use Rattle.sets.specs.Legal.{legal_view}
use Rattle.records.specs.Format.{longest}
use Rattle.writing.specs.Encode.{encode, write_record}
use Rattle.writing.specs.Cases.{write_answer}
use Rattle.writing.specs.Lengths.{encode_length}
use Rattle.record_facts.specs.Refusals.{
  Never,
  Refusals,
  no_more,
  ◌also◌,
  first_has,
  refusals_if,
  set_refusals,
}

-- ---- no check of a set's lists answers 13
list_never : (c : Curve) → Refusals (Never 13) (curve_checks Whole c)
list_never c = refl also refl also refl also no_more

colour_never : (c : Channel) → Refusals (Never 13) (channel_checks (curve_checks Whole) c)
colour_never c = refusals_if c.present (λ t. list_never c.curve)

pub set_never : (s : Curves) → Never 13 (set_answer Whole s)
unfolding set_answer
set_never s =
    first_has refl
    (set_refusals (curve_checks Whole) s (list_never s.master) (colour_never s.red)
    (colour_never s.green) (colour_never s.blue))

-- a refusal stays the first
first_kept : (a b : Answer) → is_done a ≡ false → first_of a b ≡ a
first_kept (Ok tt) b e = absurd (true≢false e)
first_kept (Err r) b e = refl

-- ---- 522 bytes always suffice
module _ (s : Curves) (buffer : List ℕ) (enough : longest ≤ length buffer) where
  room : List Check
  room = room_check (length (encode (view_of s))) (length buffer) ∷ []

  -- the answer is that of the set's lists
  pub longest_suffices : (write_record s buffer).answer ≡ set_answer Whole s
  unfolding set_answer room
  longest_suffices =
      write_answer s buffer ∙ first_append (set_checks (curve_checks Whole) s) room
      ∙ by_test (is_done (set_answer Whole s))
      (λ t.
      let passed = done_is (set_answer Whole s) t in
      let short = encode_length (view_of s) (legal_view Whole s passed) in
      rw (passed, le-ltb (length buffer) (length (encode (view_of s))) (omega arith)))
      (λ t. first_kept _ _ t)
