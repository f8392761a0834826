-- Document 02, U9, "Finer heights", of any run of the calls, from their contracts alone, and of the
-- definitions that the contracts cite. "Whole heights are measured beside the Rust as ever": for
-- these Demand3 has the mission's own words. "With others, demand 3's order still holds under its
-- premises": `order` of Demand3 asks nothing of heights.
use Rattle.std.specs.Prelude.{ℕ, ◌<◌, ◌≡◌, length, Result, Ok, Err}
use Rattle.std.proofs.Common.{arith, ap}
use mathlib.Core.List.{List, [], ◌∷◌, Memᴰ}
use Rattle.answers.specs.declared.Refusal.{Refusal}
use Rattle.answers.specs.declared.Refusal.TheVariants.{HeightRange}
use Rattle.answers.specs.Numbers.{number_of, answer_of, done}
use Rattle.answers.proofs.NumberLaws.{number_unique}
use Rattle.answers.specs.Checks.{first_refusal, room_check}
use Rattle.floats.specs.Value.{Is}
use Rattle.single.specs.Rules.{float}
use Rattle.points.specs.declared.Point.{Point}
use Rattle.points.specs.Points.{level, rounded}
use Rattle.points.specs.Knots.{height_of, OnLine}
use Rattle.points.specs.Rows as Rows
use Rattle.points.specs.Order.{All, Proper}
use Rattle.points.specs.declared.Heights.TheVariants.{Fine}
use Rattle.sets.specs.declared.Curves.{Curves}
use Rattle.sets.specs.Sets.{view_of, set_answer}
use Rattle.records.specs.declared.RecordRead.{RecordRead}
use Rattle.records.specs.Views.{ReadRecordCall}
use Rattle.writing.specs.Encode.{encode}
use Rattle.writing.specs.Statements.{WriteRecordCall}
use Rattle.record_facts.specs.Levels.{HoldsLevels}
use Rattle.record_facts.specs.Runs as Runs
use Rattle.promises.specs.Words.{
  Call,
  Accepted,
  Place,
  TonedAt,
  input,
  output,
  list_that_tones,
  kind_in,
  IsLinear,
  IsSpline,
  NearlyNearest,
}
use Rattle.promises.specs.TonedFacts.{list_proper, toned_nearly, through_point}

-- ---- "A point's height becomes a 16-bit number of 256ths of a level, 0 to 65,280"
-- in every list that tones a byte of a run that is not refused
pub heights_proper : (a : Call) → Accepted a → (p : Place)
    → All Proper (list_that_tones a.given p)
heights_proper = list_proper

-- ---- "as a float it is that number over 256"
-- exactly: the quotient of single precision is that fraction
pub height_exact : (y : ℕ) → y < 65536 → Is (height_of y) y 0 256
height_exact = Rows.height_is

-- "Heights written in document 01 are levels": a level is the float that it was
pub level_as_before : (n : ℕ) → n < 256 → height_of (level n) ≡ float n
level_as_before = Rows.height_of_level

-- ---- "a Linear byte is within 1/2 + 1/16,384 of the broken line"
pub near : (a : Call) → Accepted a → IsLinear a.given → (p : Place) → TonedAt a.given p
    → (n d : ℕ) → OnLine (list_that_tones a.given p) (input a p) n d
    → NearlyNearest n d (output a p)
near a ok linear p toned n d on =
    let h = toned_nearly a ok linear p toned n d on in (omega (arith, h.0), omega (arith, h.1))

-- ---- "at a kept x the byte is its height rounded, a half upward, under the seven kinds"
-- the lists of a run that is not refused rise in x, so that all their points are kept
pub through_points : (a : Call) → Accepted a → (IsSpline (kind_in a.given) → ⊥) → (p : Place)
    → TonedAt a.given p
    → (q : Point) → Memᴰ q (list_that_tones a.given p) → input a p ≡ q.x
    → output a p ≡ rounded q.y
through_points = through_point

-- ---- "Today's stored record holds whole heights only"
-- what its reader hands back, on a refusal too
module _ (s : List ℕ) {r : RecordRead} (call : ReadRecordCall s r) where
  pub read_heights : HoldsLevels (view_of r.set)
  read_heights = Runs.read_heights s call

  -- it may be toned, and the reader never answers 20
  pub read_passes : set_answer Fine r.set ≡ done
  read_passes = Runs.read_passes s call

  pub reader_never_20 : number_of r.answer ≡ 20 → ⊥
  reader_never_20 e = Runs.reader_never_20 s call (number_unique r.answer (Err HeightRange) e)

-- and what its writer takes
module _ {set : Curves} {old new : List ℕ} {w : Result ℕ Refusal}
    (call : WriteRecordCall set old w new) where
  pub written_heights : {n : ℕ} → w ≡ Ok n → HoldsLevels (view_of set)
  written_heights = Runs.written_heights call

  -- ---- "20 .., when today's record is written, one that isn't a multiple of 256"
  -- of a set that may be toned: with such a height 20, whatever the room, and else 13 or nothing
  pub fine_refused : set_answer Fine set ≡ done → (HoldsLevels (view_of set) → ⊥)
      → number_of (answer_of w) ≡ 20
  fine_refused fine not_whole = ap (λ r. number_of (answer_of r)) (Runs.not_whole_refused call fine not_whole)

  pub whole_accepted : set_answer Fine set ≡ done → HoldsLevels (view_of set)
      → answer_of w ≡ first_refusal (room_check (length (encode (view_of set))) (length old) ∷ [])
  whole_accepted fine whole = Runs.whole_not_refused call fine whole
