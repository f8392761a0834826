-- The third demand, clause by clause, in the mission's order and words. "For every two runs of the
-- set call, A and B, that share one set, format and size, and neither of which the documents
-- refuse": a clause that speaks of one run holds of each of the two, and asks nothing of the other.
-- "Heights written in document 01 are levels": where a clause of the mission names a point's y, it
-- is a level here. What document 02's U9 says of other heights is Request9's; the order asks
-- nothing of heights.
use Rattle.std.specs.Prelude.{ℕ, ◌≤◌, ◌≡◌, get_or}
use mathlib.Core.List.{Memᴰ}
use Rattle.points.specs.Points.{at_level}
use Rattle.points.specs.Knots.{OnLine}
use Rattle.promises.specs.Words.{
  Call,
  Accepted,
  Share,
  Place,
  TonedAt,
  input,
  output,
  list_that_tones,
  kind_in,
  IsLinear,
  IsSpline,
  IsPadding,
  NoListFalls,
  WholeHeights,
  Nearest,
  HasLine,
  ExactPicture,
  PassedThrough,
  AlikeInRows,
  AlikeInChroma,
  WriteTheSame,
}
use Rattle.promises.specs.RunFacts.{output_holds, tight_entry, alpha_copied}
use Rattle.promises.specs.PictureFacts.{defined_by, passed_by}
use Rattle.promises.specs.TonedFacts.{
  has_line,
  toned_nearest,
  through_level,
  by_input_alone,
  in_order,
}
use Rattle.promises.specs.RowFacts.{same_bytes, alike_but_padding}

-- "each gives exactly the picture they define."
pub exact : (a : Call) → Accepted a → ExactPicture a
exact a ok = defined_by a ok (output_holds a ok) (tight_entry a ok) (alpha_copied a ok)

-- "If the kind is Linear, no list in the set has a point lower than the one before it,
-- and no toned input byte of A is above B's at the same place, then no toned output byte
-- of A is above B's there."
pub order : (a b : Call) → Share a b → Accepted a → Accepted b → IsLinear a.given
    → NoListFalls a.given
    → ((p : Place) → TonedAt a.given p → input a p ≤ input b p)
    → (p : Place) → TonedAt a.given p → output a p ≤ output b p
order a b share a-ok b-ok linear rising below p toned =
    in_order a b share a-ok b-ok linear rising p toned (below p toned)

-- "Under Linear each toned output byte is the whole number nearest the exact broken line of the
-- list that tones it, at its input byte; at an exact half it is one of the two nearest."
pub near : (a : Call) → Accepted a → IsLinear a.given → (p : Place) → TonedAt a.given p
    → WholeHeights (list_that_tones a.given p)
    → (n d : ℕ) → OnLine (list_that_tones a.given p) (input a p) n d → Nearest n d (output a p)
near = toned_nearest

-- where that line is there, and has one height, in every run
pub line : (a : Call) (p : Place) → HasLine (list_that_tones a.given p) (input a p)
line = has_line

-- "Under any kind but the three splines, a toned byte equal to the x of a point in the list that
-- tones it comes out as that point's y."
pub through_points : (a : Call) → Accepted a → (IsSpline (kind_in a.given) → ⊥) → (p : Place)
    → TonedAt a.given p
    → (x y : ℕ) → Memᴰ (at_level x y) (list_that_tones a.given p) → input a p ≡ x
    → output a p ≡ y
through_points = through_level

-- "Runs alike in their rows and chroma write the same bytes, whatever the padding holds and
-- whatever the row steps are."
pub rows_alone : (a b : Call) → Share a b → Accepted a → Accepted b → AlikeInRows a b
    → AlikeInChroma a b → WriteTheSame a b
rows_alone = same_bytes

-- where planes of one row step that differ in their padding alone are alike in their rows
pub padding_apart : (a b : Call) → Share a b → Accepted a
    → a.given.lent.plane.step ≡ b.given.lent.plane.step
    → ((k : ℕ) → (IsPadding a.given k → ⊥)
    → get_or a.given.lent.plane.bytes k 0 ≡ get_or b.given.lent.plane.bytes k 0)
    → AlikeInRows a b
padding_apart = alike_but_padding

-- "Alpha and chroma come out as they went in."
pub passed_through : (a : Call) → Accepted a → PassedThrough a
passed_through a ok = passed_by a ok (alpha_copied a ok)

-- "Dithering would break this order and has no part in the work": a toned output byte is a matter
-- of the kind, the list that tones it and its input byte alone. a and b may be one run, at two
-- places; runs that share a set have one kind
pub no_dithering : (a b : Call) → Accepted a → Accepted b → kind_in a.given ≡ kind_in b.given
    → (p q : Place)
    → TonedAt a.given p → TonedAt b.given q
    → list_that_tones a.given p ≡ list_that_tones b.given q
    → input a p ≡ input b q → output a p ≡ output b q
no_dithering = by_input_alone
