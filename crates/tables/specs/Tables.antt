-- The tables of a given list, and what the two calls that build them answer, as document 01's
-- sections "Kinds and tables" and "When a call says no" have them. Definitions only.
use Rattle.std.specs.Prelude.{ℕ, ◌≡◌, Bool, cond, not, ◌||◌, List, [], ◌∷◌, ◌++◌, eqb, length, get_or, replicate, Float}
use Rattle.std.specs.Float.{nan}
use Rattle.lists.specs.Tabulate.{tabulate}
use Rattle.answers.specs.declared.Refusal.TheVariants.{TableLength}
use Rattle.answers.specs.Numbers.{is_done, Answer}
use Rattle.answers.specs.Checks.{Check, ◌when◌, first_refusal, table_length, fine_table_length}
use Rattle.single.specs.Rules.{byte_of}
use Rattle.points.specs.declared.Point.{Point}
use Rattle.points.specs.declared.Curve.{Curve}
use Rattle.points.specs.Points.{list_of, kept, list_checks}
use Rattle.points.specs.Knots.{knots, x_row, y_row}
use Rattle.tables.specs.declared.CurveInterpolation.{CurveInterpolation}
use Rattle.tables.specs.declared.Lut.{Lut}
use Rattle.sampling.specs.Pieces.{height_at, sampled}
use Rattle.tables.specs.Kinds.{form_of, knot_value_row}

-- the height at x of the curve of a given list, unclamped
unfoldable pub unclamped_at : CurveInterpolation → List Point → Float → Float
unclamped_at kind l x =
    let ks = knots (kept l) in
    let xs = x_row ks in
    let ys = y_row ks in
    let n = length ks in
    height_at (form_of kind) xs ys (knot_value_row kind xs ys n) n x

-- sample v of S
unfoldable pub sample_of : CurveInterpolation → List Point → ℕ → ℕ → Float
sample_of kind l S v = sampled (unclamped_at kind l) S v

-- "The fine table": S samples
abbrev pub fine_table : CurveInterpolation → List Point → ℕ → List Float
fine_table kind l S = tabulate S (sample_of kind l S)

-- each of 256 samples to a byte
unfoldable pub byte_at : List Float → ℕ → ℕ
byte_at samples v = byte_of (get_or samples v nan)

abbrev pub bytes_of : List Float → List ℕ
bytes_of samples = tabulate 256 (byte_at samples)

-- "The byte table of 256 entries"
unfoldable pub entry_of : CurveInterpolation → List Point → ℕ → ℕ
entry_of kind l v = byte_of (sample_of kind l 256 v)

abbrev pub byte_table : CurveInterpolation → List Point → List ℕ
byte_table kind l = tabulate 256 (entry_of kind l)

-- ---- the calls
-- the lengths of a fine table
abbrev pub is_table_length : ℕ → Bool
is_table_length S = eqb S table_length || eqb S fine_table_length

-- 14: "A float table's length isn't 256 or 4,096 (build)"
abbrev pub length_check : ℕ → Check
length_check S = TableLength when not (is_table_length S)

-- the fine table of a given list, into a slice of S samples
abbrev pub table_checks : Curve → ℕ → List Check
table_checks curve S = list_checks curve ++ length_check S ∷ []

-- the answer, and the lent slice: filled, or on a refusal unchanged
pub record BuildTableCall (curve : Curve) (kind : CurveInterpolation) (old : List Float)
    (r : Answer) (new : List Float) : Type 0 where
  pub answer : r ≡ first_refusal (table_checks curve (length old))
  pub table : new ≡ cond (is_done r) (fine_table kind (list_of curve) (length old)) old

-- the byte table of a given list, beside an answer: "A table handed back with [a refusal] is all 0"
abbrev pub table_beside : Answer → Curve → CurveInterpolation → List ℕ
table_beside answer curve kind =
    cond (is_done answer) (byte_table kind (list_of curve)) (replicate 256 0)

-- the table alone, of any list: all 0 for one that is refused
abbrev pub table_of : Curve → CurveInterpolation → List ℕ
table_of curve kind = table_beside (first_refusal (list_checks curve)) curve kind

-- the answer, and the table
pub record BuildLutCall (curve : Curve) (kind : CurveInterpolation) (r : Lut) : Type 0 where
  pub answer : r.answer ≡ first_refusal (list_checks curve)
  pub table : r.table ≡ table_beside r.answer curve kind
