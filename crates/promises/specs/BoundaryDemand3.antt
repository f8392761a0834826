-- The third demand at the C boundary, clause by clause, of two calls of `tone_picture`: what a
-- caller gives is bytes and numbers, and the set is the one that the record holds. A call answered
-- with 0 is a run of the set call that the documents do not refuse, so that each clause is that of
-- Demand3.
use Rattle.std.specs.Prelude.{ℕ, ◌≤◌, ◌≡◌, refl}
use Rattle.std.proofs.Common.{sym, ap, ◌∙◌}
use mathlib.Core.List.{List, Memᴰ}
use Rattle.points.specs.declared.Point.{Point}
use Rattle.points.specs.declared.Heights.TheVariants.{Whole}
use Rattle.points.specs.Points.{at_level}
use Rattle.points.specs.HeightLaws.{passed_whole}
use Rattle.points.specs.Knots.{OnLine}
use Rattle.points.specs.Order.{NeverFalls}
use Rattle.tables.specs.declared.CurveInterpolation.TheVariants.{Linear}
use Rattle.sets.specs.Sets.{View, view_of}
use Rattle.sets.specs.Lists.{EveryList}
use Rattle.sets.specs.Legal.{LegalList, legal_view}
use Rattle.sets.specs.SameLaws.{view_same}
use Rattle.formats.specs.Formats.{format_of}
use Rattle.pictures.specs.Runs.{Outputs, toned_by}
use Rattle.pictures.specs.RunLaws.{call_answer}
use Rattle.tone_c.specs.Boundary.{set_of, PictureAsked, run_of, TonePictureCall}
use Rattle.promises.specs.Words as Run
use Rattle.promises.specs.Words.{Place, IsSpline, WholeHeights, Nearest, HasLine}
use Rattle.promises.specs.ListFacts.{of_toning_list}
use Rattle.promises.specs.RunFacts.{toning, output_holds, tight_entry, alpha_copied}
use Rattle.promises.specs.PictureFacts.{defined_by, passed_by}
use Rattle.promises.specs.TonedFacts.{
  has_line,
  toned_nearest,
  through_level,
  by_input_alone,
  in_order,
}
use Rattle.promises.specs.RowFacts.{same_bytes}

-- ---- words
-- a call of `tone_picture` that answers 0, whole: what it was given and the three outputs
-- afterwards, of which its contract holds. By demand 1, `tone_picture` of Boundary, a call answers
-- 0 just where the documents do not refuse it
pub record AcceptedCall : Type 0 where
  pub asked : PictureAsked
  pub after : Outputs
  pub contract : TonePictureCall asked 0 after

-- the set that a call's record holds
abbrev pub set_in : AcceptedCall → View
set_in c = set_of c.asked.stored

-- two calls "share one set, format and size": their records hold one set
pub record Share (a b : AcceptedCall) : Type 0 where
  pub set : set_in a ≡ set_in b
  pub format : a.asked.format ≡ b.asked.format
  pub width : a.asked.width ≡ b.asked.width
  pub height : a.asked.height ≡ b.asked.height

-- the run of the set call that a call is
abbrev pub run : AcceptedCall → Run.Call
run c =
    let r = c.contract.run refl in
    record {
      given = run_of c.asked r.handed.set;
      answered = r.toned;
      after = c.after;
      contract = r.call;
    }

-- the documents do not refuse it, and its set is the one that the record holds. What else it was
-- given and what it wrote is the call's by definition
pub record RunsAs (c : AcceptedCall) (r : Run.Call) : Type 0 where
  pub accepted : Run.Accepted r
  pub set : view_of r.given.job.set ≡ set_in c

pub tone_picture_run : (c : AcceptedCall) → RunsAs c (run c)
tone_picture_run c =
    let r = c.contract.run refl in
    record { accepted = sym (call_answer r.call) ∙ r.done; set = r.read.set }

-- a byte of the plane before a call, and of the first output after it; where a byte is toned, and
-- by which list
abbrev pub input : AcceptedCall → Place → ℕ
input c p = Run.input (run c) p

abbrev pub output : AcceptedCall → Place → ℕ
output c p = Run.output (run c) p

abbrev pub TonedAt : AcceptedCall → Place → Type 0
TonedAt c p = Run.TonedAt (run c).given p

abbrev pub list_that_tones : AcceptedCall → Place → List Point
list_that_tones c p = toned_by (format_of c.asked.format) (set_in c) p.channel

abbrev pub IsLinear : AcceptedCall → Type 0
IsLinear c = (set_in c).kind ≡ Linear

abbrev pub NoListFalls : AcceptedCall → Type 0
NoListFalls c = EveryList NeverFalls (set_in c)

-- ---- the run's clauses in the call's words
module _ (c : AcceptedCall) where
  not_refused : Run.Accepted (run c)
  not_refused = (tone_picture_run c).accepted

  holds : view_of (run c).given.job.set ≡ set_in c
  holds = (tone_picture_run c).set

  same_list : (p : Place) → toning (run c).given p.channel ≡ list_that_tones c p
  same_list p = ap (λ (v : View). toned_by (format_of c.asked.format) v p.channel) holds

  same_kind : Run.kind_in (run c).given ≡ (set_in c).kind
  same_kind = ap (λ (v : View). v.kind) holds

  -- a record of today holds whole heights only
  whole_heights : (p : Place) → WholeHeights (toning (run c).given p.channel)
  whole_heights p =
      let r = c.contract.run refl in
      let legal =
      of_toning_list (LegalList Whole) (format_of c.asked.format) (view_of r.handed.set)
      (legal_view Whole r.handed.set r.read.legal) p.channel in
      passed_whole (toning (run c).given p.channel) legal.high

-- records that hold one set are read as the same set
pub same_runs : (a b : AcceptedCall) → Share a b → Run.Share (run a) (run b)
same_runs a b share =
    let r = a.contract.run refl in
    let s = b.contract.run refl in
    record {
      set =
          view_same Whole r.handed.set s.handed.set r.read.full s.read.full
          r.read.legal s.read.legal (r.read.set ∙ share.set ∙ sym s.read.set);
      format = ap format_of share.format;
      width = share.width;
      height = share.height;
    }

-- ---- the clauses
-- "each gives exactly the picture they define."
pub exact : (a : AcceptedCall) → Run.ExactPicture (run a)
exact a =
    let r = run a in
    let ok = not_refused a in
    defined_by r ok (output_holds r ok) (tight_entry r ok) (alpha_copied r ok)

-- "If the kind is Linear, no list in the set has a point lower than the one before it, and no toned
-- input byte of A is above B's at the same place, then no toned output byte of A is above B's
-- there."
pub order : (a b : AcceptedCall) → Share a b → IsLinear a → NoListFalls a
    → ((p : Place) → TonedAt a p → input a p ≤ input b p)
    → (p : Place) → TonedAt a p → output a p ≤ output b p
order a b share linear rising below p toned =
    in_order (run a) (run b) (same_runs a b share) (not_refused a) (not_refused b)
    (same_kind a ∙ linear) (rw (holds a) rising) p toned (below p toned)

-- "Under Linear each toned output byte is the whole number nearest the exact broken line of the
-- list that tones it, at its input byte; at an exact half it is one of the two nearest."
pub near : (a : AcceptedCall) → IsLinear a → (p : Place) → TonedAt a p
    → (n d : ℕ) → OnLine (list_that_tones a p) (input a p) n d → Nearest n d (output a p)
near a linear p toned n d on =
    toned_nearest (run a) (not_refused a) (same_kind a ∙ linear) p toned (whole_heights a p) n d
    (rw (same_list a p) on)

-- where that line is there, and has one height
pub line : (a : AcceptedCall) (p : Place) → HasLine (list_that_tones a p) (input a p)
line a p = rw (same_list a p) at (has_line (run a) p)

-- "Under any kind but the three splines, a toned byte equal to the x of a point in the list that
-- tones it comes out as that point's y."
pub through_points : (a : AcceptedCall) → (IsSpline (set_in a).kind → ⊥)
    → (p : Place) → TonedAt a p
    → (x y : ℕ) → Memᴰ (at_level x y) (list_that_tones a p) → input a p ≡ x → output a p ≡ y
through_points a other p toned x y member =
    through_level (run a) (not_refused a) (rw (same_kind a) other) p toned x y
    (rw (same_list a p) member)

-- "Runs alike in their rows and chroma write the same bytes, whatever the padding holds and
-- whatever the row steps are."
pub rows_alone : (a b : AcceptedCall) → Share a b
    → Run.AlikeInRows (run a) (run b) → Run.AlikeInChroma (run a) (run b)
    → Run.WriteTheSame (run a) (run b)
rows_alone a b share =
    same_bytes (run a) (run b) (same_runs a b share) (not_refused a) (not_refused b)

-- "Alpha and chroma come out as they went in."
pub passed_through : (a : AcceptedCall) → Run.PassedThrough (run a)
passed_through a =
    passed_by (run a) (not_refused a) (alpha_copied (run a) (not_refused a))

-- "Dithering would break this order and has no part in the work."
pub no_dithering : (a b : AcceptedCall) → (set_in a).kind ≡ (set_in b).kind
    → (p q : Place) → TonedAt a p → TonedAt b q
    → list_that_tones a p ≡ list_that_tones b q → input a p ≡ input b q → output a p ≡ output b q
no_dithering a b kind p q a-toned b-toned list =
    by_input_alone (run a) (run b) (not_refused a) (not_refused b)
    (same_kind a ∙ kind ∙ sym (same_kind b)) p q a-toned b-toned
    (same_list a p ∙ list ∙ sym (same_list b q))
