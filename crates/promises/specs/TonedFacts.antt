-- What a toned byte comes out as, clauses of the third demand and of U9: nearest to the broken line
-- of the list that tones it, or all but nearest, the height of a point at its x, in order, and by
-- its input alone. In the terms of RunFacts, but for what is said of the list alone.
use Rattle.std.specs.Prelude.{ℕ, ◌≤◌, ◌≡◌}
use Rattle.std.proofs.Common.{arith, sym, ap, ◌∙◌, lit<}
use mathlib.Core.List.{List, Memᴰ}
use Rattle.floats.specs.Frac.{frac, Close}
use Rattle.floats.specs.Nearest as Fraction
use Rattle.points.specs.declared.Point.{Point}
use Rattle.points.specs.declared.Heights.TheVariants.{Fine}
use Rattle.points.specs.Points.{at_level, rounded}
use Rattle.points.specs.Knots.{OnLine}
use Rattle.points.specs.Order.{All, Typed, Proper, NeverFalls}
use Rattle.points.specs.HeightLaws.{passed_proper, rounded_level}
use Rattle.table_facts.specs.BrokenLine.{on_line, line_width, one_value}
use Rattle.tables.specs.declared.CurveInterpolation.{CurveInterpolation}
use Rattle.tables.specs.declared.CurveInterpolation.TheVariants.{Linear}
use Rattle.tables.specs.Tables.{entry_of}
use Rattle.table_facts.specs.Near.{entry_near, entry_nearly}
use Rattle.table_facts.specs.Ordered.{entry_order}
use Rattle.table_facts.specs.Through as Table
use Rattle.sets.specs.Sets.{view_of}
use Rattle.sets.specs.Legal.{LegalList}
use Rattle.promises.specs.Words.{
  Call,
  Accepted,
  Share,
  Place,
  input,
  TonedAt,
  list_that_tones,
  kind_in,
  IsLinear,
  IsSpline,
  NoListFalls,
  WholeHeights,
  Nearest,
  HasLine,
}
use Rattle.promises.specs.ListFacts.{of_toning_list, no_spline}
use Rattle.promises.specs.RunFacts.{toning, tight, input_byte, passed_checks, tight_entry}
use Rattle.promises.specs.LegalFacts.{toning_proper, toning_kept}
use Rattle.promises.specs.ShareFacts.{same_toned, same_list}

-- nearest to n / d, without the fraction
whole_nearest : (b n d : ℕ) → Fraction.Nearest b (frac n 0 d) → Nearest n d b
whole_nearest b n d h = (omega (arith, h.0), omega (arith, h.1))

-- ---- one run, refused or not
module _ (c : Call) where
  list_typed : (p : Place) → All Typed (list_that_tones c.given p)
  list_typed p =
      of_toning_list (All Typed) c.given.job.format (view_of c.given.job.set)
      c.contract.in_types.points p.channel

  pub has_line : (p : Place) → HasLine (list_that_tones c.given p) (input c p)
  has_line p =
      let l = list_that_tones c.given p in
      record {
        there = on_line l (list_typed p) (input c p) 1 (lit< tt) (omega (arith, input_byte c p));
        wide = line_width l (list_typed p) (input c p) 1;
        one_height = one_value l (list_typed p) (input c p) 1;
      }

-- ---- one run that is not refused
module _ (c : Call) (ok : Accepted c) where
  -- the list that tones a byte: proper
  list_legal : (p : Place) → LegalList Fine (list_that_tones c.given p)
  list_legal p =
      of_toning_list (LegalList Fine) c.given.job.format (view_of c.given.job.set)
      (passed_checks c ok).legal p.channel

  pub list_proper : (p : Place) → All Proper (list_that_tones c.given p)
  list_proper p =
      passed_proper Fine (list_that_tones c.given p) (list_typed c p) (list_legal p).high

  -- nearest to the line, or nearly, as a fraction, and through the points
  linear_entry : IsLinear c.given → (p : Place) → TonedAt c.given p
      → tight c p ≡ entry_of Linear (toning c.given p.channel) (input c p)
  linear_entry linear p t = tight_entry c ok p t ∙ rw linear

  pub toned_nearest : IsLinear c.given → (p : Place) → TonedAt c.given p
      → WholeHeights (toning c.given p.channel)
      → (n d : ℕ) → OnLine (toning c.given p.channel) (input c p) n d → Nearest n d (tight c p)
  toned_nearest linear p t whole n d o =
      let l = toning c.given p.channel in
      rw (linear_entry linear p t)
      (whole_nearest (entry_of Linear l (input c p)) n d
      (entry_near l (toning_proper c ok p.channel) (input c p) (input_byte c p)
      (rw (toning_kept c ok p.channel) whole) n d o))

  pub toned_nearly : IsLinear c.given → (p : Place) → TonedAt c.given p
      → (n d : ℕ) → OnLine (toning c.given p.channel) (input c p) n d
      → Close 8193 16384 (frac (tight c p) 0 1) (frac n 0 d)
  toned_nearly linear p t n d o =
      let l = toning c.given p.channel in
      rw (linear_entry linear p t)
      (entry_nearly l (toning_proper c ok p.channel) (input c p) (input_byte c p) n d o)

  pub through_point : (IsSpline (kind_in c.given) → ⊥) → (p : Place) → TonedAt c.given p
      → (q : Point) → Memᴰ q (toning c.given p.channel) → input c p ≡ q.x
      → tight c p ≡ rounded q.y
  through_point other p t q m e =
      let l = toning c.given p.channel in
      tight_entry c ok p t ∙ ap (entry_of (kind_in c.given) l) e
      ∙ Table.through_points l (toning_proper c ok p.channel) (kind_in c.given)
      (no_spline (kind_in c.given) other c.contract.in_types.tension) q
      (rw (toning_kept c ok p.channel) m)

  -- where that height is a level
  pub through_level : (IsSpline (kind_in c.given) → ⊥) → (p : Place) → TonedAt c.given p
      → (x y : ℕ) → Memᴰ (at_level x y) (toning c.given p.channel) → input c p ≡ x
      → tight c p ≡ y
  through_level other p t x y m e = through_point other p t (at_level x y) m e ∙ rounded_level y

-- ---- two runs
entry_alike : {j k : CurveInterpolation} {l m : List Point} {x y : ℕ} → j ≡ k → l ≡ m → x ≡ y
    → entry_of j l x ≡ entry_of k m y
entry_alike {k = k} {l = l} {m = m} {x = x} kind list byte =
    ap (λ (i : CurveInterpolation). entry_of i l x) kind
    ∙ ap (λ (o : List Point). entry_of k o x) list ∙ ap (entry_of k m) byte

-- a toned byte is a matter of the kind, the list and the byte alone
pub by_input_alone : (a b : Call) → Accepted a → Accepted b → kind_in a.given ≡ kind_in b.given
    → (p q : Place)
    → TonedAt a.given p → TonedAt b.given q
    → toning a.given p.channel ≡ toning b.given q.channel
    → input a p ≡ input b q → tight a p ≡ tight b q
by_input_alone a b a-ok b-ok kind p q a-toned b-toned list byte =
    tight_entry a a-ok p a-toned ∙ entry_alike kind list byte ∙ sym (tight_entry b b-ok q b-toned)

module _ (a b : Call) (share : Share a b) (a-ok : Accepted a) (b-ok : Accepted b) where
  pub in_order : IsLinear a.given → NoListFalls a.given → (p : Place) → TonedAt a.given p
      → input a p ≤ input b p → tight a p ≤ tight b p
  in_order linear rising p t below =
      let l = toning a.given p.channel in
      let never-falls =
      of_toning_list NeverFalls a.given.job.format (view_of a.given.job.set) rising
      p.channel in
      let of-a : tight a p ≡ entry_of Linear l (input a p) = linear_entry a a-ok linear p t in
      let of-b : tight b p ≡ entry_of Linear l (input b p) =
      tight_entry b b-ok p (same_toned a b share p t)
      ∙ rw (← same_list a b share p.channel, ← share.set.kind, linear) in
      rw (of-a, of-b)
      (entry_order l (toning_proper a a-ok p.channel)
      (rw (toning_kept a a-ok p.channel) never-falls) (input a p) (input b p) below
      (input_byte b p))
