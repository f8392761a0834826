-- "Today's stored record holds whole heights only": every height that its reader hands back is a
-- multiple of 256, and the reader never answers 20; of the sets that may be toned its writer takes
-- those of whole heights, and answers 20 for the others.
use Rattle.std.specs.Prelude.{ℕ, ◌%◌, ◌≡◌, refl, Bool, true, false, not, List, [], ◌∷◌, leb, Err}
use Rattle.std.proofs.Common.{sym, ◌∙◌, true≢false, eq-eqb, le-ltb}
use Rattle.std.proofs.lemmas.Bool.{false≢true, eqb-false, not-true}
use Rattle.std.proofs.Math.Option.{Option, none, some}
use Rattle.lists.specs.Test.{by_test}
use Rattle.answers.specs.declared.Refusal.TheVariants.{TrailingBytes, HeightRange}
use Rattle.answers.specs.Numbers.{number_of, is_done, Answer, done}
use Rattle.answers.specs.Checks.{Check, ◌when◌}
use Rattle.points.specs.declared.Point.{Point}
use Rattle.points.specs.declared.Curve.{Curve}
use Rattle.points.specs.declared.Heights.TheVariants.{Fine, Whole}
use Rattle.points.specs.HeightLaws.{passed_whole}
use Rattle.points.specs.Points.{limit, list_of, highest, all_allowed}
use Rattle.points.specs.Order.{All, WholeHeight}
use Rattle.tables.specs.declared.CurveInterpolation.{CurveInterpolation}
use Rattle.sets.specs.declared.Channel.{Channel}
use Rattle.sets.specs.declared.Curves.{Curves}
use Rattle.sets.specs.Lists.{OfColour, EveryList}
use Rattle.sets.specs.Legal.{passed_set, passed_list, legal_view}
use Rattle.sets.specs.Sets.{
  View,
  empty_view,
  view_of,
  channel_of,
  curve_checks,
  channel_checks,
  curve_answer,
  channel_answer,
  set_answer,
}
use Rattle.records.specs.Map.{bit}
use Rattle.records.specs.Kinds.{unnamed_kind}
use Rattle.records.specs.Format.{read_record}
use Rattle.records.specs.Checks.{
  is_empty,
  field_checks,
  after_field,
  kind_checks,
  after_kind,
  record_checks,
}
use Rattle.records.proofs.AnswerLaws.{read_answer}
use Rattle.record_facts.specs.Found.{handed_has}
use Rattle.record_facts.specs.Refusals.{
  Never,
  Refusals,
  ◌and◌,
  ◌also◌,
  no_more,
  first_has,
  refusals_append,
  refusals_if,
  set_refusals,
}

-- "whole heights only" in every list of a set
abbrev pub HoldsLevels : View → Type 0
HoldsLevels = EveryList (All WholeHeight)

-- what every list has that has P
module _ {P Q : List Point → Type 0} (f : (l : List Point) → P l → Q l) where
  of_colour_lem : (o : Option (List Point)) → OfColour P o → OfColour Q o
  of_colour_lem none h = tt
  of_colour_lem (some l) h = f l h

  every_list : (v : View) → EveryList P v → EveryList Q v
  every_list v h = record {
    master = f v.master h.master;
    red = of_colour_lem v.red h.red;
    green = of_colour_lem v.green h.green;
    blue = of_colour_lem v.blue h.blue;
  }

-- ---- what is read
no_heights : HoldsLevels empty_view
no_heights = record { master = tt; red = tt; green = tt; blue = tt }

-- whatever the bytes are, and on a refusal too
pub read_whole : (s : List ℕ) → HoldsLevels (read_record s).set
unfolding read_record
read_whole [] = no_heights
read_whole (m ∷ s) =
    handed_has HoldsLevels no_heights m s (λ v f. every_list (λ l h. h.whole) v f.stored)

-- no check of a record answers 20
abbrev Never20 : List Check → Type 0
Never20 = Refusals (Never 20)

field_never : (present : Bool) (least : ℕ) (s : List ℕ) → Never20 (field_checks present least s)
field_never present least s =
    refusals_if present (λ t. refl also refl also refl also refl also refl also no_more)

kind_never : (unnamed : CurveInterpolation) (present : Bool) (m : ℕ) (s : List ℕ)
    → Never20 (kind_checks unnamed present m s)
kind_never unnamed present m s = refl also refl also refl also refl also no_more

end_never : (s : List ℕ) → Never20 (TrailingBytes when not (is_empty s) ∷ [])
end_never s = refl also no_more

record_never : (s : List ℕ) → Never20 (record_checks s)
record_never [] = refl also no_more
record_never (m ∷ s) =
    let red = after_field (bit 1 m) s in
    let green = after_field (bit 2 m) red in
    let blue = after_field (bit 4 m) green in
    let kind = after_field (bit 8 m) blue in
    let unnamed = unnamed_kind (bit 128 m) in
    refusals_append
    (refusals_append
    (refusals_append
    (refusals_append (refusals_append (field_never (bit 1 m) 1 s) (field_never (bit 2 m) 0 red))
    (field_never (bit 4 m) 0 green))
    (field_never (bit 8 m) 0 blue))
    (kind_never unnamed (bit 16 m) m kind))
    (end_never (after_kind unnamed (bit 16 m) kind))

pub never_20 : (s : List ℕ) → number_of (read_record s).answer ≡ 20 → ⊥
never_20 s =
    eqb-false (number_of (read_record s).answer) 20
    (rw (read_answer s) (first_has refl (record_never s)))

-- ---- what is written
-- a list of whole heights that may be toned may be written
pub whole_passes : (l : List Point) → all_allowed Fine l ≡ true → All WholeHeight l
    → all_allowed Whole l ≡ true
unfolding all_allowed
whole_passes [] e h = refl
whole_passes (p ∷ l) e h =
    by_test (leb p.y highest)
    (λ t. rw (t, eq-eqb (p.y % 256) 0 h.0) (whole_passes l (rw t at e) h.1))
    (λ t. absurd (false≢true (rw t at e)))

-- what the writer's checks answer for a set that may be toned: done, or 20, and done where its
-- heights are whole
record OnHeights (v : View) (a : Answer) : Type 0 where
  refused : is_done a ≡ false → a ≡ Err HeightRange
  whole : HoldsLevels v → a ≡ done

module _ (v : View) where
  list_heights : (c : Curve) → curve_answer Fine c ≡ done
      → (HoldsLevels v → All WholeHeight (list_of c))
      → Refusals (OnHeights v) (curve_checks Whole c)
  list_heights c e h =
      let p = passed_list Fine c e in
      (λ t. absurd (false≢true (sym (le-ltb limit c.count p.few) ∙ t)))
      and (λ t. absurd (false≢true (sym (not-true _ t) ∙ p.rising)))
      and (λ t. record {
        refused = λ u. refl;
        whole = λ all.
            absurd (false≢true (sym (not-true _ t) ∙ whole_passes (list_of c) p.high (h all)));
      })
      and no_more

  colour_heights : (c : Channel) → channel_answer Fine c ≡ done
      → (HoldsLevels v → OfColour (All WholeHeight) (channel_of c))
      → Refusals (OnHeights v) (channel_checks (curve_checks Whole) c)
  unfolding channel_answer curve_answer
  colour_heights c e h =
      refusals_if c.present (λ t. list_heights c.curve (rw t at e) (λ all. rw t at (h all)))

on_heights : (s : Curves) → set_answer Fine s ≡ done → OnHeights (view_of s) (set_answer Whole s)
unfolding set_answer
on_heights s fine =
    let p = passed_set Fine s fine in
    let v = view_of s in
    first_has (record { refused = λ t. absurd (true≢false t); whole = λ all. refl })
    (set_refusals (curve_checks Whole) s
    (list_heights v s.master p.master (λ all. all.master))
    (colour_heights v s.red p.red (λ all. all.red))
    (colour_heights v s.green p.green (λ all. all.green))
    (colour_heights v s.blue p.blue (λ all. all.blue)))

-- a set that may be written has whole heights
pub passed_whole_set : (s : Curves) → set_answer Whole s ≡ done → HoldsLevels (view_of s)
passed_whole_set s e =
    every_list (λ l h. passed_whole l h.high) (view_of s) (legal_view Whole s e)

module _ (s : Curves) (fine : set_answer Fine s ≡ done) where
  -- and one of whole heights that may be toned may be written
  pub whole_set_passes : HoldsLevels (view_of s) → set_answer Whole s ≡ done
  whole_set_passes = (on_heights s fine).whole

  -- one that may not is refused with 20
  pub refused_20 : is_done (set_answer Whole s) ≡ false → set_answer Whole s ≡ Err HeightRange
  refused_20 = (on_heights s fine).refused
