-- A set that has passed with some heights is refused with others for its heights alone, and what a
-- set is that passes 20.
use Rattle.std.specs.Prelude.{◌≡◌, refl, Bool, true, false, not, ◌&&◌, List, [], ◌∷◌}
use Rattle.std.proofs.Common.{◌∙◌, le-ltb}
use Rattle.std.proofs.lemmas.Bool.{false≢true}
use Rattle.std.proofs.Math.Option.{Option, none, some}
use Rattle.lists.specs.Test.{by_test}
use Rattle.answers.specs.declared.Refusal.TheVariants.{HeightRange}
use Rattle.answers.specs.Numbers.{first_of, Answer, done}
use Rattle.answers.specs.Checks.{◌when◌, first_refusal}
use Rattle.points.specs.declared.Point.{Point}
use Rattle.points.specs.declared.Curve.{Curve}
use Rattle.points.specs.declared.Heights.{Heights}
use Rattle.points.specs.Points.{list_of, all_allowed}
use Rattle.sets.specs.declared.Channel.{Channel}
use Rattle.sets.specs.declared.Curves.{Curves}
use Rattle.sets.specs.Sets.{View, view_of, channel_of, curve_answer, channel_answer, set_answer}
use Rattle.sets.specs.Legal.{LegalList, LegalColour, Legal, passed_set, passed_list}
use Rattle.sets.specs.Heights.{colour_allowed, every_allowed, heights_check}
use Rattle.sets.proofs.AnswerLaws.{set_answer_lem}

-- ---- what it answers
abbrev answer_for : Bool → Answer
answer_for fits = first_refusal (HeightRange when not fits ∷ [])

both_lists : (a b : Bool) → first_of (answer_for a) (answer_for b) ≡ answer_for (a && b)
both_lists true b = refl
both_lists false b = refl

module _ (passed heights : Heights) where
  list_alone : (c : Curve) → curve_answer passed c ≡ done
      → curve_answer heights c ≡ answer_for (all_allowed heights (list_of c))
  unfolding curve_answer
  list_alone c e =
      let p = passed_list passed c e in
      rw (le-ltb 64 c.count p.few, p.rising)

  colour_alone : (c : Channel) → channel_answer passed c ≡ done
      → channel_answer heights c ≡ answer_for (colour_allowed heights (channel_of c))
  unfolding channel_answer curve_answer
  colour_alone c e =
      by_test c.present (λ t. rw t (list_alone c.curve (rw t at e))) (λ t. rw t)

  pub heights_alone : (s : Curves) → set_answer passed s ≡ done
      → set_answer heights s ≡ first_refusal (heights_check heights (view_of s) ∷ [])
  heights_alone s e =
      let p = passed_set passed s e in
      let master = all_allowed heights (list_of s.master) in
      let red = colour_allowed heights (channel_of s.red) in
      let green = colour_allowed heights (channel_of s.green) in
      set_answer_lem heights s
      ∙ rw (
        list_alone s.master p.master,
        colour_alone s.red p.red,
        colour_alone s.green p.green,
        colour_alone s.blue p.blue,
        both_lists master red,
        both_lists (master && red) green,
        both_lists ((master && red) && green) (colour_allowed heights (channel_of s.blue)),
      )

-- ---- what a set is that passes it
and_both : (a b : Bool) → (a && b) ≡ true → (a ≡ true) × (b ≡ true)
and_both true b e = (refl, e)
and_both false b e = absurd (false≢true e)

module _ (passed heights : Heights) where
  list_legal : (l : List Point) → LegalList passed l → all_allowed heights l ≡ true
      → LegalList heights l
  list_legal l h e = record { few = h.few; rising = h.rising; high = e }

  colour_legal : (o : Option (List Point)) → LegalColour passed o → colour_allowed heights o ≡ true
      → LegalColour heights o
  colour_legal none h e = tt
  colour_legal (some l) h e = list_legal l h e

  -- legal with other heights, and every list has such heights
  pub legal_with : (v : View) → Legal passed v → every_allowed heights v ≡ true → Legal heights v
  legal_with v h e =
      let blue = and_both _ (colour_allowed heights v.blue) e in
      let green = and_both _ (colour_allowed heights v.green) blue.0 in
      let red = and_both _ (colour_allowed heights v.red) green.0 in
      record {
        master = list_legal v.master h.master red.0;
        red = colour_legal v.red h.red red.1;
        green = colour_legal v.green h.green green.1;
        blue = colour_legal v.blue h.blue blue.1;
      }

module _ (heights : Heights) where
  colour_allowed_lem : (o : Option (List Point)) → LegalColour heights o
      → colour_allowed heights o ≡ true
  colour_allowed_lem none h = refl
  colour_allowed_lem (some l) h = h.high

  pub legal_allowed : (v : View) → Legal heights v → every_allowed heights v ≡ true
  legal_allowed v h =
      rw (
        h.master.high,
        colour_allowed_lem v.red h.red,
        colour_allowed_lem v.green h.green,
        colour_allowed_lem v.blue h.blue,
      )
