-- What a set is that passes the check: each present list has at most 64 points, strictly rises in
-- x, and has such heights as it may have.
use Rattle.std.specs.Prelude.{◌≤◌, ◌≡◌, List, ◌++◌, true, length}
use Rattle.std.proofs.Common.{arith, sym, ap, ◌∙◌, length-take}
use Rattle.std.proofs.Math.Option.{Option}
use borrow.Author.Tests.{ltb-false, le-ltb, not-false}
use Rattle.lists.specs.Test.{by_test}
use Rattle.answers.specs.Numbers.{first_of, Answer, done}
use Rattle.answers.specs.Checks.{Check, first_refusal, first_append, all_passed}
use Rattle.answers.proofs.CheckLaws.{done_append, first_goes_on}
use Rattle.points.specs.declared.Point.{Point}
use Rattle.points.specs.declared.Curve.{Curve}
use Rattle.points.specs.declared.Heights.{Heights}
use Rattle.points.specs.declared.Heights.TheVariants.{Fine}
use Rattle.points.specs.HeightLaws.{passed_fine}
use Rattle.points.specs.Points.{places_of, list_of, rises, all_allowed}
use Rattle.tables.specs.Kinds.{LegalKind}
use Rattle.sets.specs.declared.Channel.{Channel}
use Rattle.sets.specs.declared.Curves.{Curves}
use Rattle.sets.specs.Sets.{
  View,
  view_of,
  channel_of,
  curve_checks,
  channel_checks,
  set_checks,
  curve_answer,
  channel_answer,
  set_answer,
}
use Rattle.sets.specs.Lists.{OfColour, EveryList}

pub record LegalList (heights : Heights) (l : List Point) : Type 0 where
  pub few : length l ≤ 64
  pub rising : rises l ≡ true
  pub high : all_allowed heights l ≡ true

abbrev pub LegalColour : Heights → Option (List Point) → Type 0
LegalColour heights = OfColour (LegalList heights)

abbrev pub Legal : Heights → View → Type 0
Legal heights = EveryList (LegalList heights)

-- and what its kind carries is a byte or two numbers of 16 bits
pub record LegalSet (heights : Heights) (v : View) : Type 0 where
  pub lists : Legal heights v
  pub kind : LegalKind v.kind

-- ---- from the check
-- two lists of checks pass behind one another where each does
append_done : (cs ds : List Check) → first_refusal cs ≡ done → first_refusal ds ≡ done
    → first_refusal (cs ++ ds) ≡ done
append_done cs ds p q = sym (first_goes_on cs ds p (sym q))

-- a list of checks that passes where the whole does
record Within (whole part : List Check) : Type 0 where
  passes : first_refusal whole ≡ done → first_refusal part ≡ done

within_self : (cs : List Check) → Within cs cs
within_self cs = record { passes = λ e. e }

within_left : (cs ds part : List Check) → Within cs part → Within (cs ++ ds) part
within_left cs ds part w = record { passes = λ e. w.passes (done_append cs ds e).0 }

within_right : (cs ds part : List Check) → Within ds part → Within (cs ++ ds) part
within_right cs ds part w = record { passes = λ e. w.passes (done_append cs ds e).1 }

-- the answer of a set by those of its lists, whatever is checked of a list
module _ (checks : Curve → List Check) (s : Curves) where
  abbrev of_master : Answer
  of_master = first_refusal (checks s.master)

  abbrev of_colour : Channel → Answer
  of_colour c = first_refusal (channel_checks checks c)

  pub lists_answer : first_refusal (set_checks checks s)
      ≡ first_of (first_of (first_of of_master (of_colour s.red)) (of_colour s.green))
      (of_colour s.blue)
  lists_answer =
      let master = checks s.master in
      let red = channel_checks checks s.red in
      let green = channel_checks checks s.green in
      first_append (master ++ red ++ green) (channel_checks checks s.blue)
      ∙ ap (λ a. first_of a (of_colour s.blue))
      (first_append (master ++ red) green
      ∙ ap (λ a. first_of a (of_colour s.green)) (first_append master red))

  -- a set passes where each of its lists does, in whatever order they go
  part_done : (part : List Check) → Within (set_checks checks s) part
      → first_refusal (set_checks checks s) ≡ done → first_refusal part ≡ done
  part_done part w = w.passes

  every_done : first_refusal (set_checks checks s) ≡ done
      → (of_master ≡ done) × (of_colour s.red ≡ done) × (of_colour s.green ≡ done)
      × (of_colour s.blue ≡ done)
  every_done e = (
    part_done (checks s.master) (search (within_self, within_left, within_right)) e,
    part_done (channel_checks checks s.red) (search (within_self, within_left, within_right)) e,
    part_done (channel_checks checks s.green) (search (within_self, within_left, within_right)) e,
    part_done (channel_checks checks s.blue) (search (within_self, within_left, within_right)) e,
  )

  done_of_every : of_master ≡ done → of_colour s.red ≡ done → of_colour s.green ≡ done
      → of_colour s.blue ≡ done → first_refusal (set_checks checks s) ≡ done
  done_of_every master red green blue = search append_done

module _ (heights : Heights) where
  -- a set passes where each of its lists does
  pub record Passed (s : Curves) : Type 0 where
    pub master : curve_answer heights s.master ≡ done
    pub red : channel_answer heights s.red ≡ done
    pub green : channel_answer heights s.green ≡ done
    pub blue : channel_answer heights s.blue ≡ done

  pub passed_set : (s : Curves) → set_answer heights s ≡ done → Passed s
  unfolding set_answer channel_answer curve_answer
  passed_set s e =
      let p = every_done (curve_checks heights) s e in
      record { master = p.0; red = p.1; green = p.2; blue = p.3 }

  passing_set : (s : Curves) → Passed s → set_answer heights s ≡ done
  unfolding set_answer channel_answer curve_answer
  passing_set s p = done_of_every (curve_checks heights) s p.master p.red p.green p.blue

module _ (heights : Heights) where
  -- a list that passes claims no more points than it may have, rises, and has such heights
  pub record PassedList (c : Curve) : Type 0 where
    pub few : c.count ≤ 64
    pub rising : rises (list_of c) ≡ true
    pub high : all_allowed heights (list_of c) ≡ true

  pub passed_list : (c : Curve) → curve_answer heights c ≡ done → PassedList c
  unfolding curve_answer
  passed_list c e =
      let p = all_passed (curve_checks heights c) e in
      record {
        few = ltb-false 64 c.count p.0;
        rising = not-false (rises (list_of c)) search;
        high = not-false (all_allowed heights (list_of c)) search;
      }

  pub passed_count : (c : Curve) → curve_answer heights c ≡ done → c.count ≤ 64
  passed_count c e = (passed_list c e).few

  -- whatever heights a set was let have, it may be toned
  fine_list : (c : Curve) → curve_answer heights c ≡ done → curve_answer Fine c ≡ done
  unfolding curve_answer
  fine_list c e = let p = passed_list c e in
      rw (le-ltb 64 c.count p.few, p.rising, passed_fine heights (list_of c) p.high)

  fine_colour_lem : (c : Channel) → channel_answer heights c ≡ done → channel_answer Fine c ≡ done
  unfolding channel_answer curve_answer
  fine_colour_lem c e =
      by_test c.present (λ t. rw t (fine_list c.curve (rw t at e))) (λ t. rw t)

  pub fine_set : (s : Curves) → set_answer heights s ≡ done → set_answer Fine s ≡ done
  fine_set s e =
      let p = passed_set heights s e in
      passing_set Fine s (record {
        master = fine_list s.master p.master;
        red = fine_colour_lem s.red p.red;
        green = fine_colour_lem s.green p.green;
        blue = fine_colour_lem s.blue p.blue;
      })

  legal_list : (c : Curve) → curve_answer heights c ≡ done → LegalList heights (list_of c)
  legal_list c e =
      let p = passed_list c e in
      record {
        few = omega (arith, p.few, length-take c.count (places_of c));
        rising = p.rising;
        high = p.high;
      }

  legal_colour : (c : Channel) → channel_answer heights c ≡ done → LegalColour heights (channel_of c)
  unfolding channel_answer curve_answer
  legal_colour c e =
      by_test c.present (λ t. rw t (legal_list c.curve (rw t at e))) (λ t. rw t tt)

  pub legal_view : (s : Curves) → set_answer heights s ≡ done → Legal heights (view_of s)
  legal_view s e =
      let p = passed_set heights s e in
      record {
        master = legal_list s.master p.master;
        red = legal_colour s.red p.red;
        green = legal_colour s.green p.green;
        blue = legal_colour s.blue p.blue;
      }
