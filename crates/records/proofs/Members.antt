-- The end of a record. A set passes the check where its lists do, and the empty set passes it.
use Prim.Native.Nat.{ℕ}
use mathlib.Core.Path.{◌≡◌, refl, ap, ◌∙◌}
use mathlib.Core.List.{List, [], ◌∷◌}
use Rattle.std.proofs.Common.{cond, eqb, ne_eqb, length}
use mathlib.Core.Option.{none}
use native.Mathlib.Omega.{arith}
use Rattle.lists.specs.Test.{by_test}
use Rattle.answers.specs.declared.Refusal.TheVariants.{TrailingBytes}
use Rattle.answers.specs.Numbers.{done}
use Rattle.points.specs.declared.Heights.TheVariants.{Whole}
use Rattle.points.specs.Joined.{FullRows}
use Rattle.sets.specs.declared.Channel.{Channel}
use Rattle.sets.specs.declared.Curves.{Curves}
use Rattle.sets.specs.Legal.{Passed}
use Rattle.sets.proofs.AnswerLaws.{set_answer_lem}
use Rattle.sets.specs.Sets.{View, view_of, channel_of, empty_view}
use Rattle.sets.specs.Sets.{curve_answer, channel_answer, set_answer}
use Rattle.records.specs.Parse.{good, refused}
use Rattle.records.specs.Format.{end_step}
use Rattle.records.proofs.Lists.{empty_passes}

-- the end: whether bytes follow
pub at_end : (v : View) (s : List ℕ)
    → end_step v s ≡ cond (eqb (length s) 0) (good v []) (refused TrailingBytes)
at_end v [] = refl
at_end v (b ∷ s) = rw (ne_eqb (length (b ∷ s)) 0 (omega arith))

-- ---- the check of a set, by those of its lists
pub set_passes : (s : Curves) → Passed Whole s → set_answer Whole s ≡ done
set_passes s p = set_answer_lem Whole s ∙ rw (p.master, p.red, p.green) p.blue

pub channel_passes : (c : Channel) → curve_answer Whole c.curve ≡ done → channel_answer Whole c ≡ done
unfolding channel_answer curve_answer
channel_passes c e = by_test c.present (λ t. rw t e) (λ t. rw t)

-- ---- the empty set
absent_passes : (c : Channel) → channel_of c ≡ none → channel_answer Whole c ≡ done
unfolding channel_answer
absent_passes c e =
    by_test c.present (λ t. let z : ◌≡◌ {A = ℕ} 0 1 = cc (rw t at e) in absurd (omega arith)) (λ t. rw t)

pub empty_set_passes : (s : Curves) → FullRows s.master → view_of s ≡ empty_view → set_answer Whole s ≡ done
empty_set_passes s long e =
    set_passes s
    (record {
      master = empty_passes s.master long (ap (λ (v : View). v.master) e);
      red = absent_passes s.red (ap (λ (v : View). v.red) e);
      green = absent_passes s.green (ap (λ (v : View). v.green) e);
      blue = absent_passes s.blue (ap (λ (v : View). v.blue) e);
    })
