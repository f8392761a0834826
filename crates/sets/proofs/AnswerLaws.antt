-- The answer of a set by those of its lists.
use Rattle.std.specs.Prelude.{◌≡◌}
use Rattle.answers.specs.Numbers.{first_of}
use Rattle.points.specs.declared.Heights.{Heights}
use Rattle.sets.specs.declared.Curves.{Curves}
use Rattle.sets.specs.Sets.{curve_checks, curve_answer, channel_answer, set_answer}
use Rattle.sets.specs.Legal.{lists_answer}

module _ (heights : Heights) where
  pub set_answer_lem : (s : Curves)
      → set_answer heights s
      ≡ first_of
      (first_of (first_of (curve_answer heights s.master) (channel_answer heights s.red))
      (channel_answer heights s.green))
      (channel_answer heights s.blue)
  unfolding set_answer curve_answer channel_answer
  set_answer_lem s = lists_answer (curve_checks heights) s
