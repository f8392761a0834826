-- A set is the same as itself; same sets hold the same and are checked alike; and sets that pass
-- the check and hold the same are the same.
use Rattle.std.specs.Prelude.{ℕ, refl, List, length}
use Rattle.std.proofs.Common.{arith, ap, ◌∙◌}
use Rattle.std.proofs.Math.Path.{◌≡◌, sym}
use Rattle.std.proofs.lemmas.Bool.{false≢true}
use Rattle.std.proofs.Math.Option.{some}
use Rattle.lists.specs.Test.{by_test}
use Rattle.answers.specs.Checks.{Check, first_refusal}
use Rattle.points.specs.declared.Curve.{Curve}
use Rattle.points.specs.declared.Heights.{Heights}
use Rattle.points.specs.Points.{list_of}
use Rattle.points.specs.Joined.{FullRows, places_long}
use Rattle.points.specs.Owned.{list_length}
use Rattle.sets.specs.declared.Channel.{Channel}
use Rattle.sets.specs.declared.Curves.{Curves}
use Rattle.sets.specs.Sets.{
  View,
  view_of,
  channel_of,
  curve_checks,
  channel_checks,
  set_checks,
  curve_answer,
  channel_answer,
  set_answer,
}
use Rattle.sets.specs.Same.{SameCurve, SameChannel, Same}
use Rattle.sets.specs.Legal.{passed_count, passed_set}
use Rattle.answers.specs.Numbers.{done}

-- ---- a set is the same as itself
same_curve_refl : (c : Curve) → SameCurve c c
same_curve_refl c = record { count = refl; points = refl }

same_channel_refl : (c : Channel) → SameChannel c c
same_channel_refl c = record { present = refl; curve = λ t. same_curve_refl c.curve }

pub same_refl : (s : Curves) → Same s s
same_refl s = record {
  master = same_curve_refl s.master;
  red = same_channel_refl s.red;
  green = same_channel_refl s.green;
  blue = same_channel_refl s.blue;
  kind = refl;
}

-- ---- same sets hold the same
channel_view : (a b : Channel) → SameChannel a b → channel_of a ≡ channel_of b
channel_view a b e =
    by_test a.present (λ t. rw (← e.present, t) (ap some (e.curve t).points))
    (λ t. rw (← e.present, t))

pub same_view : (a b : Curves) → Same a b → view_of a ≡ view_of b
same_view a b e =
    rw (
      e.master.points,
      channel_view a.red b.red e.red,
      channel_view a.green b.green e.green,
      channel_view a.blue b.blue e.blue,
      e.kind,
    )

-- ---- and are checked alike
same_checks : (checks : Curve → List Check) (a b : Curves) → checks a.master ≡ checks b.master
    → channel_checks checks a.red ≡ channel_checks checks b.red
    → channel_checks checks a.green ≡ channel_checks checks b.green
    → channel_checks checks a.blue ≡ channel_checks checks b.blue
    → set_checks checks a ≡ set_checks checks b
same_checks checks a b master red green blue = rw (master, red, green, blue)

module _ (heights : Heights) where
  checked_curve : (a b : Curve) → SameCurve a b → curve_checks heights a ≡ curve_checks heights b
  checked_curve a b e = rw (e.points, e.count)

  checked_channel : (a b : Channel) → SameChannel a b
      → channel_checks (curve_checks heights) a ≡ channel_checks (curve_checks heights) b
  checked_channel a b e =
      by_test a.present
      (λ t. rw (← e.present, t) (checked_curve a.curve b.curve (e.curve t)))
      (λ t. rw (← e.present, t))

  pub checked_same : (a b : Curves) → Same a b → set_answer heights a ≡ set_answer heights b
  unfolding set_answer
  checked_same a b e =
      ap first_refusal
      (same_checks (curve_checks heights) a b
      (checked_curve a.master b.master e.master)
      (checked_channel a.red b.red e.red)
      (checked_channel a.green b.green e.green)
      (checked_channel a.blue b.blue e.blue))

-- ---- sets that pass the check and hold the same are the same
-- each list is stored in 64 places: so it is of every set that code holds.
-- At a goal of a function that is given or handed such a set `search rules` finds each.
pub record Full (s : Curves) : Type 0 where
  pub master : FullRows s.master
  pub red : FullRows s.red.curve
  pub green : FullRows s.green.curve
  pub blue : FullRows s.blue.curve

module _ (heights : Heights) where
  curve_same : (a b : Curve) → FullRows a → FullRows b
      → curve_answer heights a ≡ done → curve_answer heights b ≡ done
      → list_of a ≡ list_of b → SameCurve a b
  curve_same a b a-long b-long a-done b-done e = record {
    count = omega (
      arith,
      passed_count heights a a-done,
      passed_count heights b b-done,
      list_length a (places_long a a-long),
      list_length b (places_long b b-long),
      ap length e,
    );
    points = e;
  }

  channel_same : (a b : Channel) → FullRows a.curve → FullRows b.curve
      → channel_answer heights a ≡ done → channel_answer heights b ≡ done
      → channel_of a ≡ channel_of b → SameChannel a b
  unfolding channel_answer curve_answer
  channel_same a b a-long b-long a-done b-done e =
      by_test a.present
      (λ t.
      by_test b.present
      (λ u.
      let both : some (list_of a.curve) ≡ some (list_of b.curve) = rw (t, u) at e in
      record {
        present = t ∙ sym u;
        curve = λ v.
            curve_same a.curve b.curve a-long b-long (rw t at a-done) (rw u at b-done) (cc);
      })
      (λ u. let z : ◌≡◌ {A = ℕ} 0 1 = cc (rw (t, u) at e) in absurd (omega arith)))
      (λ t.
      by_test b.present
      (λ u. let z : ◌≡◌ {A = ℕ} 0 1 = cc (rw (t, u) at e) in absurd (omega arith))
      (λ u. record { present = t ∙ sym u; curve = λ v. absurd (false≢true (sym t ∙ v)) }))

  pub view_same : (a b : Curves) → Full a → Full b → set_answer heights a ≡ done
      → set_answer heights b ≡ done → view_of a ≡ view_of b → Same a b
  view_same a b a-full b-full a-done b-done e =
      let a-passed = passed_set heights a a-done in
      let b-passed = passed_set heights b b-done in
      record {
        master = curve_same a.master b.master a-full.master b-full.master
            a-passed.master b-passed.master (ap (λ (v : View). v.master) e);
        red = channel_same a.red b.red a-full.red b-full.red a-passed.red
            b-passed.red (ap (λ (v : View). v.red) e);
        green = channel_same a.green b.green a-full.green b-full.green a-passed.green
            b-passed.green (ap (λ (v : View). v.green) e);
        blue = channel_same a.blue b.blue a-full.blue b-full.blue a-passed.blue
            b-passed.blue (ap (λ (v : View). v.blue) e);
        kind = ap (λ (v : View). v.kind) e;
      }
