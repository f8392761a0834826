-- A set of curves apart from how it is stored, its members replaced, and the check of its lists, as
-- document 01's sections "The set" and "When a call says no" have them. Definitions only.
use Rattle.std.specs.Prelude.{ℕ, ◌≡◌, Bool, cond, not, true, false, List, [], ◌∷◌, ◌++◌}
use Rattle.std.proofs.Math.Option.{Option, none, some}
use Rattle.answers.specs.declared.Refusal.TheVariants.{PointsNotRising}
use Rattle.answers.specs.Checks.{Check, ◌when◌, first_refusal}
use Rattle.points.specs.declared.Point.{Point}
use Rattle.points.specs.declared.Curve.{Curve}
use Rattle.points.specs.declared.Heights.{Heights}
use Rattle.points.specs.Points.{list_of, rises, count_check, height_check}
use Rattle.tables.specs.declared.CurveInterpolation.{CurveInterpolation}
use Rattle.tables.specs.declared.CurveInterpolation.TheVariants.{MonotoneCubicBox}
use Rattle.sets.specs.declared.Channel.{Channel}
use Rattle.sets.specs.declared.Colour.{Colour}
use Rattle.sets.specs.declared.Colour.TheVariants.{Red, Green, Blue}
use Rattle.sets.specs.declared.Curves.{Curves}
use Rattle.answers.specs.Numbers.{Answer}

-- "MonotoneCubicBox (3) as the default for new sets"
abbrev pub default : CurveInterpolation
default = MonotoneCubicBox

-- ---- what a set is
-- "A set is a master, three optional colours and a kind"
pub record View : Type 0 where
  pub master : List Point
  pub red : Option (List Point)
  pub green : Option (List Point)
  pub blue : Option (List Point)
  pub kind : CurveInterpolation

-- the list of a colour, where it is present
abbrev pub channel_of : Channel → Option (List Point)
channel_of c = cond c.present (some (list_of c.curve)) none

-- what a stored set holds: what is past a count or behind an absent mark is not part of it
abbrev pub view_of : Curves → View
view_of s = record {
  master = list_of s.master;
  red = channel_of s.red;
  green = channel_of s.green;
  blue = channel_of s.blue;
  kind = s.interpolation;
}

abbrev pub colour_of : Colour → View → Option (List Point)
colour_of Red v = v.red
colour_of Green v = v.green
colour_of Blue v = v.blue

-- the set of this master alone, of the default kind
abbrev pub master_only : List Point → View
master_only l = record { master = l; red = none; green = none; blue = none; kind = default }

-- it is stored with just the master given
pub record MasterOnly (c : Curve) (s : Curves) : Type 0 where
  pub master : s.master ≡ c
  pub view : view_of s ≡ master_only (list_of c)

-- "the empty set of the default kind, without colours"
abbrev pub empty_view : View
empty_view = master_only []

-- ---- one member replaced: in a set as it is stored, and in what it holds
-- a colour that is present
abbrev pub present_channel : Curve → Channel
present_channel c = record { present = true; curve = c }

abbrev pub replace_master : Curve → Curves → Curves
replace_master c s =
    record {
      master = c;
      red = s.red;
      green = s.green;
      blue = s.blue;
      interpolation = s.interpolation;
    }

abbrev pub replace_colour : Colour → Channel → Curves → Curves
replace_colour Red c s =
    record {
      master = s.master;
      red = c;
      green = s.green;
      blue = s.blue;
      interpolation = s.interpolation;
    }
replace_colour Green c s =
    record {
      master = s.master;
      red = s.red;
      green = c;
      blue = s.blue;
      interpolation = s.interpolation;
    }
replace_colour Blue c s =
    record {
      master = s.master;
      red = s.red;
      green = s.green;
      blue = c;
      interpolation = s.interpolation;
    }

abbrev pub replace_kind : CurveInterpolation → Curves → Curves
replace_kind k s =
    record { master = s.master; red = s.red; green = s.green; blue = s.blue; interpolation = k }

abbrev pub with_master : List Point → View → View
with_master l v =
    record { master = l; red = v.red; green = v.green; blue = v.blue; kind = v.kind }

abbrev pub with_colour : Colour → Option (List Point) → View → View
with_colour Red o v =
    record { master = v.master; red = o; green = v.green; blue = v.blue; kind = v.kind }
with_colour Green o v =
    record { master = v.master; red = v.red; green = o; blue = v.blue; kind = v.kind }
with_colour Blue o v =
    record { master = v.master; red = v.red; green = v.green; blue = o; kind = v.kind }

abbrev pub with_kind : CurveInterpolation → View → View
with_kind k v =
    record { master = v.master; red = v.red; green = v.green; blue = v.blue; kind = k }

-- ---- the checks of a set's lists
-- "don't strictly rise in x"
abbrev pub rising_check : List Point → Check
rising_check l = PointsNotRising when not (rises l)

-- one list that may have such heights: 3, then 4, then 20, "tested in each list after 3 and 4,
-- before the next list and all later checks"
abbrev pub curve_checks : Heights → Curve → List Check
curve_checks heights c =
    count_check c.count ∷ rising_check (list_of c) ∷ height_check heights (list_of c) ∷ []

-- the checks of a set, by those of a list
module _ (checks : Curve → List Check) where
  abbrev pub channel_checks : Channel → List Check
  channel_checks c = cond c.present (checks c.curve) []

  -- "A set's present lists go master, red, green, blue, used or not"
  abbrev pub set_checks : Curves → List Check
  set_checks s =
      checks s.master ++ channel_checks s.red ++ channel_checks s.green
      ++ channel_checks s.blue

unfoldable pub curve_answer : Heights → Curve → Answer
curve_answer heights c = first_refusal (curve_checks heights c)

unfoldable pub channel_answer : Heights → Channel → Answer
channel_answer heights c = first_refusal (channel_checks (curve_checks heights) c)

-- "each with 3 and then 4", and then 20
unfoldable pub set_answer : Heights → Curves → Answer
set_answer heights s = first_refusal (set_checks (curve_checks heights) s)

-- ---- the table and the list of a channel
-- "the colour's own table or else the master's"
abbrev pub chosen : Bool → List ℕ → List ℕ → List ℕ
chosen true own master = own
chosen false own master = master

-- the list that makes it
abbrev pub own_or_master : Option (List Point) → List Point → List Point
own_or_master none master = master
own_or_master (some own) master = own
