-- What a job that a function is given tells because it is owned: of its set, the points are of a
-- byte and a 16-bit number, and the tension is a byte.
-- A goal c of a function of which the job is the first parameter has `own = c.well_formed.0`.
use mathlib.Core.List.{List}
use Prim.Native.Nat.{◌<◌}
use borrow.Author.Rules.{elem_Fits}
use mir.Syntax.{w8, w16}
use mir.Val.{Val}
use denote.Shadow.{shadow}
use denote.Struct.Field.{Field}
use Rattle.lists.specs.Test.{by_test}
use Rattle.points.specs.declared.Curve.{Curve}
use Rattle.points.specs.Points.{list_of, joined}
use Rattle.points.specs.Order.{All, Typed, all_take}
use Rattle.points.specs.Joined.{rows_typed}
use Rattle.points.specs.contracts.Curve as CurveType
use Rattle.tables.specs.Kinds.{carried_of}
use Rattle.tables.proofs.Owned.{tension_owned}
use Rattle.sets.specs.declared.Channel.{Channel}
use Rattle.sets.specs.Sets.{view_of, channel_of}
use Rattle.sets.specs.Lists.{OfColour, EveryList}
use Rattle.sets.specs.contracts.Channel as ChannelType
use Rattle.pictures.specs.declared.Job.{Job}
use Rattle.pictures.specs.contracts.Job as JobType

-- x is owned, as the values vs
abbrev IsOwned : (F : Field) → F.Value → List Val → Type 0
IsOwned F x vs = shadow (F.row.own_val (F.into x) vs)

owned_list : (c : Curve) (vs : List Val) → IsOwned CurveType.the_field c vs → All Typed (list_of c)
owned_list c vs own =
    all_take Typed c.count (joined c.xs c.ys)
    (rows_typed c.xs c.ys (λ i. elem_Fits w8 w8 c.xs _ i own.1.1.0.1.1 tt)
    (λ i. elem_Fits w16 w16 c.ys _ i own.1.1.1.0.1.1 tt))

owned_colour : (c : Channel) (vs : List Val) → IsOwned ChannelType.the_field c vs → OfColour (All Typed) (channel_of c)
owned_colour c vs own = by_test c.present (λ t. rw t (owned_list c.curve _ own.1.1.1.0)) (λ t. rw t tt)

pub owned_points : (j : Job) (vs : List Val) → IsOwned JobType.the_field j vs
    → EveryList (All Typed) (view_of j.set)
owned_points j vs own =
    let set = own.1.1.0 in
    record {
      master = owned_list j.set.master _ set.1.1.0;
      red = owned_colour j.set.red _ set.1.1.1.0;
      green = owned_colour j.set.green _ set.1.1.1.1.0;
      blue = owned_colour j.set.blue _ set.1.1.1.1.1.0;
    }

pub owned_tension : (j : Job) (vs : List Val) → IsOwned JobType.the_field j vs
    → (carried_of j.set.interpolation).tension < 256
owned_tension j vs own =
    let set = own.1.1.0 in
    tension_owned j.set.interpolation _ set.1.1.1.1.1.1.0
