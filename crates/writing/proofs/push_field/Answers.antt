-- `push_field`: the count and the points of a list that is present; nothing else of one that is
-- absent.
use Rattle.std.proofs.Common.{◌≤◌, arith, ◌≡◌, [], ◌∷◌, length-take-le, rules}
use Rattle.points.specs.Points.{places_of, list_of}
use Rattle.points.specs.Joined.{places_long}
use Rattle.points.specs.declared.Heights.TheVariants.{Whole}
use Rattle.sets.specs.Sets.{channel_of, curve_answer, channel_answer}
use Rattle.sets.specs.Legal.{passed_count}
use Rattle.writing.specs.Encode.{pair_bytes, field_bytes}
use Rattle.writing.specs.Statements.{Room}
use Rattle.writing.proofs.Laws.{appended_none, appended_then, appended_as, pushed, room_first, room_rest}
use Rattle.writing.proofs.push_field.Goals.{Then-channel}
use Rattle.writing.proofs.push_field.Goals as goal

-- a list that is present: few points, and room for its count and them
module _ (c : Then-channel) where
  few : c.args.channel.curve.count ≤ 64
  unfolding channel_answer curve_answer
  few = passed_count Whole c.args.channel.curve (rw c.if-channel.true at c.requires.legal)

  bytes : let m = c.args.channel in
      m.curve.count ∷ pair_bytes (list_of m.curve) ≡ field_bytes (channel_of m)
  bytes =
      let m = c.args.channel.curve in
      let long = places_long m (search rules) in
      rw (c.if-channel.true, length-take-le m.count (places_of m) (omega (arith, few)))

  room : let m = c.args.channel in
      Room (m.curve.count ∷ pair_bytes (list_of m.curve)) c.args.draft.now
  room = rw bytes c.requires.room

pub overflow_cast-channel : goal.overflow_cast-channel
overflow_cast-channel c = omega (arith, few (goal.at.overflow_cast-channel c).Then-channel)

pub push-requires : goal.push-requires
push-requires c = let r = room_first (_ ∷ []) _ (room (goal.at.push-requires c).Then-channel) in omega arith

pub push_pairs-requires : goal.push_pairs-requires
push_pairs-requires c =
    let m = (goal.at.push_pairs-requires c).Then-channel in
    record { few = few m; room = room_rest (_ ∷ []) _ (room m) (pushed _ _ _ c.push.ensures.items) }

pub returns-then-channel : goal.returns-then-channel
returns-then-channel c =
    appended_as (appended_then (pushed _ _ _ c.push.ensures.items) c.push_pairs.ensures)
    (bytes (goal.at.returns-then-channel c).Then-channel)

pub returns-else-channel : goal.returns-else-channel
returns-else-channel c = rw c.if-channel.false appended_none
