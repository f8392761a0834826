-- `record_of`: field behind field; no field is longer than there is room for.
use Rattle.std.proofs.Common.{◌≡◌, ap, ◌≤◌, arith, length}
use Rattle.sets.specs.Sets.{view_of, channel_of}
use Rattle.points.specs.declared.Heights.TheVariants.{Whole}
use Rattle.sets.specs.Legal.{Passed, passed_set, legal_view}
use Rattle.writing.specs.Encode.{field_bytes, encode}
use Rattle.records.specs.Format.{longest_field}
use Rattle.writing.specs.Lengths.{FieldLengths, field_lengths}
use Rattle.writing.proofs.Laws.{appended_then, appended_as, pushed, from_nothing}
use Rattle.writing.proofs.record_of.Goals.{After-master_field-master}
use Rattle.writing.proofs.record_of.Goals as goal

-- the lengths of the fields, the master's channel among them
lengths : (m : After-master_field-master)
    → (length (field_bytes (channel_of m.master_field-master.result)) ≤ longest_field)
    × FieldLengths (view_of m.before.args.set.now)
lengths m =
    let set = m.before.args.set.now in
    let f = field_lengths (view_of set) (legal_view Whole set m.before.requires) in
    (rw m.master_field-master.ensures.0 f.master, f)

-- the set's lists pass
passes : (m : After-master_field-master) → Passed Whole m.before.args.set.now
passes m = passed_set Whole m.before.args.set.now m.before.requires

pub master_field-master-requires : goal.master_field-master-requires
master_field-master-requires c = (passed_set Whole c.args.set.now c.requires).master

pub push_field-requires : goal.push_field-requires
push_field-requires c =
    let m = (goal.at.push_field-requires c).After-master_field-master in
    let start : length c.new-draft.result.items ≡ 0 = ap length c.new-draft.ensures in
    record { legal = c.master_field-master.ensures.1; room = record { room = omega (arith, lengths m) } }

pub push_field-requires-2 : goal.push_field-requires-2
push_field-requires-2 c =
    let m = (goal.at.push_field-requires-2 c).After-master_field-master in
    let start : length c.new-draft.result.items ≡ 0 = ap length c.new-draft.ensures in
    record { legal = (passes m).red; room = record { room = omega (arith, lengths m) } }

pub push_field-requires-3 : goal.push_field-requires-3
push_field-requires-3 c =
    let m = (goal.at.push_field-requires-3 c).After-master_field-master in
    let start : length c.new-draft.result.items ≡ 0 = ap length c.new-draft.ensures in
    record { legal = (passes m).green; room = record { room = omega (arith, lengths m) } }

pub push_field-requires-4 : goal.push_field-requires-4
push_field-requires-4 c =
    let m = (goal.at.push_field-requires-4 c).After-master_field-master in
    let start : length c.new-draft.result.items ≡ 0 = ap length c.new-draft.ensures in
    record { legal = (passes m).blue; room = record { room = omega (arith, lengths m) } }

pub push_kind-requires : goal.push_kind-requires
push_kind-requires c =
    let start : length c.new-draft.result.items ≡ 0 = ap length c.new-draft.ensures in
    record { room = omega (arith, lengths (goal.at.push_kind-requires c).After-master_field-master) }

pub push_carried-requires : goal.push_carried-requires
push_carried-requires c =
    let start : length c.new-draft.result.items ≡ 0 = ap length c.new-draft.ensures in
    record { room = omega (arith, lengths (goal.at.push_carried-requires c).After-master_field-master) }

pub returns : goal.returns
unfolding encode
returns c =
    let lists =
    appended_then
    (appended_then
    (appended_then (appended_then (pushed _ _ _ c.push.ensures.items) c.push_field.ensures)
    c.push_field-2.ensures) c.push_field-3.ensures) c.push_field-4.ensures in
    let all = appended_then (appended_then lists c.push_kind.ensures) c.push_carried.ensures.0 in (
      from_nothing (appended_as all (rw (c.map_byte.ensures, c.master_field-master.ensures.0)))
          c.new-draft.ensures,
      c.push_carried.ensures.1,
    )
