-- `write_record`: by the two refusals, then the copy.
use Rattle.std.proofs.Common.{◌≡◌, sym, ap, ◌∙◌, length, rules}
use Rattle.answers.proofs.NumberLaws.{exit_refused}
use Rattle.answers.proofs.CheckLaws.{has_room}
use Rattle.points.specs.declared.Heights.TheVariants.{Whole}
use Rattle.sets.specs.Sets.{view_of, set_answer}
use Rattle.sets.specs.SameLaws.{Full}
use Rattle.writing.specs.Encode.{encode}
use Rattle.writing.proofs.Laws.{lists_refused, room_refused, wrote_done}
use Rattle.answers.specs.Numbers.{done}
use Rattle.writing.proofs.write_record.Goals.{After-len-length}
use Rattle.writing.proofs.write_record.Goals as goal

pub returns-in_err-check : goal.returns-in_err-check
returns-in_err-check c =
    let out = c.from_residual in
    rw (exit_refused out.result out.ensures.1) (lists_refused (sym c.check.ensures ∙ c.in_err-check.was))

-- the lists have passed, and the record has its length
module _ (c : After-len-length) where
  passed : set_answer Whole c.args.set ≡ done
  passed = sym c.check.ensures ∙ c.in_ok-check.was

  long : c.len-length.result ≡ length (encode (view_of c.args.set))
  long = c.len-length.ensures.value ∙ ap length c.record_of-draft.ensures.0

pub returns-in_err-room_for : goal.returns-in_err-room_for
returns-in_err-room_for c =
    let m = (goal.at.returns-in_err-room_for c).After-len-length in
    let out = c.from_residual-in_err-room_for in
    rw (exit_refused out.result out.ensures.1)
    (room_refused (passed m) (long m) (sym c.room_for.ensures ∙ c.in_err-room_for.was))

pub returns : goal.returns
returns c =
    let m = (goal.at.returns c).After-len-length in
    let full : Full c.args.set = record {
      master = search rules;
      red = search rules;
      green = search rules;
      blue = search rules;
    } in
    wrote_done (passed m) (long m) (has_room _ _ (sym c.room_for.ensures ∙ c.in_ok-room_for.was))
    (rw (c.copy_from_slice.ensures.after, c.as_slice.ensures.value, c.record_of-draft.ensures.0))
    (record { full = full; kind = c.record_of-draft.ensures.1 })
