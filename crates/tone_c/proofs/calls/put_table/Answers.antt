-- `calls::put_table`: 13, with the output as it was; else the byte table is written.
use Rattle.std.proofs.Common.{◌≡◌, refl, sym, ◌∙◌, rules, length}
use Rattle.answers.proofs.NumberLaws.{exit_refused}
use Rattle.answers.proofs.CheckLaws.{has_room}
use Rattle.tone_c.proofs.calls.put_table.Goals as goal

pub returns-in_err-room_for : goal.returns-in_err-room_for
returns-in_err-room_for c =
    rw (exit_refused c.from_residual.result c.from_residual.ensures.1)
    (record { answer = sym c.in_err-room_for.was ∙ c.room_for.ensures; table = refl })

pub copy_bytes-requires : goal.copy_bytes-requires
copy_bytes-requires c =
    let long : length c.entries_of-bytes.result ≡ 256 = search rules in
    rw long (has_room 256 _ (sym c.room_for.ensures ∙ c.in_ok-room_for.was))

pub returns : goal.returns
returns c =
    let long : length c.entries_of-bytes.result ≡ 256 = search rules in
    record {
      answer = sym c.in_ok-room_for.was ∙ c.room_for.ensures;
      table = rw (long, c.entries_of-bytes.ensures) at c.copy_bytes.ensures;
    }
