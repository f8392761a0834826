-- `read_record` meets its contract beside a refusal: the empty set passes the check.
use Rattle.std.proofs.Common.{refl, rules}
use Rattle.records.proofs.Members.{empty_set_passes}
use Rattle.records.proofs.read_record.Goals as goal

pub returns-in-Err : goal.returns-in-Err
returns-in-Err c =
    rw (← c.in-Err.ensures.is)
    (record {
      answer = refl;
      set = c.empty.ensures;
      legal = empty_set_passes c.empty.result (search rules) c.empty.ensures;
      full = search rules;
    })
