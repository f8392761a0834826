-- `map_byte`: a sum of marks of the weights 1 to 16, of twice 32 at most, and of 128.
use Rattle.std.proofs.Common.{◌≤◌, arith}
use Rattle.writing.specs.Map.{carried_small}
use Rattle.writing.proofs.Laws.{there_channel, map_sum}
use Rattle.writing.proofs.map_byte.Goals.{After-kind_bits}
use Rattle.writing.proofs.map_byte.Goals as goal

few : (c : After-kind_bits) → c.kind_bits.result ≤ 2
few c = rw c.kind_bits.ensures (carried_small c.number.result)

pub overflow_mul-result : goal.overflow_mul-result
overflow_mul-result c = omega (arith, few (goal.at.overflow_mul-result c).After-kind_bits)

pub overflow_add-result-5 : goal.overflow_add-result-5
overflow_add-result-5 c = omega (arith, few (goal.at.overflow_add-result-5 c).After-kind_bits)

pub overflow_add-result-6 : goal.overflow_add-result-6
overflow_add-result-6 c = omega (arith, few (goal.at.overflow_add-result-6 c).After-kind_bits)

pub returns : goal.returns
returns c =
    let master = c.args.master.now in
    let set = c.args.set.now in
    rw (
      c.mark-5.ensures.0,
      c.mark-4.ensures.0,
      c.mark-3.ensures.0,
      c.mark-2.ensures.0,
      c.mark.ensures.0,
      c.names_kind.ensures,
      c.kind_bits.ensures,
      c.number.ensures,
      ← there_channel master,
      ← there_channel set.red,
      ← there_channel set.green,
      ← there_channel set.blue,
    )
    (map_sum master.present set.red.present set.green.present set.blue.present _ _)
