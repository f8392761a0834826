-- `Question::bytes`: a turn stores the next byte.
use Rattle.std.proofs.Common.{◌<◌, arith, length, refl, rules}
use Rattle.std.proofs.lemmas.List.{take_more_set}
use Rattle.std.proofs.lemmas.List.FromFn.{map-range_with_len_more}
use Rattle.questions.specs.Questions.{byte_of}
use Rattle.questions.proofs.Question.bytes.Goals as goal

pub loop-i-preserved : goal.loop-i-preserved
loop-i-preserved g c =
    let i = c.loop-i.i in
    let within : i < length c.loop-i.bytes = omega arith in
    let stored = take_more_set c.loop-i.bytes i c.byte.result within in
    let next = map-range_with_len_more (byte_of c.args.self.now.line) c.args.from i _ refl in
    (search rules, cc)
