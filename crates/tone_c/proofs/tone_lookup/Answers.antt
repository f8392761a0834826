-- `tone_lookup`: the lookup's answer as its number.
use Rattle.std.proofs.Common.{ap, ◌∙◌}
use Rattle.answers.specs.Numbers.{number_of}
use Rattle.tone_c.proofs.tone_lookup.Goals as goal

pub returns : goal.returns
returns c =
    let call = c.lookup.ensures in
    record { number = c.number_of.ensures ∙ ap number_of call.answer; values = call.values }
