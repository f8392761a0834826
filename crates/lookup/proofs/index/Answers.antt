-- `lookup::index` meets its contract: a floor of at most 4,094 fits 16 bits.
use Rattle.std.proofs.Common.{ap, ◌∙◌, arith}
use Rattle.single.specs.Rules.{floor_of}
use Rattle.single.specs.ByteLaws.{floor_small}
use Rattle.lookup.proofs.index.Goals as goal

pub overflow_cast-result : goal.overflow_cast-result
overflow_cast-result c = omega (arith, floor_small c.position.result)

pub returns : goal.returns
returns c = c.index.ensures ∙ ap floor_of c.position.ensures
