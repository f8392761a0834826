-- `root_of` meets its contract: what `lowered` ensures makes p the one nearest root.
use Rattle.std.proofs.Common.{ℕ, ◌^◌, ◌<◌, arith}
use Rattle.single.proofs.root.Units.{Wide, scaled, scaled-wide, at_most, root-pattern, no_nan}
use Rattle.single.proofs.root.root_of.Goals.{After-lowered-p, Start}
use Rattle.single.proofs.root.root_of.Goals as goal

abbrev M : Start → ℕ
M c = scaled c.args.a c.args.e

bounds : (c : Start) → Wide (M c)
bounds c = scaled-wide c.args.a c.args.e c.requires.0 c.requires.1

top : (c : After-lowered-p) → c.lowered-p.result < 2 ^ 24
top c =
    at_most (M c.before.before.before) c.lowered-p.result (bounds c.before.before.before) c.lowered-p.ensures.0 c.lowered-p.ensures.1

pub overflow_mul-m-2 : goal.overflow_mul-m-2
overflow_mul-m-2 c = omega (arith, bounds c)

pub guess-requires : goal.guess-requires
guess-requires c = omega (arith, bounds c)

pub raised-requires : goal.raised-requires
raised-requires c = omega (arith, bounds c.before)

pub lowered-p-requires : goal.lowered-p-requires
lowered-p-requires c = omega (arith, bounds c.before.before)

pub overflow_cast-result : goal.overflow_cast-result
overflow_cast-result c = omega (arith, top c)

pub overflow_add-result-2 : goal.overflow_add-result-2
overflow_add-result-2 c = omega (arith, top c)

pub float_from_bits-result : goal.float_from_bits-result
float_from_bits-result c = no_nan _ (omega (arith, top c))

pub returns : goal.returns
returns c =
    root-pattern c.args.a c.args.e c.lowered-p.result (bounds c.before.before.before) c.requires.2 c.lowered-p.ensures.0
    c.lowered-p.ensures.1
