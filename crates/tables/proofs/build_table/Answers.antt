-- `tables::build_table`: what the list owns, its samples are drawn of.
use Rattle.std.proofs.Common.{rules}
use Rattle.points.specs.Joined.{FullRows, typed_rows}
use Rattle.tables.proofs.build_table.Goals as goal

pub sample_curve-requires-clause-rows : goal.sample_curve-requires-clause-rows
sample_curve-requires-clause-rows c =
    let given = c.args.curve in
    let full : FullRows given = search rules in
    typed_rows given full (λ i. search rules) (λ i. search rules)
