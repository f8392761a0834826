-- `tables::entries_of`: the bytes of the 256 samples of the fine table.
use Rattle.std.proofs.Common.{ap, ◌∙◌, rules}
use Rattle.std.specs.Float.{nan}
use Rattle.lists.specs.Tabulate.{get_d_tabulate, tabulate_same}
use Rattle.single.specs.Rules.{byte_of}
use Rattle.points.specs.Joined.{FullRows, typed_rows}
use Rattle.tables.specs.Tables.{byte_at, entry_of}
use Rattle.tables.proofs.entries_of.Goals as goal

pub sample_curve-requires-clause-rows : goal.sample_curve-requires-clause-rows
sample_curve-requires-clause-rows c =
    let given = c.args.curve in
    let full : FullRows given = search rules in
    typed_rows given full (λ i. search rules) (λ i. search rules)

pub returns : goal.returns
unfolding byte_at entry_of
returns c =
    let samples = c.sample_curve.ensures in
    c.to_bytes.ensures ∙ tabulate_same 256 (λ v h. ap byte_of (rw samples (get_d_tabulate 256 _ v nan h)))
