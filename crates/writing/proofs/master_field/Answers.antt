-- `master_field`: a list is empty where its count is 0.
use Rattle.std.proofs.Common.{rules}
use Rattle.points.specs.Joined.{places_long}
use Rattle.writing.proofs.Laws.{master_channel, master_passes}
use Rattle.writing.proofs.master_field.Goals as goal

pub returns : goal.returns
returns c =
    let m = c.args.curve in
    let long = places_long m (search rules) in
    (master_channel m long c.requires, master_passes m _ c.requires)
