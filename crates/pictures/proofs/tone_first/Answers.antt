-- `tone_first`: the kernel is given the table of each channel.
use Rattle.sets.specs.Sets.{view_of}
use Rattle.formats.specs.FormatLaws.{tight}
use Rattle.pictures.proofs.Kernels.{chosen_is, tight_rows_by}
use Rattle.pictures.proofs.tone_first.Goals as goal

pub tone_rows_into-requires : goal.tone_rows_into-requires
tone_rows_into-requires c =
    rw c.bytes_a_pixel.ensures
    ((tight c.args.format c.requires.supported).0, c.requires.rows, c.requires.room)

pub returns : goal.returns
returns c =
    let set = c.args.set in
    let built = c.entries_of-master_table.ensures in
    tight_rows_by c.args.format (view_of set) _ _ _ _ _ c.requires.supported c.by_colour-by_colour.ensures
    c.bytes_a_pixel.ensures
    (chosen_is _ set.red _ built c.by_colour-by_colour.result c.own_table-red_table.ensures c.chosen_table.ensures)
    (chosen_is _ set.green _ built c.by_colour-by_colour.result c.own_table-green_table.ensures
    c.chosen_table-2.ensures)
    (chosen_is _ set.blue _ built c.by_colour-by_colour.result c.own_table-blue_table.ensures
    c.chosen_table-3.ensures)
    c.tone_rows_into.ensures
