-- `rows::tone_block_into` meets its contract: the copy is the original, and then it is toned.
use Rattle.std.proofs.Common.{arith}
use Rattle.rows.proofs.Walk.{copied_each}
use Rattle.rows.proofs.tone_block_into.Goals as goal

pub returns : goal.returns
returns g c =
    copied_each _ c.args.src.now c.args.dst.now (omega arith) c.copy_bytes.ensures
    c.tone_pixels.ensures
