-- `read_colour` meets its contract, whichever colour it is.
use Rattle.records.proofs.read_colour.Goals as goal

pub returns : goal.returns
returns c =
    let is = rw c.colour_bit.ensures.0 at c.has_bit-present.ensures in
    let field = c.in_ok-curve.ensures in
    record { mark = is; list = rw is at field.list; legal = field.legal }
