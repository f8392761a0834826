-- `text_of_input`: as many bytes as there are, and no more than the array has.
use Rattle.std.proofs.Common.{◌≡◌, ap, ◌∙◌, length, rules}
use Rattle.text.specs.Text.{input_bytes, printed}
use Rattle.text.proofs.Laws.{take_min, printed_fits}
use Rattle.text.proofs.text_of_input.Goals as goal

pub returns : goal.returns
returns c =
    let args = c.args in
    let long : length args.input ≡ input_bytes = search rules in
    record {
      room = long;
      text = c.text_of.ensures ∙ ap printed (rw c.min.ensures (take_min args.n input_bytes args.input long));
      length = c.text_of.result.fits;
      fits = rw c.text_of.ensures (printed_fits _);
    }
