-- `refusal_text`: the word, then one digit or two.
use Rattle.std.proofs.Common.{◌≡◌, ◌%◌, arith, lt-ltb, le-ltb}
use Rattle.text.proofs.refusal_text.Goals.{then-number-ge10, else-number-ge10}
use Rattle.text.proofs.refusal_text.Goals as goal

pub returns : goal.returns
returns c =
    let n = c.args.number in
    let word = rw (c.unwrap.ensures, c.new-text.ensures) at c.try_extend_from_slice.ensures.ok in
    rw (c.of.ensures, c.push-3.ensures.items, c.push-2.ensures.items)
    (elim c.if-number-ge10.branch [
      | then-number-ge10 w ↦
          rw (w.text-is, w.push.ensures.items, word, le-ltb n 10 (omega (arith, w.if-number-ge10.true)))
      | else-number-ge10 w ↦
          let one : n % 10 ≡ n = omega (arith, w.if-number-ge10.false) in
          rw (w.text-is, word, lt-ltb n 10 (omega (arith, w.if-number-ge10.false)), one)
    ])
