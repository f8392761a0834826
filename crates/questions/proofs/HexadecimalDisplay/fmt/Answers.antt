-- `Hexadecimal`: a turn writes the digits of the next byte.
use Rattle.std.proofs.Common.{◌≡◌, [], ◌++◌, ◌+◌, get_or, take, ap, sym, ◌∙◌, rules, false}
use Rattle.std.proofs.Output.{has_written_append, has_written_of_eq}
use Rattle.std.proofs.lemmas.Fmt.{hex_byte}
use Rattle.std.proofs.lemmas.List.{flat_map_more, take_more}
use Rattle.questions.specs.Questions.{two_digits, in_digits}
use Rattle.questions.proofs.HexadecimalDisplay.fmt.Goals as goal

pub loop-byte-preserved : goal.loop-byte-preserved
loop-byte-preserved g c = λ plain.
    let bytes = c.args.self.now.0.now in
    let i = c.loop-byte.byte-index in
    let byte = get_or bytes i 0 in
    let more : in_digits (take i bytes) ++ two_digits byte ≡ in_digits (take (i + 1) bytes) =
    flat_map_more two_digits [] (take i bytes) byte
    ∙ ap in_digits (sym (take_more bytes i 0 (search rules))) in
    has_written_of_eq _ _ _ _ _ more
    (has_written_append _ _ _ _ _ _ (c.loop-byte.invariant plain)
    (has_written_of_eq _ _ _ _ _ (hex_byte false byte (search rules)) (search rules)))
