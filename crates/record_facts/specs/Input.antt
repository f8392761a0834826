-- What the program `tonetable` reads of its input is enough: the text of the first 523 bytes is
-- that of the whole input.
use Rattle.std.specs.Prelude.{ℕ, ◌≡◌, List, length, take}
use Rattle.std.proofs.Common.{ap, ◌∙◌, lit<}
use Rattle.text.specs.Text.{printed, Text, text_of, input_bytes, InputText}
use Rattle.record_facts.specs.Longest.{front_tells}

pub input_tells : (s : List ℕ) → printed (take input_bytes s) ≡ printed s
unfolding printed
input_tells s = rw (front_tells s input_bytes (lit< tt))

-- of a run: if the array was filled from the input s as far as both go, the text is that of s
pub input_printed : {input : List ℕ} {n : ℕ} {r : Text} (s : List ℕ) → InputText input n r
    → take n input ≡ take (length input) s → text_of r ≡ printed s
input_printed s run filled =
    run.text ∙ ap printed (filled ∙ ap (λ k. take k s) run.room) ∙ input_tells s
