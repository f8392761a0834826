-- Texts by example: refusals of one digit and of two, the digits next to letters, the entry that
-- ends a line, and the number of bytes that are read.
use Rattle.std.specs.Prelude.{◌≡◌, refl, [], ◌∷◌}
use Rattle.text.specs.Text.{
  hexadecimal,
  behind,
  space,
  newline,
  number_text,
  refusal_text,
  input_bytes,
}

-- "refused 7" and the end of the line
pub refused_7 : refusal_text 7 ≡ 0x72 ∷ 0x65 ∷ 0x66 ∷ 0x75 ∷ 0x73 ∷ 0x65 ∷ 0x64 ∷ 0x20 ∷ 0x37 ∷ 0x0a
    ∷ []
refused_7 = refl

pub nine : number_text 9 ≡ 0x39 ∷ []
nine = refl

pub ten : number_text 10 ≡ 0x31 ∷ 0x30 ∷ []
ten = refl

pub nineteen : number_text 19 ≡ 0x31 ∷ 0x39 ∷ []
nineteen = refl

pub twenty : number_text 20 ≡ 0x32 ∷ 0x30 ∷ []
twenty = refl

pub ninety_nine : number_text 99 ≡ 0x39 ∷ 0x39 ∷ []
ninety_nine = refl

-- 9, A and F
pub digit_9 : hexadecimal 9 ≡ 0x39
digit_9 = refl

pub digit_a : hexadecimal 10 ≡ 0x41
digit_a = refl

pub digit_f : hexadecimal 15 ≡ 0x46
digit_f = refl

-- the last entry of a line and the first of the next
pub entry_15 : behind 15 ≡ newline
entry_15 = refl

pub entry_16 : behind 16 ≡ space
entry_16 = refl

pub input_bytes_lem : input_bytes ≡ 523
input_bytes_lem = refl
