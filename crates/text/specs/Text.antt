-- What the program `tonetable` prints, as document 01's section "Stored record" has it: "16 lines
-- of 16 two-digit upper-case hexadecimal entries, one space between, from entry 0; or one line,
-- `refused ` and the number". Definitions only.
use Rattle.std.specs.Prelude.{
  ℕ,
  zero,
  suc,
  ◌+◌,
  ◌/◌,
  ◌%◌,
  ◌≤◌,
  ◌≡◌,
  cond,
  List,
  [],
  ◌∷◌,
  ◌++◌,
  ltb,
  eqb,
  take,
  get_or,
}
use Rattle.std.proofs.Math.ListN as ListN
use Rattle.lists.specs.Tabulate.{tabulate}
use Rattle.answers.specs.Numbers.{number_of, is_done}
use Rattle.tables.specs.Tables.{byte_table}
use Rattle.records.specs.Format.{longest, read_record}
use Rattle.text.specs.declared.text_bytes.Text as declared

abbrev pub space : ℕ
space = 32

abbrev pub newline : ℕ
newline = 10

-- the digit of a number below 10
abbrev pub decimal : ℕ → ℕ
decimal d = 48 + d

-- the upper-case hexadecimal digit of a number below 16
abbrev pub hexadecimal : ℕ → ℕ
hexadecimal d = cond (ltb d 10) (decimal d) (55 + d)

-- what is behind entry i: a newline at the end of a line
abbrev pub behind : ℕ → ℕ
behind i = cond (eqb (i % 16) 15) newline space

-- the three characters of entry i, which is v: two digits and what is behind them
abbrev pub character : ℕ → ℕ → ℕ → ℕ
character i v zero = hexadecimal (v / 16)
character i v (suc zero) = hexadecimal (v % 16)
character i v (suc (suc j)) = behind i

unfoldable pub character_at : List ℕ → ℕ → ℕ
character_at table k = character (k / 3) (get_or table (k / 3) 0) (k % 3)

-- a table of 256 entries
abbrev pub table_text : List ℕ → List ℕ
table_text table = tabulate 768 (character_at table)

-- a number below 100
abbrev pub number_text : ℕ → List ℕ
number_text n = cond (ltb n 10) (decimal n ∷ []) (decimal (n / 10) ∷ decimal (n % 10) ∷ [])

-- `refused ` and the number
abbrev pub refusal_text : ℕ → List ℕ
refusal_text n = 114 ∷ 101 ∷ 102 ∷ 117 ∷ 115 ∷ 101 ∷ 100 ∷ space ∷ number_text n ++ (newline ∷ [])

-- what is printed for the bytes of a record
unfoldable pub printed : List ℕ → List ℕ
printed s =
    let r = read_record s in
    cond (is_done r.answer) (table_text (byte_table r.set.kind r.set.master))
    (refusal_text (number_of r.answer))

-- a text and its characters
abbrev pub Text : Type 0
Text = declared.Text

abbrev pub text_of : Text → List ℕ
text_of t = take t.length t.bytes

-- how many bytes of an input are read: one more than the longest record has, so that a byte behind
-- a record shows
abbrev pub input_bytes : ℕ
input_bytes = longest + 1

-- the text of an input that was read to the first n bytes of an array
pub record InputText (input : List ℕ) (n : ℕ) (r : Text) : Type 0 where
  pub room : ListN.length input ≡ input_bytes
  pub text : text_of r ≡ printed (take n input)
  pub length : r.length ≤ 768
  pub fits : ListN.length (text_of r) ≤ 768
