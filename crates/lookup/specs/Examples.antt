-- Calls of the lookup where a slip would show, computed: a flat table, what is clamped to either
-- end, the weights of the two entries, and tables that are an entry short or long.
use Rattle.std.specs.Prelude.{◌≡◌, refl, true, false, cond, [], ◌∷◌, ℕ, eqb, replicate, Float, Err}
use Rattle.std.specs.Float.{nan, inf, binary32}
use Rattle.std.specs.Float.Ieee.{lt, le, add, sub, mul, div, of_int, of_bits}
use Rattle.lists.specs.Tabulate.{tabulate}
use Rattle.answers.specs.declared.Refusal.TheVariants.{TableLength}
use Rattle.answers.specs.Checks.{first_refusal}
use Rattle.single.specs.Constants.{𝟎, ½, 𝟏, 𝟐, 𝟐𝟓𝟓}
use Rattle.single.specs.Rules.{floor_of}
use Rattle.single.specs.Examples.{−𝟎}
use Rattle.lookup.specs.Lookup.{
  clamped_unit,
  position,
  blended,
  looked,
  lookup_checks,
  looked_up,
}
use Rattle.answers.specs.Numbers.{done}

-- a table of nothing but 255 gives 1 at both zeros, within, at the end, for
-- NaN and for the infinities
pub flat : looked_up (replicate 4096 𝟐𝟓𝟓) (𝟎 ∷ −𝟎 ∷ ½ ∷ 𝟏 ∷ nan ∷ inf true ∷ inf false ∷ [])
    ≡ replicate 7 𝟏
unfolding looked_up tabulate looked blended position clamped_unit floor_of lt le add sub mul div of_int
    of_bits
flat = refl

-- 255 at one place and 0 elsewhere
abbrev spike_at : ℕ → ℕ → Float
spike_at place i = cond (eqb i place) 𝟐𝟓𝟓 𝟎

abbrev −½ : Float
−½ = of_bits binary32 0xbf00_0000

-- "A value is clamped to 0..1, NaN gives 0": entry 0 is the result of both zeros, of what is below
-- 0 and of NaN, and of no other value here
pub first_entry :
    looked_up (tabulate 4096 (spike_at 0)) (𝟎 ∷ −𝟎 ∷ −½ ∷ inf true ∷ nan ∷ ½ ∷ 𝟏 ∷ 𝟐 ∷ inf false ∷ [])
    ≡ 𝟏 ∷ 𝟏 ∷ 𝟏 ∷ 𝟏 ∷ 𝟏 ∷ 𝟎 ∷ 𝟎 ∷ 𝟎 ∷ 𝟎 ∷ []
unfolding looked_up tabulate looked blended position clamped_unit floor_of lt le add sub mul div of_int
    of_bits
first_entry = refl

-- "times 4,095 is the position; i its floor, at most 4,094": entry 4,095 is the result of 1 and of
-- what is above it, and of no other value here
pub last_entry :
    looked_up (tabulate 4096 (spike_at 4095)) (𝟏 ∷ 𝟐 ∷ inf false ∷ ½ ∷ 𝟎 ∷ inf true ∷ nan ∷ [])
    ≡ 𝟏 ∷ 𝟏 ∷ 𝟏 ∷ 𝟎 ∷ 𝟎 ∷ 𝟎 ∷ 𝟎 ∷ []
unfolding looked_up tabulate looked blended position clamped_unit floor_of lt le add sub mul div of_int
    of_bits
last_entry = refl

-- At a quarter the position is 1,023¾: three parts of entry 1,024 and one of the entry before it.
abbrev ¼ : Float
¼ = of_bits binary32 0x3e80_0000

abbrev ¾ : Float
¾ = of_bits binary32 0x3f40_0000

pub weights : looked_up (tabulate 4096 (spike_at 1024)) (¼ ∷ []) ≡ ¾ ∷ []
unfolding looked_up tabulate looked blended position clamped_unit floor_of lt le add sub mul div of_int
    of_bits
weights = refl

-- 14: "A float table's length isn't .. 4,096 (lookup)"; 256 is a length of a build only
pub length_refused : (first_refusal (lookup_checks 4096) ≡ done)
    × (first_refusal (lookup_checks 4095) ≡ Err TableLength)
    × (first_refusal (lookup_checks 4097) ≡ Err TableLength)
    × (first_refusal (lookup_checks 256) ≡ Err TableLength)
length_refused = (refl, refl, refl, refl)

-- "lent memory is unchanged"
pub short : looked_up (replicate 4095 𝟐𝟓𝟓) (½ ∷ nan ∷ []) ≡ ½ ∷ nan ∷ []
unfolding looked_up
short = refl

pub long : looked_up (replicate 4097 𝟐𝟓𝟓) (½ ∷ nan ∷ []) ≡ ½ ∷ nan ∷ []
unfolding looked_up
long = refl
