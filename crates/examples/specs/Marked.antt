-- Document 01's "Marked examples to prove (P)", in its order, each with its line above it, from the
-- definitions that the contracts cite: whole tables where the example speaks of all entries, the
-- paper's numbers where it names a refusal. P11 is as document 02 changed it, and P8 also as the
-- product that document 02 asks for.
use Rattle.std.specs.Prelude.{ℕ, ◌≡◌, refl, List, [], ◌∷◌, pos, negsuc, replicate}
use Rattle.std.specs.Float.{binary32}
use Rattle.std.specs.Float.Ieee.{mul, div, of_int, of_bits, to_bits}
use Rattle.lists.specs.Tabulate.{tabulate}
use Rattle.floats.specs.Notation.{◌⊗◌}
use Rattle.answers.specs.Numbers.{number_of, done}
use Rattle.single.specs.Constants.{𝟏/𝟐𝟓𝟔, 𝟐}
use Rattle.single.specs.Root.{root_of}
use Rattle.points.specs.Points.{at_level, straight_curve}
use Rattle.spline.specs.Segments.{slope_of}
use Rattle.tables.specs.declared.CurveInterpolation.TheVariants.{
  Linear,
  MonotoneCubicBox,
  NaturalCubic,
  Cardinal,
  ClampedCubic,
}
use Rattle.tables.specs.Tables.{entry_of, byte_table}
use Rattle.sets.specs.Sets.{master_only, with_kind}
use Rattle.records.specs.Format.{read_record}
use Rattle.formats.specs.declared.PixelFormat.TheVariants.{Gray8}
use Rattle.formats.specs.Checks.{lut_answer}
use Rattle.pictures.specs.Runs.{answer}
use Rattle.sets.specs.Examples.{line}
use Rattle.pictures.specs.Examples.{run, answered, lut_answered}
use Rattle.examples.specs.Computed as Computed

-- "P1 empty, Linear: all 0."
pub P1 : byte_table Linear [] ≡ replicate 256 0
unfolding Computed.entry
P1 = refl

-- "P2 (128,200), Linear: all 200."
pub P2 : byte_table Linear (at_level 128 200 ∷ []) ≡ replicate 256 200
unfolding Computed.entry
P2 = refl

-- "P3 (10,5),(10,9),(0,0), Linear: entry 10 is 5."
pub P3 : entry_of Linear (at_level 10 5 ∷ at_level 10 9 ∷ at_level 0 0 ∷ []) 10 ≡ 5
unfolding Computed.entry
P3 = refl

-- "P4 (0,0),(2,1), Linear: entry 1 is 1."
pub P4 : entry_of Linear (at_level 0 0 ∷ at_level 2 1 ∷ []) 1 ≡ 1
unfolding Computed.entry
P4 = refl

-- "P5 straight curve, Natural: entry v is v."
pub P5 : byte_table NaturalCubic straight_curve ≡ tabulate 256 (λ v. v)
unfolding Computed.entry
P5 = refl

-- "P6 straight, Cardinal q = 255: entry 51 is 27."
pub P6 : entry_of (Cardinal 255) straight_curve 51 ≡ 27
unfolding Computed.entry
P6 = refl

-- "P7 straight, Clamped 256, 256: entry v is v."
pub P7 : byte_table (ClampedCubic (pos 256) (pos 256)) straight_curve ≡ tabulate 256 (λ v. v)
unfolding Computed.entry
P7 = refl

-- "P8 slope −32,768 is −128.0." In ℤ the number −(n + 1) is negsuc n.
pub P8 : slope_of (negsuc 32767) ≡ of_int binary32 (negsuc 127)
unfolding slope_of div of_int of_bits
P8 = refl

pub P8-product : of_int binary32 (negsuc 32767) ⊗ 𝟏/𝟐𝟓𝟔 ≡ of_int binary32 (negsuc 127)
unfolding mul of_int of_bits
P8-product = refl

-- "P9 root of 2.0 has bits 0x3FB504F3."
pub P9 : to_bits binary32 (root_of 𝟐) ≡ 0x3FB5_04F3
unfolding root_of of_bits to_bits
P9 = refl

-- "P10 record (hexadecimal) 11 02 00 00 FF FF 00: straight master, Linear; .."
pub P10 : read_record (0x11 ∷ 0x02 ∷ 0x00 ∷ 0x00 ∷ 0xFF ∷ 0xFF ∷ 0x00 ∷ [])
    ≡ record { answer = done; set = with_kind Linear (master_only straight_curve) }
unfolding Computed.read
P10 = refl

-- ".. with one byte more, 7." Whatever the byte
pub P10-longer : (b : ℕ)
    → number_of (read_record (0x11 ∷ 0x02 ∷ 0x00 ∷ 0x00 ∷ 0xFF ∷ 0xFF ∷ 0x00 ∷ b ∷ [])).answer ≡ 7
unfolding Computed.read
P10-longer b = refl

-- "P11 map 0x80": it "becomes an accepted empty set", of kind 3 ..
pub P11 : read_record (0x80 ∷ [])
    ≡ record { answer = done; set = with_kind MonotoneCubicBox (master_only []) }
unfolding Computed.read
P11 = refl

-- .. and with one byte more, 7. Whatever the byte, and whatever follows it
pub P11-longer : (b : ℕ) (s : List ℕ) → number_of (read_record (0x80 ∷ b ∷ s)).answer ≡ 7
unfolding Computed.read
P11-longer b s = refl

-- "P12 one row of 4 bytes, width 4, Gray8, step 3: 11; step 4 passes." In the one-table call ..
pub P12 : number_of (lut_answer Gray8 4 1 3 4) ≡ 11
unfolding lut_answered
P12 = refl

pub P12-passes : number_of (lut_answer Gray8 4 1 4 4) ≡ 0
unfolding lut_answered
P12-passes = refl

-- .. and in the set call, by the straight curve: width 4, one row, one plane, the
-- step, 4 bytes, and room for 4
pub P12-set : number_of (answer (run line Gray8 4 1 1 3 4 4 0)) ≡ 11
unfolding answered
P12-set = refl

pub P12-set-passes : number_of (answer (run line Gray8 4 1 1 4 4 4 0)) ≡ 0
unfolding answered
P12-set-passes = refl
