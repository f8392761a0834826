-- The fine lookup in a table of 4,096 samples, as document 01's section "Fine lookup"
-- has it. Definitions only.
use Rattle.std.specs.Prelude.{ℕ, ◌+◌, ◌≡◌, cond, not, List, [], ◌∷◌, eqb, get_or, length, Float}
use Rattle.std.specs.Float.{nan}
use Rattle.std.specs.Float.Ieee.{lt, le}
use Rattle.lists.specs.Tabulate.{tabulate}
use Rattle.answers.specs.declared.Refusal.TheVariants.{TableLength}
use Rattle.answers.specs.Numbers.{is_done, Answer}
use Rattle.answers.specs.Checks.{Check, ◌when◌, first_refusal, fine_table_length}
use Rattle.floats.specs.Notation.{◌⊕◌, ◌⊖◌, ◌⊗◌, ◌⊘◌}
use Rattle.single.specs.Constants.{𝟎, 𝟏, 𝟐𝟓𝟓, 𝟒𝟎𝟗𝟓}
use Rattle.single.specs.Rules.{float, floor_of}

-- "A value is clamped to 0..1, NaN gives 0": −0 stays
unfoldable pub clamped_unit : Float → Float
clamped_unit v = cond (lt 𝟏 v) 𝟏 (cond (le 𝟎 v) v 𝟎)

-- "times 4,095 is the position"
unfoldable pub position : Float → Float
position v = clamped_unit v ⊗ 𝟒𝟎𝟗𝟓

-- "i its floor, at most 4,094; f the rest; the result is (T[i] × (1 − f) + T[i+1] × f) / 255": T is
-- the table, p the position
unfoldable pub blended : List Float → Float → Float
blended table p =
    let i = floor_of p in
    let f = p ⊖ float i in
    (get_or table i nan ⊗ (𝟏 ⊖ f) ⊕ get_or table (i + 1) nan ⊗ f) ⊘ 𝟐𝟓𝟓

-- what replaces the value at place k
unfoldable pub looked : List Float → List Float → ℕ → Float
looked table values k = blended table (position (get_or values k nan))

-- the index, i, of the value j places after the place at
unfoldable pub index_from : List Float → ℕ → ℕ → ℕ
index_from values at j = floor_of (position (get_or values (at + j) nan))

-- the checks of the lookup in a table of S samples: 14, "A float table's length
-- isn't .. 4,096 (lookup)"
abbrev pub lookup_checks : ℕ → List Check
lookup_checks S = TableLength when not (eqb S fine_table_length) ∷ []

-- the values after the call: "Each lent value is replaced by its result",
-- unless the table is refused
unfoldable pub looked_up : List Float → List Float → List Float
looked_up table values =
    cond (is_done (first_refusal (lookup_checks (length table))))
    (tabulate (length values) (looked table values)) values

-- the call: its answer, and the values after it
pub record LookupCall (table old : List Float) (r : Answer) (new : List Float) : Type 0 where
  pub answer : r ≡ first_refusal (lookup_checks (length table))
  pub values : new ≡ looked_up table old
