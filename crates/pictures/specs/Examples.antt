-- Calls where a slip would show, computed from the definitions: what is toned and what stays in
-- each of the twelve formats, and the order of the refusals. Each value is document 01's: the
-- sentence is quoted above it.
use Rattle.std.specs.Prelude.{◌≡◌, refl, false, cond, List, [], ◌∷◌, ℕ, ◌+◌, length, get_or, replicate, Result, Ok, Err}
use Rattle.std.proofs.Common.{ap, arith}
use Rattle.std.specs.Float.Ieee.{add, sub, neg, mul, div, lt, of_int, of_bits}
use Rattle.answers.specs.declared.Refusal.TheVariants.{PointCount, PointsNotRising, HeightRange, UnsupportedFormat, PictureTooLarge, MissingPlane, RowStep, PlaneTooShort, OutputTooSmall}
use Rattle.answers.specs.declared.Refusal.{Refusal}
use Rattle.answers.specs.Numbers.{is_done, answer_of, Answer, done}
use Rattle.lists.specs.Each.{each}
use Rattle.lists.specs.Tabulate.{tabulate, filled}
use Rattle.floats.specs.Value.{absolute}
use Rattle.single.specs.Rules.{clamped, byte_of, guarded_quotient}
use Rattle.points.specs.declared.Curve.{Curve}
use Rattle.points.specs.declared.Point.{Point}
use Rattle.points.specs.Points.{at_level, rises_from, all_allowed, first_at, kept_below, kept}
use Rattle.points.specs.Knots.{rest, knots, x_at, y_at, x_row, y_row}
use Rattle.segments.specs.Segments.{step, sample_at, seek, segment}
use Rattle.segments.specs.Straight.{part, straight}
use Rattle.sampling.specs.Pieces.{piece_height, height_at, sampled}
use Rattle.tables.specs.declared.CurveInterpolation.TheVariants.{Linear}
use Rattle.tables.specs.Tables.{unclamped_at, sample_of, entry_of}
use Rattle.sets.specs.declared.Curves.{Curves}
use Rattle.sets.specs.declared.Channel.{Channel}
use Rattle.sets.specs.Sets.{present_channel, view_of}
use Rattle.sets.specs.Examples.{stored, line, many, falling, high}
use Rattle.rows.specs.Bytes.{toned, row_byte}
use Rattle.rows.specs.Rows.{in_row, plane_byte, tight_byte, needed}
use Rattle.formats.specs.declared.PixelFormat.{PixelFormat}
use Rattle.formats.specs.declared.PixelFormat.TheVariants.{Gray8, Rgb24, Cmyk, Yuv420P}
use Rattle.formats.specs.Checks.{lut_answer}
use Rattle.formats.specs.Examples.{yuv, others}
use Rattle.pictures.specs.declared.Steps.{Steps}
use Rattle.pictures.specs.OneTable.{OneTableCall, toned_within}
use Rattle.pictures.specs.Runs.{
  Outputs,
  Run,
  answer,
  toned_by,
  first,
  chroma,
  handed,
  SetCall,
}

-- the set of this master alone
abbrev absent : Channel
absent = record { present = false; curve = stored [] 0 }

abbrev alone : Curve → Curves
alone c = record { master = c; red = absent; green = absent; blue = absent; interpolation = Linear }

-- a run of w columns and h rows, out of a plane of len bytes, with chroma of 3 bytes each
abbrev pub run : Curve → PixelFormat → ℕ → ℕ → ℕ → ℕ → ℕ → ℕ → ℕ → Run
run master f w h planes step len out outCr = record {
  job = record { set = alone master; format = f; width = w; height = h; planes = planes };
  lent = record {
    plane = record { bytes = replicate len 5; step = step };
    cb = record { bytes = 1 ∷ 2 ∷ 3 ∷ []; step = 7 };
    cr = record { bytes = 4 ∷ 5 ∷ 6 ∷ []; step = 9 };
    outputs = record { first = replicate out 0; cb = replicate 3 0; cr = replicate outCr 0 };
  };
}

-- what an answer opens, named in this one place: a theorem that unfolds `answered` unfolds them too
unfoldable pub answered : Run → Answer
unfolding answer rises_from all_allowed needed
answered = answer

unfoldable pub lut_answered : PixelFormat → ℕ → ℕ → ℕ → ℕ → Answer
unfolding lut_answer needed
lut_answered = lut_answer

-- ---- the one-table call: what it answers
-- "also at height 0"; and without columns no byte is needed
pub no_rows : lut_answer Gray8 4 0 3 0 ≡ Err RowStep
unfolding lut_answered
no_rows = refl

pub no_columns_lem : lut_answer Gray8 0 2 3 0 ≡ done
unfolding lut_answered
no_columns_lem = refl

-- ---- the one-table call on each format, with a table that adds 10: 2 columns and 2 rows, each
-- with its padding; and 3 columns and 1 row, so that width and height are told apart
abbrev pub more : List ℕ
more = tabulate 256 (λ x. x + 10)

-- the bytes from 1 to 18, but for the first two
abbrev first_row : ℕ → ℕ → List ℕ
first_row a b =
    a ∷ b ∷ 3 ∷ 4 ∷ 5 ∷ 6 ∷ 7 ∷ 8 ∷ 9 ∷ 10 ∷ 11 ∷ 12 ∷ 13 ∷ 14 ∷ 15 ∷ 16 ∷ 17 ∷ 18 ∷ []

abbrev pub plane : List ℕ
plane = first_row 1 2

-- what the contract of the call says of it afterwards, by width, height and row step: it does in
-- proofs/ExampleLaws
abbrev pub left : ℕ → ℕ → ℕ → PixelFormat → List ℕ
left w h step f =
    cond (is_done (lut_answer f w h step (length plane))) (toned_within f w h step more plane) plane

-- "The one-table call tones all 12 formats within the plane: alpha of Ya8 and Rgba, chroma and
-- padding unchanged; Cmyk tones all four inks"
abbrev grey_left : List ℕ
grey_left =
    11 ∷ 12 ∷ 3 ∷ 4 ∷ 5 ∷ 6 ∷ 7 ∷ 8 ∷ 9 ∷ 20 ∷ 21 ∷ 12 ∷ 13 ∷ 14 ∷ 15 ∷ 16 ∷ 17 ∷ 18 ∷ []

abbrev grey_alpha_left : List ℕ
grey_alpha_left =
    11 ∷ 2 ∷ 13 ∷ 4 ∷ 5 ∷ 6 ∷ 7 ∷ 8 ∷ 9 ∷ 20 ∷ 11 ∷ 22 ∷ 13 ∷ 14 ∷ 15 ∷ 16 ∷ 17 ∷ 18 ∷ []

abbrev colours_left : List ℕ
colours_left =
    11 ∷ 12 ∷ 13 ∷ 14 ∷ 15 ∷ 16 ∷ 7 ∷ 8 ∷ 9 ∷ 20 ∷ 21 ∷ 22 ∷ 23 ∷ 24 ∷ 25 ∷ 16 ∷ 17 ∷ 18 ∷ []

abbrev colours_alpha_left : List ℕ
colours_alpha_left =
    11 ∷ 12 ∷ 13 ∷ 4 ∷ 15 ∷ 16 ∷ 17 ∷ 8 ∷ 9 ∷ 20 ∷ 21 ∷ 22 ∷ 13 ∷ 24 ∷ 25 ∷ 26 ∷ 17 ∷ 18 ∷ []

abbrev inks_left : List ℕ
inks_left =
    11 ∷ 12 ∷ 13 ∷ 14 ∷ 15 ∷ 16 ∷ 17 ∷ 18 ∷ 9 ∷ 20 ∷ 21 ∷ 22 ∷ 23 ∷ 24 ∷ 25 ∷ 26 ∷ 27 ∷ 18 ∷ []

pub toned_within_lem :
    (others (left 2 2 9)
    ≡ grey_left ∷ grey_alpha_left ∷ colours_left ∷ colours_alpha_left ∷ inks_left ∷ inks_left ∷ [])
    × (yuv (left 2 2 9) ≡ replicate 6 grey_left)
unfolding lut_answered each tabulate plane_byte in_row row_byte toned
toned_within_lem = (refl, refl)

pub one_row_within :
    left 3 1 9 Gray8
    ≡ 11 ∷ 12 ∷ 13 ∷ 4 ∷ 5 ∷ 6 ∷ 7 ∷ 8 ∷ 9 ∷ 10 ∷ 11 ∷ 12 ∷ 13 ∷ 14 ∷ 15 ∷ 16 ∷ 17 ∷ 18 ∷ []
unfolding lut_answered each tabulate plane_byte in_row row_byte toned
one_row_within = refl

-- "lent memory is unchanged": a step of 1 is below the row bytes of each format
pub refused_plane : (others (left 2 2 1) ≡ replicate 6 plane)
    × (yuv (left 2 2 1) ≡ replicate 6 plane)
unfolding lut_answered
refused_plane = (refl, refl)

-- ---- the order of the refusals: each line mends the first fault of the line before it, and has
-- all the later ones still
pub refusals_in_order :
    (answer (run many Cmyk 4097 2 2 3 7 7 2) ≡ Err PointCount)
    × (answer (run falling Cmyk 4097 2 2 3 7 7 2) ≡ Err PointsNotRising)
    × (answer (run high Cmyk 4097 2 2 3 7 7 2) ≡ Err HeightRange)
    × (answer (run line Cmyk 4097 2 2 3 7 7 2) ≡ Err UnsupportedFormat)
    × (answer (run line Yuv420P 4097 2 2 3 7 7 2) ≡ Err PictureTooLarge)
    × (answer (run line Yuv420P 4 2 2 3 7 7 2) ≡ Err MissingPlane)
    × (answer (run line Yuv420P 4 2 3 3 7 7 2) ≡ Err RowStep)
    × (answer (run line Yuv420P 4 2 3 4 7 7 2) ≡ Err PlaneTooShort)
    × (answer (run line Yuv420P 4 2 3 4 8 7 2) ≡ Err OutputTooSmall)
    × (answer (run line Yuv420P 4 2 3 4 8 8 2) ≡ Err OutputTooSmall)
    × (answer (run line Yuv420P 4 2 3 4 8 8 3) ≡ done)
unfolding answered
refusals_in_order = (refl, refl, refl, refl, refl, refl, refl, refl, refl, refl, refl)

-- each chroma plane has an output of its own: a plane of 3 bytes does not fit into 2, though the
-- other of 2 fits
abbrev chroma_run : List ℕ → List ℕ → ℕ → ℕ → Run
chroma_run cb cr outCb outCr = record {
  job = record { set = alone line; format = Yuv420P; width = 1; height = 1; planes = 3 };
  lent = record {
    plane = record { bytes = 5 ∷ []; step = 1 };
    cb = record { bytes = cb; step = 1 };
    cr = record { bytes = cr; step = 1 };
    outputs = record { first = 0 ∷ []; cb = replicate outCb 0; cr = replicate outCr 0 };
  };
}

pub chroma_apart :
    (answer (chroma_run (1 ∷ 2 ∷ 3 ∷ []) (4 ∷ 5 ∷ []) 2 3) ≡ Err OutputTooSmall)
    × (answer (chroma_run (1 ∷ 2 ∷ []) (3 ∷ 4 ∷ 5 ∷ []) 3 2) ≡ Err OutputTooSmall)
    × (answer (chroma_run (1 ∷ 2 ∷ 3 ∷ []) (4 ∷ 5 ∷ []) 3 2) ≡ done)
unfolding answered
chroma_apart = (refl, refl, refl)

-- ---- the set call on each format: its master falls from 255 to 0, so that v gives 255 − v, red is
-- P2's (128,200), "all 200", blue is (128,100), and there is no green; 2 columns and 2 rows, and 3
-- columns and 1 row; the outputs are all 99, and each holds more than is written
-- what an entry opens under Linear
unfoldable entry : List Point → ℕ → ℕ
unfolding entry_of sample_of sampled unclamped_at height_at piece_height kept kept_below first_at knots
    rest x_row y_row x_at y_at filled tabulate step sample_at seek segment part straight guarded_quotient
    absolute clamped byte_of add sub neg mul div lt of_int of_bits
entry = entry_of Linear

abbrev red_and_blue : Curves
red_and_blue = record {
  master = stored (at_level 0 255 ∷ at_level 255 0 ∷ []) 2;
  red = present_channel (stored (at_level 128 200 ∷ []) 1);
  green = absent;
  blue = present_channel (stored (at_level 128 100 ∷ []) 1);
  interpolation = Linear;
}

abbrev picture : ℕ → ℕ → ℕ → PixelFormat → Run
picture w h step f = record {
  job = record { set = red_and_blue; format = f; width = w; height = h; planes = 3 };
  lent = record {
    plane = record { bytes = plane; step = step };
    cb = record { bytes = 1 ∷ 2 ∷ 3 ∷ []; step = 7 };
    cr = record { bytes = 4 ∷ 5 ∷ []; step = 8 };
    outputs = record { first = replicate 17 99; cb = replicate 4 99; cr = replicate 3 99 };
  };
}

-- the steps that are handed back; none beside a refusal
abbrev steps_in : Result Steps Refusal → List ℕ
steps_in (Ok s) = s.step ∷ s.cb_step ∷ s.cr_step ∷ []
steps_in (Err r) = []

-- what the contract of the call says of the outputs afterwards, and of the steps handed back
abbrev written : Run → List (List ℕ)
written r =
    let l = r.lent in
    first r ∷ chroma r l.cb l.outputs.cb ∷ chroma r l.cr l.outputs.cr ∷ steps_in (handed r) ∷ []

pub written_is : (r : Run) (t : Result Steps Refusal) (after : Outputs) → SetCall r t after
    → after.first ∷ after.cb ∷ after.cr ∷ steps_in t ∷ [] ≡ written r
written_is r t after c = rw (c.first, c.cb, c.cr, c.handed)

-- a refusal: "lent memory is unchanged"
abbrev unchanged : List (List ℕ)
unchanged = replicate 17 99 ∷ replicate 4 99 ∷ replicate 3 99 ∷ [] ∷ []

-- "Gray8 and luma by the master", "tight rows", "Output bytes past that are unchanged"
abbrev by_master : List ℕ
by_master = 254 ∷ 253 ∷ 245 ∷ 244 ∷ replicate 13 99

abbrev grey_written : List (List ℕ)
grey_written = by_master ∷ replicate 4 99 ∷ replicate 3 99 ∷ (2 ∷ 0 ∷ 0 ∷ []) ∷ []

-- "for YUV each chroma plane is copied whole, its step handed back"
abbrev yuv_written : List (List ℕ)
yuv_written = by_master ∷ (1 ∷ 2 ∷ 3 ∷ 99 ∷ []) ∷ (4 ∷ 5 ∷ 99 ∷ []) ∷ (2 ∷ 7 ∷ 8 ∷ []) ∷ []

-- "Rgb24 and Rgba by colour, alpha copied"; "Missing colours use the master, not the straight
-- curve"
abbrev colours_written : List (List ℕ)
colours_written =
    (200 ∷ 253 ∷ 100 ∷ 200 ∷ 250 ∷ 100 ∷ 200 ∷ 244 ∷ 100 ∷ 200 ∷ 241 ∷ 100 ∷ replicate 5 99)
    ∷ replicate 4 99 ∷ replicate 3 99 ∷ (6 ∷ 0 ∷ 0 ∷ []) ∷ []

abbrev colours_alpha_written : List (List ℕ)
colours_alpha_written =
    (200 ∷ 253 ∷ 100 ∷ 4 ∷ 200 ∷ 249 ∷ 100 ∷ 8
    ∷ 200 ∷ 244 ∷ 100 ∷ 13 ∷ 200 ∷ 240 ∷ 100 ∷ 17 ∷ 99 ∷ [])
    ∷ replicate 4 99 ∷ replicate 3 99 ∷ (8 ∷ 0 ∷ 0 ∷ []) ∷ []

pub toned_by_set_lem :
    (others (λ f. written (picture 2 2 9 f))
    ≡ grey_written ∷ unchanged ∷ colours_written ∷ colours_alpha_written ∷ unchanged ∷ unchanged ∷ [])
    × (yuv (λ f. written (picture 2 2 9 f)) ≡ replicate 6 yuv_written)
unfolding answered entry first chroma tight_byte row_byte toned
toned_by_set_lem = (refl, refl)

pub one_row_by_set : written (picture 3 1 9 Yuv420P)
    ≡ (254 ∷ 253 ∷ 252 ∷ replicate 14 99) ∷ (1 ∷ 2 ∷ 3 ∷ 99 ∷ []) ∷ (4 ∷ 5 ∷ 99 ∷ [])
    ∷ (3 ∷ 7 ∷ 8 ∷ []) ∷ []
unfolding answered entry first chroma tight_byte row_byte toned
one_row_by_set = refl

-- "In Rgb24 and Rgba the list that tones a byte is its colour's where present; in every other case
-- it is the master's"
pub toning_lists :
    (toned_by Rgb24 (view_of red_and_blue) 0 ≡ at_level 128 200 ∷ [])
    × (toned_by Rgb24 (view_of red_and_blue) 1 ≡ at_level 0 255 ∷ at_level 255 0 ∷ [])
    × (toned_by Rgb24 (view_of red_and_blue) 2 ≡ at_level 128 100 ∷ [])
    × (toned_by Gray8 (view_of red_and_blue) 0 ≡ at_level 0 255 ∷ at_level 255 0 ∷ [])
toning_lists = (refl, refl, refl, refl)

-- a step of 1 is below the row bytes of each format that is not refused before
pub refused_by_set : (others (λ f. written (picture 2 2 1 f)) ≡ replicate 6 unchanged)
    × (yuv (λ f. written (picture 2 2 1 f)) ≡ replicate 6 unchanged)
unfolding answered first chroma
refused_by_set = (refl, refl)

-- ---- "These must not pass": none of these agrees with the contract of a call
-- "a picture call that tones its first row and copies the rest": byte 0 of the second row is copied
pub first_row_within : (a : Answer) → OneTableCall Gray8 2 2 9 more plane a (first_row 11 12) → ⊥
unfolding lut_answered each tabulate plane_byte in_row row_byte toned
first_row_within a c =
    let copied : ◌≡◌ {A = ℕ} 10 20 = ap (λ (l : List ℕ). get_or l 9 0) (rw c.answer at c.plane) in
    omega (arith, copied)

pub first_row_by_set : (t : Result Steps Refusal) (cb cr : List ℕ)
    → SetCall (picture 2 2 9 Gray8) t
    (record { first = 254 ∷ 253 ∷ 10 ∷ 11 ∷ replicate 13 99; cb = cb; cr = cr })
    → ⊥
unfolding answered entry first tight_byte row_byte toned
first_row_by_set t cb cr c =
    let copied : ◌≡◌ {A = ℕ} 10 245 = ap (λ (l : List ℕ). get_or l 2 0) c.first in
    omega (arith, copied)

-- "one that copies the whole picture"
pub copied_within : (a : Answer) → OneTableCall Gray8 2 2 9 more plane a plane → ⊥
unfolding lut_answered each tabulate plane_byte in_row row_byte toned
copied_within a c =
    let copied : ◌≡◌ {A = ℕ} 1 11 = ap (λ (l : List ℕ). get_or l 0 0) (rw c.answer at c.plane) in
    omega (arith, copied)

pub copied_by_set : (t : Result Steps Refusal) (cb cr : List ℕ)
    → SetCall (picture 2 2 9 Gray8) t
    (record { first = 1 ∷ 2 ∷ 10 ∷ 11 ∷ replicate 13 99; cb = cb; cr = cr })
    → ⊥
unfolding answered entry first tight_byte row_byte toned
copied_by_set t cb cr c =
    let copied : ◌≡◌ {A = ℕ} 1 254 = ap (λ (l : List ℕ). get_or l 0 0) c.first in
    omega (arith, copied)

-- "a call that answers 13 on sufficient space, or some number always"
pub not_always_refused : (a : Answer) (new : List ℕ) (t : Result Steps Refusal) (after : Outputs)
    → OneTableCall Gray8 2 2 9 more plane a new → SetCall (picture 2 2 9 Gray8) t after
    → (a ≡ done) × (answer_of t ≡ done)
unfolding answered lut_answered
not_always_refused a new t after c d = (c.answer, ap answer_of d.handed)
