-- How the code goes through the samples of a curve: where the pieces end, blocks of four samples,
-- and what holds on the way. Definitions only.
use Rattle.std.specs.Prelude.{ℕ, ◌+◌, ◌-◌, ◌≤◌, ◌<◌, max, ◌≡◌, Bool, true, false, cond, not, ◌&&◌, List, ltb, length, get_or, replicate, Float}
use Rattle.std.specs.Float.{nan}
use Rattle.std.specs.Float.Ieee.{lt}
use Rattle.floats.specs.Notation.{◌⊘◌}
use Rattle.lists.specs.Tabulate.{tabulate}
use Rattle.lists.specs.Stored.{Stored}
use Rattle.single.specs.Rules.{clamped, floor_of}
use Rattle.points.specs.declared.Knot.{Knot}
use Rattle.points.specs.Knots.{at, knot_at, too_thin}
use Rattle.segments.specs.Segments.{step, sample_at, seek, segment}
use Rattle.segments.specs.Straight.{part, straight}
use Rattle.hermite.specs.Hermite.{hermite}
use Rattle.spline.specs.Segments.{first_coefficient, third_coefficient, polynomial_from}
use Rattle.sampling.specs.declared.Form.{Form}
use Rattle.points.specs.declared.Piece.{Piece}
use Rattle.sampling.specs.declared.Pieces.{Pieces}
use Rattle.sampling.specs.declared.blocks.Cursor.{Cursor}
use Rattle.sampling.specs.Pieces.{piece_at, piece_height, height_at, sampled}

-- ---- where the pieces end, s being the step
-- whether sample e is the first past x
abbrev pub is_end : Float → Float → ℕ → Bool
is_end x s e = lt x (sample_at s e) && not (lt x (sample_at s (e - 1)))

-- the first sample past the right knot of the piece i, as a quotient gives it
unfoldable pub end_at : List Float → Float → ℕ → ℕ
end_at xs s i = floor_of (at xs (i + 1) ⊘ s) + 1

-- the quotients are right, and no segment is too thin
pub record Right (xs : List Float) (n : ℕ) (s : Float) : Type 0 where
  pub wide : (i : ℕ) → i + 1 < n → too_thin (at xs i) (at xs (i + 1)) ≡ false
  pub end : (i : ℕ) → i + 2 < n → is_end (at xs (i + 1)) s (end_at xs s i) ≡ true

-- what a guess at the ends of the pieces between n knots leaves in a row,
-- and what its answer r tells
pub record Guessed (xs : List Float) (n : ℕ) (s : Float) (r : Bool) (old new : List ℕ) :
    Type 0 where
  pub row : Stored (end_at xs s) 0 (n - 2) old new
  pub right : r ≡ true → Right xs n s

-- what blocks of S samples go by; the last piece has no end, and 8192 is past every sample
pub record Ends (xs : List Float) (n : ℕ) (ends : List ℕ) (s : Float) (S : ℕ) : Type 0 where
  pub two : 2 ≤ n
  pub most : n ≤ 66
  pub some : 2 ≤ S
  pub held : S ≤ 4096
  pub step_is : s ≡ step S
  pub row : Stored (end_at xs s) 0 (n - 2) (replicate 66 8192) ends
  pub right : Right xs n s

-- ---- blocks
-- the cursor after the block at p
unfoldable pub next_cursor : List ℕ → Cursor → Cursor
next_cursor ends p =
    let e = get_or ends p.i 0 in
    cond (ltb (p.v + 4) e) (record { v = p.v + 4; i = p.i })
    (record { v = max p.v e; i = p.i + 1 })

-- the parts of a piece left of the four samples from v on
unfoldable pub part_from : Piece → Float → ℕ → ℕ → Float
part_from piece s v j = part piece.a piece.b (sample_at s (v + j))

unfoldable pub parts_of : Piece → Float → ℕ → List Float
parts_of piece s v = tabulate 4 (part_from piece s v)

-- the sample at the part t
abbrev pub straight_sample : Piece → Float → Float
straight_sample piece t = clamped (straight piece.a piece.b t)

abbrev pub cubic_sample : Piece → Float → Float
cubic_sample piece t = clamped (hermite piece.a piece.b piece.p piece.q t)

-- the coefficients of the spline's piece i
unfoldable pub first_coefficient_at : List Float → List Float → List Float → ℕ → Float
first_coefficient_at xs ys ms i =
    first_coefficient (knot_at xs ys i) (knot_at xs ys (i + 1)) (at ms i) (at ms (i + 1))

unfoldable pub third_coefficient_at : List Float → List Float → List Float → ℕ → Float
third_coefficient_at xs ys ms i =
    third_coefficient (knot_at xs ys i) (knot_at xs ys (i + 1)) (at ms i) (at ms (i + 1))

-- sample v, s being the step, of the piece from the knot a on with these coefficients
unfoldable pub spline_sample : Knot → Float → Float → Float → Float → ℕ → Float
spline_sample a c1 c2 c3 s v = clamped (polynomial_from a c1 c2 c3 (sample_at s v))

-- ---- on the way
-- sample v, where the step is s, on the piece
unfoldable pub piece_sample : Form → Piece → Float → ℕ → Float
piece_sample form piece s v = clamped (piece_height form piece (sample_at s v))

-- with the cursor p among S samples: those before it are the curve's, and no later
-- one lies left of its piece
pub record State (form : Form) (xs ys ms : List Float) (n S : ℕ) (p : Cursor)
    (samples : List Float) : Type 0 where
  pub long : length samples ≡ S
  pub room : p.i + 1 < n
  pub done : (w : ℕ) → w < p.v → w < S
      → get_or samples w nan ≡ sampled (height_at form xs ys ms n) S w
  pub ahead : (w : ℕ) → p.v ≤ w → w < S
      → segment xs n (sample_at (step S) w) ≡ seek xs (sample_at (step S) w) (n - 2 - p.i) p.i

-- ---- of the pieces that the code is lent
-- the piece i, the curve, and the words above
abbrev pub piece_of : Pieces → ℕ → Piece
piece_of c i = piece_at c.knots.now.xs c.knots.now.ys c.values.now i

abbrev pub curve_of : Form → Pieces → Float → Float
curve_of form c = height_at form c.knots.now.xs c.knots.now.ys c.values.now c.knots.now.count

abbrev pub EndsOf : Pieces → List ℕ → Float → ℕ → Type 0
EndsOf c ends s S = Ends c.knots.now.xs c.knots.now.count ends s S

abbrev pub StateOf : Form → Pieces → ℕ → Cursor → List Float → Type 0
StateOf form c S p samples =
    State form c.knots.now.xs c.knots.now.ys c.values.now c.knots.now.count S p samples

-- the coefficients of the piece i
abbrev pub first_of : Pieces → ℕ → Float
first_of c = first_coefficient_at c.knots.now.xs c.knots.now.ys c.values.now

abbrev pub third_of : Pieces → ℕ → Float
third_of c = third_coefficient_at c.knots.now.xs c.knots.now.ys c.values.now
