-- The knots of a list, and its exact broken line, as document 01's section "Points"
-- has them. Definitions only.
use Rattle.std.specs.Prelude.{ℕ, suc, ◌+◌, ◌-◌, ◌*◌, ◌≤◌, ◌<◌, min, ◌≡◌, Bool, cond, List, [], ◌∷◌, eqb, length, get_or, replicate, Float}
use Rattle.std.specs.Float.{nan}
use Rattle.std.specs.Float.Ieee.{lt}
use Rattle.lists.specs.Tabulate.{filled}
use Rattle.floats.specs.Notation.{◌⊖◌, ◌⊘◌}
use Rattle.floats.specs.Value.{absolute}
use Rattle.single.specs.Constants.{𝟎, 𝟐𝟓𝟔, micro}
use Rattle.single.specs.Rules.{float}
use Rattle.points.specs.declared.Point.{Point}
use Rattle.points.specs.declared.Knot.{Knot}
use Rattle.points.specs.declared.knot_rows.Knots.{Knots}
use Rattle.points.specs.Points.{pt, nth, kept}

-- ---- the knots
-- what is behind p, followed by the points of l: these, and if the last is not at 255,
-- one at 255 with the last y
unfoldable pub rest : Point → List Point → List Point
rest p [] = cond (eqb p.x 255) [] (pt 255 p.y ∷ [])
rest p (q ∷ l) = q ∷ rest q l

-- "Knots": in front, if none is at 0, one at 0 with the first y; an empty list gives (0,0),(255,0)
unfoldable pub knots : List Point → List Point
unfolding rest
knots [] = pt 0 0 ∷ pt 255 0 ∷ []
knots (p ∷ l) = cond (eqb p.x 0) (p ∷ rest p l) (pt 0 p.y ∷ p ∷ rest p l)

-- x and y of knot i
abbrev pub x_of : List Point → ℕ → ℕ
x_of ks i = (nth ks i).x

abbrev pub y_of : List Point → ℕ → ℕ
y_of ks i = (nth ks i).y

-- ---- as floats
-- a height "as a float", in this one place: "that number over 256"
abbrev pub height_of : ℕ → Float
height_of y = float y ⊘ 𝟐𝟓𝟔

-- in rows of 66 with zeros behind
unfoldable pub x_at : List Point → ℕ → Float
x_at ks i = float (x_of ks i)

unfoldable pub y_at : List Point → ℕ → Float
y_at ks i = height_of (y_of ks i)

unfoldable pub x_row : List Point → List Float
unfolding x_at filled
x_row ks = filled (length ks) (x_at ks) (replicate 66 𝟎)

unfoldable pub y_row : List Point → List Float
unfolding y_at filled
y_row ks = filled (length ks) (y_at ks) (replicate 66 𝟎)

-- what is at place i of a row
abbrev pub at : List Float → ℕ → Float
at row i = get_or row i nan

-- knot i of two rows
abbrev pub knot_at : List Float → List Float → ℕ → Knot
knot_at xs ys i = record { x = at xs i; y = at ys i }

-- the knot before knot i and the one after it, of n: "a missing neighbour replaced by the knot"
abbrev pub before : ℕ → ℕ
before i = i - 1

abbrev pub after : ℕ → ℕ → ℕ
after n i = min (i + 1) (n - 1)

-- whether a segment, with its knots at l and r, is too thin to divide by its
-- width: thinner than 1e-6
abbrev pub too_thin : Float → Float → Bool
too_thin l r = lt (absolute (r ⊖ l)) micro

-- r holds the knots ks
pub record KnotsOf (ks : List Point) (r : Knots) : Type 0 where
  pub xs : r.xs ≡ x_row ks
  pub ys : r.ys ≡ y_row ks
  pub count : r.count ≡ length ks

-- ---- the exact broken line
-- the knots of a given list: those of its kept points
abbrev pub given_knots : List Point → List Point
given_knots l = knots (kept l)

-- "The exact broken line of a list joins its knots in order of x": that of l at the position p / c
-- is n / d, in levels
pub record LineAt (l : List Point) (p c n d : ℕ) : Type 0 where
  -- a position is a fraction
  pub divisor : 0 < c
  -- neighbouring knots i and i + 1 ..
  pub i : ℕ
  pub inside : suc i < length (given_knots l)
  -- .. with p / c between their x, ends included
  pub left : x_of (given_knots l) i * c ≤ p
  pub right : p ≤ x_of (given_knots l) (suc i) * c
  -- the heights are 256ths
  pub width : d ≡ (x_of (given_knots l) (suc i) - x_of (given_knots l) i) * c * 256
  -- n = y0 * (x1 - x0) * c + (y1 - y0) * (p - x0 * c)
  pub height : n + y_of (given_knots l) i * (p - x_of (given_knots l) i * c)
      ≡ y_of (given_knots l) i * ((x_of (given_knots l) (suc i) - x_of (given_knots l) i) * c)
      + y_of (given_knots l) (suc i) * (p - x_of (given_knots l) i * c)

-- the same at a byte
abbrev pub OnLine : List Point → ℕ → ℕ → ℕ → Type 0
OnLine l v n d = LineAt l v 1 n d
