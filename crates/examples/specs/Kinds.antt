-- Entries and samples of the ten kinds, computed from the definitions that the contracts cite. A
-- kind's definition and its code are one formula: misread in both, it would still be proved, and
-- give other numbers than these. They are the Rust original's: the test `kinds` of bindings/rust
-- reads this page and asks the original for each of them, and `store` puts the page's lists among
-- those of `replay`. So every statement here has one of three forms, `entries`, `entry_of` or `bits`
-- of a kind, a list and places, and a list is named by a line of its own.
use Rattle.std.specs.Prelude.{ℕ, ◌≡◌, refl, List, [], ◌∷◌, map, pos, negsuc}
use Rattle.std.specs.Float.{binary32}
use Rattle.std.specs.Float.Ieee.{to_bits}
use Rattle.points.specs.declared.Point.{Point}
use Rattle.points.specs.Points.{at_level}
use Rattle.tables.specs.declared.CurveInterpolation.{CurveInterpolation}
use Rattle.tables.specs.declared.CurveInterpolation.TheVariants.{
  Linear,
  CatmullRom,
  MonotoneCubic,
  MonotoneCubicBox,
  NaturalCubic,
  CentripetalCatmullRom,
  ChordalCatmullRom,
  Cardinal,
  ClampedCubic,
  NotAKnotCubic,
}
use Rattle.tables.specs.Tables.{sample_of, entry_of}
use Rattle.examples.specs.Computed as Computed

-- the entries of a byte table at some places
abbrev pub entries : CurveInterpolation → List Point → List ℕ → List ℕ
entries kind l places = map (entry_of kind l) places

-- the bits of sample v of 256
abbrev pub bits : CurveInterpolation → List Point → ℕ → ℕ
bits kind l v = to_bits binary32 (sample_of kind l 256 v)

-- ---- the ten kinds by a steep list, whose last knot is put in at (255,100)
abbrev four_points : List Point
four_points = at_level 0 10 ∷ at_level 64 150 ∷ at_level 70 240 ∷ at_level 128 100 ∷ []

abbrev four_places : List ℕ
four_places = 32 ∷ 69 ∷ 96 ∷ 200 ∷ []

pub linear : entries Linear four_points four_places ≡ 80 ∷ 225 ∷ 177 ∷ 100 ∷ []
unfolding Computed.entry
linear = refl

pub catmull_rom : entries CatmullRom four_points four_places ≡ 71 ∷ 234 ∷ 180 ∷ 90 ∷ []
unfolding Computed.entry
catmull_rom = refl

pub monotone : entries MonotoneCubic four_points four_places ≡ 42 ∷ 234 ∷ 181 ∷ 100 ∷ []
unfolding Computed.entry
monotone = refl

pub box : entries MonotoneCubicBox four_points four_places ≡ 45 ∷ 234 ∷ 181 ∷ 100 ∷ []
unfolding Computed.entry
box = refl

pub natural : entries NaturalCubic four_points four_places ≡ 0 ∷ 226 ∷ 255 ∷ 0 ∷ []
unfolding Computed.entry
natural = refl

pub centripetal : entries CentripetalCatmullRom four_points four_places ≡ 72 ∷ 234 ∷ 186 ∷ 91 ∷ []
unfolding Computed.entry
centripetal = refl

pub chordal : entries ChordalCatmullRom four_points four_places ≡ 71 ∷ 233 ∷ 193 ∷ 91 ∷ []
unfolding Computed.entry
chordal = refl

pub cardinal : entries (Cardinal 100) four_points four_places ≡ 75 ∷ 234 ∷ 180 ∷ 94 ∷ []
unfolding Computed.entry
cardinal = refl

pub clamped : entries (ClampedCubic (pos 512) (negsuc 299)) four_points four_places
    ≡ 0 ∷ 226 ∷ 255 ∷ 25 ∷ []
unfolding Computed.entry
clamped = refl

pub not_a_knot : entries NotAKnotCubic four_points four_places ≡ 0 ∷ 227 ∷ 255 ∷ 0 ∷ []
unfolding Computed.entry
not_a_knot = refl

-- ---- the ten kinds by a list with points at both ends
-- At these places every term of a row of the splines' systems, of both not-a-knot rows, of the rows
-- of a clamped curve and of its slopes shows in a byte, as do the ends of a natural curve (0, no
-- neighbour's value), both ends of the monotone kinds, and the zeroing of a negative tangent.
abbrev five_points : List Point
five_points =
    at_level 0 150 ∷ at_level 40 220 ∷ at_level 180 120 ∷ at_level 210 10 ∷ at_level 255 110 ∷ []

abbrev five_places : List ℕ
five_places = 26 ∷ 142 ∷ 209 ∷ 250 ∷ []

pub linear_ends : entries Linear five_points five_places ≡ 196 ∷ 147 ∷ 14 ∷ 99 ∷ []
unfolding Computed.entry
linear_ends = refl

pub catmull_rom_ends : entries CatmullRom five_points five_places ≡ 207 ∷ 162 ∷ 10 ∷ 98 ∷ []
unfolding Computed.entry
catmull_rom_ends = refl

pub monotone_ends : entries MonotoneCubic five_points five_places ≡ 203 ∷ 184 ∷ 10 ∷ 98 ∷ []
unfolding Computed.entry
monotone_ends = refl

pub box_ends : entries MonotoneCubicBox five_points five_places ≡ 206 ∷ 181 ∷ 10 ∷ 98 ∷ []
unfolding Computed.entry
box_ends = refl

pub natural_ends : entries NaturalCubic five_points five_places ≡ 197 ∷ 235 ∷ 12 ∷ 90 ∷ []
unfolding Computed.entry
natural_ends = refl

pub centripetal_ends : entries CentripetalCatmullRom five_points five_places
    ≡ 205 ∷ 165 ∷ 10 ∷ 98 ∷ []
unfolding Computed.entry
centripetal_ends = refl

pub chordal_ends : entries ChordalCatmullRom five_points five_places ≡ 202 ∷ 170 ∷ 10 ∷ 98 ∷ []
unfolding Computed.entry
chordal_ends = refl

pub cardinal_ends : entries (Cardinal 100) five_points five_places ≡ 204 ∷ 152 ∷ 10 ∷ 101 ∷ []
unfolding Computed.entry
cardinal_ends = refl

pub clamped_ends : entries (ClampedCubic (pos 512) (negsuc 299)) five_points five_places
    ≡ 197 ∷ 245 ∷ 11 ∷ 111 ∷ []
unfolding Computed.entry
clamped_ends = refl

pub not_a_knot_ends : entries NotAKnotCubic five_points five_places ≡ 198 ∷ 225 ∷ 13 ∷ 69 ∷ []
unfolding Computed.entry
not_a_knot_ends = refl

-- ---- where a rule turns
-- "The Box kind caps each at 3 secants": a tangent of exactly 3 stays, on the left of a segment
-- (capped, the entry would be 205) and on its right (0)
pub box_left : entry_of MonotoneCubicBox (at_level 0 7 ∷ at_level 7 97 ∷ at_level 49 205 ∷ []) 42 ≡ 204
unfolding Computed.entry
box_left = refl

pub box_right : entry_of MonotoneCubicBox (at_level 0 0 ∷ at_level 14 2 ∷ at_level 35 17 ∷ []) 7 ≡ 1
unfolding Computed.entry
box_right = refl

-- the same in a sample, 21.2959995: capped, its last bit would be another
pub box_sample
    : bits MonotoneCubicBox (at_level 0 0 ∷ at_level 1 11 ∷ at_level 6 22 ∷ []) 4 ≡ 0x41aa_5e35
unfolding Computed.entry to_bits
box_sample = refl

-- "if a × a + b × b > 9": a sum of exactly 9 changes nothing (from 9 on, the entry would be 205,
-- the sample 204.5)
pub circle
    : entry_of MonotoneCubic (at_level 0 7 ∷ at_level 7 97 ∷ at_level 49 205 ∷ at_level 91 97 ∷ []) 42
    ≡ 204
unfolding Computed.entry
circle = refl

pub circle_sample
    : bits MonotoneCubic (at_level 0 7 ∷ at_level 7 97 ∷ at_level 49 205 ∷ at_level 91 97 ∷ []) 42
    ≡ 0x434c_7fff
unfolding Computed.entry to_bits
circle_sample = refl

-- "from the a and b before that zeroing" (from those after it, 19)
pub before_zeroing
    : entry_of MonotoneCubic (at_level 0 20 ∷ at_level 20 15 ∷ at_level 25 40 ∷ []) 5 ≡ 18
unfolding Computed.entry
before_zeroing = refl

-- "at an inner knot the left segment is used" (the right one would give the point's y, 0)
pub left_segment
    : entry_of NotAKnotCubic
    (at_level 142 0 ∷ at_level 143 255 ∷ at_level 144 0 ∷ at_level 210 255 ∷ []) 142
    ≡ 1
unfolding Computed.entry
left_segment = refl

pub left_segment_natural : bits NaturalCubic four_points 128 ≡ 0x42c8_0018
unfolding Computed.entry to_bits
left_segment_natural = refl

-- "Not-a-knot with 3 knots fills 2 × (secant1 − secant0) / (h0 + h1); with 2 knots, zeros": without
-- the 2 entry 80 would be 37, of a natural curve 54, of a straight line 15
pub three_knots : entry_of NotAKnotCubic (at_level 0 0 ∷ at_level 20 20 ∷ at_level 255 0 ∷ []) 80 ≡ 60
unfolding Computed.entry
three_knots = refl

pub two_knots : entry_of NotAKnotCubic (at_level 0 40 ∷ at_level 255 200 ∷ []) 128 ≡ 120
unfolding Computed.entry
two_knots = refl

-- "ClampedCubic carries two slopes .. each divided by 256" (the start's by 255: 8; the end's: 2)
pub start_slope : entry_of (ClampedCubic (pos 64) (pos 128)) (at_level 0 5 ∷ []) 68 ≡ 7
unfolding Computed.entry
start_slope = refl

pub end_slope : entry_of (ClampedCubic (pos 64) (pos 128)) (at_level 0 5 ∷ []) 99 ≡ 3
unfolding Computed.entry
end_slope = refl

-- ---- "in the order given by the file, left to right": what another order would give, in a byte
-- y0 × (1 − t) + y1 × t: 6
pub straight_order : entry_of Linear (at_level 0 15 ∷ at_level 40 5 ∷ []) 34 ≡ 7
unfolding Computed.entry
straight_order = refl

-- "Cardinal: (1 − c) times that rise first, then divided" (divided first: 150)
pub rise_first : entry_of (Cardinal 64) (at_level 63 176 ∷ at_level 225 52 ∷ []) 104 ≡ 151
unfolding Computed.entry
rise_first = refl

-- 1 − q / 255 (as (255 − q) / 255: 89)
pub tension_divided : entry_of (Cardinal 85) (at_level 0 200 ∷ at_level 240 75 ∷ []) 204 ≡ 90
unfolding Computed.entry
tension_divided = refl

-- the three terms are right − across + left (left − across + right, or right − (across − left): 96
-- and 78; right + left − across: 178 and 101)
pub terms_centripetal
    : entry_of CentripetalCatmullRom (at_level 65 205 ∷ at_level 130 50 ∷ at_level 225 130 ∷ []) 188
    ≡ 97
unfolding Computed.entry
terms_centripetal = refl

pub across_centripetal
    : entry_of CentripetalCatmullRom (at_level 0 96 ∷ at_level 172 236 ∷ at_level 190 229 ∷ []) 82
    ≡ 177
unfolding Computed.entry
across_centripetal = refl

pub terms_chordal
    : entry_of ChordalCatmullRom
    (at_level 0 75 ∷ at_level 65 15 ∷ at_level 110 195 ∷ at_level 140 220 ∷ at_level 185 75 ∷ []) 85
    ≡ 77
unfolding Computed.entry
terms_chordal = refl

pub across_chordal
    : entry_of ChordalCatmullRom (at_level 0 247 ∷ at_level 59 223 ∷ at_level 147 56 ∷ []) 117 ≡ 102
unfolding Computed.entry
across_chordal = refl

-- c2 × t × t (as c2 × (t × t): 0)
pub square_order : entry_of NaturalCubic (at_level 0 45 ∷ at_level 80 10 ∷ []) 175 ≡ 1
unfolding Computed.entry
square_order = refl

-- not-a-knot's ends: p + (g / h) × (p − q), at the start and at the end (divided last: 97 and 54)
pub start_recovered : entry_of NotAKnotCubic (at_level 160 60 ∷ at_level 190 45 ∷ []) 85 ≡ 98
unfolding Computed.entry
start_recovered = refl

pub end_recovered : entry_of NotAKnotCubic (at_level 95 240 ∷ at_level 125 160 ∷ []) 170 ≡ 53
unfolding Computed.entry
end_recovered = refl

-- ---- the same where only the last bits of a sample show it
-- the basis h00, h10, h01, h11, its products with the width and the tangents, and the sum of the
-- four
pub basis : bits CatmullRom (at_level 30 170 ∷ at_level 250 10 ∷ []) 163 ≡ 0x4295_25e9
unfolding Computed.entry to_bits
basis = refl

-- 3 / root × a × secant
pub circle_product
    : bits MonotoneCubic (at_level 10 40 ∷ at_level 20 230 ∷ at_level 250 30 ∷ []) 107 ≡ 0x437d_6e7b
unfolding Computed.entry to_bits
circle_product = refl

-- at the ends of the curve the tangents are (dy / dt) / (dx / dt): the two kinds round them unlike
-- each other, and neither has the secant
pub centripetal_end_tangents : bits CentripetalCatmullRom (at_level 0 10 ∷ at_level 255 210 ∷ []) 64
    ≡ 0x4270_c8c9
unfolding Computed.entry to_bits
centripetal_end_tangents = refl

pub chordal_end_tangents
    : bits ChordalCatmullRom (at_level 0 10 ∷ at_level 255 210 ∷ []) 64 ≡ 0x4270_c8cc
unfolding Computed.entry to_bits
chordal_end_tangents = refl

-- the coefficients c1, c2, c3 and their powers, and the solve, which multiplies by the pivot's
-- inverse
pub natural_solve : bits NaturalCubic (at_level 120 170 ∷ at_level 220 70 ∷ []) 200 ≡ 0x42a4_7877
unfolding Computed.entry to_bits
natural_solve = refl

pub clamped_solve
    : bits (ClampedCubic (pos 512) (negsuc 299)) (at_level 0 90 ∷ at_level 230 140 ∷ []) 143
    ≡ 0x4315_51d4
unfolding Computed.entry to_bits
clamped_solve = refl

-- not-a-knot's first and last row, h × 6 × the difference of the secants
pub first_row_lem
    : bits NotAKnotCubic (at_level 0 160 ∷ at_level 130 20 ∷ at_level 180 110 ∷ []) 21 ≡ 0x4265_bdf0
unfolding Computed.entry to_bits
first_row_lem = refl

pub last_row
    : bits NotAKnotCubic (at_level 0 160 ∷ at_level 130 20 ∷ at_level 180 110 ∷ []) 252 ≡ 0x42e8_801b
unfolding Computed.entry to_bits
last_row = refl
