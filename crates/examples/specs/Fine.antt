-- Document 02, U9: entries and samples of lists whose heights are no levels, computed from the
-- definitions that the contracts cite. No original has such lists: the numbers are a model's,
-- written from the papers, and the test `fine` of bindings/rust reads this page and asks that model
-- for each of them. Every statement has one of the forms of the page Kinds; a point here is its x
-- and its height in 256ths.
use Rattle.std.specs.Prelude.{ℕ, ◌≡◌, refl, List, [], ◌∷◌, pos, negsuc}
use Rattle.std.specs.Float.Ieee.{to_bits}
use Rattle.points.specs.declared.Point.{Point}
use Rattle.points.specs.Points.{pt}
use Rattle.tables.specs.declared.CurveInterpolation.TheVariants.{
  Linear,
  CatmullRom,
  MonotoneCubic,
  MonotoneCubicBox,
  NaturalCubic,
  CentripetalCatmullRom,
  ChordalCatmullRom,
  Cardinal,
  ClampedCubic,
  NotAKnotCubic,
}
use Rattle.tables.specs.Tables.{entry_of}
use Rattle.examples.specs.Computed as Computed
use Rattle.examples.specs.Kinds.{entries, bits}

-- ---- "as a float it is that number over 256", and to a byte "rounded, a half upward"
pub half_up : entry_of Linear (pt 0 128 ∷ []) 7 ≡ 1
unfolding Computed.entry
half_up = refl

pub below_half : entry_of Linear (pt 0 127 ∷ []) 7 ≡ 0
unfolding Computed.entry
below_half = refl

-- the point given first counts, 254.5 goes up to 255, and so it does from there on
pub high_half : entry_of Linear (pt 10 65280 ∷ pt 10 0 ∷ pt 200 65152 ∷ []) 200 ≡ 255
unfolding Computed.entry
high_half = refl

-- ---- the six kinds with tangents, through the points of one list
abbrev fine_points : List Point
fine_points = pt 0 0 ∷ pt 64 10000 ∷ pt 128 10001 ∷ pt 255 65280 ∷ []

abbrev fine_places : List ℕ
fine_places = 0 ∷ 32 ∷ 64 ∷ 96 ∷ 128 ∷ 200 ∷ 255 ∷ []

pub catmull_rom : entries CatmullRom fine_points fine_places ≡ 0 ∷ 22 ∷ 39 ∷ 32 ∷ 39 ∷ 154 ∷ 255 ∷ []
unfolding Computed.entry
catmull_rom = refl

pub monotone : entries MonotoneCubic fine_points fine_places ≡ 0 ∷ 24 ∷ 39 ∷ 39 ∷ 39 ∷ 139 ∷ 255 ∷ []
unfolding Computed.entry
monotone = refl

pub box : entries MonotoneCubicBox fine_points fine_places ≡ 0 ∷ 24 ∷ 39 ∷ 39 ∷ 39 ∷ 139 ∷ 255 ∷ []
unfolding Computed.entry
box = refl

pub centripetal : entries CentripetalCatmullRom fine_points fine_places
    ≡ 0 ∷ 22 ∷ 39 ∷ 37 ∷ 39 ∷ 146 ∷ 255 ∷ []
unfolding Computed.entry
centripetal = refl

pub chordal : entries ChordalCatmullRom fine_points fine_places
    ≡ 0 ∷ 22 ∷ 39 ∷ 39 ∷ 39 ∷ 142 ∷ 255 ∷ []
unfolding Computed.entry
chordal = refl

pub cardinal : entries (Cardinal 128) fine_points fine_places ≡ 0 ∷ 21 ∷ 39 ∷ 36 ∷ 39 ∷ 161 ∷ 255 ∷ []
unfolding Computed.entry
cardinal = refl

-- three heights that are halves, through the box
abbrev half_places : List ℕ
half_places = 0 ∷ 10 ∷ 15 ∷ 20 ∷ 25 ∷ 30 ∷ 255 ∷ []

pub halves : entries MonotoneCubicBox (pt 10 128 ∷ pt 20 384 ∷ pt 30 640 ∷ []) half_places
    ≡ 1 ∷ 1 ∷ 1 ∷ 2 ∷ 2 ∷ 3 ∷ 3 ∷ []
unfolding Computed.entry
halves = refl

-- ---- the three splines, through the points of the same list
pub natural : entries NaturalCubic fine_points fine_places ≡ 0 ∷ 25 ∷ 39 ∷ 37 ∷ 39 ∷ 133 ∷ 255 ∷ []
unfolding Computed.entry
natural = refl

pub clamped : entries (ClampedCubic (pos 300) (negsuc 299)) fine_points fine_places
    ≡ 0 ∷ 30 ∷ 39 ∷ 30 ∷ 39 ∷ 204 ∷ 255 ∷ []
unfolding Computed.entry
clamped = refl

pub not_a_knot : entries NotAKnotCubic fine_points fine_places ≡ 0 ∷ 30 ∷ 39 ∷ 39 ∷ 39 ∷ 97 ∷ 255 ∷ []
unfolding Computed.entry
not_a_knot = refl

-- ---- a byte that is not the nearest to the broken line: at 121 it is 153.499984
pub just_above_half : entries Linear (pt 0 15218 ∷ pt 241 63175 ∷ []) (0 ∷ 121 ∷ 241 ∷ 255 ∷ [])
    ≡ 59 ∷ 154 ∷ 247 ∷ 247 ∷ []
unfolding Computed.entry
just_above_half = refl

-- ---- a sample of each of the ten kinds, through four points whose heights are odd
-- None of these samples is the float nearest to the curve: each shows where its formula rounds.
abbrev odd_points : List Point
odd_points = pt 3 1001 ∷ pt 60 40003 ∷ pt 143 41111 ∷ pt 201 23457 ∷ []

pub linear_sample : bits Linear odd_points 37 ≡ 0x42bd_92b3
unfolding Computed.entry to_bits
linear_sample = refl

pub catmull_rom_sample : bits CatmullRom odd_points 35 ≡ 0x42c9_b876
unfolding Computed.entry to_bits
catmull_rom_sample = refl

pub monotone_sample : bits MonotoneCubic odd_points 109 ≡ 0x4320_e82b
unfolding Computed.entry to_bits
monotone_sample = refl

pub box_sample : bits MonotoneCubicBox odd_points 121 ≡ 0x4320_825d
unfolding Computed.entry to_bits
box_sample = refl

pub natural_sample : bits NaturalCubic odd_points 42 ≡ 0x42c5_7926
unfolding Computed.entry to_bits
natural_sample = refl

pub centripetal_sample : bits CentripetalCatmullRom odd_points 171 ≡ 0x42ff_e413
unfolding Computed.entry to_bits
centripetal_sample = refl

pub chordal_sample : bits ChordalCatmullRom odd_points 44 ≡ 0x42f4_1235
unfolding Computed.entry to_bits
chordal_sample = refl

pub cardinal_sample : bits (Cardinal 100) odd_points 170 ≡ 0x4302_092a
unfolding Computed.entry to_bits
cardinal_sample = refl

pub clamped_sample : bits (ClampedCubic (pos 300) (negsuc 299)) odd_points 111 ≡ 0x4347_7fd6
unfolding Computed.entry to_bits
clamped_sample = refl

pub not_a_knot_sample : bits NotAKnotCubic odd_points 128 ≡ 0x4333_3624
unfolding Computed.entry to_bits
not_a_knot_sample = refl
