-- Controls of the third demand: what it asks of the runs themselves is needed. Each of the four
-- things that two runs share is needed for the order; and that the documents do not refuse a run is
-- needed for order, of both runs, for nearness, for the y at a point's x, for the bytes of rows
-- alone and for no dithering, of the second run, and for what passes through. By runs of one pixel
-- at most, of Linear and of lists that never fall.
use Rattle.std.specs.Prelude.{ℕ, ◌≤◌, ◌<◌, ◌≡◌, refl, get_or, take}
use Rattle.std.proofs.Common.{arith, ap, lit<, lit≤, get_or-take}
use mathlib.Core.List.{List, [], ◌∷◌, Memᴰ}
use Rattle.points.specs.declared.Point.{Point}
use Rattle.points.specs.Points.{at_level, straight_curve}
use Rattle.points.specs.Knots.{OnLine}
use Rattle.points.specs.Order.{All, Typed}
use Rattle.sets.specs.Same.{Same}
use Rattle.sets.specs.SameLaws.{same_refl}
use Rattle.formats.specs.declared.PixelFormat.{PixelFormat}
use Rattle.formats.specs.declared.PixelFormat.TheVariants.{Gray8, Rgb24, Rgba}
use Rattle.pictures.specs.Runs.{Run, InTypes, first}
use Rattle.pictures.specs.Examples.{answered}
use Rattle.examples.specs.Computed as Computed
use Rattle.promises.specs.Words.{
  Call,
  Accepted,
  Share,
  Place,
  TonedAt,
  input,
  output,
  list_that_tones,
  kind_in,
  IsLinear,
  IsSpline,
  NoListFalls,
  WholeHeights,
  Nearest,
  PassedThrough,
  AlikeInRows,
  AlikeInChroma,
  written,
  WriteTheSame,
}
use Rattle.promises.specs.RunFacts.{past_stays}
use Rattle.promises.specs.TonedFacts.{through_level}
use Rattle.promises.specs.ControlsOfWords.{linear_is_no_spline}
use Rattle.promises.specs.Pixels.{stored_typed, own, linear, no_bytes, byte_at, ran_on, here}

-- ---- runs
-- the straight master with a red list of zeros; and zeros for master
abbrev zeros : List Point
zeros = at_level 0 0 ∷ at_level 255 0 ∷ []

zeros_typed : All Typed zeros
zeros_typed = ((lit< tt, lit< tt), ((lit< tt, lit< tt), tt))

straight_typed : All Typed straight_curve
straight_typed = ((lit< tt, lit< tt), ((lit< tt, lit< tt), tt))

-- a picture of one pixel at most, whose red or grey is v, with 9 where the output's first byte was
abbrev pixel : List Point → PixelFormat → ℕ → ℕ → ℕ → ℕ → Run
pixel master format width height step v = record {
  job = record {
    set = linear master (own zeros);
    format = format;
    width = width;
    height = height;
    planes = 1;
  };
  lent = record {
    plane = record { bytes = v ∷ 0 ∷ 0 ∷ 7 ∷ []; step = step };
    cb = no_bytes;
    cr = no_bytes;
    outputs = record { first = 9 ∷ 8 ∷ 8 ∷ 8 ∷ []; cb = []; cr = [] };
  };
}

module _ (master : List Point) (typed : All Typed master) (format : PixelFormat)
    (width height step v : ℕ) (byte : v < 256) where
  pixel_types : InTypes (pixel master format width height step v)
  pixel_types = record {
    plane = byte_at (v ∷ 0 ∷ 0 ∷ 7 ∷ []) (byte, (lit< tt, (lit< tt, (lit< tt, tt))));
    points = record {
      master = stored_typed master typed;
      red = zeros_typed;
      green = tt;
      blue = tt;
    };
    tension = lit< tt;
  }

  abbrev ran_pixel : Call
  ran_pixel = ran_on (pixel master format width height step v) pixel_types

no_list_falls : (format : PixelFormat) (width height step v : ℕ)
    → NoListFalls (pixel straight_curve format width height step v)
no_list_falls format width height step v =
    record { master = (lit≤ tt, tt); red = (lit≤ tt, tt); green = tt; blue = tt }

-- white by the straight master: 255 stays
abbrev white : Call
white = ran_pixel straight_curve straight_typed Gray8 1 1 1 255 (lit< tt)

grey_toned : (master : List Point) (step v : ℕ) → TonedAt (pixel master Gray8 1 1 step v) here
grey_toned master step v = record {
  within = record { row = lit< tt; column = lit< tt; channel = lit< tt };
  not_alpha = λ e. omega (arith, e);
}

white_output : output white here ≡ 255
unfolding answered
white_output =
    through_level white refl linear_is_no_spline here (grey_toned straight_curve 1 255)
    255 255 (Memᴰ.tail (Memᴰ.head refl)) refl

-- its only place
place_is : {r c k : ℕ} → r ≡ 0 → c ≡ 0 → k ≡ 0
    → ◌≡◌ {A = Place} (record { row = r; column = c; channel = k }) here
place_is row column channel = rw (row, column, channel)

only_here : (master : List Point) (step v : ℕ) (p : Place)
    → TonedAt (pixel master Gray8 1 1 step v) p → p ≡ here
only_here master step v p t =
    let w = t.within in
    place_is (omega (arith, w.row)) (omega (arith, w.column)) (omega (arith, w.channel))

-- ---- "share one set, format and size": "order", with S for what the runs share
abbrev OrderSharing : (Call → Call → Type 0) → Type 0
OrderSharing S =
    (a b : Call) → S a b → Accepted a → Accepted b → IsLinear a.given → IsLinear b.given
    → NoListFalls a.given → NoListFalls b.given
    → ((p : Place) → TonedAt a.given p → input a p ≤ input b p)
    → (p : Place) → TonedAt a.given p → output a p ≤ output b p

-- white in, and at most 9 out, refutes it
sharing_refuted : (S : Call → Call → Type 0) (b : Call) → S white b → Accepted b
    → IsLinear b.given → NoListFalls b.given
    → input b here ≡ 255 → output b here ≤ 9 → OrderSharing S → ⊥
unfolding answered
sharing_refuted S b share ok is-linear rising white-in dark order =
    omega (
      arith,
      order white b share refl ok refl is-linear (no_list_falls Gray8 1 1 1 255) rising
          (λ p t. rw (only_here straight_curve 1 255 p t) (omega (arith, white-in))) here
          (grey_toned straight_curve 1 255),
      white_output,
      dark,
    )

abbrev other_set : Call
other_set = ran_pixel zeros zeros_typed Gray8 1 1 1 255 (lit< tt)

other_set_output : output other_set here ≡ 0
unfolding answered
other_set_output =
    through_level other_set refl linear_is_no_spline here (grey_toned zeros 1 255) 255 0
    (Memᴰ.tail (Memᴰ.head refl)) refl

abbrev other_format : Call
other_format = ran_pixel straight_curve straight_typed Rgb24 1 1 3 255 (lit< tt)

abbrev no_columns : Call
no_columns = ran_pixel straight_curve straight_typed Gray8 0 1 1 255 (lit< tt)

abbrev no_rows : Call
no_rows = ran_pixel straight_curve straight_typed Gray8 1 0 1 255 (lit< tt)

abbrev SameSet : Call → Call → Type 0
SameSet a b = Same a.given.job.set b.given.job.set

abbrev SameFormat : Call → Call → Type 0
SameFormat a b = a.given.job.format ≡ b.given.job.format

abbrev SameWidth : Call → Call → Type 0
SameWidth a b = a.given.job.width ≡ b.given.job.width

abbrev SameHeight : Call → Call → Type 0
SameHeight a b = a.given.job.height ≡ b.given.job.height

pub order_wants_one_set : OrderSharing (λ a b. SameFormat a b × SameWidth a b × SameHeight a b) → ⊥
unfolding answered
order_wants_one_set =
    sharing_refuted (λ a b. SameFormat a b × SameWidth a b × SameHeight a b) other_set
    (refl, refl, refl) refl refl
    (record { master = (lit≤ tt, tt); red = (lit≤ tt, tt); green = tt; blue = tt }) refl
    (omega (arith, other_set_output))

pub order_wants_one_format : OrderSharing (λ a b. SameSet a b × SameWidth a b × SameHeight a b) → ⊥
unfolding answered
order_wants_one_format =
    sharing_refuted (λ a b. SameSet a b × SameWidth a b × SameHeight a b) other_format
    (same_refl white.given.job.set, refl, refl) refl refl
    (no_list_falls Rgb24 1 1 3 255) refl
    (omega (
      arith,
      through_level other_format refl linear_is_no_spline here
          (record {
            within = record { row = lit< tt; column = lit< tt; channel = lit< tt };
            not_alpha = λ e. omega (arith, e);
          })
          255 0 (Memᴰ.tail (Memᴰ.head refl)) refl,
    ))

pub order_wants_one_width : OrderSharing (λ a b. SameSet a b × SameFormat a b × SameHeight a b) → ⊥
unfolding answered
order_wants_one_width =
    sharing_refuted (λ a b. SameSet a b × SameFormat a b × SameHeight a b) no_columns
    (same_refl white.given.job.set, refl, refl) refl refl
    (no_list_falls Gray8 0 1 1 255) refl (omega (arith, past_stays no_columns refl 0 (lit≤ tt)))

pub order_wants_one_height : OrderSharing (λ a b. SameSet a b × SameFormat a b × SameWidth a b) → ⊥
unfolding answered
order_wants_one_height =
    sharing_refuted (λ a b. SameSet a b × SameFormat a b × SameWidth a b) no_rows
    (same_refl white.given.job.set, refl, refl) refl refl
    (no_list_falls Gray8 1 0 1 255) refl (omega (arith, past_stays no_rows refl 0 (lit≤ tt)))

-- ---- "neither of which the documents refuse": a row step of 0 is refused, and the output stays 9
abbrev refused : (v : ℕ) → v < 256 → Call
refused v byte = ran_pixel straight_curve straight_typed Gray8 1 1 0 v byte

refused_output : (v : ℕ) (byte : v < 256) → output (refused v byte) here ≡ 9
unfolding answered first
refused_output v byte = refl

abbrev black : Call
black = ran_pixel straight_curve straight_typed Gray8 1 1 1 0 (lit< tt)

-- of the same set, format and size
shares : (step other v w : ℕ) (v-byte : v < 256) (w-byte : w < 256)
    → Share (ran_pixel straight_curve straight_typed Gray8 1 1 step v v-byte)
    (ran_pixel straight_curve straight_typed Gray8 1 1 other w w-byte)
shares step other v w v-byte w-byte =
    record { set = same_refl white.given.job.set; format = refl; width = refl; height = refl }

-- each clause, with A for what it asks of a run, or of the first of two, and B of the second
abbrev Asked : Type 1
Asked = Call → Type 0

abbrev anything : Asked
anything a = Unit {0}

abbrev Order : Asked → Asked → Type 0
Order A B =
    (a b : Call) → Share a b → A a → B b → IsLinear a.given → NoListFalls a.given
    → ((p : Place) → TonedAt a.given p → input a p ≤ input b p)
    → (p : Place) → TonedAt a.given p → output a p ≤ output b p

pub order_wants_both_accepted : (Order anything Accepted → ⊥) × (Order Accepted anything → ⊥)
unfolding answered
order_wants_both_accepted = (
  λ order.
      omega (
        arith,
        order (refused 0 (lit< tt)) black (shares 0 1 0 0 (lit< tt) (lit< tt)) tt refl refl
            (no_list_falls Gray8 1 1 0 0)
            (λ p t. rw (only_here straight_curve 0 0 p t) (lit≤ tt)) here
            (grey_toned straight_curve 0 0),
        refused_output 0 (lit< tt),
        through_level black refl linear_is_no_spline here (grey_toned straight_curve 1 0) 0 0
            (Memᴰ.head refl) refl,
      ),
  λ order.
      omega (
        arith,
        order white (refused 255 (lit< tt)) (shares 1 0 255 255 (lit< tt) (lit< tt)) refl tt refl
            (no_list_falls Gray8 1 1 1 255)
            (λ p t. rw (only_here straight_curve 1 255 p t) (lit≤ tt)) here
            (grey_toned straight_curve 1 255),
        white_output,
        refused_output 255 (lit< tt),
      ),
)

abbrev RowsAlone : Asked → Asked → Type 0
RowsAlone A B =
    (a b : Call) → Share a b → A a → B b → AlikeInRows a b → AlikeInChroma a b → WriteTheSame a b

-- white is alike in its rows to every run with 255 in, and 255 is not at most 9
white_alike : (b : Call) → input b here ≡ 255 → AlikeInRows white b
white_alike b white-in p w =
    let toned : TonedAt white.given p =
    record { within = w; not_alpha = λ e. omega (arith, e, w.channel) } in
    rw (only_here straight_curve 1 255 p toned, white-in)

written_apart : (out : List ℕ) → get_or out 0 0 ≤ 9 → written white ≡ take 1 out → ⊥
written_apart out dark same =
    omega (
      arith,
      ap (λ (l : List ℕ). get_or l 0 0) same,
      get_or-take 1 white.after.first 0 0 (lit< tt),
      get_or-take 1 out 0 0 (lit< tt),
      white_output,
      dark,
    )

pub rows_alone_wants_accepted : RowsAlone Accepted anything → ⊥
unfolding answered
rows_alone_wants_accepted claim =
    let b = refused 255 (lit< tt) in
    written_apart b.after.first (omega (arith, refused_output 255 (lit< tt)))
    (claim white b (shares 1 0 255 255 (lit< tt) (lit< tt)) refl tt (white_alike b refl)
    (record { cb = λ yuv. refl; cr = λ yuv. refl })).out

pub rows_alone_wants_one_set :
    ((a b : Call) → SameFormat a b × SameWidth a b × SameHeight a b → Accepted a → Accepted b
    → AlikeInRows a b → AlikeInChroma a b → WriteTheSame a b)
    → ⊥
unfolding answered
rows_alone_wants_one_set claim =
    written_apart other_set.after.first (omega (arith, other_set_output))
    (claim white other_set (refl, refl, refl) refl refl (white_alike other_set refl)
    (record { cb = λ yuv. refl; cr = λ yuv. refl })).out

pub near_wants_accepted :
    ((a : Call) → IsLinear a.given → (p : Place) → TonedAt a.given p
    → WholeHeights (list_that_tones a.given p)
    → (n d : ℕ) → OnLine (list_that_tones a.given p) (input a p) n d → Nearest n d (output a p))
    → ⊥
unfolding Computed.entry
near_wants_accepted claim =
    let near = claim (refused 255 (lit< tt)) refl here (grey_toned straight_curve 0 255)
    (refl, (refl, tt)) 16646400 65280
    (record {
      divisor = lit< tt;
      i = 0;
      inside = lit< tt;
      left = lit≤ tt;
      right = lit≤ tt;
      width = refl;
      height = refl;
    }) in
    omega (arith, near.0, near.1, refused_output 255 (lit< tt))

pub through_points_wants_accepted :
    ((a : Call) → (IsSpline (kind_in a.given) → ⊥) → (p : Place) → TonedAt a.given p
    → (x y : ℕ) → Memᴰ (at_level x y) (list_that_tones a.given p) → input a p ≡ x
    → output a p ≡ y)
    → ⊥
through_points_wants_accepted claim =
    omega (
      arith,
      claim (refused 255 (lit< tt)) linear_is_no_spline here (grey_toned straight_curve 0 255)
          255 255 (Memᴰ.tail (Memᴰ.head refl)) refl,
      refused_output 255 (lit< tt),
    )

-- one list, one kind and one byte, and 255 is not 9
pub no_dithering_wants_accepted :
    ((a b : Call) → Accepted a → kind_in a.given ≡ kind_in b.given → (p q : Place)
    → TonedAt a.given p → TonedAt b.given q
    → list_that_tones a.given p ≡ list_that_tones b.given q
    → input a p ≡ input b q → output a p ≡ output b q)
    → ⊥
unfolding answered
no_dithering_wants_accepted claim =
    omega (
      arith,
      claim white (refused 255 (lit< tt)) refl refl here here (grey_toned straight_curve 1 255)
          (grey_toned straight_curve 0 255) refl refl,
      white_output,
      refused_output 255 (lit< tt),
    )

-- alpha is 7, and the output's fourth byte stays 8
pub passed_through_wants_accepted : ((a : Call) → PassedThrough a) → ⊥
unfolding answered first
passed_through_wants_accepted claim =
    let a = ran_pixel straight_curve straight_typed Rgba 1 1 0 255 (lit< tt) in
    let alpha : Place = record { row = 0; column = 0; channel = 3 } in
    let z : ◌≡◌ {A = ℕ} 8 7 =
    (claim a).alpha alpha (record { row = lit< tt; column = lit< tt; channel = lit< tt })
    (λ t. t.not_alpha refl) in
    omega (arith, z)
