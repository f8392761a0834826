-- Controls of the third demand. What it asks of kinds, lists, rows and chroma is needed: without it
-- the clause is refuted, by runs of a pixel or two that are computed from the definitions; what it
-- asks of the runs is ControlsOfRuns'. And two of the programs that document 01 says must not pass,
-- one flat table and a copy, do not keep the demand.
use Rattle.std.specs.Prelude.{ℕ, zero, suc, ◌*◌, ◌+◌, ◌≤◌, ◌<◌, ◌≡◌, refl, get_or}
use Rattle.std.proofs.Common.{le_refl, arith, sym, ap, ◌∙◌, lit<, lit≤, get_or-take}
use Rattle.std.proofs.Math.Decide.{ℕ_discrete}
use Rattle.std.proofs.lemmas.Bool.{false≢true}
use mathlib.Core.List.{List, [], ◌∷◌, Memᴰ}
use Rattle.points.specs.declared.Point.{Point}
use Rattle.points.specs.Points.{pt, at_level, straight_curve, first_at, kept_below, kept}
use Rattle.points.specs.Knots.{rest, knots, OnLine}
use Rattle.points.specs.Order.{NeverFalls}
use Rattle.segments.specs.Straight.{slope}
use Rattle.monotone.specs.Monotone.{secant_at, mean_at, boxed, adjusted, reached, monotone_at}
use Rattle.spline.specs.Second.{recovered, ends_recovered, not_a_knot_at}
use Rattle.tables.specs.declared.CurveInterpolation.{CurveInterpolation}
use Rattle.tables.specs.declared.CurveInterpolation.TheVariants.{
  Linear,
  MonotoneCubicBox,
  NotAKnotCubic,
}
use Rattle.tables.specs.Tables.{entry_of}
use Rattle.sets.specs.Sets.{view_of}
use Rattle.sets.specs.SameLaws.{same_refl}
use Rattle.rows.specs.Rows.{in_row}
use Rattle.formats.specs.declared.PixelFormat.TheVariants.{Gray8, Rgb24, Rgba, Yuv420P}
use Rattle.pictures.specs.Runs.{Run, InTypes}
use Rattle.pictures.specs.Examples.{answered}
use Rattle.examples.specs.Computed as Computed
use Rattle.promises.specs.Words.{
  Call,
  Accepted,
  Share,
  Place,
  Within,
  TonedAt,
  input,
  output,
  list_that_tones,
  IsPadding,
  IsLinear,
  NoListFalls,
  WholeHeights,
  Nearest,
  AlikeInRows,
  AlikeInChroma,
  WriteTheSame,
}
use Rattle.promises.specs.RunFacts.{alpha_copied}
use Rattle.promises.specs.ChromaFacts.{whole_chroma}
use Rattle.promises.specs.TonedFacts.{through_level}
use Rattle.promises.specs.ControlsOfWords.{linear_is_no_spline}
use Rattle.promises.specs.Pixels.{
  Toning,
  Strip,
  AreBytes,
  own,
  linear,
  no_bytes,
  byte_at,
  run_of,
  ran_on,
  ran,
  shared,
  here,
  grey,
  ran_grey,
  grey_toned,
  grey_input,
  grey_output,
}

-- what the computation of an entry opens, under every kind that is used here
computed : CurveInterpolation → List Point → ℕ → ℕ
unfolding Computed.entry slope secant_at mean_at boxed adjusted reached monotone_at recovered
    ends_recovered not_a_knot_at
computed = entry_of

abbrev straight_line : Toning
straight_line = record {
  list = straight_curve;
  kind = Linear;
  typed = ((lit< tt, lit< tt), ((lit< tt, lit< tt), tt));
  tension = lit< tt;
}

-- ---- "order", with P for its premise on kind and lists
abbrev OrderUnder : (Run → Type 0) → Type 0
OrderUnder P =
    (a b : Call) → Share a b → Accepted a → Accepted b → P a.given
    → ((p : Place) → TonedAt a.given p → input a p ≤ input b p)
    → (p : Place) → TonedAt a.given p → output a p ≤ output b p

-- an entry lower than one before it refutes it
order_refuted : (P : Run → Type 0) (s : Toning) (v w : ℕ) (v-byte : v < 256) (w-byte : w < 256)
    → v ≤ w
    → entry_of s.kind s.list w < entry_of s.kind s.list v
    → Accepted (ran_grey s v v-byte) → Accepted (ran_grey s w w-byte) → P (run_of (grey s v))
    → OrderUnder P → ⊥
order_refuted P s v w v-byte w-byte le lower v-ok w-ok holds order =
    let a = ran_grey s v v-byte in
    let b = ran_grey s w w-byte in
    let below : (p : Place) → TonedAt a.given p → input a p ≤ input b p = λ p t.
    let i = t.within in
    rw (
      grey_input s v v-byte p i.row i.column i.channel,
      grey_input s w w-byte p i.row i.column i.channel,
    ) le in
    omega (
      arith,
      order a b (shared (grey s v) (grey s w) (v-byte, tt) (w-byte, tt) refl refl refl) v-ok w-ok
          holds below here (grey_toned s v),
      grey_output s v v-byte v-ok,
      grey_output s w w-byte w-ok,
    )

-- a list that falls breaks it under Linear ..
abbrev falling : Toning
falling =
    record {
      list = at_level 0 9 ∷ at_level 255 0 ∷ [];
      kind = Linear;
      typed = ((lit< tt, lit< tt), ((lit< tt, lit< tt), tt));
      tension = lit< tt;
    }

pub falling_at_0 : entry_of Linear falling.list 0 ≡ 9
unfolding computed
falling_at_0 = refl

pub falling_at_255 : entry_of Linear falling.list 255 ≡ 0
unfolding computed
falling_at_255 = refl

pub order_wants_no_list_to_fall : OrderUnder IsLinear → ⊥
unfolding answered
order_wants_no_list_to_fall =
    order_refuted IsLinear falling 0 255 (lit< tt) (lit< tt) (lit≤ tt)
    (omega (arith, falling_at_0, falling_at_255)) refl refl refl

-- .. and a list that never falls breaks it under another kind
abbrev steep : Toning
steep = record {
  list = at_level 0 0 ∷ at_level 1 50 ∷ at_level 66 51 ∷ at_level 255 255 ∷ [];
  kind = MonotoneCubicBox;
  typed = (
    (lit< tt, lit< tt),
    ((lit< tt, lit< tt), ((lit< tt, lit< tt), ((lit< tt, lit< tt), tt))),
  );
  tension = lit< tt;
}

pub steep_at_33 : entry_of MonotoneCubicBox steep.list 33 ≡ 51
unfolding computed
steep_at_33 = refl

pub steep_at_34 : entry_of MonotoneCubicBox steep.list 34 ≡ 50
unfolding computed
steep_at_34 = refl

pub order_wants_linear : OrderUnder NoListFalls → ⊥
unfolding answered
order_wants_linear =
    order_refuted NoListFalls steep 33 34 (lit< tt) (lit< tt) (lit≤ tt)
    (omega (arith, steep_at_33, steep_at_34)) refl refl
    (record { master = (lit≤ tt, (lit≤ tt, (lit≤ tt, tt))); red = tt; green = tt; blue = tt })

-- .. and so does a colour that falls, where the master never does: red in a pixel of Rgb24, by the
-- straight master and a red list of its own
abbrev reddened : ℕ → Run
reddened v = record {
  job = record {
    set = linear straight_curve (own falling.list);
    format = Rgb24;
    width = 1;
    height = 1;
    planes = 1;
  };
  lent = record {
    plane = record { bytes = v ∷ 0 ∷ 0 ∷ []; step = 3 };
    cb = no_bytes;
    cr = no_bytes;
    outputs = record { first = 0 ∷ 0 ∷ 0 ∷ []; cb = []; cr = [] };
  };
}

reddened_types : (v : ℕ) → v < 256 → InTypes (reddened v)
reddened_types v byte = record {
  plane = byte_at (v ∷ 0 ∷ 0 ∷ []) (byte, (lit< tt, (lit< tt, tt)));
  points = record { master = straight_line.typed; red = falling.typed; green = tt; blue = tt };
  tension = lit< tt;
}

red_toned : (v : ℕ) → TonedAt (reddened v) here
red_toned v = record {
  within = record { row = lit< tt; column = lit< tt; channel = lit< tt };
  not_alpha = λ e. omega (arith, e);
}

reddened_below : (i : ℕ) → ◌≤◌ (get_or (0 ∷ 0 ∷ 0 ∷ []) i 0) (get_or (255 ∷ 0 ∷ 0 ∷ []) i 0)
reddened_below zero = lit≤ tt
reddened_below (suc i) = le_refl (get_or (0 ∷ 0 ∷ []) i 0)

abbrev MasterNeverFalls : Run → Type 0
MasterNeverFalls r = NeverFalls (view_of r.job.set).master

pub order_wants_no_colour_to_fall : OrderUnder (λ r. IsLinear r × MasterNeverFalls r) → ⊥
unfolding answered
order_wants_no_colour_to_fall order =
    let a = ran_on (reddened 0) (reddened_types 0 (lit< tt)) in
    let b = ran_on (reddened 255) (reddened_types 255 (lit< tt)) in
    let share : Share a b =
    record { set = same_refl (reddened 0).job.set; format = refl; width = refl; height = refl } in
    omega (
      arith,
      order a b share refl refl (refl, (lit≤ tt, tt))
          (λ p t. reddened_below (p.row * 3 + (p.column * 3 + p.channel))) here (red_toned 0),
      through_level a refl linear_is_no_spline here (red_toned 0) 0 9
          (Memᴰ.head refl) refl,
      through_level b refl linear_is_no_spline here (red_toned 255) 255 0
          (Memᴰ.tail (Memᴰ.head refl)) refl,
    )

-- ---- "near", with P for its premise on the kind, H for that on heights, and IsNear for what it
-- says of an output byte and the line n / d
abbrev NearUnder : (Run → Type 0) → (List Point → Type 0) → (ℕ → ℕ → ℕ → Type 0) → Type 0
NearUnder P H IsNear =
    (a : Call) → Accepted a → P a.given → (p : Place) → TonedAt a.given p
    → H (list_that_tones a.given p)
    → (n d : ℕ) → OnLine (list_that_tones a.given p) (input a p) n d → IsNear n d (output a p)

-- the line of the steep list is 3,283 / 65 at 34, here in 256ths, to which 51 is nearest, and not
-- 50
pub steep_line_at_34 : OnLine steep.list 34 840448 16640
unfolding kept kept_below first_at knots rest
steep_line_at_34 = record {
  divisor = lit< tt;
  i = 1;
  inside = lit< tt;
  left = lit≤ tt;
  right = lit≤ tt;
  width = refl;
  height = refl;
}

pub near_wants_linear : NearUnder (λ r. Unit {0}) WholeHeights Nearest → ⊥
unfolding answered
near_wants_linear near =
    let byte : 34 < 256 = lit< tt in
    let claim =
    near (ran_grey steep 34 byte) refl tt here (grey_toned steep 34)
    (refl, (refl, (refl, (refl, tt)))) 840448 16640 steep_line_at_34 in
    omega (arith, claim.0, claim.1, grey_output steep 34 byte refl, steep_at_34)

-- 31 and 32 are both nearest to 378 / 12 = 31.5, 30 and 33 are not ..
pub nearest_half : Nearest 378 12 31 × Nearest 378 12 32 × (Nearest 378 12 30 → ⊥)
    × (Nearest 378 12 33 → ⊥)
nearest_half = (
  (lit≤ tt, lit≤ tt),
  (lit≤ tt, lit≤ tt),
  λ h. omega (arith, h.0, h.1),
  λ h. omega (arith, h.0, h.1),
)

-- .. which is the line of (0,0),(12,54) at 7. This half goes down: not every half goes up
abbrev ramp : Toning
ramp = record {
  list = at_level 0 0 ∷ at_level 12 54 ∷ [];
  kind = Linear;
  typed = ((lit< tt, lit< tt), ((lit< tt, lit< tt), tt));
  tension = lit< tt;
}

pub ramp_line_at_7 : OnLine ramp.list 7 96768 3072
unfolding kept kept_below first_at knots rest
ramp_line_at_7 = record {
  divisor = lit< tt;
  i = 0;
  inside = lit< tt;
  left = lit≤ tt;
  right = lit≤ tt;
  width = refl;
  height = refl;
}

pub ramp_at_7 : entry_of Linear ramp.list 7 ≡ 31
unfolding computed
ramp_at_7 = refl

pub near_goes_either_way : NearUnder IsLinear WholeHeights (λ n d b. 2 * n < 2 * (b * d) + d) → ⊥
unfolding answered
near_goes_either_way up =
    let byte : 7 < 256 = lit< tt in
    omega (
      arith,
      up (ran_grey ramp 7 byte) refl refl here (grey_toned ramp 7) (refl, (refl, tt)) 96768 3072
          ramp_line_at_7,
      grey_output ramp 7 byte refl,
      ramp_at_7,
    )

-- and where heights are finer, a byte may miss the nearest: the line of this list is
-- 9,470,335 / 61,696 at 121, which is 153.499984, and out comes 154
abbrev finer : Toning
finer = record {
  list = pt 0 15218 ∷ pt 241 63175 ∷ [];
  kind = Linear;
  typed = ((lit< tt, lit< tt), ((lit< tt, lit< tt), tt));
  tension = lit< tt;
}

pub finer_line_at_121 : OnLine finer.list 121 9470335 61696
unfolding kept kept_below first_at knots rest
finer_line_at_121 = record {
  divisor = lit< tt;
  i = 0;
  inside = lit< tt;
  left = lit≤ tt;
  right = lit≤ tt;
  width = refl;
  height = refl;
}

pub finer_at_121 : entry_of Linear finer.list 121 ≡ 154
unfolding computed
finer_at_121 = refl

pub near_wants_whole_heights : NearUnder IsLinear (λ l. Unit {0}) Nearest → ⊥
unfolding answered
near_wants_whole_heights near =
    let byte : 121 < 256 = lit< tt in
    let claim =
    near (ran_grey finer 121 byte) refl refl here (grey_toned finer 121) tt 9470335 61696
    finer_line_at_121 in
    omega (arith, claim.0, claim.1, grey_output finer 121 byte refl, finer_at_121)

-- ---- "through points": NotAKnotCubic misses (163,230) by 1
abbrev narrow : Toning
narrow = record {
  list = at_level 163 230 ∷ at_level 164 84 ∷ at_level 165 185 ∷ [];
  kind = NotAKnotCubic;
  typed = ((lit< tt, lit< tt), ((lit< tt, lit< tt), ((lit< tt, lit< tt), tt)));
  tension = lit< tt;
}

pub narrow_at_163 : entry_of NotAKnotCubic narrow.list 163 ≡ 231
unfolding computed
narrow_at_163 = refl

pub through_points_wants_no_spline :
    ((a : Call) → Accepted a → (p : Place) → TonedAt a.given p
    → (x y : ℕ) → Memᴰ (at_level x y) (list_that_tones a.given p) → input a p ≡ x
    → output a p ≡ y)
    → ⊥
unfolding answered
through_points_wants_no_spline through =
    let byte : 163 < 256 = lit< tt in
    omega (
      arith,
      through (ran_grey narrow 163 byte) refl here (grey_toned narrow 163) 163 230
          (Memᴰ.head refl) refl,
      grey_output narrow 163 byte refl,
      narrow_at_163,
    )

-- ---- "rows alone": alpha and chroma are written too, so it is not enough that runs are alike in
-- their toned bytes, or in their rows
abbrev colours : ℕ → List ℕ
colours alpha = 5 ∷ 6 ∷ 7 ∷ alpha ∷ []

colours_alike : (x y i : ℕ) → i < 3 → get_or (colours x) i 0 ≡ get_or (colours y) i 0
colours_alike x y zero h = refl
colours_alike x y (suc zero) h = refl
colours_alike x y (suc (suc zero)) h = refl
colours_alike x y (suc (suc (suc i))) h = absurd (omega arith)

abbrev coloured : ℕ → Strip
coloured alpha =
    record {
      by = straight_line;
      format = Rgba;
      height = 1;
      plane = colours alpha;
      step = 4;
      chroma = [];
    }

abbrev alpha_here : Place
alpha_here = record { row = 0; column = 0; channel = 3 }

alpha_within : (alpha : ℕ) → Within (run_of (coloured alpha)) alpha_here
alpha_within alpha = record { row = lit< tt; column = lit< tt; channel = lit< tt }

pub rows_alone_wants_alpha :
    ((a b : Call) → Share a b → Accepted a → Accepted b
    → ((p : Place) → TonedAt a.given p → input a p ≡ input b p) → AlikeInChroma a b
    → WriteTheSame a b)
    → ⊥
unfolding answered
rows_alone_wants_alpha claim =
    let bytes : (x : ℕ) → x < 256 → AreBytes (colours x) =
    λ x h. (lit< tt, (lit< tt, (lit< tt, (h, tt)))) in
    let a-bytes = bytes 1 (lit< tt) in
    let b-bytes = bytes 2 (lit< tt) in
    let a = ran (coloured 1) a-bytes in
    let b = ran (coloured 2) b-bytes in
    let alike : (p : Place) → TonedAt a.given p → input a p ≡ input b p = λ p t.
    colours_alike 1 2 (p.row * 4 + (p.column * 4 + p.channel))
    (let other : p.channel ≡ 3 → ⊥ = t.not_alpha in
    omega (arith, t.within.row, t.within.column, t.within.channel)) in
    let same =
    (claim a b (shared (coloured 1) (coloured 2) a-bytes b-bytes refl refl refl) refl refl alike
    (record { cb = λ yuv. refl; cr = λ yuv. refl })).out in
    omega (
      arith,
      alpha_copied a refl alpha_here (alpha_within 1) refl,
      alpha_copied b refl alpha_here (alpha_within 2) refl,
      ap (λ (l : List ℕ). get_or l 3 0) same,
      get_or-take 4 a.after.first 3 0 (lit< tt),
      get_or-take 4 b.after.first 3 0 (lit< tt),
    )

-- .. and so are both chroma planes
abbrev tinted : ℕ → ℕ → Run
tinted cb cr = record {
  job = record {
    set = linear straight_curve (own straight_curve);
    format = Yuv420P;
    width = 1;
    height = 1;
    planes = 3;
  };
  lent = record {
    plane = record { bytes = 5 ∷ []; step = 1 };
    cb = record { bytes = cb ∷ []; step = 1 };
    cr = record { bytes = cr ∷ []; step = 1 };
    outputs = record { first = 0 ∷ []; cb = 0 ∷ []; cr = 0 ∷ [] };
  };
}

tinted_types : (cb cr : ℕ) → InTypes (tinted cb cr)
tinted_types cb cr = record {
  plane = byte_at (5 ∷ []) (lit< tt, tt);
  points = record {
    master = straight_line.typed;
    red = straight_line.typed;
    green = tt;
    blue = tt;
  };
  tension = lit< tt;
}

abbrev ran_tinted : ℕ → ℕ → Call
ran_tinted cb cr = ran_on (tinted cb cr) (tinted_types cb cr)

-- "rows alone", with alike for what is asked of chroma
abbrev RowsAloneUnder : (Call → Call → Type 0) → Type 0
RowsAloneUnder Alike =
    (a b : Call) → Share a b → Accepted a → Accepted b → AlikeInRows a b → Alike a b
    → WriteTheSame a b

abbrev SameCb : Call → Call → Type 0
SameCb a b = a.given.lent.cb.bytes ≡ b.given.lent.cb.bytes

abbrev SameCr : Call → Call → Type 0
SameCr a b = a.given.lent.cr.bytes ≡ b.given.lent.cr.bytes

tinted_the_same : (Alike : Call → Call → Type 0) (cb cr other_cb other_cr : ℕ)
    → Alike (ran_tinted cb cr) (ran_tinted other_cb other_cr) → RowsAloneUnder Alike
    → WriteTheSame (ran_tinted cb cr) (ran_tinted other_cb other_cr)
unfolding answered
tinted_the_same Alike cb cr other_cb other_cr alike claim =
    claim (ran_tinted cb cr) (ran_tinted other_cb other_cr)
    (record {
      set = same_refl (tinted cb cr).job.set;
      format = refl;
      width = refl;
      height = refl;
    })
    refl refl (λ p w. refl) alike

-- 1 is not 2
apart : {l m : List ℕ} → l ≡ 1 ∷ [] → m ≡ 2 ∷ [] → l ≡ m → ⊥
apart one two same = omega (arith, ap (λ (l : List ℕ). get_or l 0 0) (sym one ∙ same ∙ two))

pub rows_alone_wants_cb : RowsAloneUnder SameCr → ⊥
unfolding answered
rows_alone_wants_cb claim =
    apart ((whole_chroma (ran_tinted 1 3) refl).cb refl)
    ((whole_chroma (ran_tinted 2 3) refl).cb refl) (tinted_the_same SameCr 1 3 2 3 refl claim).cb

pub rows_alone_wants_cr : RowsAloneUnder SameCb → ⊥
unfolding answered
rows_alone_wants_cr claim =
    apart ((whole_chroma (ran_tinted 3 1) refl).cr refl)
    ((whole_chroma (ran_tinted 3 2) refl).cr refl) (tinted_the_same SameCb 3 1 3 2 refl claim).cr

-- it speaks of runs whose padding and row steps differ: rows 5 and 6, one after the other, and with
-- two bytes of padding between; and of a format without chroma, whatever is in its place
abbrev unpadded : Strip
unpadded =
    record {
      by = straight_line;
      format = Gray8;
      height = 2;
      plane = 5 ∷ 6 ∷ [];
      step = 1;
      chroma = [];
    }

abbrev padded : Strip
padded = record {
  by = straight_line;
  format = Gray8;
  height = 2;
  plane = 5 ∷ 99 ∷ 98 ∷ 6 ∷ [];
  step = 3;
  chroma = 97 ∷ [];
}

pub rows_alone_with_padding :
    (a b : Call) × Share a b × Accepted a × Accepted b × AlikeInRows a b × AlikeInChroma a b
    × (a.given.lent.plane.step < b.given.lent.plane.step) × IsPadding b.given 1
unfolding answered in_row
rows_alone_with_padding =
    let a-bytes : AreBytes unpadded.plane = (lit< tt, (lit< tt, tt)) in
    let b-bytes : AreBytes padded.plane = (lit< tt, (lit< tt, (lit< tt, (lit< tt, tt)))) in
    let a = ran unpadded a-bytes in
    let b = ran padded b-bytes in
    let alike : AlikeInRows a b = λ p w. elim (ℕ_discrete p.row 0) [
      | yes top ↦
          let i : p.row * 1 + (p.column * 1 + p.channel) ≡ 0 =
          omega (arith, w.column, w.channel) in
          let j : p.row * 3 + (p.column * 1 + p.channel) ≡ 0 =
          omega (arith, w.column, w.channel) in
          rw (i, j)
      | no below ↦
          let i : p.row * 1 + (p.column * 1 + p.channel) ≡ 1 =
          omega (arith, w.row, w.column, w.channel) in
          let j : p.row * 3 + (p.column * 1 + p.channel) ≡ 3 =
          omega (arith, w.row, w.column, w.channel) in
          rw (i, j)
    ] in
    let grey-has-none : AlikeInChroma a b =
    record { cb = λ yuv. absurd (false≢true yuv); cr = λ yuv. absurd (false≢true yuv) } in (
      a,
      b,
      shared unpadded padded a-bytes b-bytes refl refl refl,
      refl,
      refl,
      alike,
      grey-has-none,
      lit< tt,
      refl,
    )

-- ---- programs that must not pass: one flat table for every set, and a copy of the
-- picture. Each misses a point's y
pub no_flat_table : (t : ℕ)
    → ((a : Call) → Accepted a → (p : Place) → TonedAt a.given p → output a p ≡ t) → ⊥
unfolding answered
no_flat_table t flat =
    let a = ran_grey straight_line 0 (lit< tt) in
    let b = ran_grey straight_line 255 (lit< tt) in
    let a-here = grey_toned straight_line 0 in
    let b_here = grey_toned straight_line 255 in
    omega (
      arith,
      flat a refl here a-here,
      flat b refl here b_here,
      through_level a refl linear_is_no_spline here a-here 0 0 (Memᴰ.head refl) refl,
      through_level b refl linear_is_no_spline here b_here 255 255
          (Memᴰ.tail (Memᴰ.head refl)) refl,
    )

abbrev lifted : Toning
lifted = record {
  list = at_level 128 200 ∷ [];
  kind = Linear;
  typed = ((lit< tt, lit< tt), tt);
  tension = lit< tt;
}

pub no_copy :
    ((a : Call) → Accepted a → (p : Place) → TonedAt a.given p → output a p ≡ input a p) → ⊥
unfolding answered
no_copy copied =
    let a = ran_grey lifted 128 (lit< tt) in
    let a-here = grey_toned lifted 128 in
    omega (
      arith,
      copied a refl here a-here,
      through_level a refl linear_is_no_spline here a-here 128 200 (Memᴰ.head refl) refl,
    )
