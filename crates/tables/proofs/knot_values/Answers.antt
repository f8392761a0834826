-- `tables::knot_values`: each kind its rule.
use Rattle.std.proofs.Common.{◌≡◌, refl, sym, ap, ◌∙◌, List, ℕ, ◌≤◌, arith, Float, replicate, rules}
use lib.ListN.{get_or-replicate}
use Rattle.lists.specs.Tabulate.{filled}
use Rattle.lists.specs.Stored.{Stored, stored_none, stored_kept, stored_front}
use Rattle.single.specs.Constants.{𝟎}
use Rattle.spline.specs.Segments.{slope_of}
use Rattle.tables.proofs.knot_values.Goals as goal

-- what a rule leaves in a row l of zeros
made : {f : ℕ → Float} {n : ℕ} {l m : List Float} → Stored f 0 n l m → l ≡ replicate 66 𝟎 → n ≤ 66
    → m ≡ filled n f (replicate 66 𝟎)
made r zeros most = stored_front (rw zeros at r) refl most

-- Linear has no values at the knots: its row is all 0
none : {n : ℕ} {l : List Float} → l ≡ replicate 66 𝟎 → n ≤ 66 → l ≡ filled n (λ i. 𝟎) (replicate 66 𝟎)
none zeros most =
    made
    (stored_kept {b = 0} stored_none 𝟎 (omega arith)
    (λ w low high. rw zeros (sym (get_or-replicate 66 w 𝟎 𝟎 (omega arith)))))
    zeros most

pub returns-in-Linear : goal.returns-in-Linear
returns-in-Linear c = rw c.in-Linear.is (none c.requires c.args.knots.now.room)

pub returns-in-CatmullRom : goal.returns-in-CatmullRom
returns-in-CatmullRom c = rw c.in-CatmullRom.is (made c.catmull_rom.ensures c.requires c.args.knots.now.room)

pub returns-in-MonotoneCubic : goal.returns-in-MonotoneCubic
returns-in-MonotoneCubic c = rw c.in-MonotoneCubic.is (made c.cubic.ensures c.requires c.args.knots.now.room)

pub returns-in-MonotoneCubicBox : goal.returns-in-MonotoneCubicBox
returns-in-MonotoneCubicBox c = rw c.in-MonotoneCubicBox.is (made c.cubic_box.ensures c.requires c.args.knots.now.room)

pub returns-in-NaturalCubic : goal.returns-in-NaturalCubic
returns-in-NaturalCubic c = rw c.in-NaturalCubic.is (made c.second_derivatives.ensures c.requires c.args.knots.now.room)

pub returns-in-CentripetalCatmullRom : goal.returns-in-CentripetalCatmullRom
returns-in-CentripetalCatmullRom c = rw c.in-CentripetalCatmullRom.is (made c.centripetal.ensures c.requires c.args.knots.now.room)

pub returns-in-ChordalCatmullRom : goal.returns-in-ChordalCatmullRom
returns-in-ChordalCatmullRom c = rw c.in-ChordalCatmullRom.is (made c.chordal.ensures c.requires c.args.knots.now.room)

pub returns-in-Cardinal : goal.returns-in-Cardinal
returns-in-Cardinal c = rw c.in-Cardinal.is (made c.cardinal.ensures c.requires c.args.knots.now.room)

pub returns-in-ClampedCubic : goal.returns-in-ClampedCubic
returns-in-ClampedCubic c =
    let k = c.in-ClampedCubic in
    let start : c.clamped_slope-s0.result ≡ slope_of k.start_slope_q8 =
    c.clamped_slope-s0.ensures ∙ ap slope_of (search rules) in
    let end : c.clamped_slope-s1.result ≡ slope_of k.end_slope_q8 =
    c.clamped_slope-s1.ensures ∙ ap slope_of (search rules) in
    rw k.is (made (rw (start, end) at c.second_derivatives-in-ClampedCubic.ensures) c.requires c.args.knots.now.room)

pub returns-in-NotAKnotCubic : goal.returns-in-NotAKnotCubic
returns-in-NotAKnotCubic c = rw c.in-NotAKnotCubic.is (made c.second_derivatives-in-NotAKnotCubic.ensures c.requires c.args.knots.now.room)
