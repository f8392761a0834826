-- `push_pairs`: after i turns the pairs of the first i points are behind the draft.
use Rattle.std.proofs.Common.{
  ◌≡◌,
  ◌∙◌,
  arith,
  rules,
  length,
  get_or,
  w16,
  Fits,
  length-take-le,
  get_or-take,
}
use Rattle.std.proofs.Math.Seq.{take-length}
use Rattle.points.specs.Points.{places_of, list_of, pt}
use Rattle.points.specs.Joined.{places_long, place_at}
use Rattle.writing.specs.Encode.{pair_bytes}
use Rattle.writing.specs.Lengths.{pairs_length}
use Rattle.writing.proofs.Laws.{appended_none, appended_then, appended_as, pushed, pairs_next}
use Rattle.writing.proofs.push_pairs.Goals.{Start}
use Rattle.writing.proofs.push_pairs.Goals as goal

-- the list has as many points as its count
listed : (s : Start) → length (list_of s.args.curve.now) ≡ s.args.curve.now.count
listed s =
    let curve = s.args.curve.now in
    let long = places_long curve (search rules) in
    length-take-le curve.count (places_of curve) (omega arith)

pub loop-i-init : goal.loop-i-init
unfolding pair_bytes
loop-i-init c = (appended_none, omega arith)

pub loop-i-preserved : goal.loop-i-preserved
loop-i-preserved c =
    let a = c.args.curve.now in
    let n = listed (goal.at.loop-i-preserved c).Start in
    let next =
    rw (
      get_or-take a.count (places_of a) c.loop-i.i (pt 0 0) (omega arith),
      place_at a c.loop-i.i (search rules) (omega arith),
    ) at
    (pairs_next (list_of a) c.loop-i.i (omega arith)) in
    let two =
    appended_then (pushed _ _ _ c.push.ensures.items) (pushed _ _ _ c.push-in-loop-i.ensures.items) in (
      appended_as (appended_then c.loop-i.invariant.0 two) next,
      omega arith,
    )

-- there is room for two bytes more
pub push-requires : goal.push-requires
push-requires c =
    let n = listed (goal.at.push-requires c).Start in
    let all = pairs_length (list_of c.args.curve.now) in
    omega arith

pub push-requires-in-loop-i : goal.push-requires-in-loop-i
push-requires-in-loop-i c =
    let n = listed (goal.at.push-requires-in-loop-i c).Start in
    let all = pairs_length (list_of c.args.curve.now) in
    omega arith

pub returns : goal.returns
returns c =
    let all : length (list_of c.args.curve.now) ≡ c.loop-i.i =
    listed (goal.at.returns c).Start ∙ omega arith in
    rw (← all, take-length) at c.loop-i.invariant.0

-- a level is a byte
pub overflow_cast-curve : goal.overflow_cast-curve
overflow_cast-curve c =
    let a = c.args.curve.now in
    let word : Fits w16 (get_or a.ys c.loop-i.i 0) = search rules in
    omega (arith, word.fits)
