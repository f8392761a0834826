-- `read_points` meets its contract. At each turn the points read and those still to read are all of
-- them.
use Rattle.std.proofs.Common.{ℕ, suc, ◌<◌, ◌-◌, ◌+◌, ◌*◌, ◌≡◌, sym, ◌∙◌, List, ◌++◌, append-nil, add-one, arith, length, take, drop, set, length-set, take-suc-set, drop-drop}
use Rattle.std.proofs.lemmas.List.{take_rest}
use lib.Seq.{append_snoc}
use Rattle.points.specs.declared.Point.{Point}
use Rattle.points.specs.Points.{joined, places_of}
use Rattle.points.specs.Joined.{joined_set, places_long}
use Rattle.records.specs.declared.point_lists.Edition.{Edition}
use Rattle.records.specs.PointLists.{point_bytes, point_of, pairs}
use Rattle.records.proofs.point_lists.read_points.Goals as goal

left-suc : (n i : ℕ) → i < n → n - i ≡ suc (n - (i + 1))
left-suc n i h = omega arith

module _ (edition : Edition) (s : List ℕ) (n i at next : ℕ) where
  pairs-more : (xs ys : List ℕ) (p : Point) → i < n → i < length (joined xs ys)
      → next ≡ at + point_bytes edition → p ≡ point_of edition (drop at s)
      → take (i + 1) (joined (set xs i p.x) (set ys i p.y)) ++ pairs edition (n - (i + 1)) (drop next s)
      ≡ take i (joined xs ys) ++ pairs edition (n - i) (drop at s)
  unfolding pairs
  pairs-more xs ys p h room step e =
      rw (
        joined_set xs ys i p.x p.y,
        left-suc n i h,
        add-one i,
        take-suc-set (joined xs ys) i p room,
        e,
        step,
        drop-drop (point_bytes edition) at s,
      )
      (append_snoc (take i (joined xs ys)) _ _)

  pairs-done : (ps all : List Point) → i ≡ n → take i ps ++ pairs edition (n - i) (drop at s) ≡ all
      → take n ps ≡ all
  unfolding pairs
  pairs-done ps all e inv =
      let none : n - n ≡ 0 = omega arith in
      sym (append-nil (take n ps)) ∙ (rw (e, none) at inv)

pub loop-i-preserved : goal.loop-i-preserved
loop-i-preserved c =
    let a = c.args in
    let k = point_bytes a.edition in
    let i = c.loop-i.i in
    let curve = c.loop-i.curve in
    let full = c.loop-i.invariant.0 in
    let point : c.read_point-point.result ≡ point_of a.edition (drop (i * k) a.bytes.now) =
    rw (take_rest, c.point_bytes-stride.ensures) at c.read_point-point.ensures in (
      record { xs = simp length-set full.xs; ys = simp length-set full.ys },
      pairs-more a.edition a.bytes.now a.n i (i * k) ((i + 1) * k) curve.xs curve.ys
          c.read_point-point.result (omega arith) (omega (arith, places_long curve full)) (omega arith) point
          ∙ c.loop-i.invariant.1,
      c.loop-i.invariant.2,
    )

pub returns : goal.returns
returns c =
    let a = c.args in
    let curve = c.loop-i.curve in
    let i = c.loop-i.i in
    let read =
    pairs-done a.edition a.bytes.now a.n i (i * point_bytes a.edition) 0 (places_of curve) _ (omega arith)
    c.loop-i.invariant.1 in
    (rw c.loop-i.invariant.2 read, c.loop-i.invariant.2)
