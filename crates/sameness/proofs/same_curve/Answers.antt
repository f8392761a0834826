-- `same_curve`: the points that count are the first n of both.
use Rattle.std.proofs.Common.{◌≡◌, sym, ◌∙◌, rules, take}
use Rattle.points.specs.Points.{places_of, list_of}
use Rattle.points.specs.Joined.{places_long}
use Rattle.points.specs.Owned.{limited_list}
use Rattle.sameness.proofs.Deciding.{decides_as}
use Rattle.sameness.proofs.same_curve.Goals as goal

pub returns : goal.returns
returns c =
    let a = c.args.a in
    let b = c.args.b in
    let e : a.count ≡ b.count = c.if-a-b.false in
    let n = c.min-n.result in
    let p : take n (places_of a) ≡ list_of a =
    rw c.min-n.ensures (limited_list (places_of a) a.count (places_long a (search rules))) in
    let q : take n (places_of b) ≡ list_of b =
    rw (c.min-n.ensures, e) (limited_list (places_of b) b.count (places_long b (search rules))) in
    decides_as (λ t. record { count = e; points = sym p ∙ t ∙ q }) (λ s. p ∙ s.points ∙ sym q)
    c.same_points.ensures
