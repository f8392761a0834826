-- `read_curve` meets its contract: each way out is one of the cases of a list, in their order.
use Rattle.std.proofs.Common.{◌≡◌, sym, ◌∙◌, ◌*◌, ◌≤◌, true, [], ◌∷◌, le-ltb, ltb, length, drop, rules}
use Rattle.std.proofs.lemmas.List.{take_rest}
use Rattle.answers.specs.declared.Refusal.TheVariants.{PointCount}
use Rattle.answers.specs.Checks.{◌when◌, first_refusal}
use Rattle.answers.specs.Numbers.{done}
use Rattle.points.specs.CheckLaws.{few_points}
use Rattle.points.specs.Order.{All, Typed, all_take}
use Rattle.points.specs.Joined.{rows_typed}
use Rattle.points.specs.Points.{limit, list_of, rises}
use Rattle.records.specs.Parse.{good, checked}
use Rattle.records.specs.declared.point_lists.Edition.TheVariants.{One}
use Rattle.records.specs.PointLists.{point_bytes, pairs, count_checks, pair_checks, read_points, read_list}
use Rattle.records.specs.CheckLaws.{checked_goes_on}
use Rattle.records.specs.LevelLaws.{pairs_allowed}
use Rattle.records.proofs.Lists.{list_passes}
use Rattle.records.proofs.point_lists.read_curve.Goals as goal

pub returns-in_default : goal.returns-in_default
unfolding read_list read_points
returns-in_default c = search rules

pub returns-in_err-check_stored_count : goal.returns-in_err-check_stored_count
unfolding read_list read_points
returns-in_err-check_stored_count c = search rules

pub returns-then-rest-bytes : goal.returns-then-rest-bytes
unfolding read_list read_points
returns-then-rest-bytes c = search rules

pub returns-then-not-is_rising : goal.returns-then-not-is_rising
unfolding read_list read_points
returns-then-not-is_rising c = search rules

pub returns : goal.returns
unfolding read_list read_points
returns c =
    let least = c.args.least in
    let n = c.in-Some.n.now in
    let s = c.in-Some.rest.now in
    let p = c.read_points-curve in
    let passed : first_refusal (count_checks least n) ≡ done =
    sym c.check_stored_count.ensures ∙ c.in_ok-check_stored_count.was in
    let few : n ≤ limit = few_points n (PointCount when ltb n least ∷ []) passed in
    let there : n * point_bytes One ≤ length s = rw c.point_bytes.ensures at c.if-rest-bytes.false in
    let rising : rises (list_of p.result) ≡ true = sym c.is_rising.ensures ∙ c.if-not-is_rising.false in
    let typed : All Typed (list_of p.result) =
    all_take Typed _ _ (rows_typed p.result.xs p.result.ys (λ i. search rules) (λ i. search rules)) in
    let counted : read_list least c.args.rest.now
    ≡ checked (pair_checks n s) (good (pairs One n s) (drop (n * point_bytes One) s)) =
    rw c.in-Some.ensures.cases.0 (checked_goes_on _ (count_checks least n) (pair_checks n s) passed) in
    record {
      list =
          rw (take_rest, c.point_bytes.ensures, p.ensures.0)
          (sym (counted ∙ rw (le-ltb (length s) (n * point_bytes One) there, rw p.ensures.0 at rising)));
      legal =
          list_passes p.result (rw p.ensures.1 few) rising
          (rw p.ensures.0 (pairs_allowed _ _ (rw p.ensures.0 at typed)));
    }
