-- `draw` of any form by parts: a turn draws the block at the cursor, by the parts found the turn
-- before.
use Rattle.std.proofs.Common.{refl, arith, rules, ◌≡◌, get_or}
use Rattle.std.specs.Float.{nan}
use Rattle.sampling.proofs.Walk.{next, start, after_block}
use Rattle.sampling.specs.Walk.{piece_of}
use Rattle.sampling.proofs.Drawing.{at_parts}
use Rattle.sampling.proofs.by_part.AnyDrawn.draw.Goals as goal

pub loop-p-init : goal.loop-p-init
loop-p-init g c = (omega arith, start refl (omega arith), c.parts-t.ensures)

pub parts-u-requires : goal.parts-u-requires
parts-u-requires g c =
    let given = c.requires in
    let on = next c.loop-p.invariant.1.room given (omega arith) c.next-q.ensures in
    (given.right.wide _ on.room, omega arith, omega arith)

pub loop-p-smaller : goal.loop-p-smaller
loop-p-smaller g c = omega (arith, next c.loop-p.invariant.1.room c.requires (omega arith) c.next-q.ensures)

pub loop-p-preserved : goal.loop-p-preserved
loop-p-preserved g c =
    let given = c.requires in
    let on = next c.loop-p.invariant.1.room given (omega arith) c.next-q.ensures in (
      omega arith,
      after_block c.loop-p.invariant.1 on given.step_is
          (c.four.ensures _ (λ j y low e.
          let is : y ≡ g.P.ByPart.at_part c.at-piece.result (get_or c.loop-p.t j nan) = search rules in
          rw (is, c.at-piece.ensures, c.loop-p.invariant.2)
          (at_parts g.P.ByPart.by_form g.P.ByPart.at_part (piece_of c.args.pieces c.loop-p.p.i) c.args.step c.loop-p.p.v j low (g.met.P.ByPart.is _)))),
      c.parts-u.ensures,
    )
