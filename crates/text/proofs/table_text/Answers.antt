-- `table_text`: a turn puts the three characters of entry i.
use Rattle.std.proofs.Common.{◌≡◌, ap, ◌∙◌, sym, ◌+◌, ◌*◌, length, arith}
use Rattle.lists.specs.Tabulate.{tabulate, length_tabulate}
use Rattle.text.specs.Text.{character_at}
use Rattle.text.proofs.Laws.{place, tabulate_next}
use Rattle.text.proofs.table_text.Goals.{At-loop-i}
use Rattle.text.proofs.table_text.Goals as goal

-- so many characters have been put
put : (c : At-loop-i) → length c.loop-i.text.items ≡ c.loop-i.i * 3
put c =
    ap length c.loop-i.invariant ∙ length_tabulate (c.loop-i.i * 3) (character_at c.args.table.now)

pub push-requires : goal.push-requires
push-requires c = let n = put (goal.at.push-requires c).At-loop-i in omega arith

pub push-requires-in-loop-i : goal.push-requires-in-loop-i
push-requires-in-loop-i c =
    let n = put (goal.at.push-requires-in-loop-i c).At-loop-i in omega arith

pub push-requires-in-loop-i-2 : goal.push-requires-in-loop-i-2
push-requires-in-loop-i-2 c =
    let n = put (goal.at.push-requires-in-loop-i-2 c).At-loop-i in omega arith

pub loop-i-init : goal.loop-i-init
unfolding tabulate
loop-i-init c = c.new-text.ensures

pub loop-i-preserved : goal.loop-i-preserved
loop-i-preserved c =
    let t = c.args.table.now in
    let i = c.loop-i.i in
    let f = character_at t in
    let one =
    tabulate_next (i * 3) f _ _ _ c.loop-i.invariant c.push.ensures.items
    (c.digit.ensures ∙ sym (place t i 0 (i * 3) (omega arith) (omega arith))) in
    let two =
    tabulate_next (i * 3 + 1) f _ _ _ one c.push-in-loop-i.ensures.items
    (c.digit-in-loop-i.ensures ∙ sym (place t i 1 (i * 3 + 1) (omega arith) (omega arith))) in
    let three =
    tabulate_next (i * 3 + 1 + 1) f _ _ _ two c.push-in-loop-i-2.ensures.items
    (c.after.ensures ∙ sym (place t i 2 (i * 3 + 1 + 1) (omega arith) (omega arith))) in
    let all : i * 3 + 1 + 1 + 1 ≡ (i + 1) * 3 = omega arith in
    rw all at three

pub returns : goal.returns
returns c =
    let all : c.loop-i.i * 3 ≡ 768 = omega arith in
    let put = rw all at c.loop-i.invariant in
    c.of.ensures ∙ put
