-- `table_text`: a turn puts the three characters of entry i.
use Rattle.std.proofs.Common.{◌*◌, ◌≡◌}
use Rattle.lists.specs.Tabulate.{tabulate}
use Rattle.text.specs.Text.{character_at}
use Rattle.text.proofs.table_text.Given as goal

abbrev pub invariant-loop-i : goal.invariant-loop-i
invariant-loop-i l = l.text.items ≡ tabulate (l.i * 3) (character_at l.table)
