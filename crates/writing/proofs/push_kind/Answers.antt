-- `push_kind`: its byte, where it is named.
use Rattle.writing.proofs.Laws.{pushed}
use Rattle.writing.proofs.push_kind.Goals as goal

pub returns-then-names_kind : goal.returns-then-names_kind
returns-then-names_kind c =
    rw (← c.names_kind.ensures, c.if-names_kind.true, ← c.number.ensures) (pushed _ _ _ c.push.ensures.items)
