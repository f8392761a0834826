-- `read_set` meets its contract: each way out is a field that refuses, or the end.
use Rattle.std.proofs.Common.{arith, rules}
use Rattle.records.specs.Format.{read_fields, read_record}
use Rattle.records.proofs.Members.{at_end, set_passes, channel_passes}
use Rattle.records.proofs.read_set.Goals as goal

pub returns-then-not-is_empty : goal.returns-then-not-is_empty
unfolding read_record read_fields
returns-then-not-is_empty c = grind (arith, at_end)

pub returns : goal.returns
unfolding read_record read_fields
returns c =
    record {
      is = rw (
        c.in-Some.ensures.cases.0,
        ← c.has_bit.ensures,
        ← c.in_ok-master.ensures.list,
        ← c.in_ok-red.ensures.list,
        ← c.in_ok-green.ensures.list,
        ← c.in_ok-blue.ensures.list,
        ← c.has_bit-2.ensures,
        ← c.unnamed_kind.ensures,
        ← c.in_ok-interpolation.ensures,
        at_end,
        ← c.is_empty.ensures,
        c.if-not-is_empty.false,
        ← c.in_ok-red.ensures.mark,
        ← c.in_ok-green.ensures.mark,
        ← c.in_ok-blue.ensures.mark,
      );
      whole = record {
        legal =
            set_passes _
            (record {
              master = c.in_ok-master.ensures.legal;
              red = channel_passes _ c.in_ok-red.ensures.legal;
              green = channel_passes _ c.in_ok-green.ensures.legal;
              blue = channel_passes _ c.in_ok-blue.ensures.legal;
            });
        full = search rules;
      };
    }
