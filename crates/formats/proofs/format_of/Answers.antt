-- `format_of`: the array is the definition's list, and past its end it has the same answer.
use Rattle.std.proofs.Common.{refl, sym}
use Rattle.std.proofs.Math.ListN.{get_or-eq_default}
use Rattle.formats.specs.declared.PixelFormat.TheVariants.{Gray8}
use Rattle.formats.specs.Formats.{in_order, format_of}
use Rattle.formats.proofs.format_of.Goals as goal

pub returns-then-n-le-LAST : goal.returns-then-n-le-LAST
unfolding format_of
returns-then-n-le-LAST c = refl

pub returns-else-n-le-LAST : goal.returns-else-n-le-LAST
unfolding format_of
returns-else-n-le-LAST c = sym (get_or-eq_default in_order Gray8 c.if-n-le-LAST.false)
