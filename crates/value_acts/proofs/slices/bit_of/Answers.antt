use Rattle.std.proofs.Common.{sym}
use Rattle.value_acts.proofs.SliceLaws.{slice_get-bits, slice_get-bits_past}
use Rattle.value_acts.proofs.slices.bit_of.Goals as goal

pub returns-then-n-width : goal.returns-then-n-width
returns-then-n-width c = sym (slice_get-bits c.args.width c.args.n c.if-n-width.true)

pub returns-else-n-width : goal.returns-else-n-width
returns-else-n-width c = sym (slice_get-bits_past c.args.width c.args.n c.if-n-width.false)
