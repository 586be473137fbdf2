use Rattle.std.proofs.Common.{sym}
use Rattle.py_operators.proofs.ElementLaws.{slice_get-keys_in, keys_past}
use Rattle.py_operators.proofs.goes_over.key_at.Goals as goal

pub returns-then-i-row : goal.returns-then-i-row
returns-then-i-row c = sym (slice_get-keys_in c.args.row.now c.args.i c.index-row-i.result c.if-i-row.true c.index-row-i.is)

pub returns-else-i-row : goal.returns-else-i-row
returns-else-i-row c = sym (keys_past c.args.row.now c.args.i c.if-i-row.false)
