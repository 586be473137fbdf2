use Rattle.std.proofs.Common.{arith}
use Rattle.py_tree.specs.Programs.{steps_of}
use Rattle.py_parser.proofs.BlockWholes.{whole_read, left_over, halted_at, stuck}
use Rattle.py_parser.proofs.block_file.read_lines.Goals as goal

pub returns-then-at-lines : goal.returns-then-at-lines
returns-then-at-lines g c = left_over c.args.lines.now (steps_of c.in-Ok.body) c.in-Ok.at c.in-Ok.ensures c.if-at-lines.true

pub returns-else-at-lines : goal.returns-else-at-lines
returns-else-at-lines g c = whole_read c.args.lines.now (steps_of c.in-Ok.body) c.in-Ok.at c.requires c.in-Ok.ensures (omega (arith, c.if-at-lines.false))

pub returns-in-Err-Stuck : goal.returns-in-Err-Stuck
returns-in-Err-Stuck g c = stuck c.args.lines.now c.in-Err-Stuck.at c.min.result c.requires (halted_at c.args.lines.now c.in-Err-Stuck.field-0 c.in-Err-Stuck.at _ c.in-Err-Stuck.field-0-is c.in-Err-Stuck.ensures) c.min.ensures
