use Rattle.std.proofs.Common.{arith}
use Rattle.py_tree.specs.Seen.{trailer_of}
use Rattle.py_calls.proofs.SliceLaws.{part_over}
use Rattle.py_calls.proofs.trail_slice.part_in.Goals as goal

pub returns-in_default-n : goal.returns-in_default-n
returns-in_default-n c = part_over (trailer_of c.args.trailer.now) c.args.n (omega arith)
