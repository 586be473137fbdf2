use Rattle.std.proofs.Common.{◌<◌, ◌*◌, length, refl}
use Rattle.py_heap.specs.Heaps.{seen}
use Rattle.py_builtins.proofs.TupleLaws.{zipped_passes}
use Rattle.py_builtins.proofs.tuples.zipped.Goals as goal

pub returns-then-are_too_many : goal.returns-then-are_too_many
returns-then-are_too_many c =
    let h : 4194304 < c.args.n * length c.args.vs.now = c.if-are_too_many.ensures.0 refl in
    zipped_passes (seen c.args.frozen.now c.args.heap.now) c.args.vs.now c.args.n h
