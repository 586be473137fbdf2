use Rattle.std.proofs.Common.{◌≡◌, ◌++◌, map, take}
use Rattle.py_frames.specs.Whole.{builtin_func}
use Rattle.py_frames.proofs.start.add_builtins.Given as goal

abbrev pub invariant-loop-builtin : goal.invariant-loop-builtin
invariant-loop-builtin l = l.heap ≡ record l.fn.heap { funcs = l.fn.heap.funcs ++ map builtin_func (take l.builtin-index l.which) }
