use Rattle.std.proofs.Common.{◌≡◌, ◌++◌, map, take}
use Rattle.py_tree.specs.Programs.{import_of}
use Rattle.py_frames.specs.Own.{import_bound}
use Rattle.py_frames.proofs.own.add_imported.Given as goal

abbrev pub invariant-loop-one : goal.invariant-loop-one
invariant-loop-one l = l.names ≡ l.fn.names ++ map import_bound (map import_of (take l.one-index l.imported))
