use Rattle.std.proofs.Common.{◌≡◌, map, take}
use Rattle.py_tree.specs.Programs.{import_of}
use Rattle.private_names.proofs.Rows.{import_within}
use Rattle.private_names.proofs.class.Class.imports.Given as goal

abbrev pub invariant-loop-one : goal.invariant-loop-one
invariant-loop-one l = map import_of l.made.items ≡ map (import_within l.self.name) (take l.one-index l.one-items)
