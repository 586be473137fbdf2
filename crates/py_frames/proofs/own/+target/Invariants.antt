use Rattle.std.proofs.Common.{◌≡◌, ◌++◌, take}
use Rattle.std.specs.List.{flat_map}
use Rattle.py_frames.proofs.OwnLaws.{names_of_target}
use Rattle.py_frames.proofs.own.+target.Given as goal

abbrev pub invariant-add_targets-loop-target : goal.invariant-add_targets-loop-target
invariant-add_targets-loop-target l = l.names ≡ l.fn.names ++ flat_map names_of_target (take l.target-index l.targets)
