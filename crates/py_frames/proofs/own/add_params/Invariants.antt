use Rattle.std.proofs.Common.{◌≡◌, ◌++◌, take}
use Rattle.std.specs.List.{flat_map}
use Rattle.py_frames.proofs.OwnLaws.{names_of_param}
use Rattle.py_frames.proofs.own.add_params.Given as goal

abbrev pub invariant-loop-param : goal.invariant-loop-param
invariant-loop-param l = l.names ≡ l.fn.names ++ flat_map names_of_param (take l.param-index l.params)
