use Rattle.std.proofs.Common.{◌≡◌, ◌++◌, take}
use Rattle.std.specs.List.{flat_map}
use Rattle.py_frames.proofs.OwnLaws.{names_of_stmt, names_of_branch}
use Rattle.py_frames.proofs.own.+block.Given as goal

abbrev pub invariant-add_stmts-loop-stmt : goal.invariant-add_stmts-loop-stmt
invariant-add_stmts-loop-stmt l = l.names ≡ l.fn.names ++ flat_map names_of_stmt (take l.stmt-index l.stmts)

abbrev pub invariant-add_branches-loop-branch : goal.invariant-add_branches-loop-branch
invariant-add_branches-loop-branch l = l.names ≡ l.fn.names ++ flat_map names_of_branch (take l.branch-index l.all)
