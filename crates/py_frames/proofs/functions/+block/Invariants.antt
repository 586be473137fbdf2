use Rattle.std.proofs.Common.{◌≡◌, ◌++◌, map, take}
use Rattle.std.specs.List.{flat_map}
use Rattle.py_frames.specs.Tables.{known_body}
use Rattle.py_frames.proofs.TableLaws.{rows_of_stmt, rows_of_branch}
use Rattle.py_frames.proofs.functions.+block.Given as goal

abbrev pub invariant-add_stmts-loop-stmt : goal.invariant-add_stmts-loop-stmt
invariant-add_stmts-loop-stmt l = map known_body l.table.items ≡ map known_body l.fn.table.items ++ flat_map rows_of_stmt (take l.stmt-index l.stmts)

abbrev pub invariant-add_branches-loop-branch : goal.invariant-add_branches-loop-branch
invariant-add_branches-loop-branch l = map known_body l.table.items ≡ map known_body l.fn.table.items ++ flat_map rows_of_branch (take l.branch-index l.all)
