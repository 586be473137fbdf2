-- each loop: what is made so far are the parts so far within the class
use Rattle.std.proofs.Common.{◌≡◌, map, take}
use Rattle.py_tree.specs.Programs.{step_of, branch_of}
use Rattle.private_names.proofs.Rows.{step_within, branch_within}
use Rattle.private_names.proofs.class.Class.+block.Given as goal

abbrev pub invariant-block-loop-stmt : goal.invariant-block-loop-stmt
invariant-block-loop-stmt l = map step_of l.made.items ≡ map (step_within l.self.name) (take l.stmt-index l.stmt-items)

abbrev pub invariant-branches-loop-branch : goal.invariant-branches-loop-branch
invariant-branches-loop-branch l = map branch_of l.made.items ≡ map (branch_within l.self.name) (take l.branch-index l.branch-items)
