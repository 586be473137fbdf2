use Rattle.std.proofs.Common.{◌∙◌, ◌≤◌, ◌++◌, ap, length, take_all, arith}
use Rattle.std.specs.List.{flat_map}
use Rattle.py_frames.proofs.OwnLaws.{names_of_branch, flat_map_branches, names_of_stmt, flat_map_stmts}
use Rattle.py_frames.proofs.own.+block.Goals as goal

pub add_branches-returns : goal.add_branches-returns
add_branches-returns t c =
    let end : length c.args.all.now ≤ c.loop-branch.branch-index = omega (arith, c.loop-branch-test.false) in
    c.loop-branch.invariant ∙ ap (λ z. c.args.names.now ++ flat_map names_of_branch z) (take_all c.loop-branch.branch-index c.args.all.now end) ∙ ap (λ z. c.args.names.now ++ z) (flat_map_branches c.args.all.now)

pub add_stmts-returns : goal.add_stmts-returns
add_stmts-returns t c =
    let end : length c.args.stmts.now ≤ c.loop-stmt.stmt-index = omega (arith, c.loop-stmt-test.false) in
    c.loop-stmt.invariant ∙ ap (λ z. c.args.names.now ++ flat_map names_of_stmt z) (take_all c.loop-stmt.stmt-index c.args.stmts.now end) ∙ ap (λ z. c.args.names.now ++ z) (flat_map_stmts c.args.stmts.now)
