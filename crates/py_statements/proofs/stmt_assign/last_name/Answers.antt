-- The name is the target, and no target stands from the next number on.
use Rattle.std.proofs.Common.{◌≤◌, length, arith}
use Rattle.py_statements.proofs.AssignLaws.{target_lacks}
use Rattle.py_statements.proofs.stmt_assign.last_name.Goals as goal

pub returns-in-Some : goal.returns-in-Some
returns-in-Some c =
    let le : length c.args.targets.now.items ≤ c.args.next = omega arith in
    (c.in-Some.ensures, target_lacks c.args.targets.now.items c.args.next le)
