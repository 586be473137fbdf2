use Rattle.std.proofs.Common.{◌<◌, length, arith}
use Rattle.py_tree.specs.Seen.{tree}
use Rattle.py_callables.proofs.MeetLaws.{behind_there}
use Rattle.py_callables.proofs.call_meet.default_behind.Goals as goal

pub returns-in-Some-clause-behind : goal.returns-in-Some-clause-behind
returns-in-Some-clause-behind c =
    let h : c.args.at < length c.args.defaults.now = omega (arith, c.if-at-defaults.true) in
    rw c.in-Some.is (behind_there (tree c.in-Some.field-0) c.args.defaults.now c.args.at h)
