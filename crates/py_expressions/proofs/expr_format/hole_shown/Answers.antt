use Rattle.std.proofs.Common.{◌∙◌, ap, ◌++◌, List, ℕ}
use Rattle.py_expressions.proofs.ExprFormat.{hole_shown, hole_unshown}
use Rattle.py_expressions.proofs.expr_format.hole_shown.Goals as goal

pub returns-in-Past-clause-shown : goal.returns-in-Past-clause-shown
returns-in-Past-clause-shown c = λ rest. rw c.stopped-in-Past.ensures (hole_unshown c.args._functions.now c.args.frozen.now c.args.going.now c.args._budget c.args.done.now c.args.name.now rest c.args.place c.in-Some.v c.in-Some.ensures c.in-Past.ensures)

pub returns-in-Ok-clause-shown : goal.returns-in-Ok-clause-shown
returns-in-Ok-clause-shown c = λ rest r y le h. hole_shown c.args._functions.now c.args.frozen.now r c.args.going.now y c.args._budget c.args.done.now c.push.new.self c.args.name.now c.in-Part.text rest c.args.place c.in-Some.v c.in-Some.ensures c.in-Part.ensures (c.in-Ok.ensures.ok ∙ ap (λ (z : List ℕ). c.args.done.now ++ z) c.as_str.ensures) h
