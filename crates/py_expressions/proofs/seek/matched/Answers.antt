use Rattle.std.proofs.Common.{sym, ◌∙◌, drop}
use Rattle.py_values.specs.declared.val.Val.TheVariants as val
use Rattle.py_frames.specs.Values.{sought}
use Rattle.py_frames.proofs.BeginLaws.{give_goes}
use Rattle.py_expressions.proofs.SeekLaws.{matched_same}
use Rattle.py_expressions.proofs.seek.matched.Goals as goal

pub returns-then-is_same_thing-clause-moves : goal.returns-then-is_same_thing-clause-moves
returns-then-is_same_thing-clause-moves c = matched_same c.args.functions.now c.args.frozen.now _ c.args.going.now c.args.going.now c.args.budget c.args.sign c.args.a c.args.x c.args.place (λ k. sought k c.args.sign c.args.a (drop c.args.next c.args.row) c.args.place) (sym c.is_same_thing.ensures ∙ c.if-is_same_thing.true) (give_goes c.args.functions.now c.args.frozen.now c.args.going.now c.args.budget (val.Bool c.args.sign))
