use Rattle.std.proofs.Common.{◌∙◌, sym, arith}
use Rattle.py_tree.specs.Seen.{tree}
use Rattle.py_frames.specs.Parts.{operator_of}
use Rattle.py_statements.proofs.AugmentBegins.{begins_spent}
use Rattle.py_statements.proofs.augment_begin.augment_begun.Goals as goal

pub returns-in-Ok-clause-moves : goal.returns-in-Ok-clause-moves
returns-in-Ok-clause-moves c = begins_spent c.args.functions.now c.args.frozen.now c.target_changed.result c.args.going.now c.spend.new.going c.target_changed.new.going c.args.budget c.cost_of.result tt (tree c.args.target.now) c.place_of-2.result c.args.s.now.place (operator_of c.args.sign) (tree c.args.right.now) (sym c.can_change.ensures ∙ c.if-not-can_change.false) c.cost_of.ensures c.place_of-2.ensures c.in-Ok.ensures (omega (arith, c.target_changed.ensures.used)) c.target_changed.ensures.moves
