use Rattle.std.proofs.Common.{sym, ◌∙◌}
use Rattle.std.specs.List.{list_any}
use Rattle.elab_eval.specs.Elaborates.{is_nameless}
use Rattle.elab_eval.proofs.NamedResets.{nameless_next, nameless_here}
use Rattle.elab_eval.proofs.finish.has_nameless.Goals as goal

pub loop-i-preserved : goal.loop-i-preserved
loop-i-preserved c =
    nameless_next c.args.pool.now.exprs c.loop-i.i c.at.result.now (list_any is_nameless c.args.pool.now.exprs) c.at.ensures (sym c.in_ok-is_nameless.ensures ∙ c.if-branch.false) c.loop-i.invariant

pub returns-then-branch : goal.returns-then-branch
returns-then-branch c =
    nameless_here c.args.pool.now.exprs c.loop-i.i c.at.result.now (list_any is_nameless c.args.pool.now.exprs) c.at.ensures (sym c.in_ok-is_nameless.ensures ∙ c.if-branch.true) c.loop-i.invariant
