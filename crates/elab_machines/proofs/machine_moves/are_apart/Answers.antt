use Rattle.std.proofs.Common.{rules, sym, ◌∙◌, ◌+◌, drop}
use Rattle.std.specs.List.{list_all}
use Rattle.elab_machines.specs.StateMachines.{is_apart}
use Rattle.elab_machines.proofs.MachineLaws.{apart_next, apart_not}
use Rattle.elab_machines.proofs.machine_moves.are_apart.Goals as goal

pub loop-k-preserved : goal.loop-k-preserved
loop-k-preserved c =
    apart_next c.args.machine.now c.args.pool.now.exprs c.loop-k.k c.at.result.now (list_all (is_apart c.args.machine.now) (drop (c.args.machine.now.register.0 + 1) c.args.pool.now.exprs)) c.at.ensures (sym c.is_apart.ensures ∙ search rules) c.loop-k.invariant

pub returns-then-not-is_apart : goal.returns-then-not-is_apart
returns-then-not-is_apart c =
    apart_not c.args.machine.now c.args.pool.now.exprs c.loop-k.k c.at.result.now (list_all (is_apart c.args.machine.now) (drop (c.args.machine.now.register.0 + 1) c.args.pool.now.exprs)) c.at.ensures (sym c.is_apart.ensures ∙ search rules) c.loop-k.invariant
