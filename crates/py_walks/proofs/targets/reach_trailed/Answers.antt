-- What trails spends its units but for the last, and its primary is waited for.
use Rattle.std.proofs.Common.{◌≡◌, ◌≤◌, ap, arith}
use Rattle.py_frames.specs.declared.state.State.{State}
use Rattle.py_walks.proofs.TargetLaws.{reach_waits, reach_stops}
use Rattle.py_walks.proofs.targets.reach_trailed.Goals as goal

pub returns-in-Ok-spend-clause-moves : goal.returns-in-Ok-spend-clause-moves
returns-in-Ok-spend-clause-moves c =
    let e : c.wait_for.new.going.state.used ≡ c.spend.new.going.state.used = ap (λ (g : State). g.used) c.wait_for.ensures.state in
    let le : c.spend.new.going.state.used ≤ c.wait_for.new.going.state.used = omega arith in
    reach_waits c.args.functions.now c.args.frozen.now c.wait_for.result c.args.going.now c.spend.new.going c.wait_for.new.going c.args.budget c.saturating_sub-units.result c.cost_of-all.result tt _ _ _ _ c.in-Ok.node c.requires.kind c.in-Ok.ensures c.cost_of-all.ensures c.saturating_sub-units.ensures c.in-Ok-spend.ensures le c.wait_for.ensures.moves

pub returns-in-Err-clause-moves : goal.returns-in-Err-clause-moves
returns-in-Err-clause-moves c = reach_stops c.args.functions.now c.args.frozen.now c.in-Err.halt c.args.going.now c.spend.new.going c.args.budget c.saturating_sub-units.result c.cost_of-all.result _ _ _ _ c.requires.kind c.cost_of-all.ensures c.saturating_sub-units.ensures c.in-Err.ensures
