-- A turn spends its unit, and its body goes on under a frame.
use Rattle.std.proofs.Common.{◌≡◌, ◌≤◌, ap, arith}
use Rattle.py_frames.specs.declared.state.State.{State}
use Rattle.py_statements.proofs.WhileLaws.{while_runs, while_stops}
use Rattle.py_statements.proofs.stmt_while.while_body.Goals as goal

pub returns-in-Ok-spend-clause-moves : goal.returns-in-Ok-spend-clause-moves
returns-in-Ok-spend-clause-moves c =
    let e : c.block_under.new.going.state.used ≡ c.spend.new.going.state.used = ap (λ (g : State). g.used) c.block_under.ensures.state in
    let le : c.spend.new.going.state.used ≤ c.block_under.new.going.state.used = omega arith in
    while_runs c.args.functions.now c.args.frozen.now c.block_under.result c.args.going.now c.spend.new.going c.block_under.new.going c.args.budget c.args.n _ c.in-Ok-spend.field-0 _ _ _ c.in-Ok.stmt c.requires.kind c.in-Ok.ensures c.in-Ok-spend.ensures le c.block_under.ensures.moves

pub returns-in-Err-clause-moves : goal.returns-in-Err-clause-moves
returns-in-Err-clause-moves c = while_stops c.args.functions.now c.args.frozen.now c.in-Err.halt c.args.going.now c.spend.new.going c.args.budget c.args.n _ _ _ _ c.requires.kind c.in-Err.ensures
