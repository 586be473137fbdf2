use Rattle.std.proofs.Common.{◌<◌, ◌∙◌, arith, length, length-set}
use Rattle.sim_plans.specs.Ports.{write_exprs}
use Rattle.delta_sim.proofs.PortTurns.{known_turn}
use Rattle.delta_sim.proofs.SameRows.{noted_turn, noted_all}
use Rattle.delta_sim.proofs.ports.note_all.Goals as goal

pub written_row-requires : goal.written_row-requires
written_row-requires c =
    let h : c.loop-i.i < length c.args.m.now.writes = omega (arith, c.loop-i-test.true, c.len-i-end.ensures) in
    (known_turn c.args.design.now.pool c.args.env.now c.args.nums.now write_exprs c.args.m.now.writes c.loop-i.i c.get.result.now h c.get.ensures.item c.loop-i.invariant.known).0

pub loop-i-preserved : goal.loop-i-preserved
loop-i-preserved c =
    let pool = c.args.design.now.pool in
    let ws = c.args.m.now.writes in
    let h : c.loop-i.i < length ws = omega (arith, c.loop-i-test.true, c.len-i-end.ensures) in
    let inside : c.loop-i.i < length c.loop-i.room.items = omega (arith, h, c.loop-i.invariant.long, c.requires.room) in
    record {
      long = length-set c.loop-i.room.items c.loop-i.i c.written_row.result ∙ c.loop-i.invariant.long;
      known = (known_turn pool c.args.env.now c.args.nums.now write_exprs ws c.loop-i.i c.get.result.now h c.get.ensures.item c.loop-i.invariant.known).1;
      noted = noted_turn pool c.args.env.now c.args.rows.now ws c.loop-i.i c.get.result.now c.loop-i.room.items c.written_row.result inside c.get.ensures.lookup c.written_row.ensures c.loop-i.invariant.noted;
    }

pub returns-clause-noted : goal.returns-clause-noted
returns-clause-noted c = noted_all c.args.design.now.pool c.args.env.now c.args.rows.now c.args.m.now.writes c.loop-i.i c.loop-i.room.items (omega (arith, c.loop-i-test.false, c.len-i-end.ensures)) c.loop-i.invariant.noted
