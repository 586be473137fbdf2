use Rattle.std.proofs.Common.{◌≡◌, ◌<◌, ◌∙◌, sym, arith, length, pos, slice_index_or}
use Rattle.sim_plans.specs.Ports.{write_exprs}
use Rattle.delta_sim.proofs.PortTurns.{known_turn}
use Rattle.delta_sim.proofs.SameRows.{noted_more, noted_all}
use Rattle.sim_plans.proofs.Turns.{any_default}
use Rattle.delta_sim.proofs.ports.any_differs.Goals as goal

pub written_row-row-requires : goal.written_row-row-requires
written_row-row-requires c =
    let h : c.loop-i.i < length c.args.m.now.writes = omega (arith, c.loop-i-test.true, c.len-i-end.ensures) in
    (known_turn c.args.design.now.pool c.args.env.now c.args.nums.now write_exprs c.args.m.now.writes c.loop-i.i c.get.result.now h c.get.ensures.item c.loop-i.invariant.known).0

pub loop-i-preserved : goal.loop-i-preserved
loop-i-preserved c =
    let pool = c.args.design.now.pool in
    let ws = c.args.m.now.writes in
    let room = c.args.room.now in
    let i = c.loop-i.i in
    let h : i < length ws = omega (arith, c.loop-i-test.true, c.len-i-end.ensures) in
    let inside : i < length room = omega (arith, h, c.requires.room) in
    let here : slice_index_or room i (pos 0) ≡ c.index-room-i.result = sym (c.index-room-i.is ∙ any_default room i c.index-room-i.result (pos 0) inside) in
    let same = c.differs-other.ensures.same c.if-other.false in
    record {
      known = (known_turn pool c.args.env.now c.args.nums.now write_exprs ws i c.get.result.now h c.get.ensures.item c.loop-i.invariant.known).1;
      noted = noted_more pool c.args.env.now c.args.rows.now ws i c.get.result.now room c.get.ensures.lookup (here ∙ same ∙ c.written_row-row.ensures) c.loop-i.invariant.noted;
    }

pub returns-clause-same : goal.returns-clause-same
returns-clause-same c = λ e. noted_all c.args.design.now.pool c.args.env.now c.args.rows.now c.args.m.now.writes c.loop-i.i c.args.room.now (omega (arith, c.loop-i-test.false, c.len-i-end.ensures)) c.loop-i.invariant.noted
