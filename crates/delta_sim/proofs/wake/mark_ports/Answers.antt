use Rattle.std.proofs.Common.{◌<◌, ◌+◌, arith, length}
use Rattle.delta_sim.proofs.Flags.{called_first, called_turn, called_end}
use Rattle.delta_sim.proofs.wake.mark_ports.Goals as goal

pub loop-i-init : goal.loop-i-init
loop-i-init c = called_first c.args.first c.args.plan.now.reads c.args.changed.now.marks c.args.waits.now.marks

pub mark_if-requires : goal.mark_if-requires
mark_if-requires c = omega (arith, c.loop-i-test.true, c.loop-i.invariant.count, c.requires.room, c.len-i-end.ensures)

pub loop-i-preserved : goal.loop-i-preserved
loop-i-preserved c =
    let inside : c.args.first + c.loop-i.i < length c.loop-i.waits.marks = omega (arith, c.loop-i-test.true, c.loop-i.invariant.count, c.requires.room, c.len-i-end.ensures) in
    called_turn c.args.first c.args.plan.now.reads c.args.changed.now.marks c.args.waits.now.marks c.loop-i.i c.get.result.now c.loop-i.waits.marks c.mark_if.new.self.marks c.has-wanted.result c.get.ensures.lookup inside c.has-wanted.ensures c.mark_if.ensures c.loop-i.invariant

pub returns : goal.returns
returns c = called_end c.args.first c.args.plan.now.reads c.args.changed.now.marks c.args.waits.now.marks c.loop-i.i c.loop-i.waits.marks (omega (arith, c.loop-i-test.false, c.len-i-end.ensures)) c.loop-i.invariant
