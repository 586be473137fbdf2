use Rattle.netlist.proofs.LowerStarts.{shows_row}
use Rattle.netlist.proofs.sources.start.Goals as goal

pub loop-i-preserved : goal.loop-i-preserved
loop-i-preserved c =
    shows_row c.args.design.now c.loop-i.i c.is_clocked-clocked.result c.loop-i.bits.items c.in_ok-more.more.items c.append.new.self.items c.loop-i.invariant c.in_ok-more.ensures c.is_clocked-clocked.ensures c.in_ok-append.ensures.items
