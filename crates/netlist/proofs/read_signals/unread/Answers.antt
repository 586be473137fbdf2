use Rattle.std.proofs.Common.{◌+◌, ◌-◌, replicate, false}
use Rattle.netlist_cells.proofs.LowerParts.{one_more, no_more, replicate_next, replicate_end}
use Rattle.netlist.proofs.read_signals.unread.Goals as goal

pub loop-i-preserved : goal.loop-i-preserved
loop-i-preserved c =
    let n = c.args.count in
    one_more c.loop-i.reads.items c.push.new.self.items (replicate n false) (replicate (n - c.loop-i.i) false) (replicate (n - (c.loop-i.i + 1)) false) false
    (replicate_next n c.loop-i.i false c.loop-i-test.true) c.in_ok-push.ensures.items c.loop-i.invariant

pub returns : goal.returns
returns c =
    let n = c.args.count in
    no_more c.loop-i.reads.items (replicate n false) (replicate (n - c.loop-i.i) false) (replicate_end n c.loop-i.i false c.loop-i-test.false) c.loop-i.invariant
