use Rattle.std.proofs.Common.{◌+◌, ◌-◌, map}
use Rattle.std.specs.List.{range_with_len}
use Rattle.design_ir.specs.Targets.{bits_of}
use Rattle.netlist_cells.proofs.LowerParts.{one_more, no_more}
use Rattle.netlist.proofs.LowerTargets.{bit_at, bits_next, bits_end}
use Rattle.netlist.proofs.targets.bits_of.Goals as goal

pub loop-index-preserved : goal.loop-index-preserved
loop-index-preserved c =
    let s = c.args.sig in
    let w = c.args.width in
    let i = c.loop-index.index in
    one_more c.loop-index.bits.items c.push.new.self.items (bits_of s w) (map (bit_at s) (range_with_len i (w - i))) (map (bit_at s) (range_with_len (i + 1) (w - (i + 1)))) (bit_at s i)
    (bits_next s w i c.loop-index-test.true) c.in_ok-push.ensures.items c.loop-index.invariant

pub returns : goal.returns
returns c =
    let s = c.args.sig in
    let w = c.args.width in
    no_more c.loop-index.bits.items (bits_of s w) (map (bit_at s) (range_with_len c.loop-index.index (w - c.loop-index.index))) (bits_end s w c.loop-index.index c.loop-index-test.false) c.loop-index.invariant
