use Rattle.std.proofs.Common.{◌+◌, ◌-◌, replicate}
use Rattle.rtlil_text.specs.declared.sig.SigPart.TheVariants as parts
use Rattle.memory_cells.specs.Cells.{spread_spec}
use Rattle.memory_cells.proofs.Loops.{some_more, no_more, spread_next, spread_end}
use Rattle.memory_cells.proofs.granules.spread.Goals as goal

pub loop-i-preserved : goal.loop-i-preserved
loop-i-preserved c =
    let id = c.args.id.now in
    let g = c.args.granule in
    let n = c.args.count in
    let i = c.loop-i.i in
    some_more c.loop-i.spec c.push_granule.new.spec (spread_spec id g n) (spread_spec id g (n - i)) (spread_spec id g (n - (i + 1))) (replicate g (parts.Wire id (n - 1 - i) 1))
    (spread_next id g n i c.loop-i-test.true) c.in_ok-push_granule.ensures c.loop-i.invariant

pub returns : goal.returns
returns c =
    let id = c.args.id.now in
    let g = c.args.granule in
    let n = c.args.count in
    no_more c.loop-i.spec (spread_spec id g n) (spread_spec id g (n - c.loop-i.i)) (spread_end id g n c.loop-i.i c.loop-i-test.false) c.loop-i.invariant
