use Rattle.std.proofs.Common.{◌+◌, ◌-◌, ◌/◌, ◌%◌, ◌==◌}
use Rattle.rtlil_text.specs.Cells.{number_bits}
use Rattle.netlist_cells.proofs.LowerParts.{one_more, no_more, number_bits_next, number_bits_end}
use Rattle.netlist_cells.proofs.parts.number_bits.Goals as goal

pub loop-i-preserved : goal.loop-i-preserved
loop-i-preserved c =
    let w = c.args.width in
    let r = c.loop-i.rest in
    one_more c.loop-i.bits c.push.new.self (number_bits w c.args.number) (number_bits (w - c.loop-i.i) r) (number_bits (w - (c.loop-i.i + 1)) (r / 2)) (r % 2 == 1)
    (number_bits_next w c.loop-i.i r c.loop-i-test.true) c.in_ok-push.ensures.ok c.loop-i.invariant

pub returns : goal.returns
returns c =
    let w = c.args.width in
    no_more c.loop-i.bits (number_bits w c.args.number) (number_bits (w - c.loop-i.i) c.loop-i.rest) (number_bits_end w c.loop-i.i c.loop-i.rest c.loop-i-test.false) c.loop-i.invariant
