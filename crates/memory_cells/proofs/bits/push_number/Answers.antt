use Rattle.std.proofs.Common.{◌+◌, ◌-◌, ◌/◌, ◌%◌, ◌==◌, ◌++◌}
use Rattle.rtlil_text.specs.Cells.{number_bits}
use Rattle.memory_cells.proofs.Loops.{one_more, number_next}
use Rattle.memory_cells.proofs.bits.push_number.Goals as goal

pub loop-i-preserved : goal.loop-i-preserved
loop-i-preserved c =
    let w = c.args.width in
    let r = c.loop-i.rest in
    one_more c.loop-i.bits c.push.new.self (c.args.bits.now ++ number_bits w c.args.number) (number_bits (w - c.loop-i.i) r) (number_bits (w - (c.loop-i.i + 1)) (r / 2)) (r % 2 == 1)
    (number_next w c.loop-i.i r c.loop-i-test.true) c.in_ok-push.ensures.ok c.loop-i.invariant
