use Rattle.std.proofs.Common.{ap, length, arith}
use Rattle.value_acts.proofs.SliceLaws.{bits_few}
use Rattle.value_acts.proofs.indices.cut_made.Goals as goal

pub run_made-requires : goal.run_made-requires
run_made-requires c =
    let w = c.args.way in
    omega (arith, ap length c.as_slice.ensures, ap length c.in-Ok.ensures, bits_few c.args.width w.start w.stop w.step c.requires.start c.requires.stop, c.requires.narrow)

pub bits_made-requires : goal.bits_made-requires
bits_made-requires c =
    let w = c.args.way in
    omega (arith, ap length c.as_slice-else-eq.ensures, ap length c.in-Ok.ensures, bits_few c.args.width w.start w.stop w.step c.requires.start c.requires.stop, c.requires.narrow)
