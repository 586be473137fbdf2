use Rattle.std.proofs.Common.{arith}
use Rattle.sim_plans.proofs.OneBit.{written, written_below, written_fits}
use Rattle.delta_sim.proofs.bits.with_bit.Goals as goal

pub overflow_mul-result-2 : goal.overflow_mul-result-2
overflow_mul-result-2 c =
    omega (arith, written_fits c.args.width c.args.index c.args.bit c.args.bits c.power-low.result c.power-low.ensures c.requires.inside c.requires.narrow c.requires.bit c.requires.fits)

pub overflow_add-result-2 : goal.overflow_add-result-2
overflow_add-result-2 c =
    omega (arith, written_fits c.args.width c.args.index c.args.bit c.args.bits c.power-low.result c.power-low.ensures c.requires.inside c.requires.narrow c.requires.bit c.requires.fits)

pub returns-clause-written : goal.returns-clause-written
returns-clause-written c = written c.args.index c.args.bit c.args.bits c.power-low.result c.power-low.ensures

pub returns-clause-within : goal.returns-clause-within
returns-clause-within c =
    written_below c.args.width c.args.index c.args.bit c.args.bits c.power-low.result c.power-low.ensures c.requires.inside c.requires.bit c.requires.fits
