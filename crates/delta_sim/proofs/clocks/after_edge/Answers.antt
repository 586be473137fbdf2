use Rattle.std.proofs.Common.{sym, subst}
use Rattle.design_ir.proofs.NumbersFit.{FitsSignals}
use Rattle.delta_sim.proofs.PortsFit.{reads_fit}
use Rattle.delta_sim.proofs.clocks.after_edge.Goals as goal

pub toggle_all-requires-clause-fits : goal.toggle_all-requires-clause-fits
toggle_all-requires-clause-fits c =
    let d = c.args.design.now in
    subst (FitsSignals d.pool) (sym c.clock_memories.ensures.held)
    (reads_fit d c.args.env.now c.args.listed.now d.memories c.args.rows.now.items c.clock_all.new.held c.processes.ensures.rules.memories c.requires.rows.fits c.clock_all.ensures.fits)
