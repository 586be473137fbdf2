use Rattle.std.proofs.Common.{◌-◌, length, refl, sym, ◌∙◌, subst}
use Rattle.design_ir.specs.declared.process.DesignProcess.{DesignProcess}
use Rattle.design_ir.specs.Guards.{driven}
use Rattle.netlist.specs.Tables.{IsMarked}
use Rattle.netlist.proofs.LowerDrivers.{drivers_turn}
use Rattle.netlist.proofs.drivers.driver_places.Goals as goal

pub loop-j-preserved : goal.loop-j-preserved
loop-j-preserved c =
    let d = c.args.design.now in
    let ps = c.as_slice-processes.result.now in
    drivers_turn d ps (length ps) c.loop-j.j c.index-processes-k.result c.loop-j.places.items c.mark_block.new.places.items (c.as_slice-processes.ensures ∙ c.processes.ensures.value) c.loop-j-test.true refl c.index-processes-k.is c.loop-j.invariant
    (subst (λ (x : DesignProcess). IsMarked (driven d.pool x.body) (length ps - 1 - c.loop-j.j) c.loop-j.places.items c.mark_block.new.places.items) (sym c.index-processes-k.is) c.mark_block.ensures)
