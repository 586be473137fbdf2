use Rattle.design_ir.specs.Circuits.{Circuit}
use Rattle.design_ir.proofs.DesignGrowth.{grown_design}
use Rattle.design_ir.proofs.design.DesignExprs.expr.Goals as goal

pub invariant_of-self : goal.invariant_of-self
invariant_of-self c =
    let d : Circuit = record { pool = c.self.inside.pool; processes = c.self.inside.processes; memories = c.self.inside.memories; domains = c.self.inside.domains; ports = c.self.inside.ports; columns = c.self.inside.columns } in
    (c.expr.ensures.rules, grown_design c.expr.result d c.expr.new.self c.args.e c.expr.ensures.added c.expr.ensures.refused c.self.invariant.1)
