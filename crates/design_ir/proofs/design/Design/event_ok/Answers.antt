use Rattle.std.proofs.Common.{sym, subst, ap, ◌∙◌, length}
use Rattle.design_ir.specs.Circuits.{Circuit}
use Rattle.design_ir.specs.Designs.{IsDesign}
use Rattle.design_ir.proofs.Events.{settable_there, edge_is}
use Rattle.design_ir.proofs.design.Design.event_ok.Goals as goal

pub holds-requires : goal.holds-requires
holds-requires c =
    settable_there c.args.self.now c.in-Set.sig.0 (subst IsDesign c.self.view_is c.self.invariant.1) (sym c.if-is_settable.ensures)

pub returns-then-domains-gt0 : goal.returns-then-domains-gt0
returns-then-domains-gt0 c =
    rw c.in-Edge.is
    (edge_is c.args.self.now c.in-Edge.clocks c.len.result c.ascend.result
    (rw c.as_slice-domains.ensures at c.if-domains-gt0.true)
    (c.len.ensures ∙ ap (λ (x : Circuit). length x.domains) c.self.view_is)
    (rw c.as_slice-domains.ensures at c.ascend.ensures))
