use Rattle.std.proofs.Common.{◌∙◌}
use Rattle.cell_split.specs.Needs.{node_of}
use Rattle.cell_split.proofs.NeedLaws.{link_led}
use Rattle.cell_split.proofs.needs.add_link.Goals as goal

pub returns-clause-link : goal.returns-clause-link
returns-clause-link c =
    link_led c.lead_along.new.graph (node_of c.args.nodes.now) c.args.link.now c.deref.result.now c.deref-2.result.now (c.deref.ensures.value ∙ c.in_ok-right.ensures.nodes) (c.deref-2.ensures.value ∙ c.in_ok-left.ensures.nodes) c.in_ok-lead_along.ensures.leads
