use Rattle.std.proofs.Common.{arith}
use Rattle.cell_split.proofs.NeedLaws.{grows_then, along_next, along_all}
use Rattle.cell_split.proofs.needs.lead_along.Goals as goal

pub loop-place-preserved : goal.loop-place-preserved
loop-place-preserved c = record {
  grows = grows_then c.args.graph.now c.loop-place.graph c.lead_at.new.graph c.loop-place.invariant.grows c.in_ok-lead_at.ensures.grows;
  leads = along_next c.loop-place.graph c.lead_at.new.graph c.args.froms.now c.args.uptos.now c.loop-place.place c.in_ok-lead_at.ensures.grows c.loop-place.invariant.leads c.in_ok-lead_at.ensures.leads;
}

pub returns-clause-leads : goal.returns-clause-leads
returns-clause-leads c = along_all c.loop-place.graph c.args.froms.now c.args.uptos.now c.loop-place.place (omega (arith, c.loop-place-test.false)) c.loop-place.invariant.leads
