use Rattle.std.proofs.Common.{◌∙◌, refl, subst}
use Rattle.design_ir.specs.PoolRules.{IsPool}
use Rattle.flat_design.proofs.Growing.{more_trans}
use Rattle.flat_design.proofs.FlatDesigns.{flat_rules}
use Rattle.flat_design.proofs.Flattened.{one_taken, all_taken, made_plain}
use Rattle.flat_design.proofs.flattening.flatten.Goals as goal

pub loop-p-preserved : goal.loop-p-preserved
loop-p-preserved c = (
  more_trans c.args.design.now.pool c.loop-p.pool c.in_ok-flat.flat.pool c.loop-p.invariant.0 c.in_ok-flat.ensures.more,
  rw c.in_ok-push.ensures.ok
      (one_taken c.args.design.now.pool c.loop-p.pool c.in_ok-flat.flat.pool c.as_slice-p-items.result.now c.loop-p.processes c.loop-p.p-index c.p-item.result _ c.known-in-loop-p.ensures c.in_ok-flat.ensures.more
      c.loop-p.invariant.1 (record { domain = refl; body = c.in_ok-flat.ensures.flat }) c.loop-p-test.true c.p-item.is),
)

pub with_processes-requires : goal.with_processes-requires
with_processes-requires c =
    flat_rules c.args.design.now c.loop-p.pool c.loop-p.processes (subst IsPool c.in_ok-pool.ensures c.known.ensures) c.processes.ensures.rules c.loop-p.invariant.0
    (all_taken c.args.design.now.pool c.loop-p.pool c.as_slice-p-items.result.now c.args.design.now.processes c.loop-p.processes c.loop-p.p-index c.loop-p-test.false (c.as_slice-p-items.ensures ∙ c.processes.ensures.value)
    c.loop-p.invariant.1)

pub returns-clause-plain : goal.returns-clause-plain
returns-clause-plain c =
    made_plain c.with_processes.result c.args.design.now c.loop-p.pool c.loop-p.processes c.with_processes.ensures
    (all_taken c.args.design.now.pool c.loop-p.pool c.as_slice-p-items.result.now c.args.design.now.processes c.loop-p.processes c.loop-p.p-index c.loop-p-test.false (c.as_slice-p-items.ensures ∙ c.processes.ensures.value)
    c.loop-p.invariant.1)
