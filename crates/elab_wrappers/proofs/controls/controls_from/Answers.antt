use Rattle.std.proofs.Common.{◌∙◌, arith}
use Rattle.elab_wrappers.specs.Wrappers.{controls_from}
use Rattle.elab_wrappers.proofs.GivenLaws.{control_next}
use Rattle.elab_wrappers.proofs.controls.controls_from.Goals as goal

pub loop-x-preserved : goal.loop-x-preserved
loop-x-preserved c =
    control_next c.args.store.now.things c.loop-x.pool c.value_meant.new.pool c.args.named.now c.loop-x.x-index c.x-item.result c.in-Ok.e c.in_ok-domain.domain c.loop-x.controls c.push.new.self
    (controls_from c.args.store.now.things c.args.pool.now c.args.named.now) (omega (arith, c.loop-x-test.true)) c.x-item.is c.in-Ok.ensures (c.in_ok-domain.ensures ∙ c.as_str.ensures) c.in_ok-push.ensures.ok c.loop-x.invariant
