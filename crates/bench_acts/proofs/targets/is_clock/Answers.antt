use Rattle.std.proofs.Common.{sym, ◌∙◌}
use Rattle.design_ir.specs.Circuits.{is_clock}
use Rattle.bench_acts.proofs.TargetLaws.{is_no_clock, is_a_clock}
use Rattle.bench_acts.proofs.targets.is_clock.Goals as goal

pub loop-d-preserved : goal.loop-d-preserved
loop-d-preserved c = is_no_clock c.args.design.now.domains c.loop-d.d c.args.sig.0 c.domain.result.now (is_clock c.args.design.now c.args.sig.0) c.domain.ensures (sym c.has_clock.ensures ∙ c.if-has_clock.false) c.loop-d.invariant

pub returns-then-has_clock : goal.returns-then-has_clock
returns-then-has_clock c = is_a_clock c.args.design.now.domains c.loop-d.d c.args.sig.0 c.domain.result.now (is_clock c.args.design.now c.args.sig.0) c.domain.ensures (sym c.has_clock.ensures ∙ c.if-has_clock.true) c.loop-d.invariant
