use Rattle.std.proofs.Common.{subst, Ok}
use Rattle.bench_run.specs.declared.turns.Step.{Step}
use Rattle.bench_run.specs.Standing.{IsCloser}
use Rattle.bench_run.proofs.run.Run.next_event.Goals as goal

pub loop-event-smaller : goal.loop-event-smaller
loop-event-smaller g c = subst (λ (s : Step). IsCloser (Ok s) c.loop-event.self.point c.next_step.new.point) c.in-Ok-Goes.field-0-is c.in-Ok-Goes.ensures.closer
