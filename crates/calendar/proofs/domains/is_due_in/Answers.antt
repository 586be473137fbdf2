use Rattle.std.proofs.Common.{◌∙◌, sym}
use Rattle.calendar.proofs.DueLaws.{due_here}
use Rattle.calendar.proofs.domains.is_due_in.Goals as goal

pub returns-then-toggles : goal.returns-then-toggles
returns-then-toggles c =
    sym (due_here c.args.domain c.args.clocks.now c.loop-clock.clock-index _ c.args.at c.loop-clock-test.true (sym c.eq.ensures ∙ c.if-eq.true) (sym c.toggles.ensures ∙ c.if-toggles.true))
