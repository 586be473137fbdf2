use Rattle.std.proofs.Common.{ap, subst, ℕ, List}
use Rattle.std.specs.Prelude.{Err}
use Rattle.amh_host.specs.Seen.{with_warned}
use Rattle.amh_host.specs.Calls.{Adds}
use Rattle.amh_tool.proofs.PromiseLaws.{works_promised, memory_promised, fault_promised}
use Rattle.amh_tool.proofs.running.run.Goals as goal

pub returns-in-Ok-clause-promised : goal.returns-in-Ok-clause-promised
returns-in-Ok-clause-promised g c =
    works_promised c.outcomes_are_one.ensures c.args.words.now c.in-Ok.status (g.H.Host.seen c.args.host.now) (g.H.Host.seen c.work.new.host) (g.H.Host.faults c.args.host.now) (g.H.Host.faults c.work.new.host) c.in-Ok.ensures.done c.in-Ok.ensures.cause.ok

pub returns-in-Err-NoMemory-clause-promised : goal.returns-in-Err-NoMemory-clause-promised
returns-in-Err-NoMemory-clause-promised g c =
    memory_promised c.args.words.now (g.H.Host.seen c.args.host.now) (g.H.Host.seen c.work.new.host) (g.H.Host.faults c.args.host.now) (g.H.Host.faults c.work.new.host) c.in-Err-NoMemory.ensures.err (c.in-Err-NoMemory.ensures.cause.memory (ap Err c.in-Err-NoMemory.field-0-is))

pub returns-in-Err-Failed-clause-promised : goal.returns-in-Err-Failed-clause-promised
returns-in-Err-Failed-clause-promised g c =
    let between = g.H.Host.seen c.work.new.host in
    let new = g.H.Host.seen c.warn.new.self in
    fault_promised c.args.words.now (g.H.Host.seen c.args.host.now) between new (g.H.Host.faults c.args.host.now) (g.H.Host.faults c.work.new.host) (g.H.Host.faults c.warn.new.self) c.warn.result c.in-Err-Failed.ensures.err
    (subst (λ (b : List ℕ). Adds with_warned b c.warn.result between new) c.fault_text.ensures c.warn.ensures.done)
    (c.in-Err-Failed.ensures.cause.failed (ap Err c.in-Err-Failed.field-0-is)) c.warn.ensures.cause.later
