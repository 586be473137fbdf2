use Rattle.std.proofs.Common.{sym, ◌∙◌, [], ◌∷◌}
use Rattle.memory_ports.proofs.Growing.{over_next}
use Rattle.memory_ports.proofs.signals.make_two.Goals as goal

pub returns-in-Ok-make-clause-limit : goal.returns-in-Ok-make-clause-limit
returns-in-Ok-make-clause-limit c =
    sym (over_next c.args.pool.now c.args.addr (c.args.word ∷ [])) ∙ rw c.in-Ok.ensures.pool at c.in-Ok-make.ensures.limit

pub returns-in-Err-make-clause-refused : goal.returns-in-Err-make-clause-refused
returns-in-Err-make-clause-refused c =
    rw (← over_next c.args.pool.now c.args.addr (c.args.word ∷ [])) (rw c.in-Ok.ensures.pool at c.in-Err-make.ensures.refused)
