use Rattle.std.proofs.Common.{sym, ◌∙◌, [], ◌∷◌}
use Rattle.memory_ports.specs.Ports.{with_signal}
use Rattle.memory_ports.proofs.Growing.{over_next, grown_one, grown_more, filled_first, filled_next}
use Rattle.memory_ports.proofs.signals.make_three.Goals as goal

pub returns-in-Err-clause-full : goal.returns-in-Err-clause-full
returns-in-Err-clause-full c = filled_first c.args.pool.now c.make.new.pool c.args.addr (c.args.word ∷ c.args.enable ∷ []) c.in-Err.stop c.in-Err.ensures.refused c.in-Err.ensures.full

pub returns-in-Ok-make_two-clause-limit : goal.returns-in-Ok-make_two-clause-limit
returns-in-Ok-make_two-clause-limit c =
    sym (over_next c.args.pool.now c.args.addr (c.args.word ∷ c.args.enable ∷ [])) ∙ rw c.in-Ok.ensures.pool at c.in-Ok-make_two.ensures.limit

pub returns-in-Err-make_two-clause-refused : goal.returns-in-Err-make_two-clause-refused
returns-in-Err-make_two-clause-refused c =
    rw (← over_next c.args.pool.now c.args.addr (c.args.word ∷ c.args.enable ∷ [])) (rw c.in-Ok.ensures.pool at c.in-Err-make_two.ensures.refused)

pub returns-in-Err-make_two-clause-full : goal.returns-in-Err-make_two-clause-full
returns-in-Err-make_two-clause-full c =
    filled_next c.args.pool.now c.make_two.new.pool c.args.addr (c.args.word ∷ c.args.enable ∷ []) c.in-Err-make_two.stop c.in-Ok.ensures.limit (rw c.in-Ok.ensures.pool at c.in-Err-make_two.ensures.full)

pub returns-in-Err-make_two-clause-grown : goal.returns-in-Err-make_two-clause-grown
returns-in-Err-make_two-clause-grown c =
    let p = c.args.pool.now in
    grown_more p (with_signal p c.args.addr) c.make_two.new.pool (grown_one p c.args.addr) (rw c.in-Ok.ensures.pool at c.in-Err-make_two.ensures.grown)
