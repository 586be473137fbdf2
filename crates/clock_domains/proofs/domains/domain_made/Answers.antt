use Rattle.std.proofs.Common.{◌∙◌, length}
use Rattle.std.proofs.lemmas.Result.{err_from_is_err_and}
use Rattle.clock_domains.proofs.MadeDomains.{first_owed, second_owed, is_room, domain_is, next_signal}
use Rattle.clock_domains.proofs.domains.domain_made.Goals as goal

pub returns-in_err-clock-clause-refused : goal.returns-in_err-clock-clause-refused
returns-in_err-clock-clause-refused c =
    let p = err_from_is_err_and c.from_residual-in_err-clock.result c.from_residual-in_err-clock.ensures.1 in
    rw (p.1, p.2) (first_owed c.args.pool.now _ c.in_err-clock.ensures.refused)

pub returns-in_err-reset-clause-refused : goal.returns-in_err-reset-clause-refused
returns-in_err-reset-clause-refused c =
    let p = err_from_is_err_and c.from_residual-in_err-reset.result c.from_residual-in_err-reset.ensures.1 in
    rw (p.1, p.2) (second_owed c.args.pool.now c.in_ok-signal_name.field-0 c.bit_made.new.pool _ c.in_ok-clock.ensures.made.pool c.in_err-reset.ensures.refused)

pub returns-clause-room : goal.returns-clause-room
returns-clause-room c = is_room c.args.pool.now c.in_ok-signal_name.field-0 c.bit_made.new.pool c.in_ok-clock.ensures.made.pool c.in_ok-reset.ensures.made.accepted

pub returns-clause-domain : goal.returns-clause-domain
returns-clause-domain c =
    let n = length c.args.pool.now.signals in
    let second = next_signal c.args.pool.now c.bit_made.new.pool c.in_ok-signal_name.field-0 c.in_ok-reset.reset.0 c.in_ok-clock.ensures.made.pool c.in_ok-reset.ensures.made.number in
    domain_is c.in_ok-copied.field-0 c.args.name.now n c.in_ok-clock.clock c.in_ok-reset.reset (c.in_ok-copied.ensures ∙ c.as_str.ensures) c.in_ok-clock.ensures.made.number second
