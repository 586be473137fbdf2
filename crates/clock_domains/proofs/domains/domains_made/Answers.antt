use Rattle.std.proofs.Common.{◌≡◌, length, Some, slice_get, refl}
use Rattle.std.proofs.lemmas.Option.{slice_get_read}
use Rattle.std.proofs.lemmas.Result.{err_from_is_err_and}
use Rattle.clock_domains.proofs.MadeDomains.{made_owed, made_turn}
use Rattle.clock_domains.proofs.domains.domains_made.Goals as goal

pub returns-in_err-add_domain-clause-refused : goal.returns-in_err-add_domain-clause-refused
returns-in_err-add_domain-clause-refused c =
    let names = c.args.names.now in
    let i = c.loop-name.name-index in
    let at : slice_get names i ≡ Some c.name-item.result = slice_get_read names (length names) i c.name-item.result refl c.loop-name-test.true c.name-item.is in
    let p = err_from_is_err_and c.from_residual.result c.from_residual.ensures.1 in
    rw (p.1, p.2) (made_owed c.args.pool.now c.loop-name.pool c.args.definitions.now names i c.name-item.result c.loop-name.domains _ at c.loop-name.invariant c.in_err-add_domain.ensures.refused)

pub loop-name-preserved : goal.loop-name-preserved
loop-name-preserved c =
    let names = c.args.names.now in
    let i = c.loop-name.name-index in
    let at : slice_get names i ≡ Some c.name-item.result = slice_get_read names (length names) i c.name-item.result refl c.loop-name-test.true c.name-item.is in
    made_turn c.args.pool.now c.loop-name.pool c.args.definitions.now names i c.name-item.result c.loop-name.domains c.add_domain.new.domains c.add_domain.new.pool at c.loop-name.invariant c.in_ok-add_domain.ensures.made
