use Rattle.std.proofs.Common.{◌∙◌, ℕ, List, Err, IfErr, sym, ap, subst}
use Rattle.std.proofs.lemmas.Result.{err_from_is_err_and}
use Rattle.design_ir.specs.Circuits.{is_among}
use Rattle.fragment_walks.specs.Marks.{Flag}
use Rattle.fragment_walks.specs.Reads.{data_signals}
use Rattle.clock_domains.specs.Resolved.{data_refusal, driver_refusal, first_of}
use Rattle.clock_domains.specs.Stops.{IsOwed}
use Rattle.clock_domains.proofs.drivers.drivers_of.Goals as goal

pub returns-in_err-no_bad_driver-clause-refused : goal.returns-in_err-no_bad_driver-clause-refused
returns-in_err-no_bad_driver-clause-refused c =
    let q = c.args.pool.now in
    let ps = c.args.processes.now in
    let ms = c.args.memories.now in
    let ss = data_signals ms in
    let given = c.in_ok-given.ensures.accepted in
    let p = err_from_is_err_and c.from_residual-in_err-no_bad_driver.result c.from_residual-in_err-no_bad_driver.ensures.1 in
    let owed : (ins : List ℕ) → Flag c.args.inputs.now (is_among ins) → IsOwed (first_of (data_refusal ms) (driver_refusal q ins ss ps)) c.in_err-no_bad_driver.field-0.0 =
    λ ins f.
    subst (λ o. IsOwed (first_of o (driver_refusal q ins ss ps)) c.in_err-no_bad_driver.field-0.0) (sym given.0)
    (c.in_err-no_bad_driver.ensures.refused ins ss f (subst (λ gs. Flag gs (is_among ss)) (sym c.as_slice.ensures.value) given.1)) in
    subst (λ r. IfErr r (λ stop. (ins : List ℕ) → Flag c.args.inputs.now (is_among ins) → IsOwed (first_of (data_refusal ms) (driver_refusal q ins ss ps)) stop)) (sym (p.1 ∙ ap Err p.2)) owed
