use Rattle.std.proofs.Common.{◌≡◌, ◌∙◌, ◌<◌, ◌++◌, ◌+◌, ◌^◌, ℕ, List, None, Ok, [], length, sym, ap, subst, arith}
use Rattle.std.proofs.lemmas.Result.{err_from_is_err_and}
use Rattle.std.specs.List.{AllByRecursion}
use Rattle.design_ir.specs.declared.domain.Domain.{Domain}
use Rattle.design_ir.specs.declared.memory.Memory.{Memory}
use Rattle.design_ir.specs.declared.process.Process.{Process}
use Rattle.design_ir.specs.Circuits.{is_among}
use Rattle.design_ir.specs.Designs.{IsDesign}
use Rattle.fragment_walks.specs.Marks.{Flag}
use Rattle.fragment_walks.specs.Reads.{data_signals, is_given}
use Rattle.fragment_walks.specs.Walks.{all_contents, all_processes}
use Rattle.fragment_walks.proofs.Lists.{all_imp}
use Rattle.clock_domains.specs.Firsts.{AreSites}
use Rattle.clock_domains.specs.Ready.{IsReady}
use Rattle.clock_domains.specs.Resolvable.{IsSideOf}
use Rattle.clock_domains.specs.Stops.{IsOwed}
use Rattle.clock_domains.specs.Chosen.{IsSignal}
use Rattle.clock_domains.specs.Resolved.{data_refusal, design_inputs, driver_refusal, driver_stop, first_of}
use Rattle.clock_domains.proofs.ReadyLaws.{accepted_in, ready_data, ready_design, ready_domains, refused_in, whole_made}
use Rattle.clock_domains.proofs.resolving.design_in.Goals as goal

pub mark_design_inputs-requires-clause-domains : goal.mark_design_inputs-requires-clause-domains
mark_design_inputs-requires-clause-domains c =
    subst (AllByRecursion (IsSignal c.args.pool)) (sym c.as_slice.ensures) (ready_domains c.args.pool c.args.domains c.args.root.now.processes (all_contents c.args.root.now) c.args.top.now c.requires.ready)

pub mark_design_inputs-requires-clause-top : goal.mark_design_inputs-requires-clause-top
mark_design_inputs-requires-clause-top c = c.requires.ready.ports

pub drivers_of-requires-clause-sides : goal.drivers_of-requires-clause-sides
drivers_of-requires-clause-sides c = subst (AllByRecursion (IsSideOf c.args.pool)) (sym (c.as_slice-2.ensures.value ∙ c.requires.processes)) c.requires.ready.processes

pub drivers_of-requires-clause-there : goal.drivers_of-requires-clause-there
drivers_of-requires-clause-there c =
    let all = all_contents c.args.root.now in
    subst (λ (ms : List Memory). AllByRecursion (λ s. s < 16384) (data_signals ms)) (sym (c.as_slice-3.ensures ∙ c.requires.memories))
    (all_imp (λ s low. let le : s < 16384 = omega (arith, low, c.known.ensures.few_signals) in le) (data_signals all.memories) (ready_data c.args.pool c.args.domains c.args.root.now.processes all c.args.top.now c.requires.ready))

pub drivers_of-requires-clause-few : goal.drivers_of-requires-clause-few
drivers_of-requires-clause-few c = omega (arith, ap length c.as_slice-2.ensures.value, c.requires.few, c.as_slice-3.type_inv.1)

pub drivers_of-requires-clause-inputs : goal.drivers_of-requires-clause-inputs
drivers_of-requires-clause-inputs c = ap length c.as_slice-4.ensures.value ∙ c.in_ok-inputs.ensures.size

pub parts_of-requires : goal.parts_of-requires
parts_of-requires c =
    let q = c.args.pool in
    let root = c.args.root.now in
    let drivers = c.in_ok-drivers.drivers in
    let ps = c.as_slice-2.ensures.value ∙ c.requires.processes in
    let ms = c.as_slice-3.ensures ∙ c.requires.memories in
    let ready = subst (λ (ds : List Domain). IsReady q ds root.processes (all_contents root) c.args.top.now) (sym c.as_slice-5.ensures) c.requires.ready in
    let driven =
    subst (λ (xs : List Memory). Flag drivers.driven.items (is_given q (all_processes root) xs)) ms
    (subst (λ (xs : List Process). Flag drivers.driven.items (is_given q xs c.as_slice-3.result.now)) ps c.in_ok-drivers.ensures.driven) in
    let sites =
    subst (λ (xs : List Memory). AreSites q (all_processes root) xs drivers.sites.items) ms
    (subst (λ (xs : List Process). AreSites q xs c.as_slice-3.result.now drivers.sites.items) ps c.in_ok-drivers.ensures.sites) in
    (c.requires.processes, (c.requires.memories, (c.requires.paths, (ready, (driven, sites)))))

pub returns-in_err-drivers-clause-refused : goal.returns-in_err-drivers-clause-refused
returns-in_err-drivers-clause-refused c =
    let q = c.args.pool in
    let all = all_contents c.args.root.now in
    let inputs = design_inputs c.args.domains c.args.top.now in
    let marks = subst (λ (ds : List Domain). Flag c.in_ok-inputs.inputs.items (is_among (design_inputs ds c.args.top.now))) c.as_slice.ensures c.in_ok-inputs.ensures in
    let flag = subst (λ ms. Flag ms (is_among inputs)) (sym c.as_slice-4.ensures.value) marks in
    let p = err_from_is_err_and c.from_residual-in_err-drivers.result c.from_residual-in_err-drivers.ensures.1 in
    let owed =
    subst (λ (ms : List Memory). IsOwed (first_of (data_refusal ms) (driver_refusal q inputs (data_signals ms) all.processes)) c.in_err-drivers.field-0.0) (c.as_slice-3.ensures ∙ c.requires.memories)
    (subst (λ (ps : List Process). IsOwed (first_of (data_refusal c.as_slice-3.result.now) (driver_refusal q inputs (data_signals c.as_slice-3.result.now) ps)) c.in_err-drivers.field-0.0) (c.as_slice-2.ensures.value ∙ c.requires.processes) (c.in_err-drivers.ensures.refused inputs flag)) in
    rw (p.1, p.2) (refused_in q c.args.domains c.args.root.now.processes all c.args.top.now _ owed)

pub new-requires : goal.new-requires
new-requires c =
    let q = c.args.pool in
    let own = c.args.root.now.processes in
    let all = all_contents c.args.root.now in
    let inputs = design_inputs c.args.domains c.args.top.now in
    let marks = subst (λ (ds : List Domain). Flag c.in_ok-inputs.inputs.items (is_among (design_inputs ds c.args.top.now))) c.as_slice.ensures c.in_ok-inputs.ensures in
    let flag = subst (λ ms. Flag ms (is_among inputs)) (sym c.as_slice-4.ensures.value) marks in
    let free : driver_stop q c.args.domains all c.args.top.now ≡ None =
    subst (λ (ms : List Memory). first_of (data_refusal ms) (driver_refusal q inputs (data_signals ms) all.processes) ≡ None) (c.as_slice-3.ensures ∙ c.requires.memories)
    (subst (λ (ps : List Process). first_of (data_refusal c.as_slice-3.result.now) (driver_refusal q inputs (data_signals c.as_slice-3.result.now) ps) ≡ None) (c.as_slice-2.ensures.value ∙ c.requires.processes) (c.in_ok-drivers.ensures.accepted inputs flag)) in
    let parts = c.in_ok-parts.ensures in
    let few : length all.processes < 2 ^ 32 = omega (arith, c.requires.few, ap length c.requires.processes) in
    let whole =
    whole_made q c.args.domains c.as_slice-5.result.now own all c.args.top.now c.in_ok-parts.parts.ports c.in_ok-parts.parts.processes c.in_ok-parts.parts.memories c.in_ok-parts.parts.columns c.as_slice-5.ensures parts.processes parts.memories parts.columns parts.ports in
    subst IsDesign (sym whole) (ready_design q c.args.domains own all c.args.top.now c.requires.ready c.known.ensures free few)

pub returns-clause-design : goal.returns-clause-design
returns-clause-design c =
    let q = c.args.pool in
    let own = c.args.root.now.processes in
    let all = all_contents c.args.root.now in
    let inputs = design_inputs c.args.domains c.args.top.now in
    let marks = subst (λ (ds : List Domain). Flag c.in_ok-inputs.inputs.items (is_among (design_inputs ds c.args.top.now))) c.as_slice.ensures c.in_ok-inputs.ensures in
    let flag = subst (λ ms. Flag ms (is_among inputs)) (sym c.as_slice-4.ensures.value) marks in
    let free : driver_stop q c.args.domains all c.args.top.now ≡ None =
    subst (λ (ms : List Memory). first_of (data_refusal ms) (driver_refusal q inputs (data_signals ms) all.processes) ≡ None) (c.as_slice-3.ensures ∙ c.requires.memories)
    (subst (λ (ps : List Process). first_of (data_refusal c.as_slice-3.result.now) (driver_refusal q inputs (data_signals c.as_slice-3.result.now) ps) ≡ None) (c.as_slice-2.ensures.value ∙ c.requires.processes) (c.in_ok-drivers.ensures.accepted inputs flag)) in
    let parts = c.in_ok-parts.ensures in
    let whole =
    whole_made q c.args.domains c.as_slice-5.result.now own all c.args.top.now c.in_ok-parts.parts.ports c.in_ok-parts.parts.processes c.in_ok-parts.parts.memories c.in_ok-parts.parts.columns c.as_slice-5.ensures parts.processes parts.memories parts.columns parts.ports in
    accepted_in q c.args.domains own all c.args.top.now free ∙ ap Ok (sym whole ∙ sym c.new.ensures)
