use Rattle.std.proofs.Common.{◌≡◌, sym, ap, ◌∙◌, arith, Some}
use Rattle.std.specs.Prelude.{slice_get}
use Rattle.fsm_lowering.specs.declared.refusal.FsmStop.{FsmStop}
use Rattle.fsm_lowering.specs.Calls.{ongoing_refusal, and_asked}
use Rattle.elab_store.specs.declared.own_machine.OwnMachine.{OwnMachine}
use Rattle.elab_store.specs.Stores.{Stored, Held}
use Rattle.elab_machines.specs.StateMachines.{asked_of}
use Rattle.elab_machines.proofs.MachineLaws.{at_place, asked-made, asked-refused, owed_is, unless_is}
use Rattle.elab_machines.proofs.machine_moves.ask_machine.Goals as goal

pub returns : goal.returns
returns c =
    let inside = c.store.inside in
    let k = c.args.number in
    let x : OwnMachine = c.index_mut.result.now in
    let held : Held = record { pool = c.args.pool.now; store = record { things = inside.things; kept = inside.kept.items; modules = inside.modules.items; patterns = inside.patterns.items; top = inside.top; components = inside.components; hierarchy = inside.hierarchy; clock_domains = inside.clock_domains; machines = inside.machines.items; memories = inside.memories.items; wrappings = inside.wrappings.items; wrapped = inside.wrapped.items; domains = inside.domains; told = inside.told; simulation = inside.simulation } } in
    let own : slice_get inside.machines.items k ≡ Some x = at_place inside.machines.items k x (omega (arith, c.if-number-len.false, c.len.ensures, inside.machines.ok.0)) c.index_mut.ensures.value in
    ap (λ (s : Stored). asked_of k (slice_get s.machines k) c.args.name.now c.args.place (record { pool = c.args.pool.now; store = s })) (sym c.store.view_is)
    ∙ asked-made k held c.args.name.now c.args.place x own c.ongoing.new.pool c.ongoing.new.self c.in_default.ensures.made.0 (c.in_default.ensures.made.2 ∙ ap (and_asked x.machine c.args.name.now c.args.place) c.in_default.ensures.made.1) c.in_default.ensures.made.3

pub returns-in-Err : goal.returns-in-Err
returns-in-Err c =
    let inside = c.store.inside in
    let k = c.args.number in
    let x : OwnMachine = c.index_mut.result.now in
    let held : Held = record { pool = c.args.pool.now; store = record { things = inside.things; kept = inside.kept.items; modules = inside.modules.items; patterns = inside.patterns.items; top = inside.top; components = inside.components; hierarchy = inside.hierarchy; clock_domains = inside.clock_domains; machines = inside.machines.items; memories = inside.memories.items; wrappings = inside.wrappings.items; wrapped = inside.wrapped.items; domains = inside.domains; told = inside.told; simulation = inside.simulation } } in
    let own : slice_get inside.machines.items k ≡ Some x = at_place inside.machines.items k x (omega (arith, c.if-number-len.false, c.len.ensures, inside.machines.ok.0)) c.index_mut.ensures.value in
    let same : c.in_ok-why.why ≡ c.in-Err.stop = c.in_ok-why.ensures.0 in
    let owed : ongoing_refusal c.args.pool.now x.machine c.args.name.now ≡ Some c.in-Err.stop = owed_is _ c.in-Err.stop c.in-Err.ensures.refused c.in_ok-why.ensures.1 in
    let unchanged : (c.ongoing.new.self ≡ x.machine) × (c.ongoing.new.pool ≡ c.args.pool.now) = unless_is _ c.in-Err.stop c.in-Err.ensures.unchanged c.in_ok-why.ensures.1 in
    ap (λ (s : Stored). asked_of k (slice_get s.machines k) c.args.name.now c.args.place (record { pool = c.args.pool.now; store = s })) (sym c.store.view_is)
    ∙ asked-refused k held c.args.name.now c.args.place x own c.ongoing.new.pool c.ongoing.new.self c.in_ok-why.why (owed ∙ ap (λ (w : FsmStop). Some w) (sym same)) unchanged.0 unchanged.1
