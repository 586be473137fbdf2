use Rattle.std.proofs.Common.{◌≡◌, ◌<◌, sym, ap, ◌∙◌, length, List, Some}
use Rattle.std.specs.Prelude.{slice_get, slice_set}
use Rattle.module_dsl.specs.Builders.{Built}
use Rattle.elab_store.specs.declared.own_machine.OwnMachine.{OwnMachine}
use Rattle.elab_store.specs.Stores.{Stored}
use Rattle.elab_machines.specs.StateMachines.{chain_ended, store_begun}
use Rattle.elab_store.proofs.CountLaws.{at_get, store_same}
use Rattle.elab_machines.proofs.MachineLaws.{placed_there, begun-given}
use Rattle.elab_machines.proofs.machine_moves.put_machine.Goals as goal

pub invariant_of-store : goal.invariant_of-store
invariant_of-store c =
    let inside = c.store.inside in
    store_same inside.statements inside.modules.items c.args.of c.index_mut.result.now c.end_chain.new.b inside.patterns.items (placed_there c.args.of inside.modules.items inside.machines.items (rw (← c.store.view_is) at c.requires)) c.index_mut.ensures.value c.end_chain.ensures.count c.store.invariant

pub invariant_of-store-in_err-push : goal.invariant_of-store-in_err-push
invariant_of-store-in_err-push c =
    let inside = c.store.inside in
    store_same inside.statements inside.modules.items c.args.of c.index_mut.result.now c.end_chain.new.b inside.patterns.items (placed_there c.args.of inside.modules.items inside.machines.items (rw (← c.store.view_is) at c.requires)) c.index_mut.ensures.value c.end_chain.ensures.count c.store.invariant

pub invariant_of-store-2 : goal.invariant_of-store-2
invariant_of-store-2 c =
    let inside = c.store.inside in
    store_same inside.statements inside.modules.items c.args.of c.index_mut.result.now c.end_chain.new.b inside.patterns.items (placed_there c.args.of inside.modules.items inside.machines.items (rw (← c.store.view_is) at c.requires)) c.index_mut.ensures.value c.end_chain.ensures.count c.store.invariant

pub returns-clause-begun : goal.returns-clause-begun
returns-clause-begun c =
    let inside = c.store.inside in
    let b : Built = c.index_mut.result.now in
    let held : List Built → List OwnMachine → Stored = λ (bs : List Built) (ms : List OwnMachine). record { things = inside.things; kept = inside.kept.items; modules = bs; patterns = inside.patterns.items; top = inside.top; components = inside.components; hierarchy = inside.hierarchy; clock_domains = inside.clock_domains; machines = ms; memories = inside.memories.items; wrappings = inside.wrappings.items; wrapped = inside.wrapped.items; domains = inside.domains; told = inside.told; simulation = inside.simulation } in
    let below : c.args.of < length inside.modules.items = placed_there c.args.of inside.modules.items inside.machines.items (rw (← c.store.view_is) at c.requires) in
    let at : slice_get inside.modules.items c.args.of ≡ Some b = at_get inside.modules.items c.args.of b below c.index_mut.ensures.value in
    let ended : c.end_chain.new.b ≡ chain_ended c.args.machine.register b = c.in_ok-end_chain.ensures.ended ∙ ap (λ r. chain_ended r b) c.register.ensures in
    ap (λ ms. held (slice_set inside.modules.items c.args.of c.end_chain.new.b) ms) c.in_ok-push.ensures.items
    ∙ sym (begun-given c.args.of c.args.machine (held inside.modules.items inside.machines.items) b c.end_chain.new.b at ended)
    ∙ ap (store_begun c.args.of c.args.machine) c.store.view_is
