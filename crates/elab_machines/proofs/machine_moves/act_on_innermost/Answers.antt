use Rattle.std.proofs.Common.{◌≡◌, sym, ap, ◌∙◌, arith, Some}
use Rattle.std.specs.Prelude.{slice_get}
use Rattle.module_dsl.specs.Builders.{Built}
use Rattle.elab_store.specs.declared.own_machine.OwnMachine.{OwnMachine}
use Rattle.elab_store.specs.OpenMachines.{innermost}
use Rattle.elab_store.specs.Stores.{Stored, Held}
use Rattle.elab_machines.specs.StateMachines.{Move, moved}
use Rattle.elab_machines.specs.Moves.{action_moves, moved_as}
use Rattle.elab_store.proofs.CountLaws.{at_get, store_same}
use Rattle.elab_machines.proofs.MachineLaws.{at_place, moves-acted}
use Rattle.elab_machines.proofs.machine_moves.act_on_innermost.Goals as goal

pub invariant_of-store : goal.invariant_of-store
invariant_of-store c =
    let inside = c.store.inside in
    store_same inside.statements inside.modules.items c.args.of c.index_mut-b.result.now c.act.new.b inside.patterns.items (omega (arith, c.if-of-len.false, c.len-else-k-len.ensures, inside.modules.ok.0)) c.index_mut-b.ensures.value c.act.ensures.count c.store.invariant

pub invariant_of-store-2 : goal.invariant_of-store-2
invariant_of-store-2 c =
    let inside = c.store.inside in
    store_same inside.statements inside.modules.items c.args.of c.index_mut-b.result.now c.act.new.b inside.patterns.items (omega (arith, c.if-of-len.false, c.len-else-k-len.ensures, inside.modules.ok.0)) c.index_mut-b.ensures.value c.act.ensures.count c.store.invariant

pub returns : goal.returns
returns c =
    let inside = c.store.inside in
    let k = c.in-Some.k in
    let x : OwnMachine = c.index_mut-own.result.now in
    let b : Built = c.index_mut-b.result.now in
    let held : Held = record { pool = c.args.pool.now; store = record { things = inside.things; kept = inside.kept.items; modules = inside.modules.items; patterns = inside.patterns.items; top = inside.top; components = inside.components; hierarchy = inside.hierarchy; clock_domains = inside.clock_domains; machines = inside.machines.items; memories = inside.memories.items; wrappings = inside.wrappings.items; wrapped = inside.wrapped.items; domains = inside.domains; told = inside.told; simulation = inside.simulation } } in
    let f : Move = action_moves c.args.action c.args.name.now c.args.place in
    let inner : innermost c.args.of inside.machines.items ≡ Some k = rw (← c.store.view_is) at (sym c.innermost.ensures ∙ c.in-Some.is) in
    let own : slice_get inside.machines.items k ≡ Some x = at_place inside.machines.items k x (omega (arith, c.if-k-len.false, c.len.ensures, inside.machines.ok.0)) c.index_mut-own.ensures.value in
    let built : slice_get inside.modules.items c.args.of ≡ Some b = at_get inside.modules.items c.args.of b (omega (arith, c.if-of-len.false, c.len-else-k-len.ensures, inside.modules.ok.0)) c.index_mut-b.ensures.value in
    ap (λ (s : Stored). moved f c.args.of c.args.place (record { pool = c.args.pool.now; store = s })) (sym c.store.view_is)
    ∙ moves-acted f k c.args.of c.args.place held x b inner own built c.in_ok-why.why (moved_as c.act.new.pool c.act.new.machine c.act.new.b) c.in_ok-why.ensures.moved
