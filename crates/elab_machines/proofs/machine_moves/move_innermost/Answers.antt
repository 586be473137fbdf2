use Rattle.std.proofs.Common.{◌≡◌, ◌+◌, ◌<◌, refl, sym, ap, ◌∙◌, arith, length, Some, None, false}
use Rattle.std.specs.Prelude.{slice_get, slice_set}
use Rattle.design_ir.specs.declared.process.Side.{Side}
use Rattle.module_dsl.specs.Blocks.{in_switch}
use Rattle.module_dsl.specs.Builders.{Built, built_blocks, built_count, and_given}
use Rattle.fsm_lowering.specs.declared.refusal.FsmStop.TheVariants as stop
use Rattle.fsm_lowering.specs.Calls.{next_stop, with_next}
use Rattle.elab_store.specs.declared.store.Store.TheInside.{Inside}
use Rattle.elab_store.specs.declared.own_machine.OwnMachine.{OwnMachine}
use Rattle.elab_store.specs.Counts.{statement_count}
use Rattle.elab_store.specs.OpenMachines.{innermost}
use Rattle.elab_store.specs.Stores.{Stored, Held}
use Rattle.elab_machines.specs.StateMachines.{Move, moved, next_goes, with_moved}
use Rattle.elab_machines.specs.Moves.{moved_as, told_after}
use Rattle.elab_store.proofs.CountLaws.{at_get, count_set}
use Rattle.elab_machines.proofs.MachineLaws.{at_place, moves-acted, next-outside, goes-stopped, goes-over, goes-given}
use Rattle.elab_machines.proofs.machine_moves.move_innermost.Goals as goal
use Rattle.elab_machines.proofs.machine_moves.move_innermost.Goals.{then-added-gt65536-via-then-added-gt65536, then-added-gt65536-via-else-added-gt65536+then-store-added}

pub returns-in-Some-next_stop : goal.returns-in-Some-next_stop
returns-in-Some-next_stop c =
    let inside = c.store.inside in
    let k = c.in-Some.k in
    let x : OwnMachine = c.index_mut.result.now in
    let b : Built = c.index_mut-b.result.now in
    let held : Held = record { pool = c.args.pool.now; store = record { things = inside.things; kept = inside.kept.items; modules = inside.modules.items; patterns = inside.patterns.items; top = inside.top; components = inside.components; hierarchy = inside.hierarchy; clock_domains = inside.clock_domains; machines = inside.machines.items; memories = inside.memories.items; wrappings = inside.wrappings.items; wrapped = inside.wrapped.items; domains = inside.domains; told = inside.told; simulation = inside.simulation } } in
    let f : Held → Move = λ h. next_goes c.args.of h c.args.name.now c.args.place in
    let inner : innermost c.args.of inside.machines.items ≡ Some k = rw (← c.store.view_is) at (sym c.innermost.ensures ∙ c.in-Some.is) in
    let own : slice_get inside.machines.items k ≡ Some x = at_place inside.machines.items k x (omega (arith, c.if-k-len.false, c.len.ensures, inside.machines.ok.0)) c.index_mut.ensures.value in
    let built : slice_get inside.modules.items c.args.of ≡ Some b = at_get inside.modules.items c.args.of b (omega (arith, c.if-of-len.false, c.len-else-k-len.ensures, inside.modules.ok.0)) c.index_mut-b.ensures.value in
    let stopped : next_stop c.args.pool.now x.machine b c.args.name.now ≡ Some c.in-Some-next_stop.stop = sym c.next_stop.ensures ∙ c.in-Some-next_stop.is in
    ap (λ (s : Stored). moved (f (record { pool = c.args.pool.now; store = s })) c.args.of c.args.place (record { pool = c.args.pool.now; store = s })) (sym c.store.view_is)
    ∙ moves-acted (f held) k c.args.of c.args.place held x b inner own built (Some c.in-Some-next_stop.stop) (moved_as c.args.pool.now x.machine b)
    (goes-stopped c.args.of held c.args.name.now c.args.place c.args.pool.now x.machine b c.in-Some-next_stop.stop stopped, refl)

pub returns-then-added-gt65536 : goal.returns-then-added-gt65536
returns-then-added-gt65536 c =
    let inside = c.store.inside in
    let k = c.in-Some.k in
    let x : OwnMachine = c.index_mut.result.now in
    let b : Built = c.index_mut-b.result.now in
    let seen : Inside → Stored = λ (i : Inside). record { things = i.things; kept = i.kept.items; modules = i.modules.items; patterns = i.patterns.items; top = i.top; components = i.components; hierarchy = i.hierarchy; clock_domains = i.clock_domains; machines = i.machines.items; memories = i.memories.items; wrappings = i.wrappings.items; wrapped = i.wrapped.items; domains = i.domains; told = i.told; simulation = i.simulation } in
    let held : Held = record { pool = c.args.pool.now; store = seen inside } in
    let f : Held → Move = λ h. next_goes c.args.of h c.args.name.now c.args.place in
    let inner : innermost c.args.of inside.machines.items ≡ Some k = rw (← c.store.view_is) at (sym c.innermost.ensures ∙ c.in-Some.is) in
    let own : slice_get inside.machines.items k ≡ Some x = at_place inside.machines.items k x (omega (arith, c.if-k-len.false, c.len.ensures, inside.machines.ok.0)) c.index_mut.ensures.value in
    let below : c.args.of < length inside.modules.items = omega (arith, c.if-of-len.false, c.len-else-k-len.ensures, inside.modules.ok.0) in
    let built : slice_get inside.modules.items c.args.of ≡ Some b = at_get inside.modules.items c.args.of b below c.index_mut-b.ensures.value in
    let passed : next_stop c.args.pool.now x.machine b c.args.name.now ≡ None = sym c.next_stop.ensures ∙ c.in-None.is in
    let outside : in_switch (built_blocks b).around ≡ false = next-outside c.args.pool.now x.machine b c.args.name.now passed in
    let more : built_count (with_next c.args.pool.now x.machine b c.args.place) ≡ built_count b + c.added_by-added.result =
    ap (λ (s : Side). built_count (and_given b s x.machine.register (record { 0 = length c.args.pool.now.exprs }) c.args.place)) (sym c.side.ensures)
    ∙ c.added_by-added.ensures x.machine.register (record { 0 = length c.args.pool.now.exprs }) c.args.place outside in
    let n = inside.statements + c.added_by-added.result in
    let count : statement_count (slice_set inside.modules.items c.args.of (with_next c.args.pool.now x.machine b c.args.place)) ≡ n =
    count_set inside.modules.items c.args.of b (with_next c.args.pool.now x.machine b c.args.place) c.added_by-added.result below c.index_mut-b.ensures.value more ∙ ap (λ i. i + c.added_by-added.result) (sym c.store.invariant.count) in
    let over : 65536 < n =
    elim c.then-added-gt65536.branch [
      | then-added-gt65536-via-then-added-gt65536 w ↦ omega arith
      | then-added-gt65536-via-else-added-gt65536+then-store-added w ↦ omega arith
    ] in
    let same : told_after (Some stop.Limit) c.args.place (with_moved k x c.args.of (moved_as c.args.pool.now x.machine b) held) ≡ told_after (Some stop.Limit) c.args.place (record { pool = c.args.pool.now; store = seen c.then-added-gt65536.store-inside }) =
    elim c.then-added-gt65536.branch [
      | then-added-gt65536-via-then-added-gt65536 w ↦ ap (λ (i : Inside). told_after (Some stop.Limit) c.args.place (record { pool = c.args.pool.now; store = seen i })) (sym w.store-inside-is)
      | then-added-gt65536-via-else-added-gt65536+then-store-added w ↦ ap (λ (i : Inside). told_after (Some stop.Limit) c.args.place (record { pool = c.args.pool.now; store = seen i })) (sym w.store-inside-is)
    ] in
    ap (λ (s : Stored). moved (f (record { pool = c.args.pool.now; store = s })) c.args.of c.args.place (record { pool = c.args.pool.now; store = s })) (sym c.store.view_is)
    ∙ moves-acted (f held) k c.args.of c.args.place held x b inner own built (Some stop.Limit) (moved_as c.args.pool.now x.machine b)
    (goes-over c.args.of held c.args.name.now c.args.place c.args.pool.now x.machine b n passed count over, refl)
    ∙ same

pub invariant_of-store-in-Ok : goal.invariant_of-store-in-Ok
invariant_of-store-in-Ok c =
    let inside = c.store.inside in
    let x : OwnMachine = c.index_mut.result.now in
    let b : Built = c.index_mut-b.result.now in
    let below : c.args.of < length inside.modules.items = omega (arith, c.if-of-len.false, c.len-else-k-len.ensures, inside.modules.ok.0) in
    let passed : next_stop c.args.pool.now x.machine b c.args.name.now ≡ None = sym c.next_stop.ensures ∙ c.in-None.is in
    let outside : in_switch (built_blocks b).around ≡ false = next-outside c.args.pool.now x.machine b c.args.name.now passed in
    let more : built_count (with_next c.args.pool.now x.machine b c.args.place) ≡ built_count b + c.added_by-added.result =
    ap (λ (s : Side). built_count (and_given b s x.machine.register (record { 0 = length c.args.pool.now.exprs }) c.args.place)) (sym c.side.ensures)
    ∙ c.added_by-added.ensures x.machine.register (record { 0 = length c.args.pool.now.exprs }) c.args.place outside in
    record {
      count = ap (λ n. n + c.added_by-added.result) c.store.invariant.count ∙ sym (count_set inside.modules.items c.args.of b c.next.new.b c.added_by-added.result below c.index_mut-b.ensures.value (ap built_count c.in-Ok.ensures.given.2 ∙ more));
      within = c.store.invariant.within;
    }

pub returns-in-Ok : goal.returns-in-Ok
returns-in-Ok c =
    let inside = c.store.inside in
    let k = c.in-Some.k in
    let x : OwnMachine = c.index_mut.result.now in
    let b : Built = c.index_mut-b.result.now in
    let seen : Inside → Stored = λ (i : Inside). record { things = i.things; kept = i.kept.items; modules = i.modules.items; patterns = i.patterns.items; top = i.top; components = i.components; hierarchy = i.hierarchy; clock_domains = i.clock_domains; machines = i.machines.items; memories = i.memories.items; wrappings = i.wrappings.items; wrapped = i.wrapped.items; domains = i.domains; told = i.told; simulation = i.simulation } in
    let held : Held = record { pool = c.args.pool.now; store = seen inside } in
    let f : Held → Move = λ h. next_goes c.args.of h c.args.name.now c.args.place in
    let inner : innermost c.args.of inside.machines.items ≡ Some k = rw (← c.store.view_is) at (sym c.innermost.ensures ∙ c.in-Some.is) in
    let own : slice_get inside.machines.items k ≡ Some x = at_place inside.machines.items k x (omega (arith, c.if-k-len.false, c.len.ensures, inside.machines.ok.0)) c.index_mut.ensures.value in
    let below : c.args.of < length inside.modules.items = omega (arith, c.if-of-len.false, c.len-else-k-len.ensures, inside.modules.ok.0) in
    let built : slice_get inside.modules.items c.args.of ≡ Some b = at_get inside.modules.items c.args.of b below c.index_mut-b.ensures.value in
    let passed : next_stop c.args.pool.now x.machine b c.args.name.now ≡ None = sym c.next_stop.ensures ∙ c.in-None.is in
    let outside : in_switch (built_blocks b).around ≡ false = next-outside c.args.pool.now x.machine b c.args.name.now passed in
    let more : built_count (with_next c.args.pool.now x.machine b c.args.place) ≡ built_count b + c.added_by-added.result =
    ap (λ (s : Side). built_count (and_given b s x.machine.register (record { 0 = length c.args.pool.now.exprs }) c.args.place)) (sym c.side.ensures)
    ∙ c.added_by-added.ensures x.machine.register (record { 0 = length c.args.pool.now.exprs }) c.args.place outside in
    let n = inside.statements + c.added_by-added.result in
    let count : statement_count (slice_set inside.modules.items c.args.of (with_next c.args.pool.now x.machine b c.args.place)) ≡ n =
    count_set inside.modules.items c.args.of b (with_next c.args.pool.now x.machine b c.args.place) c.added_by-added.result below c.index_mut-b.ensures.value more ∙ ap (λ i. i + c.added_by-added.result) (sym c.store.invariant.count) in
    ap (λ (s : Stored). moved (f (record { pool = c.args.pool.now; store = s })) c.args.of c.args.place (record { pool = c.args.pool.now; store = s })) (sym c.store.view_is)
    ∙ moves-acted (f held) k c.args.of c.args.place held x b inner own built None (moved_as c.next.new.pool c.next.new.self c.next.new.b)
    (goes-given c.args.of held c.args.name.now c.args.place c.args.pool.now x.machine b n c.next.new.pool c.next.new.self c.next.new.b passed count (omega arith) c.in-Ok.ensures.given.1 c.in-Ok.ensures.given.2 c.in-Ok.ensures.given.3)
