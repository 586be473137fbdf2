use Rattle.std.proofs.Common.{◌≡◌, ◌+◌, ◌<◌, sym, ap, ◌∙◌, true, false, length, Some, None, arith, List}
use Rattle.std.specs.Prelude.{slice_get, slice_set}
use Rattle.py_frames.specs.declared.request.Cause.TheVariants.{Raised, Limit}
use Rattle.module_dsl.specs.Blocks.{in_switch}
use Rattle.module_dsl.specs.Builders.{Built, built_blocks, built_count}
use Rattle.elab_store.specs.declared.store.Store.TheInside.{Inside}
use Rattle.elab_store.specs.Counts.{statement_count}
use Rattle.elab_store.specs.Stores.{Stored}
use Rattle.elab_acts.specs.Sides.{built_with, store_with_statement, statement_told}
use Rattle.elab_acts.proofs.GivenLaws.{told-misplaced, told-over, told-given}
use Rattle.elab_store.proofs.CountLaws.{at_get, set_same, count_set}
use Rattle.elab_acts.proofs.sides.put.Goals as goal
use Rattle.elab_acts.proofs.sides.put.Goals.{then-added-gt65536-via-then-added-gt65536, then-added-gt65536-via-else-added-gt65536+then-store-added}

pub returns-then-in_switch : goal.returns-then-in_switch
returns-then-in_switch c =
    let inside = c.store.inside in
    let b : Built = c.index_mut-builder.result.now in
    let d = c.args.side.now in
    let q = c.args.q.now in
    let held : List Built → Stored = λ (bs : List Built). record { things = inside.things; kept = inside.kept.items; modules = bs; patterns = inside.patterns.items; top = inside.top; components = inside.components; hierarchy = inside.hierarchy; clock_domains = inside.clock_domains; machines = inside.machines.items; memories = inside.memories.items; wrappings = inside.wrappings.items; wrapped = inside.wrapped.items; domains = inside.domains; told = inside.told; simulation = inside.simulation } in
    let at : slice_get inside.modules.items c.args.of ≡ Some b = at_get inside.modules.items c.args.of b (omega (arith, c.if-of-len.false, c.len.ensures, inside.modules.ok.0)) c.index_mut-builder.ensures.value in
    let i : in_switch (built_blocks b).around ≡ true = sym c.in_switch.ensures ∙ c.if-in_switch.true in
    ap (λ bs. (held bs, Some Raised)) (set_same inside.modules.items c.args.of b c.index_mut-builder.ensures.value)
    ∙ sym (told-misplaced c.args.of b d q (held inside.modules.items) at i) ∙ ap (λ (s : Stored). statement_told c.args.of d q (slice_get s.modules c.args.of) s) c.store.view_is

pub returns-then-added-gt65536 : goal.returns-then-added-gt65536
returns-then-added-gt65536 c =
    let inside = c.store.inside in
    let b : Built = c.index_mut-builder.result.now in
    let d = c.args.side.now in
    let q = c.args.q.now in
    let held : List Built → Stored = λ (bs : List Built). record { things = inside.things; kept = inside.kept.items; modules = bs; patterns = inside.patterns.items; top = inside.top; components = inside.components; hierarchy = inside.hierarchy; clock_domains = inside.clock_domains; machines = inside.machines.items; memories = inside.memories.items; wrappings = inside.wrappings.items; wrapped = inside.wrapped.items; domains = inside.domains; told = inside.told; simulation = inside.simulation } in
    let seen : Inside → Stored = λ (x : Inside). record { things = x.things; kept = x.kept.items; modules = x.modules.items; patterns = x.patterns.items; top = x.top; components = x.components; hierarchy = x.hierarchy; clock_domains = x.clock_domains; machines = x.machines.items; memories = x.memories.items; wrappings = x.wrappings.items; wrapped = x.wrapped.items; domains = x.domains; told = x.told; simulation = x.simulation } in
    let below : c.args.of < length inside.modules.items = omega (arith, c.if-of-len.false, c.len.ensures, inside.modules.ok.0) in
    let at : slice_get inside.modules.items c.args.of ≡ Some b = at_get inside.modules.items c.args.of b below c.index_mut-builder.ensures.value in
    let i : in_switch (built_blocks b).around ≡ false = sym c.in_switch.ensures ∙ c.if-in_switch.false in
    let more : built_count (built_with b d q) ≡ built_count b + c.added_by-added.result = c.added_by-added.ensures q.target q.value q.place i in
    let n = inside.statements + c.added_by-added.result in
    let count : statement_count (store_with_statement c.args.of b d q (held inside.modules.items)).modules ≡ n =
    count_set inside.modules.items c.args.of b (built_with b d q) c.added_by-added.result below c.index_mut-builder.ensures.value more ∙ ap (λ k. k + c.added_by-added.result) (sym c.store.invariant.count) in
    let over : 65536 < n =
    elim c.then-added-gt65536.branch [
      | then-added-gt65536-via-then-added-gt65536 w ↦ omega arith
      | then-added-gt65536-via-else-added-gt65536+then-store-added w ↦ omega arith
    ] in
    let same : seen c.then-added-gt65536.store-inside ≡ held inside.modules.items =
    elim c.then-added-gt65536.branch [
      | then-added-gt65536-via-then-added-gt65536 w ↦ ap seen w.store-inside-is ∙ ap held (set_same inside.modules.items c.args.of b c.index_mut-builder.ensures.value)
      | then-added-gt65536-via-else-added-gt65536+then-store-added w ↦ ap seen w.store-inside-is ∙ ap held (set_same inside.modules.items c.args.of b c.index_mut-builder.ensures.value)
    ] in
    ap (λ s. (s, Some Limit)) same
    ∙ sym (told-over c.args.of b d q (held inside.modules.items) at n i count over) ∙ ap (λ (s : Stored). statement_told c.args.of d q (slice_get s.modules c.args.of) s) c.store.view_is

pub invariant_of-store-in-Ok : goal.invariant_of-store-in-Ok
invariant_of-store-in-Ok c =
    let inside = c.store.inside in
    let b : Built = c.index_mut-builder.result.now in
    let q = c.args.q.now in
    let i : in_switch (built_blocks b).around ≡ false = sym c.in_switch.ensures ∙ c.if-in_switch.false in
    let more : built_count c.assign.new.self ≡ built_count b + c.added_by-added.result = ap built_count c.in-Ok.ensures.given.1 ∙ c.added_by-added.ensures q.target q.value q.place i in
    record {
      count = ap (λ n. n + c.added_by-added.result) c.store.invariant.count ∙ sym (count_set inside.modules.items c.args.of b c.assign.new.self c.added_by-added.result (omega (arith, c.if-of-len.false, c.len.ensures, inside.modules.ok.0)) c.index_mut-builder.ensures.value more);
      within = c.store.invariant.within;
    }

pub returns-in-Ok : goal.returns-in-Ok
returns-in-Ok c =
    let inside = c.store.inside in
    let b : Built = c.index_mut-builder.result.now in
    let d = c.args.side.now in
    let q = c.args.q.now in
    let held : List Built → Stored = λ (bs : List Built). record { things = inside.things; kept = inside.kept.items; modules = bs; patterns = inside.patterns.items; top = inside.top; components = inside.components; hierarchy = inside.hierarchy; clock_domains = inside.clock_domains; machines = inside.machines.items; memories = inside.memories.items; wrappings = inside.wrappings.items; wrapped = inside.wrapped.items; domains = inside.domains; told = inside.told; simulation = inside.simulation } in
    let below : c.args.of < length inside.modules.items = omega (arith, c.if-of-len.false, c.len.ensures, inside.modules.ok.0) in
    let at : slice_get inside.modules.items c.args.of ≡ Some b = at_get inside.modules.items c.args.of b below c.index_mut-builder.ensures.value in
    let i : in_switch (built_blocks b).around ≡ false = sym c.in_switch.ensures ∙ c.if-in_switch.false in
    let made : c.assign.new.self ≡ built_with b d q = c.in-Ok.ensures.given.1 in
    let more : built_count (built_with b d q) ≡ built_count b + c.added_by-added.result = c.added_by-added.ensures q.target q.value q.place i in
    let n = inside.statements + c.added_by-added.result in
    let count : statement_count (store_with_statement c.args.of b d q (held inside.modules.items)).modules ≡ n =
    count_set inside.modules.items c.args.of b (built_with b d q) c.added_by-added.result below c.index_mut-builder.ensures.value more ∙ ap (λ k. k + c.added_by-added.result) (sym c.store.invariant.count) in
    ap (λ x. (held (slice_set inside.modules.items c.args.of x), None)) made
    ∙ sym (told-given c.args.of b d q (held inside.modules.items) at n i count (omega arith)) ∙ ap (λ (s : Stored). statement_told c.args.of d q (slice_get s.modules c.args.of) s) c.store.view_is
