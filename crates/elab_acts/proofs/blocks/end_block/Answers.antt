use Rattle.std.proofs.Common.{◌≡◌, sym, ap, ◌∙◌, Option, Some, None, arith, List}
use Rattle.std.specs.Prelude.{slice_get, slice_set}
use Rattle.py_frames.specs.declared.request.Cause.{Cause}
use Rattle.module_dsl.specs.Builders.{Built, leave_refusal}
use Rattle.elab_store.specs.Stores.{Stored}
use Rattle.elab_acts.specs.Blocks.{leaving}
use Rattle.elab_acts.proofs.GivenLaws.{leaving-given, leaving-refused}
use Rattle.elab_store.proofs.CountLaws.{at_get, set_same, store_same}
use Rattle.elab_acts.proofs.blocks.end_block.Goals as goal

pub invariant_of-store-2 : goal.invariant_of-store-2
invariant_of-store-2 c =
    let inside = c.store.inside in
    store_same inside.statements inside.modules.items c.args.of c.index_mut-builder.result.now c.leave.new.self inside.patterns.items (omega (arith, c.if-of-len.false, c.len.ensures, inside.modules.ok.0)) c.index_mut-builder.ensures.value
    c.in_default.ensures.count c.store.invariant

pub returns : goal.returns
returns c =
    let inside = c.store.inside in
    let b : Built = c.index_mut-builder.result.now in
    let held : List Built → Stored = λ (bs : List Built). record { things = inside.things; kept = inside.kept.items; modules = bs; patterns = inside.patterns.items; top = inside.top; components = inside.components; hierarchy = inside.hierarchy; clock_domains = inside.clock_domains; machines = inside.machines.items; memories = inside.memories.items; wrappings = inside.wrappings.items; wrapped = inside.wrapped.items; domains = inside.domains; told = inside.told; simulation = inside.simulation } in
    let at : slice_get inside.modules.items c.args.of ≡ Some b = at_get inside.modules.items c.args.of b (omega (arith, c.if-of-len.false, c.len.ensures, inside.modules.ok.0)) c.index_mut-builder.ensures.value in
    let nothing : Option Cause = None in
    ap (λ x. (held (slice_set inside.modules.items c.args.of x), nothing)) c.in_default.ensures.left.1
    ∙ sym (leaving-given c.args.of b (held inside.modules.items) at c.in_default.ensures.left.0) ∙ ap (λ (s : Stored). leaving c.args.of (slice_get s.modules c.args.of) s) c.store.view_is

pub returns-in-Err : goal.returns-in-Err
returns-in-Err c =
    let inside = c.store.inside in
    let b : Built = c.index_mut-builder.result.now in
    let why = c.in_ok-why.why in
    let held : List Built → Stored = λ (bs : List Built). record { things = inside.things; kept = inside.kept.items; modules = bs; patterns = inside.patterns.items; top = inside.top; components = inside.components; hierarchy = inside.hierarchy; clock_domains = inside.clock_domains; machines = inside.machines.items; memories = inside.memories.items; wrappings = inside.wrappings.items; wrapped = inside.wrapped.items; domains = inside.domains; told = inside.told; simulation = inside.simulation } in
    let at : slice_get inside.modules.items c.args.of ≡ Some b = at_get inside.modules.items c.args.of b (omega (arith, c.if-of-len.false, c.len.ensures, inside.modules.ok.0)) c.index_mut-builder.ensures.value in
    let r = c.in-Err.ensures.refused in
    ap (λ x. (held (slice_set inside.modules.items c.args.of x), why)) r.1
    ∙ ap (λ bs. (held bs, why)) (set_same inside.modules.items c.args.of b c.index_mut-builder.ensures.value)
    ∙ ap (λ w. (held inside.modules.items, w)) c.in_ok-why.ensures.cause
    ∙ sym (leaving-refused c.args.of b (held inside.modules.items) c.in-Err.stop at (c.in_ok-why.ensures.owed (leave_refusal b) r.0)) ∙ ap (λ (s : Stored). leaving c.args.of (slice_get s.modules c.args.of) s) c.store.view_is
