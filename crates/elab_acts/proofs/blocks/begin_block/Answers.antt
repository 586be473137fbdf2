use Rattle.std.proofs.Common.{◌≡◌, sym, ap, ◌∙◌, subst, Option, Some, None, arith, List}
use Rattle.std.specs.Prelude.{slice_get, slice_set}
use Rattle.py_frames.specs.declared.request.Cause.{Cause}
use Rattle.design_ir.specs.Pools.{Pooled}
use Rattle.module_dsl.specs.Builders.{Built, built_blocks, and_entered, condition_made, enter_refusal}
use Rattle.elab_store.specs.Stores.{Stored, Held}
use Rattle.elab_acts.specs.Entering.{IsEntering}
use Rattle.elab_acts.specs.Blocks.{entering}
use Rattle.elab_acts.proofs.GivenLaws.{entering-given, entering-refused}
use Rattle.elab_store.proofs.CountLaws.{at_get, set_same, store_same}
use Rattle.elab_acts.proofs.EnterLaws.{left_same}
use Rattle.elab_acts.proofs.blocks.begin_block.Goals as goal

pub enter-requires : goal.enter-requires
enter-requires c =
    let inside = c.store.inside in
    let b : Built = c.index_mut-builder.result.now in
    let at : slice_get inside.modules.items c.args.of ≡ Some b = at_get inside.modules.items c.args.of b (omega (arith, c.if-of-len.false, c.len.ensures, inside.modules.ok.0)) c.index_mut-builder.ensures.value in
    subst (λ o. IsEntering c.args.pool.now o c.args.block) (sym (ap (λ (s : Stored). slice_get s.modules c.args.of) c.store.view_is) ∙ at) c.requires

pub invariant_of-store-2 : goal.invariant_of-store-2
invariant_of-store-2 c =
    let inside = c.store.inside in
    store_same inside.statements inside.modules.items c.args.of c.index_mut-builder.result.now c.enter.new.self inside.patterns.items (omega (arith, c.if-of-len.false, c.len.ensures, inside.modules.ok.0)) c.index_mut-builder.ensures.value
    c.in_default.ensures.count c.store.invariant

pub returns : goal.returns
returns c =
    let inside = c.store.inside in
    let b : Built = c.index_mut-builder.result.now in
    let held : Pooled → List Built → Held = λ (q : Pooled) (bs : List Built). record { pool = q; store = record { things = inside.things; kept = inside.kept.items; modules = bs; patterns = inside.patterns.items; top = inside.top; components = inside.components; hierarchy = inside.hierarchy; clock_domains = inside.clock_domains; machines = inside.machines.items; memories = inside.memories.items; wrappings = inside.wrappings.items; wrapped = inside.wrapped.items; domains = inside.domains; told = inside.told; simulation = inside.simulation } } in
    let at : slice_get inside.modules.items c.args.of ≡ Some b = at_get inside.modules.items c.args.of b (omega (arith, c.if-of-len.false, c.len.ensures, inside.modules.ok.0)) c.index_mut-builder.ensures.value in
    let nothing : Option Cause = None in
    ap (λ x. (held c.enter.new.pool (slice_set inside.modules.items c.args.of x), nothing)) c.in_default.ensures.entered.1
    ∙ ap (λ q. (held q (slice_set inside.modules.items c.args.of (and_entered c.args.pool.now b c.args.block)), nothing)) c.in_default.ensures.entered.2
    ∙ sym (entering-given c.args.of b c.args.block (held c.args.pool.now inside.modules.items) at c.in_default.ensures.entered.0)
    ∙ ap (λ (s : Stored). entering c.args.of (slice_get s.modules c.args.of) c.args.block (record { pool = c.args.pool.now; store = s })) c.store.view_is

pub returns-in-Err : goal.returns-in-Err
returns-in-Err c =
    let inside = c.store.inside in
    let b : Built = c.index_mut-builder.result.now in
    let why = c.in_ok-why.why in
    let held : Pooled → List Built → Held = λ (q : Pooled) (bs : List Built). record { pool = q; store = record { things = inside.things; kept = inside.kept.items; modules = bs; patterns = inside.patterns.items; top = inside.top; components = inside.components; hierarchy = inside.hierarchy; clock_domains = inside.clock_domains; machines = inside.machines.items; memories = inside.memories.items; wrappings = inside.wrappings.items; wrapped = inside.wrapped.items; domains = inside.domains; told = inside.told; simulation = inside.simulation } } in
    let at : slice_get inside.modules.items c.args.of ≡ Some b = at_get inside.modules.items c.args.of b (omega (arith, c.if-of-len.false, c.len.ensures, inside.modules.ok.0)) c.index_mut-builder.ensures.value in
    let r = c.in-Err.ensures.refused in
    let owed = c.in_ok-why.ensures.owed in
    ap (λ x. (held c.enter.new.pool (slice_set inside.modules.items c.args.of x), why)) r.1
    ∙ ap (λ bs. (held c.enter.new.pool bs, why)) (set_same inside.modules.items c.args.of b c.index_mut-builder.ensures.value)
    ∙ ap (λ q. (held q inside.modules.items, why)) (left_same c.args.pool.now c.enter.new.pool (condition_made (built_blocks b) c.args.block) c.in-Err.stop owed r.2)
    ∙ ap (λ w. (held c.args.pool.now inside.modules.items, w)) c.in_ok-why.ensures.cause
    ∙ sym (entering-refused c.args.of b c.args.block (held c.args.pool.now inside.modules.items) c.in-Err.stop at (owed (enter_refusal c.args.pool.now b c.args.block) r.0))
    ∙ ap (λ (s : Stored). entering c.args.of (slice_get s.modules c.args.of) c.args.block (record { pool = c.args.pool.now; store = s })) c.store.view_is
