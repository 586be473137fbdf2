use Rattle.std.proofs.Common.{◌∙◌, ap}
use Rattle.design_ir.specs.Circuits.{Circuit}
use Rattle.amh_things.specs.Renumbered.{things_now}
use Rattle.elab_store.specs.Held.{held_of}
use Rattle.elab_store.specs.Stores.{Held, Stored}
use Rattle.expr_index.specs.Numbers.{number_now}
use Rattle.bench_acts.specs.Sharing.{kepts_now}
use Rattle.bench_acts.proofs.HeldLaws.{over_is}
use Rattle.bench_acts.proofs.sharing.share.Goals as goal

pub returns-clause-held : goal.returns-clause-held
returns-clause-held c =
    let k : Held = held_of c.args.held.now in
    let n = c.args.before.exprs in
    let told = c.as_slice.result.now in
    let now = c.in-Ok.now.items in
    let ts = things_now c.args.before.things (number_now n told) k.store.things in
    let ks = kepts_now c.args.before.kept (number_now n told) k.store.kept in
    ap (λ (st : Stored). record { pool = c.put_anew.new.pool; store = st }) c.renumber_store.ensures
    ∙ over_is c.args.design.now.pool k n c.args.before.things c.args.before.kept now c.numbers_of.new.design.pool.exprs c.put_anew.new.pool ts ks c.requires.count c.in-Ok.ensures.shared
    (c.in_default.ensures ∙ ap (λ (d : Circuit). d.pool) c.in-Ok.ensures.design)
    (ap (λ xs. things_now c.args.before.things (number_now n xs) k.store.things) c.as_slice.ensures.value)
    (ap (λ xs. kepts_now c.args.before.kept (number_now n xs) k.store.kept) c.as_slice.ensures.value)
