-- What is held, once the expressions of an act are shared.
use Rattle.std.proofs.Common.{◌≡◌, sym, ◌∙◌, ap, arith, length, length-append, ℕ, ◌≤◌, List, ◌++◌, drop}
use Rattle.design_ir.specs.declared.ids.ExprId.{ExprId}
use Rattle.design_ir.specs.declared.expr.Expr.{Expr}
use Rattle.design_ir.specs.Pools.{Pooled}
use Rattle.amh_things.specs.declared.thing.Thing.{Thing}
use Rattle.amh_things.specs.Renumbered.{things_now}
use Rattle.elab_store.specs.declared.kept.Kept.{Kept}
use Rattle.elab_store.specs.Stores.{Held}
use Rattle.expr_index.specs.Numbers.{number_now}
use Rattle.bench_acts.specs.Sharing.{Shared, shared, kepts_now, held_over}

abbrev over_by : Pooled → (things kept : ℕ) → Held → ℕ → Shared → Held
over_by p things kept k n s = record k { pool = record p { exprs = s.exprs }; store = record (k.store) { things = things_now things (number_now n s.numbers) k.store.things; kept = kepts_now kept (number_now n s.numbers) k.store.kept } }

pub over_is : (p : Pooled) (k : Held) (n things kept : ℕ) (now : List ExprId) (fs : List Expr) (q : Pooled) (ts : List Thing) (ks : List Kept) → n ≡ length p.exprs → record { numbers = now; exprs = fs } ≡ shared p.exprs (drop (length p.exprs) k.pool.exprs) → q ≡ record p { exprs = fs }
    → ts ≡ things_now things (number_now n now) k.store.things → ks ≡ kepts_now kept (number_now n now) k.store.kept → record k { pool = q; store = record (k.store) { things = ts; kept = ks } } ≡ held_over p things kept k
over_is p k n things kept now fs q ts ks count numbers pool are_things are_kept =
    ap (λ x. record k { pool = x; store = record (k.store) { things = ts; kept = ks } }) pool
    ∙ ap (λ xs. record k { pool = record p { exprs = fs }; store = record (k.store) { things = xs; kept = ks } }) are_things
    ∙ ap (λ xs. record k { pool = record p { exprs = fs }; store = record (k.store) { things = things_now things (number_now n now) k.store.things; kept = xs } }) are_kept
    ∙ ap (λ m. over_by p things kept k m (record { numbers = now; exprs = fs })) count
    ∙ ap (over_by p things kept k (length p.exprs)) numbers

-- the first ones are there
pub first_there : (p q : Pooled) (n : ℕ) (es : List Expr) → n ≡ length p.exprs → q.exprs ≡ p.exprs ++ es → n ≤ length q.exprs
first_there p q n es count exprs = omega (arith, count, ap length exprs, length-append p.exprs es)
