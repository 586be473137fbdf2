use Rattle.std.proofs.Common.{◌≡◌, ◌∙◌, ap, get_or, length, arith}
use Rattle.elab_store.specs.Stores.{Stored}
use Rattle.elab_eval.proofs.TreeLaws.{read, wrap_found, wrap_next}
use Rattle.elab_eval.proofs.trees.is_wrap_open.Goals as goal

pub returns-then-k-count : goal.returns-then-k-count
returns-then-k-count c =
    let s = c.args.store.now in
    let wraps = c.args.wraps.now in
    let i = c.loop-k.k-index in
    let count : c.len-count.result ≡ length s.wrappings = c.len-count.ensures ∙ c.store.inside.wrappings.ok.0 ∙ ap (λ (x : Stored). length x.wrappings) c.store.view_is in
    wrap_found s wraps i (get_or wraps i 0) (read wraps i 0 c.loop-k-test.true) (omega (arith, count, c.if-k-count.true)) c.loop-k.invariant

pub loop-k-preserved : goal.loop-k-preserved
loop-k-preserved c =
    let s = c.args.store.now in
    let wraps = c.args.wraps.now in
    let i = c.loop-k.k-index in
    let count : c.len-count.result ≡ length s.wrappings = c.len-count.ensures ∙ c.store.inside.wrappings.ok.0 ∙ ap (λ (x : Stored). length x.wrappings) c.store.view_is in
    wrap_next s wraps i (get_or wraps i 0) (read wraps i 0 c.loop-k-test.true) (omega (arith, count, c.if-k-count.false)) c.loop-k.invariant
