use Rattle.std.proofs.Common.{◌≡◌, ◌-◌, ◌∙◌, ap, subst, get_or, length, Ok, Err}
use Rattle.std.specs.Prelude.{slice_get}
use Rattle.design_ir.specs.declared.fragment.Fragment.{Fragment}
use Rattle.design_ir.specs.Pools.{Pooled}
use Rattle.elab_store.specs.Hierarchies.{Hierarchy}
use Rattle.elab_eval.specs.Elaborates.{root_wrapped}
use Rattle.elab_eval.specs.Trees.{IsGot}
use Rattle.elab_eval.proofs.TreeLaws.{wrap_more, wrap_refused, wraps_none, wraps_done}
use Rattle.elab_eval.proofs.StandingLaws.{root_there}
use Rattle.elab_eval.proofs.WrappedLaws.{wrapped_stands, wrapping_at, wrappings_more}
use Rattle.elab_eval.proofs.trees.root_wrapped.Goals as goal

pub loop-i-init : goal.loop-i-init
loop-i-init c = (c.known.ensures, (wraps_none c.args.store.now.wrappings c.root_wraps-wraps.result.now (c.args.root, c.args.pool.now), (c.requires.stands, c.requires.wrappings)))

pub wrapped-requires-clause-there : goal.wrapped-requires-clause-there
wrapped-requires-clause-there c = root_there c.args.store.now c.loop-i.pool c.loop-i.root c.loop-i.invariant.1.1.0

pub loop-i-preserved : goal.loop-i-preserved
loop-i-preserved c =
    let s = c.args.store.now in
    let wraps = c.root_wraps-wraps.result.now in
    let p = c.loop-i.pool in
    let k = get_or wraps (length wraps - 1 - c.loop-i.i) _ in
    let inner : Fragment × Pooled = (c.loop-i.root, p) in
    let made : Fragment × Pooled = (c.in-Ok.made, c.wrapped.new.pool) in
    let there = wrapped_stands s (slice_get s.wrappings k) inner made c.loop-i.invariant.1.1.0 (wrapping_at p s.wrappings k c.loop-i.invariant.1.1.1) c.loop-i.invariant.0 c.known-in-loop-i.ensures c.in-Ok.ensures in (
      c.known-in-loop-i.ensures,
      (
        wrap_more s.wrappings wraps (c.args.root, c.args.pool.now) c.loop-i.i _ inner c.loop-i-test.true c.loop-i.invariant.1.0 ∙ c.in-Ok.ensures,
        (there.stands, wrappings_more p c.wrapped.new.pool s.wrappings there.more c.loop-i.invariant.1.1.1),
      ),
    )

pub returns-in-Err-clause-tree : goal.returns-in-Err-clause-tree
returns-in-Err-clause-tree c =
    let s = c.args.store.now in
    let wraps = c.root_wraps-wraps.result.now in
    let p = c.wrapped.new.pool in
    let same : wraps ≡ s.hierarchy.root_wraps = c.root_wraps-wraps.ensures ∙ ap (λ (h : Hierarchy). h.root_wraps) c.hierarchy.ensures in
    subst (λ ks. IsGot (Err c.in-Err.stop) p (root_wrapped s.wrappings ks (c.args.root, c.args.pool.now))) same
    (wrap_refused s.wrappings wraps (c.args.root, c.args.pool.now) p p c.loop-i.i _ c.in-Err.stop (c.loop-i.root, c.loop-i.pool) c.loop-i-test.true c.loop-i.invariant.1.0 c.in-Err.ensures)

pub returns-clause-tree : goal.returns-clause-tree
returns-clause-tree c =
    let s = c.args.store.now in
    wraps_done s.wrappings c.root_wraps-wraps.result.now s.hierarchy.root_wraps (c.args.root, c.args.pool.now) (Ok (c.loop-i.root, c.loop-i.pool)) c.loop-i.i c.loop-i-test.false
    (c.root_wraps-wraps.ensures ∙ ap (λ (h : Hierarchy). h.root_wraps) c.hierarchy.ensures) c.loop-i.invariant.1.0
