use Rattle.std.proofs.Common.{◌∙◌, sym, ap, arith}
use Rattle.design_ir.specs.Forests.{forest_and}
use Rattle.design_ir.specs.Fragments.{leaf_of}
use Rattle.elab_eval.proofs.TreeLaws.{one_more, none_more}
use Rattle.elab_eval.proofs.trees.Trees.take.Goals as goal

pub returns-in_default : goal.returns-in_default
returns-in_default c =
    let none = none_more c.loop.counter c.args.count c.args.self.now c.loop.auto.counter-end (sym c.loop.invariant.1 ∙ c.in_default.ensures.0) in
    (c.loop.invariant.0 ∙ sym none.0, c.in_default.ensures.1 ∙ sym none.1)

pub loop-preserved : goal.loop-preserved
loop-preserved c =
    let more = one_more c.loop.counter _ c.args.self.now _ _ _ (omega arith) (sym c.loop.invariant.1 ∙ c.in-Some.ensures) in
    (c.in_ok-push.ensures.ok ∙ ap (λ f. forest_and f (leaf_of c.in-Some.tree) c.in-Some.tree.submodules) c.loop.invariant.0 ∙ sym more.0, sym more.1)
