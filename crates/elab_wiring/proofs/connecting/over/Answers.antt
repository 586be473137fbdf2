use Rattle.std.proofs.Common.{ap, ◌∙◌, ◌++◌, ◌+◌, List, drop}
use Rattle.lib_wiring.specs.declared.leaf.Leaf as wired
use Rattle.elab_wiring.specs.Connections.{over}
use Rattle.elab_wiring.proofs.OverLaws.{over_more, over_done, over_out}
use Rattle.elab_wiring.proofs.connecting.over.Goals as goal

pub returns-then-i-ends : goal.returns-then-i-ends
returns-then-i-ends c = over_out c.args.leaves.now c.args.ends.now c.loop-i.i c.loop-i.all (over c.args.leaves.now c.args.ends.now) c.if-i-ends.true c.loop-i.invariant

pub loop-i-preserved : goal.loop-i-preserved
loop-i-preserved c =
    let ls = c.args.leaves.now in
    let es = c.args.ends.now in
    let i = c.loop-i.i in
    ap (λ (all : List wired.Leaf). all ++ over (drop (i + 1) ls) (drop (i + 1) es)) c.in_ok-push.ensures.ok
    ∙ over_more ls es i c.index-leaves-i.result c.index-ends-i.result c.in_ok-copied_text.field-0 c.loop-i.all (over ls es) c.loop-i-test.true c.if-i-ends.false c.index-leaves-i.is c.index-ends-i.is c.in_ok-copied_text.ensures c.loop-i.invariant

pub returns : goal.returns
returns c = over_done c.args.leaves.now c.args.ends.now c.loop-i.i c.loop-i.all (over c.args.leaves.now c.args.ends.now) c.loop-i-test.false c.loop-i.invariant
