use Rattle.std.proofs.Common.{◌≡◌, ◌+◌, ◌-◌, ℕ, arith}
use Rattle.cell_split.proofs.SpecNodes.{nodes_more, nodes_all, nodes_within}
use Rattle.cell_split.proofs.spec_nodes.spec_nodes.Goals as goal

pub loop-above-preserved : goal.loop-above-preserved
loop-above-preserved c =
    let k : ℕ = c.loop-above.above - 1 in
    let next : c.loop-above.above ≡ k + 1 = omega (arith, c.loop-above-test.true) in
    record {
      within = omega (arith, c.loop-above.invariant.within);
      passed = nodes_more c.args.all.now c.args.spec.now c.loop-above.above k c.get-part.result.now c.loop-above.nodes.items c.push_part.new.nodes.items next c.loop-above.invariant.within c.get-part.ensures.lookup c.loop-above.invariant.passed c.in_ok-push_part.ensures;
    }

pub returns-clause-nodes : goal.returns-clause-nodes
returns-clause-nodes c =
    let none : c.loop-above.above ≡ 0 = omega (arith, c.loop-above-test.false) in
    nodes_all c.args.all.now c.args.spec.now c.loop-above.above c.loop-above.nodes.items none c.loop-above.invariant.passed

pub returns-clause-within : goal.returns-clause-within
returns-clause-within c =
    let none : c.loop-above.above ≡ 0 = omega (arith, c.loop-above-test.false) in
    nodes_within c.args.all.now c.args.spec.now c.loop-above.nodes.items (nodes_all c.args.all.now c.args.spec.now c.loop-above.above c.loop-above.nodes.items none c.loop-above.invariant.passed)
