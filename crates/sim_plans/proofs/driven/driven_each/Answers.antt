use Rattle.std.proofs.Common.{length, slice_index_or, List, [], ◌++◌, ap, ◌∙◌}
use Rattle.design_ir.specs.declared.ids.SigId.{SigId}
use Rattle.design_ir.specs.Statements.{statement_of}
use Rattle.sim_plans.specs.Driven.{statement_listed}
use Rattle.sim_plans.proofs.DrivenLists.{each_turn}
use Rattle.sim_plans.proofs.Walks.{block_parts}
use Rattle.sim_plans.proofs.driven.driven_each.Goals as goal

pub add_stmt-requires : goal.add_stmt-requires
add_stmt-requires c =
    (block_parts (length c.args.targets.now) c.as_slice-s-items.result.now c.loop-s.s-index c.s-item.result c.loop-s-test.true c.s-item.is c.loop-s.invariant.there).0

pub loop-s-preserved : goal.loop-s-preserved
loop-s-preserved c =
    let parts = block_parts (length c.args.targets.now) c.as_slice-s-items.result.now c.loop-s.s-index c.s-item.result c.loop-s-test.true c.s-item.is c.loop-s.invariant.there in
    record {
      there = parts.1;
      all = each_turn (λ k. slice_index_or c.args.targets.now k []) c.as_slice-s-items.result.now c.loop-s.s-index c.s-item.result c.loop-s.each.items c.push.new.self.items c.add_stmt.new.signals _ c.loop-s-test.true c.s-item.is (c.in_ok-add_stmt.ensures ∙ ap (λ (l : List SigId). l ++ statement_listed (λ k. slice_index_or c.args.targets.now k []) (statement_of c.s-item.result)) c.new-signals.ensures) c.in_ok-push.ensures.items c.loop-s.invariant.all;
    }
