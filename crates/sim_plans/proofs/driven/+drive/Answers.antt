use Rattle.std.proofs.Common.{length, rules, [], slice_index_or}
use Rattle.sim_plans.proofs.DrivenLists.{listed_turn, arms_turn}
use Rattle.sim_plans.proofs.Walks.{block_parts, choices_parts}
use Rattle.sim_plans.proofs.driven.+drive.Goals as goal

pub add_arms-add_body-requires : goal.add_arms-add_body-requires
add_arms-add_body-requires t c =
    let parts = choices_parts (length c.args.targets.now) c.as_slice-arm-items.result.now c.loop-arm.arm-index c.arm-item.result c.loop-arm-test.true c.arm-item.is c.loop-arm.invariant.there in
    (search rules, parts.1)

pub add_arms-loop-arm-preserved : goal.add_arms-loop-arm-preserved
add_arms-loop-arm-preserved t c =
    let parts = choices_parts (length c.args.targets.now) c.as_slice-arm-items.result.now c.loop-arm.arm-index c.arm-item.result c.loop-arm-test.true c.arm-item.is c.loop-arm.invariant.there in
    record {
      there = parts.2;
      all = arms_turn (λ k. slice_index_or c.args.targets.now k []) c.as_slice-arm-items.result.now c.loop-arm.arm-index c.arm-item.result c.loop-arm.signals c.add_body.new.signals _ c.loop-arm-test.true c.arm-item.is c.in_ok-add_body.ensures c.loop-arm.invariant.all;
    }

pub add_body-add_stmt-requires : goal.add_body-add_stmt-requires
add_body-add_stmt-requires t c =
    let parts = block_parts (length c.args.targets.now) c.as_slice-s-items.result.now c.loop-s.s-index c.s-item.result c.loop-s-test.true c.s-item.is c.loop-s.invariant.there in
    (search rules, parts.0)

pub add_body-loop-s-preserved : goal.add_body-loop-s-preserved
add_body-loop-s-preserved t c =
    let parts = block_parts (length c.args.targets.now) c.as_slice-s-items.result.now c.loop-s.s-index c.s-item.result c.loop-s-test.true c.s-item.is c.loop-s.invariant.there in
    record {
      there = parts.1;
      all = listed_turn (λ k. slice_index_or c.args.targets.now k []) c.as_slice-s-items.result.now c.loop-s.s-index c.s-item.result c.loop-s.signals c.add_stmt.new.signals _ c.loop-s-test.true c.s-item.is c.in_ok-add_stmt.ensures c.loop-s.invariant.all;
    }
