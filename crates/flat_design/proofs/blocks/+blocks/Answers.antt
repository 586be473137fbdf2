use Rattle.std.proofs.Common.{◌≡◌, ◌++◌, ◌+◌, ◌<◌, ◌∷◌, [], List, map, take, sym, ap, ◌∙◌, subst, arith}
use Rattle.std.proofs.lemmas.List.{take_all}
use Rattle.design_ir.specs.Trees.{block_size, choices_size, statement_size}
use Rattle.design_ir.specs.Statements.{statement_of, block_of, choices_of}
use Rattle.design_ir.specs.Guards.{Guard, guarded, guarded_arms}
use Rattle.design_ir.specs.declared.stmt.Stmt.{Stmt}
use Rattle.design_ir.specs.declared.stmt.Arm.{Arm}
use Rattle.flat_design.specs.Begun.{all_hold, all_need}
use Rattle.flat_design.specs.Shown.{AreSlots, after}
use Rattle.flat_design.proofs.Growing.{more_trans, readable_more, active_more}
use Rattle.flat_design.proofs.ShownBlocks.{met, missed, statement_begun, arm_begun, rest_active, condition_readable, statement_turn, arm_turn, active_one}
use Rattle.flat_design.proofs.blocks.+blocks.Goals as goal

-- ---- blocks

pub put_block-put_statement-requires : goal.put_block-put_statement-requires
put_block-put_statement-requires t c =
    let ss = c.as_slice-statement-items.result.now in
    let i = c.loop-statement.statement-index in
    let s = c.statement-item.result in
    let so_far = c.requires.0 in
    let gs = c.requires.1 in
    let begun = c.requires.2 in
    let smaller = c.as_slice-statement-items.ensures.smaller i s c.loop-statement-test.true in
    let small : statement_size (statement_of s) < block_size c.args.body.now = subst (λ (x : Stmt). statement_size (statement_of x) < block_size c.args.body.now) (sym c.statement-item.is) smaller in (
      omega (arith, small, c.decreases),
      (
        after so_far (guarded gs (block_of (take i ss))),
        gs,
        statement_begun so_far gs c.args.latest.now.pool c.args.latest.now.slots.items c.args.active c.known.ensures c.loop-statement.latest.pool c.loop-statement.invariant.more c.args.body.now ss i s c.loop-statement.latest.slots.items
            c.as_slice-statement-items.ensures.value begun c.loop-statement-test.true c.statement-item.is (c.loop-statement.invariant.shown so_far gs begun),
      ),
    )

pub put_block-loop-statement-preserved : goal.put_block-loop-statement-preserved
put_block-loop-statement-preserved t c = record {
  more = more_trans c.args.latest.now.pool c.loop-statement.latest.pool c.put_statement.new.latest.pool c.loop-statement.invariant.more c.in_ok-put_statement.ensures.more;
  rules = c.in_ok-put_statement.ensures.rules;
  shown = λ so_far gs begun.
      let ss = c.as_slice-statement-items.result.now in
      let i = c.loop-statement.statement-index in
      let s = c.statement-item.result in
      let new = c.put_statement.new.latest in
      statement_turn so_far gs ss i s new.pool new.slots.items c.loop-statement-test.true c.statement-item.is
      (c.in_ok-put_statement.ensures.put (after so_far (guarded gs (block_of (take i ss)))) gs
      (statement_begun so_far gs c.args.latest.now.pool c.args.latest.now.slots.items c.args.active c.known.ensures c.loop-statement.latest.pool c.loop-statement.invariant.more c.args.body.now ss i s c.loop-statement.latest.slots.items
      c.as_slice-statement-items.ensures.value begun c.loop-statement-test.true c.statement-item.is (c.loop-statement.invariant.shown so_far gs begun)));
}

pub put_block-returns-clause-put : goal.put_block-returns-clause-put
put_block-returns-clause-put t c = λ so_far gs begun.
    let ss = c.as_slice-statement-items.result.now in
    let all : block_of (take c.loop-statement.statement-index ss) ≡ c.args.body.now = ap block_of (take_all c.loop-statement.statement-index ss c.loop-statement-test.false) ∙ c.as_slice-statement-items.ensures.value in
    subst (λ b. AreSlots (after so_far (guarded gs b)) c.loop-statement.latest.pool c.loop-statement.latest.slots.items) all (c.loop-statement.invariant.shown so_far gs begun)

-- ---- arms

pub put_arms-with_condition-requires-clause-condition : goal.put_arms-with_condition-requires-clause-condition
put_arms-with_condition-requires-clause-condition t c =
    let so_far = c.requires.0 in
    let gs = c.requires.1 in
    let begun = c.requires.2 in
    let readable = condition_readable so_far gs c.args.latest.now.pool c.args.latest.now.slots.items c.args.active c.args.arms.now c.as_slice-arm-items.result.now c.loop-arm.arm-index c.arm-item.result c.as_slice-arm-items.ensures.value begun c.loop-arm-test.true c.arm-item.is in
    readable_more so_far.pool c.loop-arm.latest.pool begun.rules (c.loop-arm.invariant.shown so_far gs begun).more c.arm-item.result.condition readable

pub put_arms-with_condition-requires-in-loop-arm-clause-active : goal.put_arms-with_condition-requires-in-loop-arm-clause-active
put_arms-with_condition-requires-in-loop-arm-clause-active t c =
    let so_far = c.requires.0 in
    let hs : List Guard = c.requires.1 ++ map missed (take c.loop-arm.arm-index c.as_slice-arm-items.result.now) in
    active_one c.with_condition.new.pool (all_hold so_far.pool hs) (all_need so_far.pool hs) c.loop-arm.rest
    (active_more c.loop-arm.latest.pool c.with_condition.new.pool c.loop-arm.invariant.rules c.in_ok-taken.ensures.more (all_hold so_far.pool hs) (all_need so_far.pool hs) c.loop-arm.rest (c.loop-arm.invariant.rest so_far c.requires.1 c.requires.2))

pub put_arms-with_condition-requires-in-loop-arm-clause-condition : goal.put_arms-with_condition-requires-in-loop-arm-clause-condition
put_arms-with_condition-requires-in-loop-arm-clause-condition t c =
    let so_far = c.requires.0 in
    let gs = c.requires.1 in
    let begun = c.requires.2 in
    let readable = condition_readable so_far gs c.args.latest.now.pool c.args.latest.now.slots.items c.args.active c.args.arms.now c.as_slice-arm-items.result.now c.loop-arm.arm-index c.arm-item.result c.as_slice-arm-items.ensures.value begun c.loop-arm-test.true c.arm-item.is in
    let more = more_trans so_far.pool c.loop-arm.latest.pool c.with_condition.new.pool (c.loop-arm.invariant.shown so_far gs begun).more c.in_ok-taken.ensures.more in
    readable_more so_far.pool c.with_condition.new.pool begun.rules more c.arm-item.result.condition readable

pub put_arms-put_block-requires : goal.put_arms-put_block-requires
put_arms-put_block-requires t c =
    let xs = c.as_slice-arm-items.result.now in
    let i = c.loop-arm.arm-index in
    let a = c.arm-item.result in
    let so_far = c.requires.0 in
    let gs = c.requires.1 in
    let begun = c.requires.2 in
    let hs : List Guard = gs ++ map missed (take i xs) in
    let smaller = c.as_slice-arm-items.ensures.smaller i a c.loop-arm-test.true in
    let small : block_size a.body < choices_size c.args.arms.now = subst (λ (x : Arm). block_size x.body < choices_size c.args.arms.now) (sym c.arm-item.is) smaller in (
      omega (arith, small, c.decreases),
      (
        after so_far (guarded_arms gs (choices_of (take i xs))),
        hs ++ met a ∷ [],
        arm_begun so_far gs c.args.latest.now.pool c.args.latest.now.slots.items c.args.active c.args.arms.now xs i a c.as_slice-arm-items.ensures.value begun c.loop-arm-test.true c.arm-item.is c.loop-arm.latest.pool c.with_condition.new.pool c.with_condition-in-loop-arm.new.pool
            c.loop-arm.latest.slots.items c.loop-arm.invariant.rules c.in_ok-taken.ensures.rules c.in_ok-taken.ensures.more c.in_ok-rest.ensures.more (c.loop-arm.invariant.shown so_far gs begun) c.in_ok-taken.taken
            (c.in_ok-taken.ensures.active (all_hold so_far.pool hs) (all_need so_far.pool hs) (c.loop-arm.invariant.rest so_far gs begun)),
      ),
    )

pub put_arms-loop-arm-preserved : goal.put_arms-loop-arm-preserved
put_arms-loop-arm-preserved t c =
    let xs = c.as_slice-arm-items.result.now in
    let i = c.loop-arm.arm-index in
    let a = c.arm-item.result in
    let q = c.loop-arm.latest.pool in
    let q2 = c.with_condition.new.pool in
    let q3 = c.with_condition-in-loop-arm.new.pool in
    let new = c.put_block.new.latest in
    record {
      more = more_trans c.args.latest.now.pool q new.pool c.loop-arm.invariant.more (more_trans q q2 new.pool c.in_ok-taken.ensures.more (more_trans q2 q3 new.pool c.in_ok-rest.ensures.more c.in_ok-put_block.ensures.more));
      rules = c.in_ok-put_block.ensures.rules;
      shown = λ so_far gs begun.
          let hs : List Guard = gs ++ map missed (take i xs) in
          arm_turn so_far gs xs i a new.pool new.slots.items c.loop-arm-test.true c.arm-item.is
          (c.in_ok-put_block.ensures.put (after so_far (guarded_arms gs (choices_of (take i xs)))) (hs ++ met a ∷ [])
          (arm_begun so_far gs c.args.latest.now.pool c.args.latest.now.slots.items c.args.active c.args.arms.now xs i a c.as_slice-arm-items.ensures.value begun c.loop-arm-test.true c.arm-item.is q q2 q3 c.loop-arm.latest.slots.items c.loop-arm.invariant.rules
          c.in_ok-taken.ensures.rules c.in_ok-taken.ensures.more c.in_ok-rest.ensures.more (c.loop-arm.invariant.shown so_far gs begun) c.in_ok-taken.taken (c.in_ok-taken.ensures.active (all_hold so_far.pool hs) (all_need so_far.pool hs) (c.loop-arm.invariant.rest so_far gs begun))));
      rest = λ so_far gs begun.
          let hs : List Guard = gs ++ map missed (take i xs) in
          let ks : List Guard = gs ++ map missed (take (i + 1) xs) in
          active_more q3 new.pool c.in_ok-rest.ensures.rules c.in_ok-put_block.ensures.more (all_hold so_far.pool ks) (all_need so_far.pool ks) c.in_ok-rest.rest
          (rest_active so_far gs c.args.latest.now.pool c.args.latest.now.slots.items c.args.active c.args.arms.now xs i a c.as_slice-arm-items.ensures.value begun c.loop-arm-test.true c.arm-item.is q q2 q3 c.loop-arm.latest.slots.items c.loop-arm.invariant.rules
          c.in_ok-taken.ensures.rules c.in_ok-taken.ensures.more c.in_ok-rest.ensures.more (c.loop-arm.invariant.shown so_far gs begun) c.in_ok-rest.rest
          (c.in_ok-rest.ensures.active (all_hold so_far.pool hs) (all_need so_far.pool hs) (active_more q q2 c.loop-arm.invariant.rules c.in_ok-taken.ensures.more (all_hold so_far.pool hs) (all_need so_far.pool hs) c.loop-arm.rest (c.loop-arm.invariant.rest so_far gs begun))));
    }

pub put_arms-returns-clause-put : goal.put_arms-returns-clause-put
put_arms-returns-clause-put t c = λ so_far gs begun.
    let xs = c.as_slice-arm-items.result.now in
    let all : choices_of (take c.loop-arm.arm-index xs) ≡ c.args.arms.now = ap choices_of (take_all c.loop-arm.arm-index xs c.loop-arm-test.false) ∙ c.as_slice-arm-items.ensures.value in
    subst (λ b. AreSlots (after so_far (guarded_arms gs b)) c.loop-arm.latest.pool c.loop-arm.latest.slots.items) all (c.loop-arm.invariant.shown so_far gs begun)
