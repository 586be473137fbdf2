use Rattle.std.proofs.Common.{◌≡◌, ◌∙◌, ◌<◌, ◌∷◌, [], length, take, Some, slice_get, refl, sym, ap, subst, arith}
use Rattle.std.proofs.lemmas.Option.{slice_get_read}
use Rattle.design_ir.specs.Trees.{block_size, choices_size, statement_size}
use Rattle.design_ir.specs.Statements.{statement_of, block_of, choices_of}
use Rattle.design_ir.specs.Guards.{block_exprs, statement_exprs, choices_exprs}
use Rattle.design_ir.specs.Named.{AllBelow}
use Rattle.design_ir.specs.declared.stmt.Stmt.{Stmt}
use Rattle.design_ir.specs.declared.stmt.Arm.{Arm}
use Rattle.fragment_walks.specs.Marks.{marked}
use Rattle.fragment_walks.specs.Reads.{block_targets, block_values, choices_targets, choices_values}
use Rattle.fragment_walks.proofs.Markings.{length_marked}
use Rattle.fragment_walks.proofs.Trees.{statement_names, arm_names, targets_turn, values_turn, arm_targets_turn, arm_values_turn}
use Rattle.fragment_walks.proofs.marks.+marks.Goals as goal

pub mark_block-mark_statement-requires : goal.mark_block-mark_statement-requires
mark_block-mark_statement-requires t c =
    let items = c.as_slice-statement-items.result.now in
    let i = c.loop-statement.statement-index in
    let item = c.statement-item.result in
    let old = c.args.roots.now in
    let at : slice_get items i ≡ Some item = slice_get_read items (length items) i item refl c.loop-statement-test.true c.statement-item.is in
    let body : block_of items ≡ c.args.body.now = c.as_slice-statement-items.ensures.value in
    let small : statement_size (statement_of item) < block_size c.args.body.now =
    subst (λ (s : Stmt). statement_size (statement_of s) < block_size c.args.body.now) (sym c.statement-item.is) (c.as_slice-statement-items.ensures.smaller i item c.loop-statement-test.true) in
    let measure : block_size c.args.body.now ≡ t = c.decreases in
    let less : statement_size (statement_of item) < t = omega (arith, small, measure) in
    let done = take i items in
    let targets = statement_names (length old.targets.items) items i item (subst (λ b. AllBelow (length old.targets.items) (block_exprs b)) (sym body) c.requires.targets) at in
    let values = statement_names (length old.values.items) items i item (subst (λ b. AllBelow (length old.values.items) (block_exprs b)) (sym body) c.requires.values) at in (
      less,
      (
        subst (λ n. AllBelow n (statement_exprs (statement_of item))) (sym (ap length c.loop-statement.invariant.targets ∙ length_marked (block_targets (block_of done)) old.targets.items)) targets,
        subst (λ n. AllBelow n (statement_exprs (statement_of item))) (sym (ap length c.loop-statement.invariant.values ∙ length_marked (block_values (block_of done)) old.values.items)) values,
      ),
    )

pub mark_block-loop-statement-preserved : goal.mark_block-loop-statement-preserved
mark_block-loop-statement-preserved t c =
    let items = c.as_slice-statement-items.result.now in
    let i = c.loop-statement.statement-index in
    let item = c.statement-item.result in
    let at : slice_get items i ≡ Some item = slice_get_read items (length items) i item refl c.loop-statement-test.true c.statement-item.is in
    let old = c.args.roots.now in
    let cur = c.loop-statement.roots in
    let new = c.mark_statement.new.roots in
    record {
      targets = targets_turn items i item old.targets.items cur.targets.items new.targets.items at c.loop-statement.invariant.targets c.mark_statement.ensures.targets;
      values = values_turn items i item old.values.items cur.values.items new.values.items at c.loop-statement.invariant.values c.mark_statement.ensures.values;
    }

pub mark_arms-mark-requires : goal.mark_arms-mark-requires
mark_arms-mark-requires t c =
    let items = c.as_slice-arm-items.result.now in
    let i = c.loop-arm.arm-index in
    let item = c.arm-item.result in
    let old = c.args.roots.now in
    let at : slice_get items i ≡ Some item = slice_get_read items (length items) i item refl c.loop-arm-test.true c.arm-item.is in
    let names = arm_names (length old.values.items) items i item (subst (λ b. AllBelow (length old.values.items) (choices_exprs b)) (sym c.as_slice-arm-items.ensures.value) c.requires.values) at in
    omega (arith, names.0, ap length c.loop-arm.invariant.values, length_marked (choices_values (choices_of (take i items))) old.values.items)

pub mark_arms-mark_block-requires : goal.mark_arms-mark_block-requires
mark_arms-mark_block-requires t c =
    let items = c.as_slice-arm-items.result.now in
    let i = c.loop-arm.arm-index in
    let item = c.arm-item.result in
    let old = c.args.roots.now in
    let at : slice_get items i ≡ Some item = slice_get_read items (length items) i item refl c.loop-arm-test.true c.arm-item.is in
    let small : block_size item.body < choices_size c.args.arms.now =
    subst (λ (a : Arm). block_size a.body < choices_size c.args.arms.now) (sym c.arm-item.is) (c.as_slice-arm-items.ensures.smaller i item c.loop-arm-test.true) in
    let measure : choices_size c.args.arms.now ≡ t = c.decreases in
    let less : block_size item.body < t = omega (arith, small, measure) in
    let targets = arm_names (length old.targets.items) items i item (subst (λ b. AllBelow (length old.targets.items) (choices_exprs b)) (sym c.as_slice-arm-items.ensures.value) c.requires.targets) at in
    let values = arm_names (length old.values.items) items i item (subst (λ b. AllBelow (length old.values.items) (choices_exprs b)) (sym c.as_slice-arm-items.ensures.value) c.requires.values) at in
    let cond = ap length c.mark.ensures ∙ length_marked (item.condition.0 ∷ []) c.loop-arm.roots.values.items in (
      less,
      (
        subst (λ n. AllBelow n (block_exprs item.body)) (sym (ap length c.loop-arm.invariant.targets ∙ length_marked (choices_targets (choices_of (take i items))) old.targets.items)) targets.1,
        subst (λ n. AllBelow n (block_exprs item.body)) (sym (cond ∙ ap length c.loop-arm.invariant.values ∙ length_marked (choices_values (choices_of (take i items))) old.values.items)) values.1,
      ),
    )

pub mark_arms-loop-arm-preserved : goal.mark_arms-loop-arm-preserved
mark_arms-loop-arm-preserved t c =
    let items = c.as_slice-arm-items.result.now in
    let i = c.loop-arm.arm-index in
    let item = c.arm-item.result in
    let at : slice_get items i ≡ Some item = slice_get_read items (length items) i item refl c.loop-arm-test.true c.arm-item.is in
    let old = c.args.roots.now in
    let cur = c.loop-arm.roots in
    let new = c.mark_block.new.roots in
    record {
      targets = arm_targets_turn items i item old.targets.items cur.targets.items new.targets.items at c.loop-arm.invariant.targets c.mark_block.ensures.targets;
      values = arm_values_turn items i item old.values.items cur.values.items new.values.items at c.loop-arm.invariant.values (c.mark_block.ensures.values ∙ ap (marked (block_values item.body)) c.mark.ensures);
    }
