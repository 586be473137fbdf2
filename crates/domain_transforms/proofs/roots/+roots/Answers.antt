use Rattle.std.proofs.Common.{◌≡◌, ◌∙◌, ◌<◌, ◌∷◌, [], length, take, Some, slice_get, refl, sym, ap, subst, arith}
use Rattle.std.proofs.lemmas.Option.{slice_get_read}
use Rattle.design_ir.specs.Trees.{block_size, choices_size, statement_size}
use Rattle.design_ir.specs.Statements.{statement_of, block_of, choices_of}
use Rattle.design_ir.specs.Guards.{block_exprs, statement_exprs, choices_exprs}
use Rattle.design_ir.specs.Named.{AllBelow}
use Rattle.design_ir.specs.declared.stmt.Stmt.{Stmt}
use Rattle.design_ir.specs.declared.stmt.Arm.{Arm}
use Rattle.fragment_walks.specs.Marks.{marked, numbers}
use Rattle.fragment_walks.proofs.Markings.{length_marked}
use Rattle.fragment_walks.proofs.Trees.{statement_names, arm_names}
use Rattle.domain_transforms.proofs.RootLaws.{arms_turn, block_turn, same_length}
use Rattle.domain_transforms.proofs.roots.+roots.Goals as goal

pub mark_block-mark_statement-requires : goal.mark_block-mark_statement-requires
mark_block-mark_statement-requires t c =
    let items = c.as_slice-statement-items.result.now in
    let i = c.loop-statement.statement-index in
    let item = c.statement-item.result in
    let old = c.args.marks.now.items in
    let at : slice_get items i ≡ Some item = slice_get_read items (length items) i item refl c.loop-statement-test.true c.statement-item.is in
    let small : statement_size (statement_of item) < block_size c.args.body.now =
    subst (λ (s : Stmt). statement_size (statement_of s) < block_size c.args.body.now) (sym c.statement-item.is) (c.as_slice-statement-items.ensures.smaller i item c.loop-statement-test.true) in
    let measure : block_size c.args.body.now ≡ t = c.decreases in
    let less : statement_size (statement_of item) < t = omega (arith, small, measure) in
    let names = statement_names (length old) items i item (subst (λ b. AllBelow (length old) (block_exprs b)) (sym c.as_slice-statement-items.ensures.value) c.requires) at in
    (less, subst (λ n. AllBelow n (statement_exprs (statement_of item))) (sym (same_length (block_exprs (block_of (take i items))) old c.loop-statement.marks.items c.loop-statement.invariant)) names)

pub mark_block-loop-statement-preserved : goal.mark_block-loop-statement-preserved
mark_block-loop-statement-preserved t c =
    let items = c.as_slice-statement-items.result.now in
    let i = c.loop-statement.statement-index in
    let item = c.statement-item.result in
    let at : slice_get items i ≡ Some item = slice_get_read items (length items) i item refl c.loop-statement-test.true c.statement-item.is in
    block_turn items i item c.args.marks.now.items c.loop-statement.marks.items c.mark_statement.new.marks.items at c.loop-statement.invariant c.mark_statement.ensures

pub mark_arms-mark-requires : goal.mark_arms-mark-requires
mark_arms-mark-requires t c =
    let items = c.as_slice-arm-items.result.now in
    let i = c.loop-arm.arm-index in
    let item = c.arm-item.result in
    let old = c.args.marks.now.items in
    let at : slice_get items i ≡ Some item = slice_get_read items (length items) i item refl c.loop-arm-test.true c.arm-item.is in
    let names = arm_names (length old) items i item (subst (λ b. AllBelow (length old) (choices_exprs b)) (sym c.as_slice-arm-items.ensures.value) c.requires) at in
    omega (arith, names.0, same_length (choices_exprs (choices_of (take i items))) old c.loop-arm.marks.items c.loop-arm.invariant)

pub mark_arms-mark_block-requires : goal.mark_arms-mark_block-requires
mark_arms-mark_block-requires t c =
    let items = c.as_slice-arm-items.result.now in
    let i = c.loop-arm.arm-index in
    let item = c.arm-item.result in
    let old = c.args.marks.now.items in
    let at : slice_get items i ≡ Some item = slice_get_read items (length items) i item refl c.loop-arm-test.true c.arm-item.is in
    let small : block_size item.body < choices_size c.args.arms.now =
    subst (λ (a : Arm). block_size a.body < choices_size c.args.arms.now) (sym c.arm-item.is) (c.as_slice-arm-items.ensures.smaller i item c.loop-arm-test.true) in
    let measure : choices_size c.args.arms.now ≡ t = c.decreases in
    let less : block_size item.body < t = omega (arith, small, measure) in
    let names = arm_names (length old) items i item (subst (λ b. AllBelow (length old) (choices_exprs b)) (sym c.as_slice-arm-items.ensures.value) c.requires) at in
    let size : length c.mark.new.marks.items ≡ length old = ap length c.mark.ensures ∙ length_marked (item.condition.0 ∷ []) c.loop-arm.marks.items ∙ same_length (choices_exprs (choices_of (take i items))) old c.loop-arm.marks.items c.loop-arm.invariant in
    (less, subst (λ n. AllBelow n (block_exprs item.body)) (sym size) names.1)

pub mark_arms-loop-arm-preserved : goal.mark_arms-loop-arm-preserved
mark_arms-loop-arm-preserved t c =
    let items = c.as_slice-arm-items.result.now in
    let i = c.loop-arm.arm-index in
    let item = c.arm-item.result in
    let at : slice_get items i ≡ Some item = slice_get_read items (length items) i item refl c.loop-arm-test.true c.arm-item.is in
    arms_turn items i item c.args.marks.now.items c.loop-arm.marks.items c.mark_block.new.marks.items at c.loop-arm.invariant (c.mark_block.ensures ∙ ap (marked (numbers (block_exprs item.body))) c.mark.ensures)
