use Rattle.std.proofs.Common.{◌≡◌, ◌∙◌, ◌<◌, length, take, Some, slice_get, refl, sym, ap, subst, arith}
use Rattle.std.proofs.lemmas.Option.{slice_get_read}
use Rattle.design_ir.specs.Trees.{block_size, choices_size, statement_size}
use Rattle.design_ir.specs.Statements.{statement_of, block_of, choices_of}
use Rattle.design_ir.specs.Guards.{block_exprs, statement_exprs, choices_exprs}
use Rattle.design_ir.specs.Named.{AllBelow}
use Rattle.design_ir.specs.declared.stmt.Stmt.{Stmt}
use Rattle.design_ir.specs.declared.stmt.Arm.{Arm}
use Rattle.fragment_walks.specs.Reads.{block_targets, choices_targets, statement_targets}
use Rattle.fragment_walks.proofs.NumberLaws.{lowered_turn, length_lowered}
use Rattle.fragment_walks.proofs.Trees.{statement_names, arm_names, targets-push, arm_targets-push}
use Rattle.fragment_walks.proofs.numbers.+numbers.Goals as goal

pub lower_block-lower_statement-requires : goal.lower_block-lower_statement-requires
lower_block-lower_statement-requires t c =
    let items = c.as_slice-statement-items.result.now in
    let i = c.loop-statement.statement-index in
    let item = c.statement-item.result in
    let old = c.args.targets.now.items in
    let at : slice_get items i ≡ Some item = slice_get_read items (length items) i item refl c.loop-statement-test.true c.statement-item.is in
    let body : block_of items ≡ c.args.body.now = c.as_slice-statement-items.ensures.value in
    let small : statement_size (statement_of item) < block_size c.args.body.now =
    subst (λ (s : Stmt). statement_size (statement_of s) < block_size c.args.body.now) (sym c.statement-item.is) (c.as_slice-statement-items.ensures.smaller i item c.loop-statement-test.true) in
    let measure : block_size c.args.body.now ≡ t = c.decreases in
    let less : statement_size (statement_of item) < t = omega (arith, small, measure) in
    let names = statement_names (length old) items i item (subst (λ b. AllBelow (length old) (block_exprs b)) (sym body) c.requires) at in (
      less,
      subst (λ n. AllBelow n (statement_exprs (statement_of item))) (sym (ap length c.loop-statement.invariant ∙ length_lowered (block_targets (block_of (take i items))) c.args.number old)) names,
    )

pub lower_block-loop-statement-preserved : goal.lower_block-loop-statement-preserved
lower_block-loop-statement-preserved t c =
    let items = c.as_slice-statement-items.result.now in
    let i = c.loop-statement.statement-index in
    let item = c.statement-item.result in
    let at : slice_get items i ≡ Some item = slice_get_read items (length items) i item refl c.loop-statement-test.true c.statement-item.is in
    lowered_turn (λ xs. block_targets (block_of xs)) c.args.number items i item (statement_targets (statement_of item)) c.args.targets.now.items c.loop-statement.targets.items c.lower_statement.new.targets.items at (targets-push (take i items) item)
    c.loop-statement.invariant c.lower_statement.ensures

pub lower_arms-lower_block-requires : goal.lower_arms-lower_block-requires
lower_arms-lower_block-requires t c =
    let items = c.as_slice-arm-items.result.now in
    let i = c.loop-arm.arm-index in
    let item = c.arm-item.result in
    let old = c.args.targets.now.items in
    let at : slice_get items i ≡ Some item = slice_get_read items (length items) i item refl c.loop-arm-test.true c.arm-item.is in
    let small : block_size item.body < choices_size c.args.arms.now =
    subst (λ (a : Arm). block_size a.body < choices_size c.args.arms.now) (sym c.arm-item.is) (c.as_slice-arm-items.ensures.smaller i item c.loop-arm-test.true) in
    let measure : choices_size c.args.arms.now ≡ t = c.decreases in
    let less : block_size item.body < t = omega (arith, small, measure) in
    let names = arm_names (length old) items i item (subst (λ b. AllBelow (length old) (choices_exprs b)) (sym c.as_slice-arm-items.ensures.value) c.requires) at in (
      less,
      subst (λ n. AllBelow n (block_exprs item.body)) (sym (ap length c.loop-arm.invariant ∙ length_lowered (choices_targets (choices_of (take i items))) c.args.number old)) names.1,
    )

pub lower_arms-loop-arm-preserved : goal.lower_arms-loop-arm-preserved
lower_arms-loop-arm-preserved t c =
    let items = c.as_slice-arm-items.result.now in
    let i = c.loop-arm.arm-index in
    let item = c.arm-item.result in
    let at : slice_get items i ≡ Some item = slice_get_read items (length items) i item refl c.loop-arm-test.true c.arm-item.is in
    lowered_turn (λ xs. choices_targets (choices_of xs)) c.args.number items i item (block_targets item.body) c.args.targets.now.items c.loop-arm.targets.items c.lower_block.new.targets.items at (arm_targets-push (take i items) item)
    c.loop-arm.invariant c.lower_block.ensures
