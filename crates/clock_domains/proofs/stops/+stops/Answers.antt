use Rattle.std.proofs.Common.{◌≡◌, ◌<◌, length, Some, slice_get, refl, sym, subst, arith}
use Rattle.std.proofs.lemmas.Option.{slice_get_read}
use Rattle.design_ir.specs.Trees.{block_size, choices_size, statement_size}
use Rattle.design_ir.specs.Statements.{statement_of, block_of}
use Rattle.design_ir.specs.Guards.{block_exprs, choices_exprs}
use Rattle.design_ir.specs.Named.{AllBelow}
use Rattle.design_ir.specs.declared.stmt.Stmt.{Stmt}
use Rattle.design_ir.specs.declared.stmt.Arm.{Arm}
use Rattle.fragment_walks.proofs.Trees.{statement_names, arm_names}
use Rattle.clock_domains.proofs.stops.+stops.Goals as goal

pub block_stop-statement_stop-requires : goal.block_stop-statement_stop-requires
block_stop-statement_stop-requires t c =
    let items = c.as_slice-statement-items.result.now in
    let i = c.loop-statement.statement-index in
    let item = c.statement-item.result in
    let at : slice_get items i ≡ Some item = slice_get_read items (length items) i item refl c.loop-statement-test.true c.statement-item.is in
    let body : block_of items ≡ c.args.body.now = c.as_slice-statement-items.ensures.value in
    let small : statement_size (statement_of item) < block_size c.args.body.now =
    subst (λ (s : Stmt). statement_size (statement_of s) < block_size c.args.body.now) (sym c.statement-item.is) (c.as_slice-statement-items.ensures.smaller i item c.loop-statement-test.true) in
    let measure : block_size c.args.body.now ≡ t = c.decreases in
    let less : statement_size (statement_of item) < t = omega (arith, small, measure) in (
      less,
      (
        statement_names (length c.args.on_inputs.now) items i item (subst (λ b. AllBelow (length c.args.on_inputs.now) (block_exprs b)) (sym body) c.requires.inputs) at,
        statement_names (length c.args.leasts.now) items i item (subst (λ b. AllBelow (length c.args.leasts.now) (block_exprs b)) (sym body) c.requires.leasts) at,
      ),
    )

pub choices_stop-block_stop-requires : goal.choices_stop-block_stop-requires
choices_stop-block_stop-requires t c =
    let items = c.as_slice-arm-items.result.now in
    let i = c.loop-arm.arm-index in
    let item = c.arm-item.result in
    let at : slice_get items i ≡ Some item = slice_get_read items (length items) i item refl c.loop-arm-test.true c.arm-item.is in
    let small : block_size item.body < choices_size c.args.arms.now =
    subst (λ (a : Arm). block_size a.body < choices_size c.args.arms.now) (sym c.arm-item.is) (c.as_slice-arm-items.ensures.smaller i item c.loop-arm-test.true) in
    let measure : choices_size c.args.arms.now ≡ t = c.decreases in
    let less : block_size item.body < t = omega (arith, small, measure) in (
      less,
      (
        (arm_names (length c.args.on_inputs.now) items i item (subst (λ b. AllBelow (length c.args.on_inputs.now) (choices_exprs b)) (sym c.as_slice-arm-items.ensures.value) c.requires.inputs) at).1,
        (arm_names (length c.args.leasts.now) items i item (subst (λ b. AllBelow (length c.args.leasts.now) (choices_exprs b)) (sym c.as_slice-arm-items.ensures.value) c.requires.leasts) at).1,
      ),
    )
