use Rattle.std.proofs.Common.{◌≡◌, ◌∙◌, ◌<◌, refl, sym, subst, arith, length, Some, slice_get}
use Rattle.std.proofs.lemmas.Option.{slice_get_read}
use Rattle.design_ir.specs.Trees.{block_size, choices_size, statement_size, Block, Choices}
use Rattle.design_ir.specs.Statements.{statement_of}
use Rattle.design_ir.specs.Guards.{guarded, guarded_in, guarded_arms, block_exprs, choices_exprs}
use Rattle.design_ir.specs.Named.{AllBelow}
use Rattle.design_ir.specs.declared.stmt.Stmt.{Stmt}
use Rattle.design_ir.specs.declared.stmt.Arm.{Arm}
use Rattle.comb_graph.specs.Rankings.{bit_of}
use Rattle.comb_graph.specs.Told.{first_place}
use Rattle.comb_graph.proofs.GraphBlocks.{statement_names, arm_names}
use Rattle.comb_graph.proofs.ToldLaws.{block_none, block_found, arms_none, arms_found}
use Rattle.comb_graph.proofs.told.+told.Goals as goal

-- ---- a block

pub in_block-in_statement-requires : goal.in_block-in_statement-requires
in_block-in_statement-requires t c =
    let items = c.as_slice-statement-items.result.now in
    let i = c.loop-statement.statement-index in
    let item = c.statement-item.result in
    let at : slice_get items i ≡ Some item = slice_get_read items (length items) i item refl c.loop-statement-test.true c.statement-item.is in
    let names = statement_names (length c.args.table.now) items i item (subst (λ b. AllBelow (length c.args.table.now) (block_exprs b)) (sym c.as_slice-statement-items.ensures.value) c.requires) at in
    let small : statement_size (statement_of item) < block_size c.args.body.now =
    subst (λ (s : Stmt). statement_size (statement_of s) < block_size c.args.body.now) (sym c.statement-item.is) (c.as_slice-statement-items.ensures.smaller i item c.loop-statement-test.true) in
    let measure : block_size c.args.body.now ≡ t = c.decreases in
    let less : statement_size (statement_of item) < t = omega (arith, small, measure) in
    (less, names)

pub in_block-returns-in-Some : goal.in_block-returns-in-Some
in_block-returns-in-Some t c =
    let table = c.args.table.now in
    let b = bit_of c.args.bit in
    let items = c.as_slice-statement-items.result.now in
    let i = c.loop-statement.statement-index in
    let item = c.statement-item.result in
    let at : slice_get items i ≡ Some item = slice_get_read items (length items) i item refl c.loop-statement-test.true c.statement-item.is in
    λ gs.
    let here : first_place table b (guarded_in gs (statement_of item)) ≡ Some c.in-Some.place = sym (c.in_statement.ensures gs) ∙ c.in-Some.is in
    let all = block_found table b gs items i item c.in-Some.place at (c.loop-statement.invariant gs) here in
    sym (subst (λ (x : Block). first_place table b (guarded gs x) ≡ Some c.in-Some.place) c.as_slice-statement-items.ensures.value all)

pub in_block-loop-statement-preserved : goal.in_block-loop-statement-preserved
in_block-loop-statement-preserved t c =
    let items = c.as_slice-statement-items.result.now in
    let i = c.loop-statement.statement-index in
    let item = c.statement-item.result in
    let at : slice_get items i ≡ Some item = slice_get_read items (length items) i item refl c.loop-statement-test.true c.statement-item.is in
    λ gs. block_none c.args.table.now (bit_of c.args.bit) gs items i item at (c.loop-statement.invariant gs) (sym (c.in_statement.ensures gs) ∙ c.in_default.is)

-- ---- arms

pub in_arms-in_block-requires : goal.in_arms-in_block-requires
in_arms-in_block-requires t c =
    let items = c.as_slice-arm-items.result.now in
    let i = c.loop-arm.arm-index in
    let item = c.arm-item.result in
    let at : slice_get items i ≡ Some item = slice_get_read items (length items) i item refl c.loop-arm-test.true c.arm-item.is in
    let names = arm_names (length c.args.table.now) items i item (subst (λ b. AllBelow (length c.args.table.now) (choices_exprs b)) (sym c.as_slice-arm-items.ensures.value) c.requires) at in
    let small : block_size item.body < choices_size c.args.arms.now =
    subst (λ (a : Arm). block_size a.body < choices_size c.args.arms.now) (sym c.arm-item.is) (c.as_slice-arm-items.ensures.smaller i item c.loop-arm-test.true) in
    let measure : choices_size c.args.arms.now ≡ t = c.decreases in
    let less : block_size item.body < t = omega (arith, small, measure) in
    (less, names.1)

pub in_arms-returns-in-Some : goal.in_arms-returns-in-Some
in_arms-returns-in-Some t c =
    let table = c.args.table.now in
    let b = bit_of c.args.bit in
    let items = c.as_slice-arm-items.result.now in
    let i = c.loop-arm.arm-index in
    let item = c.arm-item.result in
    let at : slice_get items i ≡ Some item = slice_get_read items (length items) i item refl c.loop-arm-test.true c.arm-item.is in
    λ gs.
    let all = arms_found table b gs items i item c.in-Some.place at (c.loop-arm.invariant gs) (λ hs. sym (c.in_block.ensures hs) ∙ c.in-Some.is) in
    sym (subst (λ (x : Choices). first_place table b (guarded_arms gs x) ≡ Some c.in-Some.place) c.as_slice-arm-items.ensures.value all)

pub in_arms-loop-arm-preserved : goal.in_arms-loop-arm-preserved
in_arms-loop-arm-preserved t c =
    let items = c.as_slice-arm-items.result.now in
    let i = c.loop-arm.arm-index in
    let item = c.arm-item.result in
    let at : slice_get items i ≡ Some item = slice_get_read items (length items) i item refl c.loop-arm-test.true c.arm-item.is in
    λ gs. arms_none c.args.table.now (bit_of c.args.bit) gs items i item at (c.loop-arm.invariant gs) (λ hs. sym (c.in_block.ensures hs) ∙ c.in_default.is)
