use Rattle.std.proofs.Common.{◌≡◌, length, Some, slice_get, refl}
use Rattle.std.proofs.lemmas.Option.{slice_get_read}
use Rattle.design_ir.specs.Statements.{statement_of}
use Rattle.fragment_walks.proofs.Trees.{block_copied, choices_copied}
use Rattle.fragment_walks.proofs.copies.+copies.Goals as goal

pub copied_arms-loop-arm-preserved : goal.copied_arms-loop-arm-preserved
copied_arms-loop-arm-preserved t c =
    let items = c.as_slice-arm-items.result.now in
    let i = c.loop-arm.arm-index in
    let item = c.arm-item.result in
    let at : slice_get items i ≡ Some item = slice_get_read items (length items) i item refl c.loop-arm-test.true c.arm-item.is in
    choices_copied items i item c.loop-arm.copy c.push.new.self c.in_ok-copied_block.field-0 at c.loop-arm.invariant c.in_ok-push.ensures.ok c.in_ok-copied_block.ensures

pub copied_block-loop-statement-preserved : goal.copied_block-loop-statement-preserved
copied_block-loop-statement-preserved t c =
    let items = c.as_slice-statement-items.result.now in
    let i = c.loop-statement.statement-index in
    let item = c.statement-item.result in
    let at : slice_get items i ≡ Some item = slice_get_read items (length items) i item refl c.loop-statement-test.true c.statement-item.is in
    block_copied items i item c.loop-statement.copy c.push.new.self (statement_of c.in_ok-copied_statement.field-0) at c.loop-statement.invariant c.in_ok-push.ensures.ok c.in_ok-copied_statement.ensures
