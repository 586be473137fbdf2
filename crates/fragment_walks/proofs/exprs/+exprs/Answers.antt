use Rattle.std.proofs.Common.{◌≡◌, ◌∙◌, ◌++◌, ◌∷◌, [], length, take, Some, slice_get, refl, ap, append_assoc}
use Rattle.std.proofs.lemmas.Option.{slice_get_read}
use Rattle.design_ir.specs.Statements.{statement_of, block_of, choices_of}
use Rattle.design_ir.specs.Guards.{block_exprs, choices_exprs, statement_exprs}
use Rattle.fragment_walks.proofs.ExprLists.{added_turn, block_exprs-push, choices_exprs-push}
use Rattle.fragment_walks.proofs.exprs.+exprs.Goals as goal

pub add_block-loop-statement-preserved : goal.add_block-loop-statement-preserved
add_block-loop-statement-preserved t c =
    let items = c.as_slice-statement-items.result.now in
    let i = c.loop-statement.statement-index in
    let item = c.statement-item.result in
    let at : slice_get items i ≡ Some item = slice_get_read items (length items) i item refl c.loop-statement-test.true c.statement-item.is in
    added_turn (λ xs. block_exprs (block_of xs)) items i item (statement_exprs (statement_of item)) c.args.ids.now c.loop-statement.ids c.add_statement.new.ids at (block_exprs-push (take i items) item) c.loop-statement.invariant c.in_ok-add_statement.ensures

pub add_arms-loop-arm-preserved : goal.add_arms-loop-arm-preserved
add_arms-loop-arm-preserved t c =
    let items = c.as_slice-arm-items.result.now in
    let i = c.loop-arm.arm-index in
    let item = c.arm-item.result in
    let at : slice_get items i ≡ Some item = slice_get_read items (length items) i item refl c.loop-arm-test.true c.arm-item.is in
    added_turn (λ xs. choices_exprs (choices_of xs)) items i item (item.condition ∷ block_exprs item.body) c.args.ids.now c.loop-arm.ids c.add_block.new.ids at (choices_exprs-push (take i items) item) c.loop-arm.invariant
    (c.in_ok-add_block.ensures ∙ ap (λ xs. xs ++ block_exprs item.body) c.in_ok-push.ensures.ok ∙ append_assoc c.loop-arm.ids (item.condition ∷ []) (block_exprs item.body))
