use Rattle.std.proofs.Common.{◌≡◌, ◌<◌, length, Some, slice_get, refl, sym, ap, ◌∙◌, subst, arith}
use Rattle.std.proofs.lemmas.Option.{slice_get_read}
use Rattle.design_ir.specs.Trees.{block_size, choices_size, statement_size}
use Rattle.design_ir.specs.Statements.{statement_of}
use Rattle.design_ir.specs.Guards.{block_exprs, choices_exprs}
use Rattle.design_ir.specs.Named.{AllBelow}
use Rattle.design_ir.specs.declared.stmt.Stmt.{Stmt}
use Rattle.design_ir.specs.declared.stmt.Arm.{Arm}
use Rattle.fragment_walks.proofs.Trees.{statement_names, arm_names}
use Rattle.domain_transforms.specs.Changes.{id_of}
use Rattle.domain_transforms.specs.Renamed.{block_append, renamed_block}
use Rattle.domain_transforms.proofs.RenameLaws.{append_done, arms_turn, block_turn}
use Rattle.domain_transforms.proofs.renaming.+renaming.Goals as goal

pub add_renamed-loop-statement-init : goal.add_renamed-loop-statement-init
add_renamed-loop-statement-init t c = sym (append_done c.args.into.now)

pub add_renamed-renamed_statement-requires : goal.add_renamed-renamed_statement-requires
add_renamed-renamed_statement-requires t c =
    let n = length c.args.ids.now in
    let items = c.as_slice-statement-items.result.now in
    let i = c.loop-statement.statement-index in
    let item = c.statement-item.result in
    let at : slice_get items i ≡ Some item = slice_get_read items (length items) i item refl c.loop-statement-test.true c.statement-item.is in
    let small : statement_size (statement_of item) < block_size c.args.body.now =
    subst (λ (s : Stmt). statement_size (statement_of s) < block_size c.args.body.now) (sym c.statement-item.is) (c.as_slice-statement-items.ensures.smaller i item c.loop-statement-test.true) in
    let measure : block_size c.args.body.now ≡ t = c.decreases in
    let less : statement_size (statement_of item) < t = omega (arith, small, measure) in
    (less, statement_names n items i item (subst (λ b. AllBelow n (block_exprs b)) (sym c.as_slice-statement-items.ensures.value) c.requires) at)

pub add_renamed-loop-statement-preserved : goal.add_renamed-loop-statement-preserved
add_renamed-loop-statement-preserved t c =
    let items = c.as_slice-statement-items.result.now in
    let i = c.loop-statement.statement-index in
    let item = c.statement-item.result in
    let at : slice_get items i ≡ Some item = slice_get_read items (length items) i item refl c.loop-statement-test.true c.statement-item.is in
    block_turn (id_of c.args.ids.now) items i item c.args.into.now c.loop-statement.into c.push.new.self (statement_of c.in_ok-renamed_statement.field-0) at c.loop-statement.invariant c.in_ok-push.ensures.ok c.in_ok-renamed_statement.ensures

pub renamed_arms-add_renamed-requires : goal.renamed_arms-add_renamed-requires
renamed_arms-add_renamed-requires t c =
    let n = length c.args.ids.now in
    let items = c.as_slice-arm-items.result.now in
    let i = c.loop-arm.arm-index in
    let item = c.arm-item.result in
    let at : slice_get items i ≡ Some item = slice_get_read items (length items) i item refl c.loop-arm-test.true c.arm-item.is in
    let small : block_size item.body < choices_size c.args.arms.now =
    subst (λ (a : Arm). block_size a.body < choices_size c.args.arms.now) (sym c.arm-item.is) (c.as_slice-arm-items.ensures.smaller i item c.loop-arm-test.true) in
    let measure : choices_size c.args.arms.now ≡ t = c.decreases in
    let less : block_size item.body < t = omega (arith, small, measure) in
    (less, (arm_names n items i item (subst (λ b. AllBelow n (choices_exprs b)) (sym c.as_slice-arm-items.ensures.value) c.requires) at).1)

pub renamed_arms-id_of-requires : goal.renamed_arms-id_of-requires
renamed_arms-id_of-requires t c =
    let n = length c.args.ids.now in
    let items = c.as_slice-arm-items.result.now in
    let i = c.loop-arm.arm-index in
    let item = c.arm-item.result in
    let at : slice_get items i ≡ Some item = slice_get_read items (length items) i item refl c.loop-arm-test.true c.arm-item.is in
    (arm_names n items i item (subst (λ b. AllBelow n (choices_exprs b)) (sym c.as_slice-arm-items.ensures.value) c.requires) at).0

pub renamed_arms-loop-arm-preserved : goal.renamed_arms-loop-arm-preserved
renamed_arms-loop-arm-preserved t c =
    let items = c.as_slice-arm-items.result.now in
    let i = c.loop-arm.arm-index in
    let item = c.arm-item.result in
    let to = id_of c.args.ids.now in
    let at : slice_get items i ≡ Some item = slice_get_read items (length items) i item refl c.loop-arm-test.true c.arm-item.is in
    arms_turn to items i item c.loop-arm.all c.push.new.self c.id_of.result c.add_renamed.new.into at c.loop-arm.invariant c.in_ok-push.ensures.ok c.id_of.ensures
    (c.in_ok-add_renamed.ensures ∙ ap (λ b. block_append b (renamed_block to item.body)) c.new-body.ensures)
