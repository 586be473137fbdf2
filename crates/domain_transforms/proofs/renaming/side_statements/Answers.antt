use Rattle.std.proofs.Common.{◌≡◌, ◌∙◌, Bool, cond, Some, slice_get, length, refl, ap}
use Rattle.std.proofs.lemmas.Option.{slice_get_read}
use Rattle.design_ir.specs.declared.process.Process.{Process}
use Rattle.design_ir.specs.Guards.{block_exprs}
use Rattle.domain_transforms.specs.Changes.{id_of}
use Rattle.domain_transforms.specs.Renamed.{block_append, renamed_block}
use Rattle.domain_transforms.proofs.PlacedLaws.{flat_below}
use Rattle.domain_transforms.proofs.RenameLaws.{statements_turn}
use Rattle.domain_transforms.proofs.renaming.side_statements.Goals as goal

pub add_where-requires : goal.add_where-requires
add_where-requires c =
    let items = c.args.processes.now in
    let i = c.loop-process.process-index in
    let item = c.process-item.result in
    let at : slice_get items i ≡ Some item = slice_get_read items (length items) i item refl c.loop-process-test.true c.process-item.is in
    flat_below (λ (p : Process). block_exprs p.body) (length c.args.ids.now) items i item c.requires at

pub loop-process-preserved : goal.loop-process-preserved
loop-process-preserved c =
    let items = c.args.processes.now in
    let i = c.loop-process.process-index in
    let item = c.process-item.result in
    let to = id_of c.args.ids.now in
    let cur = c.loop-process.body in
    let at : slice_get items i ≡ Some item = slice_get_read items (length items) i item refl c.loop-process-test.true c.process-item.is in
    statements_turn to c.args.names.now c.args.side.now items i item c.in_ok-own.own cur c.add_where.new.into at c.in_ok-own.ensures c.loop-process.invariant
    (c.in_ok-add_where.ensures ∙ ap (λ (b : Bool). cond b (block_append cur (renamed_block to item.body)) cur) c.side_eq-of_side.ensures)
