use Rattle.std.proofs.Common.{◌≡◌, Some, slice_get, length, take, refl, sym, subst}
use Rattle.std.specs.List.{flat_map}
use Rattle.std.proofs.lemmas.Option.{slice_get_read}
use Rattle.design_ir.specs.Named.{AllBelow}
use Rattle.design_ir.specs.declared.process.Process.{Process}
use Rattle.design_ir.specs.Guards.{block_exprs}
use Rattle.domain_transforms.proofs.PlacedLaws.{flat_below}
use Rattle.domain_transforms.proofs.RootLaws.{flat_turn, same_length}
use Rattle.domain_transforms.proofs.roots.mark_processes.Goals as goal

pub mark_block-requires : goal.mark_block-requires
mark_block-requires c =
    let items = c.args.processes.now in
    let i = c.loop-process.process-index in
    let item = c.process-item.result in
    let old = c.args.marks.now.items in
    let at : slice_get items i ≡ Some item = slice_get_read items (length items) i item refl c.loop-process-test.true c.process-item.is in
    subst (λ n. AllBelow n (block_exprs item.body)) (sym (same_length (flat_map (λ (p : Process). block_exprs p.body) (take i items)) old c.loop-process.marks.items c.loop-process.invariant)) (flat_below (λ (p : Process). block_exprs p.body) (length old) items i item c.requires at)

pub loop-process-preserved : goal.loop-process-preserved
loop-process-preserved c =
    let items = c.args.processes.now in
    let i = c.loop-process.process-index in
    let item = c.process-item.result in
    let at : slice_get items i ≡ Some item = slice_get_read items (length items) i item refl c.loop-process-test.true c.process-item.is in
    flat_turn (λ (p : Process). block_exprs p.body) items i item c.args.marks.now.items c.loop-process.marks.items c.mark_block.new.marks.items at c.loop-process.invariant c.mark_block.ensures
