use Rattle.std.proofs.Common.{◌≡◌, Some, slice_get, length, take, refl, sym, subst}
use Rattle.std.specs.List.{flat_map}
use Rattle.std.proofs.lemmas.Option.{slice_get_read}
use Rattle.design_ir.specs.Named.{AllBelow}
use Rattle.domain_transforms.specs.Placed.{write_exprs}
use Rattle.domain_transforms.proofs.PlacedLaws.{flat_below}
use Rattle.domain_transforms.proofs.RootLaws.{flat_turn, same_length}
use Rattle.domain_transforms.proofs.roots.mark_writes.Goals as goal

pub mark_write-requires : goal.mark_write-requires
mark_write-requires c =
    let items = c.args.writes.now in
    let i = c.loop-write.write-index in
    let item = c.write-item.result in
    let old = c.args.marks.now.items in
    let at : slice_get items i ≡ Some item = slice_get_read items (length items) i item refl c.loop-write-test.true c.write-item.is in
    subst (λ n. AllBelow n (write_exprs item)) (sym (same_length (flat_map write_exprs (take i items)) old c.loop-write.marks.items c.loop-write.invariant)) (flat_below write_exprs (length old) items i item c.requires at)

pub loop-write-preserved : goal.loop-write-preserved
loop-write-preserved c =
    let items = c.args.writes.now in
    let i = c.loop-write.write-index in
    let item = c.write-item.result in
    let at : slice_get items i ≡ Some item = slice_get_read items (length items) i item refl c.loop-write-test.true c.write-item.is in
    flat_turn write_exprs items i item c.args.marks.now.items c.loop-write.marks.items c.mark_write.new.marks.items at c.loop-write.invariant c.mark_write.ensures
