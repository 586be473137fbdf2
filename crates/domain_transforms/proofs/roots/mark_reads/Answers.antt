use Rattle.std.proofs.Common.{◌≡◌, Some, slice_get, length, take, refl, sym, subst}
use Rattle.std.specs.List.{flat_map}
use Rattle.std.proofs.lemmas.Option.{slice_get_read}
use Rattle.design_ir.specs.Named.{AllBelow}
use Rattle.domain_transforms.specs.Placed.{read_exprs}
use Rattle.domain_transforms.proofs.PlacedLaws.{flat_below}
use Rattle.domain_transforms.proofs.RootLaws.{flat_turn, same_length}
use Rattle.domain_transforms.proofs.roots.mark_reads.Goals as goal

pub mark_read-requires : goal.mark_read-requires
mark_read-requires c =
    let items = c.args.reads.now in
    let i = c.loop-read.read-index in
    let item = c.read-item.result in
    let old = c.args.marks.now.items in
    let at : slice_get items i ≡ Some item = slice_get_read items (length items) i item refl c.loop-read-test.true c.read-item.is in
    subst (λ n. AllBelow n (read_exprs item)) (sym (same_length (flat_map read_exprs (take i items)) old c.loop-read.marks.items c.loop-read.invariant)) (flat_below read_exprs (length old) items i item c.requires at)

pub loop-read-preserved : goal.loop-read-preserved
loop-read-preserved c =
    let items = c.args.reads.now in
    let i = c.loop-read.read-index in
    let item = c.read-item.result in
    let at : slice_get items i ≡ Some item = slice_get_read items (length items) i item refl c.loop-read-test.true c.read-item.is in
    flat_turn read_exprs items i item c.args.marks.now.items c.loop-read.marks.items c.mark_read.new.marks.items at c.loop-read.invariant c.mark_read.ensures
