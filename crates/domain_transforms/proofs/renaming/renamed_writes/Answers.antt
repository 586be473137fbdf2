use Rattle.std.proofs.Common.{◌≡◌, Some, slice_get, length, refl, ap, sym, ◌∙◌}
use Rattle.std.proofs.lemmas.Option.{slice_get_read}
use Rattle.domain_transforms.specs.Placed.{write_exprs}
use Rattle.domain_transforms.proofs.PlacedLaws.{flat_below}
use Rattle.domain_transforms.proofs.renaming.renamed_writes.Goals as goal

pub renamed_write-requires : goal.renamed_write-requires
renamed_write-requires c =
    let items = c.as_slice-write-items.result.now in
    let i = c.loop-write.write-index in
    let item = c.write-item.result in
    let at : slice_get items i ≡ Some item = slice_get_read items (length items) i item refl c.loop-write-test.true c.write-item.is in
    flat_below write_exprs (length c.args.ids.now) c.args.writes.now i item c.requires (ap (λ xs. slice_get xs i) (sym c.as_slice-write-items.ensures) ∙ at)
