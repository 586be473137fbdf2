use Rattle.std.proofs.Common.{◌≡◌, Some, slice_get, length, refl, ap, sym, ◌∙◌}
use Rattle.std.proofs.lemmas.Option.{slice_get_read}
use Rattle.domain_transforms.specs.Placed.{read_exprs}
use Rattle.domain_transforms.proofs.PlacedLaws.{flat_below}
use Rattle.domain_transforms.proofs.renaming.renamed_reads.Goals as goal

pub renamed_read-requires : goal.renamed_read-requires
renamed_read-requires c =
    let items = c.as_slice-read-items.result.now in
    let i = c.loop-read.read-index in
    let item = c.read-item.result in
    let at : slice_get items i ≡ Some item = slice_get_read items (length items) i item refl c.loop-read-test.true c.read-item.is in
    flat_below read_exprs (length c.args.ids.now) c.args.reads.now i item c.requires (ap (λ xs. slice_get xs i) (sym c.as_slice-read-items.ensures) ∙ at)
