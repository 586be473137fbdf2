use Rattle.std.proofs.Common.{◌≡◌, Some, slice_get, length, refl, ap, sym, ◌∙◌}
use Rattle.std.proofs.lemmas.Option.{slice_get_read}
use Rattle.domain_transforms.specs.Placed.{memory_exprs}
use Rattle.domain_transforms.proofs.PlacedLaws.{flat_below}
use Rattle.domain_transforms.proofs.renaming.renamed_memories.Goals as goal

pub renamed_memory-requires : goal.renamed_memory-requires
renamed_memory-requires c =
    let items = c.as_slice-memory-items.result.now in
    let i = c.loop-memory.memory-index in
    let item = c.memory-item.result in
    let at : slice_get items i ≡ Some item = slice_get_read items (length items) i item refl c.loop-memory-test.true c.memory-item.is in
    flat_below memory_exprs (length c.args.ids.now) c.args.memories.now i item c.requires (ap (λ xs. slice_get xs i) (sym c.as_slice-memory-items.ensures) ∙ at)
