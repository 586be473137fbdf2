use Rattle.std.proofs.Common.{◌≡◌, Some, slice_get, length, take, refl, sym, subst}
use Rattle.std.specs.List.{flat_map}
use Rattle.std.proofs.lemmas.Option.{slice_get_read}
use Rattle.design_ir.specs.Named.{AllBelow}
use Rattle.domain_transforms.specs.Placed.{memory_exprs}
use Rattle.domain_transforms.proofs.PlacedLaws.{flat_below}
use Rattle.domain_transforms.proofs.RootLaws.{flat_turn, same_length}
use Rattle.domain_transforms.proofs.roots.mark_memories.Goals as goal

pub mark_memory-requires : goal.mark_memory-requires
mark_memory-requires c =
    let items = c.args.memories.now in
    let i = c.loop-memory.memory-index in
    let item = c.memory-item.result in
    let old = c.args.marks.now.items in
    let at : slice_get items i ≡ Some item = slice_get_read items (length items) i item refl c.loop-memory-test.true c.memory-item.is in
    subst (λ n. AllBelow n (memory_exprs item)) (sym (same_length (flat_map memory_exprs (take i items)) old c.loop-memory.marks.items c.loop-memory.invariant)) (flat_below memory_exprs (length old) items i item c.requires at)

pub loop-memory-preserved : goal.loop-memory-preserved
loop-memory-preserved c =
    let items = c.args.memories.now in
    let i = c.loop-memory.memory-index in
    let item = c.memory-item.result in
    let at : slice_get items i ≡ Some item = slice_get_read items (length items) i item refl c.loop-memory-test.true c.memory-item.is in
    flat_turn memory_exprs items i item c.args.marks.now.items c.loop-memory.marks.items c.mark_memory.new.marks.items at c.loop-memory.invariant c.mark_memory.ensures
