use Rattle.std.proofs.Common.{◌≡◌, Some, slice_get, length, refl, arith, ◌∙◌, ap, sym}
use Rattle.std.proofs.lemmas.Option.{slice_get_read}
use Rattle.design_ir.specs.Pools.{Pooled}
use Rattle.domain_transforms.specs.Enabling.{enabled_memory}
use Rattle.domain_transforms.specs.Placed.{memory_exprs}
use Rattle.domain_transforms.proofs.MakingLaws.{each_in_turn}
use Rattle.domain_transforms.proofs.PlacedLaws.{controls_wider, flat_wider}
use Rattle.domain_transforms.proofs.enabling.enabled_memories.Goals as goal

pub enabled_memory-requires-clause-controls : goal.enabled_memory-requires-clause-controls
enabled_memory-requires-clause-controls c = controls_wider (length c.args.pool.now.exprs) (length c.loop-memory.pool.exprs) c.args.controls.now c.loop-memory.invariant.more c.requires.controls

pub enabled_memory-requires-clause-there : goal.enabled_memory-requires-clause-there
enabled_memory-requires-clause-there c =
    let items = c.as_slice-memory-items.result.now in
    let i = c.loop-memory.memory-index in
    let item = c.memory-item.result in
    let at : slice_get items i ≡ Some item = slice_get_read items (length items) i item refl c.loop-memory-test.true c.memory-item.is in
    let same : items ≡ c.args.memories.now = c.as_slice-memory-items.ensures in
    flat_wider memory_exprs (length c.args.pool.now.exprs) (length c.loop-memory.pool.exprs) c.args.memories.now i item c.loop-memory.invariant.more c.requires.there (ap (λ xs. slice_get xs i) (sym same) ∙ at)

pub loop-memory-preserved : goal.loop-memory-preserved
loop-memory-preserved c =
    let items = c.as_slice-memory-items.result.now in
    let i = c.loop-memory.memory-index in
    let item = c.memory-item.result in
    let at : slice_get items i ≡ Some item = slice_get_read items (length items) i item refl c.loop-memory-test.true c.memory-item.is in
    let y = c.in_ok-enabled_memory.field-0 in
    let new : Pooled = c.enabled_memory.new.pool in
    let turned = each_in_turn (enabled_memory c.args.controls.now) c.args.pool.now items i item c.loop-memory.all c.loop-memory.pool new y at c.loop-memory.invariant.made c.in_ok-enabled_memory.ensures.made in
    record {
      more = omega (arith, c.loop-memory.invariant.more, c.in_ok-enabled_memory.ensures.more);
      made = ap (λ all. (all, new)) c.in_ok-push.ensures.ok ∙ turned;
    }
