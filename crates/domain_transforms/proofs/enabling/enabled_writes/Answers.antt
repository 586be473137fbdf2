use Rattle.std.proofs.Common.{◌≡◌, Some, slice_get, length, refl, arith, ◌∙◌, ap, sym}
use Rattle.std.proofs.lemmas.Option.{slice_get_read}
use Rattle.design_ir.specs.Pools.{Pooled}
use Rattle.domain_transforms.specs.Enabling.{enabled_write}
use Rattle.domain_transforms.specs.Placed.{write_exprs}
use Rattle.domain_transforms.proofs.MakingLaws.{each_in_turn}
use Rattle.domain_transforms.proofs.PlacedLaws.{controls_wider, flat_wider}
use Rattle.domain_transforms.proofs.enabling.enabled_writes.Goals as goal

pub enabled_write-requires-clause-controls : goal.enabled_write-requires-clause-controls
enabled_write-requires-clause-controls c = controls_wider (length c.args.pool.now.exprs) (length c.loop-write.pool.exprs) c.args.controls.now c.loop-write.invariant.more c.requires.controls

pub enabled_write-requires-clause-there : goal.enabled_write-requires-clause-there
enabled_write-requires-clause-there c =
    let items = c.as_slice-write-items.result.now in
    let i = c.loop-write.write-index in
    let item = c.write-item.result in
    let at : slice_get items i ≡ Some item = slice_get_read items (length items) i item refl c.loop-write-test.true c.write-item.is in
    let same : items ≡ c.args.writes.now = c.as_slice-write-items.ensures in
    flat_wider write_exprs (length c.args.pool.now.exprs) (length c.loop-write.pool.exprs) c.args.writes.now i item c.loop-write.invariant.more c.requires.there (ap (λ xs. slice_get xs i) (sym same) ∙ at)

pub loop-write-preserved : goal.loop-write-preserved
loop-write-preserved c =
    let items = c.as_slice-write-items.result.now in
    let i = c.loop-write.write-index in
    let item = c.write-item.result in
    let at : slice_get items i ≡ Some item = slice_get_read items (length items) i item refl c.loop-write-test.true c.write-item.is in
    let y = c.in_ok-enabled_write.field-0 in
    let new : Pooled = c.enabled_write.new.pool in
    let turned = each_in_turn (enabled_write c.args.controls.now) c.args.pool.now items i item c.loop-write.all c.loop-write.pool new y at c.loop-write.invariant.made c.in_ok-enabled_write.ensures.made in
    record {
      more = omega (arith, c.loop-write.invariant.more, c.in_ok-enabled_write.ensures.more);
      made = ap (λ all. (all, new)) c.in_ok-push.ensures.ok ∙ turned;
    }
