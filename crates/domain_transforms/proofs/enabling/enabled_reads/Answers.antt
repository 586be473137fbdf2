use Rattle.std.proofs.Common.{◌≡◌, Some, slice_get, length, refl, arith, ◌∙◌, ap, sym}
use Rattle.std.proofs.lemmas.Option.{slice_get_read}
use Rattle.design_ir.specs.Pools.{Pooled}
use Rattle.domain_transforms.specs.Enabling.{enabled_read}
use Rattle.domain_transforms.specs.Placed.{read_exprs}
use Rattle.domain_transforms.proofs.MakingLaws.{each_in_turn}
use Rattle.domain_transforms.proofs.PlacedLaws.{controls_wider, flat_wider}
use Rattle.domain_transforms.proofs.enabling.enabled_reads.Goals as goal

pub enabled_read-requires-clause-controls : goal.enabled_read-requires-clause-controls
enabled_read-requires-clause-controls c = controls_wider (length c.args.pool.now.exprs) (length c.loop-read.pool.exprs) c.args.controls.now c.loop-read.invariant.more c.requires.controls

pub enabled_read-requires-clause-there : goal.enabled_read-requires-clause-there
enabled_read-requires-clause-there c =
    let items = c.as_slice-read-items.result.now in
    let i = c.loop-read.read-index in
    let item = c.read-item.result in
    let at : slice_get items i ≡ Some item = slice_get_read items (length items) i item refl c.loop-read-test.true c.read-item.is in
    let same : items ≡ c.args.reads.now = c.as_slice-read-items.ensures in
    flat_wider read_exprs (length c.args.pool.now.exprs) (length c.loop-read.pool.exprs) c.args.reads.now i item c.loop-read.invariant.more c.requires.there (ap (λ xs. slice_get xs i) (sym same) ∙ at)

pub loop-read-preserved : goal.loop-read-preserved
loop-read-preserved c =
    let items = c.as_slice-read-items.result.now in
    let i = c.loop-read.read-index in
    let item = c.read-item.result in
    let at : slice_get items i ≡ Some item = slice_get_read items (length items) i item refl c.loop-read-test.true c.read-item.is in
    let y = c.in_ok-enabled_read.field-0 in
    let new : Pooled = c.enabled_read.new.pool in
    let turned = each_in_turn (enabled_read c.args.controls.now) c.args.pool.now items i item c.loop-read.all c.loop-read.pool new y at c.loop-read.invariant.made c.in_ok-enabled_read.ensures.made in
    record {
      more = omega (arith, c.loop-read.invariant.more, c.in_ok-enabled_read.ensures.more);
      made = ap (λ all. (all, new)) c.in_ok-push.ensures.ok ∙ turned;
    }
