use Rattle.std.proofs.Common.{◌≡◌, Some, slice_get, length, refl, arith, ◌∙◌, ap, sym}
use Rattle.std.proofs.lemmas.Option.{slice_get_read}
use Rattle.design_ir.specs.declared.process.Process.{Process}
use Rattle.design_ir.specs.Guards.{block_exprs}
use Rattle.domain_transforms.specs.Resetting.{reset_process}
use Rattle.domain_transforms.proofs.MakingLaws.{each_in_turn}
use Rattle.domain_transforms.proofs.PlacedLaws.{flat_wider}
use Rattle.domain_transforms.proofs.resetting.reset_processes.Goals as goal

pub reset_process-requires-clause-there : goal.reset_process-requires-clause-there
reset_process-requires-clause-there c =
    let items = c.as_slice-process-items.result.now in
    let i = c.loop-process.process-index in
    let item = c.process-item.result in
    let at : slice_get items i ≡ Some item = slice_get_read items (length items) i item refl c.loop-process-test.true c.process-item.is in
    flat_wider (λ (p : Process). block_exprs p.body) (length c.args.pool.now.exprs) (length c.loop-process.pool.exprs) c.args.processes.now i item c.loop-process.invariant.more c.requires.there (ap (λ xs. slice_get xs i) (sym c.as_slice-process-items.ensures) ∙ at)

pub loop-process-preserved : goal.loop-process-preserved
loop-process-preserved c =
    let items = c.as_slice-process-items.result.now in
    let i = c.loop-process.process-index in
    let item = c.process-item.result in
    let at : slice_get items i ≡ Some item = slice_get_read items (length items) i item refl c.loop-process-test.true c.process-item.is in
    let y = c.in_ok-reset_process.field-0 in
    let new = c.reset_process.new.pool in
    record {
      more = omega (arith, c.loop-process.invariant.more, c.in_ok-reset_process.ensures.more);
      places = c.in_ok-reset_process.ensures.places;
      made = ap (λ all. (all, new)) c.in_ok-push.ensures.ok ∙ each_in_turn (reset_process c.args.controls.now) c.args.pool.now items i item c.loop-process.all c.loop-process.pool new y at c.loop-process.invariant.made c.in_ok-reset_process.ensures.made;
    }
