use Rattle.std.proofs.Common.{◌∙◌, ap, cond}
use Rattle.std.specs.Prelude.{slice_set}
use Rattle.design_ir.proofs.SettlingLaws.{turn}
use Rattle.design_ir.proofs.pool.reshape.Goals as goal
use Rattle.design_ir.proofs.pool.reshape.Goals.{then-names_signal, else-names_signal}

pub loop-i-preserved : goal.loop-i-preserved
loop-i-preserved c = elim c.if-names_signal.branch [
  | then-names_signal w ↦
      turn c.args.s.0 c.args.shape c.args.exprs.now c.args.shapes.now.items c.loop-i.shapes.items c.if-names_signal.shapes.items c.loop-i.i _ c.requires c.loop-i-test.true c.index-exprs-i.is c.loop-i.invariant.0 c.loop-i.invariant.1
      (ap (λ v. v.items) w.shapes-is ∙ ap (λ t. cond t (slice_set c.loop-i.shapes.items c.loop-i.i c.args.shape) c.loop-i.shapes.items) w.if-names_signal.ensures)
  | else-names_signal w ↦
      turn c.args.s.0 c.args.shape c.args.exprs.now c.args.shapes.now.items c.loop-i.shapes.items c.if-names_signal.shapes.items c.loop-i.i _ c.requires c.loop-i-test.true c.index-exprs-i.is c.loop-i.invariant.0 c.loop-i.invariant.1
      (ap (λ v. v.items) w.shapes-is ∙ ap (λ t. cond t (slice_set c.loop-i.shapes.items c.loop-i.i c.args.shape) c.loop-i.shapes.items) w.if-names_signal.ensures)
]
