use Rattle.std.proofs.Common.{◌||◌, ◌&&◌, Bool, false, slice_index_or, sym, ap, ◌∙◌}
use Rattle.design_ir.specs.Circuits.{is_among}
use Rattle.design_ir.specs.Guards.{driven, block_exprs}
use Rattle.sim_plans.specs.Driven.{numbers_of}
use Rattle.sim_plans.specs.Given.{marked}
use Rattle.sim_plans.proofs.DrivenLists.{driven_like}
use Rattle.sim_plans.proofs.Marks.{marked_at, some_where, usable_there}
use Rattle.sim_plans.proofs.given.mark_registers.Goals as goal

pub returns-clause-marks : goal.returns-clause-marks
returns-clause-marks c = λ s there.
    let p = c.args.design.now.pool in
    let old : Bool = slice_index_or c.args.given.now s false in
    let body = c.args.p.now.body in
    ap (λ marks. slice_index_or marks s false) (c.mark.ensures ∙ ap (λ ss. marked (numbers_of ss) c.args.given.now) c.as_slice.ensures)
    ∙ marked_at (numbers_of c.in_ok-signals.signals) c.args.given.now s there
    ∙ ap (λ b. old || b) (driven_like p c.args.targets.now body c.in_ok-signals.signals c.requires.targets (usable_there c.args.design.now (block_exprs body) c.requires.rules.expressions) c.in_ok-signals.ensures s)
    ∙ ap (λ b. old || (b && is_among (driven p body) s)) (sym (some_where c.args.p.now.domain c.is_none.result c.if-is_none.false c.is_none.ensures))
