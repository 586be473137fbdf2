use Rattle.std.proofs.Common.{arith, ◌≡◌, ◌∙◌, sym, subst, ℕ, ◌+◌, ◌-◌, suc}
use Rattle.fsm_lowering.specs.States.{least_width}
use Rattle.fsm_lowering.proofs.Widths.{least_width-next, least_width-here, least_width-none}
use Rattle.fsm_lowering.proofs.states.range_width.Goals as goal

pub loop-width-preserved : goal.loop-width-preserved
loop-width-preserved c =
    let w = c.loop-width.width in
    let left = 8 - (w + 1) in
    let count : 8 - w ≡ suc left = omega arith in
    record { few = omega arith; same = sym (least_width-next left w c.args.count (omega arith) (omega arith) c.if-count-width.true) ∙ subst (λ (k : ℕ). least_width k w c.args.count ≡ least_width 8 0 c.args.count) count c.loop-width.invariant.same }

pub returns-else-count-width : goal.returns-else-count-width
returns-else-count-width c =
    sym (least_width-here (8 - c.loop-width.width) c.loop-width.width c.args.count (omega arith) c.if-count-width.false) ∙ c.loop-width.invariant.same

pub returns-after-loop-width : goal.returns-after-loop-width
returns-after-loop-width c =
    sym (least_width-none (8 - c.loop-width.width) c.loop-width.width c.args.count (omega arith)) ∙ c.loop-width.invariant.same
