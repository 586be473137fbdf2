use Rattle.std.proofs.Common.{arith, ◌≡◌, ◌∙◌, sym, subst, ℕ, ◌+◌, ◌-◌, suc}
use Rattle.memory_ports.specs.Ports.{least_width}
use Rattle.memory_ports.proofs.Widths.{least_width-next, least_width-here, least_width-none}
use Rattle.memory_ports.proofs.signals.address_width.Goals as goal

pub loop-width-preserved : goal.loop-width-preserved
loop-width-preserved c =
    let w = c.loop-width.width in
    let left = 16 - (w + 1) in
    let count : 16 - w ≡ suc left = omega arith in
    record { few = omega arith; same = sym (least_width-next left w c.args.depth (omega arith) (omega arith) c.if-depth-width.true) ∙ subst (λ (k : ℕ). least_width k w c.args.depth ≡ least_width 16 0 c.args.depth) count c.loop-width.invariant.same }

pub returns-else-depth-width : goal.returns-else-depth-width
returns-else-depth-width c = record {
  value = sym (least_width-here (16 - c.loop-width.width) c.loop-width.width c.args.depth (omega arith) c.if-depth-width.false) ∙ c.loop-width.invariant.same;
  few = c.loop-width.invariant.few;
}

pub returns-after-loop-width : goal.returns-after-loop-width
returns-after-loop-width c = record {
  value = sym (least_width-none (16 - c.loop-width.width) c.loop-width.width c.args.depth (omega arith)) ∙ c.loop-width.invariant.same;
  few = c.loop-width.invariant.few;
}
