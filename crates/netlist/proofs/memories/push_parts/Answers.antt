use Rattle.std.proofs.Common.{List, ℕ, ℤ, ap, ◌∙◌}
use Rattle.memory_cells.specs.Cells.{init_cell}
use Rattle.netlist_laws.specs.Ids.{step_id}
use Rattle.netlist_laws.specs.Operators.{Drawing, one_cell}
use Rattle.netlist_laws.specs.Expressions.{and_also}
use Rattle.netlist.proofs.LowerMemories.{parts_together}
use Rattle.netlist.proofs.memories.push_parts.Goals as goal

pub returns : goal.returns
returns c =
    let p = c.args.plan.now in
    let first = c.in_ok-rows.ensures ∙ ap (λ (id : List ℕ). init_cell p id c.as_slice.result.now) c.in_ok-step_id.ensures ∙ ap (λ (rows : List ℤ). init_cell p (step_id c.args.n) rows) c.as_slice.ensures in
    parts_together c.args.design.now p c.args.m.now c.args.n c.len.result c.args.drawing.now c.also.new.self c.push_writes.new.drawing c.push_reads.new.drawing c.len.ensures
    (c.in_ok-also.ensures ∙ ap (λ (x : Drawing). and_also c.args.drawing.now x) (c.in_ok-one_cell.ensures ∙ ap one_cell first)) c.in_ok-push_writes.ensures c.in_ok-push_reads.ensures
