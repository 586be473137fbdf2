use Rattle.std.proofs.Common.{◌+◌, take, sym, ap, ◌∙◌, arith}
use Rattle.std.proofs.lemmas.Option.{get_or_from_slice_get}
use Rattle.design_ir.proofs.Equations.{standing}
use Rattle.netlist_laws.specs.Operators.{Drawing}
use Rattle.netlist_laws.specs.Expressions.{and_also, part_total}
use Rattle.netlist_laws.specs.Module.{drawings}
use Rattle.netlist.specs.Tables.{together}
use Rattle.netlist_laws.proofs.PartCounts.{part_total-more}
use Rattle.netlist.proofs.LowerDrawings.{drawings_turn}
use Rattle.netlist.proofs.drawings.push_expressions.Goals as goal

pub drawn-requires-clause-few : goal.drawn-requires-clause-few
drawn-requires-clause-few c = omega (arith, c.count-i-end.ensures.rules.few_exprs, c.count-i-end.ensures.value, c.part_count-count.ensures.value, c.part_count-count.ensures.bound, c.loop-i.invariant.bound)

pub drawn-requires-clause-askable : goal.drawn-requires-clause-askable
drawn-requires-clause-askable c = (standing c.args.design.now.pool c.loop-i.i c.at-e.result.now c.count-i-end.ensures.rules c.at-e.ensures).askable

pub drawn-requires-clause-accepted : goal.drawn-requires-clause-accepted
drawn-requires-clause-accepted c = (standing c.args.design.now.pool c.loop-i.i c.at-e.result.now c.count-i-end.ensures.rules c.at-e.ensures).accepted

pub loop-i-preserved : goal.loop-i-preserved
loop-i-preserved c =
    let d = c.args.design.now in
    let es = d.pool.exprs in
    let e = c.at-e.result.now in
    let l = c.loop-i in
    let same = get_or_from_slice_get es l.i e e c.at-e.ensures in
    record {
      total = ap (λ k. k + c.part_count-count.result) l.invariant.total ∙ ap (λ k. part_total (take l.i es) + k) c.part_count-count.ensures.value ∙ sym (part_total-more es l.i e (omega (arith, c.count-i-end.ensures.value)) (sym same));
      bound = omega (arith, c.part_count-count.ensures.bound, l.invariant.bound);
      drawn =
          drawings_turn d l.i l.n (l.n + c.part_count-count.result) es e l.drawing c.also.new.self (and_also c.args.drawing.now (together (drawings d)))
          (omega (arith, c.count-i-end.ensures.value)) same (ap (λ k. l.n + k) c.part_count-count.ensures.value)
          (c.in_ok-also.ensures ∙ ap (λ (x : Drawing). and_also l.drawing x) c.in_ok-drawn.ensures) l.invariant.drawn;
    }
