use Rattle.std.proofs.Common.{◌≡◌, ◌-◌, length, drop, sym, ap, ◌∙◌, arith}
use Rattle.netlist_laws.specs.Operators.{Drawing, linked}
use Rattle.netlist_laws.specs.Operands.{at_width}
use Rattle.netlist_laws.specs.Expressions.{and_also, picked_of}
use Rattle.netlist_laws.specs.ItemSteps.{picked_from}
use Rattle.netlist_cells.proofs.LowerItems.{picked_turn, picked_end}
use Rattle.netlist_cells.proofs.item_cells.picked_of.Goals as goal

pub loop-i-preserved : goal.loop-i-preserved
loop-i-preserved c =
    let index = c.args.index.now in
    let items = c.args.items.now in
    let l = c.loop-i in
    record {
      parts = omega (arith, l.invariant.parts);
      drawn =
          picked_turn l.part index l.i items c.index-items-i.result l.into c.in_ok-into.into l.drawing c.also.new.self (picked_of c.args.n index items c.args.y.now)
          (omega arith) c.index-items-i.is c.in_ok-into.ensures (c.in_ok-also.ensures ∙ ap (λ (d : Drawing). and_also l.drawing d) c.in_ok-item_drawing.ensures) l.invariant.drawn;
    }

pub returns : goal.returns
returns c =
    let index = c.args.index.now in
    let items = c.args.items.now in
    let l = c.loop-i in
    let at : l.i ≡ length items - 1 = omega arith in
    let x = c.index-items-last.result in
    picked_end l.part index (length items - 1) items x l.into l.drawing c.also-2.new.self (picked_of c.args.n index items c.args.y.now)
    (omega arith) c.index-items-last.is
    (c.in_ok-also-2.ensures ∙ ap (λ (d : Drawing). and_also l.drawing d) (c.in_ok-linked.ensures ∙ ap (λ spec. linked l.into spec) (c.in_ok-whole.ensures ∙ ap (λ w. at_width x.id x.form w) c.width.ensures)))
    (ap (λ k. and_also l.drawing (picked_from l.part index k (drop k items) l.into)) (sym at) ∙ l.invariant.drawn)
