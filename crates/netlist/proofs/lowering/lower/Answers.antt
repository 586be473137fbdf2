use Rattle.std.specs.Prelude.{map}
use Rattle.std.proofs.lemmas.Result.{IfOk-weaker}
use Rattle.comb_graph.specs.Rankings.{bit_of}
use Rattle.netlist_laws.proofs.FlatModules.{Corresponds-flat, SameHistory-flat}
use Rattle.netlist_laws.proofs.FirstValues.{HasFirstValues-flat}
use Rattle.netlist.proofs.lowering.lower.Goals as goal

pub lower_plain-requires : goal.lower_plain-requires
lower_plain-requires c = record {
  plain = record { plain = c.in_ok-flat.ensures.plain };
  ordered = c.flat_keeps_orders.ensures c.args.design.now c.in_ok-flat.flat (map bit_of c.args.ranks.now.order) c.count.ensures.rules c.processes.ensures.rules c.in_ok-flat.ensures.flat c.requires.ranked.order;
}

pub returns-clause-corresponds : goal.returns-clause-corresponds
returns-clause-corresponds c = IfOk-weaker c.lower_plain.result _ _ (λ m h. Corresponds-flat c.args.design.now c.in_ok-flat.flat m c.in_ok-flat.ensures.flat h) c.lower_plain.ensures.corresponds

pub returns-clause-history : goal.returns-clause-history
returns-clause-history c =
    IfOk-weaker c.lower_plain.result _ _
    (λ m h. SameHistory-flat c.args.design.now c.in_ok-flat.flat m c.in_ok-flat.ensures.flat
    (λ events envs legal. c.flat_has_the_history.ensures c.args.design.now c.in_ok-flat.flat events envs c.count.ensures.rules c.count-2.ensures.rules c.processes.ensures.rules c.processes-2.ensures.rules c.in_ok-flat.ensures.flat legal) h)
    c.lower_plain.ensures.history

pub returns-clause-begins : goal.returns-clause-begins
returns-clause-begins c = IfOk-weaker c.lower_plain.result _ _ (λ m h. HasFirstValues-flat c.args.design.now c.in_ok-flat.flat m c.in_ok-flat.ensures.flat h) c.lower_plain.ensures.begins
