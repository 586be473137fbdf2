use Rattle.std.proofs.Common.{◌+◌, ◌∙◌, sym, ap}
use Rattle.design_ir.specs.Targets.{within_at}
use Rattle.comb_graph.specs.CombNodes.{bit_at}
use Rattle.comb_graph.specs.Seen.{spot_of}
use Rattle.comb_graph.specs.Sets.{has}
use Rattle.comb_graph.proofs.SeenLaws.{same_sets}
use Rattle.comb_graph.proofs.aimed.cut.Goals as goal

pub returns-in-Chosen : goal.returns-in-Chosen
returns-in-Chosen c =
    let b = bit_at c.args.a.node in
    c.chosen.ensures ∙ same_sets c.args.width b (has c.down.result) (λ k. has c.in-Chosen.set (c.args.low + k)) c.down.ensures
    ∙ ap (λ at. within_at c.args.low c.args.width b (spot_of at)) (sym c.in-Chosen.is)
