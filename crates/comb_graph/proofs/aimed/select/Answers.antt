use Rattle.std.proofs.Common.{◌∙◌, ◌+◌, ◌*◌}
use Rattle.design_ir.specs.Targets.{some_number, stands_at}
use Rattle.comb_graph.specs.CombNodes.{bit_at}
use Rattle.comb_graph.specs.Seen.{spot_of}
use Rattle.comb_graph.specs.Sets.{has, numbers_in}
use Rattle.comb_graph.proofs.SeenLaws.{same_numbers, same_sets}
use Rattle.comb_graph.proofs.aimed.select.Goals as goal

pub returns : goal.returns
returns c =
    let by = c.args.by in
    let spot = spot_of c.args.a.at in
    c.chosen.ensures
    ∙ same_sets by.width (bit_at c.args.a.node) (has c.spread-set.result) (λ k. some_number (numbers_in by.offset) by.wide (λ o. stands_at spot (o * by.stride + k)))
    (λ k. c.spread-set.ensures k
    ∙ same_numbers (numbers_in by.offset) by.wide (λ o. has c.places.result (o * by.stride + k)) (λ o. stands_at spot (o * by.stride + k)) (λ o. c.places.ensures (o * by.stride + k)))
