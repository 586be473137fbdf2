use Rattle.std.proofs.Common.{◌∙◌, ◌++◌, Bool, List, ℕ, Option, map, ap}
use Rattle.std.specs.List.{range_with_len}
use Rattle.std.specs.BTreeMap.{get_by_text}
use Rattle.std.proofs.lemmas.Result.{on_ok_weaker}
use Rattle.cell_split.specs.Needs.{node_behind}
use Rattle.cell_split.proofs.SpecNodes.{constants_are, wire_is}
use Rattle.cell_split.proofs.spec_nodes.push_part.Goals as goal

pub returns-in-Const : goal.returns-in-Const
returns-in-Const c =
    on_ok_weaker c.push_constants.result
    (λ e. constants_are c.args.all.now c.args.part.now c.in-Const.bits c.args.nodes.now.items c.push_constants.new.nodes.items c.in-Const.is (e ∙ ap (λ (bs : List Bool). c.args.nodes.now.items ++ map (λ (b : Bool). c.args.all.now.spare) bs) c.as_slice.ensures))
    c.push_constants.ensures

pub returns-in-Wire : goal.returns-in-Wire
returns-in-Wire c =
    let all = c.args.all.now in
    on_ok_weaker c.push_bits.result
    (λ e. wire_is all c.args.part.now c.in-Wire.id c.in-Wire.low c.in-Wire.width c.args.nodes.now.items c.push_bits.new.nodes.items c.in-Wire.is
    (e ∙ ap (λ (first : Option ℕ). c.args.nodes.now.items ++ map (node_behind all first) (range_with_len c.in-Wire.low c.in-Wire.width)) (c.first.ensures ∙ ap (get_by_text all.firsts) c.as_str.ensures)))
    c.push_bits.ensures
