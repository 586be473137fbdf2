use Rattle.std.specs.Prelude.{◌≡◌, map}
use Rattle.std.proofs.Common.{sym, subst}
use Rattle.std.proofs.lemmas.Result.{IfOk-weaker}
use Rattle.rtlil_text.specs.declared.module.RtlModule.{RtlModule}
use Rattle.comb_graph.specs.Rankings.{bit_of}
use Rattle.cell_split.specs.Kept.{KeepsHistory}
use Rattle.netlist_laws.specs.Histories.{SameHistory}
use Rattle.netlist_laws.proofs.SplitModules.{Corresponds-wires, SameHistory-kept, IfOk-both}
use Rattle.rtlil_text.specs.Inits.{register_bits}
use Rattle.netlist_laws.specs.FirstValues.{HasFirstValues}
use Rattle.netlist_laws.proofs.FirstValues.{HasFirstValues-cut}
use Rattle.netlist.proofs.lowering.lower_plain.Goals as goal

pub returns-clause-corresponds : goal.returns-clause-corresponds
returns-clause-corresponds c =
    IfOk-weaker c.split_tangled.result _ _ (λ m e. Corresponds-wires c.args.design.now c.in_ok-drawn.drawn m e c.in_ok-drawn.ensures.columns) c.split_tangled.ensures.wires

pub returns-clause-history : goal.returns-clause-history
returns-clause-history c =
    let drawn = c.in_ok-drawn.drawn in
    let was : SameHistory c.args.design.now drawn =
    subst (SameHistory c.args.design.now) (sym c.in_ok-drawn.ensures.module)
    (c.modules_have_the_history.ensures c.args.design.now (map bit_of c.args.ranks.now.order) c.count.ensures.rules c.strides_are_bytes.ensures c.processes.ensures.rules c.requires.plain c.in_ok-drawn.ensures.parts c.in_ok-drawn.ensures.few c.requires.ordered) in
    IfOk-both c.split_tangled.result (λ (m : RtlModule). m.wires ≡ drawn.wires) (KeepsHistory drawn) (SameHistory c.args.design.now)
    (λ m e keeps. SameHistory-kept c.args.design.now drawn m e keeps was) c.split_tangled.ensures.wires c.split_tangled.ensures.history

pub returns-clause-begins : goal.returns-clause-begins
returns-clause-begins c =
    let drawn = c.in_ok-drawn.drawn in
    IfOk-both c.split_tangled.result (λ (m : RtlModule). m.wires ≡ drawn.wires) (λ (m : RtlModule). register_bits m ≡ register_bits drawn) (HasFirstValues c.args.design.now)
    (λ m e same. HasFirstValues-cut c.args.design.now drawn m e same c.in_ok-drawn.ensures.begins) c.split_tangled.ensures.wires c.split_tangled.ensures.registers
