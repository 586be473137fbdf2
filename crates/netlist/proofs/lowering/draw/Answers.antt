use Rattle.std.proofs.Common.{sym, ◌∙◌, subst}
use Rattle.std.proofs.lemmas.Result.{IfOk-weaker}
use Rattle.rtlil_text.specs.Rules.{IsModule}
use Rattle.netlist_laws.specs.Corresponds.{Corresponds}
use Rattle.netlist_laws.specs.FirstValues.{HasFirstValues}
use Rattle.netlist_laws.proofs.FirstValues.{module_begins}
use Rattle.netlist.proofs.LowerModule.{module_drawn}
use Rattle.netlist_laws.proofs.ModuleRules.{module_rules}
use Rattle.netlist_laws.proofs.ModuleWires.{module_corresponds}
use Rattle.netlist.proofs.lowering.draw.Goals as goal

pub returns-clause-module : goal.returns-clause-module
returns-clause-module c = IfOk-weaker c.module_from.result _ _ (λ m e. e ∙ module_drawn c.args.design.now c.in_ok-memories.memories c.in_ok-drawing.drawing c.push_memories.new.drawing c.in_ok-drawing.ensures.drawn c.in_ok-memories.ensures.lines c.in_ok-memories.ensures.drawn) c.module_from.ensures

pub returns-clause-few : goal.returns-clause-few
returns-clause-few c = IfOk-weaker c.module_from.result _ _ (λ m e. c.in_ok-drawing.ensures.few) c.module_from.ensures

pub returns-clause-parts : goal.returns-clause-parts
returns-clause-parts c = IfOk-weaker c.module_from.result _ _ (λ m e. c.in_ok-memories.ensures.few) c.module_from.ensures

pub returns-clause-sound : goal.returns-clause-sound
returns-clause-sound c =
    IfOk-weaker c.module_from.result _ _
    (λ m e. subst IsModule (sym (e ∙ module_drawn c.args.design.now c.in_ok-memories.memories c.in_ok-drawing.drawing c.push_memories.new.drawing c.in_ok-drawing.ensures.drawn c.in_ok-memories.ensures.lines c.in_ok-memories.ensures.drawn)) (module_rules c.args.design.now c.count.ensures.rules c.processes.ensures.rules (record { inits = c.cells_keep_the_rules.ensures.inits; writes = c.cells_keep_the_rules.ensures.writes; comb_reads = c.cells_keep_the_rules.ensures.comb_reads; clocked_reads = c.cells_keep_the_rules.ensures.clocked_reads; memories = c.cells_keep_the_rules.ensures.memories }) c.in_ok-memories.ensures.few c.in_ok-drawing.ensures.few)) c.module_from.ensures

pub returns-clause-columns : goal.returns-clause-columns
returns-clause-columns c =
    IfOk-weaker c.module_from.result _ _ (λ m e. subst (Corresponds c.args.design.now) (sym (e ∙ module_drawn c.args.design.now c.in_ok-memories.memories c.in_ok-drawing.drawing c.push_memories.new.drawing c.in_ok-drawing.ensures.drawn c.in_ok-memories.ensures.lines c.in_ok-memories.ensures.drawn)) (module_corresponds c.args.design.now c.count.ensures.rules c.processes.ensures.rules)) c.module_from.ensures

pub returns-clause-begins : goal.returns-clause-begins
returns-clause-begins c =
    IfOk-weaker c.module_from.result _ _ (λ m e. subst (HasFirstValues c.args.design.now) (sym (e ∙ module_drawn c.args.design.now c.in_ok-memories.memories c.in_ok-drawing.drawing c.push_memories.new.drawing c.in_ok-drawing.ensures.drawn c.in_ok-memories.ensures.lines c.in_ok-memories.ensures.drawn)) (module_begins c.args.design.now c.count.ensures.rules c.processes.ensures.rules)) c.module_from.ensures
