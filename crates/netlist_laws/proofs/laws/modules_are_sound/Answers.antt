use Rattle.netlist_laws.proofs.ModuleRules.{module_rules}
use Rattle.netlist_laws.proofs.ModuleWires.{module_corresponds}
use Rattle.netlist_laws.proofs.laws.modules_are_sound.Goals as goal

pub returns-clause-rules : goal.returns-clause-rules
returns-clause-rules c circuit pool design =
    let laws = c.cells_keep_the_rules.ensures in
    module_rules circuit pool design (record { inits = laws.inits; writes = laws.writes; comb_reads = laws.comb_reads; clocked_reads = laws.clocked_reads; memories = laws.memories })

pub returns-clause-columns : goal.returns-clause-columns
returns-clause-columns c = module_corresponds
