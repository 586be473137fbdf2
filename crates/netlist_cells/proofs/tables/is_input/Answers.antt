use Rattle.std.proofs.Common.{ap, ◌∙◌}
use Rattle.design_ir.specs.declared.port.Port.{Port}
use Rattle.design_ir.specs.Circuits.{option_test}
use Rattle.netlist_cells.proofs.LowerInputs.{input_found}
use Rattle.netlist_cells.proofs.tables.is_input.Goals as goal

pub returns-in-Some : goal.returns-in-Some
returns-in-Some c = ap (option_test (λ (p : Port). p.is_input)) c.in-Some.ensures ∙ input_found c.args.design.now c.args.s.0 c.requires.rules

pub returns-in-None : goal.returns-in-None
returns-in-None c = ap (option_test (λ (p : Port). p.is_input)) c.in-None.ensures ∙ input_found c.args.design.now c.args.s.0 c.requires.rules
