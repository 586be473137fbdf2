-- What is proved of the lowering, for every design.
use Rattle.std.specs.Prelude.{◌<◌, ◌^◌, List, length}
use Rattle.std.specs.List.{AllByRecursion}
use Rattle.shape_rules.specs.declared.op.Op.{Op}
use Rattle.design_ir.specs.declared.expr.Expr.{Expr}
use Rattle.design_ir.specs.Circuits.{Circuit}
use Rattle.design_ir.specs.PoolRules.{IsPool}
use Rattle.design_ir.specs.Designs.{IsDesign}
use Rattle.rtlil_text.specs.Rules.{IsModule}
use Rattle.netlist_laws.specs.Carried.{MakesOperator}
use Rattle.netlist_laws.specs.Made.{HasByteStride, MakesExpression}
use Rattle.netlist_laws.specs.Expressions.{part_total}
use Rattle.netlist_laws.specs.Module.{module_of}
use Rattle.netlist_laws.specs.MemoryDrawings.{memories_of, all_parts}
use Rattle.netlist_laws.specs.Corresponds.{Corresponds}
use Rattle.netlist_laws.specs.Plain.{IsPlain}
use Rattle.netlist_laws.specs.Histories.{SameHistory}
use Rattle.design_ir.specs.Targets.{Bit}
use Rattle.comb_graph.specs.Orders.{IsOrder}

-- where the wires of operands carry two integers, the cells of an operator give its wire the operator's integer
abbrev pub OperatorsAreMade : Type 0
OperatorsAreMade = (o : Op) → MakesOperator o

-- bit by bit, where the bits of signals that it needs are on their wires, an expression's wire has its integer's bit
abbrev pub ExpressionsAreMade : Type 0
ExpressionsAreMade = (e : Expr) → MakesExpression e

-- the module keeps every rule of the text, its memories too: names, widths, parameters, one driver for each bit
abbrev pub ModulesKeepTheRules : Type 0
ModulesKeepTheRules = (c : Circuit) → IsPool c.pool → IsDesign c → length (all_parts (memories_of c)) < 10 ^ 18 → part_total c.pool.exprs < 10 ^ 63 → IsModule (module_of c)

-- the module has the design's columns
abbrev pub ModulesCorrespond : Type 0
ModulesCorrespond = (c : Circuit) → IsPool c.pool → IsDesign c → Corresponds c (module_of c)

-- where strides are bytes, as in the code, and the bits of comb signals have an order, the module has the design's history, its memories' too, and every
-- bit of it has a value
abbrev pub ModulesHaveTheHistory : Type 0
ModulesHaveTheHistory =
    (c : Circuit) (order : List Bit) → IsPool c.pool → AllByRecursion HasByteStride c.pool.exprs → IsDesign c → IsPlain c → length (all_parts (memories_of c)) < 10 ^ 18 → part_total c.pool.exprs < 10 ^ 63 → IsOrder c order → SameHistory c (module_of c)
