-- What the code must know where a block is entered.
use Rattle.std.specs.Prelude.{⊤, Option, Some, None}
use Rattle.design_ir.specs.Pools.{Pooled}
use Rattle.module_dsl.specs.declared.step.Block.{Block}
use Rattle.module_dsl.specs.Builders.{Built, IsEnterable}

-- a builder may be asked to enter the block
abbrev pub IsEntering : Pooled → Option Built → Block → Type 0
IsEntering q None x = ⊤
IsEntering q (Some b) x = IsEnterable q b x
