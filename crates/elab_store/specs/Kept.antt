-- What a store keeps beside what is seen of it.
use Rattle.std.specs.Prelude.{◌≡◌, ℕ, ⊤, List}
use Rattle.std.specs.List.{AllByRecursion}
use Rattle.design_ir.specs.declared.expr.Pattern.{Pattern}
use Rattle.module_dsl.specs.declared.step.Block.{Block}
use Rattle.module_dsl.specs.declared.step.Block.TheVariants as dsl
use Rattle.module_dsl.specs.Builders.{Built}
use Rattle.amh_things.specs.Patterns.{AreWithin}
use Rattle.elab_store.specs.Counts.{statement_count}

-- its statements are counted, and each pattern sets bits alone that it looks at
pub record IsStore (statements : ℕ) (modules : List Built) (patterns : List (List Pattern)) : Type 0 where
  pub count : statements ≡ statement_count modules
  pub within : AllByRecursion AreWithin patterns

-- a block whose patterns may be matched
abbrev pub IsMasked : Block → Type 0
IsMasked (dsl.If c) = ⊤
IsMasked (dsl.Elif c) = ⊤
IsMasked dsl.Else = ⊤
IsMasked (dsl.Switch v) = ⊤
IsMasked (dsl.Case patterns) = AreWithin patterns
IsMasked dsl.Default = ⊤
