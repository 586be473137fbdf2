use Rattle.std.proofs.Common.{◌∙◌, ap, sym, subst}
use Rattle.module_dsl.specs.Blocks.{blocks_of}
use Rattle.module_dsl.specs.Progress.{IsProgress}
use Rattle.module_dsl.proofs.BuilderLaws.{blocks_of-none}
use Rattle.module_dsl.proofs.builder.Builder.new.Goals as goal

pub invariant_of-result : goal.invariant_of-result
invariant_of-result c = subst (λ b. IsProgress b c.new-2.result) (sym (ap blocks_of c.new.ensures.items ∙ blocks_of-none)) c.new-2.ensures
