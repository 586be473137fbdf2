use Rattle.std.proofs.Common.{◌∙◌, ap, sym, subst}
use Rattle.module_dsl.specs.declared.step.Step.TheVariants.{Leave}
use Rattle.module_dsl.specs.Blocks.{blocks_of}
use Rattle.module_dsl.specs.Builders.{built_count}
use Rattle.module_dsl.specs.Progress.{IsProgress}
use Rattle.module_dsl.proofs.BuilderLaws.{blocks_of-push}
use Rattle.module_dsl.proofs.builder.Builder.leave.Goals as goal

pub invariant_of-self-2 : goal.invariant_of-self-2
invariant_of-self-2 c =
    let steps = c.self.inside.steps.items in
    subst (λ b. IsProgress b c.leave.new.self) (sym (ap blocks_of c.in_ok-tell.ensures.told ∙ blocks_of-push steps Leave)) (c.leave.ensures.left (blocks_of steps) c.self.invariant)

pub returns-clause-count : goal.returns-clause-count
returns-clause-count c = sym (invariant_of-self-2 c).statements ∙ c.leave.ensures.statements ∙ c.self.invariant.statements ∙ ap built_count c.self.view_is
