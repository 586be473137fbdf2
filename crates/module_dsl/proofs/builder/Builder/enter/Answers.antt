use Rattle.std.proofs.Common.{◌≡◌, true, length, sym, ap, ◌∙◌, subst}
use Rattle.module_dsl.specs.declared.step.Step.TheVariants.{Enter}
use Rattle.module_dsl.specs.Blocks.{blocks_of, may_begin}
use Rattle.module_dsl.specs.Builders.{Built, built_count, IsMakeable, IsEnterable, condition_under, opening_of}
use Rattle.module_dsl.specs.Progress.{IsProgress}
use Rattle.module_dsl.proofs.BuilderLaws.{blocks_of-push, makeable}
use Rattle.module_dsl.proofs.builder.Builder.enter.Goals as goal

pub opening-requires : goal.opening-requires
opening-requires c =
    let inside = c.self.inside in
    let steps = inside.steps.items in
    let b : Built = record { name = inside.name; steps = steps } in
    let subject = c.subject.ensures (blocks_of steps) c.self.invariant in
    let may : may_begin (opening_of 0 c.args.block) (blocks_of steps) ≡ true = sym (c.may_begin.ensures (blocks_of steps) 0 c.self.invariant) ∙ c.if-not-may_begin.false in
    subst (λ s. IsMakeable c.args.pool.now (condition_under s c.args.block)) (sym subject)
    (makeable c.args.pool.now b c.args.block may (subst (λ x. IsEnterable c.args.pool.now x c.args.block) (sym c.self.view_is) c.requires))

pub invariant_of-self-in-Ok : goal.invariant_of-self-in-Ok
invariant_of-self-in-Ok c =
    let inside = c.self.inside in
    let steps = inside.steps.items in
    let made = c.in_ok-opening.ensures.made in
    let may : may_begin c.in_ok-opening.opening (blocks_of steps) ≡ true =
    ap (λ o. may_begin o (blocks_of steps)) made.1 ∙ sym (c.may_begin.ensures (blocks_of steps) (length c.args.pool.now.exprs) c.self.invariant) ∙ c.if-not-may_begin.false in
    subst (λ b. IsProgress b c.enter.new.self) (sym (ap blocks_of c.in_ok-tell.ensures.told ∙ blocks_of-push steps (Enter c.in_ok-opening.opening))) (c.in-Ok.ensures.entered (blocks_of steps) c.self.invariant may)

pub returns-clause-count : goal.returns-clause-count
returns-clause-count c = sym (invariant_of-self-in-Ok c).statements ∙ c.in-Ok.ensures.statements ∙ c.self.invariant.statements ∙ ap built_count c.self.view_is
