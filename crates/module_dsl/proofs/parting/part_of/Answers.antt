use Rattle.std.proofs.Common.{◌≡◌, ◌+◌, ◌∷◌, [], drop, fold, sym, ap, ◌∙◌, arith}
use Rattle.std.proofs.lemmas.Grind.{common_steps}
use Rattle.module_dsl.proofs.Results.{if_ok_so}
use Rattle.module_dsl.specs.Parting.{parted, parts_from, part_after, part_content}
use Rattle.module_dsl.proofs.parting.part_of.Goals as goal

pub loop-step-preserved : goal.loop-step-preserved
unfolding parts_from
loop-step-preserved c =
    let next : drop c.loop-step.step-index c.args.steps.now ≡ c.step-item.result ∷ drop (c.loop-step.step-index + 1) c.args.steps.now = grind (arith, common_steps) in
    ap (λ p. fold (part_after c.args.side.now) p (drop (c.loop-step.step-index + 1) c.args.steps.now)) c.in_ok-parts.ensures
    ∙ ap (λ xs. fold (part_after c.args.side.now) (parted c.loop-step.parts) xs) (sym next) ∙ c.loop-step.invariant

pub returns : goal.returns
unfolding parts_from
returns c =
    let done : drop c.loop-step.step-index c.args.steps.now ≡ [] = grind (arith, common_steps) in
    let all = ap (λ xs. fold (part_after c.args.side.now) (parted c.loop-step.parts) xs) (sym done) ∙ c.loop-step.invariant in
    if_ok_so c.with_choice.result c.with_choice.ensures (λ body e. e ∙ ap part_content all)
