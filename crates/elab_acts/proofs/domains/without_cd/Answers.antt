use Rattle.std.proofs.Common.{◌∙◌, sym, ap, ◌++◌, codes}
use Rattle.elab_acts.proofs.DomainNames.{cut_off, left_whole}
use Rattle.elab_acts.proofs.domains.without_cd.Goals as goal

pub returns-in-Some : goal.returns-in-Some
returns-in-Some c =
    let found = c.in-Some.ensures.cases in
    cut_off c.args.name.now c.in-Some.rest.now (found.1.1 ∙ ap (λ xs. codes "cd_" ++ xs) (sym found.2))

pub returns : goal.returns
returns c = left_whole c.args.name.now c.in_default.ensures.cases
