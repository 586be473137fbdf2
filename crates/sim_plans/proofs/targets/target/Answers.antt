use Rattle.std.proofs.Common.{sym, subst}
use Rattle.design_ir.specs.Named.{AllBelow, named}
use Rattle.design_ir.proofs.Equations.{standing}
use Rattle.sim_plans.specs.Driven.{numbers_of}
use Rattle.sim_plans.proofs.Results.{implied}
use Rattle.sim_plans.proofs.TargetSignals.{target_like}
use Rattle.sim_plans.proofs.targets.target.Goals as goal

pub aimed-requires : goal.aimed-requires
aimed-requires c =
    let s = standing c.args.design.now.pool c.args.k.0 c.at.result.now c.count.ensures.rules c.at.ensures in
    subst (λ n. AllBelow n (named c.at.result.now)) (sym c.requires.earlier.count) s.names

pub returns : goal.returns
returns c =
    implied _ _ c.aimed.result
    (λ signals like. target_like c.args.design.now.pool c.args.all.now c.args.k.0 c.at.result.now (numbers_of signals) c.count.ensures.rules c.at.ensures c.requires.earlier like)
    c.aimed.ensures
