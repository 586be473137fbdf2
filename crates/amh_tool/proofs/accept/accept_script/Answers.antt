use Rattle.std.proofs.Common.{ap}
use Rattle.std.specs.Option.{option_copied}
use Rattle.std.proofs.lemmas.Result.{IfOk-weaker}
use Rattle.amh_tool.specs.DesignGives.{given_seen}
use Rattle.amh_tool.specs.Views.{plan_seen}
use Rattle.amh_tool.proofs.AcceptLaws.{found_as, played_of, unplayed_found}
use Rattle.amh_tool.proofs.accept.accept_script.Goals as goal

pub returns-in-Some-clause-found : goal.returns-in-Some-clause-found
returns-in-Some-clause-found g c =
    let p = plan_seen c.args.plan.now in
    let told = (g.H.Host.seen c.args.host.now).files in
    IfOk-weaker c.accept_played.result _ _
    (λ x h. found_as _ _ x (λ y k. played_of p told c.in-Some.name.now (given_seen c.args.ranked) y (ap option_copied c.in-Some.is) k) h)
    c.accept_played.ensures.found

pub returns-in_ok-accept_unplayed-in-None-clause-found : goal.returns-in_ok-accept_unplayed-in-None-clause-found
returns-in_ok-accept_unplayed-in-None-clause-found g c =
    unplayed_found (plan_seen c.args.plan.now) (g.H.Host.seen c.args.host.now).files (given_seen c.args.ranked) _ (ap option_copied c.in-None.is) c.in_ok-accept_unplayed-in-None.ensures
