use Rattle.std.proofs.Common.{ap}
use Rattle.std.specs.Option.{option_copied}
use Rattle.amh_tool.specs.DesignGives.{given_seen}
use Rattle.amh_tool.specs.Views.{plan_seen}
use Rattle.amh_tool.proofs.AcceptLaws.{events_found, runs_found}
use Rattle.amh_tool.proofs.accept.accept_unplayed.Goals as goal

pub returns-in_ok-without_events-in-Some : goal.returns-in_ok-without_events-in-Some
returns-in_ok-without_events-in-Some c = λ files.
    let h = c.in_ok-without_events-in-Some.ensures in
    events_found (plan_seen c.args.plan.now).top _ files c.args.ranked _ (ap option_copied c.in-Some.is) h.fitting h.ranked h.events h.within

pub returns-in_ok-runs_of-in-None : goal.returns-in_ok-runs_of-in-None
returns-in_ok-runs_of-in-None c = λ files.
    runs_found (plan_seen c.args.plan.now).top files (given_seen c.args.ranked) _ (ap option_copied c.in-None.is) c.in_ok-runs_of-in-None.ensures
