use Rattle.std.proofs.Common.{◌≡◌}
use Rattle.std.specs.Prelude.{Some}
use Rattle.amh_tool.specs.Plan.{plan_of}
use Rattle.amh_tool.specs.Views.{plan_seen}
use Rattle.amh_tool.specs.Work.{WorksFor}
use Rattle.amh_tool.proofs.RunLaws.{plan_is, works_if, fails_of}
use Rattle.amh_tool.proofs.running.work.Goals as goal

pub returns-in-Some-clause-done : goal.returns-in-Some-clause-done
returns-in-Some-clause-done g c =
    let old = g.H.Host.seen c.args.host.now in
    let new = g.H.Host.seen c.work_for.new.host in
    let p = plan_seen c.in-Some.plan in
    let is : plan_of c.args.words.now ≡ Some p = plan_is plan_seen c.in_ok-found.found c.in-Some.plan (plan_of c.args.words.now) c.in-Some.is c.in_ok-found.ensures.plan in
    works_if (plan_of c.args.words.now) p old new c.work_for.result (λ answer. WorksFor p answer old new) is (λ answer h. h) c.work_for.ensures.done

pub returns-in-Some-clause-err : goal.returns-in-Some-clause-err
returns-in-Some-clause-err g c =
    let old = g.H.Host.seen c.args.host.now in
    let new = g.H.Host.seen c.work_for.new.host in
    let p = plan_seen c.in-Some.plan in
    let is : plan_of c.args.words.now ≡ Some p = plan_is plan_seen c.in_ok-found.found c.in-Some.plan (plan_of c.args.words.now) c.in-Some.is c.in_ok-found.ensures.plan in
    fails_of (plan_of c.args.words.now) p old new c.work_for.result is c.work_for.ensures.err
