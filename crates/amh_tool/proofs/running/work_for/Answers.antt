use Rattle.std.proofs.Common.{refl, subst}
use Rattle.std.proofs.lemmas.Result.{IfOk-weaker}
use Rattle.amh_tool.specs.DesignGives.{given_seen}
use Rattle.amh_tool.specs.Outcome.{Rejected, Rejects, Takes, Plays, Runs}
use Rattle.amh_tool.specs.Views.{plan_seen}
use Rattle.amh_tool.specs.Verdicts.{IsFound, accepted_seen, ending_of, rejection_seen, rows_of}
use Rattle.amh_tool.specs.declared.accept.Verdict.{Verdict}
use Rattle.amh_tool.proofs.RunLaws.{works_so, works_performed, fails_so}
use Rattle.amh_tool.proofs.running.work_for.Goals as goal

pub returns-in-Rejected-clause-done : goal.returns-in-Rejected-clause-done
returns-in-Rejected-clause-done g c =
    let old = g.H.Host.seen c.args.host.now in
    let p = plan_seen c.args.plan.now in
    let why = rejection_seen c.in-Rejected.why in
    works_so p (Rejected why) (Rejects why) old _ _ c.reject.result (subst (λ (v : Verdict). IsFound p old.files v) c.in-Rejected.is c.in_ok-why.ensures.found) refl c.in_ok-why.ensures.same c.reject.ensures.done

pub returns-in-Rejected-clause-err : goal.returns-in-Rejected-clause-err
returns-in-Rejected-clause-err g c =
    let old = g.H.Host.seen c.args.host.now in
    let p = plan_seen c.args.plan.now in
    let why = rejection_seen c.in-Rejected.why in
    fails_so p (Rejected why) old _ _ c.reject.result (subst (λ (v : Verdict). IsFound p old.files v) c.in-Rejected.is c.in_ok-why.ensures.found) c.in_ok-why.ensures.same c.reject.ensures.err

pub carry_out-requires : goal.carry_out-requires
carry_out-requires g c =
    let p = plan_seen c.args.plan.now in
    (subst (λ (v : Verdict). IsFound p (g.H.Host.seen c.args.host.now).files v) c.in-Accepted.is c.in_ok-why.ensures.found).0

pub returns-in-Accepted-clause-done : goal.returns-in-Accepted-clause-done
returns-in-Accepted-clause-done g c =
    let old = g.H.Host.seen c.args.host.now in
    let p = plan_seen c.args.plan.now in
    let a = c.in-Accepted.accepted in
    let found = subst (λ (v : Verdict). IsFound p old.files v) c.in-Accepted.is c.in_ok-why.ensures.found in
    works_so p (Takes (given_seen a.ranked) (Plays (rows_of a) (ending_of a))) (accepted_seen a) old _ _ c.carry_out.result found.1 refl c.in_ok-why.ensures.same c.carry_out.ensures.done

pub returns-in-Accepted-clause-err : goal.returns-in-Accepted-clause-err
returns-in-Accepted-clause-err g c =
    let old = g.H.Host.seen c.args.host.now in
    let p = plan_seen c.args.plan.now in
    let a = c.in-Accepted.accepted in
    let found = subst (λ (v : Verdict). IsFound p old.files v) c.in-Accepted.is c.in_ok-why.ensures.found in
    fails_so p (Takes (given_seen a.ranked) (Plays (rows_of a) (ending_of a))) old _ _ c.carry_out.result found.1 c.in_ok-why.ensures.same c.carry_out.ensures.err

pub carry_out_run-requires : goal.carry_out_run-requires
carry_out_run-requires g c =
    let p = plan_seen c.args.plan.now in
    let found = subst (λ (v : Verdict). IsFound p (g.H.Host.seen c.args.host.now).files v) c.in-Runs.is c.in_ok-why.ensures.found in
    (found.0, found.1)

pub returns-in-Runs-clause-done : goal.returns-in-Runs-clause-done
returns-in-Runs-clause-done g c =
    let old = g.H.Host.seen c.args.host.now in
    let new = g.H.Host.seen c.carry_out_run.new.host in
    let p = plan_seen c.args.plan.now in
    let found = subst (λ (v : Verdict). IsFound p old.files v) c.in-Runs.is c.in_ok-why.ensures.found in
    IfOk-weaker c.carry_out_run.result _ _
    (λ answer h. works_performed p (Takes found.0 Runs) h.found answer old _ new found.2 h.comes c.in_ok-why.ensures.same h.performs)
    (c.carry_out_run.ensures.done found.0 found.1)

pub returns-in-Runs-clause-err : goal.returns-in-Runs-clause-err
returns-in-Runs-clause-err g c =
    let old = g.H.Host.seen c.args.host.now in
    let p = plan_seen c.args.plan.now in
    let found = subst (λ (v : Verdict). IsFound p old.files v) c.in-Runs.is c.in_ok-why.ensures.found in
    fails_so p (Takes found.0 Runs) old _ _ c.carry_out_run.result found.2 c.in_ok-why.ensures.same (c.carry_out_run.ensures.err found.0 found.1)
