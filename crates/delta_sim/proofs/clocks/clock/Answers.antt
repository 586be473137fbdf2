use Rattle.std.proofs.Common.{◌≡◌, ◌∙◌, sym, ap, subst, Some, slice_get}
use Rattle.design_ir.specs.Guards.{driven}
use Rattle.design_ir.specs.Steps.{reset_all, clocked}
use Rattle.sim_plans.specs.declared.task.Task.{Task}
use Rattle.sim_plans.specs.Driven.{numbers_of}
use Rattle.sim_plans.proofs.Clocking.{place_of, clocked_reset}
use Rattle.sim_plans.proofs.ResetLaws.{resets_like}
use Rattle.delta_sim.proofs.clocks.clock.Goals as goal

pub get-requires : goal.get-requires
get-requires c =
    let p = subst (λ xs. slice_get xs c.args.k ≡ Some c.get-p.result.now) c.processes.ensures.value c.get-p.ensures.lookup in
    let has = c.requires.plan.clocked c.args.k c.get-p.result.now c.in-Some.d p c.in-Some.is in
    place_of c.args.plan.now.clocked c.args.k has.t has.stands

pub returns-then-is_reset-clause-held : goal.returns-then-is_reset-clause-held
returns-then-is_reset-clause-held c = λ q is.
    let d = c.args.design.now in
    let env = c.args.env.now in
    let p = subst (λ xs. slice_get xs c.args.k ≡ Some c.get-p.result.now) c.processes.ensures.value c.get-p.ensures.lookup in
    let has = c.requires.plan.clocked c.args.k c.get-p.result.now c.in-Some.d p c.in-Some.is in
    let same : q ≡ c.get-p.result.now = let f : Some q ≡ Some c.get-p.result.now = sym is ∙ p in cc in
    let task : c.get.result.now ≡ has.t = let f : Some c.get.result.now ≡ Some has.t = sym c.get.ensures.lookup ∙ has.stands in cc in
    let sigs = d.pool.signals in
    let after = c.carry_out.new.held in
    let body = c.get-p.result.now.body in
    let outs : reset_all sigs after (numbers_of c.as_slice.result.now) ≡ reset_all sigs after (numbers_of has.t.outs) =
    ap (λ ss. reset_all sigs after (numbers_of ss)) c.as_slice.ensures ∙ ap (λ (t : Task). reset_all sigs after (numbers_of t.outs)) task in
    let like = resets_like sigs (numbers_of has.t.outs) (driven d.pool body) after has.is_task.outs in
    let put = ap (λ xs. reset_all sigs xs (driven d.pool body)) c.carry_out.ensures.held in
    let clock = clocked_reset d env c.args.listed.now c.args.held.now c.get-p.result.now c.in-Some.d c.in-Some.is (sym c.if-not-is_active.ensures) (sym c.if-is_reset.ensures) in
    c.reset_all.ensures ∙ outs ∙ like ∙ put ∙ sym clock ∙ ap (clocked d env c.args.listed.now c.args.held.now) (sym same)
