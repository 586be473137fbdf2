use Rattle.std.proofs.Common.{◌≡◌, ◌∙◌, sym, ap, subst, Some, slice_get}
use Rattle.design_ir.specs.Guards.{driven}
use Rattle.design_ir.specs.Steps.{reset_all, cleared}
use Rattle.sim_plans.specs.declared.task.Task.{Task}
use Rattle.sim_plans.specs.Driven.{numbers_of}
use Rattle.sim_plans.proofs.Clearing.{clear_is}
use Rattle.sim_plans.proofs.Clocking.{place_of}
use Rattle.sim_plans.proofs.ResetLaws.{resets_like}
use Rattle.delta_sim.proofs.clears.clear.Goals as goal

pub get-requires : goal.get-requires
get-requires c =
    let p = subst (λ xs. slice_get xs c.args.k ≡ Some c.get-p.result.now) c.processes.ensures.value c.get-p.ensures.lookup in
    let has = c.requires.plan.1.clocked c.args.k c.get-p.result.now c.in-Some.d p c.in-Some.is in
    place_of c.args.plan.now.clocked c.args.k has.t has.stands

pub returns-then-is_cleared : goal.returns-then-is_cleared
returns-then-is_cleared c = λ q is.
    let d = c.args.design.now in
    let held = c.args.held.now in
    let p = subst (λ xs. slice_get xs c.args.k ≡ Some c.get-p.result.now) c.processes.ensures.value c.get-p.ensures.lookup in
    let has = c.requires.plan.1.clocked c.args.k c.get-p.result.now c.in-Some.d p c.in-Some.is in
    let same : q ≡ c.get-p.result.now = let f : Some q ≡ Some c.get-p.result.now = sym is ∙ p in cc in
    let task : c.get.result.now ≡ has.t = let f : Some c.get.result.now ≡ Some has.t = sym c.get.ensures.lookup ∙ has.stands in cc in
    let sigs = d.pool.signals in
    let outs : reset_all sigs held (numbers_of c.as_slice.result.now) ≡ reset_all sigs held (numbers_of has.t.outs) =
    ap (λ ss. reset_all sigs held (numbers_of ss)) c.as_slice.ensures ∙ ap (λ (t : Task). reset_all sigs held (numbers_of t.outs)) task in
    let like = resets_like sigs (numbers_of has.t.outs) (driven d.pool c.get-p.result.now.body) held has.is_task.outs in
    let clear = clear_is d held held c.get-p.result.now c.in-Some.d c.in-Some.is (sym c.if-is_cleared.ensures) in
    c.reset_all.ensures ∙ outs ∙ like ∙ sym clear ∙ ap (cleared d held held) (sym same)
