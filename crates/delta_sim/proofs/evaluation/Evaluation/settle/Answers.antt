use Rattle.std.proofs.Common.{◌≡◌, ◌∙◌, sym, ap, subst, pos, take, slice_set, slice_index_or}
use Rattle.design_ir.specs.Values.{form, num, value_step}
use Rattle.delta_sim.specs.Evaluations.{Evaluating}
use Rattle.sim_plans.specs.Reading.{IsReady}
use Rattle.delta_sim.proofs.Finding.{ready, number_is}
use Rattle.delta_sim.proofs.evaluation.Evaluation.settle.Goals as goal

pub value-n-requires : goal.value-n-requires
value-n-requires c =
    let p = c.args.design.now.pool in
    let env = c.args.env.now in
    let old = c.args.self.now in
    let k = c.args.e.0 in
    let x = c.at.result.now in
    let same : c.deref.result.now ≡ old.numbers = c.deref.ensures.value ∙ ap (λ (v : Evaluating). v.numbers) c.self.view_is in
    let is : IsReady p env (take k old.numbers) x = ready p env old.numbers old.found.marks c.count.ensures.rules c.requires.fits c.requires.found k x c.at.ensures c.requires.there c.requires.room c.requires.signals in
    record { ready = subst (λ xs. IsReady p env (take k xs) x) (sym same) is }

pub returns-clause-numbers : goal.returns-clause-numbers
returns-clause-numbers c =
    let p = c.args.design.now.pool in
    let env = c.args.env.now in
    let old = c.args.self.now in
    let k = c.args.e.0 in
    let x = c.at.result.now in
    let n = c.value-n.result in
    let whole = ap (λ (v : Evaluating). v.numbers) c.self.view_is in
    let same : c.deref.result.now ≡ old.numbers = c.deref.ensures.value ∙ whole in
    let value = c.value-n.ensures ∙ ap (λ xs. value_step (form p) env (λ j. slice_index_or (take k xs) j (pos 0)) x) same in
    let is : n ≡ num p env k = number_is p env old.numbers old.found.marks c.count.ensures.rules c.requires.fits c.requires.found k x c.at.ensures c.requires.there c.requires.room (c.requires.names x c.at.ensures) n value in
    ap (λ xs. slice_set xs k n) whole ∙ ap (slice_set old.numbers k) is
