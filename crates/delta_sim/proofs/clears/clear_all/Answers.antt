use Rattle.std.proofs.Common.{◌≡◌, ◌∙◌, ◌<◌, ◌∷◌, ℕ, [], false, refl, sym, ap, subst, length, fold, slice_index_or, get_or}
use Rattle.std.specs.List.{AllByRecursion}
use Rattle.design_ir.specs.declared.process.DesignProcess.{DesignProcess}
use Rattle.design_ir.specs.Guards.{driven}
use Rattle.design_ir.specs.Circuits.{at, is_among}
use Rattle.design_ir.proofs.ClearedLaws.{clears_length}
use Rattle.design_ir.proofs.NumbersFit.{element}
use Rattle.sim_plans.proofs.Clearing.{clears_same, clear_keeps, cleared_number, number_is, clearable_alone, clearable_below}
use Rattle.sim_plans.proofs.EdgesFit.{all_get}
use Rattle.sim_plans.proofs.Turns.{fold_turn, fold_end, all_here, any_default}
use Rattle.delta_sim.proofs.clears.clear_all.Goals as goal

pub loop-k-init : goal.loop-k-init
loop-k-init c =
    let d = c.args.design.now in
    record {
      there = subst (AllByRecursion (λ k. k < length d.processes)) (sym (c.as_slice-k-items.ensures ∙ c.requires.plan.1.clearable)) (clearable_below d);
      signals = c.requires.signals;
      all = refl;
      undriven = λ s free. refl;
    }

pub loop-k-preserved : goal.loop-k-preserved
loop-k-preserved c =
    let d = c.args.design.now in
    let first = c.args.held.now in
    let cur = c.loop-k.held in
    let list = c.as_slice-k-items.result.now in
    let i = c.loop-k.k-index in
    let v = c.loop-k.invariant in
    let k : ℕ = slice_index_or list i 0 in
    let is : k ≡ get_or list i k = any_default list i 0 k c.loop-k-test.true in
    let here = all_here (λ j. j < length d.processes) list i k c.loop-k-test.true is v.there in
    let p = element d.processes k here.0 in
    let e = c.clear.ensures p.0 p.1 ∙ clears_same d first c.processes.ensures.rules cur v.undriven p.0 in
    record {
      there = here.1;
      signals = ap length (c.clear.ensures p.0 p.1) ∙ clears_length d cur (p.0 ∷ []) cur ∙ v.signals;
      all = fold_turn (cleared_number d first) cur c.clear.new.held _ list i k c.loop-k-test.true is (e ∙ sym (number_is d first cur k p.0 p.1)) v.all;
      undriven = λ s free. ap (λ xs. at xs s) e ∙ clear_keeps d first s p.0 cur (all_get (λ (q : DesignProcess). is_among (driven d.pool q.body) s ≡ false) d.processes k p.0 free p.1) ∙ v.undriven s free;
    }

pub returns : goal.returns
returns c =
    let d = c.args.design.now in
    let first = c.args.held.now in
    fold_end (cleared_number d first) c.loop-k.held _ c.as_slice-k-items.result.now c.loop-k.k-index c.loop-k-test.false c.loop-k.invariant.all
    ∙ ap (fold (cleared_number d first) first) (c.as_slice-k-items.ensures ∙ c.requires.plan.1.clearable)
    ∙ clearable_alone d first first
