use Rattle.std.proofs.Common.{◌≡◌, ◌<◌, ◌∙◌, length, ap, inl, inr, ⊎_elim, arith, get_or, length-set}
use Rattle.design_ir.specs.declared.ids.SigId.{SigId}
use Rattle.design_ir.specs.Circuits.{is_among}
use Rattle.sim_plans.specs.Driven.{numbers_of}
use Rattle.sim_plans.proofs.Grouping.{taken_all, signal_has, taken_turn, noted_turn, either_turn}
use Rattle.sim_plans.proofs.Turns.{any_default}
use Rattle.sim_plans.proofs.group.note.Goals as goal

pub bounds-noted-s : goal.bounds-noted-s
bounds-noted-s c =
    let ss = c.args.signals.now in
    let k = c.loop-s.s-index in
    let x : SigId = get_or ss k record { 0 = 0 } in
    let there = signal_has (λ s. s < length c.args.noted.now) ss k x c.loop-s-test.true (any_default ss k record { 0 = 0 } x c.loop-s-test.true) c.requires.below in
    omega (arith, there, c.loop-s.invariant.count)

pub loop-s-preserved : goal.loop-s-preserved
loop-s-preserved c =
    let ss = c.args.signals.now in
    let k = c.loop-s.s-index in
    let x : SigId = get_or ss k record { 0 = 0 } in
    let at = any_default ss k record { 0 = 0 } x c.loop-s-test.true in
    let first = signal_has (λ s. s < length c.args.noted.now) ss k x c.loop-s-test.true at c.requires.below in
    let old = c.loop-s.noted in
    let there : x.0 < length old = omega (arith, first, c.loop-s.invariant.count) in
    record {
      count = length-set old x.0 c.args.i ∙ c.loop-s.invariant.count;
      noted = λ s m. noted_turn old x.0 c.args.i there s (⊎_elim (λ a. inl (c.loop-s.invariant.noted s a)) (λ (e : x.0 ≡ s). inr e) (taken_turn ss k x s c.loop-s-test.true at m));
      either = either_turn old x.0 c.args.i there c.args.noted.now c.loop-s.invariant.either;
    }

pub returns-clause-noted : goal.returns-clause-noted
returns-clause-noted c = λ s m. c.loop-s.invariant.noted s (ap (λ ss. is_among (numbers_of ss) s) (taken_all c.args.signals.now c.loop-s.s-index c.loop-s-test.false) ∙ m)
