use Rattle.std.proofs.Common.{◌≡◌, ◌<◌, ◌∙◌, ap, arith, length, pos, get_or, slice_set, length-set}
use Rattle.design_ir.specs.declared.ids.SigId.{SigId}
use Rattle.design_ir.specs.Circuits.{at}
use Rattle.sim_plans.proofs.Grouping.{signal_has}
use Rattle.sim_plans.proofs.Taking.{take_turn}
use Rattle.sim_plans.proofs.Turns.{any_default}
use Rattle.delta_sim.proofs.first.give.Goals as goal

pub bounds-from-s : goal.bounds-from-s
bounds-from-s c =
    let ss = c.args.signals.now in
    let k = c.loop-s.s-index in
    let x : SigId = get_or ss k record { 0 = 0 } in
    let there = signal_has (λ s. s < length c.args.env.now.items) ss k x c.loop-s-test.true (any_default ss k record { 0 = 0 } x c.loop-s-test.true) c.requires.below in
    omega (arith, there, c.requires.long)

pub index_mut-requires : goal.index_mut-requires
index_mut-requires c =
    let ss = c.args.signals.now in
    let k = c.loop-s.s-index in
    let x : SigId = get_or ss k record { 0 = 0 } in
    let there = signal_has (λ s. s < length c.args.env.now.items) ss k x c.loop-s-test.true (any_default ss k record { 0 = 0 } x c.loop-s-test.true) c.requires.below in
    omega (arith, there, c.loop-s.invariant.long)

pub loop-s-preserved : goal.loop-s-preserved
loop-s-preserved c =
    let ss = c.args.signals.now in
    let k = c.loop-s.s-index in
    let from = c.args.from.now in
    let env = c.loop-s.env.items in
    let x : SigId = get_or ss k record { 0 = 0 } in
    let is = any_default ss k record { 0 = 0 } x c.loop-s-test.true in
    let there = signal_has (λ s. s < length c.args.env.now.items) ss k x c.loop-s-test.true is c.requires.below in
    let inside : x.0 < length from = omega (arith, there, c.requires.long) in
    let e : slice_set env x.0 c.index-from-s.result ≡ slice_set env x.0 (at from x.0) = ap (slice_set env x.0) (c.index-from-s.is ∙ any_default from x.0 c.index-from-s.result (pos 0) inside) in
    record {
      long = length-set env x.0 c.index-from-s.result ∙ c.loop-s.invariant.long;
      all = take_turn from ss k x env (slice_set env x.0 c.index-from-s.result) _ c.loop-s-test.true is e c.loop-s.invariant.all;
    }
