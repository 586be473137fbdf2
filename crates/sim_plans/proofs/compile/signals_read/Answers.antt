use Rattle.std.proofs.Common.{◌<◌, ◌≤◌, length, arith}
use Rattle.sim_plans.proofs.Compiling.{signals_all, signals_only, signals_listed}
use Rattle.sim_plans.proofs.compile.signals_read.Goals as goal

pub loop-i-preserved : goal.loop-i-preserved
loop-i-preserved c =
    let p = c.args.design.now.pool in
    let w = c.args.values.now in
    let there : c.loop-i.i < length w.list = omega (arith, c.loop-i-test.true, c.len-i-end.ensures.count) in
    record {
      all = signals_all p w c.len-i-end.ensures.rules c.loop-i.i c.get.result there c.get.ensures c.at.result.now c.at.ensures c.loop-i.list c.add_signal.new.list c.in_ok-add_signal.ensures c.loop-i.invariant.all;
      only = signals_only p w c.len-i-end.ensures.rules c.loop-i.i c.get.result there c.get.ensures c.at.result.now c.at.ensures c.loop-i.list c.add_signal.new.list c.in_ok-add_signal.ensures c.loop-i.invariant.only;
    }

pub returns-clause-all : goal.returns-clause-all
returns-clause-all c =
    let le : length c.args.values.now.list ≤ c.loop-i.i = omega (arith, c.loop-i-test.false, c.len-i-end.ensures.count) in
    signals_listed c.args.design.now.pool c.args.values.now c.len-i-end.ensures.rules c.loop-i.i le c.loop-i.list c.loop-i.invariant.all
