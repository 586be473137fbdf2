use Rattle.std.proofs.Common.{refl, false}
use Rattle.bench_run.proofs.StartLaws.{anew_step, anew_all}
use Rattle.bench_run.proofs.begin.testbenches_of.Goals as goal

pub loop-x-preserved : goal.loop-x-preserved
loop-x-preserved c =
    let all = c.loop-x.invariant in
    anew_step c.args.frozen.now c.args.ctx c.args.added.now all.0 c.loop-x.x-index (record { function = record { 0 = 0 }; background = false }) c.loop-x.testbenches.items c.push.new.self.items
    _ all.1 all.2 c.loop-x-test.true
    (record { of = c.in_ok-bench.ensures.of; stands = c.in_ok-bench.ensures.stands; before = c.in_ok-bench.ensures.before; unused = c.in_ok-bench.ensures.unused; background = refl; stand = refl })
    c.in_ok-push.ensures.items

pub returns : goal.returns
returns c =
    let all = c.loop-x.invariant in
    anew_all c.args.frozen.now c.args.ctx c.args.added.now all.0 c.loop-x.x-index c.loop-x.testbenches.items all.1 all.2 c.loop-x-test.false
