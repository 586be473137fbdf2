use Rattle.std.proofs.Common.{◌∙◌, sym}
use Rattle.bench_run.proofs.ReadyLaws.{get_there, next_ready-here, next_ready-passed}
use Rattle.bench_run.proofs.testbench.next_ready.Goals as goal

pub returns-then-is_ready-clause-next : goal.returns-then-is_ready-clause-next
returns-then-is_ready-clause-next c =
    sym (next_ready-here c.args.testbenches.now c.loop-i.i c.index-testbenches-i.result (get_there c.args.testbenches.now c.loop-i.i c.index-testbenches-i.result c.loop-i-test.true c.index-testbenches-i.is) (sym c.is_ready.ensures ∙ c.if-is_ready.true)) ∙ c.loop-i.invariant

pub loop-i-preserved : goal.loop-i-preserved
loop-i-preserved c =
    next_ready-passed c.args.testbenches.now c.loop-i.i c.index-testbenches-i.result (get_there c.args.testbenches.now c.loop-i.i c.index-testbenches-i.result c.loop-i-test.true c.index-testbenches-i.is) (sym c.is_ready.ensures ∙ c.if-is_ready.false) ∙ c.loop-i.invariant
