use Rattle.bench_run.proofs.OneRun.{run_once}
use Rattle.bench_run.proofs.laws.runs_are_one.Goals as goal

pub returns : goal.returns
returns c = run_once c.moments_are_toggles.ensures.one
