use Rattle.std.proofs.Common.{◌≡◌, ◌<◌, ◌≤◌, ◌+◌, ◌^◌, length}
use Rattle.bench_run.specs.Standing.{CanGoOn, units_of}
use Rattle.amh_tool.specs.Designs.{Given}
use Rattle.amh_tool.specs.RunParts.{Shows}
use Rattle.amh_tool.specs.Verdicts.{IsRunFitting}
use Rattle.amh_tool.proofs.RowLaws.{RowsSoFar}
use Rattle.amh_tool.proofs.EventLaws.{left_of}
use Rattle.amh_tool.proofs.run_rows.put_events.Given as goal

abbrev pub invariant-loop-row : goal.invariant-loop-row
invariant-loop-row g l = record {
  faults : g.H.Host.faults l.host ≡ g.H.Host.faults l.fn.host;
  board : l.runs.board ≡ l.fn.runs.board;
  going : CanGoOn l.runs.run;
  few : l.events + units_of l.runs.run.point < 2 ^ 64;
  many : length l.runs.run.point.sim.env ≡ length l.fn.runs.run.point.bench.design.pool.signals;
  shows : Shows l.runs.board.columns l.runs.run.point.sim.env l.text;
  so_far : (k : Given) → IsRunFitting k l.fn.runs → RowsSoFar k l.name l.fn.runs.run.point.sim.env l.runs.run l.events (g.H.Host.seen l.fn.host) (g.H.Host.seen l.host);
  counted : l.fn.steps ≤ l.steps;
}

abbrev pub decreases-loop-row : goal.decreases-loop-row
decreases-loop-row g l = left_of l.runs.run
