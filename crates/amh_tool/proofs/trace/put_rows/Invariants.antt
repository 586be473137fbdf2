use Rattle.std.proofs.Common.{◌≡◌, ◌++◌, ◌∷◌, drop, length, ℕ, ℤ, List}
use Rattle.amh_host.specs.Seen.{written}
use Rattle.design_ir.specs.declared.event.Event.{Event}
use Rattle.design_ir.specs.Histories.{History}
use Rattle.delta_sim.specs.Standing.{Stands}
use Rattle.play_text.specs.Lanes.{lanes_at}
use Rattle.play_text.specs.Stripes.{AreFound, grid, joined}
use Rattle.play_text.specs.Trace.{row_lines}
use Rattle.amh_tool.specs.Verdicts.{events_of, rows_of}
use Rattle.amh_tool.proofs.TraceLaws.{GoesOn}
use Rattle.amh_tool.proofs.trace.put_rows.Given as goal

abbrev pub invariant-loop-event : goal.invariant-loop-event
invariant-loop-event g l = record {
  faults : g.H.Host.faults l.host ≡ g.H.Host.faults l.fn.host;
  time : l.time ≡ l.event-index;
  gone : List Event;
  whole : gone ++ drop l.event-index l.event-items ≡ l.event-items;
  stands : Stands l.accepted.ranked.design gone l.sim;
  shown : joined (grid l.stripes.stripes.items) ≡ lanes_at l.accepted.board.columns l.sim.env;
  found : AreFound l.stripes.shown.items 0 (grid l.stripes.stripes.items);
  many : length l.stripes.shown.items ≡ length l.accepted.ranked.design.pool.signals;
  so_far : List ℕ;
  seen : g.H.Host.seen l.host ≡ written l.name so_far (g.H.Host.seen l.fn.host);
  rest : (envs : List (List ℤ)) → History l.accepted.ranked.design (events_of l.accepted) (l.fn.sim.env ∷ envs)
      → GoesOn l.accepted.ranked.design l.accepted.board l.time (drop l.event-index l.event-items) l.sim so_far (row_lines l.accepted.board (rows_of l.accepted) l.fn.sim.env envs);
}
