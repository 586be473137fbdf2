use Rattle.std.proofs.Common.{◌≡◌, take}
use Rattle.std.specs.List.{flat_map}
use Rattle.amh_host.specs.Seen.{written}
use Rattle.play_text.specs.Trace.{column_line}
use Rattle.amh_tool.proofs.trace_ends.put_columns.Given as goal

abbrev pub invariant-loop-x : goal.invariant-loop-x
invariant-loop-x g l = record {
  seen : g.H.Host.seen l.host ≡ written l.name (flat_map column_line (take l.x-index l.columns)) (g.H.Host.seen l.fn.host);
  faults : g.H.Host.faults l.host ≡ g.H.Host.faults l.fn.host;
}
