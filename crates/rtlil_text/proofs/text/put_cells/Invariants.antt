use Rattle.std.proofs.Common.{◌≡◌, take}
use Rattle.std.specs.List.{flat_map}
use Rattle.amh_host.specs.Seen.{written}
use Rattle.rtlil_text.specs.Widths.{width_in}
use Rattle.rtlil_text.specs.Written.{cell_text}
use Rattle.rtlil_text.proofs.text.put_cells.Given as goal

abbrev pub invariant-loop-c : goal.invariant-loop-c
invariant-loop-c g l = record {
  seen : g.H.Host.seen l.host ≡ written l.name (flat_map (cell_text (width_in l.widths)) (take l.c-index l.c-items)) (g.H.Host.seen l.fn.host);
  faults : g.H.Host.faults l.host ≡ g.H.Host.faults l.fn.host;
}
