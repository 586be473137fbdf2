use Rattle.std.proofs.Common.{◌≡◌, take, string_bytes}
use Rattle.std.specs.List.{flat_map}
use Rattle.amh_host.specs.Seen.{written}
use Rattle.rtlil_text.proofs.page.Page.put.Given as goal

abbrev pub invariant-loop-line : goal.invariant-loop-line
invariant-loop-line g l = record {
  seen : g.H.Host.seen l.host ≡ written l.name (flat_map string_bytes (take l.line-index l.line-items)) (g.H.Host.seen l.fn.host);
  faults : g.H.Host.faults l.host ≡ g.H.Host.faults l.fn.host;
}
