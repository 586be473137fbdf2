use Rattle.std.proofs.Common.{◌≡◌, ◌++◌, drop}
use Rattle.std.specs.Prelude.{slice_get}
use Rattle.std.specs.List.{flat_map}
use Rattle.design_ir.specs.declared.ids.DomainId.{DomainId}
use Rattle.play_text.specs.Trace.{edge_field}
use Rattle.play_text.proofs.trace_events.push_edges.Given as goal

abbrev pub invariant-loop-d : goal.invariant-loop-d
invariant-loop-d l =
    l.text.items ++ flat_map (λ (d : DomainId). edge_field l.before (slice_get l.domains d.0)) (drop l.d-index l.clocks)
    ≡ l.fn.text.items ++ flat_map (λ (d : DomainId). edge_field l.before (slice_get l.domains d.0)) l.clocks
