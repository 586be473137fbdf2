use Rattle.std.proofs.Common.{◌≡◌, ◌&&◌, not, map, is_some}
use Rattle.std.specs.List.{filter, range_with_len}
use Rattle.design_ir.specs.declared.ids.SigId.{SigId}
use Rattle.fragment_walks.specs.Marks.{is_marked}
use Rattle.fragment_walks.specs.Numbers.{first_at}
use Rattle.clock_domains.specs.Firsts.{path_at}
use Rattle.clock_domains.specs.Resolved.{has_width}
use Rattle.clock_domains.proofs.columns.named_registers.Given as goal

abbrev pub invariant-loop-s : goal.invariant-loop-s
invariant-loop-s l =
    map (λ (s : SigId). s.0) l.registers.items ≡ filter (λ s. is_some (path_at l.paths (first_at l.sites s)) && (not (is_marked l.is_port s) && has_width l.pool s)) (range_with_len 0 l.s)
