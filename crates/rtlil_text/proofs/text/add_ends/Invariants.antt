use Rattle.std.proofs.Common.{◌≡◌, ◌++◌, drop}
use Rattle.std.specs.List.{flat_map}
use Rattle.rtlil_text.specs.Widths.{width_in}
use Rattle.rtlil_text.specs.Written.{end_text}
use Rattle.rtlil_text.proofs.text.add_ends.Given as goal

abbrev pub invariant-loop-e : goal.invariant-loop-e
invariant-loop-e l = l.page ++ flat_map (end_text (width_in l.widths)) (drop l.e-index l.e-items) ≡ l.fn.page ++ flat_map (end_text (width_in l.widths)) l.e-items
