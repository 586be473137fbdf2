use Rattle.std.proofs.Common.{◌≡◌, ◌++◌, drop}
use Rattle.std.specs.List.{flat_map}
use Rattle.rtlil_text.specs.Widths.{width_in}
use Rattle.rtlil_text.specs.Written.{link_text}
use Rattle.rtlil_text.proofs.text.add_links.Given as goal

abbrev pub invariant-loop-l : goal.invariant-loop-l
invariant-loop-l l = l.page ++ flat_map (link_text (width_in l.widths)) (drop l.l-index l.l-items) ≡ l.fn.page ++ flat_map (link_text (width_in l.widths)) l.l-items
