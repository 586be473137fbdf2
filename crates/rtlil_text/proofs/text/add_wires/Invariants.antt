use Rattle.std.proofs.Common.{◌≡◌, ◌++◌, drop}
use Rattle.std.specs.List.{flat_map}
use Rattle.rtlil_text.specs.Lines.{wire_text}
use Rattle.rtlil_text.proofs.text.add_wires.Given as goal

abbrev pub invariant-loop-w : goal.invariant-loop-w
invariant-loop-w l = l.page ++ flat_map wire_text (drop l.w-index l.w-items) ≡ l.fn.page ++ flat_map wire_text l.w-items
