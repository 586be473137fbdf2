use Rattle.std.proofs.Common.{◌≡◌, ◌++◌, drop}
use Rattle.std.specs.List.{flat_map}
use Rattle.rtlil_text.specs.Lines.{parameter_text}
use Rattle.rtlil_text.proofs.text.add_parameters.Given as goal

abbrev pub invariant-loop-p : goal.invariant-loop-p
invariant-loop-p l = l.page ++ flat_map parameter_text (drop l.p-index l.p-items) ≡ l.fn.page ++ flat_map parameter_text l.p-items
