use Rattle.std.proofs.Common.{◌≡◌, ◌++◌, ◌-◌, replicate}
use Rattle.rtlil_text.specs.declared.sig.SigPart.TheVariants as parts
use Rattle.netlist_cells.proofs.parts.repeated.Given as goal

abbrev pub invariant-loop-i : goal.invariant-loop-i
invariant-loop-i l = l.spec ++ replicate (l.count - l.i) (parts.Wire l.id l.low 1) ≡ replicate l.count (parts.Wire l.id l.low 1)
