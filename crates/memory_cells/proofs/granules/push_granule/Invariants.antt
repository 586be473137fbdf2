use Rattle.std.proofs.Common.{◌≡◌, ◌++◌, ◌-◌, replicate}
use Rattle.rtlil_text.specs.declared.sig.SigPart.TheVariants as parts
use Rattle.memory_cells.proofs.granules.push_granule.Given as goal

abbrev pub invariant-loop-i : goal.invariant-loop-i
invariant-loop-i l = l.spec ++ replicate (l.granule - l.i) (parts.Wire l.id l.low 1) ≡ l.initial.spec ++ replicate l.granule (parts.Wire l.id l.low 1)
