use Rattle.std.proofs.Common.{◌≡◌, ◌++◌, ◌-◌, length, Some}
use Rattle.elab_store.specs.Wrappings.{wraps_from}
use Rattle.elab_store.proofs.wrappings.wraps_of.Given as goal

abbrev pub invariant-loop-i : goal.invariant-loop-i
invariant-loop-i l = l.bys.items ++ wraps_from (length l.wrapped - l.i) l.wrapped l.next ≡ wraps_from (length l.wrapped) l.wrapped (Some l.number)
