use Rattle.std.proofs.Common.{◌≡◌, [], drop}
use Rattle.elab_store.specs.Held.{held_of}
use Rattle.elab_components.specs.Interfaces.{names_bound}
use Rattle.elab_components.proofs.interfaces.bind_names.Given as goal

abbrev pub invariant-loop-i : goal.invariant-loop-i
invariant-loop-i l = names_bound l.names (drop l.i l.members) (drop l.i l.parts) (held_of l.elaboration) ≡ names_bound [] l.members l.parts (held_of l.fn.elaboration)
