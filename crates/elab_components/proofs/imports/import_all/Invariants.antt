use Rattle.std.proofs.Common.{◌≡◌, [], drop}
use Rattle.elab_components.specs.Imports.{all_bound, star_names}
use Rattle.elab_store.specs.Held.{held_of}
use Rattle.elab_components.proofs.imports.import_all.Given as goal

abbrev pub invariant-loop-i : goal.invariant-loop-i
invariant-loop-i l = all_bound l.names (drop l.i star_names) (held_of l.elaboration) ≡ all_bound [] star_names (held_of l.initial.elaboration)
