use Rattle.std.proofs.Common.{◌≡◌, ◌∷◌, map, take}
use Rattle.py_frames.specs.declared.request.NamedVal.{NamedVal}
use Rattle.py_callables.proofs.call_kind.names_of_call.Given as goal

abbrev pub invariant-loop-x : goal.invariant-loop-x
invariant-loop-x l = l.names ≡ l.name ∷ map (λ (x : NamedVal). x.name) (take l.x-index l.keywords)
