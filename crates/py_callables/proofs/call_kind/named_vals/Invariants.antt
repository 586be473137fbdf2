use Rattle.std.proofs.Common.{◌≡◌, map, take}
use Rattle.py_frames.specs.declared.request.NamedVal.{NamedVal}
use Rattle.py_callables.proofs.call_kind.named_vals.Given as goal

abbrev pub invariant-loop-x : goal.invariant-loop-x
invariant-loop-x l = l.vals ≡ map (λ (x : NamedVal). x.val) (take l.x-index l.keywords)
