use Rattle.std.proofs.Common.{◌≡◌, ℕ, map, take}
use Rattle.std.specs.Prelude.{nat_eq}
use Rattle.std.specs.List.{list_any}
use Rattle.std.specs.BTreeSet.{contains}
use Rattle.std.specs.Ordering.{nat_cmp}
use Rattle.design_ir.specs.declared.ids.SigId.{SigId}
use Rattle.elab_eval.specs.ObjectTops.{signal_ports}
use Rattle.elab_store.specs.Held.{held_of}
use Rattle.elab_eval.proofs.object_tops.signal_ports.Given as goal

-- the set has all that were met, and the ports are theirs
abbrev pub invariant-loop-s : goal.invariant-loop-s
invariant-loop-s l =
    ((q : ℕ) → contains nat_cmp l.known q ≡ list_any (nat_eq q) (map (λ (s : SigId). s.0) (take l.s-index l.signals)))
    × (l.ports ≡ signal_ports (held_of l.elaboration) (take l.s-index l.signals))
