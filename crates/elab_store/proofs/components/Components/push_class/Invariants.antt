use Rattle.std.proofs.Common.{◌≡◌, ◌++◌, ◌-◌, reverse}
use Rattle.elab_store.specs.Components.{base_members, members_in, class_members}
use Rattle.elab_store.proofs.components.Components.push_class.Given as goal

abbrev pub invariant-loop-i : goal.invariant-loop-i
invariant-loop-i l =
    l.all.items ++ reverse (base_members (members_in (l.most - l.i) l.self.classes) l.next)
    ≡ l.initial.all.items ++ reverse (class_members l.self.classes l.fn.class.0)
