use Rattle.std.proofs.Common.{◌≡◌, ◌++◌, ◌+◌, ◌≤◌, drop}
use Rattle.elab_store.specs.Faces.{members_from}
use Rattle.elab_store.proofs.FaceLaws.{all_count}
use Rattle.elab_store.proofs.components.Components.face_members.Given as goal

abbrev pub invariant-loop-m : goal.invariant-loop-m
invariant-loop-m l =
    (l.all ++ members_from l.self.signatures l.face l.first (drop l.m-index l.m-items) ≡ members_from l.self.signatures l.face l.face.first l.m-items)
    × ((l.first + all_count l.self.signatures l.face (drop l.m-index l.m-items) ≡ l.face.first + all_count l.self.signatures l.face l.m-items)
    × (l.face.first ≤ l.first))
