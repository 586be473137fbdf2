use Rattle.std.proofs.Common.{◌≡◌, ◌+◌, ◌≤◌, drop}
use Rattle.elab_store.specs.Faces.{member_named}
use Rattle.elab_store.proofs.FaceLaws.{all_count}
use Rattle.elab_store.proofs.components.Components.face_member.Given as goal

abbrev pub invariant-loop-m : goal.invariant-loop-m
invariant-loop-m l =
    (member_named l.self.signatures l.face l.name l.first (drop l.m-index l.m-items) ≡ member_named l.self.signatures l.face l.name l.face.first l.m-items)
    × ((l.first + all_count l.self.signatures l.face (drop l.m-index l.m-items) ≡ l.face.first + all_count l.self.signatures l.face l.m-items)
    × (l.face.first ≤ l.first))
