use Rattle.std.proofs.Common.{◌≡◌, sym, ◌∙◌, ap, Option, Some}
use Rattle.elab_store.specs.declared.faces.Face.{Face}
use Rattle.elab_store.specs.Held.{held_of}
use Rattle.elab_components.proofs.FaceLaws.{face_stands, with_held, stands_behind}
use Rattle.elab_components.proofs.interfaces.make_interface.Goals as goal

pub bind_face-requires : goal.bind_face-requires
bind_face-requires c =
    face_stands _ _ _ (held_of c.make_face.new.elaboration) c.in-Some.face
    (ap (λ (o : Option Face). with_held o (held_of c.make_face.new.elaboration)) (sym c.in-Some.is) ∙ c.in_ok-face.ensures.made)
    (stands_behind _ _ _ _ c.signature_count-number.ensures c.in_ok-keep_signature.ensures)
