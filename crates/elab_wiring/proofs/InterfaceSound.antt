-- What is held stays sound by attributes of interfaces and by `flipped`.
use Rattle.std.proofs.Common.{◌≡◌, ℕ, suc, refl, sym, ap, subst, not, List, [], ◌∷◌, length, Option, Some, None, arith, is_some, option_map, true≢false}
use Rattle.std.specs.Prelude.{slice_get, codes}
use Rattle.std.specs.BTreeMap.{is_at}
use Rattle.std.specs.Ordering.{nat_cmp}
use Rattle.lists.specs.Texts.{text_eq}
use Rattle.py_values.specs.declared.val.Val.{Val}
use Rattle.py_values.specs.declared.val.Val.TheVariants as val
use Rattle.elab_store.specs.declared.faces.End.{End}
use Rattle.elab_store.specs.declared.faces.Face.{Face}
use Rattle.elab_store.specs.declared.faces.FaceMember.{FaceMember}
use Rattle.elab_store.specs.declared.faces.FaceMember.TheVariants as face
use Rattle.elab_store.specs.declared.faces.ComponentObject.{ComponentObject}
use Rattle.elab_store.specs.declared.kept.Kept.{Kept}
use Rattle.elab_store.specs.declared.kept.Kept.TheVariants as kept_as
use Rattle.elab_store.specs.declared.kept.SignatureMethod.TheVariants as method
use Rattle.elab_store.specs.Calls.{Called}
use Rattle.elab_store.specs.Components.{object_at, face_at}
use Rattle.elab_store.specs.Faces.{IsFace, face_member}
use Rattle.elab_store.specs.Leaves.{Signatures, leaves}
use Rattle.elab_store.specs.Sound.{IsObject, IsSound}
use Rattle.elab_store.specs.Stores.{Held, kept_of, face_of, face_in}
use Rattle.elab_store.proofs.FaceLaws.{member_sound}
use Rattle.elab_store.proofs.LeafLaws.{in_length}
use Rattle.elab_acts.proofs.GrownLaws.{IsKeptIn, keeping_sound}
use Rattle.elab_acts.proofs.PortLaws.{all_found}
use Rattle.elab_acts.proofs.SideLaws.{kept_stands}
use Rattle.elab_acts.proofs.SignatureSound.{method_called_sound}
use Rattle.elab_acts.proofs.SoundLaws.{if_sound}
use Rattle.elab_wiring.specs.Interfaces.{end_given, member_given, signature_given, interface_attribute, turned_face, flipped_given, flipped_of, flipped_called}

-- the interface has its ends
abbrev pub IsFaceIn : Held → Face → Type 0
IsFaceIn h f = IsFace h.store.components.signatures h.store.components.ends f

-- ---- attributes

no_arguments : Called
no_arguments = record { callee = val.None; placed = []; keywords = []; keyword_vals = []; name = [] }

-- what `flip()` gives of its signature, where the interface is turned
signature_given_sound : (f : Face) (h : Held) → IsSound h → IsSound (signature_given f h).held
unfolding no_arguments
signature_given_sound f h s = if_sound f.turned _ _ (method_called_sound f.signature method.Flip no_arguments h s) (keeping_sound h (kept_as.Signature f.signature) s tt)

end_sound : (o : Option End) (h : Held) → IsSound h → IsSound (end_given o h).held
end_sound None h s = s
end_sound (Some e) h s = s

member_given_sound : (f : Face) (name : List ℕ) (o : Option FaceMember) (h : Held) → IsSound h → IsFaceIn h f → face_member h.store.components.signatures f name ≡ o → IsSound (member_given o h).held
member_given_sound f name None h s is e = s
member_given_sound f name (Some (face.Port k)) h s is e = end_sound (slice_get h.store.components.ends k) h s
member_given_sound f name (Some (face.Nested g)) h s is e = keeping_sound h (kept_as.Interface g) s (member_sound h.store.components.signatures h.store.components.ends f name (face.Nested g) is e)

pub interface_attribute_sound : (f : Face) (name : List ℕ) (h : Held) → IsSound h → IsFaceIn h f → IsSound (interface_attribute f name h).held
interface_attribute_sound f name h s is = if_sound (text_eq name (codes "signature")) _ _ (signature_given_sound f h s) (member_given_sound f name (face_member h.store.components.signatures f name) h s is refl)

-- ---- `flipped`

turned_is_face : (sigs : Signatures) (ends : List End) (f : Face) → IsFace sigs ends f → IsFace sigs ends (turned_face f)
turned_is_face sigs ends f h =
    let same : length (leaves sigs (not f.turned) [] f.signature) ≡ length (leaves sigs f.turned [] f.signature) = in_length (suc f.signature) sigs (not f.turned) f.turned [] [] f.signature in
    record { there = h.there; few = omega (arith, same, h.few); within = omega (arith, same, h.within) }

kept_face : (h : Held) (o : Option Kept) (f : Face) → ((k : Kept) → o ≡ Some k → IsKeptIn h k) → face_in o ≡ Some f → IsFaceIn h f
kept_face h (Some (kept_as.Interface g)) f is e = let same : g ≡ f = cc in subst (IsFaceIn h) same (is (kept_as.Interface g) refl)
kept_face h None f is e = absurd (true≢false (ap is_some (sym e)))
kept_face h (Some k) f is e = absurd (true≢false (ap is_some (sym e)))

object_face : (h : Held) (n : ℕ) (f : Face) → IsSound h → face_at h.store.components.objects n ≡ Some f → IsFaceIn h f
object_face h n f s e = by_object (object_at h.store.components.objects n) refl e
  where
    by_object : (o : Option ComponentObject) → object_at h.store.components.objects n ≡ o → option_map (λ (x : ComponentObject). x.face) o ≡ Some f → IsFaceIn h f
    by_object None at e = absurd (true≢false (ap is_some (sym e)))
    by_object (Some x) at e =
        let same : x.face ≡ f = cc in
        subst (IsFaceIn h) same (all_found (IsObject h.pool h.store.components.signatures h.store.components.ends) (is_at (nat_cmp n)) h.store.components.objects x s.components.objects at).face

-- the interface that a value is has its ends
pub face_of_sound : (h : Held) (v : Val) (f : Face) → IsSound h → face_of h.store v ≡ Some f → IsFaceIn h f
face_of_sound h (val.Object o) f s e = object_face h o.0 f s e
face_of_sound h v f s e = kept_face h (kept_of h.store v) f (λ k at. kept_stands h.pool h.store s.kept v k at) e

flipped_given_sound : (o : Option Face) (h : Held) → IsSound h → ((f : Face) → o ≡ Some f → IsFaceIn h f) → IsSound (flipped_given o h).held
flipped_given_sound None h s is = s
flipped_given_sound (Some f) h s is = keeping_sound h (kept_as.Interface (turned_face f)) s (turned_is_face h.store.components.signatures h.store.components.ends f (is f refl))

flipped_of_sound : (vs : List Val) (ns : List (List ℕ)) (h : Held) → IsSound h → IsSound (flipped_of vs ns h).held
flipped_of_sound (x ∷ []) [] h s = flipped_given_sound (face_of h.store x) h s (λ f e. face_of_sound h x f s e)
flipped_of_sound (x ∷ []) (n ∷ ns) h s = s
flipped_of_sound [] ns h s = s
flipped_of_sound (x ∷ y ∷ vs) ns h s = s

pub flipped_sound : (c : Called) (h : Held) → IsSound h → IsSound (flipped_called c h).held
flipped_sound c h s = flipped_of_sound c.placed c.keywords h s
