-- What is held stays sound by classes over `Signature` and by their objects.
use Rattle.std.proofs.Common.{◌≡◌, ℕ, refl, Bool, true, false, List, [], ◌∷◌, Option, Some, None}
use Rattle.std.specs.Prelude.{if◌then◌else◌}
use Rattle.std.specs.List.{AllByRecursion, list_any}
use Rattle.lists.specs.Names.{IsName}
use Rattle.py_values.specs.declared.val.Val.{Val}
use Rattle.py_values.specs.declared.val.Val.TheVariants as val
use Rattle.py_values.specs.declared.val.ObjId.{ObjId}
use Rattle.py_heap.specs.Heaps.{Seen, row_at}
use Rattle.py_frames.specs.declared.request.Answer.TheVariants as answer
use Rattle.py_frames.specs.declared.request.Cause.TheVariants.{Raised}
use Rattle.elab_store.specs.declared.members.NamedMember.{NamedMember}
use Rattle.elab_store.specs.Calls.{first_or}
use Rattle.elab_store.specs.Components.{signed_at}
use Rattle.elab_store.specs.Sound.{IsSound}
use Rattle.elab_store.specs.Stores.{Held, Answered, kept_of, refused}
use Rattle.elab_components.specs.Classes.{is_keyword}
use Rattle.elab_components.specs.ComponentClasses.{class_answered}
use Rattle.elab_components.specs.Faces.{signing}
use Rattle.elab_components.specs.Interfaces.{are_members, init_answered}
use Rattle.elab_components.specs.Signatures.{members_of_dict}
use Rattle.elab_acts.proofs.ComponentSound.{are_members_named}
use Rattle.elab_acts.proofs.FaceSound.{signing_sound}
use Rattle.elab_acts.proofs.SignatureSound.{attribute_sound}
use Rattle.elab_acts.proofs.SoundLaws.{if_sound}
use Rattle.elab_wiring.specs.SignatureClasses.{is_signature_name, any_class_answered, class_root, is_signature_root, signed_by, signed_given, signature_init, any_init_answered, signed_attribute, object_attribute}

-- ---- classes: the other families tell what is sound of theirs

pub any_class_sound : (vals : List Val) (names : List (List ℕ)) (h : Held) → IsSound (class_answered vals names h).held → IsSound h → IsSound (any_class_answered vals names h).held
any_class_sound [] names h other s = other
any_class_sound (class ∷ []) names h other s = other
any_class_sound (class ∷ base ∷ vs) names h other s = if_sound (is_signature_name (kept_of h.store base)) _ _ (if_sound (list_any is_keyword names) _ _ s s) other

-- ---- objects

signed_sound : (o : ObjId) (ms : List NamedMember) (h : Held) → IsSound h → AllByRecursion (λ (m : NamedMember). IsName m.name) ms → IsSound (signed_by o ms h)
signed_sound o ms h s named =
    let t : IsSound (signing ms h) = signing_sound ms h s named in
    record { names = t.names; things = t.things; kept = t.kept; modules = t.modules; machines = t.machines; domains = t.domains; additions = t.additions; clock_domains = t.clock_domains; memories = t.memories; registers = t.registers; wrappings = t.wrappings; waits = t.waits; components = record { names = t.components.names; ends = t.components.ends; objects = t.components.objects } }

abbrev chosen : Bool → ObjId → List NamedMember → Held → Answered
chosen b o ms h = if b then record { answer = answer.Bind []; held = signed_by o ms h } else refused Raised h

tested_sound : (o : ObjId) (ms : List NamedMember) (h : Held) (b : Bool) → are_members ms ≡ b → IsSound h → IsSound (chosen b o ms h).held
tested_sound o ms h true e s = signed_sound o ms h s (are_members_named ms e)
tested_sound o ms h false e s = s

given_sound : (o : ObjId) (ms : Option (List NamedMember)) (h : Held) → IsSound h → IsSound (signed_given o ms h).held
given_sound o None h s = s
given_sound o (Some ms) h s = tested_sound o ms h (are_members ms) refl s

own_init_sound : (s : Seen) (o : ObjId) (vs : List Val) (names : List (List ℕ)) (h : Held) → IsSound h → IsSound (signature_init s o vs names h).held
own_init_sound s o (v ∷ []) [] h t = given_sound o (members_of_dict s h.store v) h t
own_init_sound s o [] names h t = t
own_init_sound s o (v ∷ []) (n ∷ ns) h t = t
own_init_sound s o (v ∷ w ∷ vs) names h t = t

pub any_init_sound : (s : Seen) (vals : List Val) (names : List (List ℕ)) (h : Held) → IsSound (init_answered s vals names h).held → IsSound h → IsSound (any_init_answered s vals names h).held
any_init_sound s (val.Object o ∷ vs) names h other t = if_sound (is_signature_root h (class_root s (first_or val.None (row_at s o.0)))) _ _ (own_init_sound s o vs names h t) other
any_init_sound s vals names h other t = other

-- ---- attributes

signed_attribute_sound : (o : Option ℕ) (name : List ℕ) (h : Held) → IsSound h → IsSound (signed_attribute o name h).held
signed_attribute_sound None name h s = s
signed_attribute_sound (Some n) name h s = attribute_sound n name h s

pub object_attribute_sound : (o : ObjId) (name : List ℕ) (h : Held) → IsSound h → IsSound (object_attribute o name h).held
object_attribute_sound o name h s = signed_attribute_sound (signed_at h.store.components.signed o.0) name h s
