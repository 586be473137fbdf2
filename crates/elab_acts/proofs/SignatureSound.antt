-- What is held stays sound where signatures are made, turned and made interfaces of.
use Rattle.std.proofs.Common.{◌≡◌, ℕ, zero, suc, ◌<◌, refl, subst, not, Bool, true, false, cond, List, [], ◌∷◌, map, length, Option, Some, None, Result, Ok, Err}
use Rattle.std.specs.Prelude.{slice_get, codes}
use Rattle.std.specs.List.{AllByRecursion}
use Rattle.std.proofs.lemmas.Option.{slice_get_within}
use Rattle.lists.specs.Texts.{text_eq}
use Rattle.lists.specs.Names.{IsName}
use Rattle.identifiers.specs.Identifiers.{is_identifier}
use Rattle.identifiers.proofs.Computing.{identifiers}
use Rattle.identifiers.proofs.NameLaws.{identifier_is_name}
use Rattle.py_values.specs.declared.val.Val.{Val}
use Rattle.py_heap.specs.Heaps.{Seen}
use Rattle.py_frames.specs.declared.request.Cause.{Cause}
use Rattle.py_frames.specs.declared.request.Cause.TheVariants.{Raised}
use Rattle.elab_store.specs.declared.faces.Face.{Face}
use Rattle.elab_store.specs.declared.kept.Kept.TheVariants as kept
use Rattle.elab_store.specs.declared.kept.SignatureMethod.{SignatureMethod}
use Rattle.elab_store.specs.declared.kept.SignatureMethod.TheVariants as method
use Rattle.elab_store.specs.declared.leaves.Leaf.{Leaf}
use Rattle.elab_store.specs.declared.members.NamedMember.{NamedMember}
use Rattle.elab_store.specs.declared.shapes.Shaped.{Shaped}
use Rattle.elab_store.specs.Calls.{Called}
use Rattle.elab_store.specs.Components.{turned_members}
use Rattle.elab_store.specs.Leaves.{Signatures, leaves}
use Rattle.elab_store.specs.Shapes.{shaped_meant}
use Rattle.elab_store.specs.Stores.{Held, Answered, refused, kept_given}
use Rattle.elab_store.specs.Sound.{IsSound}
use Rattle.elab_components.specs.Signals.{without_arguments, call_name, formed}
use Rattle.elab_components.specs.Faces.{signing, face_made}
use Rattle.elab_components.specs.Interfaces.{are_members}
use Rattle.elab_components.specs.Signatures.{signature_kept, signature_from, members_of_dict, signature_placed, signature_called, signature_attribute, signature_turned, face_given, interface_created, method_called, signature_method_called, stream_members, stream_shaped, stream_placed, stream_signature_called}
use Rattle.elab_acts.proofs.ComponentSound.{are_members_named, IsMadeOr, face_sound}
use Rattle.elab_acts.proofs.FaceSound.{name_is_prefix, signing_sound}
use Rattle.elab_acts.proofs.GrownLaws.{keeping_sound}

-- ---- a signature

kept_sound : (ms : List NamedMember) (h : Held) → IsSound h → AllByRecursion (λ (m : NamedMember). IsName m.name) ms → IsSound (signature_kept ms h).held
kept_sound ms h s named = keeping_sound (signing ms h) (kept.Signature (length h.store.components.signatures)) (signing_sound ms h s named) tt

tested_sound : (ms : List NamedMember) (h : Held) (b : Bool) → are_members ms ≡ b → IsSound h → IsSound (cond b (signature_kept ms h) (refused Raised h)).held
tested_sound ms h true e s = kept_sound ms h s (are_members_named ms e)
tested_sound ms h false e s = s

from_sound : (ms : Option (List NamedMember)) (h : Held) → IsSound h → IsSound (signature_from ms h).held
from_sound None h s = s
from_sound (Some ms) h s = tested_sound ms h (are_members ms) refl s

placed_sound : (s : Seen) (vs : List Val) (names : List (List ℕ)) (h : Held) → IsSound h → IsSound (signature_placed s vs names h).held
placed_sound s [] names h t = t
placed_sound s (v ∷ []) [] h t = from_sound (members_of_dict s h.store v) h t
placed_sound s (v ∷ []) (n ∷ ns) h t = t
placed_sound s (v ∷ w ∷ vs) names h t = t

pub call_sound : (s : Seen) (c : Called) (h : Held) → IsSound h → IsSound (signature_called s c h).held
call_sound s c h t = placed_sound s c.placed c.keywords h t

-- ---- its methods

pub attribute_sound : (n : ℕ) (name : List ℕ) (h : Held) → IsSound h → IsSound (signature_attribute n name h).held
attribute_sound n name h s = by_test (text_eq name (codes "flip")) (text_eq name (codes "create"))
  where
    by_test : (a b : Bool) → IsSound (cond a (kept_given (kept.OfSignature n method.Flip) h) (cond b (kept_given (kept.OfSignature n method.Create) h) (refused Raised h))).held
    by_test true b = keeping_sound h (kept.OfSignature n method.Flip) s tt
    by_test false true = keeping_sound h (kept.OfSignature n method.Create) s tt
    by_test false false = s

-- the members turned have the same names
turned_named : (ms : List NamedMember) → AllByRecursion (λ (m : NamedMember). IsName m.name) ms → AllByRecursion (λ (m : NamedMember). IsName m.name) (turned_members ms)
turned_named [] h = tt
turned_named (m ∷ ms) h = (h.0, turned_named ms h.1)

members_at : (sigs : Signatures) (n : ℕ) (ms : List NamedMember) → AllByRecursion (λ (xs : List NamedMember). AllByRecursion (λ (m : NamedMember). IsName m.name) xs) sigs → slice_get sigs n ≡ Some ms → AllByRecursion (λ (m : NamedMember). IsName m.name) ms
members_at [] n ms h e = absurd cc
members_at (xs ∷ sigs) zero ms h e = let same : xs ≡ ms = cc in subst (AllByRecursion (λ (m : NamedMember). IsName m.name)) same h.0
members_at (xs ∷ sigs) (suc n) ms h e = members_at sigs n ms h.1 e

turned_sound : (o : Option (List NamedMember)) (h : Held) → IsSound h → ((ms : List NamedMember) → o ≡ Some ms → AllByRecursion (λ (m : NamedMember). IsName m.name) ms) → IsSound (signature_turned o h).held
turned_sound None h s f = s
turned_sound (Some ms) h s f = kept_sound (turned_members ms) h s (turned_named ms (f ms refl))

given_sound : (k : ℕ) (ls : List Leaf) (x : Option Face × Held) → IsMadeOr k ls x → IsSound (face_given x).held
given_sound k ls (None, h) s = s
given_sound k ls (Some f, h) s = keeping_sound h (kept.Interface f) s.sound s.face

created_sound : (o : Option (List NamedMember)) (name : Option (List ℕ)) (n : ℕ) (h : Held) → IsSound h → ((ms : List NamedMember) → o ≡ Some ms → n < length h.store.components.signatures) → ((x : List ℕ) → name ≡ Some x → IsName x)
    → IsSound (interface_created o name n h).held
created_sound None name n h s f g = s
created_sound (Some ms) None n h s f g = s
created_sound (Some ms) (Some name) n h s f g =
    given_sound (length h.pool.signals) (leaves h.store.components.signatures false name n) (face_made n name h) (face_sound n name h s (name_is_prefix name (g name refl)) (f ms refl))

formed_name : (name : List ℕ) (x : List ℕ) → formed name ≡ Some x → IsName x
formed_name name x e = by_test (is_identifier name) refl e
  where
    by_test : (b : Bool) → is_identifier name ≡ b → cond b (Some name) None ≡ Some x → IsName x
    by_test true is e = let same : name ≡ x = cc in subst IsName same (identifier_is_name name is)
    by_test false is e = absurd cc

method_sound : (m : SignatureMethod) (name : List ℕ) (n : ℕ) (h : Held) → IsSound h → IsSound (method_called m name n h).held
method_sound method.Flip name n h s = turned_sound (slice_get h.store.components.signatures n) h s (λ ms e. members_at h.store.components.signatures n ms s.components.names e)
method_sound method.Create name n h s =
    created_sound (slice_get h.store.components.signatures n) (formed (call_name name)) n h s (λ ms e. slice_get_within h.store.components.signatures n ms e) (λ x e. formed_name (call_name name) x e)

without_sound : (vs : List Val) (names : List (List ℕ)) (a : Answered) (h : Held) → IsSound a.held → IsSound h → IsSound (without_arguments vs names a h).held
without_sound [] [] a h t s = t
without_sound [] (n ∷ ns) a h t s = s
without_sound (v ∷ vs) names a h t s = s

pub method_called_sound : (n : ℕ) (m : SignatureMethod) (c : Called) (h : Held) → IsSound h → IsSound (signature_method_called n m c h).held
method_called_sound n m c h s = without_sound c.placed c.keywords (method_called m c.name n h) h (method_sound m c.name n h s) s

-- ---- streams

stream_named : (x : Shaped) → AllByRecursion (λ (m : NamedMember). IsName m.name) (stream_members x)
unfolding identifiers
stream_named x = (identifier_is_name (codes "payload") refl, (identifier_is_name (codes "valid") refl, (identifier_is_name (codes "ready") refl, tt)))

shaped_sound : (r : Result Shaped Cause) (h : Held) → IsSound h → IsSound (stream_shaped r h).held
shaped_sound (Ok x) h s = kept_sound (stream_members x) h s (stream_named x)
shaped_sound (Err why) h s = s

stream_placed_sound : (s : Seen) (vs : List Val) (names : List (List ℕ)) (h : Held) → IsSound h → IsSound (stream_placed s vs names h).held
stream_placed_sound s [] names h t = t
stream_placed_sound s (v ∷ []) [] h t = shaped_sound (shaped_meant s h.store.things v) h t
stream_placed_sound s (v ∷ []) (n ∷ ns) h t = t
stream_placed_sound s (v ∷ w ∷ vs) names h t = t

pub stream_sound : (s : Seen) (c : Called) (h : Held) → IsSound h → IsSound (stream_signature_called s c h).held
stream_sound s c h t = stream_placed_sound s c.placed c.keywords h t
