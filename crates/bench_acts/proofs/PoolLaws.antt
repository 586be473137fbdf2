-- What is read of hardware leaves the pool as it is: names that are imported, attributes, and indices.
use Rattle.std.proofs.Common.{◌≡◌, refl, ◌∙◌, ℕ, Bool, true, false, List, [], ◌∷◌, ◌++◌, Option, Some, None}
use Rattle.std.specs.Prelude.{if◌then◌else◌, slice_get, codes}
use Rattle.lists.specs.Texts.{text_eq}
use Rattle.identifiers.specs.Identifiers.{is_identifier}
use Rattle.py_values.specs.declared.val.Val.{Val}
use Rattle.py_values.specs.declared.val.Val.TheVariants as val
use Rattle.py_heap.specs.Heaps.{Seen}
use Rattle.py_frames.specs.declared.request.NamedVal.{NamedVal}
use Rattle.py_frames.specs.declared.request.Answer.{Answer}
use Rattle.py_frames.specs.declared.request.Answer.TheVariants as answer
use Rattle.py_frames.specs.declared.request.Act.{Act}
use Rattle.py_frames.specs.declared.request.Act.TheVariants as act
use Rattle.py_frames.specs.declared.request.Request.{Request}
use Rattle.design_ir.specs.declared.ids.ExprId.{ExprId}
use Rattle.amh_things.specs.declared.thing.ThingName.{ThingName}
use Rattle.amh_things.specs.Things.{name_called, base_called, layout_named}
use Rattle.elab_store.specs.declared.kept.HdlName.{HdlName}
use Rattle.elab_store.specs.declared.kept.HdlName.TheVariants as hdl
use Rattle.elab_store.specs.declared.kept.Kept.{Kept}
use Rattle.elab_store.specs.declared.kept.Kept.TheVariants as kept
use Rattle.elab_store.specs.declared.kept.BlockName.{BlockName}
use Rattle.elab_store.specs.declared.kept.MachinePart.{MachinePart}
use Rattle.elab_store.specs.declared.kept.MachinePart.TheVariants as machine
use Rattle.elab_store.specs.declared.kept.SimulatorPart.{SimulatorPart}
use Rattle.elab_store.specs.declared.kept.SimulatorPart.TheVariants as simulator
use Rattle.elab_store.specs.declared.kept.MemoryPort.{MemoryPort}
use Rattle.elab_store.specs.declared.domains.ClockDomain.{ClockDomain}
use Rattle.elab_store.specs.declared.wrappings.Wrapped.{Wrapped}
use Rattle.elab_store.specs.declared.faces.Face.{Face}
use Rattle.elab_store.specs.declared.faces.FaceMember.{FaceMember}
use Rattle.elab_store.specs.declared.faces.FaceMember.TheVariants as face
use Rattle.elab_store.specs.declared.faces.End.{End}
use Rattle.elab_store.specs.declared.members.NamedMember.{NamedMember}
use Rattle.elab_store.specs.Stores.{Held, Answered, kept_of}
use Rattle.elab_store.specs.Components.{signed_at}
use Rattle.elab_store.specs.Faces.{face_member}
use Rattle.elab_store.specs.Hierarchies.{added_as}
use Rattle.elab_components.specs.Imports.{is_hdl, is_utils, own_named, star_names, is_sim, sim_named, sim_imported, hdl_thing, hdl_imported, bound_answer, all_bound, imported, import_answered}
use Rattle.elab_components.specs.Libraries.{library_given, thing_name_given, library_named, is_enum, is_data, wiring_named, stream_named, memory_named}
use Rattle.elab_components.specs.Likes.{like_given}
use Rattle.elab_components.specs.Signatures.{signature_attribute, signature_turned}
use Rattle.elab_wiring.specs.Interfaces.{interface_attribute, signature_given, member_given, end_given}
use Rattle.elab_wiring.specs.SignatureClasses.{signed_attribute, object_attribute}
use Rattle.elab_machines.specs.StateMachines.{part_named, part_attribute}
use Rattle.elab_memories.specs.Attributes.{memory_attribute, enable_given, port_attribute}
use Rattle.elab_acts.specs.Blocks.{block_named, block_name_given}
use Rattle.elab_acts.specs.Sides.{part_given, module_attribute, domain_given, index_name}
use Rattle.elab_acts.specs.ClockDomains.{own_attribute, clock_domain_attribute}
use Rattle.elab_acts.specs.Submodules.{found_given, submodule_given}
use Rattle.elab_acts.specs.Wrappers.{within_asked, wrapped_attribute}
use Rattle.elab_acts.specs.Simulators.{call_named, simulator_part_given, simulator_attribute}
use Rattle.elab_eval.specs.Table.{only, name_attribute, attribute_of, attribute_by, attribute_answered, index_of, index_answered, own_answered}
use Rattle.bench_acts.specs.Serving.{is_read}

abbrev HasPool : Held → Answered → Type 0
HasPool h a = a.held.pool ≡ h.pool

if_pool : (h : Held) (b : Bool) (x y : Answered) → HasPool h x → HasPool h y → HasPool h (if b then x else y)
if_pool h true x y f g = f
if_pool h false x y f g = g

-- ---- names

library_pool : (o : Option HdlName) (h : Held) → HasPool h (library_given o h)
library_pool None h = refl
library_pool (Some n) h = refl

thing_pool : (o : Option ThingName) (h : Held) → HasPool h (thing_name_given o h)
thing_pool None h = refl
thing_pool (Some n) h = refl

hdl_pool : (n : Option HdlName) (t : Option ThingName) (h : Held) → HasPool h (hdl_thing n t h)
hdl_pool (Some n) t h = refl
hdl_pool None (Some t) h = refl
hdl_pool None None h = refl

bound_pool : (h g : Held) (names : List NamedVal) (n : List ℕ) (rest : List NamedVal → Held → Answered) (a : Answer) → g.pool ≡ h.pool → ((more : List NamedVal) → HasPool h (rest more g)) → HasPool h (bound_answer names n g rest a)
bound_pool h g names n rest (answer.Give v) s f = f (names ++ record { name = n; val = v } ∷ [])
bound_pool h g names n rest answer.Begin s f = s
bound_pool h g names n rest (answer.GiveText t) s f = s
bound_pool h g names n rest (answer.GiveList t) s f = s
bound_pool h g names n rest (answer.Bind t) s f = s
bound_pool h g names n rest (answer.Call c t) s f = s
bound_pool h g names n rest (answer.Through t) s f = s
bound_pool h g names n rest (answer.Refuse t) s f = s

star_pool : (h g : Held) (names : List NamedVal) (ns : List (List ℕ)) → g.pool ≡ h.pool → HasPool h (all_bound names ns g)
star_pool h g names [] s = s
star_pool h g names (n ∷ ns) s =
    let next : (hdl_imported n g).held.pool ≡ h.pool = hdl_pool (own_named n) (name_called n) g ∙ s in
    bound_pool h (hdl_imported n g).held names n (λ more k. all_bound more ns k) (hdl_imported n g).answer next (λ more. star_pool h (hdl_imported n g).held more ns next)

imported_pool : (path name : List ℕ) (h : Held) → HasPool h (imported path name h)
imported_pool path name h =
    if_pool h (is_hdl path) _ _ (if_pool h (text_eq name (codes "*")) _ _ (star_pool h h [] star_names refl) (hdl_pool (own_named name) (name_called name) h))
    (if_pool h (is_utils path) _ _ (if_pool h (text_eq name (codes "ceil_log2")) _ _ refl (if_pool h (text_eq name (codes "bits_for")) _ _ refl refl))
    (if_pool h (is_enum path) _ _ (thing_pool (base_called name) h)
    (if_pool h (is_data path) _ _ (thing_pool (layout_named name) h)
    (if_pool h (is_sim path) _ _ (if_pool h (text_eq name (codes "*")) _ _ refl (library_pool (sim_named name) h)) (library_pool (library_named path name) h)))))

import_pool : (names : List (List ℕ)) (h : Held) → HasPool h (import_answered names h)
import_pool [] h = refl
import_pool (p ∷ []) h = refl
import_pool (p ∷ n ∷ []) h = imported_pool p n h
import_pool (p ∷ n ∷ m ∷ ns) h = refl

-- ---- attributes

name_pool : (n : HdlName) (name : List ℕ) (h : Held) → HasPool h (name_attribute n name h)
name_pool hdl.Wiring name h = library_pool (wiring_named name) h
name_pool hdl.Stream name h = library_pool (stream_named name) h
name_pool hdl.MemoryLibrary name h = library_pool (memory_named name) h
name_pool hdl.Enumerations name h = thing_pool (base_called name) h
name_pool hdl.Data name h = thing_pool (layout_named name) h
name_pool hdl.Signal name h = if_pool h (text_eq name (codes "like")) _ _ refl refl
name_pool n name h = refl

block_pool : (m : ℕ) (o : Option BlockName) (h : Held) → HasPool h (block_name_given m o h)
block_pool m None h = refl
block_pool m (Some n) h = refl

part_pool : (o : Option MachinePart) (x : Answered) (h : Held) → HasPool h x → HasPool h (part_given o x h)
part_pool None x h s = s
part_pool (Some p) x h s = refl

module_pool : (m : ℕ) (name : List ℕ) (h : Held) → HasPool h (module_attribute m name h)
module_pool m name h =
    if_pool h (text_eq name (codes "d")) _ _ refl
    (if_pool h (text_eq name (codes "submodules")) _ _ refl
    (if_pool h (text_eq name (codes "domains")) _ _ refl (part_pool (part_named m name) (block_name_given m (block_named name) h) h (block_pool m (block_named name) h))))

domain_pool : (m : ℕ) (o : Option (List ℕ)) (h : Held) → HasPool h (domain_given m o h)
domain_pool m None h = refl
domain_pool m (Some n) h = if_pool h (text_eq n (codes "comb")) _ _ refl (if_pool h (is_identifier n) _ _ refl refl)

found_pool : (o : Option Val) (h : Held) → HasPool h (found_given o h)
found_pool None h = refl
found_pool (Some v) h = refl

submodule_pool : (m : ℕ) (o : Option (List ℕ)) (h : Held) → HasPool h (submodule_given m o h)
submodule_pool m None h = refl
submodule_pool m (Some n) h = found_pool (added_as m n h.store.hierarchy) h

clock_pool : (o : Option ClockDomain) (name : List ℕ) (h : Held) → HasPool h (own_attribute o name h)
clock_pool None name h = refl
clock_pool (Some x) name h = if_pool h (text_eq name (codes "rst")) _ _ (found_pool x.reset h) (if_pool h (text_eq name (codes "name")) _ _ refl refl)

memory_pool : (k : ℕ) (name : List ℕ) (h : Held) → HasPool h (memory_attribute k name h)
memory_pool k name h = if_pool h (text_eq name (codes "write_port")) _ _ refl (if_pool h (text_eq name (codes "read_port")) _ _ refl refl)

enable_pool : (o : Option ExprId) (h : Held) → HasPool h (enable_given o h)
enable_pool None h = refl
enable_pool (Some e) h = refl

port_pool : (p : MemoryPort) (name : List ℕ) (h : Held) → HasPool h (port_attribute p name h)
port_pool p name h = if_pool h (text_eq name (codes "addr")) _ _ refl (if_pool h (text_eq name (codes "data")) _ _ refl (if_pool h (text_eq name (codes "en")) _ _ (enable_pool p.enable h) refl))

wrapped_pool : (o : Option Wrapped) (h : Held) → HasPool h (within_asked o h)
wrapped_pool None h = refl
wrapped_pool (Some w) h = refl

machine_pool : (p : MachinePart) (name : List ℕ) (h : Held) → HasPool h (part_attribute p name h)
machine_pool (machine.Running k) name h = if_pool h (text_eq name (codes "ongoing")) _ _ refl refl
machine_pool p name h = refl

simulator_given_pool : (o : Option SimulatorPart) (h : Held) → HasPool h (simulator_part_given o h)
simulator_given_pool None h = refl
simulator_given_pool (Some x) h = refl

simulator_pool : (x : SimulatorPart) (name : List ℕ) (h : Held) → HasPool h (simulator_attribute x name h)
simulator_pool simulator.Whole name h = simulator_given_pool (call_named name) h
simulator_pool x name h = refl

signature_pool : (n : ℕ) (name : List ℕ) (h : Held) → HasPool h (signature_attribute n name h)
signature_pool n name h = if_pool h (text_eq name (codes "flip")) _ _ refl (if_pool h (text_eq name (codes "create")) _ _ refl refl)

turned_pool : (o : Option (List NamedMember)) (h : Held) → HasPool h (signature_turned o h)
turned_pool None h = refl
turned_pool (Some ms) h = refl

end_pool : (o : Option End) (h : Held) → HasPool h (end_given o h)
end_pool None h = refl
end_pool (Some e) h = refl

member_pool : (o : Option FaceMember) (h : Held) → HasPool h (member_given o h)
member_pool None h = refl
member_pool (Some (face.Port k)) h = end_pool (slice_get h.store.components.ends k) h
member_pool (Some (face.Nested f)) h = refl

interface_pool : (f : Face) (name : List ℕ) (h : Held) → HasPool h (interface_attribute f name h)
interface_pool f name h =
    if_pool h (text_eq name (codes "signature")) _ _ (if_pool h f.turned _ _ (turned_pool (slice_get h.store.components.signatures f.signature) h) refl)
    (member_pool (face_member h.store.components.signatures f name) h)

attribute_pool : (o : Option Kept) (name : List ℕ) (h : Held) → HasPool h (attribute_of o name h)
attribute_pool (Some (kept.Name n)) name h = name_pool n name h
attribute_pool (Some (kept.Module m)) name h = module_pool m name h
attribute_pool (Some (kept.Domains m)) name h = domain_pool m (Some name) h
attribute_pool (Some (kept.Submodules m)) name h = submodule_pool m (Some name) h
attribute_pool (Some (kept.ClockDomain k)) name h = clock_pool (slice_get h.store.clock_domains.made k) name h
attribute_pool (Some (kept.Memory k)) name h = memory_pool k name h
attribute_pool (Some (kept.MemoryPort x)) name h = port_pool x name h
attribute_pool (Some (kept.Wrapped k)) name h = wrapped_pool (slice_get h.store.wrapped k) h
attribute_pool (Some (kept.OfMachine x)) name h = machine_pool x name h
attribute_pool (Some (kept.OfSimulator x)) name h = simulator_pool x name h
attribute_pool (Some (kept.Signature n)) name h = signature_pool n name h
attribute_pool (Some (kept.Interface f)) name h = interface_pool f name h
attribute_pool k name h = refl

signed_pool : (o : Option ℕ) (name : List ℕ) (h : Held) → HasPool h (signed_attribute o name h)
signed_pool None name h = refl
signed_pool (Some n) name h = signature_pool n name h

by_pool : (v : Val) (name : List ℕ) (h : Held) → HasPool h (attribute_by v name h)
by_pool (val.Object o) name h = signed_pool (signed_at h.store.components.signed o.0) name h
by_pool v name h = attribute_pool (kept_of h.store v) name h

attributes_pool : (vs : List Val) (name : Option (List ℕ)) (h : Held) → HasPool h (attribute_answered vs name h)
attributes_pool (x ∷ []) (Some name) h = by_pool x name h
attributes_pool [] name h = refl
attributes_pool (x ∷ []) None h = refl
attributes_pool (x ∷ y ∷ vs) name h = refl

-- ---- indices

index_pool : (s : Seen) (o : Option Kept) (i : Val) (h : Held) → HasPool h (index_of s o i h)
index_pool s (Some (kept.Domains m)) i h = domain_pool m (index_name s i) h
index_pool s (Some (kept.Submodules m)) i h = submodule_pool m (index_name s i) h
index_pool s k i h = refl

indices_pool : (s : Seen) (vs : List Val) (h : Held) → HasPool h (index_answered s vs h)
indices_pool s [] h = refl
indices_pool s (x ∷ []) h = refl
indices_pool s (x ∷ i ∷ []) h = index_pool s (kept_of h.store x) i h
indices_pool s (x ∷ i ∷ j ∷ vs) h = refl

-- ---- all that is read

pub read_pool : (top : Option (List ℕ)) (s : Seen) (a : Act) (r : Request) (h : Held) → is_read a ≡ true → (own_answered top s a r h).held.pool ≡ h.pool
read_pool top s act.Import r h is = import_pool r.names h
read_pool top s act.Attribute r h is = attributes_pool r.vals (only r.names) h
read_pool top s act.Index r h is = indices_pool s r.vals h
read_pool top s a r h is = absurd cc
