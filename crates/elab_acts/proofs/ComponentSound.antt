-- What is held stays sound where components are made.
use Rattle.std.proofs.Common.{◌≡◌, ℕ, suc, ◌<◌, nat_le, sym, subst, [], refl, Bool, true, false, cond, not, List, ◌∷◌, ◌++◌, length, Option, Some, None, Ok, Err, Result, arith}
use Rattle.std.specs.List.{AllByRecursion, list_any, IsDistinct}
use Rattle.std.proofs.lemmas.List.{length-append}
use Rattle.lists.specs.Names.{IsName}
use Rattle.lists.specs.Texts.{text_eq}
use Rattle.py_values.specs.declared.val.Val.{Val}
use Rattle.py_values.specs.declared.val.Val.TheVariants as val
use Rattle.py_values.specs.declared.val.ObjId.{ObjId}
use Rattle.py_heap.specs.Heaps.{Seen, row_at}
use Rattle.py_heap.specs.Objects.{first_in}
use Rattle.py_frames.specs.declared.request.Cause.{Cause}
use Rattle.py_frames.specs.declared.request.Cause.TheVariants.{Raised}
use Rattle.py_frames.specs.declared.request.NamedVal.{NamedVal}
use Rattle.design_ir.specs.declared.port.Port.{Port}
use Rattle.design_ir.specs.Pools.{Pooled}
use Rattle.clock_domains.specs.Resolvable.{ArePorts}
use Rattle.amh_things.specs.declared.thing.Thing.TheVariants as thing
use Rattle.elab_store.specs.declared.shapes.Shaped.{Shaped}
use Rattle.elab_store.specs.declared.kept.HdlName.{HdlName}
use Rattle.elab_store.specs.declared.kept.Kept.TheVariants as kept
use Rattle.elab_store.specs.declared.members.NamedMember.{NamedMember}
use Rattle.identifiers.specs.Identifiers.{is_identifier}
use Rattle.identifiers.proofs.NameLaws.{identifier_is_name}
use Rattle.elab_store.specs.Calls.{Called, first_or, behind_first}
use Rattle.elab_store.specs.declared.faces.Face.{Face}
use Rattle.elab_store.specs.declared.leaves.Leaf.{Leaf}
use Rattle.elab_store.specs.Components.{Components}
use Rattle.elab_store.specs.Leaves.{leaves, leaf_count}
use Rattle.elab_store.specs.Faces.{IsFace, face_members}
use Rattle.elab_store.specs.Stores.{Held, refused, signature_of}
use Rattle.elab_components.specs.Libraries.{library_given}
use Rattle.elab_components.specs.Members.{member_shaped, member_said, nested_said, member_meant, member_placed, member_called}
use Rattle.elab_components.specs.ComponentClasses.{component_made, component_base, annotated, class_over, class_answered}
use Rattle.elab_components.specs.Classes.{class_made, base_called}
use Rattle.elab_components.specs.Faces.{leaf_ports, signing, leaves_made, face_behind, face_made}
use Rattle.elab_components.specs.Interfaces.{are_named, are_members, names_bound, interface_bound, interface_of, ports_of, interface_made, interface_given, members_given, component_called, component_class, init_as, init_of, init_answered, signature_name}
use Rattle.elab_components.proofs.FaceLaws.{face_stands, with_held}
use Rattle.elab_store.specs.Sound.{IsObject, IsOwnData, IsOwnMemory, IsSound}
use Rattle.elab_store.specs.declared.memories.OwnMemory.{OwnMemory}
use Rattle.elab_store.specs.declared.domains.ClockDomain.{ClockDomain}
use Rattle.elab_store.specs.declared.faces.ComponentObject.{ComponentObject}
use Rattle.elab_store.proofs.MemoryLaws.{HasFreeData, all_both}
use Rattle.design_ir.specs.declared.memory.MemRead.{MemRead}
use Rattle.design_ir.specs.Circuits.{is_among}
use Rattle.std.specs.BTreeMap.{insert_entry}
use Rattle.std.specs.Ordering.{nat_cmp}
use Rattle.std.specs.Prelude.{map}
use Rattle.elab_acts.proofs.FaceSound.{IsPrefix, leaves_named, leaves_sound, signing_sound, IsBound, names_sound, face_parts_sound, leaves_free}
use Rattle.elab_acts.proofs.GrownLaws.{IsKeptIn, all_and, keeping_sound}
use Rattle.elab_acts.proofs.PortLaws.{and_split, all_put}

-- ---- names and members

pub library_sound : (n : Option HdlName) (h : Held) → IsSound h → IsSound (library_given n h).held
library_sound (Some n) h s = keeping_sound h (kept.Name n) s tt
library_sound None h s = s

shaped_sound : (is_out : Bool) (n : _) (f : Result Shaped Cause) (h : Held) → IsSound h → IsSound (member_shaped is_out n f h).held
shaped_sound is_out n (Ok x) h s = keeping_sound h (kept.Port is_out x n) s tt
shaped_sound is_out n (Err why) h s = s

said_sound : (is_out : Bool) (n : _) (f : Result Shaped Cause) (h : Held) → IsSound h → IsSound (member_said is_out n f h).held
said_sound is_out (Some n) f h s = shaped_sound is_out n f h s
said_sound is_out None f h s = s

nested_sound : (is_out : Bool) (n : ℕ) (b : Bool) (h : Held) → IsSound h → IsSound (nested_said is_out n b h).held
nested_sound is_out n true h s = keeping_sound h (kept.Nested is_out n) s tt
nested_sound is_out n false h s = s

meant_sound : (s : Seen) (is_out : Bool) (o : Option ℕ) (v : Val) (names : List (List ℕ)) (vals : List Val) (h : Held) → IsSound h → IsSound (member_meant s is_out o v names vals h).held
meant_sound s is_out (Some n) v names vals h t = nested_sound is_out n _ h t
meant_sound s is_out None v names vals h t = said_sound is_out _ _ h t

placed_sound : (s : Seen) (is_out : Bool) (vs : List Val) (names : List (List ℕ)) (vals : List Val) (h : Held) → IsSound h → IsSound (member_placed s is_out vs names vals h).held
placed_sound s is_out [] names vals h t = t
placed_sound s is_out (v ∷ []) names vals h t = meant_sound s is_out (signature_of h.store v) v names vals h t
placed_sound s is_out (v ∷ w ∷ vs) names vals h t = t

pub member_sound : (s : Seen) (is_out : Bool) (c : Called) (h : Held) → IsSound h → IsSound (member_called s is_out c h).held
member_sound s is_out c h t = placed_sound s is_out c.placed c.keywords c.keyword_vals h t

-- ---- classes: no act on one changes what is kept of pools, things or modules

made_sound : (class : Val) (base : Option ObjId) (ms : Option (List NamedMember)) (h : Held) → IsSound h → IsSound (component_made class base ms h).held
made_sound (val.Class c) base (Some ms) h s = record { names = s.names; things = s.things; kept = s.kept; modules = s.modules; components = record { names = s.components.names; ends = s.components.ends; objects = s.components.objects }; machines = s.machines; domains = s.domains; additions = s.additions; clock_domains = s.clock_domains; memories = s.memories; registers = s.registers; wrappings = s.wrappings; waits = s.waits }
made_sound (val.Class c) base None h s = s
made_sound val.None base ms h s = s
made_sound (val.Bool b) base ms h s = s
made_sound (val.Int n) base ms h s = s
made_sound (val.Str x) base ms h s = s
made_sound (val.Time t) base ms h s = s
made_sound (val.List o) base ms h s = s
made_sound (val.Tuple o) base ms h s = s
made_sound (val.Dict o) base ms h s = s
made_sound (val.Range o) base ms h s = s
made_sound (val.Func f) base ms h s = s
made_sound (val.Object o) base ms h s = s
made_sound (val.Hw x) base ms h s = s

over_sound : (o : Option (Option ObjId)) (class base : Val) (vs : List Val) (names : List (List ℕ)) (h : Held) → IsSound (class_made (class ∷ base ∷ vs) names h).held → IsSound h → IsSound (class_over o class base vs names h).held
over_sound (Some over) class base vs names h other s = made_sound class over (annotated h.store vs (behind_first names)) h s
over_sound None class base vs names h other s = other

-- the family of other classes keeps it too
pub class_sound : (vals : List Val) (names : List (List ℕ)) (h : Held) → IsSound (class_made vals names h).held → IsSound h → IsSound (class_answered vals names h).held
class_sound [] names h other s = other
class_sound (class ∷ []) names h other s = other
class_sound (class ∷ base ∷ vs) names h other s = over_sound (component_base h.store base) class base vs names h other s

-- ---- interfaces

-- each name is one
members_are_named : (before : List (List ℕ)) (ms : List NamedMember) → are_named before ms ≡ true → AllByRecursion (λ (m : NamedMember). IsName m.name) ms
members_are_named before [] e = tt
members_are_named before (m ∷ ms) e =
    let parts = and_split (is_identifier m.name) _ e in
    let rest = and_split (not (list_any (text_eq m.name) before)) (are_named (before ++ m.name ∷ []) ms) parts.1 in
    (identifier_is_name m.name parts.0, members_are_named (before ++ m.name ∷ []) ms rest.1)

pub are_members_named : (ms : List NamedMember) → are_members ms ≡ true → AllByRecursion (λ (m : NamedMember). IsName m.name) ms
are_members_named ms e = members_are_named (signature_name ∷ []) ms e

no_ports : (h : Held) → ArePorts h.pool []
unfolding IsDistinct
no_ports h = record { each = tt; distinct = tt }

-- an interface is made, and its ports
pub record IsFaceMade (k : ℕ) (ls : List Leaf) (f : Face) (h : Held) : Type 0 where
  pub sound : IsSound h
  pub face : IsFace h.store.components.signatures h.store.components.ends f
  pub ports : ArePorts h.pool (leaf_ports k ls)
  pub free : AllByRecursion (HasFreeData (leaf_ports k ls)) h.store.memories

abbrev pub IsMadeOr : ℕ → List Leaf → Option Face × Held → Type 0
IsMadeOr k ls (None, h) = IsSound h
IsMadeOr k ls (Some f, h) = IsFaceMade k ls f h

pub face_sound : (n : ℕ) (prefix : List ℕ) (h : Held) → IsSound h → IsPrefix prefix → n < length h.store.components.signatures
    → IsMadeOr (length h.pool.signals) (leaves h.store.components.signatures false prefix n) (face_made n prefix h)
face_sound n prefix h s p there = by_face (face_made n prefix h) refl
  where
    ls : List Leaf
    ls = leaves h.store.components.signatures false prefix n

    made : (IsSound (leaves_made ls h).1) × ((leaves_made ls h).0 ≡ true → ArePorts (leaves_made ls h).1.pool ([] ++ leaf_ports (length h.pool.signals) ls))
    made = leaves_sound ls h [] s (leaves_named (suc n) h.store.components.signatures s.components.names false prefix n p) (no_ports h)

    by_behind : (x : Bool × Held) → IsSound x.1 → (x.0 ≡ true → ArePorts x.1.pool (leaf_ports (length h.pool.signals) ls)) → AllByRecursion (HasFreeData (leaf_ports (length h.pool.signals) ls)) x.1.store.memories → (y : Option Face × Held) → y ≡ face_behind n h x → ((f : Face) (g : Held) → y ≡ with_held (Some f) g → IsFace g.store.components.signatures g.store.components.ends f)
        → IsMadeOr (length h.pool.signals) ls y
    by_behind (true, g) t ports free y e stands =
        subst (IsMadeOr (length h.pool.signals) ls) (sym e) (record { sound = t; face = stands (record { signature = n; turned = false; first = length h.store.components.ends }) g e; ports = ports refl; free = free })
    by_behind (false, g) t ports free y e stands = subst (IsMadeOr (length h.pool.signals) ls) (sym e) t

    by_count : (b : Bool) (y : Option Face × Held) → y ≡ cond b (face_behind n h (leaves_made ls h)) (None, h) → ((f : Face) (g : Held) → y ≡ with_held (Some f) g → IsFace g.store.components.signatures g.store.components.ends f)
        → IsMadeOr (length h.pool.signals) ls y
    by_count true y e stands = by_behind (leaves_made ls h) made.0 made.1 (leaves_free ls h s) y e stands
    by_count false y e stands = subst (IsMadeOr (length h.pool.signals) ls) (sym e) s

    by_face : (y : Option Face × Held) → y ≡ face_made n prefix h → IsMadeOr (length h.pool.signals) ls (face_made n prefix h)
    by_face y e = by_count (nat_le (leaf_count h.store.components.signatures n) 16384) (face_made n prefix h) refl (λ f g is. face_stands n prefix h g f (sym is) there)

-- a memory keeps its data where an object has such ports
memory_bound : (q : Pooled) (made : List ClockDomain) (objects : List (ℕ × ComponentObject)) (o : ℕ) (c : ComponentObject) (x : OwnMemory) → IsOwnMemory q made objects x → HasFreeData c.ports x → IsOwnMemory q made (insert_entry nat_cmp objects o c) x
memory_bound q made objects o c x h free = record {
  spec = h.spec;
  ports = h.ports;
  write_names = h.write_names;
  read_names = h.read_names;
  own_data = all_both (IsOwnData made objects) (λ (r : MemRead). is_among (map (λ (p : Port). p.sig.0) c.ports) r.word.0 ≡ false) (IsOwnData made (insert_entry nat_cmp objects o c)) x.spec.reads
      (λ r own no. record { clocks = own.clocks; ports = all_put (λ (y : ComponentObject). is_among (map (λ (p : Port). p.sig.0) y.ports) r.word.0 ≡ false) objects o c own.ports no }) h.own_data free;
}

-- the object gets them
bound_sound : (o : ObjId) (f : Face) (ports : List Port) (names : Option (List NamedVal)) (h : Held) → IsSound h → IsFace h.store.components.signatures h.store.components.ends f → ArePorts h.pool ports → AllByRecursion (HasFreeData ports) h.store.memories → IsSound (interface_bound o f ports (names, h)).held
bound_sound o f ports None h s face are free = s
bound_sound o f ports (Some names) h s face are free = record {
  names = s.names;
  things = all_and _ h.store.things (thing.Kept (length h.store.kept) ∷ []) s.things (tt, tt);
  kept = all_and (IsKeptIn h) h.store.kept (kept.Signature f.signature ∷ []) s.kept (tt, tt);
  modules = s.modules;
  machines = s.machines;
  domains = s.domains;
  additions = s.additions;
  clock_domains = s.clock_domains;
  memories = all_both (IsOwnMemory h.pool h.store.clock_domains.made h.store.components.objects) (HasFreeData ports) (IsOwnMemory h.pool h.store.clock_domains.made (insert_entry nat_cmp h.store.components.objects o.0 (record { face = f; ports = ports }))) h.store.memories
      (memory_bound h.pool h.store.clock_domains.made h.store.components.objects o.0 (record { face = f; ports = ports })) s.memories free;
  registers = s.registers;
  wrappings = s.wrappings;
  waits = s.waits;
  components = record {
    names = s.components.names;
    ends = s.components.ends;
    objects = all_put (IsObject h.pool h.store.components.signatures h.store.components.ends) h.store.components.objects o.0 (record { face = f; ports = ports }) s.components.objects (record { ports = are; face = face });
  };
}

names_bound_sound : (o : ObjId) (f : Face) (ports : List Port) (h : Held) (x : Option (List NamedVal) × Held) → IsBound h x.1 → IsFace h.store.components.signatures h.store.components.ends f → ArePorts h.pool ports → AllByRecursion (HasFreeData ports) h.store.memories → IsSound (interface_bound o f ports x).held
names_bound_sound o f ports h (names, g) b face are free =
    bound_sound o f ports names g b.sound (subst (λ (cs : Components). IsFace cs.signatures cs.ends f) (sym b.components) face) (subst (λ (q : Pooled). ArePorts q ports) (sym b.pool) are) (subst (AllByRecursion (HasFreeData ports)) (sym b.memories) free)

interface_sound : (o : ObjId) (ms : List NamedMember) (h : Held) → IsSound h → AllByRecursion (λ (m : NamedMember). IsName m.name) ms → IsSound (interface_made o ms h).held
interface_sound o ms h s named =
    let n = length h.store.components.signatures in
    by_face (face_made n [] (signing ms h)) (face_sound n [] (signing ms h) (signing_sound ms h s named) tt (omega (arith, length-append h.store.components.signatures (ms ∷ []))))
  where
    by_face : (x : Option Face × Held) → IsMadeOr (length h.pool.signals) (leaves (signing ms h).store.components.signatures false [] (length h.store.components.signatures)) x → IsSound (interface_of o ms (ports_of ms h) x).held
    by_face (None, g) t = t
    by_face (Some f, g) t =
        names_bound_sound o f (ports_of ms h) g (names_bound [] ms (face_members g.store.components.signatures f) g) (names_sound [] ms (face_members g.store.components.signatures f) g t.sound (face_parts_sound g.store.components.signatures g.store.components.ends f t.face)) t.face t.ports t.free

tested_sound : (o : ObjId) (ms : List NamedMember) (h : Held) (b : Bool) → are_members ms ≡ b → IsSound h → IsSound (cond b (interface_made o ms h) (refused Raised h)).held
tested_sound o ms h true e s = interface_sound o ms h s (are_members_named ms e)
tested_sound o ms h false e s = s

given_sound : (o : ObjId) (ms : Option (List NamedMember)) (h : Held) → IsSound h → IsSound (interface_given o ms h).held
given_sound o None h s = s
given_sound o (Some ms) h s = tested_sound o ms h (are_members ms) refl s

called_sound : (seen : Seen) (o : ObjId) (class : ℕ) (args : List Val) (names : List (List ℕ)) (h : Held) → IsSound h → IsSound (component_called seen o class args names h).held
called_sound seen o class args [] h s = given_sound o (members_given seen h.store class args) h s
called_sound seen o class args (n ∷ ns) h s = s

as_sound : (seen : Seen) (o : ObjId) (class : Option ℕ) (vals : List Val) (names : List (List ℕ)) (h : Held) → IsSound (base_called vals names h).held → IsSound h → IsSound (init_as seen o class vals names h).held
as_sound seen o (Some class) vals names h other s = called_sound seen o class (behind_first vals) names h s
as_sound seen o None vals names h other s = other

of_sound : (seen : Seen) (v : Val) (vals : List Val) (names : List (List ℕ)) (h : Held) → IsSound (base_called vals names h).held → IsSound h → IsSound (init_of seen v vals names h).held
of_sound seen (val.Object o) vals names h other s = as_sound seen o (component_class h.store (first_in (row_at seen o.0))) vals names h other s
of_sound seen val.None vals names h other s = other
of_sound seen (val.Bool b) vals names h other s = other
of_sound seen (val.Int n) vals names h other s = other
of_sound seen (val.Str x) vals names h other s = other
of_sound seen (val.Time t) vals names h other s = other
of_sound seen (val.List o) vals names h other s = other
of_sound seen (val.Tuple o) vals names h other s = other
of_sound seen (val.Dict o) vals names h other s = other
of_sound seen (val.Range o) vals names h other s = other
of_sound seen (val.Func f) vals names h other s = other
of_sound seen (val.Class o) vals names h other s = other
of_sound seen (val.Hw x) vals names h other s = other

-- the family of other objects keeps it too
pub init_sound : (seen : Seen) (vals : List Val) (names : List (List ℕ)) (h : Held) → IsSound (base_called vals names h).held → IsSound h → IsSound (init_answered seen vals names h).held
init_sound seen vals names h other s = of_sound seen (first_or val.None vals) vals names h other s
