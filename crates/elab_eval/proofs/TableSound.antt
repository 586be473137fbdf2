-- What is held stays sound by every answer of this crate.
use Rattle.std.proofs.Common.{◌≡◌, ℕ, ◌+◌, ◌<◌, refl, ap, sym, subst, true, false, List, [], ◌∷◌, length, Option, Some, None, true≢false, is_some}
use Rattle.std.specs.Prelude.{slice_get, codes}
use Rattle.lists.specs.Texts.{text_eq}
use Rattle.amh_host.specs.declared.place.Place.{Place}
use Rattle.py_values.specs.declared.val.Val.{Val}
use Rattle.py_values.specs.declared.val.Val.TheVariants as val
use Rattle.py_heap.specs.Heaps.{Seen}
use Rattle.py_frames.specs.declared.request.Act.{Act}
use Rattle.py_frames.specs.declared.request.Act.TheVariants as act
use Rattle.py_frames.specs.declared.request.Request.{Request}
use Rattle.design_ir.specs.declared.ids.ExprId.{ExprId}
use Rattle.design_ir.specs.PoolRules.{IsPool}
use Rattle.amh_things.specs.declared.thing.Thing.{Thing}
use Rattle.amh_things.specs.declared.thing.Thing.TheVariants as thing
use Rattle.amh_things.specs.declared.thing.Method.TheVariants as method
use Rattle.amh_things.specs.Held.{AreHeld}
use Rattle.amh_things.specs.Things.{thing_of, base_called as base_named, layout_named}
use Rattle.elab_store.specs.declared.kept.HdlName.{HdlName}
use Rattle.elab_store.specs.declared.kept.HdlName.TheVariants as hdl
use Rattle.elab_store.specs.declared.kept.Kept.{Kept}
use Rattle.elab_store.specs.declared.kept.Kept.TheVariants as kept_as
use Rattle.elab_store.specs.Stores.{Held, kept_of, side_of}
use Rattle.elab_store.specs.Calls.{Called, called}
use Rattle.elab_components.specs.Signals.{signal_arguments}
use Rattle.elab_acts.specs.Sides.{index_name, equations_in, deepest}
use Rattle.elab_acts.specs.Blocks.{block_named}
use Rattle.elab_eval.specs.Table.{placed_called, kept_called, equated_by, called_by, call_answered, attribute_of, attribute_by, attribute_answered, module_stored, attribute_stored, store_answered, index_of, index_answered, index_stored, index_store_answered, added, operator_answered, kept_entered, kept_left, enter_answered, leave_answered, own_answered, only}
use Rattle.elab_eval.specs.Table as table
use Rattle.elab_components.specs.Libraries.{wiring_named, stream_named, memory_named}
use Rattle.elab_eval.specs.Table.{name_attribute}
use Rattle.elab_components.specs.Likes.{like_arguments}
use Rattle.elab_acts.specs.ClockDomains.{domain_arguments}
use Rattle.elab_store.specs.Sound.{IsKept, IsSound}
use Rattle.elab_acts.proofs.SideLaws.{equations_stand, kept_stands}
use Rattle.elab_acts.proofs.GrownLaws.{keeping_sound}
use Rattle.elab_machines.specs.StateMachines.{part_named}
use Rattle.elab_acts.proofs.MachineSound as machine
use Rattle.elab_acts.proofs.ComponentSound as component
use Rattle.elab_acts.proofs.SubmoduleSound as submodule
use Rattle.elab_acts.proofs.DomainSound as clocked
use Rattle.elab_acts.proofs.ResetSound.{reset_sound}
use Rattle.elab_acts.proofs.SimulatorSound as simulator
use Rattle.elab_acts.proofs.SignatureSound as signed
use Rattle.elab_acts.proofs.MemorySound as memory
use Rattle.elab_acts.proofs.MemoryPortSound as port
use Rattle.elab_acts.proofs.WrapperCallSound as wrapper
use Rattle.elab_acts.proofs.WrapperSound as wrap
use Rattle.elab_wrappers.specs.declared.wrappers.Inserter.TheVariants.{Reset, Enable}
use Rattle.elab_wiring.proofs.InterfaceSound.{interface_attribute_sound, flipped_sound}
use Rattle.elab_wiring.proofs.ConnectSound.{connect_sound}
use Rattle.elab_wiring.proofs.SignatureClassSound.{any_class_sound, any_init_sound, object_attribute_sound}
use Rattle.elab_acts.proofs.SoundLaws.{if_sound, thing_name_sound, import_sound, module_sound, signal_sound, like_sound, thing_at, eq_sound, block_name_sound, block_call_sound, enter_sound, leave_sound, domain_sound, stored_sound, side_named, statements_sound, class_sound, base_sound, body_sound, end_sound}

-- ---- calls

-- the expression of a value whose `eq` is called
pub equated_there : (n : ℕ) (ts : List Thing) (v : Val) (e : ExprId) → AreHeld n ts → equated_by (thing_of ts v) ≡ Some e → e.0 < n
equated_there n ts (val.Hw h) e held is = by_thing (slice_get ts h.0) refl is
  where
    by_thing : (o : Option Thing) → slice_get ts h.0 ≡ o → equated_by o ≡ Some e → e.0 < n
    by_thing None at_h is = absurd (true≢false (ap is_some (sym is)))
    by_thing (Some (thing.Method x y method.Eq)) at_h is = let same : y ≡ e = cc in subst (λ (z : ExprId). z.0 < n) same (thing_at n ts h.0 (thing.Method x y method.Eq) held at_h)
    by_thing (Some t) at_h is = absurd (true≢false (ap is_some (sym is)))
equated_there n ts v e held is = absurd (true≢false (ap is_some (sym is)))

name_sound : (s : Seen) (n : HdlName) (c : Called) (h : Held) → IsPool h.pool → IsSound h → IsSound (table.name_called s n c h).held
name_sound s hdl.Module c h rules t = module_sound c h t
name_sound s hdl.Signal c h rules t = signal_sound s c.name (signal_arguments c) h t
name_sound s hdl.Like c h rules t = like_sound s c.name (like_arguments c) c.placed h t
name_sound s hdl.ClockDomain c h rules t = clocked.call_sound s c.name (domain_arguments c) h rules t
name_sound s hdl.ResetSignal c h rules t = t
name_sound s hdl.Elaboratable c h rules t = t
name_sound s hdl.Shape c h rules t = t
name_sound s hdl.Value c h rules t = t
name_sound s hdl.In c h rules t = component.member_sound s false c h t
name_sound s hdl.Out c h rules t = component.member_sound s true c h t
name_sound s hdl.Wiring c h rules t = t
name_sound s hdl.Enumerations c h rules t = t
name_sound s hdl.Data c h rules t = t
name_sound s hdl.Component c h rules t = t
name_sound s hdl.Signature c h rules t = signed.call_sound s c h t
name_sound s hdl.Connect c h rules t = t
name_sound s hdl.Flipped c h rules t = flipped_sound c h t
name_sound s hdl.Stream c h rules t = t
name_sound s hdl.StreamSignature c h rules t = signed.stream_sound s c h t
name_sound s hdl.Simulator c h rules t = simulator.called_sound c h t
name_sound s hdl.MemoryLibrary c h rules t = t
name_sound s hdl.Memory c h rules t = memory.memory_call_sound s c h t
name_sound s hdl.DomainRenamer c h rules t = wrapper.renamer_sound s c h t
name_sound s hdl.ResetInserter c h rules t = wrapper.inserter_sound s Reset c h t
name_sound s hdl.EnableInserter c h rules t = wrapper.inserter_sound s Enable c h t

placed_sound : (s : Seen) (n : HdlName) (c : Called) (p : Place) (h : Held) → IsPool h.pool → IsSound h → IsSound (placed_called s n c p h).held
placed_sound s hdl.Connect c p h rules t = connect_sound c p h t
placed_sound s hdl.ResetSignal c p h rules t = reset_sound s c p h t
placed_sound s hdl.Module c p h rules t = name_sound s hdl.Module c h rules t
placed_sound s hdl.Signal c p h rules t = name_sound s hdl.Signal c h rules t
placed_sound s hdl.Like c p h rules t = name_sound s hdl.Like c h rules t
placed_sound s hdl.Elaboratable c p h rules t = name_sound s hdl.Elaboratable c h rules t
placed_sound s hdl.Shape c p h rules t = name_sound s hdl.Shape c h rules t
placed_sound s hdl.Value c p h rules t = name_sound s hdl.Value c h rules t
placed_sound s hdl.Wiring c p h rules t = name_sound s hdl.Wiring c h rules t
placed_sound s hdl.Enumerations c p h rules t = name_sound s hdl.Enumerations c h rules t
placed_sound s hdl.Data c p h rules t = name_sound s hdl.Data c h rules t
placed_sound s hdl.In c p h rules t = name_sound s hdl.In c h rules t
placed_sound s hdl.Out c p h rules t = name_sound s hdl.Out c h rules t
placed_sound s hdl.Component c p h rules t = name_sound s hdl.Component c h rules t
placed_sound s hdl.ClockDomain c p h rules t = name_sound s hdl.ClockDomain c h rules t
placed_sound s hdl.Simulator c p h rules t = name_sound s hdl.Simulator c h rules t
placed_sound s hdl.MemoryLibrary c p h rules t = name_sound s hdl.MemoryLibrary c h rules t
placed_sound s hdl.Memory c p h rules t = name_sound s hdl.Memory c h rules t
placed_sound s hdl.DomainRenamer c p h rules t = name_sound s hdl.DomainRenamer c h rules t
placed_sound s hdl.ResetInserter c p h rules t = name_sound s hdl.ResetInserter c h rules t
placed_sound s hdl.EnableInserter c p h rules t = name_sound s hdl.EnableInserter c h rules t
placed_sound s hdl.Signature c p h rules t = name_sound s hdl.Signature c h rules t
placed_sound s hdl.Flipped c p h rules t = name_sound s hdl.Flipped c h rules t
placed_sound s hdl.Stream c p h rules t = name_sound s hdl.Stream c h rules t
placed_sound s hdl.StreamSignature c p h rules t = name_sound s hdl.StreamSignature c h rules t

own_call_sound : (s : Seen) (o : Option Kept) (c : Called) (p : Place) (h : Held) → IsPool h.pool → IsSound h → IsSound (kept_called s o c p h).held
own_call_sound s None c p h rules t = t
own_call_sound s (Some (kept_as.Name n)) c p h rules t = placed_sound s n c p h rules t
own_call_sound s (Some (kept_as.Module n)) c p h rules t = t
own_call_sound s (Some (kept_as.Domains n)) c p h rules t = t
own_call_sound s (Some (kept_as.Domain n d)) c p h rules t = t
own_call_sound s (Some (kept_as.Submodules n)) c p h rules t = t
own_call_sound s (Some (kept_as.Definitions n)) c p h rules t = t
own_call_sound s (Some (kept_as.ClockDomain n)) c p h rules t = t
own_call_sound s (Some (kept_as.Statement n)) c p h rules t = t
own_call_sound s (Some (kept_as.Port is_out shape init)) c p h rules t = t
own_call_sound s (Some (kept_as.Nested is_out m)) c p h rules t = t
own_call_sound s (Some (kept_as.Signature m)) c p h rules t = t
own_call_sound s (Some (kept_as.OfSignature m y)) c p h rules t = signed.method_called_sound m y c h t
own_call_sound s (Some (kept_as.Memory m)) c p h rules t = t
own_call_sound s (Some (kept_as.OfMemory m y)) c p h rules t = port.port_call_sound s m y c h t rules
own_call_sound s (Some (kept_as.Wrapping m)) c p h rules t = wrap.wrapping_called_sound s m c h t
own_call_sound s (Some (kept_as.Wrapped m)) c p h rules t = t
own_call_sound s (Some (kept_as.MemoryPort m)) c p h rules t = t
own_call_sound s (Some (kept_as.Interface m)) c p h rules t = t
own_call_sound s (Some (kept_as.BlockName m n)) c p h rules t = block_call_sound s m n c h t
own_call_sound s (Some (kept_as.Block m b)) c p h rules t = t
own_call_sound s (Some (kept_as.OfMachine x)) c p h rules t = machine.part_call_sound s x c p h t
own_call_sound s (Some (kept_as.OfSimulator x)) c p h rules t = simulator.part_called_sound s x c p h t
own_call_sound s (Some (kept_as.OfBench x)) c p h rules t = t

call_sound : (s : Seen) (r : Request) (c : Called) (h : Held) → IsPool h.pool → IsSound h → IsSound (call_answered s r c h).held
call_sound s r c h rules t = by_eq (equated_by (thing_of h.store.things c.callee)) (λ e is. equated_there (length h.pool.exprs) h.store.things c.callee e t.things is)
  where
    by_eq : (o : Option ExprId) → ((e : ExprId) → o ≡ Some e → e.0 < length h.pool.exprs) → IsSound (called_by s o r c h).held
    by_eq None f = own_call_sound s (kept_of h.store c.callee) c r.place h rules t
    by_eq (Some e) f = eq_sound h e c.placed c.keywords r.place t (f e refl)

-- ---- attributes and indices

library_name_sound : (n : HdlName) (name : List ℕ) (h : Held) → IsSound h → IsSound (name_attribute n name h).held
library_name_sound hdl.Wiring name h t = component.library_sound (wiring_named name) h t
library_name_sound hdl.Enumerations name h t = thing_name_sound (base_named name) h t
library_name_sound hdl.Data name h t = thing_name_sound (layout_named name) h t
library_name_sound hdl.Module name h t = t
library_name_sound hdl.Signal name h t = if_sound (text_eq name (codes "like")) _ _ (keeping_sound h (kept_as.Name hdl.Like) t tt) t
library_name_sound hdl.Like name h t = t
library_name_sound hdl.ClockDomain name h t = t
library_name_sound hdl.ResetSignal name h t = t
library_name_sound hdl.Elaboratable name h t = t
library_name_sound hdl.Shape name h t = t
library_name_sound hdl.Value name h t = t
library_name_sound hdl.In name h t = t
library_name_sound hdl.Out name h t = t
library_name_sound hdl.Component name h t = t
library_name_sound hdl.Signature name h t = t
library_name_sound hdl.Connect name h t = t
library_name_sound hdl.Flipped name h t = t
library_name_sound hdl.Stream name h t = component.library_sound (stream_named name) h t
library_name_sound hdl.StreamSignature name h t = t
library_name_sound hdl.Simulator name h t = t
library_name_sound hdl.MemoryLibrary name h t = component.library_sound (memory_named name) h t
library_name_sound hdl.Memory name h t = t
library_name_sound hdl.DomainRenamer name h t = t
library_name_sound hdl.ResetInserter name h t = t
library_name_sound hdl.EnableInserter name h t = t

attribute_sound : (o : Option Kept) (name : List ℕ) (h : Held) → IsSound h → ((k : Kept) → o ≡ Some k → IsKept h.pool h.store.components.signatures h.store.components.ends k) → IsSound (attribute_of o name h).held
attribute_sound None name h t f = t
attribute_sound (Some (kept_as.Module m)) name h t f =
    if_sound (text_eq name (codes "d")) _ _ (keeping_sound h (kept_as.Domains m) t tt)
    (if_sound (text_eq name (codes "submodules")) _ _ (keeping_sound h (kept_as.Submodules m) t tt)
    (if_sound (text_eq name (codes "domains")) _ _ (keeping_sound h (kept_as.Definitions m) t tt) (machine.part_given_sound (part_named m name) _ h t (block_name_sound m (block_named name) h t))))
attribute_sound (Some (kept_as.Domains m)) name h t f = domain_sound m (Some name) h t
attribute_sound (Some (kept_as.Submodules m)) name h t f = submodule.given_sound m (Some name) h t
attribute_sound (Some (kept_as.ClockDomain k)) name h t f = clocked.attribute_sound k name h t
attribute_sound (Some (kept_as.Definitions m)) name h t f = t
attribute_sound (Some (kept_as.Name m)) name h t f = library_name_sound m name h t
attribute_sound (Some (kept_as.Domain m d)) name h t f = t
attribute_sound (Some (kept_as.Statement m)) name h t f = t
attribute_sound (Some (kept_as.Port is_out shape init)) name h t f = t
attribute_sound (Some (kept_as.Nested is_out m)) name h t f = t
attribute_sound (Some (kept_as.Signature m)) name h t f = signed.attribute_sound m name h t
attribute_sound (Some (kept_as.OfSignature m y)) name h t f = t
attribute_sound (Some (kept_as.Memory k)) name h t f = memory.memory_attribute_sound k name h t
attribute_sound (Some (kept_as.OfMemory m y)) name h t f = t
attribute_sound (Some (kept_as.Wrapping m)) name h t f = t
attribute_sound (Some (kept_as.Wrapped m)) name h t f = wrap.wrapped_attribute_sound m h t
attribute_sound (Some (kept_as.MemoryPort x)) name h t f = memory.port_attribute_sound x name h t (f (kept_as.MemoryPort x) refl)
attribute_sound (Some (kept_as.Interface m)) name h t f = interface_attribute_sound m name h t (f (kept_as.Interface m) refl)
attribute_sound (Some (kept_as.BlockName m n)) name h t f = t
attribute_sound (Some (kept_as.Block m b)) name h t f = t
attribute_sound (Some (kept_as.OfMachine x)) name h t f = machine.part_attribute_sound x name h t
attribute_sound (Some (kept_as.OfSimulator x)) name h t f = simulator.attribute_sound x name h t
attribute_sound (Some (kept_as.OfBench x)) name h t f = t

by_value_sound : (v : Val) (name : List ℕ) (h : Held) → IsSound h → IsSound (attribute_by v name h).held
by_value_sound (val.Object o) name h t = object_attribute_sound o name h t
by_value_sound v name h t = attribute_sound (kept_of h.store v) name h t (λ k e. kept_stands h.pool h.store t.kept v k e)

attributes_sound : (vs : List Val) (o : Option (List ℕ)) (h : Held) → IsSound h → IsSound (attribute_answered vs o h).held
attributes_sound [] o h t = t
attributes_sound (x ∷ []) None h t = t
attributes_sound (x ∷ []) (Some n) h t = by_value_sound x n h t
attributes_sound (x ∷ y ∷ vs) o h t = t

module_stored_sound : (s : Seen) (m : ℕ) (name : List ℕ) (v : Val) (p : Place) (h : Held) → IsSound h → IsSound (module_stored s m name v p h).held
module_stored_sound s m name v p h t = if_sound (text_eq name (codes "submodules")) _ _ (submodule.submodules_sound m v h t)
    (if_sound (text_eq name (codes "domains")) _ _ (clocked.definitions_sound m v h t) (machine.next_sound s m name v p h t))

attribute_stored_sound : (s : Seen) (o : Option Kept) (name : List ℕ) (v : Val) (p : Place) (h : Held) → IsSound h → IsSound (attribute_stored s o name v p h).held
attribute_stored_sound s (Some (kept_as.Domains m)) name v p h t = stored_sound m (Some name) v h t
attribute_stored_sound s (Some (kept_as.Submodules m)) name v p h t = submodule.stored_sound s m (Some name) v h t
attribute_stored_sound s (Some (kept_as.Definitions m)) name v p h t = clocked.stored_sound m name v p h t
attribute_stored_sound s (Some (kept_as.ClockDomain k)) name v p h t = t
attribute_stored_sound s None name v p h t = t
attribute_stored_sound s (Some (kept_as.Module m)) name v p h t = module_stored_sound s m name v p h t
attribute_stored_sound s (Some (kept_as.Name m)) name v p h t = t
attribute_stored_sound s (Some (kept_as.Domain m d)) name v p h t = t
attribute_stored_sound s (Some (kept_as.Statement m)) name v p h t = t
attribute_stored_sound s (Some (kept_as.Port is_out shape init)) name v p h t = t
attribute_stored_sound s (Some (kept_as.Nested is_out m)) name v p h t = t
attribute_stored_sound s (Some (kept_as.Signature m)) name v p h t = t
attribute_stored_sound s (Some (kept_as.Memory m)) name v p h t = t
attribute_stored_sound s (Some (kept_as.MemoryPort m)) name v p h t = t
attribute_stored_sound s (Some (kept_as.OfSignature m y)) name v p h t = t
attribute_stored_sound s (Some (kept_as.OfMemory m y)) name v p h t = t
attribute_stored_sound s (Some (kept_as.Wrapping m)) name v p h t = t
attribute_stored_sound s (Some (kept_as.Wrapped m)) name v p h t = t
attribute_stored_sound s (Some (kept_as.Interface m)) name v p h t = t
attribute_stored_sound s (Some (kept_as.BlockName m n)) name v p h t = t
attribute_stored_sound s (Some (kept_as.Block m b)) name v p h t = t
attribute_stored_sound s (Some (kept_as.OfMachine x)) name v p h t = t
attribute_stored_sound s (Some (kept_as.OfSimulator x)) name v p h t = t
attribute_stored_sound s (Some (kept_as.OfBench x)) name v p h t = t

stores_sound : (s : Seen) (vs : List Val) (o : Option (List ℕ)) (p : Place) (h : Held) → IsSound h → IsSound (store_answered s vs o p h).held
stores_sound s [] o p h t = t
stores_sound s (x ∷ []) o p h t = t
stores_sound s (x ∷ v ∷ []) None p h t = t
stores_sound s (x ∷ v ∷ []) (Some n) p h t = attribute_stored_sound s (kept_of h.store x) n v p h t
stores_sound s (x ∷ v ∷ w ∷ vs) o p h t = t

index_sound : (s : Seen) (o : Option Kept) (i : Val) (h : Held) → IsSound h → IsSound (index_of s o i h).held
index_sound s (Some (kept_as.Domains m)) i h t = domain_sound m (index_name s i) h t
index_sound s (Some (kept_as.Submodules m)) i h t = submodule.given_sound m (index_name s i) h t
index_sound s (Some (kept_as.Definitions m)) i h t = t
index_sound s (Some (kept_as.ClockDomain k)) i h t = t
index_sound s None i h t = t
index_sound s (Some (kept_as.Module m)) i h t = t
index_sound s (Some (kept_as.Name m)) i h t = t
index_sound s (Some (kept_as.Domain m d)) i h t = t
index_sound s (Some (kept_as.Statement m)) i h t = t
index_sound s (Some (kept_as.Port is_out shape init)) i h t = t
index_sound s (Some (kept_as.Nested is_out m)) i h t = t
index_sound s (Some (kept_as.Signature m)) i h t = t
index_sound s (Some (kept_as.Memory m)) i h t = t
index_sound s (Some (kept_as.MemoryPort m)) i h t = t
index_sound s (Some (kept_as.OfSignature m y)) i h t = t
index_sound s (Some (kept_as.OfMemory m y)) i h t = t
index_sound s (Some (kept_as.Wrapping m)) i h t = t
index_sound s (Some (kept_as.Wrapped m)) i h t = t
index_sound s (Some (kept_as.Interface m)) i h t = t
index_sound s (Some (kept_as.BlockName m n)) i h t = t
index_sound s (Some (kept_as.Block m b)) i h t = t
index_sound s (Some (kept_as.OfMachine x)) i h t = t
index_sound s (Some (kept_as.OfSimulator x)) i h t = t
index_sound s (Some (kept_as.OfBench x)) i h t = t

indices_sound : (s : Seen) (vs : List Val) (h : Held) → IsSound h → IsSound (index_answered s vs h).held
indices_sound s [] h t = t
indices_sound s (x ∷ []) h t = t
indices_sound s (x ∷ i ∷ []) h t = index_sound s (kept_of h.store x) i h t
indices_sound s (x ∷ i ∷ j ∷ vs) h t = t

index_stored_sound : (s : Seen) (o : Option Kept) (i v : Val) (h : Held) → IsSound h → IsSound (index_stored s o i v h).held
index_stored_sound s (Some (kept_as.Domains m)) i v h t = stored_sound m (index_name s i) v h t
index_stored_sound s (Some (kept_as.Submodules m)) i v h t = submodule.stored_sound s m (index_name s i) v h t
index_stored_sound s (Some (kept_as.Definitions m)) i v h t = t
index_stored_sound s (Some (kept_as.ClockDomain k)) i v h t = t
index_stored_sound s None i v h t = t
index_stored_sound s (Some (kept_as.Module m)) i v h t = t
index_stored_sound s (Some (kept_as.Name m)) i v h t = t
index_stored_sound s (Some (kept_as.Domain m d)) i v h t = t
index_stored_sound s (Some (kept_as.Statement m)) i v h t = t
index_stored_sound s (Some (kept_as.Port is_out shape init)) i v h t = t
index_stored_sound s (Some (kept_as.Nested is_out m)) i v h t = t
index_stored_sound s (Some (kept_as.Signature m)) i v h t = t
index_stored_sound s (Some (kept_as.Memory m)) i v h t = t
index_stored_sound s (Some (kept_as.MemoryPort m)) i v h t = t
index_stored_sound s (Some (kept_as.OfSignature m y)) i v h t = t
index_stored_sound s (Some (kept_as.OfMemory m y)) i v h t = t
index_stored_sound s (Some (kept_as.Wrapping m)) i v h t = t
index_stored_sound s (Some (kept_as.Wrapped m)) i v h t = t
index_stored_sound s (Some (kept_as.Interface m)) i v h t = t
index_stored_sound s (Some (kept_as.BlockName m n)) i v h t = t
index_stored_sound s (Some (kept_as.Block m b)) i v h t = t
index_stored_sound s (Some (kept_as.OfMachine x)) i v h t = t
index_stored_sound s (Some (kept_as.OfSimulator x)) i v h t = t
index_stored_sound s (Some (kept_as.OfBench x)) i v h t = t

index_stores_sound : (s : Seen) (vs : List Val) (h : Held) → IsSound h → IsSound (index_store_answered s vs h).held
index_stores_sound s [] h t = t
index_stores_sound s (x ∷ []) h t = t
index_stores_sound s (x ∷ i ∷ []) h t = t
index_stores_sound s (x ∷ i ∷ v ∷ []) h t = index_stored_sound s (kept_of h.store x) i v h t
index_stores_sound s (x ∷ i ∷ v ∷ w ∷ vs) h t = t

-- ---- operators

added_sound : (s : Seen) (o : Option Kept) (x v : Val) (p : Place) (h : Held) → IsSound h → IsSound (added s o x v p h).held
added_sound s (Some (kept_as.Domain m d)) x v p h t = statements_sound x m (side_of h.store d) (equations_in deepest s h.store v) h t (λ y e. side_named h.store d y t.domains e) (λ qs e. equations_stand h.pool h.store t.kept deepest s v qs e)
added_sound s (Some (kept_as.Submodules m)) x v p h t = submodule.added_sound s m None v x h t
added_sound s (Some (kept_as.Definitions m)) x v p h t = clocked.added_sound m v x p h t
added_sound s (Some (kept_as.ClockDomain k)) x v p h t = t
added_sound s None x v p h t = t
added_sound s (Some (kept_as.Module m)) x v p h t = t
added_sound s (Some (kept_as.Name m)) x v p h t = t
added_sound s (Some (kept_as.Domains m)) x v p h t = t
added_sound s (Some (kept_as.Statement m)) x v p h t = t
added_sound s (Some (kept_as.Port is_out shape init)) x v p h t = t
added_sound s (Some (kept_as.Nested is_out m)) x v p h t = t
added_sound s (Some (kept_as.Signature m)) x v p h t = t
added_sound s (Some (kept_as.Memory m)) x v p h t = t
added_sound s (Some (kept_as.MemoryPort m)) x v p h t = t
added_sound s (Some (kept_as.OfSignature m y)) x v p h t = t
added_sound s (Some (kept_as.OfMemory m y)) x v p h t = t
added_sound s (Some (kept_as.Wrapping m)) x v p h t = t
added_sound s (Some (kept_as.Wrapped m)) x v p h t = t
added_sound s (Some (kept_as.Interface m)) x v p h t = t
added_sound s (Some (kept_as.BlockName m n)) x v p h t = t
added_sound s (Some (kept_as.Block m b)) x v p h t = t
added_sound s (Some (kept_as.OfMachine y)) x v p h t = t
added_sound s (Some (kept_as.OfSimulator y)) x v p h t = t
added_sound s (Some (kept_as.OfBench y)) x v p h t = t

operator_sound : (s : Seen) (vs : List Val) (o : Option (List ℕ)) (p : Place) (h : Held) → IsSound h → IsSound (operator_answered s vs o p h).held
operator_sound s [] o p h t = t
operator_sound s (x ∷ []) o p h t = t
operator_sound s (x ∷ v ∷ []) None p h t = t
operator_sound s (x ∷ v ∷ []) (Some sign) p h t = if_sound (text_eq sign (codes "+=")) _ _ (added_sound s (kept_of h.store x) x v p h t) t
operator_sound s (x ∷ v ∷ w ∷ vs) o p h t = t

-- ---- `with`

kept_entered_sound : (s : Seen) (o : Option Kept) (h : Held) → IsPool h.pool → IsSound h → ((k : Kept) → o ≡ Some k → IsKept h.pool h.store.components.signatures h.store.components.ends k) → IsSound (kept_entered s o h).held
kept_entered_sound s (Some (kept_as.OfMachine x)) h rules t f = machine.part_entered_sound s x h rules t
kept_entered_sound s (Some (kept_as.OfSimulator x)) h rules t f = simulator.passed_sound x h t
kept_entered_sound s (Some (kept_as.OfBench x)) h rules t f = t
kept_entered_sound s None h rules t f = enter_sound None h t f
kept_entered_sound s (Some (kept_as.Name n)) h rules t f = enter_sound (Some (kept_as.Name n)) h t f
kept_entered_sound s (Some (kept_as.Module m)) h rules t f = enter_sound (Some (kept_as.Module m)) h t f
kept_entered_sound s (Some (kept_as.Domains m)) h rules t f = enter_sound (Some (kept_as.Domains m)) h t f
kept_entered_sound s (Some (kept_as.Domain m d)) h rules t f = enter_sound (Some (kept_as.Domain m d)) h t f
kept_entered_sound s (Some (kept_as.Submodules m)) h rules t f = enter_sound (Some (kept_as.Submodules m)) h t f
kept_entered_sound s (Some (kept_as.Definitions m)) h rules t f = enter_sound (Some (kept_as.Definitions m)) h t f
kept_entered_sound s (Some (kept_as.ClockDomain m)) h rules t f = enter_sound (Some (kept_as.ClockDomain m)) h t f
kept_entered_sound s (Some (kept_as.Statement q)) h rules t f = enter_sound (Some (kept_as.Statement q)) h t f
kept_entered_sound s (Some (kept_as.Port is_out shape init)) h rules t f = enter_sound (Some (kept_as.Port is_out shape init)) h t f
kept_entered_sound s (Some (kept_as.Nested is_out m)) h rules t f = enter_sound (Some (kept_as.Nested is_out m)) h t f
kept_entered_sound s (Some (kept_as.Signature m)) h rules t f = enter_sound (Some (kept_as.Signature m)) h t f
kept_entered_sound s (Some (kept_as.Memory m)) h rules t f = enter_sound (Some (kept_as.Memory m)) h t f
kept_entered_sound s (Some (kept_as.MemoryPort m)) h rules t f = enter_sound (Some (kept_as.MemoryPort m)) h t f
kept_entered_sound s (Some (kept_as.OfSignature m y)) h rules t f = enter_sound (Some (kept_as.OfSignature m y)) h t f
kept_entered_sound s (Some (kept_as.OfMemory m y)) h rules t f = enter_sound (Some (kept_as.OfMemory m y)) h t f
kept_entered_sound s (Some (kept_as.Wrapping m)) h rules t f = enter_sound (Some (kept_as.Wrapping m)) h t f
kept_entered_sound s (Some (kept_as.Wrapped m)) h rules t f = enter_sound (Some (kept_as.Wrapped m)) h t f
kept_entered_sound s (Some (kept_as.Interface m)) h rules t f = enter_sound (Some (kept_as.Interface m)) h t f
kept_entered_sound s (Some (kept_as.BlockName m n)) h rules t f = enter_sound (Some (kept_as.BlockName m n)) h t f
kept_entered_sound s (Some (kept_as.Block m b)) h rules t f = enter_sound (Some (kept_as.Block m b)) h t f

enters_sound : (s : Seen) (vs : List Val) (h : Held) → IsPool h.pool → IsSound h → IsSound (enter_answered s vs h).held
enters_sound s [] h rules t = t
enters_sound s (x ∷ []) h rules t = kept_entered_sound s (kept_of h.store x) h rules t (kept_stands h.pool h.store t.kept x)
enters_sound s (x ∷ y ∷ vs) h rules t = t

kept_left_sound : (o : Option Kept) (h : Held) → IsSound h → IsSound (kept_left o h).held
kept_left_sound (Some (kept_as.OfMachine x)) h t = machine.part_left_sound x h t
kept_left_sound (Some (kept_as.OfSimulator x)) h t = simulator.passed_sound x h t
kept_left_sound (Some (kept_as.OfBench x)) h t = t
kept_left_sound None h t = leave_sound None h t
kept_left_sound (Some (kept_as.Name n)) h t = leave_sound (Some (kept_as.Name n)) h t
kept_left_sound (Some (kept_as.Module m)) h t = leave_sound (Some (kept_as.Module m)) h t
kept_left_sound (Some (kept_as.Domains m)) h t = leave_sound (Some (kept_as.Domains m)) h t
kept_left_sound (Some (kept_as.Domain m d)) h t = leave_sound (Some (kept_as.Domain m d)) h t
kept_left_sound (Some (kept_as.Submodules m)) h t = leave_sound (Some (kept_as.Submodules m)) h t
kept_left_sound (Some (kept_as.Definitions m)) h t = leave_sound (Some (kept_as.Definitions m)) h t
kept_left_sound (Some (kept_as.ClockDomain m)) h t = leave_sound (Some (kept_as.ClockDomain m)) h t
kept_left_sound (Some (kept_as.Statement q)) h t = leave_sound (Some (kept_as.Statement q)) h t
kept_left_sound (Some (kept_as.Port is_out shape init)) h t = leave_sound (Some (kept_as.Port is_out shape init)) h t
kept_left_sound (Some (kept_as.Nested is_out m)) h t = leave_sound (Some (kept_as.Nested is_out m)) h t
kept_left_sound (Some (kept_as.Signature m)) h t = leave_sound (Some (kept_as.Signature m)) h t
kept_left_sound (Some (kept_as.Memory m)) h t = leave_sound (Some (kept_as.Memory m)) h t
kept_left_sound (Some (kept_as.MemoryPort m)) h t = leave_sound (Some (kept_as.MemoryPort m)) h t
kept_left_sound (Some (kept_as.OfSignature m y)) h t = leave_sound (Some (kept_as.OfSignature m y)) h t
kept_left_sound (Some (kept_as.OfMemory m y)) h t = leave_sound (Some (kept_as.OfMemory m y)) h t
kept_left_sound (Some (kept_as.Wrapping m)) h t = leave_sound (Some (kept_as.Wrapping m)) h t
kept_left_sound (Some (kept_as.Wrapped m)) h t = leave_sound (Some (kept_as.Wrapped m)) h t
kept_left_sound (Some (kept_as.Interface m)) h t = leave_sound (Some (kept_as.Interface m)) h t
kept_left_sound (Some (kept_as.BlockName m n)) h t = leave_sound (Some (kept_as.BlockName m n)) h t
kept_left_sound (Some (kept_as.Block m b)) h t = leave_sound (Some (kept_as.Block m b)) h t

leaves_sound : (vs : List Val) (h : Held) → IsSound h → IsSound (leave_answered vs h).held
leaves_sound [] h t = t
leaves_sound (x ∷ []) h t = kept_left_sound (kept_of h.store x) h t
leaves_sound (x ∷ y ∷ vs) h t = t

-- ---- all acts

pub own_sound : (top : Option (List ℕ)) (s : Seen) (a : Act) (r : Request) (h : Held) → IsPool h.pool → IsSound h → IsSound (own_answered top s a r h).held
own_sound top s act.Import r h rules t = import_sound r.names h t
own_sound top s act.Attribute r h rules t = attributes_sound r.vals (only r.names) h t
own_sound top s act.SetAttribute r h rules t = stores_sound s r.vals (only r.names) r.place h t
own_sound top s act.CallThing r h rules t = call_sound s r (called r.vals r.names) h rules t
own_sound top s act.Index r h rules t = indices_sound s r.vals h t
own_sound top s act.SetIndex r h rules t = index_stores_sound s r.vals h t
own_sound top s act.Operator r h rules t = operator_sound s r.vals (only r.names) r.place h t
own_sound top s act.Length r h rules t = t
own_sound top s act.Iterate r h rules t = t
own_sound top s act.Enter r h rules t = enters_sound s r.vals h rules t
own_sound top s act.Leave r h rules t = leaves_sound r.vals h t
own_sound top s act.ClassMade r h rules t = any_class_sound r.vals r.names h (component.class_sound r.vals r.names h (class_sound r.vals r.names h t) t) t
own_sound top s act.InitBase r h rules t = any_init_sound s r.vals r.names h (component.init_sound s r.vals r.names h (base_sound r.vals r.names h t) t) t
own_sound top s act.BodyEnd r h rules t = body_sound top s r.vals r.names h t
own_sound top s act.Returned r h rules t = end_sound s r.vals h t
own_sound top s act.Await r h rules t = t
