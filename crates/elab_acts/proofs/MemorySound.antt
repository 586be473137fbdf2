-- What is held stays sound by the acts on memories.
use Rattle.std.proofs.Common.{◌≡◌, ℕ, suc, ◌+◌, ◌*◌, refl, ap, sym, subst, Bool, true, false, List, [], ◌∷◌, ◌++◌, length, Option, Some, None, Result, Ok, Err, ℤ, arith, nat_lt}
use Rattle.std.specs.Prelude.{◌||◌, if◌then◌else◌, nat_le, codes}
use Rattle.std.specs.List.{AllByRecursion}
use Rattle.std.proofs.lemmas.Bool.{ltb-false}
use Rattle.lists.specs.Texts.{text_eq}
use Rattle.amh_bits.specs.Patterns.{IsOf}
use Rattle.amh_bits.proofs.Wraps.{wrap_is_of}
use Rattle.shape_rules.specs.Forms.{Form}
use Rattle.py_heap.specs.Heaps.{Seen}
use Rattle.py_frames.specs.declared.request.Cause.{Cause}
use Rattle.py_frames.specs.declared.request.Cause.TheVariants as cause
use Rattle.design_ir.specs.declared.ids.ExprId.{ExprId}
use Rattle.design_ir.specs.declared.memory.Memory.{Memory}
use Rattle.design_ir.specs.Pools.{Pooled}
use Rattle.amh_things.specs.Things.{read_as}
use Rattle.amh_things.specs.declared.thing.Reading.TheVariants as reading
use Rattle.memory_ports.specs.declared.refusal.MemStop.{MemStop}
use Rattle.memory_ports.specs.declared.refusal.MemStop.TheVariants as stop
use Rattle.memory_ports.specs.Memories.{IsSpec}
use Rattle.memory_ports.specs.Laws.{IsApart}
use Rattle.memory_ports.specs.Calls.{new_refusal, new_memory}
use Rattle.memory_ports.proofs.SpecLaws.{spec_new, or_none}
use Rattle.elab_store.specs.declared.kept.Kept.TheVariants as kept_as
use Rattle.elab_store.specs.declared.kept.MemoryPort.{MemoryPort}
use Rattle.elab_store.specs.declared.kept.MemoryMethod.TheVariants.{WritePort, ReadPort}
use Rattle.elab_store.specs.declared.memories.OwnMemory.{OwnMemory}
use Rattle.elab_store.specs.declared.domains.ClockDomain.{ClockDomain}
use Rattle.elab_store.specs.declared.faces.ComponentObject.{ComponentObject}
use Rattle.elab_store.specs.declared.shapes.Shaped.{Shaped}
use Rattle.elab_store.specs.Calls.{Called}
use Rattle.elab_store.specs.Stores.{Held, Answered}
use Rattle.elab_store.specs.Sound.{IsEnableThere, IsMemoryPort, IsOwnMemory, HasOwnRegister, IsSound}
use Rattle.elab_memories.specs.declared.memories.MemoryArguments.{MemoryArguments}
use Rattle.elab_memories.specs.Memories.{memory_arguments, depth_given, rows_given, shape_given, with_memory, wrapped_rows, memory_of_rows, memory_made, memory_shaped, memory_said, memory_from, memory_called}
use Rattle.elab_memories.specs.Attributes.{memory_attribute, enable_given, port_attribute}
use Rattle.elab_acts.proofs.EachLaws.{all_each}
use Rattle.elab_acts.proofs.GrownLaws.{all_and, things_grown, keeping_sound, read_held}

if_sound : (b : Bool) (x y : Answered) → IsSound x.held → IsSound y.held → IsSound (if b then x else y).held
if_sound true x y h g = h
if_sound false x y h g = g

-- ---- attributes

pub memory_attribute_sound : (k : ℕ) (name : List ℕ) (h : Held) → IsSound h → IsSound (memory_attribute k name h).held
memory_attribute_sound k name h t =
    if_sound (text_eq name (codes "write_port")) _ _ (keeping_sound h (kept_as.OfMemory k WritePort) t tt)
    (if_sound (text_eq name (codes "read_port")) _ _ (keeping_sound h (kept_as.OfMemory k ReadPort) t tt) t)

enable_sound : (o : Option ExprId) (h : Held) → IsSound h → IsEnableThere h.pool o → IsSound (enable_given o h).held
enable_sound None h t there = t
enable_sound (Some e) h t there = things_grown h (read_as reading.Plain e ∷ []) t (read_held (length h.pool.exprs) reading.Plain e there, tt)

pub port_attribute_sound : (x : MemoryPort) (name : List ℕ) (h : Held) → IsSound h → IsMemoryPort h.pool x → IsSound (port_attribute x name h).held
port_attribute_sound x name h t is =
    if_sound (text_eq name (codes "addr")) _ _ (things_grown h (read_as reading.Plain x.addr ∷ []) t (read_held (length h.pool.exprs) reading.Plain x.addr is.addr, tt))
    (if_sound (text_eq name (codes "data")) _ _ (things_grown h (read_as x.reading x.word ∷ []) t (read_held (length h.pool.exprs) x.reading x.word is.word, tt))
    (if_sound (text_eq name (codes "en")) _ _ (enable_sound x.enable h t is.enable) t))

-- ---- a memory

-- a memory without ports
bare_memory : (q : Pooled) (made : List ClockDomain) (objects : List (ℕ × ComponentObject)) (x : OwnMemory) → IsSpec x.spec → x.spec.writes ≡ [] → x.spec.reads ≡ [] → IsOwnMemory q made objects x
bare_memory q made objects x spec writes reads = record {
  spec = spec;
  ports = record { writes = subst (AllByRecursion _) (sym writes) tt; reads = subst (AllByRecursion _) (sym reads) tt };
  write_names = subst (AllByRecursion _) (sym writes) tt;
  read_names = subst (AllByRecursion _) (sym reads) tt;
  own_data = subst (AllByRecursion _) (sym reads) tt;
}

with_memory_sound : (x : OwnMemory) (h : Held) → IsSound h → IsOwnMemory h.pool h.store.clock_domains.made h.store.components.objects x → ((t : ℕ) → IsApart h.pool t x.spec) → IsSound (with_memory x h)
with_memory_sound x h s own apart = record {
  names = s.names;
  things = s.things;
  kept = s.kept;
  modules = s.modules;
  machines = s.machines;
  domains = s.domains;
  additions = s.additions;
  clock_domains = s.clock_domains;
  components = s.components;
  wrappings = s.wrappings;
  waits = s.waits;
  memories = all_and (IsOwnMemory h.pool h.store.clock_domains.made h.store.components.objects) h.store.memories (x ∷ []) s.memories (own, tt);
  registers = all_each (HasOwnRegister h.pool h.store.clock_domains.made h.store.memories) (HasOwnRegister h.pool h.store.clock_domains.made (h.store.memories ++ x ∷ [])) h.store.machines
      (λ m r. record { clocks = r.clocks; ports = all_and (λ (y : OwnMemory). IsApart h.pool m.machine.signal.0 y.spec) h.store.memories (x ∷ []) r.ports (apart m.machine.signal.0, tt) }) s.registers;
}

wrapped_fit : (f : Form) (ns : List ℤ) → AllByRecursion (IsOf f.signed f.width) (wrapped_rows f ns)
wrapped_fit f [] = tt
wrapped_fit f (n ∷ ns) = (wrap_is_of f.signed f.width n, wrapped_fit f ns)

wrapped_length : (f : Form) (ns : List ℤ) → length (wrapped_rows f ns) ≡ length ns
wrapped_length f [] = refl
wrapped_length f (n ∷ ns) = ap suc (wrapped_length f ns)

-- what no count refuses is a memory
spec_stands : (f : Form) (depth : ℕ) (ns : List ℤ) → new_refusal f depth (length ns) ≡ None → IsSpec (new_memory f depth (wrapped_rows f ns))
spec_stands f depth ns e = by_rows (nat_lt depth (length ns)) (nat_lt 65536 depth || nat_lt 1048576 (depth * f.width)) refl refl e
  where
    by_rows : (a b : Bool) → nat_lt depth (length ns) ≡ a → (nat_lt 65536 depth || nat_lt 1048576 (depth * f.width)) ≡ b → (if a then Some stop.TooManyRows else (if b then Some stop.Limit else None)) ≡ None → IsSpec (new_memory f depth (wrapped_rows f ns))
    by_rows true b e1 e2 e = cc
    by_rows false true e1 e2 e = cc
    by_rows false false e1 e2 e =
        let parts = or_none (nat_lt 65536 depth) (nat_lt 1048576 (depth * f.width)) e2 in
        spec_new f depth (wrapped_rows f ns) (ltb-false 65536 depth parts.0) (ltb-false 1048576 (depth * f.width) parts.1) (omega (arith, ltb-false depth (length ns) e1, wrapped_length f ns)) (wrapped_fit f ns)

made_sound : (o : Option MemStop) (x : Shaped) (depth : ℕ) (ns : List ℤ) (h : Held) → IsSound h → new_refusal x.form depth (length ns) ≡ o → IsSound (memory_made o (memory_of_rows x depth ns) h).held
made_sound None x depth ns h t e =
    let m : OwnMemory = memory_of_rows x depth ns in
    keeping_sound (with_memory m h) (kept_as.Memory (length h.store.memories))
    (with_memory_sound m h t (bare_memory h.pool h.store.clock_domains.made h.store.components.objects m (spec_stands x.form depth ns e) refl refl) (λ s. record { writes = tt; reads = tt })) tt
made_sound (Some why) x depth ns h t e = t

shaped_sound : (depth : ℕ) (ns : List ℤ) (shape : Result Shaped Cause) (h : Held) → IsSound h → IsSound (memory_shaped depth ns shape h).held
shaped_sound depth ns (Err why) h t = t
shaped_sound depth ns (Ok x) h t = made_sound (new_refusal x.form depth (length ns)) x depth ns h t refl

said_sound : (depth : Option ℕ) (rows : Result (List ℤ) Cause) (shape : Result Shaped Cause) (h : Held) → IsSound h → IsSound (memory_said depth rows shape h).held
said_sound None rows shape h t = t
said_sound (Some depth) (Ok ns) shape h t = if_sound (nat_lt depth (length ns)) _ _ t (shaped_sound depth ns shape h t)
said_sound (Some depth) (Err cause.Limit) shape h t = if_sound (nat_le depth 65536) _ _ t t
said_sound (Some depth) (Err cause.Raised) shape h t = t
said_sound (Some depth) (Err why) shape h t = t

from_sound : (s : Seen) (o : Option MemoryArguments) (h : Held) → IsSound h → IsSound (memory_from s o h).held
from_sound s None h t = t
from_sound s (Some args) h t = said_sound (depth_given args.depth) (rows_given s h.store.things args.init) (shape_given s h args.shape) h t

pub memory_call_sound : (s : Seen) (c : Called) (h : Held) → IsSound h → IsSound (memory_called s c h).held
memory_call_sound s c h t = from_sound s (memory_arguments c) h t
