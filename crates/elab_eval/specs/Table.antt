-- The table of what requests are answered: first that of shapes and values, and where it leaves a request open, what this crate answers.
use Rattle.std.specs.Prelude.{ℕ, true, false, if◌then◌else◌, List, [], ◌∷◌, ◌++◌, Option, Some, None, Result, Ok, Err, codes}
use Rattle.lists.specs.Texts.{text_eq}
use Rattle.py_values.specs.declared.val.Val.{Val}
use Rattle.py_values.specs.declared.val.Val.TheVariants as val
use Rattle.py_heap.specs.Heaps.{Seen}
use Rattle.py_frames.specs.declared.request.Act.{Act}
use Rattle.py_frames.specs.declared.request.Act.TheVariants as act
use Rattle.py_frames.specs.declared.request.Request.{Request}
use Rattle.py_frames.specs.declared.request.Cause.{Cause}
use Rattle.py_frames.specs.declared.request.Cause.TheVariants.{Raised}
use Rattle.design_ir.specs.declared.ids.ExprId.{ExprId}
use Rattle.amh_things.specs.declared.thing.Thing.{Thing}
use Rattle.amh_things.specs.declared.thing.Thing.TheVariants as thing
use Rattle.amh_things.specs.declared.thing.Method.TheVariants as method
use Rattle.amh_things.specs.declared.plan.Plan.{Plan}
use Rattle.amh_things.specs.Things.{thing_of, base_called, layout_named}
use Rattle.amh_things.specs.Plans.{grown_by}
use Rattle.amh_values.specs.Acts.{acted}
use Rattle.elab_store.specs.declared.kept.HdlName.{HdlName}
use Rattle.elab_store.specs.declared.kept.HdlName.TheVariants as hdl
use Rattle.elab_store.specs.declared.kept.Kept.{Kept}
use Rattle.elab_store.specs.declared.kept.Kept.TheVariants as kept
use Rattle.elab_store.specs.Stores.{Held, Answered, refused, kept_of, side_of}
use Rattle.elab_components.specs.Imports.{import_answered}
use Rattle.elab_store.specs.Calls.{Called, called}
use Rattle.elab_components.specs.Signals.{module_called, signal_called}
use Rattle.elab_components.specs.Likes.{like_given, like_called}
use Rattle.elab_components.specs.Equations.{equated}
use Rattle.elab_components.specs.Resets.{reset_called}
use Rattle.elab_acts.specs.Blocks.{block_called, block_entered, block_left}
use Rattle.amh_host.specs.declared.place.Place.{Place}
use Rattle.elab_machines.specs.StateMachines.{part_attribute, next_stored, part_called, part_entered, part_left}
use Rattle.elab_acts.specs.Sides.{module_attribute, domain_given, index_name, domain_stored, deepest, equations_in, statements_added}
use Rattle.elab_acts.specs.ClockDomains.{clock_domain_called, clock_domain_attribute, definition_added, definition_stored, definitions_stored}
use Rattle.elab_acts.specs.Submodules.{submodule_added, submodule_stored, submodule_given, submodules_stored}
use Rattle.elab_components.specs.Libraries.{wiring_named, stream_named, memory_named, library_given, thing_name_given}
use Rattle.elab_components.specs.Signatures.{signature_called, signature_attribute, signature_method_called, stream_signature_called}
use Rattle.elab_wiring.specs.Interfaces.{interface_attribute, flipped_called}
use Rattle.elab_wiring.specs.Connections.{connect_called}
use Rattle.elab_wiring.specs.SignatureClasses.{any_class_answered, any_init_answered, object_attribute}
use Rattle.elab_components.specs.Members.{member_called}
use Rattle.elab_memories.specs.Memories.{memory_called}
use Rattle.elab_memories.specs.Ports.{port_called}
use Rattle.elab_memories.specs.Attributes.{memory_attribute, port_attribute}
use Rattle.elab_wrappers.specs.declared.wrappers.Inserter.TheVariants.{Reset, Enable}
use Rattle.elab_wrappers.specs.Wrappers.{renamer_called, inserter_called}
use Rattle.elab_acts.specs.Wrappers.{wrapping_called, wrapped_attribute}
use Rattle.elab_acts.specs.Tops.{body_ended, elaborate_ended}
use Rattle.elab_acts.specs.Simulators.{simulator_called, simulator_attribute, simulator_part_called, vcd_passed}

-- ---- calls

-- other names are not called
abbrev pub name_called : Seen → HdlName → Called → Held → Answered
name_called s hdl.Module c h = module_called c h
name_called s hdl.Signal c h = signal_called s c h
name_called s hdl.Like c h = like_called s c h
name_called s hdl.ClockDomain c h = clock_domain_called s c h
name_called s hdl.In c h = member_called s false c h
name_called s hdl.Out c h = member_called s true c h
name_called s hdl.Simulator c h = simulator_called c h
name_called s hdl.Memory c h = memory_called s c h
name_called s hdl.DomainRenamer c h = renamer_called s c h
name_called s hdl.ResetInserter c h = inserter_called s Reset c h
name_called s hdl.EnableInserter c h = inserter_called s Enable c h
name_called s hdl.Signature c h = signature_called s c h
name_called s hdl.StreamSignature c h = stream_signature_called s c h
name_called s hdl.Flipped c h = flipped_called c h
name_called s n c h = refused Raised h

-- `connect` puts statements where it is called, and a reset is told of where it was made
abbrev pub placed_called : Seen → HdlName → Called → Place → Held → Answered
placed_called s hdl.Connect c p h = connect_called c p h
placed_called s hdl.ResetSignal c p h = reset_called s c p h
placed_called s n c p h = name_called s n c h

abbrev pub kept_called : Seen → Option Kept → Called → Place → Held → Answered
kept_called s (Some (kept.Name n)) c p h = placed_called s n c p h
kept_called s (Some (kept.OfSignature n m)) c p h = signature_method_called n m c h
kept_called s (Some (kept.OfMemory k m)) c p h = port_called s k m c h
kept_called s (Some (kept.Wrapping k)) c p h = wrapping_called s k c h
kept_called s (Some (kept.BlockName m n)) c p h = block_called s m n c h
kept_called s (Some (kept.OfMachine x)) c p h = part_called s x c p h
kept_called s (Some (kept.OfSimulator x)) c p h = simulator_part_called s x c p h
kept_called s k c p h = refused Raised h

-- the value whose method `eq` a thing is, as its expression
abbrev pub equated_by : Option Thing → Option ExprId
equated_by (Some (thing.Method x e method.Eq)) = Some e
equated_by t = None

-- the method `eq` of a value, or a thing of this crate
abbrev pub called_by : Seen → Option ExprId → Request → Called → Held → Answered
called_by s (Some e) r c h = equated e c.placed c.keywords r.place h
called_by s None r c h = kept_called s (kept_of h.store c.callee) c r.place h

abbrev pub call_answered : Seen → Request → Called → Held → Answered
call_answered s r c h = called_by s (equated_by (thing_of h.store.things c.callee)) r c h

-- ---- attributes and indices

-- one name alone
abbrev pub only : {A : Type 0} → List A → Option A
only (x ∷ []) = Some x
only [] = None
only (x ∷ y ∷ xs) = None

-- a module of the library, and `Signal.like`
abbrev pub name_attribute : HdlName → List ℕ → Held → Answered
name_attribute hdl.Wiring name h = library_given (wiring_named name) h
name_attribute hdl.Stream name h = library_given (stream_named name) h
name_attribute hdl.MemoryLibrary name h = library_given (memory_named name) h
name_attribute hdl.Enumerations name h = thing_name_given (base_called name) h
name_attribute hdl.Data name h = thing_name_given (layout_named name) h
name_attribute hdl.Signal name h = like_given name h
name_attribute n name h = refused Raised h

abbrev pub attribute_of : Option Kept → List ℕ → Held → Answered
attribute_of (Some (kept.Name n)) name h = name_attribute n name h
attribute_of (Some (kept.Module m)) name h = module_attribute m name h
attribute_of (Some (kept.Domains m)) name h = domain_given m (Some name) h
attribute_of (Some (kept.Submodules m)) name h = submodule_given m (Some name) h
attribute_of (Some (kept.ClockDomain k)) name h = clock_domain_attribute k name h
attribute_of (Some (kept.Memory k)) name h = memory_attribute k name h
attribute_of (Some (kept.MemoryPort x)) name h = port_attribute x name h
attribute_of (Some (kept.Wrapped k)) name h = wrapped_attribute k h
attribute_of (Some (kept.OfMachine x)) name h = part_attribute x name h
attribute_of (Some (kept.OfSimulator x)) name h = simulator_attribute x name h
attribute_of (Some (kept.Signature n)) name h = signature_attribute n name h
attribute_of (Some (kept.Interface f)) name h = interface_attribute f name h
attribute_of k name h = refused Raised h

-- of an object it is what its class stands over that has the attribute
abbrev pub attribute_by : Val → List ℕ → Held → Answered
attribute_by (val.Object o) name h = object_attribute o name h
attribute_by v name h = attribute_of (kept_of h.store v) name h

abbrev pub attribute_answered : List Val → Option (List ℕ) → Held → Answered
attribute_answered (x ∷ []) (Some name) h = attribute_by x name h
attribute_answered vals name h = refused Raised h

-- `m.submodules` and `m.domains` again, and `m.next`
abbrev pub module_stored : Seen → ℕ → List ℕ → Val → Place → Held → Answered
module_stored s m name v p h = if text_eq name (codes "submodules") then submodules_stored m v h
    else (if text_eq name (codes "domains") then definitions_stored m v h else next_stored s m name v p h)

-- a domain to its name again, a submodule, and a domain that a module defines
abbrev pub attribute_stored : Seen → Option Kept → List ℕ → Val → Place → Held → Answered
attribute_stored s (Some (kept.Domains m)) name v p h = domain_stored m (Some name) v h
attribute_stored s (Some (kept.Submodules m)) name v p h = submodule_stored s m (Some name) v h
attribute_stored s (Some (kept.Definitions m)) name v p h = definition_stored m name v p h
attribute_stored s (Some (kept.Module m)) name v p h = module_stored s m name v p h
attribute_stored s k name v p h = refused Raised h

abbrev pub store_answered : Seen → List Val → Option (List ℕ) → Place → Held → Answered
store_answered s (x ∷ v ∷ []) (Some name) p h = attribute_stored s (kept_of h.store x) name v p h
store_answered s vals name p h = refused Raised h

abbrev pub index_of : Seen → Option Kept → Val → Held → Answered
index_of s (Some (kept.Domains m)) i h = domain_given m (index_name s i) h
index_of s (Some (kept.Submodules m)) i h = submodule_given m (index_name s i) h
index_of s k i h = refused Raised h

abbrev pub index_answered : Seen → List Val → Held → Answered
index_answered s (x ∷ i ∷ []) h = index_of s (kept_of h.store x) i h
index_answered s vals h = refused Raised h

abbrev pub index_stored : Seen → Option Kept → Val → Val → Held → Answered
index_stored s (Some (kept.Domains m)) i v h = domain_stored m (index_name s i) v h
index_stored s (Some (kept.Submodules m)) i v h = submodule_stored s m (index_name s i) v h
index_stored s k i v h = refused Raised h

abbrev pub index_store_answered : Seen → List Val → Held → Answered
index_store_answered s (x ∷ i ∷ v ∷ []) h = index_stored s (kept_of h.store x) i v h
index_store_answered s vals h = refused Raised h

-- ---- operators: `+=` on a domain, on `m.submodules` and on `m.domains`

abbrev pub added : Seen → Option Kept → Val → Val → Place → Held → Answered
added s (Some (kept.Domain m d)) x v p h = statements_added x m (side_of h.store d) (equations_in deepest s h.store v) h
added s (Some (kept.Submodules m)) x v p h = submodule_added s m None v x h
added s (Some (kept.Definitions m)) x v p h = definition_added m v x p h
added s k x v p h = refused Raised h

abbrev pub signed : Seen → Val → Val → List ℕ → Place → Held → Answered
signed s x v sign p h = if text_eq sign (codes "+=") then added s (kept_of h.store x) x v p h else refused Raised h

abbrev pub operator_answered : Seen → List Val → Option (List ℕ) → Place → Held → Answered
operator_answered s (x ∷ v ∷ []) (Some sign) p h = signed s x v sign p h
operator_answered s vals sign p h = refused Raised h

-- ---- `with`

abbrev pub kept_entered : Seen → Option Kept → Held → Answered
kept_entered s (Some (kept.OfMachine x)) h = part_entered s x h
kept_entered s (Some (kept.OfSimulator x)) h = vcd_passed x h
kept_entered s k h = block_entered k h

abbrev pub enter_answered : Seen → List Val → Held → Answered
enter_answered s (x ∷ []) h = kept_entered s (kept_of h.store x) h
enter_answered s vals h = refused Raised h

abbrev pub kept_left : Option Kept → Held → Answered
kept_left (Some (kept.OfMachine x)) h = part_left x h
kept_left (Some (kept.OfSimulator x)) h = vcd_passed x h
kept_left k h = block_left k h

abbrev pub leave_answered : List Val → Held → Answered
leave_answered (x ∷ []) h = kept_left (kept_of h.store x) h
leave_answered vals h = refused Raised h

-- ---- all acts, where the words may name the top

-- what stands for no other act raises: modules, domains and statements have no length and no elements
abbrev pub own_answered : Option (List ℕ) → Seen → Act → Request → Held → Answered
own_answered top s act.Import r h = import_answered r.names h
own_answered top s act.Attribute r h = attribute_answered r.vals (only r.names) h
own_answered top s act.SetAttribute r h = store_answered s r.vals (only r.names) r.place h
own_answered top s act.CallThing r h = call_answered s r (called r.vals r.names) h
own_answered top s act.Index r h = index_answered s r.vals h
own_answered top s act.SetIndex r h = index_store_answered s r.vals h
own_answered top s act.Operator r h = operator_answered s r.vals (only r.names) r.place h
own_answered top s act.Length r h = refused Raised h
own_answered top s act.Iterate r h = refused Raised h
own_answered top s act.Enter r h = enter_answered s r.vals h
own_answered top s act.Leave r h = leave_answered r.vals h
own_answered top s act.ClassMade r h = any_class_answered r.vals r.names h
own_answered top s act.InitBase r h = any_init_answered s r.vals r.names h
own_answered top s act.BodyEnd r h = body_ended top s r.vals r.names h
own_answered top s act.Returned r h = elaborate_ended s r.vals h
own_answered top s act.Await r h = refused Raised h

-- ---- the table

-- a plan of the table of shapes and values: what it makes stands at the ends
abbrev pub with_plan : Plan → Held → Held
with_plan plan h = record { pool = grown_by h.pool plan.exprs; store = record h.store { things = h.store.things ++ plan.things } }

abbrev pub plan_answered : Result Plan Cause → Held → Answered
plan_answered (Ok plan) h = record { answer = plan.answer; held = with_plan plan h }
plan_answered (Err why) h = refused why h

abbrev pub either_answered : Option (Result Plan Cause) → Answered → Held → Answered
either_answered (Some plan) own h = plan_answered plan h
either_answered None own h = own

abbrev pub prim : Option (List ℕ) → Seen → Held → Request → Answered
prim top s h r = either_answered (acted s h.pool h.store.things r) (own_answered top s r.act r h) h
