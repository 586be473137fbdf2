-- What elaboration holds beside the heap of the program: the pool, and the store of things, modules and the top. Which acts change it is said
-- family by family in the other files.
use Rattle.std.specs.Prelude.{ℕ, Bool, List, [], ◌∷◌, ◌++◌, length, slice_get, Option, Some, None, option_and_then, option_map, codes}
use Rattle.std.specs.Option.{option_map_or}
use Rattle.lists.specs.Texts.{text_eq}
use Rattle.py_values.specs.declared.val.ObjId.{ObjId}
use Rattle.py_values.specs.declared.val.Val.{Val}
use Rattle.py_values.specs.declared.val.Val.TheVariants as val
use Rattle.py_frames.specs.declared.request.Answer.{Answer}
use Rattle.py_frames.specs.declared.request.Answer.TheVariants as answer
use Rattle.py_frames.specs.declared.request.Cause.{Cause}
use Rattle.design_ir.specs.declared.expr.Pattern.{Pattern}
use Rattle.design_ir.specs.declared.process.Side.{Side}
use Rattle.design_ir.specs.declared.process.Side.TheVariants.{Comb, Clocked}
use Rattle.design_ir.specs.Pools.{Pooled}
use Rattle.design_ir.specs.Circuits.{option_test}
use Rattle.amh_things.specs.declared.thing.Thing.{Thing}
use Rattle.amh_things.specs.declared.thing.Thing.TheVariants as thing
use Rattle.amh_things.specs.Things.{thing_of, kept_number}
use Rattle.module_dsl.specs.Builders.{Built}
use Rattle.elab_store.specs.declared.kept.Kept.{Kept}
use Rattle.elab_store.specs.declared.kept.Kept.TheVariants as kept
use Rattle.elab_store.specs.declared.kept.Top.{Top}
use Rattle.elab_store.specs.declared.kept.DomainName.{DomainName}
use Rattle.elab_store.specs.declared.kept.DomainName.TheVariants as domain
use Rattle.amh_host.specs.declared.place.Place.{Place}
use Rattle.elab_store.specs.declared.own_machine.OwnMachine.{OwnMachine}
use Rattle.elab_store.specs.declared.memories.OwnMemory.{OwnMemory}
use Rattle.elab_store.specs.declared.wrappings.Wrapping.{Wrapping}
use Rattle.elab_store.specs.declared.wrappings.Wrapped.{Wrapped}
use Rattle.elab_store.specs.Wrappings.{wraps_of}
use Rattle.elab_store.specs.declared.hierarchy.NodeOf.{NodeOf}
use Rattle.elab_store.specs.declared.hierarchy.NodeOf.TheVariants as node
use Rattle.elab_store.specs.Components.{Components, no_components, signed_at, face_at}
use Rattle.elab_store.specs.declared.faces.Face.{Face}
use Rattle.elab_store.specs.Hierarchies.{Hierarchy, no_hierarchy}
use Rattle.elab_store.specs.ClockDomains.{ClockDomains, no_clock_domains}
use Rattle.elab_store.specs.Simulations.{Simulation, no_simulation}

pub record Stored : Type 0 where
  -- all things that a program may hold, by number
  pub things : List Thing
  -- what the numbers stand for that things keep
  pub kept : List Kept
  -- modules in order of making, each with all that it was told
  pub modules : List Built
  -- the patterns of the cases that were called
  pub patterns : List (List Pattern)
  pub top : Top
  -- classes over `Component`, and what their objects have
  pub components : Components
  -- submodules
  pub hierarchy : Hierarchy
  -- clock domains that were made, and which module defines which
  pub clock_domains : ClockDomains
  -- state machines in order of making
  pub machines : List OwnMachine
  -- memories in order of making
  pub memories : List OwnMemory
  -- what wrappers do, and what they made, each in order of making
  pub wrappings : List Wrapping
  pub wrapped : List Wrapped
  -- the names of domains with a clock by which modules were asked
  pub domains : List (List ℕ)
  -- where the refusal is told, where this is not the place of the request
  pub told : Option Place
  -- what the simulator was told
  pub simulation : Simulation

pub record Held : Type 0 where
  pub pool : Pooled
  pub store : Stored

-- no top is named yet
abbrev pub no_top : Top
no_top = record { object = None; root = None }

-- before the body of a program
abbrev pub nothing_held : Held
nothing_held = record { pool = record { signals = []; exprs = [] }; store = record { things = []; kept = []; modules = []; patterns = []; top = no_top; components = no_components; hierarchy = no_hierarchy; clock_domains = no_clock_domains; machines = []; memories = []; wrappings = []; wrapped = []; domains = []; told = None; simulation = no_simulation } }

-- what a request is answered, and what is then held
pub record Answered : Type 0 where
  pub answer : Answer
  pub held : Held

-- a refusal changes nothing
abbrev pub refused : Cause → Held → Answered
refused why h = record { answer = answer.Refuse why; held = h }

-- it is told at another place than the request's
abbrev pub refused_at : Place → Cause → Held → Answered
refused_at p why h = record { answer = answer.Refuse why; held = record h { store = record h.store { told = Some p } } }

abbrev pub given : Val → Held → Answered
given v h = record { answer = answer.Give v; held = h }

-- ---- things

-- the number of the next thing
abbrev pub next_thing : Held → Val
next_thing h = val.Hw (record { 0 = length h.store.things })

abbrev pub store_with : Thing → Stored → Stored
store_with t s = record s { things = s.things ++ t ∷ [] }

abbrev pub with_thing : Thing → Held → Held
with_thing t h = record h { store = store_with t h.store }

-- a new thing is given
abbrev pub thing_given : Thing → Held → Answered
thing_given t h = given (next_thing h) (with_thing t h)

-- a new thing of this crate
abbrev pub store_keeping : Kept → Stored → Stored
store_keeping k s = record s { things = s.things ++ thing.Kept (length s.kept) ∷ []; kept = s.kept ++ k ∷ [] }

abbrev pub kept_given : Kept → Held → Answered
kept_given k h = given (next_thing h) (record h { store = store_keeping k h.store })

-- what a value is kept for, where it is a thing of this crate
abbrev pub kept_of : Stored → Val → Option Kept
kept_of s v = option_and_then (slice_get s.kept) (kept_number (thing_of s.things v))

-- ---- signatures and interfaces

abbrev pub signature_in : Option Kept → Option ℕ
signature_in (Some (kept.Signature n)) = Some n
signature_in k = None

-- the number of the signature that a value of the program is
abbrev pub signature_of : Stored → Val → Option ℕ
signature_of s (val.Object o) = signed_at s.components.signed o.0
signature_of s v = signature_in (kept_of s v)

abbrev pub face_in : Option Kept → Option Face
face_in (Some (kept.Interface f)) = Some f
face_in k = None

-- the interface that a value of the program is: a component is one too
abbrev pub face_of : Stored → Val → Option Face
face_of s (val.Object o) = face_at s.components.objects o.0
face_of s v = face_in (kept_of s v)

-- ---- domains

abbrev pub naming_domain : List ℕ → Stored → Stored
naming_domain n s = record s { domains = s.domains ++ n ∷ [] }

abbrev pub side_of : Stored → DomainName → Option Side
side_of s domain.Comb = Some Comb
side_of s (domain.Clocked k) = option_map Clocked (slice_get s.domains k)

-- whether a domain has this name
abbrev pub is_domain : Stored → DomainName → List ℕ → Bool
is_domain s domain.Comb n = text_eq n (codes "comb")
is_domain s (domain.Clocked k) n = option_test (λ x. text_eq x n) (slice_get s.domains k)

-- ---- modules and the top

abbrev pub object_in : Val → Option ObjId
object_in (val.Object o) = Some o
object_in v = None

-- the object that was first asked stays the top
abbrev pub first_object : Option ObjId → Option ObjId → Option ObjId
first_object (Some o) p = Some o
first_object None p = p

abbrev pub with_root : ℕ → Stored → Stored
with_root m s = record s { top = record s.top { root = Some m } }

abbrev pub with_object : Val → Stored → Stored
with_object v s = record s { top = record { object = first_object s.top.object (object_in v); root = None } }

abbrev pub module_of : Option Kept → Option ℕ
module_of (Some (kept.Module m)) = Some m
module_of k = None

abbrev pub memory_of : Option Kept → Option ℕ
memory_of (Some (kept.Memory k)) = Some k
memory_of k = None

-- the module or the memory that stands in the tree where a value was added
abbrev pub node_in : Option Kept → Option NodeOf
node_in (Some (kept.Module m)) = Some (node.Module m)
node_in (Some (kept.Memory k)) = Some (node.Memory k)
node_in k = None

-- ---- what is wrapped

abbrev pub wrapped_in : Option Kept → Option ℕ
wrapped_in (Some (kept.Wrapped k)) = Some k
wrapped_in k = None

-- the number of the wrapped thing that a value is
abbrev pub wrapped_of : Stored → Val → Option ℕ
wrapped_of s v = wrapped_in (kept_of s v)

-- what stands within a value: itself, where it is not wrapped
abbrev pub inner_of : Stored → Val → Val
inner_of s v = option_map_or (λ (w : Wrapped). w.inner) (option_and_then (slice_get s.wrapped) (wrapped_of s v)) v

-- the wrappings of a value, the outermost first
abbrev pub wraps_in : Stored → Val → List ℕ
wraps_in s v = option_map_or (wraps_of s.wrapped) (wrapped_of s v) []

-- what a wrapper does, and what it made, which is a new thing
abbrev pub store_with_wrapping : Wrapping → Stored → Stored
store_with_wrapping w s = record s { wrappings = s.wrappings ++ w ∷ [] }

abbrev pub store_with_wrapped : Wrapped → Stored → Stored
store_with_wrapped w s = store_keeping (kept.Wrapped (length s.wrapped)) (record s { wrapped = s.wrapped ++ w ∷ [] })

-- ---- memories

abbrev pub store_with_memory : OwnMemory → Stored → Stored
store_with_memory x s = record s { memories = s.memories ++ x ∷ [] }

-- ---- modules that are made

-- a module has no name of its own: nobody names the top
abbrev pub store_and_module : Stored → Stored
store_and_module s = record s { modules = s.modules ++ record { name = []; steps = [] } ∷ [] }
