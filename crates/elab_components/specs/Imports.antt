-- Imports. (Amaranth language guide 0.5, "Prelude": `from amaranth import *` or `from amaranth.hdl import ..`; `amaranth.sim`; `amaranth.utils`.
-- That other modules and names are refused is this project's own rule.)
use Rattle.std.specs.Prelude.{ℕ, ◌||◌, Bool, if◌then◌else◌, List, [], ◌∷◌, ◌++◌, Option, Some, None, codes}
use Rattle.lists.specs.Texts.{text_eq}
use Rattle.py_values.specs.declared.val.Val.TheVariants as val
use Rattle.py_frames.specs.declared.request.Answer.{Answer}
use Rattle.py_frames.specs.declared.request.Answer.TheVariants as answer
use Rattle.py_frames.specs.declared.request.Cause.TheVariants.{Raised}
use Rattle.py_frames.specs.declared.request.NamedVal.{NamedVal}
use Rattle.amh_things.specs.declared.thing.Thing.TheVariants as thing
use Rattle.amh_things.specs.declared.thing.ThingName.{ThingName}
use Rattle.amh_things.specs.Things.{name_called, base_called, layout_named}
use Rattle.elab_store.specs.declared.kept.HdlName.{HdlName}
use Rattle.elab_store.specs.declared.kept.HdlName.TheVariants as hdl
use Rattle.elab_store.specs.declared.kept.Kept.TheVariants as kept
use Rattle.elab_components.specs.Libraries.{is_enum, is_data, library_named, library_given, thing_name_given}
use Rattle.elab_store.specs.Stores.{Held, Answered, refused, given, next_thing, thing_given, kept_given}

-- ---- `amaranth` and `amaranth.hdl`

abbrev pub is_hdl : List ℕ → Bool
is_hdl path = text_eq path (codes "amaranth") || text_eq path (codes "amaranth.hdl")

-- wrappers of clock domains
abbrev pub wrapper_named : List ℕ → Option HdlName
wrapper_named n =
    if text_eq n (codes "DomainRenamer") then Some hdl.DomainRenamer
    else (if text_eq n (codes "ResetInserter") then Some hdl.ResetInserter
    else (if text_eq n (codes "EnableInserter") then Some hdl.EnableInserter else None))

-- the names that this crate serves itself
abbrev pub own_named : List ℕ → Option HdlName
own_named n =
    if text_eq n (codes "Module") then Some hdl.Module
    else (if text_eq n (codes "Signal") then Some hdl.Signal
    else (if text_eq n (codes "Elaboratable") then Some hdl.Elaboratable
    else (if text_eq n (codes "Shape") then Some hdl.Shape
    else (if text_eq n (codes "Value") then Some hdl.Value
    else (if text_eq n (codes "ClockDomain") then Some hdl.ClockDomain
    else (if text_eq n (codes "ResetSignal") then Some hdl.ResetSignal else wrapper_named n))))))

-- the names that a star brings
abbrev pub star_names : List (List ℕ)
star_names =
    codes "Module" ∷ codes "Signal" ∷ codes "Const" ∷ codes "C" ∷ codes "Cat" ∷ codes "Mux" ∷ codes "Array" ∷ codes "Shape" ∷ codes "Value"
    ∷ codes "unsigned" ∷ codes "signed" ∷ codes "Elaboratable" ∷ codes "ClockDomain" ∷ codes "ResetSignal" ∷ codes "DomainRenamer" ∷ codes "ResetInserter" ∷ codes "EnableInserter" ∷ []

abbrev pub hdl_thing : Option HdlName → Option ThingName → Held → Answered
hdl_thing (Some n) t h = kept_given (kept.Name n) h
hdl_thing None (Some t) h = thing_given (thing.Name t) h
hdl_thing None None h = refused Raised h

abbrev pub hdl_imported : List ℕ → Held → Answered
hdl_imported name h = hdl_thing (own_named name) (name_called name) h

-- ---- all of them: each name gives a thing of its own, in order

-- what stands for a name is bound to it, and whatever else comes is the answer
abbrev pub bound_answer : List NamedVal → List ℕ → Held → (List NamedVal → Held → Answered) → Answer → Answered
bound_answer names name h rest (answer.Give v) = rest (names ++ record { name = name; val = v } ∷ []) h
bound_answer names name h rest a = record { answer = a; held = h }

abbrev pub all_bound : List NamedVal → List (List ℕ) → Held → Answered
all_bound names [] h = record { answer = answer.Bind names; held = h }
all_bound names (n ∷ ns) h = bound_answer names n (hdl_imported n h).held (λ more g. all_bound more ns g) (hdl_imported n h).answer

-- ---- `amaranth.utils`, whose two functions stand in each program's heap behind the builtins

abbrev pub is_utils : List ℕ → Bool
is_utils path = text_eq path (codes "amaranth.utils")

abbrev pub utility_imported : List ℕ → Held → Answered
utility_imported name h =
    if text_eq name (codes "ceil_log2") then given (val.Func (record { 0 = 17 })) h
    else (if text_eq name (codes "bits_for") then given (val.Func (record { 0 = 18 })) h else refused Raised h)

-- ---- `amaranth.sim`, which has one name

abbrev pub is_sim : List ℕ → Bool
is_sim path = text_eq path (codes "amaranth.sim")

abbrev pub sim_named : List ℕ → Option HdlName
sim_named n = if text_eq n (codes "Simulator") then Some hdl.Simulator else None

abbrev pub simulator_bound : Held → Answered
simulator_bound h = record { answer = answer.Bind (record { name = codes "Simulator"; val = next_thing h } ∷ []); held = (kept_given (kept.Name hdl.Simulator) h).held }

abbrev pub sim_imported : List ℕ → Held → Answered
sim_imported name h = if text_eq name (codes "*") then simulator_bound h else library_given (sim_named name) h

-- ---- an import

abbrev pub imported : List ℕ → List ℕ → Held → Answered
imported path name h =
    if is_hdl path then (if text_eq name (codes "*") then all_bound [] star_names h else hdl_imported name h)
    else (if is_utils path then utility_imported name h
    else (if is_enum path then thing_name_given (base_called name) h
    else (if is_data path then thing_name_given (layout_named name) h
    else (if is_sim path then sim_imported name h else library_given (library_named path name) h))))

-- a request names the module and then the name
abbrev pub import_answered : List (List ℕ) → Held → Answered
import_answered (path ∷ name ∷ []) h = imported path name h
import_answered names h = refused Raised h
