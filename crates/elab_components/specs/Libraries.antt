-- The modules below `amaranth.lib`. (Amaranth standard library reference 0.5, "Interfaces and connections", "Enumerations", "Data structures" and "Memory arrays".
-- That other modules and names are refused is this project's own rule.)
use Rattle.std.specs.Prelude.{ℕ, Bool, if◌then◌else◌, List, Option, Some, None, codes}
use Rattle.lists.specs.Texts.{text_eq}
use Rattle.py_frames.specs.declared.request.Cause.TheVariants.{Raised}
use Rattle.amh_things.specs.declared.thing.Thing.TheVariants as thing
use Rattle.amh_things.specs.declared.thing.ThingName.{ThingName}
use Rattle.elab_store.specs.declared.kept.HdlName.{HdlName}
use Rattle.elab_store.specs.declared.kept.HdlName.TheVariants as hdl
use Rattle.elab_store.specs.declared.kept.Kept.TheVariants as kept
use Rattle.elab_store.specs.Stores.{Held, Answered, refused, thing_given, kept_given}

-- `amaranth.lib.wiring`
abbrev pub wiring_named : List ℕ → Option HdlName
wiring_named n =
    if text_eq n (codes "In") then Some hdl.In
    else (if text_eq n (codes "Out") then Some hdl.Out
    else (if text_eq n (codes "Component") then Some hdl.Component
    else (if text_eq n (codes "Signature") then Some hdl.Signature
    else (if text_eq n (codes "connect") then Some hdl.Connect else (if text_eq n (codes "flipped") then Some hdl.Flipped else None)))))

-- `amaranth.lib.stream`
abbrev pub stream_named : List ℕ → Option HdlName
stream_named n = if text_eq n (codes "Signature") then Some hdl.StreamSignature else None

-- `amaranth.lib.memory`
abbrev pub memory_named : List ℕ → Option HdlName
memory_named n = if text_eq n (codes "Memory") then Some hdl.Memory else None

-- `amaranth.lib`, whose names are modules
abbrev pub module_named : List ℕ → Option HdlName
module_named n =
    if text_eq n (codes "wiring") then Some hdl.Wiring
    else (if text_eq n (codes "enum") then Some hdl.Enumerations
    else (if text_eq n (codes "data") then Some hdl.Data
    else (if text_eq n (codes "stream") then Some hdl.Stream else (if text_eq n (codes "memory") then Some hdl.MemoryLibrary else None))))

abbrev pub is_library : List ℕ → Bool
is_library path = text_eq path (codes "amaranth.lib")

abbrev pub is_wiring : List ℕ → Bool
is_wiring path = text_eq path (codes "amaranth.lib.wiring")

abbrev pub is_stream : List ℕ → Bool
is_stream path = text_eq path (codes "amaranth.lib.stream")

abbrev pub is_memory : List ℕ → Bool
is_memory path = text_eq path (codes "amaranth.lib.memory")

abbrev pub is_enum : List ℕ → Bool
is_enum path = text_eq path (codes "amaranth.lib.enum")

abbrev pub is_data : List ℕ → Bool
is_data path = text_eq path (codes "amaranth.lib.data")

abbrev pub library_named : (path name : List ℕ) → Option HdlName
library_named path name =
    if is_library path then module_named name
    else (if is_wiring path then wiring_named name
    else (if is_stream path then stream_named name else (if is_memory path then memory_named name else None)))

abbrev pub library_given : Option HdlName → Held → Answered
library_given (Some n) h = kept_given (kept.Name n) h
library_given None h = refused Raised h

-- `amaranth.lib.enum` and `amaranth.lib.data`, whose names are of amh_things
abbrev pub thing_name_given : Option ThingName → Held → Answered
thing_name_given (Some n) h = thing_given (thing.Name n) h
thing_name_given None h = refused Raised h
