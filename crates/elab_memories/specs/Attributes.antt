-- The attributes of a memory and of its ports. (Amaranth standard library reference 0.5, "Memory arrays": a port has an address, data of the memory's
-- shape, and an enable. That the enable of a port which reads at once is the integer 1 is this project's own rule.)
use Rattle.std.specs.Prelude.{ℕ, if◌then◌else◌, List, pos, Option, Some, None, codes}
use Rattle.lists.specs.Texts.{text_eq}
use Rattle.py_values.specs.declared.val.Val.TheVariants as val
use Rattle.py_frames.specs.declared.request.Cause.TheVariants.{Raised}
use Rattle.design_ir.specs.declared.ids.ExprId.{ExprId}
use Rattle.amh_things.specs.declared.thing.Reading.TheVariants as reading
use Rattle.amh_things.specs.Things.{read_as}
use Rattle.elab_store.specs.declared.kept.Kept.TheVariants as kept
use Rattle.elab_store.specs.declared.kept.MemoryPort.{MemoryPort}
use Rattle.elab_store.specs.declared.kept.MemoryMethod.TheVariants.{WritePort, ReadPort}
use Rattle.elab_store.specs.Stores.{Held, Answered, refused, given, thing_given, kept_given}

abbrev pub memory_attribute : ℕ → List ℕ → Held → Answered
memory_attribute k name h =
    if text_eq name (codes "write_port") then kept_given (kept.OfMemory k WritePort) h
    else (if text_eq name (codes "read_port") then kept_given (kept.OfMemory k ReadPort) h else refused Raised h)

abbrev pub enable_given : Option ExprId → Held → Answered
enable_given (Some e) h = thing_given (read_as reading.Plain e) h
enable_given None h = given (val.Int (pos 1)) h

-- data are what the rows are
abbrev pub port_attribute : MemoryPort → List ℕ → Held → Answered
port_attribute p name h =
    if text_eq name (codes "addr") then thing_given (read_as reading.Plain p.addr) h
    else (if text_eq name (codes "data") then thing_given (read_as p.reading p.word) h
    else (if text_eq name (codes "en") then enable_given p.enable h else refused Raised h))
