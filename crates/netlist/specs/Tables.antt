-- What is kept for each signal of a design while its module is made.
use Rattle.std.specs.Prelude.{◌≡◌, ◌<◌, ◌==◌, ◌+◌, ◌*◌, ℕ, Bool, true, false, cond, if◌then◌else◌, suc, ◌&&◌, ◌||◌, map, List, [], ◌∷◌, ◌++◌, length, slice_index_or, Option, Some, None}
use Rattle.std.specs.List.{flat_map, list_any, range_with_len}
use Rattle.lists.specs.Texts.{text_eq}
use Rattle.rtlil_text.specs.declared.module.RtlModule.{RtlModule}
use Rattle.rtlil_text.specs.declared.module.RtlMemory.{RtlMemory}
use Rattle.rtlil_text.specs.declared.sig.SigPart.{SigPart}
use Rattle.rtlil_text.specs.declared.sig.SigPart.TheVariants as parts
use Rattle.design_ir.specs.declared.memory.MemRead.{MemRead}
use Rattle.design_ir.specs.declared.memory.Memory.{Memory}
use Rattle.design_ir.specs.declared.process.DesignProcess.{DesignProcess}
use Rattle.design_ir.specs.Values.{signal_form}
use Rattle.design_ir.specs.Targets.{Bit}
use Rattle.design_ir.specs.Circuits.{Circuit, is_among}
use Rattle.netlist_laws.specs.Operators.{Drawing}
use Rattle.netlist_cells.specs.Places.{ArePlaces, AreColumnPlaces, ArePortPlaces}
use Rattle.rtlil_text.specs.Sources.{Source, Constant, Net}
use Rattle.netlist.specs.declared.signals.Tables.{Tables}
use Rattle.netlist.specs.declared.sources.BitSource.{BitSource}
use Rattle.netlist.specs.declared.sources.BitSource.TheVariants as sources
use Rattle.netlist_laws.specs.Ids.{value_id}
use Rattle.netlist_laws.specs.Spelled.{spec_of}
use Rattle.netlist_laws.specs.Latest.{Latest, latest_of}
use Rattle.memory_cells.specs.declared.plan.Plan.{Plan}
use Rattle.new_names.specs.Fresh.{fresh_name}
use Rattle.netlist_laws.specs.Expressions.{and_also}
use Rattle.netlist_laws.specs.Module.{expr_value, wire_id, column_wires, signal_wires, expr_wires, drawings, signal_drawing, is_there, is_read, is_clocked, drives, driving, at_first}
use Rattle.netlist_laws.specs.MemoryDrawings.{Placed, Part, plan_of}

abbrev pub AreDrivers : Circuit → List (Option ℕ) → Type 0
AreDrivers c places = ArePlaces DesignProcess (drives c) c.processes 0 (length c.pool.signals) places

-- several drawings as one
abbrev pub together : List Drawing → Drawing
together ds = record { wires = flat_map (λ (d : Drawing). d.wires) ds; cells = flat_map (λ (d : Drawing). d.cells) ds; links = flat_map (λ (d : Drawing). d.links) ds }

-- these signals have this place now, and the others what they had
pub record IsMarked (ss : List ℕ) (k : ℕ) (before after : List (Option ℕ)) : Type 0 where
  pub long : length after ≡ length before
  pub each : (s : ℕ) → slice_index_or after s None ≡ cond (is_among ss s) (Some k) (slice_index_or before s None)

-- ---- where bits come from

-- a bit by the ids of signals
abbrev pub source_of : (ℕ → List ℕ) → BitSource → Source
source_of ids (sources.Constant b) = Constant b
source_of ids (sources.Signal s i) = Net (ids s) i
source_of ids (sources.Value k i) = Net (value_id k) i

-- the bits of n signals, 128 for each, are those
pub record Shows (ids : ℕ → List ℕ) (n : ℕ) (bits : List BitSource) (latest : Latest) : Type 0 where
  pub long : length bits ≡ n * 128
  pub each : (s i : ℕ) → s < n → i < 128 → source_of ids (slice_index_or bits (s * 128 + i) (sources.Constant false)) ≡ latest s i

-- before any statement: of a register its own bits, of another signal those that it begins with
abbrev pub at_start : Circuit → Latest
at_start c s i = at_first c (is_clocked (driving c s)) s i

-- behind the statements of all of these
abbrev pub latest_of_all : Circuit → List DesignProcess → Latest → Latest
latest_of_all c [] latest = latest
latest_of_all c (p ∷ ps) latest = latest_of_all c ps (latest_of c.pool (expr_value c) p.body latest)

-- a bit of one of n signals
abbrev pub IsBitOf : ℕ → Bit → Type 0
IsBitOf n b = (b.sig < n) × (b.index < 128)

-- the first sources of a signal's bits, so many of them
pub record IsRow (c : Circuit) (clocked : Bool) (s n : ℕ) (row : List BitSource) : Type 0 where
  pub long : length row ≡ n
  pub each : (i : ℕ) → i < n → source_of (wire_id c) (slice_index_or row i (sources.Constant false)) ≡ at_first c clocked s i

-- ---- bits of one part

-- the lower bit joins the part of the one above it
abbrev pub joins : Source → Source → Bool
joins (Constant a) (Constant b) = true
joins (Constant a) (Net wire i) = false
joins (Net id i) (Constant b) = false
joins (Net id i) (Net wire low) = text_eq id wire && (suc i == low)

abbrev pub bit_of : Source → Bool
bit_of (Constant b) = b
bit_of (Net id i) = false

-- the part of these bits, the lowest first
abbrev pub run_of : List Source → SigPart
run_of [] = parts.Const []
run_of (Constant b ∷ xs) = parts.Const (b ∷ map bit_of xs)
run_of (Net id i ∷ xs) = parts.Wire id i (suc (length xs))

-- the id of the wire of a bit
abbrev pub source_id : Source → List ℕ
source_id (Constant b) = []
source_id (Net id i) = id

-- its place in that wire
abbrev pub source_place : Source → Option ℕ
source_place (Constant b) = None
source_place (Net id i) = Some i

-- ---- memories

-- the parts of a memory under this plan
abbrev pub own_parts : Plan → Memory → List Part → List (Placed × Part)
own_parts p m qs = map (λ q. (record { plan = p; memory = m }, q)) qs

-- a memory of the design behind these names, where it is one of the module, and the names with it
abbrev pub placed_one : List (List ℕ) → Memory → List Placed
placed_one names m = if is_there m then record { plan = plan_of (fresh_name names m.name) m; memory = m } ∷ [] else []

abbrev pub names_with : List (List ℕ) → Memory → List (List ℕ)
names_with names m = if is_there m then names ++ fresh_name names m.name ∷ [] else names

-- the signals that its ports give are marked, where it is one of the module
pub record AreMarked (m : Memory) (before after : List Bool) : Type 0 where
  pub long : length after ≡ length before
  pub each : (s : ℕ) → slice_index_or after s false ≡ ((is_there m && list_any (λ (r : MemRead). r.word.0 == s) m.reads) || slice_index_or before s false)

-- which signals ports of the module's memories give
pub record AreReads (c : Circuit) (reads : List Bool) : Type 0 where
  pub long : length reads ≡ length c.pool.signals
  pub each : (s : ℕ) → slice_index_or reads s false ≡ is_read c s

-- ---- all of it

-- what is known of each signal
pub record AreTables (c : Circuit) (t : Tables) : Type 0 where
  pub columns : AreColumnPlaces c t.columns.items
  pub ports : ArePortPlaces c t.ports.items
  pub drivers : AreDrivers c t.drivers.items
  pub reads : AreReads c t.reads.items
  pub bits : Shows (wire_id c) (length c.pool.signals) t.bits.items (latest_of_all c c.processes (at_start c))

-- the last sources of a signal's bits as a spec
abbrev pub last_spec : Circuit → ℕ → List SigPart
last_spec c s = spec_of (map (latest_of_all c c.processes (at_start c) s) (range_with_len 0 (signal_form c.pool.signals s).width))

-- the module with these memories, wires, cells and links
abbrev pub drawn_module : List RtlMemory → Drawing → RtlModule
drawn_module memories d = record { wires = d.wires; memories = memories; cells = d.cells; links = d.links }

-- the wires, cells and links of a design's module but those of its memories
abbrev pub drawn_signals : Circuit → Drawing
drawn_signals c =
    and_also
    (and_also (record { wires = column_wires c 0 c.columns ++ flat_map (signal_wires c) (range_with_len 0 (length c.pool.signals)) ++ flat_map (expr_wires c) (range_with_len 0 (length c.pool.exprs)); cells = []; links = [] }) (together (drawings c)))
    (together (map (signal_drawing c) (range_with_len 0 (length c.pool.signals))))
