-- What drives each signal of a design, and the wires of signals and expressions.
use Rattle.std.specs.Prelude.{ℕ, suc, ◌+◌, ◌*◌, ◌==◌, ◌&&◌, nat_lt, Bool, true, false, if◌then◌else◌, List, [], ◌∷◌, ◌++◌, map, slice_get, Option, Some, None, option_map, unwrap_or, is_none, option_and_then, codes}
use Rattle.std.specs.List.{find, list_any, range_with_len}
use Rattle.amh_bits.specs.Patterns.{pattern}
use Rattle.shape_rules.specs.declared.cell.CellKind.TheVariants as kind
use Rattle.design_ir.specs.declared.ids.SigId.{SigId}
use Rattle.design_ir.specs.declared.ids.DomainId.{DomainId}
use Rattle.design_ir.specs.declared.signal.Sig.{Sig}
use Rattle.design_ir.specs.declared.expr.Expr.{Expr}
use Rattle.design_ir.specs.declared.domain.Domain.{Domain}
use Rattle.design_ir.specs.declared.port.Port.{Port}
use Rattle.design_ir.specs.declared.port.Column.{Column}
use Rattle.design_ir.specs.declared.memory.MemRead.{MemRead}
use Rattle.design_ir.specs.declared.memory.Memory.{Memory}
use Rattle.design_ir.specs.declared.process.DesignProcess.{DesignProcess}
use Rattle.design_ir.specs.Values.{form, signal_form}
use Rattle.design_ir.specs.Guards.{driven}
use Rattle.design_ir.specs.Circuits.{Circuit, is_among, is_input, option_test}
use Rattle.rtlil_text.specs.declared.cell.RtlParameter.{RtlParameter}
use Rattle.rtlil_text.specs.declared.sig.SigPart.{SigPart}
use Rattle.rtlil_text.specs.declared.cell.RtlCell.{RtlCell}
use Rattle.rtlil_text.specs.declared.module.RtlWire.{RtlWire}
use Rattle.rtlil_text.specs.declared.module.WirePort.{WirePort}
use Rattle.rtlil_text.specs.declared.module.WirePort.TheVariants.{Inner, Input, Output}
use Rattle.rtlil_text.specs.Sources.{Constant, Net}
use Rattle.rtlil_text.specs.Cells.{number_bits}
use Rattle.memory_cells.specs.declared.clock.Clock.{Clock}
use Rattle.memory_cells.specs.Clocks.{polarity}
use Rattle.netlist_laws.specs.Ids.{signal_id, value_id, step_id}
use Rattle.netlist_laws.specs.Cells.{number_parameter, bits_parameter, end_at, mux_cell}
use Rattle.netlist_laws.specs.Operands.{wire_part}
use Rattle.netlist_laws.specs.Operators.{Value, Drawing, inner_wire, whole, nothing}
use Rattle.netlist_laws.specs.Expressions.{part_count, drawn}
use Rattle.netlist_laws.specs.Latest.{Latest, latest_of}
use Rattle.netlist_laws.specs.Spelled.{spec_of}

-- ---- signals

-- the id of a column's wire
abbrev pub public_id : List ℕ → List ℕ
public_id name = 92 ∷ name

-- the column that shows a signal
abbrev pub column_of : Circuit → ℕ → Option Column
column_of c s = find (λ (x : Column). x.sig.0 == s) c.columns

abbrev pub wire_id : Circuit → ℕ → List ℕ
wire_id c s = unwrap_or (option_map (λ (x : Column). public_id x.name) (column_of c s)) (signal_id s)

-- the wire of a signal
abbrev pub signal_value : Circuit → ℕ → Value
signal_value c s = record { id = wire_id c s; form = signal_form c.pool.signals s }

-- the wire of an expression
abbrev pub expr_value : Circuit → ℕ → Value
expr_value c k = record { id = value_id k; form = form c.pool k }

-- ---- what drives a signal

-- a memory with rows and bits is one of the module; each read of any other is 0
abbrev pub is_there : Memory → Bool
is_there m = nat_lt 0 m.depth && nat_lt 0 m.shape.width

-- a port of a memory of the module gives the signal
abbrev pub is_read : Circuit → ℕ → Bool
is_read c s = list_any (λ (m : Memory). is_there m && list_any (λ (r : MemRead). r.word.0 == s) m.reads) c.memories

-- what gives a signal its number
pub data Driving : Type 0 where
  ByEvents : Driving
  ByComb : DesignProcess → Driving
  ByClock : DesignProcess → DomainId → Driving
  ByRead : Driving
  ByNothing : Driving

abbrev pub drives : Circuit → ℕ → DesignProcess → Bool
drives c s p = is_among (driven c.pool p.body) s

abbrev pub driving_at : DesignProcess → Option DomainId → Driving
driving_at p None = ByComb p
driving_at p (Some d) = ByClock p d

-- what no process drives, a port of a memory of the module may give
abbrev pub undriven : Circuit → ℕ → Driving
undriven c s = if is_read c s then ByRead else ByNothing

abbrev pub driving_by : Driving → Option DesignProcess → Driving
driving_by other None = other
driving_by other (Some p) = driving_at p p.domain

abbrev pub driving : Circuit → ℕ → Driving
driving c s = if is_input c s then ByEvents else driving_by (undriven c s) (find (drives c s) c.processes)

abbrev pub is_clocked : Driving → Bool
is_clocked ByEvents = false
is_clocked (ByComb p) = false
is_clocked (ByClock p d) = true
is_clocked ByRead = false
is_clocked ByNothing = false

-- ---- where bits come from

-- the bits of a signal's first number
abbrev pub init_bits : Circuit → ℕ → List Bool
init_bits c s = unwrap_or (option_map (λ (x : Sig). number_bits x.shape.width (pattern x.shape.width x.init)) (slice_get c.pool.signals s)) []

-- before any statement: of a register its own bits, of another signal those that it begins with
abbrev pub at_first : Circuit → Bool → Latest
at_first c clocked s i = if clocked then Net (wire_id c s) i else Constant (unwrap_or (slice_get (init_bits c s) i) false)

-- behind all statements of a process
abbrev pub at_last : Circuit → Bool → DesignProcess → Latest
at_last c clocked p = latest_of c.pool (expr_value c) p.body (at_first c clocked)

-- all bits of a signal there
abbrev pub bits_at_last : Circuit → Bool → DesignProcess → ℕ → List SigPart
bits_at_last c clocked p s = spec_of (map (at_last c clocked p s) (range_with_len 0 (signal_form c.pool.signals s).width))

-- ---- wires

-- a port of the module, numbered from 1
abbrev pub side_of : ℕ → Option Port → WirePort
side_of k None = Inner
side_of k (Some p) = if p.is_input then Input (suc k) else Output (suc k)

abbrev pub port_of : Circuit → ℕ → ℕ → WirePort
port_of c k s = side_of k (find (λ (p : Port). p.sig.0 == s) c.ports)

abbrev pub first_value : Circuit → ℕ → Option (List Bool)
first_value c s = if is_clocked (driving c s) then Some (init_bits c s) else None

-- the wire of column k
abbrev pub column_wire : Circuit → ℕ → Column → RtlWire
column_wire c k x = record { id = public_id x.name; width = (signal_form c.pool.signals x.sig.0).width; port = port_of c k x.sig.0; init = first_value c x.sig.0 }

-- the wires of the columns from number k on
abbrev pub column_wires : Circuit → ℕ → List Column → List RtlWire
column_wires c k [] = []
column_wires c k (x ∷ xs) = column_wire c k x ∷ column_wires c (suc k) xs

-- a signal with bits that no column shows has an inner wire
abbrev pub signal_wires : Circuit → ℕ → List RtlWire
signal_wires c s =
    if nat_lt 0 (signal_form c.pool.signals s).width && is_none (column_of c s)
    then record { id = signal_id s; width = (signal_form c.pool.signals s).width; port = Inner; init = first_value c s } ∷ []
    else []

-- an expression with bits has a wire
abbrev pub expr_wires : Circuit → ℕ → List RtlWire
expr_wires c k = if nat_lt 0 (form c.pool k).width then inner_wire (value_id k) (form c.pool k).width ∷ [] else []

-- ---- expressions

-- the drawings of expressions from number k on, where part n is the first that is free
abbrev pub drawn_from : Circuit → (k n : ℕ) → List Expr → List Drawing
drawn_from c k n [] = []
drawn_from c k n (e ∷ es) = drawn (signal_value c) (expr_value c) n (expr_value c k) e ∷ drawn_from c (suc k) (n + part_count e) es

abbrev pub drawings : Circuit → List Drawing
drawings c = drawn_from c 0 0 c.pool.exprs

-- ---- registers: of register s, the steps 3 s to 3 s + 2

abbrev pub domain_of : Circuit → DomainId → Option Domain
domain_of c d = slice_get c.domains d.0

-- the reset of a register, where its domain has one and it heeds it
abbrev pub reset_of : Circuit → ℕ → DomainId → Option ℕ
reset_of c s d =
    if unwrap_or (option_map (λ (x : Sig). x.reset_less) (slice_get c.pool.signals s)) true then None
    else option_and_then (λ (x : Domain). option_map (λ (r : SigId). r.0) x.rst) (domain_of c d)

-- its domain's reset acts at once
abbrev pub is_async : Circuit → DomainId → Bool
is_async c d = option_test (λ (x : Domain). x.async_reset) (domain_of c d)

-- how a register heeds a reset: not at all, at the edges of its domain, or at once
pub data Heeding : Type 0 where
  NoReset : Heeding
  AtEdges : ℕ → Heeding
  AtOnce : ℕ → Heeding

abbrev pub heeding_of : (async : Bool) → Option ℕ → Heeding
heeding_of async None = NoReset
heeding_of true (Some r) = AtOnce r
heeding_of false (Some r) = AtEdges r

abbrev pub heeding : Circuit → ℕ → DomainId → Heeding
heeding c s d = heeding_of (is_async c d) (reset_of c s d)

-- the clock of a domain, at the domain's active edge; there is none of a domain that is not there
abbrev pub clock_at : Circuit → Domain → Clock
clock_at c x = record { bit = whole (signal_value c x.clk.0); falling = x.falling }

abbrev pub no_clock : Clock
no_clock = record { bit = []; falling = false }

abbrev pub clock_of : Circuit → DomainId → Clock
clock_of c d = unwrap_or (option_map (clock_at c) (domain_of c d)) no_clock

-- a register's width, and at which edge it acts
abbrev pub edge_parameters : ℕ → ℕ → List RtlParameter
edge_parameters width polarity = number_parameter (codes "\\WIDTH") width ∷ number_parameter (codes "\\CLK_POLARITY") polarity ∷ []

-- those of a register that a reset clears at once
abbrev pub clear_parameters : ℕ → ℕ → List Bool → List RtlParameter
clear_parameters width polarity first =
    edge_parameters width polarity ++ number_parameter (codes "\\ARST_POLARITY") 1 ∷ bits_parameter (codes "\\ARST_VALUE") first ∷ []

abbrev pub register_cell : List ℕ → ℕ → Clock → (next now : List SigPart) → RtlCell
register_cell id width clock next now = record {
  kind = kind.Dff;
  id = id;
  parameters = edge_parameters width (polarity clock);
  ends = end_at (codes "\\CLK") clock.bit ∷ end_at (codes "\\D") next ∷ end_at (codes "\\Q") now ∷ [];
}

-- a register with these first bits wherever its reset is 1
abbrev pub clear_cell : List ℕ → ℕ → Clock → (reset : List SigPart) → (first : List Bool) → (next now : List SigPart) → RtlCell
clear_cell id width clock reset first next now = record {
  kind = kind.Adff;
  id = id;
  parameters = clear_parameters width (polarity clock) first;
  ends = end_at (codes "\\ARST") reset ∷ end_at (codes "\\CLK") clock.bit ∷ end_at (codes "\\D") next ∷ end_at (codes "\\Q") now ∷ [];
}

-- a register that heeds its reset at edges takes its first number where that is 1
abbrev pub register_drawing : Circuit → ℕ → DesignProcess → DomainId → Heeding → Drawing
register_drawing c s p d NoReset = record {
  wires = [];
  cells = register_cell (step_id (3 * s)) (signal_form c.pool.signals s).width (clock_of c d) (bits_at_last c true p s) (whole (signal_value c s)) ∷ [];
  links = [];
}
register_drawing c s p d (AtEdges r) = record {
  wires = inner_wire (step_id (3 * s + 1)) (signal_form c.pool.signals s).width ∷ [];
  cells =
      mux_cell (step_id (3 * s + 2)) (signal_form c.pool.signals s).width (bits_at_last c true p s) (spec_of (map Constant (init_bits c s))) (whole (signal_value c r)) (wire_part (step_id (3 * s + 1)) 0 (signal_form c.pool.signals s).width)
      ∷ register_cell (step_id (3 * s)) (signal_form c.pool.signals s).width (clock_of c d) (wire_part (step_id (3 * s + 1)) 0 (signal_form c.pool.signals s).width) (whole (signal_value c s)) ∷ [];
  links = [];
}
register_drawing c s p d (AtOnce r) = record {
  wires = [];
  cells = clear_cell (step_id (3 * s)) (signal_form c.pool.signals s).width (clock_of c d) (whole (signal_value c r)) (init_bits c s) (bits_at_last c true p s) (whole (signal_value c s)) ∷ [];
  links = [];
}

-- ---- signals

abbrev pub link_to : Circuit → ℕ → List SigPart → Drawing
link_to c s right = record { wires = []; cells = []; links = record { left = whole (signal_value c s); right = right } ∷ [] }

abbrev pub driving_drawing : Circuit → ℕ → Driving → Drawing
driving_drawing c s ByEvents = nothing
driving_drawing c s (ByComb p) = link_to c s (bits_at_last c false p s)
driving_drawing c s (ByClock p d) = register_drawing c s p d (heeding c s d)
driving_drawing c s ByRead = nothing
driving_drawing c s ByNothing = link_to c s (spec_of (map Constant (init_bits c s)))

-- what drives the wire of a signal, where it is no port's; a signal without bits has none
abbrev pub signal_drawing : Circuit → ℕ → Drawing
signal_drawing c s = if nat_lt 0 (signal_form c.pool.signals s).width then driving_drawing c s (driving c s) else nothing
