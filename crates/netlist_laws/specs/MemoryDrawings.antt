-- The drawings of a design's memories: first rows, write ports and read ports, with guards around the cells.
-- Source: Yosys manual, Cell library: memories; guards, and memories without rows or bits: this project's own rule (docs/RULES.md).
use Rattle.std.specs.Prelude.{ℕ, suc, ◌+◌, ◌*◌, ◌^◌, nat_le, max, Bool, false, if◌then◌else◌, List, [], ◌∷◌, ◌++◌, map, length, pos, Option, Some, None, option_map, unwrap_or}
use Rattle.std.specs.List.{find, filter, flat_map, range_with_len}
use Rattle.design_ir.specs.declared.ids.ExprId.{ExprId}
use Rattle.design_ir.specs.declared.memory.MemWrite.{MemWrite}
use Rattle.design_ir.specs.declared.memory.MemRead.{MemRead}
use Rattle.design_ir.specs.declared.memory.Memory.{Memory}
use Rattle.design_ir.specs.declared.port.Column.{Column}
use Rattle.design_ir.specs.Values.{form}
use Rattle.design_ir.specs.Rows.{granules}
use Rattle.design_ir.specs.Circuits.{Circuit, domain_named}
use Rattle.rtlil_text.specs.declared.sig.SigPart.{SigPart}
use Rattle.rtlil_text.specs.declared.cell.RtlCell.{RtlCell}
use Rattle.rtlil_text.specs.declared.module.RtlWire.{RtlWire}
use Rattle.rtlil_text.specs.declared.module.RtlMemory.{RtlMemory}
use Rattle.rtlil_text.specs.declared.module.WirePort.TheVariants.{Inner}
use Rattle.memory_cells.specs.declared.clock.Clock.{Clock}
use Rattle.memory_cells.specs.declared.plan.Plan.{Plan}
use Rattle.memory_cells.specs.Plans.{planned}
use Rattle.memory_cells.specs.Cells.{init_cell, write_cell, comb_read, clocked_read, spread_spec}
use Rattle.new_names.specs.Fresh.{given_names}
use Rattle.netlist_laws.specs.Ids.{value_id, step_id}
use Rattle.netlist_laws.specs.Cells.{mux_cell}
use Rattle.netlist_laws.specs.Operands.{wire_part, const_spec}
use Rattle.netlist_laws.specs.Operators.{Value, Drawing, inner_wire, one_bit, one_cell, whole}
use Rattle.netlist_laws.specs.Expressions.{and_also}
use Rattle.netlist_laws.specs.PortGuards.{is_exact, address_value, row_spec, address_spec, guard_drawing}
use Rattle.netlist_laws.specs.SignalDrawings.{public_id, signal_value, expr_value, no_clock, clock_of, register_cell, is_there}

-- ---- memories of the module

-- the least width whose numbers name so many rows
abbrev pub row_width : ℕ → ℕ
row_width depth = unwrap_or (find (λ w. nat_le depth (2 ^ w)) (range_with_len 0 17)) 17

abbrev pub plan_of : List ℕ → Memory → Plan
plan_of name m = record { id = public_id name; address = max 1 (row_width m.depth); width = m.shape.width; depth = m.depth; writes = length m.writes }

-- a memory and the plan of its cells
pub record Placed : Type 0 where
  pub plan : Plan
  pub memory : Memory

-- these memories under these names
abbrev pub placed : List (List ℕ) → List Memory → List Placed
placed [] ms = []
placed (name ∷ names) [] = []
placed (name ∷ names) (m ∷ ms) = record { plan = plan_of name m; memory = m } ∷ placed names ms

-- the memories of the module, each under its path, made new against the columns and the memories before it
unfoldable pub memories_of : Circuit → List Placed
memories_of c =
    placed (given_names (map (λ (x : Column). x.name) c.columns) (map (λ (m : Memory). m.name) (filter is_there c.memories))) (filter is_there c.memories)

-- ---- the ends of a port

abbrev pub port_clock : Circuit → List ℕ → Clock
port_clock c name = unwrap_or (option_map (λ d. clock_of c (record { 0 = d })) (domain_named c name)) no_clock

-- its address is no signed number
abbrev pub port_address : Circuit → ExprId → Value
port_address c e = address_value (value_id e.0) (form c.pool e.0).width

-- each number of the address names a row
abbrev pub names_rows : Circuit → Memory → ExprId → Bool
names_rows c m e = is_exact m.depth (form c.pool e.0).width

-- the guard before a port's address, whose ids are numbered from n on; whether the address is one of a row; and what a cell gets for it
abbrev pub address_guard : Circuit → Memory → (n : ℕ) → ExprId → Drawing
address_guard c m n e = guard_drawing step_id n m.depth (port_address c e)

abbrev pub is_row : Circuit → Memory → (n : ℕ) → ExprId → List SigPart
is_row c m n e = row_spec step_id n m.depth (port_address c e)

abbrev pub guarded_address : Circuit → Memory → (n : ℕ) → ExprId → List SigPart
guarded_address c m n e = address_spec step_id n m.depth (port_address c e)

-- these bits where the one bit of s is 1, else zeros
abbrev pub zeros_unless : List ℕ → ℕ → (bits s y : List SigPart) → RtlCell
zeros_unless id width bits s y = mux_cell id width (const_spec width (pos 0)) bits s y

-- ---- write ports

abbrev pub enable_spec : Memory → MemWrite → List SigPart
enable_spec m w = spread_spec (value_id w.enable.0) w.granularity (granules m w)

-- write port k with this enable
abbrev pub writing : Circuit → Plan → Memory → (k n : ℕ) → MemWrite → List SigPart → RtlCell
writing c p m k n w enable = write_cell p (step_id (n + 6)) k (port_clock c w.domain) enable (guarded_address c m n w.addr) (whole (expr_value c w.word.0))

-- what it lets through: nothing past the depth
abbrev pub write_enable : Circuit → Memory → (n : ℕ) → MemWrite → List SigPart
write_enable c m n w = if names_rows c m w.addr then enable_spec m w else wire_part (step_id (n + 5)) 0 m.shape.width

-- where an address may be past the depth, its one bit lets the enable through
abbrev pub write_behind : Circuit → Plan → Memory → (k n : ℕ) → MemWrite → Drawing
write_behind c p m k n w =
    if names_rows c m w.addr then one_cell (writing c p m k n w (write_enable c m n w))
    else record {
      wires = inner_wire (step_id (n + 5)) m.shape.width ∷ [];
      cells =
          zeros_unless (step_id (n + 4)) m.shape.width (enable_spec m w) (is_row c m n w.addr) (wire_part (step_id (n + 5)) 0 m.shape.width)
          ∷ writing c p m k n w (write_enable c m n w) ∷ [];
      links = [];
    }

abbrev pub write_drawing : Circuit → Plan → Memory → (k n : ℕ) → MemWrite → Drawing
write_drawing c p m k n w = and_also (address_guard c m n w.addr) (write_behind c p m k n w)

-- ---- read ports

abbrev pub read_enable : Circuit → Option ExprId → List SigPart
read_enable c None = []
read_enable c (Some e) = whole (expr_value c e.0)

-- the cell of a read port, which gives these bits
abbrev pub reading : Circuit → Plan → Memory → (n : ℕ) → MemRead → Option (List ℕ) → List SigPart → RtlCell
reading c p m n r None word = comb_read p (step_id (n + 4)) (guarded_address c m n r.addr) word
reading c p m n r (Some d) word = clocked_read p (step_id (n + 4)) r.transparent (port_clock c d) (read_enable c r.enable) (guarded_address c m n r.addr) word

-- what the cell reads past the depth is dropped: by the address where it reads at once, else by a flag that keeps whether the last
-- address was one of a row
abbrev pub flag_wire : ℕ → RtlWire
flag_wire n = record { id = step_id (n + 8); width = 1; port = Inner; init = Some (false ∷ []) }

-- the flag of a read port at this domain's edge, and the data that it shows
abbrev pub flagged : Circuit → Memory → (n : ℕ) → MemRead → List ℕ → Drawing
flagged c m n r d = record {
  wires = flag_wire n ∷ inner_wire (step_id (n + 10)) 1 ∷ [];
  cells =
      register_cell (step_id (n + 7)) 1 (port_clock c d) (one_bit (step_id (n + 10))) (one_bit (step_id (n + 8)))
      ∷ mux_cell (step_id (n + 9)) 1 (one_bit (step_id (n + 8))) (is_row c m n r.addr) (read_enable c r.enable) (one_bit (step_id (n + 10)))
      ∷ zeros_unless (step_id (n + 6)) m.shape.width (wire_part (step_id (n + 5)) 0 m.shape.width) (one_bit (step_id (n + 8))) (whole (signal_value c r.word.0)) ∷ [];
  links = [];
}

abbrev pub guarded_read : Circuit → Plan → Memory → (n : ℕ) → MemRead → Option (List ℕ) → Drawing
guarded_read c p m n r None = record {
  wires = inner_wire (step_id (n + 5)) m.shape.width ∷ [];
  cells =
      reading c p m n r None (wire_part (step_id (n + 5)) 0 m.shape.width)
      ∷ zeros_unless (step_id (n + 6)) m.shape.width (wire_part (step_id (n + 5)) 0 m.shape.width) (is_row c m n r.addr) (whole (signal_value c r.word.0)) ∷ [];
  links = [];
}
guarded_read c p m n r (Some d) = record {
  wires = inner_wire (step_id (n + 5)) m.shape.width ∷ flag_wire n ∷ inner_wire (step_id (n + 10)) 1 ∷ [];
  cells =
      reading c p m n r (Some d) (wire_part (step_id (n + 5)) 0 m.shape.width)
      ∷ register_cell (step_id (n + 7)) 1 (port_clock c d) (one_bit (step_id (n + 10))) (one_bit (step_id (n + 8)))
      ∷ mux_cell (step_id (n + 9)) 1 (one_bit (step_id (n + 8))) (is_row c m n r.addr) (read_enable c r.enable) (one_bit (step_id (n + 10)))
      ∷ zeros_unless (step_id (n + 6)) m.shape.width (wire_part (step_id (n + 5)) 0 m.shape.width) (one_bit (step_id (n + 8))) (whole (signal_value c r.word.0)) ∷ [];
  links = [];
}

abbrev pub read_behind : Circuit → Plan → Memory → (n : ℕ) → MemRead → Drawing
read_behind c p m n r = if names_rows c m r.addr then one_cell (reading c p m n r r.domain (whole (signal_value c r.word.0))) else guarded_read c p m n r r.domain

abbrev pub read_drawing : Circuit → Plan → Memory → (n : ℕ) → MemRead → Drawing
read_drawing c p m n r = and_also (address_guard c m n r.addr) (read_behind c p m n r)

-- ---- all of them

-- a part of a memory: its first rows, write port k, or a read port
pub data Part : Type 0 where
  FirstRows : Part
  Writes : ℕ → MemWrite → Part
  Reads : MemRead → Part

abbrev pub write_parts : ℕ → List MemWrite → List Part
write_parts k [] = []
write_parts k (w ∷ ws) = Writes k w ∷ write_parts (suc k) ws

abbrev pub parts_of : Memory → List Part
parts_of m = FirstRows ∷ write_parts 0 m.writes ++ map Reads m.reads

abbrev pub part_drawing : Circuit → Placed → ℕ → Part → Drawing
part_drawing c x n FirstRows = one_cell (init_cell x.plan (step_id n) x.memory.rows)
part_drawing c x n (Writes k w) = write_drawing c x.plan x.memory k n w
part_drawing c x n (Reads r) = read_drawing c x.plan x.memory n r

-- each part of each memory
abbrev pub all_parts : List Placed → List (Placed × Part)
all_parts xs = flat_map (λ (x : Placed). map (λ q. (x, q)) (parts_of x.memory)) xs

-- eleven ids for each of these parts, numbered from n on
abbrev pub drawn_parts : Circuit → ℕ → List (Placed × Part) → List Drawing
drawn_parts c n [] = []
drawn_parts c n ((x, q) ∷ more) = part_drawing c x n q ∷ drawn_parts c (n + 11) more

-- behind the ids of registers, of which each signal may be one
unfoldable pub memory_drawings : Circuit → List Drawing
memory_drawings c = drawn_parts c (3 * length c.pool.signals) (all_parts (memories_of c))

abbrev pub memory_lines : Circuit → List RtlMemory
memory_lines c = map (λ (x : Placed). planned x.plan) (memories_of c)
