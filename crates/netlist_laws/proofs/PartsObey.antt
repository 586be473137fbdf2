-- The wires of the module of a design obey the drawings of its memories' parts.
use Rattle.std.specs.Prelude.{◌≡◌, ◌+◌, ℕ, Bool, true, false, if◌then◌else◌, List, map, length, Some, None}
use Rattle.std.specs.List.{range_with_len}
use Rattle.std.proofs.Common.{refl, sym, ap, ◌∙◌, arith, subst, inl, inr}
use Rattle.std.proofs.lemmas.Bool.{cond_both, false≢true}
use Rattle.shape_rules.specs.Forms.{Form}
use Rattle.design_ir.specs.declared.ids.ExprId.{ExprId}
use Rattle.design_ir.specs.declared.memory.MemWrite.{MemWrite}
use Rattle.design_ir.specs.declared.memory.MemRead.{MemRead}
use Rattle.design_ir.specs.declared.memory.Memory.{Memory}
use Rattle.design_ir.specs.Values.{signal_form}
use Rattle.design_ir.specs.Circuits.{Circuit}
use Rattle.rtlil_text.specs.declared.sig.SigPart.{SigPart}
use Rattle.rtlil_text.specs.declared.cell.RtlCell.{RtlCell}
use Rattle.rtlil_text.specs.Rules.{IsModule}
use Rattle.rtlil_text.specs.Sources.{Net}
use Rattle.rtlil_text.specs.Meaning.{Inputs, State, source_value, driven_bit}
use Rattle.rtlil_text.specs.History.{Wires, wire_bit}
use Rattle.rtlil_text.proofs.Among.{Among, Among-left, Among-right, AllByRecursion-among}
use Rattle.rtlil_text.proofs.Driven.{driver-cell}
use Rattle.rtlil_text.proofs.Enough.{wire_bit-driven}
use Rattle.memory_cells.specs.declared.plan.Plan.{Plan}
use Rattle.netlist_laws.specs.Ids.{step_id}
use Rattle.netlist_laws.specs.Operands.{wire_part}
use Rattle.netlist_laws.specs.Operators.{Drawing, nothing, one_cell, whole}
use Rattle.netlist_laws.specs.Expressions.{and_also}
use Rattle.netlist_laws.specs.Carried.{ObeysCell, ObeysLink, Obeys}
use Rattle.netlist_laws.specs.Module.{wire_id, signal_value, drawings, signal_drawing, other_drawings, all_drawings, module_of}
use Rattle.netlist_laws.specs.MemoryDrawings.{names_rows, address_guard, is_row, zeros_unless, enable_spec, write_enable, writing, write_behind, write_drawing, reading, guarded_read, read_behind, read_drawing, memory_drawings}
use Rattle.netlist_laws.specs.PortLaws.{ObeysEnable, GivesRow, ObeysRead}
use Rattle.netlist_laws.proofs.Places.{slice_get-wire_part}
use Rattle.netlist_laws.proofs.LogicCells.{IsLogic, AreLogic}
use Rattle.netlist_laws.proofs.ModuleHeld.{All-among}
use Rattle.netlist_laws.proofs.ModuleParts.{cell_held, link_held}
use Rattle.netlist_laws.proofs.ModuleObeys.{obeys_link, obeys_logic}

module _ (c : Circuit) (rules : IsModule (module_of c)) (kept : State) (inputs : Inputs) where
  abbrev wires : Wires
  wires = wire_bit (module_of c) kept inputs

  -- a part's drawing is one of the module's
  part_among : (d : Drawing) → Among (memory_drawings c) d → Among (all_drawings c) d
  part_among d a = Among-right (drawings c) (other_drawings c) d (Among-right (map (signal_drawing c) (range_with_len 0 (length c.pool.signals))) (memory_drawings c) d a)

  -- a cell of it that goes by its operands alone
  logic_cell : (d : Drawing) (x : RtlCell) → Among (memory_drawings c) d → Among d.cells x → IsLogic x → ObeysCell wires x
  logic_cell d x a b logic = obeys_logic (module_of c) rules kept inputs x (cell_held c d x (part_among d a) b) logic

  guard_logic : (m : Memory) (n : ℕ) (e : ExprId) → AreLogic (address_guard c m n e)
  guard_logic m n e = cond_both (names_rows c m e) nothing _ AreLogic (λ t. tt) (λ t. (refl, (refl, tt)))

  -- the guard before a port
  pub guard_obeyed : (m : Memory) (n : ℕ) (e : ExprId) (behind : Drawing) → Among (memory_drawings c) (and_also (address_guard c m n e) behind) → Obeys wires (address_guard c m n e)
  guard_obeyed m n e behind a =
      let g : Drawing = address_guard c m n e in
      let d : Drawing = and_also g behind in
      record {
        cells = All-among (ObeysCell wires) g.cells (λ x b. logic_cell d x a (Among-left g.cells behind.cells x b) (AllByRecursion-among IsLogic g.cells x (guard_logic m n e) b));
        links = All-among (ObeysLink wires) g.links (λ l b. obeys_link (module_of c) rules kept inputs l (link_held c d l (part_among d a) (Among-left g.links behind.links l b)));
      }

  -- ---- write ports

  pub enable_obeyed : (p : Plan) (m : Memory) (k n : ℕ) (w : MemWrite) → Among (memory_drawings c) (write_drawing c p m k n w) → ObeysEnable wires c m n w
  enable_obeyed p m k n w a e =
      let cell : RtlCell = zeros_unless (step_id (n + 4)) m.shape.width (enable_spec m w) (is_row c m n w.addr) (wire_part (step_id (n + 5)) 0 m.shape.width) in
      let behind : Among (write_behind c p m k n w).cells cell = cond_both (names_rows c m w.addr) (one_cell (writing c p m k n w (write_enable c m n w))) _ (λ (d : Drawing). names_rows c m w.addr ≡ false → Among d.cells cell) (λ t f. absurd (false≢true (sym f ∙ t))) (λ t f. inl refl) e in
      logic_cell (write_drawing c p m k n w) cell a (Among-right (address_guard c m n w.addr).cells (write_behind c p m k n w).cells cell behind) refl

  -- ---- read ports without a clock

  gives_row : (p : Plan) (m : Memory) (n : ℕ) (r : MemRead) (d : Drawing) (id : List ℕ) (v : ℕ) → v ≡ m.shape.width → Among (memory_drawings c) d → Among d.cells (reading c p m n r None (wire_part id 0 v)) → GivesRow (module_of c) kept wires c p m n r id (wire_part id 0 v)
  gives_row p m n r d id v wide a b i h =
      let cell : RtlCell = reading c p m n r None (wire_part id 0 v) in
      let own : 0 + i ≡ i = omega arith in
      wire_bit-driven (module_of c) kept inputs id i
      ∙ ap (driven_bit (module_of c) kept inputs (source_value wires) id i)
      (driver-cell (module_of c) cell i id i rules (cell_held c d cell (part_among d a) b) (slice_get-wire_part id 0 v i (omega (arith, h, wide)) ∙ ap (λ k. Some (Net id k)) own))

  pub read_obeyed : (p : Plan) (m : Memory) (n : ℕ) (r : MemRead) → r.domain ≡ None → signal_form c.pool.signals r.word.0 ≡ m.shape → Among (memory_drawings c) (read_drawing c p m n r) → ObeysRead (module_of c) kept wires c p m n r
  read_obeyed p m n r none shape a =
      let d : Drawing = read_drawing c p m n r in
      let word : List SigPart = whole (signal_value c r.word.0) in
      let raw : List SigPart = wire_part (step_id (n + 5)) 0 m.shape.width in
      let mux : RtlCell = zeros_unless (step_id (n + 6)) m.shape.width raw (is_row c m n r.addr) word in
      let width : (signal_form c.pool.signals r.word.0).width ≡ m.shape.width = ap (λ (f : Form). f.width) shape in
      let right : (x : RtlCell) → Among (read_behind c p m n r).cells x → Among d.cells x = λ x b. Among-right (address_guard c m n r.addr).cells (read_behind c p m n r).cells x b in
      let is : (b : Bool) → names_rows c m r.addr ≡ b → (read_behind c p m n r).cells ≡ (if b then one_cell (reading c p m n r None word) else guarded_read c p m n r None).cells =
      λ b e i. (if e i then one_cell (reading c p m n r (none i) word) else guarded_read c p m n r (none i)).cells in
      record {
        exact = λ e. gives_row p m n r d (wire_id c r.word.0) (signal_form c.pool.signals r.word.0).width width a (right (reading c p m n r None word) (subst (λ cells. Among cells (reading c p m n r None word)) (sym (is true e)) (inl refl)));
        raw = λ e. gives_row p m n r d (step_id (n + 5)) m.shape.width refl a (right (reading c p m n r None raw) (subst (λ cells. Among cells (reading c p m n r None raw)) (sym (is false e)) (inl refl)));
        guard = λ e. logic_cell d mux a (right mux (subst (λ cells. Among cells mux) (sym (is false e)) (inr (inl refl)))) refl;
      }
