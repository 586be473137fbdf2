-- A module in a state of its design: each wire carries the settled environment.
use Rattle.std.specs.Prelude.{◌≡◌, ℕ, max, ◌<◌, ◌^◌, Bool, true, false, List, length, slice_get, ℤ, pos, Some, None, IsSomeAnd}
use Rattle.std.specs.List.{AllByRecursion}
use Rattle.std.proofs.Common.{refl, sym, ap, ◌∙◌, arith, subst}
use Rattle.std.proofs.lemmas.List.{get_or_past}
use Rattle.amh_bits.specs.Patterns.{pattern}
use Rattle.shape_rules.specs.Forms.{Form}
use Rattle.design_ir.specs.declared.ids.ExprId.{ExprId}
use Rattle.design_ir.specs.declared.signal.Sig.{Sig}
use Rattle.design_ir.specs.declared.memory.MemRead.{MemRead}
use Rattle.design_ir.specs.PoolRules.{IsPool}
use Rattle.design_ir.specs.Targets.{Bit}
use Rattle.design_ir.specs.Values.{form, num, signal_form}
use Rattle.design_ir.specs.Circuits.{Circuit, State, at, is_held}
use Rattle.design_ir.specs.Designs.{IsDesign, IsMemory, IsReadPort}
use Rattle.design_ir.specs.Rows.{address}
use Rattle.design_ir.specs.Settled.{Settled}
use Rattle.design_ir.proofs.NumbersFit.{FitsSignals}
use Rattle.comb_graph.specs.Orders.{IsOrder}
use Rattle.rtlil_text.specs.Rules.{IsModule}
use Rattle.rtlil_text.specs.Cells.{number_bits}
use Rattle.rtlil_text.specs.Meaning.{State as Kept}
use Rattle.rtlil_text.specs.History.{Wires, wire_bit}
use Rattle.rtlil_text.proofs.Among.{Among, AllByRecursion-among}
use Rattle.memory_cells.specs.declared.plan.Plan.{Plan}
use Rattle.netlist_laws.specs.Ids.{value_id}
use Rattle.netlist_laws.specs.Carried.{Carries}
use Rattle.netlist_laws.specs.Made.{HasByteStride}
use Rattle.netlist_laws.specs.Plain.{ArePlain}
use Rattle.netlist_laws.specs.PoolsDrawn.{AllFollow}
use Rattle.netlist_laws.specs.Histories.{inputs_at}
use Rattle.netlist_laws.specs.PortLaws.{HasAddress}
use Rattle.netlist_laws.specs.Module.{wire_id, signal_value, expr_value, driving, ByNothing, is_there, module_of}
use Rattle.netlist_laws.specs.MemoryDrawings.{Placed, Reads, read_behind, read_drawing, all_parts, memories_of, memory_drawings}
use Rattle.netlist_laws.proofs.Reading.{HasBits, bit_of}
use Rattle.netlist_laws.proofs.BitWrites.{some_signal}
use Rattle.netlist_laws.proofs.SettledNumbers.{settled_held}
use Rattle.netlist_laws.proofs.SettledReads.{settled_read}
use Rattle.netlist_laws.proofs.SettledWires.{Shows}
use Rattle.netlist_laws.proofs.PoolsMade.{all_follow}
use Rattle.netlist_laws.proofs.ModuleObeys.{part_start, obeys_signal, all_drawn}
use Rattle.netlist_laws.proofs.OrderedBits.{signal_carries, expr_carries}
use Rattle.netlist_laws.proofs.ModuleStates.{AgreeOnInputs, Keeps, undriven_bits, held_carries}
use Rattle.netlist_laws.proofs.PartsDrawn.{IsPartOf, IsStored, memories_stored}
use Rattle.netlist_laws.proofs.PartsObey.{guard_obeyed, read_obeyed}
use Rattle.netlist_laws.proofs.PortAddresses.{row_width_is}
use Rattle.netlist_laws.proofs.PortStands.{size_is}
use Rattle.netlist_laws.proofs.MemoriesFit.{IsPlaced}
use Rattle.netlist_laws.proofs.KeptRows.{IsLocated, StandsBeside, port_located, stands_beside}
use Rattle.netlist_laws.proofs.MemoryLaws.{MemoryLaws}
use Rattle.netlist_laws.proofs.KeptMemories.{IsReadAt, KeepsMemories, port_rules, read_among, own_read_among, read_placed, read_part, read_wide}
use Rattle.netlist_laws.proofs.PortSignals.{HasPort, is_comb_port, none_is, no_rows, drawn_at, driving-away}

module _ (laws : MemoryLaws) (c : Circuit) (order : List Bit) (rules : IsPool c.pool) (bytes : AllByRecursion HasByteStride c.pool.exprs) (design : IsDesign c) (plain : ArePlain c) (few : length (all_parts (memories_of c)) < 10 ^ 18) (module_rules : IsModule (module_of c)) (is_order : IsOrder c order)
    (st : State) (env : List ℤ) (settled : Settled c st env) (fit : FitsSignals c.pool env) (kept : Kept) (ins : List ℤ) (memories : KeepsMemories c kept st) (agree : AgreeOnInputs c ins st.held) (keeps : Keeps c kept st.held) where
  -- the wires of the module there
  abbrev pub wires : Wires
  wires = wire_bit (module_of c) kept (inputs_at c ins)

  held_so : (s : ℕ) → is_held c s ≡ true → Carries wires (signal_value c s) (at env s)
  held_so s held i inside =
      let w : ℕ = (signal_form c.pool.signals s).width in
      let there : s < length c.pool.signals = some_signal c.pool.signals s (omega (arith, inside)) in
      let same : at st.held s ≡ at env s = sym (settled_held c env design st settled s there held) in
      held_carries c rules design few module_rules laws.shown st kept ins memories agree keeps s held i inside ∙ ap (λ z. slice_get (number_bits w (pattern w z)) i) same

  -- ---- ports without a clock

  abbrev Has : ℕ → Type 0
  Has s = HasBits wires (wire_id c s) (signal_form c.pool.signals s).width (at env s)

  drawn_has : (n : ℕ) (x : Placed) (r : MemRead) → IsReadAt c n x r → Among (memories_of c) x → r.domain ≡ None → Carries wires (expr_value c r.addr.0) (num c.pool env r.addr.0) → Has r.word.0
  drawn_has n x r here placed none carried =
      let part : IsPartOf c x (Reads r) = read_part c rules design few module_rules n x r here in
      let port : IsReadPort c x.memory r = part.port in
      let is : IsPlaced x = read_placed c rules design few module_rules n x r here in
      let memory : IsMemory c x.memory = (AllByRecursion-among (λ (y : Placed). IsStored c y.memory) (memories_of c) x (memories_stored c design) placed).0 in
      let found : IsLocated kept c.memories st.rows x r = port_located kept x r (own_read_among c rules design few module_rules n x r here) c st.rows memories.rows placed in
      let among : Among (memory_drawings c) (read_drawing c x.plan x.memory n r) = read_among c rules design few module_rules n x r here in
      let address : HasAddress x.plan c r.addr = ap (λ (p : Plan). p.address) is.plan ∙ ap (λ v. max 1 v) (row_width_is x.memory.depth (form c.pool r.addr.0).width memory.depth port.addr.width) in
      let wide : (signal_form c.pool.signals r.word.0).width ≡ x.memory.shape.width = read_wide c rules design few module_rules n x r here in
      record {
        at = λ i l.
            laws.comb c env (module_of c) kept wires x.plan x.memory n r found.rows rules fit part.some port address carried found.has.long found.has.has (size_is c rules design few module_rules x placed is memory part.some)
            (guard_obeyed c module_rules kept (inputs_at c ins) x.memory n r.addr (read_behind c x.plan x.memory n r) among) (read_obeyed c module_rules kept (inputs_at c ins) x.plan x.memory n r none port.word.shape among) i (omega (arith, l, wide))
            ∙ ap (λ z. Some (bit_of z i)) (sym (settled_read c env design st settled x.memory found.rows r found.located none port.word.there));
      }

  -- of a memory without rows
  dry_has : (s : ℕ) (h : HasPort c s is_comb_port) → is_there h.memory ≡ false → driving c s ≡ ByNothing → Has s
  dry_has s h away nothing = record {
    at = λ i l.
        let rule : IsReadPort c h.memory h.port = port_rules c design h.memory h.port h.stored h.among in
        let own : (signal_form c.pool.signals s).width ≡ h.memory.shape.width = ap (λ k. (signal_form c.pool.signals k).width) (sym h.word) ∙ ap (λ (f : Form). f.width) rule.word.shape in
        let beside : StandsBeside c.memories st.rows h.memory h.port = stands_beside c.memories st.rows h.memory h.port memories.deep h.stored h.among in
        let none : length beside.rows ≡ 0 = beside.long ∙ no_rows h.memory away (omega (arith, own, l)) in
        let number : at env s ≡ pos 0 =
        ap (at env) (sym h.word) ∙ settled_read c env design st settled h.memory beside.rows h.port beside.located (none_is h.port.domain h.is) rule.word.there
        ∙ get_or_past beside.rows (address c.pool env h.port.addr) (pos 0) (omega (arith, none)) in
        (undriven_bits c module_rules kept (inputs_at c ins) s (omega (arith, l)) nothing (subst (λ k. IsSomeAnd (slice_get c.pool.signals k) (λ (y : Sig). y.init ≡ pos 0)) h.word rule.word_init)).at i l
        ∙ ap (λ z. Some (bit_of z i)) (sym number);
  }

  read_has : (s : ℕ) (h : HasPort c s is_comb_port) → Carries wires (expr_value c h.port.addr.0) (num c.pool env h.port.addr.0) → Has s
  read_has s h carried = by (is_there h.memory) refl
    where
      by : (b : Bool) → is_there h.memory ≡ b → Has s
      by true there =
          let d = drawn_at c h.memory h.port h.stored there h.among in
          subst Has h.word (drawn_has d.number d.placed h.port d.here d.among (none_is h.port.domain h.is) carried)
      by false away = dry_has s h away (driving-away c design s is_comb_port h away)

  -- ---- all

  follow : AllFollow wires c.pool env (wire_id c) value_id
  follow = all_follow wires c.pool env (wire_id c) value_id (part_start c.pool.exprs) rules fit (all_drawn c module_rules kept (inputs_at c ins) bytes)

  pub signals_carry : (s : ℕ) → Carries wires (signal_value c s) (at env s)
  signals_carry = signal_carries c order rules design plain is_order wires st env settled fit follow (λ s there. obeys_signal c module_rules kept (inputs_at c ins) s there) held_so read_has

  pub exprs_carry : (e : ExprId) → e.0 < length c.pool.exprs → Carries wires (expr_value c e.0) (num c.pool env e.0)
  exprs_carry = expr_carries c order rules design plain is_order wires st env settled fit follow (λ s there. obeys_signal c module_rules kept (inputs_at c ins) s there) held_so read_has

  pub shows : Shows wires c env
  shows e u = exprs_carry e u.there
