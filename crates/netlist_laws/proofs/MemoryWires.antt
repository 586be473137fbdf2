-- Each bit of each wire that parts of memories draw has a value, where expressions carry their numbers.
use Rattle.std.specs.Prelude.{◌≡◌, ◌≤◌, ◌<◌, ◌+◌, ◌*◌, ◌^◌, ℕ, zero, suc, max, Bool, false, cond, List, [], ◌∷◌, length, ℤ, Option, Some, None, Contains}
use Rattle.std.proofs.Common.{refl, sym, ap, ◌∙◌, arith, subst, inl, inr, ⊎_elim}
use Rattle.std.proofs.lemmas.Bool.{cond_both}
use Rattle.design_ir.specs.declared.ids.ExprId.{ExprId}
use Rattle.design_ir.specs.declared.memory.MemWrite.{MemWrite}
use Rattle.design_ir.specs.declared.memory.MemRead.{MemRead}
use Rattle.design_ir.specs.declared.memory.Memory.{Memory}
use Rattle.design_ir.specs.PoolRules.{IsPool}
use Rattle.design_ir.specs.Values.{form, num}
use Rattle.design_ir.specs.Circuits.{Circuit, State, FitsSignals}
use Rattle.design_ir.specs.Designs.{IsDesign, IsMemory, IsAddress, IsReadPort, IsWritePort}
use Rattle.rtlil_text.specs.declared.cell.RtlCell.{RtlCell}
use Rattle.rtlil_text.specs.declared.module.RtlWire.{RtlWire}
use Rattle.rtlil_text.specs.Rules.{IsModule}
use Rattle.rtlil_text.specs.Sources.{spec_bits}
use Rattle.rtlil_text.specs.Cells.{bit_at}
use Rattle.rtlil_text.specs.Meaning.{Inputs, source_value, State as Kept}
use Rattle.rtlil_text.specs.History.{Wires, wire_bit}
use Rattle.rtlil_text.proofs.Among.{Among, AllByRecursion-among, AllByRecursion-append}
use Rattle.memory_cells.specs.declared.plan.Plan.{Plan}
use Rattle.memory_cells.specs.Carried.{Moment}
use Rattle.netlist_laws.specs.Ids.{step_id}
use Rattle.netlist_laws.specs.Cells.{mux_cell}
use Rattle.netlist_laws.specs.Operands.{wire_part}
use Rattle.netlist_laws.specs.Operators.{Drawing, nothing, one_bit, one_cell, whole}
use Rattle.netlist_laws.specs.Carried.{Carries, Obeys}
use Rattle.netlist_laws.specs.PortLaws.{IsCarried, HasAddress}
use Rattle.netlist_laws.specs.Module.{signal_value, expr_value, module_of}
use Rattle.netlist_laws.specs.MemoryDrawings.{Placed, Part, FirstRows, Writes, Reads, names_rows, address_guard, is_row, enable_spec, write_enable, writing, write_behind, write_drawing, read_enable, reading, guarded_read, read_behind, read_drawing, part_drawing, all_parts, drawn_parts, memories_of, memory_drawings}
use Rattle.netlist_laws.proofs.Reading.{HasBits, bit_of, bit_at-wire_part}
use Rattle.netlist_laws.proofs.BitsThere.{IsDefined}
use Rattle.netlist_laws.proofs.OperatorParts.{AreDefined}
use Rattle.netlist_laws.proofs.PortAddresses.{row_width_is, guard_has}
use Rattle.netlist_laws.proofs.PartsDrawn.{IsPartOf, IsStored, design_parts, memories_stored, placed_among}
use Rattle.netlist_laws.proofs.PartsObey.{guard_obeyed, enable_obeyed, read_obeyed}
use Rattle.netlist_laws.proofs.PortStands.{size_is}
use Rattle.netlist_laws.proofs.MemoriesFit.{IsPlaced}
use Rattle.netlist_laws.proofs.WritePorts.{guarded_bit}
use Rattle.netlist_laws.proofs.ReadPorts.{row_given}
use Rattle.netlist_laws.proofs.ModuleObeys.{obeys_logic}
use Rattle.netlist_laws.proofs.KeptRows.{IsLocated, port_located}
use Rattle.netlist_laws.proofs.KeptReads.{IsKeptBehind, raw_spec, held_cell, behind_is, raw_driver, wire_keeps-flag, kept_at}
use Rattle.netlist_laws.proofs.KeptMemories.{IsNumbered, IsReadAt, KeepsMemories, numbered_drawn, numbered_among, read_among, own_read_among, read_placed, read_part}
use Rattle.netlist_laws.proofs.MovedMemories.{clocked_port}
use Rattle.netlist_laws.proofs.MemoryLaws.{MemoryLaws}

-- ---- a drawing of a part has a number

record IsOfPart (c : Circuit) (n : ℕ) (xs : List (Placed × Part)) (d : Drawing) : Type 0 where
  number : ℕ
  placed : Placed
  part : Part
  here : IsNumbered n xs number placed part
  same : part_drawing c placed number part ≡ d

of_part : (c : Circuit) (n : ℕ) (xs : List (Placed × Part)) (d : Drawing) → Among (drawn_parts c n xs) d → IsOfPart c n xs d
of_part c n [] d a = absurd a
of_part c n ((x, q) ∷ xs) d a = ⊎_elim
    (λ (e : part_drawing c x n q ≡ d). record { number = n; placed = x; part = q; here = inl (refl, refl, refl); same = e })
    (λ (later : Among (drawn_parts c (n + 11) xs) d). let k = of_part c (n + 11) xs d later in record { number = k.number; placed = k.placed; part = k.part; here = inr k.here; same = k.same })
    a

module _ (laws : MemoryLaws) (c : Circuit) (pool : IsPool c.pool) (design : IsDesign c) (few : length (all_parts (memories_of c)) < 10 ^ 18) (rules : IsModule (module_of c)) (env : List ℤ) (fit : FitsSignals c.pool env)
    (st : State) (kept : Kept) (inputs : Inputs) (memories : KeepsMemories c kept st) (exprs : (e : ExprId) → e.0 < length c.pool.exprs → Carries (wire_bit (module_of c) kept inputs) (expr_value c e.0) (num c.pool env e.0)) where
  abbrev wires : Wires
  wires = wire_bit (module_of c) kept inputs

  -- each bit of the wire has a value
  abbrev HasAll : RtlWire → Type 0
  HasAll w = IsDefined wires w.id w.width

  -- without an event
  abbrev t : Moment
  t = record { design = c; env = env; listed = []; rtl = module_of c; st = kept; old = inputs; new = inputs }

  carried : IsCarried t
  carried = record { pool = pool; fits = fit; exprs = exprs }

  of_bits : (id : List ℕ) (w : ℕ) (x : ℤ) → HasBits wires id w x → IsDefined wires id w
  of_bits id w x h i l = (bit_of x i, h.at i l)

  of_one : (id : List ℕ) (b : Bool) → wires id 0 ≡ Some b → IsDefined wires id 1
  of_one id b e zero l = (b, e)
  of_one id b e (suc i) l = absurd (omega (arith, l))

  -- ---- guards

  guard_defined : (m : Memory) (n : ℕ) (e : ExprId) → 1 ≤ m.depth → IsAddress c m e → Obeys wires (address_guard c m n e) → AreDefined wires (address_guard c m n e).wires
  guard_defined m n e some is obeys =
      cond_both (names_rows c m e) nothing _ (λ (d : Drawing). AreDefined wires d.wires) (λ f. tt)
      (λ f.
      let bits = guard_has c env pool fit m e is wires (exprs e is.usable.there) n some obeys f in
      (of_bits (step_id (n + 1)) 1 _ bits.0, (of_bits (step_id (n + 3)) (form c.pool e.0).width _ bits.1, tt)))

  -- ---- write ports

  write_defined : (p : Plan) (m : Memory) (k n : ℕ) (w : MemWrite) → 1 ≤ m.depth → IsWritePort c m w → Among (memory_drawings c) (write_drawing c p m k n w) → AreDefined wires (write_drawing c p m k n w).wires
  write_defined p m k n w some port a =
      AllByRecursion-append HasAll (address_guard c m n w.addr).wires (write_behind c p m k n w).wires (guard_defined m n w.addr some port.addr obeys)
      (cond_both (names_rows c m w.addr) (one_cell (writing c p m k n w (write_enable c m n w))) _ (λ (d : Drawing). AreDefined wires d.wires) (λ f. tt) (λ f. (enabled f, tt)))
    where
      obeys : Obeys wires (address_guard c m n w.addr)
      obeys = guard_obeyed c rules kept inputs m n w.addr (write_behind c p m k n w) a

      enabled : names_rows c m w.addr ≡ false → IsDefined wires (step_id (n + 5)) m.shape.width
      enabled f i l =
          let own : 0 + i ≡ i = omega arith in (
            _,
            sym (bit_at-wire_part wires (step_id (n + 5)) 0 m.shape.width i l ∙ ap (wires (step_id (n + 5))) own)
                ∙ ap (λ b. bit_at (source_value wires) (spec_bits (cond b (enable_spec m w) (wire_part (step_id (n + 5)) 0 m.shape.width))) i) (sym f)
                ∙ guarded_bit t pool fit exprs p m some k n w port laws.spreads i l obeys (enable_obeyed c rules kept inputs p m k n w a),
          )

  -- ---- read ports

  module _ (n : ℕ) (x : Placed) (r : MemRead) (here : IsReadAt c n x r) where
    abbrev m : Memory
    m = x.memory

    drawn : Among (memory_drawings c) (read_drawing c x.plan m n r)
    drawn = read_among c pool design few rules n x r here

    part : IsPartOf c x (Reads r)
    part = read_part c pool design few rules n x r here

    port : IsReadPort c m r
    port = part.port

    obeys : Obeys wires (address_guard c m n r.addr)
    obeys = guard_obeyed c rules kept inputs m n r.addr (read_behind c x.plan m n r) drawn

    -- what a port without a clock reads, before its guard
    raw_row : names_rows c m r.addr ≡ false → r.domain ≡ None → IsDefined wires (step_id (n + 5)) m.shape.width
    raw_row f none i l =
        let is : IsPlaced x = read_placed c pool design few rules n x r here in
        let placed : Among (memories_of c) x = placed_among (memories_of c) x (Reads r) (numbered_among (3 * length c.pool.signals) (all_parts (memories_of c)) n x (Reads r) here) in
        let memory : IsMemory c m = (AllByRecursion-among (λ (y : Placed). IsStored c y.memory) (memories_of c) x (memories_stored c design) placed).0 in
        let found : IsLocated kept c.memories st.rows x r = port_located kept x r (own_read_among c pool design few rules n x r here) c st.rows memories.rows placed in
        let address : HasAddress x.plan c r.addr = ap (λ (p : Plan). p.address) is.plan ∙ ap (λ v. max 1 v) (row_width_is m.depth (form c.pool r.addr.0).width memory.depth port.addr.width) in (
          _,
          row_given c env pool fit (module_of c) kept wires x.plan m part.some n r port (exprs r.addr port.addr.usable.there) address obeys found.rows found.has.long found.has.has (size_is c pool design few rules x placed is memory part.some) laws.rows
              laws.guards (step_id (n + 5)) (wire_part (step_id (n + 5)) 0 m.shape.width) ((read_obeyed c rules kept inputs x.plan m n r none port.word.shape drawn).raw f) i l,
        )

    module _ (f : names_rows c m r.addr ≡ false) (d : List ℕ) (clocked : r.domain ≡ Some d) where
      behind : IsKeptBehind c kept st.held m n r
      behind = (memories.reads n x r d here clocked).guarded f

      raw_data : IsDefined wires (step_id (n + 5)) m.shape.width
      raw_data i l =
          (behind.raw i, kept_at c rules x.plan m n r d clocked drawn kept inputs (step_id (n + 5)) i (raw_spec c rules x.plan m n r d clocked drawn) (raw_driver c rules x.plan m n r d clocked drawn f i l) ∙ behind.stored i l)

      flagged : wires (step_id (n + 8)) 0 ≡ Some behind.flag
      flagged = wire_keeps-flag c rules x.plan m n r d clocked drawn f kept inputs ∙ behind.flagged

      next_flag : IsDefined wires (step_id (n + 10)) 1
      next_flag =
          let mux : RtlCell = mux_cell (step_id (n + 9)) 1 (one_bit (step_id (n + 8))) (is_row c m n r.addr) (read_enable c r.enable) (one_bit (step_id (n + 10))) in
          let held_mux : Contains (module_of c).cells mux =
          held_cell c rules x.plan m n r d clocked drawn mux (subst (λ (y : Drawing). Among y.cells mux) (sym (behind_is c rules x.plan m n r d clocked drawn false f)) (inr (inr (inl refl)))) in
          let at_clock = clocked_port c r d clocked port.clocking in
          let next = laws.reads.flags t m n r d at_clock.0 behind.flag carried part.some port at_clock.1 obeys flagged (obeys_logic (module_of c) rules kept inputs mux held_mux refl) in
          of_one (step_id (n + 10)) next.0 next.1

    guarded_defined : names_rows c m r.addr ≡ false → (o : Option (List ℕ)) → r.domain ≡ o → AreDefined wires (guarded_read c x.plan m n r o).wires
    guarded_defined f None none = (raw_row f none, tt)
    guarded_defined f (Some d) clocked = (raw_data f d clocked, (of_one (step_id (n + 8)) (behind f d clocked).flag (flagged f d clocked), (next_flag f d clocked, tt)))

    read_defined : AreDefined wires (read_drawing c x.plan m n r).wires
    read_defined =
        AllByRecursion-append HasAll (address_guard c m n r.addr).wires (read_behind c x.plan m n r).wires (guard_defined m n r.addr part.some port.addr obeys)
        (cond_both (names_rows c m r.addr) (one_cell (reading c x.plan m n r r.domain (whole (signal_value c r.word.0)))) (guarded_read c x.plan m n r r.domain) (λ (d : Drawing). AreDefined wires d.wires) (λ f. tt) (λ f. guarded_defined f r.domain refl))

  -- ---- all parts

  part_defined : (n : ℕ) (x : Placed) (q : Part) → IsNumbered (3 * length c.pool.signals) (all_parts (memories_of c)) n x q → AreDefined wires (part_drawing c x n q).wires
  unfolding memory_drawings
  part_defined n x FirstRows here = tt
  part_defined n x (Writes k w) here =
      let part : IsPartOf c x (Writes k w) = AllByRecursion-among (λ (y : Placed × Part). IsPartOf c y.0 y.1) (all_parts (memories_of c)) (x, Writes k w) (design_parts c design) (numbered_among (3 * length c.pool.signals) (all_parts (memories_of c)) n x (Writes k w) here) in
      write_defined x.plan x.memory k n w part.some part.port (numbered_drawn c (3 * length c.pool.signals) (all_parts (memories_of c)) n x (Writes k w) here)
  part_defined n x (Reads r) here = read_defined n x r here

  pub memory_wires : (d : Drawing) → Among (memory_drawings c) d → AreDefined wires d.wires
  unfolding memory_drawings
  memory_wires d a =
      let k = of_part c (3 * length c.pool.signals) (all_parts (memories_of c)) d a in
      subst (λ (y : Drawing). AreDefined wires y.wires) k.same (part_defined k.number k.placed k.part k.here)
