-- What the state of a design's module keeps of a clocked read port after an event.
use Rattle.std.specs.Prelude.{◌≡◌, ◌≤◌, ◌<◌, ◌+◌, ℕ, max, Bool, true, false, if◌then◌else◌, cond, List, length, ℤ, Some, unwrap_or, Contains, codes}
use Rattle.std.proofs.Common.{refl, sym, ap, ◌∙◌, arith, subst, inl, inr}
use Rattle.std.proofs.lemmas.Bool.{ltb-true}
use Rattle.shape_rules.specs.declared.cell.CellKind.TheVariants.{MemoryRead}
use Rattle.design_ir.specs.declared.ids.DomainId.{DomainId}
use Rattle.design_ir.specs.declared.ids.ExprId.{ExprId}
use Rattle.design_ir.specs.declared.memory.MemRead.{MemRead}
use Rattle.design_ir.specs.declared.memory.Memory.{Memory}
use Rattle.design_ir.specs.Values.{signal_form}
use Rattle.design_ir.specs.Circuits.{Circuit, at}
use Rattle.design_ir.specs.Designs.{IsReadPort}
use Rattle.design_ir.specs.Steps.{port_active, reads_now, read_word}
use Rattle.rtlil_text.specs.declared.sig.SigPart.{SigPart}
use Rattle.rtlil_text.specs.declared.cell.RtlCell.{RtlCell}
use Rattle.rtlil_text.specs.Rules.{IsModule}
use Rattle.rtlil_text.specs.Sources.{bits_at}
use Rattle.rtlil_text.specs.Drivers.{ByCell, driver}
use Rattle.rtlil_text.specs.Meaning.{Inputs, State as Kept}
use Rattle.rtlil_text.specs.History as rtl
use Rattle.rtlil_text.proofs.Among.{Among}
use Rattle.memory_cells.specs.declared.plan.Plan.{Plan}
use Rattle.memory_cells.specs.Bits.{bit_of}
use Rattle.memory_cells.specs.Plans.{through_from}
use Rattle.memory_cells.specs.Carried.{Moment, CarriesRead, HasRows}
use Rattle.memory_cells.specs.Laws.{Stands, ClockedReadsFollow, GuardedReadsFollow, IsBehindGuard, word_after, flag_after}
use Rattle.netlist_laws.specs.Ids.{step_id}
use Rattle.netlist_laws.specs.Cells.{mux_cell}
use Rattle.netlist_laws.specs.Operators.{Drawing, one_bit}
use Rattle.netlist_laws.specs.Module.{wire_id, module_of}
use Rattle.netlist_laws.specs.PortLaws.{IsCarried, HasAddress, IsClockedPort, ClockedReadsAreMade, FlagsAreMade}
use Rattle.netlist_laws.specs.MemoryDrawings.{names_rows, is_row, read_enable, reading, read_behind, read_drawing, memory_drawings}
use Rattle.netlist_laws.proofs.Reading.{bit_at-wire_part}
use Rattle.netlist_laws.proofs.PortAddresses.{exact_row}
use Rattle.netlist_laws.proofs.PartsObey.{guard_obeyed}
use Rattle.netlist_laws.proofs.ModuleObeys.{obeys_logic}
use Rattle.netlist_laws.proofs.KeptReads.{IsKeptBehind, KeepsRead, word_spec, raw_spec, held_cell, behind_is, word_driver, raw_driver, flag_driver, wire_keeps-flag}

-- what is proved of the cells of clocked reads
pub record ReadLaws : Type 0 where
  pub reads : ClockedReadsFollow
  pub guarded : GuardedReadsFollow
  pub made : ClockedReadsAreMade
  pub flags : FlagsAreMade

module _ (laws : ReadLaws) (c : Circuit) (rules : IsModule (module_of c)) (p : Plan) (m : Memory) (n : ℕ) (r : MemRead) (d : List ℕ) (e : ExprId) (clocked : IsClockedPort c r d e) (port : IsReadPort c m r)
    (a : Among (memory_drawings c) (read_drawing c p m n r)) (wide : (signal_form c.pool.signals r.word.0).width ≡ m.shape.width) (some : 1 ≤ m.depth) (address : HasAddress p c r.addr) (counted : p.writes ≡ length m.writes)
    (env : List ℤ) (listed : List DomainId) (kept : Kept) (old new : Inputs) where
  abbrev pub t : Moment
  t = record { design = c; env = env; listed = listed; rtl = module_of c; st = kept; old = old; new = new }

  abbrev next : Kept
  next = rtl.step (module_of c) old new kept

  abbrev cell : List SigPart → RtlCell
  cell spec = reading c p m n r (Some d) spec

  module _ (carried : IsCarried t) (stand : Stands t m p.id) (edge : (spec : List SigPart) → rtl.acts (module_of c) kept old new (cell spec) ≡ port_active c env listed r.domain)
      (rows : List ℤ) (long : length rows ≡ m.depth) (has : HasRows m.shape.width m.depth p.id kept rows) (before after : List ℤ) (word_is : at after r.word.0 ≡ word_after t m r rows (at before r.word.0)) where
    carries : (spec : List SigPart) → CarriesRead t m (cell spec) r
    carries spec = laws.made t p m n r d e spec carried some port address clocked (edge spec) (guard_obeyed c rules kept old m n r.addr (read_behind c p m n r) a)

    mask_is : (spec : List SigPart) → bits_at (cell spec) (codes "\\TRANSPARENCY_MASK") ≡ through_from r.transparent 0 (max 1 (length m.writes))
    mask_is spec = ap (λ k. through_from r.transparent 0 (max 1 k)) counted

    next_is : (id : List ℕ) (i : ℕ) (spec : List SigPart) (b : Bool) → driver (module_of c) id i ≡ ByCell (cell spec) i → kept.registers id i ≡ Some b
        → next.registers id i ≡ rtl.next_bit (module_of c) kept old new (cell spec) i (Some b) MemoryRead
    next_is id i spec b by_cell is = ap (rtl.next_register (module_of c) kept old new (kept.registers id i)) by_cell ∙ ap (λ o. rtl.next_bit (module_of c) kept old new (cell spec) i o MemoryRead) is

    -- the data itself
    exact_after : names_rows c m r.addr ≡ true → (i : ℕ) → i < m.shape.width → kept.registers (wire_id c r.word.0) i ≡ Some (bit_of (at before r.word.0) i) → next.registers (wire_id c r.word.0) i ≡ Some (bit_of (at after r.word.0) i)
    exact_after exact i l was =
        let spec : List SigPart = word_spec c rules p m n r d clocked.domain a in
        let old_bit : Bool = bit_of (at before r.word.0) i in
        let taken = laws.reads t m (cell spec) r rows i old_bit stand (carries spec) long some has (mask_is spec) l in
        let inside = ltb-true _ m.depth (exact_row c env carried.pool carried.fits m r.addr port.addr exact) in
        next_is (wire_id c r.word.0) i spec old_bit (word_driver c rules p m n r d clocked.domain a exact wide i l) was
        ∙ taken.1
        ∙ ap (λ b. Some b) (by (reads_now c env listed r) refl taken.2 (λ on. taken.3 on inside) ∙ ap (λ z. bit_of z i) (sym word_is))
      where
        by : {b : Bool} (on : Bool) → reads_now c env listed r ≡ on → (reads_now c env listed r ≡ false → b ≡ bit_of (at before r.word.0) i) → (reads_now c env listed r ≡ true → b ≡ bit_of (read_word c env listed m rows r) i)
            → b ≡ bit_of (if on then read_word c env listed m rows r else at before r.word.0) i
        by true q low high = high q
        by false q low high = low q

    -- raw data and its flag
    behind_after : names_rows c m r.addr ≡ false → IsKeptBehind c kept before m n r → IsKeptBehind c next after m n r
    behind_after guarded k =
        let spec : List SigPart = raw_spec c rules p m n r d clocked.domain a in
        let wires = rtl.wire_bit (module_of c) kept old in
        let mux : RtlCell = mux_cell (step_id (n + 9)) 1 (one_bit (step_id (n + 8))) (is_row c m n r.addr) (read_enable c r.enable) (one_bit (step_id (n + 10))) in
        let held_mux : Contains (module_of c).cells mux =
        held_cell c rules p m n r d clocked.domain a mux (subst (λ (x : Drawing). Among x.cells mux) (sym (behind_is c rules p m n r d clocked.domain a false guarded)) (inr (inr (inl refl)))) in
        let flagged : wires (step_id (n + 8)) 0 ≡ Some k.flag = wire_keeps-flag c rules p m n r d clocked.domain a guarded kept old ∙ k.flagged in
        let flag = laws.flags t m n r d e k.flag carried some port clocked (guard_obeyed c rules kept old m n r.addr (read_behind c p m n r) a) flagged (obeys_logic (module_of c) rules kept old mux held_mux refl) in
        let taken = λ (i : ℕ) (l : i < m.shape.width). laws.guarded t m (cell spec) r rows (at before r.word.0) i k.flag (k.raw i) stand (carries spec) long some has (mask_is spec) l (k.behind i l) in
        let raw_next = λ (i : ℕ) (l : i < m.shape.width). next_is (step_id (n + 5)) i spec (k.raw i) (raw_driver c rules p m n r d clocked.domain a guarded i l) (k.stored i l) ∙ (taken i l).1 in
        record {
          flag = flag_after t m r k.flag;
          raw = λ i. unwrap_or (next.registers (step_id (n + 5)) i) false;
          flagged =
              ap (rtl.next_register (module_of c) kept old new (kept.registers (step_id (n + 8)) 0)) (flag_driver c rules p m n r d clocked.domain a guarded)
              ∙ (λ j. cond (edge spec j) (bit_at-wire_part wires (step_id (n + 10)) 0 1 0 (omega arith) j) (k.flagged j))
              ∙ ap (λ o. cond (port_active c env listed r.domain) o (Some k.flag)) flag.1
              ∙ some_choice (port_active c env listed r.domain) flag.0 k.flag
              ∙ ap (λ b. Some b) flag.2;
          stored = λ i l. raw_next i l ∙ ap (λ o. Some (unwrap_or o false)) (sym (raw_next i l));
          behind = λ i l.
              subst (λ b. IsBehindGuard (at after r.word.0) i (flag_after t m r k.flag) b) (sym (ap (λ o. unwrap_or o false) (raw_next i l)))
              (subst (λ z. IsBehindGuard z i (flag_after t m r k.flag) (taken i l).0) (sym word_is) (taken i l).2);
        }
      where
        some_choice : (up taken flag : Bool) → cond up (Some taken) (Some flag) ≡ Some (if up then taken else flag)
        some_choice true taken flag = refl
        some_choice false taken flag = refl

    pub read_follows : KeepsRead c kept before m n r → KeepsRead c next after m n r
    read_follows h = record { exact = λ q i l. exact_after q i l (h.exact q i l); guarded = λ q. behind_after q (h.guarded q) }
