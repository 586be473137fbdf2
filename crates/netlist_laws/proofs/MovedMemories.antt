-- The state of a design's module keeps the design's memories over events: edges of its clocks, and numbers that inputs take.
use Rattle.std.specs.Prelude.{◌≡◌, ◌<◌, ◌^◌, ◌&&◌, ℕ, max, nat_lt, not, Bool, true, false, if◌then◌else◌, List, [], ◌∷◌, length, slice_set, ℤ, pos, Option, Some, None, IsSome, option_and_then, fold}
use Rattle.std.proofs.Common.{refl, sym, ap, ◌∙◌, arith, subst}
use Rattle.std.proofs.lemmas.Bool.{and_parts, ltb-true, le-ltb, cond-false, cond_both}
use Rattle.design_ir.specs.declared.ids.DomainId.{DomainId}
use Rattle.design_ir.specs.declared.ids.ExprId.{ExprId}
use Rattle.design_ir.specs.declared.ids.SigId.{SigId}
use Rattle.design_ir.specs.declared.memory.MemRead.{MemRead}
use Rattle.design_ir.specs.declared.memory.MemWrite.{MemWrite}
use Rattle.design_ir.specs.declared.memory.Memory.{Memory}
use Rattle.design_ir.specs.declared.event.Event.TheVariants.{Set, Edge}
use Rattle.design_ir.specs.PoolRules.{IsPool}
use Rattle.design_ir.specs.Values.{form, num}
use Rattle.design_ir.specs.Circuits.{Circuit, State, FitsSignals, at, is_input, is_held, domain_named, option_test}
use Rattle.design_ir.specs.Designs.{IsDesign, IsMemory, IsReadPort, IsClocking}
use Rattle.design_ir.specs.Rows.{address, row_at, written}
use Rattle.design_ir.specs.Legal.{Ascending, IsLegal}
use Rattle.design_ir.specs.Steps.{is_active, port_active, write_row, rows_after, reads_now, shown_through, read_word, moved, step}
use Rattle.shape_rules.specs.Operators.{is_zero}
use Rattle.rtlil_text.specs.Rules.{IsModule}
use Rattle.rtlil_text.specs.Sources.{spec_bits}
use Rattle.rtlil_text.specs.Cells.{bit_at}
use Rattle.rtlil_text.specs.Meaning.{Inputs, source_value, State as Kept}
use Rattle.rtlil_text.specs.History as rtl
use Rattle.rtlil_text.proofs.Among.{Among, AllByRecursion-among}
use Rattle.memory_cells.specs.declared.plan.Plan.{Plan}
use Rattle.memory_cells.specs.Carried.{Moment}
use Rattle.memory_cells.specs.Laws.{Stands, RowsFollow, word_after}
use Rattle.memory_cells.specs.declared.clock.Clock.{Clock}
use Rattle.memory_cells.specs.Clocks.{polarity}
use Rattle.netlist_laws.specs.Carried.{Carries}
use Rattle.netlist_laws.specs.Module.{signal_value, clock_of, module_of}
use Rattle.netlist_laws.specs.Histories.{inputs_at}
use Rattle.netlist_laws.specs.PortLaws.{IsCarried, IsClockedPort, HasAddress, WritePortsAreMade}
use Rattle.netlist_laws.specs.MemoryDrawings.{Placed, Reads, all_parts, memories_of, port_clock}
use Rattle.netlist_laws.proofs.PartsDrawn.{IsPartOf, IsStored, memories_stored, placed_among}
use Rattle.netlist_laws.proofs.PortAddresses.{row_width_is}
use Rattle.netlist_laws.proofs.PortEdges.{port_edge, named_domain}
use Rattle.netlist_laws.proofs.PortStands.{stands}
use Rattle.netlist_laws.proofs.MemoriesFit.{IsPlaced, plans_are}
use Rattle.netlist_laws.proofs.KeptRows.{IsLocated, StandsBeside, rows_kept, deep_after, port_located, stands_beside}
use Rattle.netlist_laws.proofs.KeptReads.{KeepsRead}
use Rattle.netlist_laws.proofs.KeptReadSteps.{ReadLaws, read_follows}
use Rattle.netlist_laws.proofs.ReadMoves.{word_cleared, word_moved, word_set}
use Rattle.netlist_laws.proofs.ReadData.{Located}
use Rattle.netlist_laws.proofs.ModuleSteps.{unmoved, clock_still}
use Rattle.netlist_laws.proofs.KeptMemories.{IsReadAt, KeepsMemories, port_rules, read_among, part_among, read_placed, read_part, read_wide, own_read_among}

-- the enable of a clocked port
pub clocked_port : (c : Circuit) (r : MemRead) (d : List ℕ) → r.domain ≡ Some d → IsClocking c r.domain r.enable → (e : ExprId) × IsClockedPort c r d e × IsSome (domain_named c d)
clocked_port c r d clocked h = by r.enable refl (subst (λ o. IsClocking c o r.enable) clocked h)
  where
    by : (o : Option ExprId) → r.enable ≡ o → IsClocking c (Some d) r.enable → (e : ExprId) × IsClockedPort c r d e × IsSome (domain_named c d)
    by None e k = absurd (subst (IsClocking c (Some d)) e k)
    by (Some x) e k = let both = subst (IsClocking c (Some d)) e k in (x, record { domain = clocked; enable = e; usable = both.1 }, both.0)

-- where the clocks of ports have their edges with their domains, and data is after the event what ports take or had
module _ (c : Circuit) (pool : IsPool c.pool) (design : IsDesign c) (few : length (all_parts (memories_of c)) < 10 ^ 18) (rules : IsModule (module_of c))
    (env : List ℤ) (st : State) (listed : List DomainId) (kept : Kept) (old new : Inputs) (made : WritePortsAreMade) (laws : ReadLaws) (follow : RowsFollow)
    (carried : IsCarried (record { design = c; env = env; listed = listed; rtl = module_of c; st = kept; old = old; new = new }))
    (edges : (name : List ℕ) → IsSome (domain_named c name)
    → rtl.is_edge (polarity (port_clock c name)) (bit_at (source_value (rtl.wire_bit (module_of c) kept old)) (spec_bits (port_clock c name).bit) 0) (bit_at (source_value (rtl.wire_bit (module_of c) kept new)) (spec_bits (port_clock c name).bit) 0) ≡ port_active c env listed (Some name)) where
  abbrev t : Moment
  t = record { design = c; env = env; listed = listed; rtl = module_of c; st = kept; old = old; new = new }

  abbrev next : Kept
  next = rtl.step (module_of c) old new kept

  stand : (x : Placed) → Among (memories_of c) x → Stands t x.memory x.plan.id
  stand x a =
      let is : IsPlaced x = AllByRecursion-among IsPlaced (memories_of c) x (plans_are c pool design few) a in
      let own : IsStored c x.memory = AllByRecursion-among (λ (y : Placed). IsStored c y.memory) (memories_of c) x (memories_stored c design) a in
      let tests = and_parts (nat_lt 0 x.memory.depth) (nat_lt 0 x.memory.shape.width) own.1 in
      stands c pool design few rules x a is own.0 (omega (arith, ltb-true 0 x.memory.depth tests.0)) env listed kept old new made carried (λ k n w there. edges w.domain there)

  module _ (after : List ℤ) (words : (m : Memory) (rows : List ℤ) (r : MemRead) → Located c.memories st.rows m rows r → r.word.0 < length c.pool.signals → at after r.word.0 ≡ word_after t m r rows (at st.held r.word.0)) where
    read_kept : (n : ℕ) (x : Placed) (r : MemRead) (d : List ℕ) → IsReadAt c n x r → r.domain ≡ Some d → KeepsMemories c kept st → KeepsRead c next after x.memory n r
    read_kept n x r d here clocked h =
        let part : IsPartOf c x (Reads r) = read_part c pool design few rules n x r here in
        let port : IsReadPort c x.memory r = part.port in
        let is : IsPlaced x = read_placed c pool design few rules n x r here in
        let placed : Among (memories_of c) x = placed_among (memories_of c) x (Reads r) (part_among c pool design few rules n x r here) in
        let memory : IsMemory c x.memory = (AllByRecursion-among (λ (y : Placed). IsStored c y.memory) (memories_of c) x (memories_stored c design) placed).0 in
        let at_clock = clocked_port c r d clocked port.clocking in
        let found : IsLocated kept c.memories st.rows x r = port_located kept x r (own_read_among c pool design few rules n x r here) c st.rows h.rows placed in
        let address : HasAddress x.plan c r.addr = ap (λ (p : Plan). p.address) is.plan ∙ ap (λ v. max 1 v) (row_width_is x.memory.depth (form c.pool r.addr.0).width memory.depth port.addr.width) in
        read_follows laws c rules x.plan x.memory n r d at_clock.0 at_clock.1 port (read_among c pool design few rules n x r here) (read_wide c pool design few rules n x r here) part.some address (ap (λ (p : Plan). p.writes) is.plan)
        env listed kept old new carried (stand x placed) (λ spec. edges d at_clock.2 ∙ ap (port_active c env listed) (sym clocked)) found.rows found.has.long found.has.has st.held after
        (words x.memory found.rows r found.located port.word.there) (h.reads n x r d here clocked)

    -- nothing is read where there are no rows
    read_none : (m : Memory) (rows : List ℤ) (r : MemRead) → length rows ≡ 0 → read_word c env listed m rows r ≡ pos 0
    read_none m rows r none =
        let addr : ℕ = address c.pool env r.addr in
        cond-false (nat_lt addr (length rows)) (shown_through c env listed m r.transparent addr 0 m.writes (at rows addr)) (pos 0) (le-ltb addr (length rows) (omega (arith, none)))

    dry_after : KeepsMemories c kept st → (m : Memory) (r : MemRead) → Among c.memories m → m.depth ≡ 0 → Among m.reads r → at after r.word.0 ≡ pos 0
    dry_after h m r a none b =
        let beside : StandsBeside c.memories st.rows m r = stands_beside c.memories st.rows m r h.deep a b in
        let word : ℤ = read_word c env listed m beside.rows r in
        words m beside.rows r beside.located (port_rules c design m r a b).word.there
        ∙ cond_both (reads_now c env listed r) word (at st.held r.word.0) (λ z. z ≡ pos 0) (λ t. read_none m beside.rows r (beside.long ∙ none)) (λ t. h.dry m r a none b)

    pub memories_kept : KeepsMemories c kept st → KeepsMemories c next (record { held = after; rows = rows_after c env listed c.memories st.rows })
    memories_kept h = record {
      rows = rows_kept t follow stand st.rows h.rows;
      deep = deep_after c env listed c.memories st.rows h.deep;
      reads = λ n x r d here clocked. read_kept n x r d here clocked h;
      dry = dry_after h;
    }

-- ---- edges

module _ (c : Circuit) (pool : IsPool c.pool) (design : IsDesign c) (few : length (all_parts (memories_of c)) < 10 ^ 18) (rules : IsModule (module_of c))
    (env : List ℤ) (fit : FitsSignals c.pool env) (st : State) (listed : List DomainId) (ordered : Ascending 0 listed) (count : length st.held ≡ length c.pool.signals) (same : (t : ℕ) → is_held c t ≡ true → at st.held t ≡ at env t)
    (kept : Kept) (old new : Inputs) (made : WritePortsAreMade) (laws : ReadLaws) (follow : RowsFollow)
    (carried : IsCarried (record { design = c; env = env; listed = listed; rtl = module_of c; st = kept; old = old; new = new })) (signals : (s : ℕ) → Carries (rtl.wire_bit (module_of c) kept old) (signal_value c s) (at env s))
    (events : (s : ℕ) → is_input c s ≡ true → Carries (rtl.wire_bit (module_of c) kept new) (signal_value c s) (at (moved c st env (Edge listed)).held s)) where
  pub memories_moved : KeepsMemories c kept st → KeepsMemories c (rtl.step (module_of c) old new kept) (step c st env (Edge listed))
  memories_moved h =
      memories_kept c pool design few rules env st listed kept old new made laws follow carried
      (λ name there. port_edge c design env fit st listed ordered count same name there (rtl.wire_bit (module_of c) kept old) (rtl.wire_bit (module_of c) kept new) signals events)
      (step c st env (Edge listed)).held
      (λ m rows r located inside. word_cleared c design st m rows r located (moved c st env (Edge listed)) ∙ word_moved c design st m rows r located env listed (omega (arith, count, inside))) h

-- ---- an input takes a number

none_active : (c : Circuit) (env : List ℤ) (o : Option ℕ) → option_test (is_active c env []) o ≡ false
none_active c env None = refl
none_active c env (Some d) = refl

module _ (c : Circuit) (env : List ℤ) where
  no_writes : (m : Memory) (ws : List MemWrite) (rows : List ℤ) → fold (write_row c env [] m) rows ws ≡ rows
  no_writes m [] rows = refl
  no_writes m (w ∷ ws) rows =
      ap (λ (b : Bool). fold (write_row c env [] m) (if b then slice_set rows (address c.pool env w.addr) (written c.pool env m (row_at c.pool env rows w.addr) w) else rows) ws) (none_active c env (domain_named c w.domain))
      ∙ no_writes m ws rows

  rows_still : (ms : List Memory) (all : List (List ℤ)) → rows_after c env [] ms all ≡ all
  rows_still [] all = refl
  rows_still (m ∷ ms) [] = refl
  rows_still (m ∷ ms) (rows ∷ all) = λ i. no_writes m m.writes rows i ∷ rows_still ms all i

module _ (c : Circuit) (pool : IsPool c.pool) (design : IsDesign c) (few : length (all_parts (memories_of c)) < 10 ^ 18) (rules : IsModule (module_of c))
    (env : List ℤ) (st : State) (kept : Kept) (ins : List ℤ) (s : SigId) (n : ℤ) (legal : IsLegal c (Set s n)) (made : WritePortsAreMade) (laws : ReadLaws) (follow : RowsFollow)
    (carried : IsCarried (record { design = c; env = env; listed = []; rtl = module_of c; st = kept; old = inputs_at c ins; new = inputs_at c (slice_set ins s.0 n) })) where
  no_edge : (name : List ℕ) → IsSome (domain_named c name)
      → rtl.is_edge (polarity (port_clock c name)) (bit_at (source_value (rtl.wire_bit (module_of c) kept (inputs_at c ins))) (spec_bits (port_clock c name).bit) 0) (bit_at (source_value (rtl.wire_bit (module_of c) kept (inputs_at c (slice_set ins s.0 n)))) (spec_bits (port_clock c name).bit) 0) ≡ port_active c env [] (Some name)
  no_edge name there =
      let x = named_domain c name there in
      let d : DomainId = x.0 in
      let before = λ (w : Clock). bit_at (source_value (rtl.wire_bit (module_of c) kept (inputs_at c ins))) (spec_bits w.bit) 0 in
      let after = λ (w : Clock). bit_at (source_value (rtl.wire_bit (module_of c) kept (inputs_at c (slice_set ins s.0 n)))) (spec_bits w.bit) 0 in
      ap (λ (w : Clock). rtl.is_edge (polarity w) (before w) (after w)) x.3
      ∙ ap (rtl.is_edge (polarity (clock_of c d)) (before (clock_of c d))) (clock_still c design rules kept ins d x.1 x.2 s n legal)
      ∙ unmoved (clock_of c d).falling (before (clock_of c d))
      ∙ sym (none_active c env (domain_named c name))

  pub memories_set : KeepsMemories c kept st → KeepsMemories c (rtl.step (module_of c) (inputs_at c ins) (inputs_at c (slice_set ins s.0 n)) kept) (step c st env (Set s n))
  memories_set h =
      subst (λ all. KeepsMemories c (rtl.step (module_of c) (inputs_at c ins) (inputs_at c (slice_set ins s.0 n)) kept) (record { held = (step c st env (Set s n)).held; rows = all })) (rows_still c env c.memories st.rows)
      (memories_kept c pool design few rules env st [] kept (inputs_at c ins) (inputs_at c (slice_set ins s.0 n)) made laws follow carried no_edge (step c st env (Set s n)).held
      (λ m rows r located inside. word_cleared c design st m rows r located (moved c st env (Set s n)) ∙ word_set c design st m rows r located s.0 n legal.0 ∙ sym (still m rows r)) h)
    where
      still : (m : Memory) (rows : List ℤ) (r : MemRead) → (if reads_now c env [] r then read_word c env [] m rows r else at st.held r.word.0) ≡ at st.held r.word.0
      still m rows r =
          ap (λ (b : Bool). if b && option_test (λ (e : ExprId). not (is_zero (num c.pool env e.0))) r.enable then read_word c env [] m rows r else at st.held r.word.0) (none_active c env (option_and_then (domain_named c) r.domain))
