-- The module of a design keeps all rules of the text.
use Rattle.std.specs.Prelude.{◌≡◌, ◌<◌, ◌+◌, ◌*◌, ◌^◌, ℕ, zero, suc, nat_lt, max, List, [], ◌∷◌, map, length, All, Contains, IsSome, option_map, unwrap_or}
use Rattle.std.specs.List.{flat_map, range_with_len}
use Rattle.std.proofs.Common.{refl, sym, ap, ◌∙◌, arith, subst, inl, inr, ⊎_elim}
use Rattle.std.proofs.lemmas.Bool.{and_parts, ltb-true}
use Rattle.std.proofs.lemmas.List.Elements.{All-nil, All-cons}
use Rattle.lists.specs.Texts.{text_eq}
use Rattle.design_ir.specs.declared.ids.DomainId.{DomainId}
use Rattle.design_ir.specs.declared.domain.Domain.{Domain}
use Rattle.design_ir.specs.Values.{form}
use Rattle.design_ir.specs.PoolRules.{IsPool}
use Rattle.design_ir.specs.Circuits.{Circuit, domain_named}
use Rattle.design_ir.specs.Designs.{IsDesign, IsMemory}
use Rattle.rtlil_text.specs.MemoryRules.{MemoryFits}
use Rattle.rtlil_text.specs.Rules.{CellFits, LinkFits, IsModule}
use Rattle.rtlil_text.proofs.Among.{Among, Among-append, AllByRecursion-among}
use Rattle.memory_cells.specs.declared.plan.Plan.{Plan}
use Rattle.memory_cells.specs.Plans.{planned}
use Rattle.memory_cells.specs.declared.clock.Clock.{Clock}
use Rattle.netlist_laws.specs.Operators.{Drawing}
use Rattle.netlist_laws.specs.Expressions.{part_total}
use Rattle.netlist_laws.specs.Fits.{DrawingFits}
use Rattle.netlist_laws.specs.Module.{clock_of, drawings, signal_drawing, other_drawings, all_drawings, module_of, no_clock}
use Rattle.netlist_laws.specs.MemoryDrawings.{Placed, Part, port_clock, memories_of, all_parts, memory_drawings, memory_lines}
use Rattle.netlist_laws.proofs.ModuleIds.{module_ids-distinct, module_ids-are}
use Rattle.netlist_laws.proofs.ModuleWires.{module_wires-fit, module_ports-numbered}
use Rattle.netlist_laws.proofs.ModuleDrivers.{module_drivers}
use Rattle.netlist_laws.proofs.ModuleHeld.{All-flat_map, drawing_held, expr_held, signal_held}
use Rattle.netlist_laws.proofs.FittingCells.{SpecIs}
use Rattle.netlist_laws.proofs.PortAddresses.{row_width_is}
use Rattle.netlist_laws.proofs.PortEdges.{position_there, some_number}
use Rattle.netlist_laws.proofs.PartsDrawn.{IsPartOf, IsStored, memories_stored, design_parts, part_at, placed_among}
use Rattle.netlist_laws.proofs.PartsFit.{HasParts, CellLaws, part_fits}
use Rattle.netlist_laws.proofs.MemoriesFit.{IsPlaced, plans_are, has_plan, memory_fits, sees_through}
use Rattle.netlist_laws.proofs.ExpressionCells.{expression_fits}
use Rattle.netlist_laws.proofs.SignalCells.{clock_is, signal_fits}

module _ (c : Circuit) (pool : IsPool c.pool) (h : IsDesign c) where
  -- ---- the drawings of signals

  -- a drawing is that of one of the signals from number k on
  record IsOfSignal (k n : ℕ) (d : Drawing) : Type 0 where
    signal : ℕ
    below : signal < k + n
    same : signal_drawing c signal ≡ d

  of_signal : (k n : ℕ) (d : Drawing) → Among (map (signal_drawing c) (range_with_len k n)) d → IsOfSignal k n d
  of_signal k zero d a = absurd a
  of_signal k (suc n) d a =
      ⊎_elim (λ e. record { signal = k; below = omega arith; same = e }) (λ more. let r = of_signal (k + 1) n d more in record { signal = r.signal; below = omega (arith, r.below); same = r.same }) a

  -- ---- the drawings of memories

  clock_of_port : (name : List ℕ) → IsSome (domain_named c name) → SpecIs (module_of c) (port_clock c name).bit 1
  clock_of_port name there =
      let k = some_number (domain_named c name) there in
      let d : DomainId = record { 0 = k.0 } in
      let same : port_clock c name ≡ clock_of c d = ap (λ o. unwrap_or (option_map (λ n. clock_of c (record { 0 = n })) o) no_clock) k.1 in
      subst (λ (x : Clock). SpecIs (module_of c) x.bit 1) (sym same) (clock_is c pool h d (position_there (λ (x : Domain). text_eq x.name name) c.domains k.0 k.1))

  parts_there : HasParts (module_of c) c
  parts_there = record { exprs = λ k lt. expr_held c k lt; signals = λ s lt. signal_held c s lt; clocks = clock_of_port }

  module _ (laws : CellLaws) (few : length (all_parts (memories_of c)) < 10 ^ 18) where
    memory_part : (d : Drawing) → Among (memory_drawings c) d → All (Contains (module_of c).wires) d.wires → DrawingFits (module_of c) d
    unfolding memory_drawings
    memory_part d a held =
        let r = part_at c (3 * length c.pool.signals) (all_parts (memories_of c)) d a in
        let x : Placed = r.placed in
        let here : Among (memories_of c) x = placed_among (memories_of c) x r.part r.among in
        let is : IsPlaced x = AllByRecursion-among IsPlaced (memories_of c) x (plans_are c pool h few) here in
        let part : IsPartOf c x r.part = AllByRecursion-among (λ (y : Placed × Part). IsPartOf c y.0 y.1) (all_parts (memories_of c)) (x, r.part) (design_parts c h) r.among in
        let memory : IsMemory c x.memory = (AllByRecursion-among (λ (y : Placed). IsStored c y.memory) (memories_of c) x (memories_stored c h) here).0 in
        subst (DrawingFits (module_of c)) r.same
        (part_fits laws (module_of c) c parts_there x (has_plan c pool h few x here is) r.number r.part part.some part.wide part.port (ap (λ (p : Plan). p.width) is.plan) (memory.rows ∙ sym (ap (λ (p : Plan). p.depth) is.plan))
        (λ e addr. ap (λ (p : Plan). p.address) is.plan ∙ ap (λ w. max 1 w) (row_width_is x.memory.depth (form c.pool e.0).width memory.depth addr.width))
        (λ q e spec domain port. sees_through c pool h few x here is r.number q e spec domain port)
        (subst (λ (y : Drawing). All (Contains (module_of c).wires) y.wires) (sym r.same) held))

    lines_fit : (xs : List Placed) → ((x : Placed) → Among xs x → Among (memories_of c) x) → All (MemoryFits (module_of c)) (map (λ (x : Placed). planned x.plan) xs)
    lines_fit [] among = All-nil (MemoryFits (module_of c))
    lines_fit (x ∷ xs) among =
        let here : Among (memories_of c) x = among x (inl refl) in
        let is : IsPlaced x = AllByRecursion-among IsPlaced (memories_of c) x (plans_are c pool h few) here in
        let stored = AllByRecursion-among (λ (y : Placed). IsStored c y.memory) (memories_of c) x (memories_stored c h) here in
        let tests = and_parts (nat_lt 0 x.memory.depth) (nat_lt 0 x.memory.shape.width) stored.1 in
        All-cons (MemoryFits (module_of c)) (planned x.plan) (map (λ (y : Placed). planned y.plan) xs)
        (memory_fits c pool h few x here is laws (omega (arith, ltb-true 0 x.memory.depth tests.0)) (omega (arith, ltb-true 0 x.memory.shape.width tests.1))) (lines_fit xs (λ y a. among y (inr a)))

    drawing_fits : (d : Drawing) → Among (all_drawings c) d → DrawingFits (module_of c) d
    drawing_fits d a =
        let n = length c.pool.signals in
        let G = map (signal_drawing c) (range_with_len 0 n) in
        ⊎_elim (λ e. expression_fits c pool d e)
        (λ other. ⊎_elim
        (λ b.
        let r = of_signal 0 n d b in
        subst (DrawingFits (module_of c)) r.same (signal_fits c pool h r.signal (omega (arith, r.below)) (subst (λ (x : Drawing). All (Contains (module_of c).wires) x.wires) (sym r.same) (drawing_held c d a))))
        (λ m. memory_part d m (drawing_held c d a))
        (Among-append G (memory_drawings c) d other))
        (Among-append (drawings c) (other_drawings c) d a)

    module_cells : All (CellFits (module_of c)) (flat_map (λ (d : Drawing). d.cells) (all_drawings c))
    module_cells = All-flat_map (CellFits (module_of c)) (λ (d : Drawing). d.cells) (all_drawings c) (λ d a. (drawing_fits d a).cells)

    module_links : All (LinkFits (module_of c)) (flat_map (λ (d : Drawing). d.links) (all_drawings c))
    module_links = All-flat_map (LinkFits (module_of c)) (λ (d : Drawing). d.links) (all_drawings c) (λ d a. (drawing_fits d a).links)

    cells_are : (module_of c).cells ≡ flat_map (λ (d : Drawing). d.cells) (all_drawings c)
    unfolding module_of
    cells_are = refl

    links_are : (module_of c).links ≡ flat_map (λ (d : Drawing). d.links) (all_drawings c)
    unfolding module_of
    links_are = refl

    lines_are : (module_of c).memories ≡ memory_lines c
    unfolding module_of
    lines_are = refl

    pub module_rules : part_total c.pool.exprs < 10 ^ 63 → IsModule (module_of c)
    module_rules few_exprs = record {
      distinct = module_ids-distinct c pool few_exprs h few;
      ids = module_ids-are c pool few_exprs h few;
      wires = module_wires-fit c pool h;
      memories = subst (All (MemoryFits (module_of c))) (sym lines_are) (lines_fit (memories_of c) (λ x a. a));
      cells = subst (All (CellFits (module_of c))) (sym cells_are) module_cells;
      links = subst (All (LinkFits (module_of c))) (sym links_are) module_links;
      ports = module_ports-numbered c pool h;
      drivers = module_drivers c pool h;
    }
