-- The memories of a design's module stand for those of the design: as many rows, and a write cell that carries each write port.
use Rattle.std.specs.Prelude.{◌≡◌, ◌≤◌, ◌<◌, ◌+◌, ◌^◌, ℕ, suc, false, if◌then◌else◌, max, List, [], ◌∷◌, ◌++◌, map, length, ℤ, Option, Some, IsSome, option_map, unwrap_or}
use Rattle.std.specs.List.{AllByRecursion, AllZip, IsDistinct, find}
use Rattle.std.proofs.Common.{refl, sym, ap, ◌∙◌, subst, inl, inr, ⊎_elim}
use Rattle.std.proofs.lemmas.Map.Keys.{IsDistinct-head, IsDistinct-tail}
use Rattle.lists.specs.Texts.{text_eq}
use Rattle.lists.proofs.TextLaws.{text_eq_same}
use Rattle.design_ir.specs.declared.ids.DomainId.{DomainId}
use Rattle.design_ir.specs.declared.memory.MemWrite.{MemWrite}
use Rattle.design_ir.specs.declared.memory.MemRead.{MemRead}
use Rattle.design_ir.specs.declared.memory.Memory.{Memory}
use Rattle.design_ir.specs.PoolRules.{IsPool}
use Rattle.design_ir.specs.Values.{form}
use Rattle.design_ir.specs.Circuits.{Circuit, domain_named}
use Rattle.design_ir.specs.Designs.{IsDesign, IsMemory, IsGranularity, IsWritePort}
use Rattle.design_ir.specs.Steps.{port_active}
use Rattle.rtlil_text.specs.declared.sig.SigPart.{SigPart}
use Rattle.rtlil_text.specs.Sources.{spec_bits}
use Rattle.rtlil_text.specs.Cells.{bit_at}
use Rattle.rtlil_text.specs.declared.module.RtlMemory.{RtlMemory}
use Rattle.rtlil_text.specs.Rules.{IsModule}
use Rattle.rtlil_text.specs.Meaning.{Inputs, State, memory_size, source_value}
use Rattle.rtlil_text.specs.History.{wire_bit, is_edge, acts}
use Rattle.rtlil_text.proofs.Among.{Among}
use Rattle.memory_cells.specs.declared.plan.Plan.{Plan}
use Rattle.memory_cells.specs.Plans.{planned}
use Rattle.memory_cells.specs.Cells.{write_cells}
use Rattle.memory_cells.specs.Carried.{Moment, CarriesWrite}
use Rattle.memory_cells.specs.Laws.{Stands}
use Rattle.memory_cells.specs.Clocks.{polarity}
use Rattle.netlist_laws.specs.Operators.{Drawing}
use Rattle.netlist_laws.specs.Module.{module_of}
use Rattle.netlist_laws.specs.MemoryDrawings.{Placed, Reads, write_parts, all_parts, drawn_parts, memories_of, memory_drawings, port_clock, writing, write_enable, write_behind, write_drawing}
use Rattle.netlist_laws.specs.PortLaws.{IsCarried, WritePortsAreMade}
use Rattle.netlist_laws.proofs.PortAddresses.{row_width_is}
use Rattle.netlist_laws.proofs.MemoryWrites.{placed_ids, apart_at, ports_from}
use Rattle.netlist_laws.proofs.MemoriesFit.{IsPlaced, ids_apart, lines_are, has_writes}
use Rattle.netlist_laws.proofs.PartsObey.{guard_obeyed, enable_obeyed}

-- the memory of an id, where no two have one
find_placed : (xs : List Placed) (x : Placed) → IsDistinct text_eq (placed_ids xs) → Among xs x → find (λ (r : RtlMemory). text_eq r.id x.plan.id) (map (λ (y : Placed). planned y.plan) xs) ≡ Some (planned x.plan)
find_placed [] x d a = absurd a
find_placed (y ∷ ys) x d a =
    let rest : (z : Placed) → Option RtlMemory = λ z. find (λ (r : RtlMemory). text_eq r.id z.plan.id) (map (λ (w : Placed). planned w.plan) ys) in
    ⊎_elim
    (λ (here : y ≡ x).
    subst (λ (z : Placed). find (λ (r : RtlMemory). text_eq r.id z.plan.id) (map (λ (w : Placed). planned w.plan) (y ∷ ys)) ≡ Some (planned z.plan)) here
    (λ i. if text_eq_same y.plan.id i then Some (planned y.plan) else rest y))
    (λ (later : Among ys x).
    let apart : text_eq y.plan.id x.plan.id ≡ false = apart_at y x ys (IsDistinct-head text_eq y.plan.id (placed_ids ys) d) later in
    (λ i. if apart i then Some (planned y.plan) else rest x) ∙ find_placed ys x (IsDistinct-tail text_eq y.plan.id (placed_ids ys) d) later)
    a

granules_are : (c : Circuit) (m : Memory) (ws : List MemWrite) → AllByRecursion (IsWritePort c m) ws → AllByRecursion (λ (w : MemWrite). IsGranularity m w.granularity) ws
granules_are c m [] h = tt
granules_are c m (w ∷ ws) h = (h.0.granularity, granules_are c m ws h.1)

-- a write cell acts where its clock has its edge
pub write_acts : (c : Circuit) (kept : State) (old new : Inputs) (p : Plan) (m : Memory) (k n : ℕ) (w : MemWrite) (enable : List SigPart)
    → acts (module_of c) kept old new (writing c p m k n w enable) ≡ is_edge (polarity (port_clock c w.domain)) (bit_at (source_value (wire_bit (module_of c) kept old)) (spec_bits (port_clock c w.domain).bit) 0) (bit_at (source_value (wire_bit (module_of c) kept new)) (spec_bits (port_clock c w.domain).bit) 0)
write_acts c kept old new p m k n w enable = refl

module _ (c : Circuit) (pool : IsPool c.pool) (design : IsDesign c) (few : length (all_parts (memories_of c)) < 10 ^ 18) (rules : IsModule (module_of c))
    (x : Placed) (among : Among (memories_of c) x) (is : IsPlaced x) (memory : IsMemory c x.memory) (some : 1 ≤ x.memory.depth) where
  pub size_is : memory_size (module_of c) x.plan.id ≡ x.memory.depth
  size_is =
      ap (λ ms. unwrap_or (option_map (λ (r : RtlMemory). r.size) (find (λ (r : RtlMemory). text_eq r.id x.plan.id) ms)) 0) (lines_are c pool design few x among is)
      ∙ ap (λ o. unwrap_or (option_map (λ (r : RtlMemory). r.size) o) 0) (find_placed (memories_of c) x (ids_apart c pool design few) among)
      ∙ ap (λ (p : Plan). p.depth) is.plan

  module _ (env : List ℤ) (listed : List DomainId) (kept : State) (old new : Inputs) where
    abbrev t : Moment
    t = record { design = c; env = env; listed = listed; rtl = module_of c; st = kept; old = old; new = new }

    module _ (made : WritePortsAreMade) (carried : IsCarried t)
        (edges : (k n : ℕ) (w : MemWrite) → IsSome (domain_named c w.domain) → acts (module_of c) kept old new (writing c x.plan x.memory k n w (write_enable c x.memory n w)) ≡ port_active c env listed (Some w.domain)) where
      carry : (k n : ℕ) (ws : List MemWrite) (rs : List MemRead) → AllByRecursion (IsWritePort c x.memory) ws → ((d : Drawing) → Among (drawn_parts c n (map (λ q. (x, q)) (write_parts k ws ++ map Reads rs))) d → Among (memory_drawings c) d)
          → AllZip (CarriesWrite t x.memory) (write_cells x.plan k (ports_from c x.memory n ws)) ws
      carry k n [] rs h drawn = tt
      carry k n (w ∷ ws) rs h drawn =
          let a : Among (memory_drawings c) (write_drawing c x.plan x.memory k n w) = drawn (write_drawing c x.plan x.memory k n w) (inl refl) in
          let port : IsWritePort c x.memory w = h.0 in (
            made t x.plan x.memory k n w carried some port
                (ap (λ (p : Plan). p.address) is.plan ∙ ap (λ v. max 1 v) (row_width_is x.memory.depth (form c.pool w.addr.0).width memory.depth port.addr.width))
                (edges k n w port.domain) (guard_obeyed c rules kept old x.memory n w.addr (write_behind c x.plan x.memory k n w) a) (enable_obeyed c rules kept old x.plan x.memory k n w a),
            carry (suc k) (n + 11) ws rs h.1 (λ d b. drawn d (inr b)),
          )

      pub stands : Stands t x.memory x.plan.id
      stands =
          let r = has_writes c pool design few x among is in
          record {
            size = size_is;
            granules = granules_are c x.memory x.memory.writes memory.writes;
            writes = subst (λ cells. AllZip (CarriesWrite t x.memory) cells x.memory.writes) (sym r.cells) (carry 0 r.first x.memory.writes x.memory.reads memory.writes r.drawn);
          }
