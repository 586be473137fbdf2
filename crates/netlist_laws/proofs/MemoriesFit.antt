-- The memories of a design's module, with their cells and wires, keep the rules of the text.
use Rattle.std.specs.Prelude.{◌≡◌, ◌≤◌, ◌<◌, ◌+◌, ◌*◌, ◌^◌, ◌==◌, ◌&&◌, ℕ, zero, suc, nat_lt, Bool, true, false, List, [], ◌∷◌, ◌++◌, map, length, slice_get, if◌then◌else◌, Option, Some, MatchOption, IsSomeAnd, Contains}
use Rattle.std.specs.List.{AllByRecursion, IsDistinct, filter, flat_map, list_any, range_with_len}
use Rattle.std.proofs.Common.{refl, sym, ap, ◌∙◌, arith, subst, inr, ⊎_elim}
use Rattle.std.proofs.lemmas.Bool.{cond_both, false≢true, or_cases, eqb-true}
use Rattle.std.proofs.lemmas.List.Concat.{flat_map-append}
use Rattle.std.proofs.lemmas.List.Elements.{filter-append}
use Rattle.std.proofs.lemmas.Map.Keys.{IsDistinct-tail}
use Rattle.lists.specs.Names.{IsPublicName}
use Rattle.lists.specs.Texts.{text_eq}
use Rattle.shape_rules.specs.declared.cell.CellKind.{CellKind}
use Rattle.shape_rules.specs.declared.cell.CellKind.TheVariants.{MemoryWrite, MemoryInit}
use Rattle.design_ir.specs.declared.expr.Expr.{Expr}
use Rattle.design_ir.specs.declared.memory.MemWrite.{MemWrite}
use Rattle.design_ir.specs.declared.memory.MemRead.{MemRead}
use Rattle.design_ir.specs.declared.memory.Memory.{Memory}
use Rattle.design_ir.specs.declared.process.DesignProcess.{DesignProcess}
use Rattle.design_ir.specs.declared.ids.DomainId.{DomainId}
use Rattle.design_ir.specs.PoolRules.{IsPool}
use Rattle.design_ir.specs.Values.{signal_form}
use Rattle.design_ir.specs.Circuits.{Circuit}
use Rattle.design_ir.specs.Designs.{IsDesign, IsReadPort, IsTransparent}
use Rattle.rtlil_text.specs.declared.sig.SigPart.{SigPart}
use Rattle.rtlil_text.specs.declared.cell.RtlCell.{RtlCell}
use Rattle.rtlil_text.specs.declared.module.RtlMemory.{RtlMemory}
use Rattle.rtlil_text.specs.Sources.{spec_bits, memory_id}
use Rattle.rtlil_text.specs.Ids.{IsPublicId}
use Rattle.rtlil_text.specs.Memories.{is_write, is_init, writes_of, inits_of}
use Rattle.rtlil_text.specs.MemoryRules.{HaveOneClock, MemoryFits}
use Rattle.rtlil_text.proofs.Among.{Among, Among-map, Contains-among}
use Rattle.memory_cells.specs.declared.plan.Plan.{Plan}
use Rattle.memory_cells.specs.Plans.{planned}
use Rattle.memory_cells.specs.Cells.{WritePort, init_cell, write_cells}
use Rattle.memory_cells.specs.Fits.{HasPlan}
use Rattle.memory_cells.specs.Clocks.{polarity}
use Rattle.netlist_laws.specs.Ids.{step_id}
use Rattle.netlist_laws.specs.Operators.{Drawing, nothing}
use Rattle.netlist_laws.specs.Expressions.{part_count, drawn}
use Rattle.netlist_laws.specs.Module.{public_id, signal_value, expr_value, Driving, ByEvents, ByComb, ByClock, ByRead, ByNothing, driving, register_drawing, driving_drawing, signal_drawing, drawn_from, drawings, other_drawings, all_drawings, module_of, is_there, Heeding, NoReset, AtEdges, AtOnce, heeding}
use Rattle.netlist_laws.specs.MemoryDrawings.{Placed, Reads, plan_of, placed, memories_of, write_parts, all_parts, drawn_parts, memory_drawings, memory_lines, reading, port_clock}
use Rattle.netlist_laws.proofs.LogicCells.{is_logic_kind, IsLogic, drawn_logic}
use Rattle.netlist_laws.proofs.MemoryNames.{column_names, memory_names, memory_ids, names_distinct, names_public}
use Rattle.netlist_laws.proofs.MemoryWrites.{writes_it, begins_it, own_writes, own_inits, owned, placed_ids, owned_by, parts_writes, parts_inits, ports_from, ports_are, inits_none, length-ports_from}
use Rattle.netlist_laws.proofs.PartsFit.{CellLaws, SeesThrough}

-- ---- cells that are of no memory

filter_flat : {A B : Type 0} (f : B → Bool) (g : A → List B) (xs : List A) → filter f (flat_map g xs) ≡ flat_map (λ x. filter f (g x)) xs
filter_flat f g [] = refl
filter_flat f g (x ∷ xs) = filter-append f (g x) (flat_map g xs) ∙ ap (λ r. filter f (g x) ++ r) (filter_flat f g xs)

no_write : (k : CellKind) → is_logic_kind k ≡ true → is_write k ≡ false
no_write MemoryWrite h = absurd (false≢true h)
no_write kind h = refl

no_init : (k : CellKind) → is_logic_kind k ≡ true → is_init k ≡ false
no_init MemoryInit h = absurd (false≢true h)
no_init kind h = refl

logic_writes : (id : List ℕ) (cells : List RtlCell) → AllByRecursion IsLogic cells → filter (writes_it id) cells ≡ []
logic_writes id [] h = refl
logic_writes id (x ∷ cells) h = (λ i. if no_write x.kind h.0 i && text_eq (memory_id x) id then x ∷ filter (writes_it id) cells else filter (writes_it id) cells) ∙ logic_writes id cells h.1

logic_inits : (id : List ℕ) (cells : List RtlCell) → AllByRecursion IsLogic cells → filter (begins_it id) cells ≡ []
logic_inits id [] h = refl
logic_inits id (x ∷ cells) h = (λ i. if no_init x.kind h.0 i && text_eq (memory_id x) id then x ∷ filter (begins_it id) cells else filter (begins_it id) cells) ∙ logic_inits id cells h.1

module _ (c : Circuit) (id : List ℕ) where
  drawn_writes : (k n : ℕ) (es : List Expr) → flat_map (λ (d : Drawing). filter (writes_it id) d.cells) (drawn_from c k n es) ≡ []
  drawn_writes k n [] = refl
  drawn_writes k n (e ∷ es) = λ i. logic_writes id (drawn (signal_value c) (expr_value c) n (expr_value c k) e).cells (drawn_logic (signal_value c) (expr_value c) n (expr_value c k) e) i ++ drawn_writes (suc k) (n + part_count e) es i

  drawn_inits : (k n : ℕ) (es : List Expr) → flat_map (λ (d : Drawing). filter (begins_it id) d.cells) (drawn_from c k n es) ≡ []
  drawn_inits k n [] = refl
  drawn_inits k n (e ∷ es) = λ i. logic_inits id (drawn (signal_value c) (expr_value c) n (expr_value c k) e).cells (drawn_logic (signal_value c) (expr_value c) n (expr_value c k) e) i ++ drawn_inits (suc k) (n + part_count e) es i

  -- neither has what drives a signal
  abbrev HasNone : Drawing → Type 0
  HasNone d = (filter (writes_it id) d.cells ≡ []) × (filter (begins_it id) d.cells ≡ [])

  register_none : (s : ℕ) (p : DesignProcess) (d : DomainId) (h : Heeding) → HasNone (register_drawing c s p d h)
  register_none s p d NoReset = (refl, refl)
  register_none s p d (AtEdges r) = (refl, refl)
  register_none s p d (AtOnce r) = (refl, refl)

  driving_none : (s : ℕ) (x : Driving) → HasNone (driving_drawing c s x)
  driving_none s ByEvents = (refl, refl)
  driving_none s (ByComb p) = (refl, refl)
  driving_none s (ByClock p d) = register_none s p d (heeding c s d)
  driving_none s ByRead = (refl, refl)
  driving_none s ByNothing = (refl, refl)

  signal_none : (s : ℕ) → HasNone (signal_drawing c s)
  signal_none s = cond_both (nat_lt 0 (signal_form c.pool.signals s).width) (driving_drawing c s (driving c s)) nothing HasNone (λ t. driving_none s (driving c s)) (λ t. (refl, refl))

  signals_write : (ss : List ℕ) → flat_map (λ (d : Drawing). filter (writes_it id) d.cells) (map (signal_drawing c) ss) ≡ []
  signals_write [] = refl
  signals_write (s ∷ ss) = λ i. (signal_none s).0 i ++ signals_write ss i

  signals_begin : (ss : List ℕ) → flat_map (λ (d : Drawing). filter (begins_it id) d.cells) (map (signal_drawing c) ss) ≡ []
  signals_begin [] = refl
  signals_begin (s ∷ ss) = λ i. (signal_none s).1 i ++ signals_begin ss i

  abbrev first_part : ℕ
  first_part = 3 * length c.pool.signals

  -- the cells of the module that are of the memory
  pub module_writes : writes_of (module_of c) id ≡ owned (own_writes c) id first_part (all_parts (memories_of c))
  unfolding module_of memory_drawings
  module_writes =
      let R = range_with_len 0 (length c.pool.signals) in
      let f : Drawing → List RtlCell = λ (d : Drawing). filter (writes_it id) d.cells in
      filter_flat (writes_it id) (λ (d : Drawing). d.cells) (all_drawings c)
      ∙ flat_map-append f (drawings c) (other_drawings c)
      ∙ (λ i. drawn_writes 0 0 c.pool.exprs i ++ flat_map-append f (map (signal_drawing c) R) (memory_drawings c) i)
      ∙ ap (λ u. u ++ flat_map f (memory_drawings c)) (signals_write R)
      ∙ parts_writes c id first_part (all_parts (memories_of c))

  pub module_inits : inits_of (module_of c) id ≡ owned (own_inits c) id first_part (all_parts (memories_of c))
  unfolding module_of memory_drawings
  module_inits =
      let R = range_with_len 0 (length c.pool.signals) in
      let f : Drawing → List RtlCell = λ (d : Drawing). filter (begins_it id) d.cells in
      filter_flat (begins_it id) (λ (d : Drawing). d.cells) (all_drawings c)
      ∙ flat_map-append f (drawings c) (other_drawings c)
      ∙ (λ i. drawn_inits 0 0 c.pool.exprs i ++ flat_map-append f (map (signal_drawing c) R) (memory_drawings c) i)
      ∙ ap (λ u. u ++ flat_map f (memory_drawings c)) (signals_begin R)
      ∙ parts_inits c id first_part (all_parts (memories_of c))

-- ---- the plans

-- under a public name, as its memory has it
pub record IsPlaced (x : Placed) : Type 0 where
  pub name : List ℕ
  pub public : IsPublicName name
  pub plan : x.plan ≡ plan_of name x.memory

all_plans : (names : List (List ℕ)) (ms : List Memory) → AllByRecursion IsPublicName names → AllByRecursion IsPlaced (placed names ms)
all_plans [] ms h = tt
all_plans (name ∷ names) [] h = tt
all_plans (name ∷ names) (m ∷ ms) h = (record { name = name; public = h.0; plan = refl }, all_plans names ms h.1)

ids_of : (xs : List Placed) → map (λ (r : RtlMemory). r.id) (map (λ (x : Placed). planned x.plan) xs) ≡ placed_ids xs
ids_of [] = refl
ids_of (x ∷ xs) = ap (λ is. x.plan.id ∷ is) (ids_of xs)

distinct_behind : (xs ys : List (List ℕ)) → IsDistinct text_eq (xs ++ ys) → IsDistinct text_eq ys
distinct_behind [] ys d = d
distinct_behind (x ∷ xs) ys d = distinct_behind xs ys (IsDistinct-tail text_eq x (xs ++ ys) d)

public_apart : (names : List (List ℕ)) → IsDistinct text_eq names → IsDistinct text_eq (map public_id names)
unfolding IsDistinct
public_apart [] d = tt
public_apart (x ∷ names) d = (heads names d.0, public_apart names d.1)
  where
    heads : (ys : List (List ℕ)) → AllByRecursion (λ y. text_eq x y ≡ false) ys → AllByRecursion (λ y. text_eq (public_id x) y ≡ false) (map public_id ys)
    heads [] h = tt
    heads (y ∷ ys) h = (h.0, heads ys h.1)

-- a write port that a read is transparent for has the read's clock
module _ (c : Circuit) (p : Plan) (y : Memory) (n0 : ℕ) (r : MemRead) (d : List ℕ) (spec : List SigPart) where
  abbrev Clocked : Option RtlCell → Type 0
  Clocked o = MatchOption o ⊥ (HaveOneClock (reading c p y n0 r (Some d) spec))

  port_at : (k n : ℕ) (ws : List MemWrite) (i : ℕ) → IsSomeAnd (slice_get ws i) (λ (w : MemWrite). w.domain ≡ d) → Clocked (slice_get (write_cells p k (ports_from c y n ws)) i)
  port_at k n [] i h = absurd h
  port_at k n (w ∷ ws) zero h = record { clocked = refl; clock = ap (λ name. spec_bits (port_clock c name).bit) (sym h); edge = ap (λ name. polarity (port_clock c name)) (sym h) }
  port_at k n (w ∷ ws) (suc i) h = port_at (suc k) (n + 11) ws i h

  among_through : (ks : List ℕ) (k : ℕ) → AllByRecursion (IsTransparent y (Some d)) ks → list_any (λ i. i == k) ks ≡ true → IsTransparent y (Some d) k
  among_through [] k h e = absurd (false≢true e)
  among_through (j ∷ ks) k h e = ⊎_elim
      (λ (here : (j == k) ≡ true). subst (IsTransparent y (Some d)) (eqb-true j k here) h.0)
      (λ (more : list_any (λ i. i == k) ks ≡ true). among_through ks k h.1 more) (or_cases (j == k) (list_any (λ i. i == k) ks) e)

-- ---- the memories of the module

module _ (c : Circuit) (pool : IsPool c.pool) (design : IsDesign c) (few : length (all_parts (memories_of c)) < 10 ^ 18) where
  pub ids_apart : IsDistinct text_eq (placed_ids (memories_of c))
  ids_apart =
      let names = memory_names c in
      subst (IsDistinct text_eq) (sym (memory_ids c) ∙ ids_of (memories_of c)) (public_apart names (distinct_behind (column_names c) names (names_distinct c pool design few)))

  pub plans_are : AllByRecursion IsPlaced (memories_of c)
  unfolding memories_of
  plans_are = all_plans (memory_names c) (filter is_there c.memories) (names_public c pool design few)

  module _ (x : Placed) (among : Among (memories_of c) x) (is : IsPlaced x) where
    -- its write cells are those of its ports, from some number on, and its ports are drawn there
    pub record HasWrites : Type 0 where
      pub first : ℕ
      pub cells : writes_of (module_of c) x.plan.id ≡ write_cells x.plan 0 (ports_from c x.memory first x.memory.writes)
      pub drawn : (d : Drawing) → Among (drawn_parts c first (map (λ q. (x, q)) (write_parts 0 x.memory.writes ++ map Reads x.memory.reads))) d → Among (memory_drawings c) d

    pub has_writes : HasWrites
    unfolding memory_drawings
    has_writes =
        let r = owned_by c (own_writes c) (3 * length c.pool.signals) (memories_of c) x ids_apart among in
        record { first = r.first + 11; cells = module_writes c x.plan.id ∙ r.same ∙ ports_are c x x.plan.id 0 (r.first + 11) x.memory.writes x.memory.reads; drawn = λ d a. r.there d (inr a) }

    -- one cell has its first rows
    pub own_init : (n : ℕ) × (inits_of (module_of c) x.plan.id ≡ init_cell x.plan (step_id n) x.memory.rows ∷ [])
    own_init =
        let r = owned_by c (own_inits c) (3 * length c.pool.signals) (memories_of c) x ids_apart among in
        (r.first, module_inits c x.plan.id ∙ r.same ∙ ap (λ cells. init_cell x.plan (step_id r.first) x.memory.rows ∷ cells) (inits_none c x x.plan.id 0 (r.first + 11) x.memory.writes x.memory.reads))

    one_init : length (inits_of (module_of c) x.plan.id) ≡ 1
    one_init = ap length own_init.1

    write_count : length (writes_of (module_of c) x.plan.id) ≡ x.plan.writes
    write_count =
        ap length has_writes.cells ∙ cells_long 0 (ports_from c x.memory has_writes.first x.memory.writes) ∙ length-ports_from c x.memory has_writes.first x.memory.writes ∙ sym (ap (λ (p : Plan). p.writes) is.plan)
      where
        cells_long : (k : ℕ) (ws : List WritePort) → length (write_cells x.plan k ws) ≡ length ws
        cells_long k [] = refl
        cells_long k (w ∷ ws) = ap suc (cells_long (suc k) ws)

    pub lines_are : (module_of c).memories ≡ memory_lines c
    unfolding module_of
    lines_are = refl

    pub has_plan : HasPlan (module_of c) x.plan
    has_plan = record {
      among = subst (λ ms. Contains ms (planned x.plan)) (sym lines_are) (Contains-among (memory_lines c) (planned x.plan) (Among-map (λ (y : Placed). planned y.plan) (memories_of c) x among));
      named = subst IsPublicId (sym (ap (λ (p : Plan). p.id) is.plan)) (is.name, is.public, refl);
      address = subst (λ (p : Plan). 1 ≤ p.address) (sym is.plan) (omega arith);
      writes = write_count;
    }

    pub memory_fits : CellLaws → 1 ≤ x.memory.depth → 1 ≤ x.memory.shape.width → MemoryFits (module_of c) (planned x.plan)
    memory_fits laws some wide =
        let ports = ports_from c x.memory has_writes.first x.memory.writes in
        laws.memories (module_of c) x.plan ports (subst (λ (p : Plan). 1 ≤ p.width) (sym is.plan) wide) (subst (λ (p : Plan). 1 ≤ p.depth) (sym is.plan) some)
        (length-ports_from c x.memory has_writes.first x.memory.writes ∙ sym (ap (λ (p : Plan). p.writes) is.plan)) one_init has_writes.cells

    pub sees_through : (n0 : ℕ) (r : MemRead) (d : List ℕ) (spec : List SigPart) → r.domain ≡ Some d → IsReadPort c x.memory r → SeesThrough (module_of c) x.plan r (reading c x.plan x.memory n0 r (Some d) spec)
    sees_through n0 r d spec domain port k e =
        let through : AllByRecursion (IsTransparent x.memory (Some d)) r.transparent = subst (λ o. AllByRecursion (IsTransparent x.memory o) r.transparent) domain port.transparent in
        subst (λ cells. MatchOption (slice_get cells k) ⊥ (HaveOneClock (reading c x.plan x.memory n0 r (Some d) spec))) (sym has_writes.cells)
        (port_at c x.plan x.memory n0 r d spec 0 has_writes.first x.memory.writes k (among_through c x.plan x.memory n0 r d spec r.transparent k through e))
