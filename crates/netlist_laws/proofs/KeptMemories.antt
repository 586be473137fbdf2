-- What the state of a design's module keeps of the design's memories: their rows, and the data of clocked read ports.
use Rattle.std.specs.Prelude.{◌≡◌, ◌<◌, ◌+◌, ◌*◌, ◌^◌, ℕ, suc, List, [], ◌∷◌, ◌++◌, map, length, ◌⊎◌, Some, pos}
use Rattle.std.proofs.Common.{ap, subst, inl, inr, ⊎_elim}
use Rattle.shape_rules.specs.Forms.{Form}
use Rattle.design_ir.specs.declared.memory.MemWrite.{MemWrite}
use Rattle.design_ir.specs.declared.memory.MemRead.{MemRead}
use Rattle.design_ir.specs.declared.memory.Memory.{Memory}
use Rattle.design_ir.specs.PoolRules.{IsPool}
use Rattle.design_ir.specs.Values.{signal_form}
use Rattle.design_ir.specs.Circuits.{Circuit, State, at}
use Rattle.design_ir.specs.Designs.{IsDesign, IsMemory, IsReadPort}
use Rattle.design_ir.specs.Steps.{first_state}
use Rattle.rtlil_text.specs.Rules.{IsModule}
use Rattle.rtlil_text.specs.Meaning.{State as Kept}
use Rattle.rtlil_text.specs.History as rtl
use Rattle.rtlil_text.proofs.Among.{Among, Among-append, AllByRecursion-among}
use Rattle.memory_cells.specs.declared.plan.Plan.{Plan}
use Rattle.memory_cells.specs.Laws.{RowsBegin}
use Rattle.netlist_laws.specs.Module.{module_of}
use Rattle.netlist_laws.specs.MemoryDrawings.{Placed, Part, FirstRows, Writes, Reads, write_parts, parts_of, part_drawing, read_drawing, all_parts, drawn_parts, memories_of, memory_drawings}
use Rattle.netlist_laws.proofs.PartsDrawn.{IsPartOf, design_parts, placed_among}
use Rattle.netlist_laws.proofs.MemoriesFit.{IsPlaced, plans_are}
use Rattle.netlist_laws.proofs.KeptRows.{KeepsRows, AreDeep, first_rows, first_deep}
use Rattle.netlist_laws.proofs.KeptReads.{KeepsRead, word_begins, read_begins}

-- ---- parts by their numbers

-- part q of memory y is one of these, whose ids are numbered from n on, and its own from k on
abbrev pub IsNumbered : ℕ → List (Placed × Part) → ℕ → Placed → Part → Type 0
IsNumbered n [] k y q = ⊥
IsNumbered n ((x, p) ∷ more) k y q = ((n ≡ k) × (x ≡ y) × (p ≡ q)) ⊎ IsNumbered (n + 11) more k y q

pub numbered_drawn : (c : Circuit) (n : ℕ) (xs : List (Placed × Part)) (k : ℕ) (y : Placed) (q : Part) → IsNumbered n xs k y q → Among (drawn_parts c n xs) (part_drawing c y k q)
numbered_drawn c n [] k y q h = absurd h
numbered_drawn c n ((x, p) ∷ xs) k y q h = ⊎_elim
    (λ (here : (n ≡ k) × (x ≡ y) × (p ≡ q)). inl (λ i. part_drawing c (here.1 i) (here.0 i) (here.2 i)))
    (λ (later : IsNumbered (n + 11) xs k y q). inr (numbered_drawn c (n + 11) xs k y q later)) h

pub numbered_among : (n : ℕ) (xs : List (Placed × Part)) (k : ℕ) (y : Placed) (q : Part) → IsNumbered n xs k y q → Among {A = Placed × Part} xs (y, q)
numbered_among n [] k y q h = absurd h
numbered_among n ((x, p) ∷ xs) k y q h = ⊎_elim
    (λ (here : (n ≡ k) × (x ≡ y) × (p ≡ q)). inl (λ i. (here.1 i, here.2 i)))
    (λ (later : IsNumbered (n + 11) xs k y q). inr (numbered_among (n + 11) xs k y q later)) h

-- the port of a read part is one of its memory's
no_write : (k : ℕ) (ws : List MemWrite) (r : MemRead) → Among (write_parts k ws) (Reads r) → ⊥
no_write k [] r a = a
no_write k (w ∷ ws) r a = ⊎_elim (λ (e : Writes k w ≡ Reads r). cc) (λ (later : Among (write_parts (suc k) ws) (Reads r)). no_write (suc k) ws r later) a

own_read : (rs : List MemRead) (r : MemRead) → Among (map Reads rs) (Reads r) → Among rs r
own_read [] r a = absurd a
own_read (q ∷ rs) r a = ⊎_elim (λ (e : Reads q ≡ Reads r). let same : q ≡ r = cc in inl same) (λ (later : Among (map Reads rs) (Reads r)). inr (own_read rs r later)) a

of_memory : (x : Placed) (r : MemRead) → Among (parts_of x.memory) (Reads r) → Among x.memory.reads r
of_memory x r a = ⊎_elim
    (λ (e : FirstRows ≡ Reads r). cc)
    (λ (later : Among (write_parts 0 x.memory.writes ++ map Reads x.memory.reads) (Reads r)). ⊎_elim
    (λ (write : Among (write_parts 0 x.memory.writes) (Reads r)). absurd (no_write 0 x.memory.writes r write)) (λ (read : Among (map Reads x.memory.reads) (Reads r)). own_read x.memory.reads r read)
    (Among-append (write_parts 0 x.memory.writes) (map Reads x.memory.reads) (Reads r) later))
    a

pair_own : (y x : Placed) (r : MemRead) (qs : List Part) → Among {A = Placed × Part} (map (λ p. (y, p)) qs) (x, Reads r) → (y ≡ x) × Among qs (Reads r)
pair_own y x r [] a = absurd a
pair_own y x r (p ∷ qs) a = ⊎_elim
    (λ e. (ap (λ (z : Placed × Part). z.0) e, inl (ap (λ (z : Placed × Part). z.1) e)))
    (λ later. let more = pair_own y x r qs later in (more.0, inr more.1)) a

read_of : (xs : List Placed) (x : Placed) (r : MemRead) → Among {A = Placed × Part} (all_parts xs) (x, Reads r) → Among x.memory.reads r
read_of [] x r a = absurd a
read_of (y ∷ xs) x r a = ⊎_elim
    (λ (here : Among {A = Placed × Part} (map (λ p. (y, p)) (parts_of y.memory)) (x, Reads r)).
    let own = pair_own y x r (parts_of y.memory) here in of_memory x r (subst (λ (z : Placed). Among (parts_of z.memory) (Reads r)) own.0 own.1))
    (λ (later : Among {A = Placed × Part} (all_parts xs) (x, Reads r)). read_of xs x r later)
    (Among-append (map (λ p. (y, p)) (parts_of y.memory)) (all_parts xs) (x, Reads r) a)

-- ---- all memories

-- a read port of the module, whose ids are numbered from n on
abbrev pub IsReadAt : Circuit → ℕ → Placed → MemRead → Type 0
IsReadAt c n x r = IsNumbered (3 * length c.pool.signals) (all_parts (memories_of c)) n x (Reads r)

pub record KeepsMemories (c : Circuit) (kept : Kept) (st : State) : Type 0 where
  pub rows : KeepsRows c kept st.rows
  pub deep : AreDeep c.memories st.rows
  pub reads : (n : ℕ) (x : Placed) (r : MemRead) (d : List ℕ) → IsReadAt c n x r → r.domain ≡ Some d → KeepsRead c kept st.held x.memory n r
  -- a memory without rows gives 0
  pub dry : (m : Memory) (r : MemRead) → Among c.memories m → m.depth ≡ 0 → Among m.reads r → at st.held r.word.0 ≡ pos 0

-- a port of a memory of the design keeps the rules
pub port_rules : (c : Circuit) → IsDesign c → (m : Memory) (r : MemRead) → Among c.memories m → Among m.reads r → IsReadPort c m r
port_rules c design m r a b = AllByRecursion-among (IsReadPort c m) m.reads r (AllByRecursion-among (IsMemory c) c.memories m design.memories a).reads b

module _ (c : Circuit) (pool : IsPool c.pool) (design : IsDesign c) (few : length (all_parts (memories_of c)) < 10 ^ 18) (rules : IsModule (module_of c)) where
  module _ (n : ℕ) (x : Placed) (r : MemRead) (here : IsReadAt c n x r) where
    pub read_among : Among (memory_drawings c) (read_drawing c x.plan x.memory n r)
    unfolding memory_drawings
    read_among = numbered_drawn c (3 * length c.pool.signals) (all_parts (memories_of c)) n x (Reads r) here

    pub part_among : Among {A = Placed × Part} (all_parts (memories_of c)) (x, Reads r)
    part_among = numbered_among (3 * length c.pool.signals) (all_parts (memories_of c)) n x (Reads r) here

    pub own_read_among : Among x.memory.reads r
    own_read_among = read_of (memories_of c) x r part_among

    pub read_placed : IsPlaced x
    read_placed = AllByRecursion-among IsPlaced (memories_of c) x (plans_are c pool design few) (placed_among (memories_of c) x (Reads r) part_among)

    pub read_part : IsPartOf c x (Reads r)
    read_part = AllByRecursion-among (λ (y : Placed × Part). IsPartOf c y.0 y.1) (all_parts (memories_of c)) (x, Reads r) (design_parts c design) part_among

    pub read_wide : (signal_form c.pool.signals r.word.0).width ≡ x.memory.shape.width
    read_wide = let port : IsReadPort c x.memory r = read_part.port in ap (λ (f : Form). f.width) port.word.shape

  -- they are kept at first
  pub first_memories : RowsBegin → KeepsMemories c (rtl.first_state (module_of c)) (first_state c)
  first_memories begin = record {
    rows = first_rows c pool design few begin;
    deep = first_deep c c.memories design.memories;
    reads = λ n x r d here clocked.
        read_begins c rules x.plan x.memory n r d clocked (read_among n x r here) (ap (λ (p : Plan). p.width) (read_placed n x r here).plan) (read_part n x r here).port (read_wide n x r here);
    dry = λ m r a none b. word_begins c m r (port_rules c design m r a b);
  }
