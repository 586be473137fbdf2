-- The rows of a design's memories in the state of its module: at first, and after an event.
use Rattle.std.specs.Prelude.{◌≡◌, ◌<◌, ◌^◌, Bool, true, false, cond, List, [], ◌∷◌, map, length, slice_set, ℤ, Some, fold}
use Rattle.std.specs.List.{AllByRecursion, AllZip, filter}
use Rattle.std.proofs.Common.{refl, sym, ap, ◌∙◌, arith, subst, inl, inr, ⊎_elim}
use Rattle.std.proofs.lemmas.Bool.{cond_both}
use Rattle.std.proofs.lemmas.List.{length-set}
use Rattle.design_ir.specs.declared.ids.DomainId.{DomainId}
use Rattle.design_ir.specs.declared.memory.MemWrite.{MemWrite}
use Rattle.design_ir.specs.declared.memory.MemRead.{MemRead}
use Rattle.design_ir.specs.declared.memory.Memory.{Memory}
use Rattle.design_ir.specs.PoolRules.{IsPool}
use Rattle.design_ir.specs.Circuits.{Circuit}
use Rattle.design_ir.specs.Designs.{IsDesign, IsMemory}
use Rattle.design_ir.specs.Rows.{address, row_at, written}
use Rattle.design_ir.specs.Steps.{port_active, write_row, rows_after}
use Rattle.rtlil_text.specs.Meaning.{State as Kept}
use Rattle.rtlil_text.specs.History as rtl
use Rattle.rtlil_text.proofs.Among.{Among, AllByRecursion-among}
use Rattle.memory_cells.specs.declared.plan.Plan.{Plan}
use Rattle.memory_cells.specs.Carried.{HasRows, Moment}
use Rattle.memory_cells.specs.Laws.{Stands, RowsBegin, RowsFollow}
use Rattle.netlist_laws.specs.Ids.{step_id}
use Rattle.netlist_laws.specs.SignalDrawings.{is_there}
use Rattle.netlist_laws.specs.MemoryDrawings.{Placed, memories_of, all_parts}
use Rattle.netlist_laws.specs.Module.{module_of}
use Rattle.netlist_laws.proofs.ReadWires.{memories_are}
use Rattle.netlist_laws.proofs.ReadData.{Located}
use Rattle.netlist_laws.proofs.MemoriesFit.{IsPlaced, plans_are, own_init}

-- the rows of the memories that are memories of the module
abbrev pub rows_there : List Memory → List (List ℤ) → List (List ℤ)
rows_there [] all = []
rows_there (m ∷ ms) [] = []
rows_there (m ∷ ms) (rows ∷ more) = cond (is_there m) (rows ∷ rows_there ms more) (rows_there ms more)

-- as many rows as the memory is deep, of these bits
pub record HasItsRows (kept : Kept) (x : Placed) (rows : List ℤ) : Type 0 where
  pub long : length rows ≡ x.memory.depth
  pub has : HasRows x.memory.shape.width x.memory.depth x.plan.id kept rows

-- each memory of the module has the rows of its own
abbrev pub KeepsRows : Circuit → Kept → List (List ℤ) → Type 0
KeepsRows c kept all = AllZip (HasItsRows kept) (memories_of c) (rows_there c.memories all)

-- a list of rows for each memory of the design, as many as it is deep, those without bits among them
abbrev pub AreDeep : List Memory → List (List ℤ) → Type 0
AreDeep ms all = AllZip (λ (m : Memory) (rows : List ℤ). length rows ≡ m.depth) ms all

-- ---- at first

pub first_deep : (c : Circuit) (ms : List Memory) → AllByRecursion (IsMemory c) ms → AreDeep ms (map (λ (m : Memory). m.rows) ms)
first_deep c [] are = tt
first_deep c (m ∷ ms) are = (are.0.rows, first_deep c ms are.1)

module _ (c : Circuit) (pool : IsPool c.pool) (design : IsDesign c) (few : length (all_parts (memories_of c)) < 10 ^ 18) (begin : RowsBegin) where
  own_first : (x : Placed) → Among (memories_of c) x → length x.memory.rows ≡ x.memory.depth → HasItsRows (rtl.first_state (module_of c)) x x.memory.rows
  own_first x a long =
      let is : IsPlaced x = AllByRecursion-among IsPlaced (memories_of c) x (plans_are c pool design few) a in
      let cell = own_init c pool design few x a is in
      record {
        long = long;
        has = λ row k l h.
            ap (λ cells. rtl.data_bit cells row k) cell.1
            ∙ begin x.plan (step_id cell.0) x.memory.rows row k (omega (arith, l, long)) (subst (λ (p : Plan). k < p.width) (sym is.plan) h);
      }

  abbrev IsHere : List Placed → Type 0
  IsHere xs = (x : Placed) → Among xs x → Among (memories_of c) x

  abbrev Begin : List Memory → List Placed → Type 0
  Begin ms xs = AllZip (HasItsRows (rtl.first_state (module_of c))) xs (rows_there ms (map (λ (m : Memory). m.rows) ms))

  first_turn : (m : Memory) (ms : List Memory) → length m.rows ≡ m.depth → ((xs : List Placed) → map (λ (x : Placed). x.memory) xs ≡ filter is_there ms → IsHere xs → Begin ms xs)
      → (b : Bool) (ys : List Placed) → map (λ (x : Placed). x.memory) ys ≡ cond b (m ∷ filter is_there ms) (filter is_there ms) → IsHere ys
      → AllZip (HasItsRows (rtl.first_state (module_of c))) ys (cond b (m.rows ∷ rows_there ms (map (λ (n : Memory). n.rows) ms)) (rows_there ms (map (λ (n : Memory). n.rows) ms)))
  first_turn m ms long more false ys e here = more ys e here
  first_turn m ms long more true [] e here = cc
  first_turn m ms long more true (y ∷ ys) e here =
      let same : y.memory ≡ m = cc in
      let rest : map (λ (x : Placed). x.memory) ys ≡ filter is_there ms = cc in
      (subst (λ (n : Memory). HasItsRows (rtl.first_state (module_of c)) y n.rows) same (own_first y (here y (inl refl)) (subst (λ (n : Memory). length n.rows ≡ n.depth) (sym same) long)), more ys rest (λ x a. here x (inr a)))

  all_first : (ms : List Memory) (xs : List Placed) → AllByRecursion (IsMemory c) ms → map (λ (x : Placed). x.memory) xs ≡ filter is_there ms → IsHere xs → Begin ms xs
  all_first [] [] are e here = tt
  all_first [] (x ∷ xs) are e here = cc
  all_first (m ∷ ms) xs are e here = first_turn m ms are.0.rows (λ ys k below. all_first ms ys are.1 k below) (is_there m) xs e here

  pub first_rows : KeepsRows c (rtl.first_state (module_of c)) (map (λ (m : Memory). m.rows) c.memories)
  first_rows = all_first c.memories (memories_of c) design.memories (memories_are c) (λ x a. a)

-- ---- after an event

module _ (c : Circuit) (env : List ℤ) (listed : List DomainId) where
  length-write_row : (m : Memory) (rows : List ℤ) (w : MemWrite) → length (write_row c env listed m rows w) ≡ length rows
  length-write_row m rows w =
      let n : ℤ = written c.pool env m (row_at c.pool env rows w.addr) w in
      cond_both (port_active c env listed (Some w.domain)) (slice_set rows (address c.pool env w.addr) n) rows (λ xs. length xs ≡ length rows) (λ t. length-set rows (address c.pool env w.addr) n) (λ t. refl)

  length-writes : (m : Memory) (ws : List MemWrite) (rows : List ℤ) → length (fold (write_row c env listed m) rows ws) ≡ length rows
  length-writes m [] rows = refl
  length-writes m (w ∷ ws) rows = length-writes m ws (write_row c env listed m rows w) ∙ length-write_row m rows w

  -- memories stay as deep
  pub deep_after : (ms : List Memory) (all : List (List ℤ)) → AreDeep ms all → AreDeep ms (rows_after c env listed ms all)
  deep_after [] all h = h
  deep_after (m ∷ ms) [] h = h
  deep_after (m ∷ ms) (rows ∷ all) h = (length-writes m m.writes rows ∙ h.0, deep_after ms all h.1)

module _ (t : Moment) (follow : RowsFollow) (stand : (x : Placed) → Among (memories_of t.design) x → Stands t x.memory x.plan.id) where
  abbrev next : Kept
  next = rtl.step t.rtl t.old t.new t.st

  own_after : (x : Placed) (rows : List ℤ) → Among (memories_of t.design) x → HasItsRows t.st x rows → HasItsRows next x (fold (write_row t.design t.env t.listed x.memory) rows x.memory.writes)
  own_after x rows a h = record {
    long = length-writes t.design t.env t.listed x.memory x.memory.writes rows ∙ h.long;
    has = follow t x.memory x.plan.id rows (stand x a) h.long h.has;
  }

  none_after : (xs : List Placed) → AllZip (HasItsRows t.st) xs [] → AllZip (HasItsRows next) xs []
  none_after [] h = tt
  none_after (x ∷ xs) h = absurd h

  abbrev IsOne : List Placed → Type 0
  IsOne xs = (x : Placed) → Among xs x → Among (memories_of t.design) x

  abbrev Follow : List Memory → List (List ℤ) → List Placed → Type 0
  Follow ms all xs = AllZip (HasItsRows t.st) xs (rows_there ms all) → AllZip (HasItsRows next) xs (rows_there ms (rows_after t.design t.env t.listed ms all))

  after_turn : (m : Memory) (ms : List Memory) (rows : List ℤ) (all : List (List ℤ)) → ((xs : List Placed) → map (λ (x : Placed). x.memory) xs ≡ filter is_there ms → IsOne xs → Follow ms all xs)
      → (b : Bool) (ys : List Placed) → map (λ (x : Placed). x.memory) ys ≡ cond b (m ∷ filter is_there ms) (filter is_there ms) → IsOne ys
      → AllZip (HasItsRows t.st) ys (cond b (rows ∷ rows_there ms all) (rows_there ms all))
      → AllZip (HasItsRows next) ys (cond b (fold (write_row t.design t.env t.listed m) rows m.writes ∷ rows_there ms (rows_after t.design t.env t.listed ms all)) (rows_there ms (rows_after t.design t.env t.listed ms all)))
  after_turn m ms rows all more false ys e one h = more ys e one h
  after_turn m ms rows all more true [] e one h = absurd h
  after_turn m ms rows all more true (y ∷ ys) e one h =
      let same : y.memory ≡ m = cc in
      let rest : map (λ (x : Placed). x.memory) ys ≡ filter is_there ms = cc in
      (subst (λ (n : Memory). HasItsRows next y (fold (write_row t.design t.env t.listed n) rows n.writes)) same (own_after y rows (one y (inl refl)) h.0), more ys rest (λ x a. one x (inr a)) h.1)

  all_after : (ms : List Memory) (all : List (List ℤ)) (xs : List Placed) → map (λ (x : Placed). x.memory) xs ≡ filter is_there ms → IsOne xs → Follow ms all xs
  all_after [] all xs e one h = none_after xs h
  all_after (m ∷ ms) [] xs e one h = none_after xs h
  all_after (m ∷ ms) (rows ∷ all) xs e one h = after_turn m ms rows all (λ ys k below. all_after ms all ys k below) (is_there m) xs e one h

  pub rows_kept : (all : List (List ℤ)) → KeepsRows t.design t.st all → KeepsRows t.design next (rows_after t.design t.env t.listed t.design.memories all)
  rows_kept all h = all_after t.design.memories all (memories_of t.design) (memories_are t.design) (λ x a. a) h

-- ---- the rows of one memory

-- a port of a memory of the module stands in the design beside rows that the state keeps
pub record IsLocated (kept : Kept) (ms : List Memory) (all : List (List ℤ)) (x : Placed) (r : MemRead) : Type 0 where
  pub rows : List ℤ
  pub located : Located ms all x.memory rows r
  pub has : HasItsRows kept x rows

module _ (kept : Kept) (x : Placed) (r : MemRead) (port : Among x.memory.reads r) where
  abbrev Locates : List Memory → List (List ℤ) → List Placed → Type 0
  Locates ms all xs = AllZip (HasItsRows kept) xs (rows_there ms all) → Among xs x → IsLocated kept ms all x r

  locate_turn : (m : Memory) (ms : List Memory) (rows : List ℤ) (all : List (List ℤ)) → ((xs : List Placed) → map (λ (y : Placed). y.memory) xs ≡ filter is_there ms → Locates ms all xs)
      → (b : Bool) (ys : List Placed) → map (λ (y : Placed). y.memory) ys ≡ cond b (m ∷ filter is_there ms) (filter is_there ms)
      → AllZip (HasItsRows kept) ys (cond b (rows ∷ rows_there ms all) (rows_there ms all)) → Among ys x → IsLocated kept (m ∷ ms) (rows ∷ all) x r
  locate_turn m ms rows all more false ys e h a = let k = more ys e h a in record { rows = k.rows; located = inr k.located; has = k.has }
  locate_turn m ms rows all more true [] e h a = absurd a
  locate_turn m ms rows all more true (y ∷ ys) e h a =
      let same : y.memory ≡ m = cc in
      let rest : map (λ (z : Placed). z.memory) ys ≡ filter is_there ms = cc in
      ⊎_elim
      (λ (here : y ≡ x).
      let own : m ≡ x.memory = sym same ∙ ap (λ (z : Placed). z.memory) here in
      record { rows = rows; located = inl (own, refl, subst (λ (z : Memory). Among z.reads r) (sym own) port); has = subst (λ (z : Placed). HasItsRows kept z rows) here h.0 })
      (λ (later : Among ys x). let k = more ys rest h.1 later in record { rows = k.rows; located = inr k.located; has = k.has })
      a

  locate : (ms : List Memory) (all : List (List ℤ)) (xs : List Placed) → map (λ (y : Placed). y.memory) xs ≡ filter is_there ms → Locates ms all xs
  locate [] all [] e h a = absurd a
  locate [] all (y ∷ xs) e h a = cc
  locate (m ∷ ms) [] [] e h a = absurd a
  locate (m ∷ ms) [] (y ∷ xs) e h a = absurd h
  locate (m ∷ ms) (rows ∷ all) xs e h a = locate_turn m ms rows all (λ ys k. locate ms all ys k) (is_there m) xs e h a

  pub port_located : (c : Circuit) (all : List (List ℤ)) → KeepsRows c kept all → Among (memories_of c) x → IsLocated kept c.memories all x r
  port_located c all h a = locate c.memories all (memories_of c) (memories_are c) h a

-- a port of any memory of the design stands beside rows, as many as the memory is deep
pub record StandsBeside (ms : List Memory) (all : List (List ℤ)) (m : Memory) (r : MemRead) : Type 0 where
  pub rows : List ℤ
  pub located : Located ms all m rows r
  pub long : length rows ≡ m.depth

pub stands_beside : (ms : List Memory) (all : List (List ℤ)) (m : Memory) (r : MemRead) → AreDeep ms all → Among ms m → Among m.reads r → StandsBeside ms all m r
stands_beside [] all m r h a b = absurd a
stands_beside (x ∷ ms) [] m r h a b = absurd h
stands_beside (x ∷ ms) (rows ∷ all) m r h a b = ⊎_elim
    (λ (here : x ≡ m). record { rows = rows; located = inl (here, refl, subst (λ (y : Memory). Among y.reads r) (sym here) b); long = h.0 ∙ ap (λ (y : Memory). y.depth) here })
    (λ (later : Among ms m). let k = stands_beside ms all m r h.1 later b in record { rows = k.rows; located = inr k.located; long = k.long })
    a
