-- The write cells and the cells of first rows that the drawings of memories have: of each memory its own, in order.
use Rattle.design_ir.specs.declared.memory.MemRead.{MemRead}
use Rattle.design_ir.specs.declared.memory.MemWrite.{MemWrite}
use Rattle.std.specs.Prelude.{◌≡◌, ℕ, suc, ◌+◌, ◌*◌, ◌&&◌, Bool, true, false, if◌then◌else◌, List, [], ◌∷◌, ◌++◌, map, length, Option, Some, None}
use Rattle.std.specs.List.{AllByRecursion, IsDistinct, filter, flat_map}
use Rattle.std.proofs.Common.{refl, sym, ap, ◌∙◌, arith, subst, append-nil, append_assoc, ⊎_elim}
use Rattle.std.proofs.lemmas.Map.Keys.{IsDistinct-head, IsDistinct-tail}
use Rattle.std.proofs.lemmas.Bool.{cond_both}
use Rattle.std.proofs.lemmas.List.Elements.{filter-append}
use Rattle.lists.specs.Texts.{text_eq}
use Rattle.lists.proofs.TextLaws.{text_eq_same}
use Rattle.new_names.proofs.NameLaws.{text_eq_flipped}
use Rattle.rtlil_text.proofs.Among.{Among, Among-left, Among-right}
use Rattle.design_ir.specs.declared.ids.ExprId.{ExprId}
use Rattle.design_ir.specs.declared.memory.Memory.{Memory}
use Rattle.design_ir.specs.Circuits.{Circuit}
use Rattle.rtlil_text.specs.declared.cell.RtlCell.{RtlCell}
use Rattle.rtlil_text.specs.Sources.{memory_id}
use Rattle.rtlil_text.specs.Memories.{is_write, is_init}
use Rattle.memory_cells.specs.declared.plan.Plan.{Plan}
use Rattle.memory_cells.specs.Cells.{init_cell, WritePort, write_cells}
use Rattle.netlist_laws.specs.Ids.{step_id}
use Rattle.netlist_laws.specs.Operators.{Drawing, nothing, one_cell, whole}
use Rattle.netlist_laws.specs.Module.{signal_value, expr_value}
use Rattle.netlist_laws.specs.MemoryDrawings.{Placed, Part, FirstRows, Writes, Reads, names_rows, address_guard, write_enable, writing, write_behind, guarded_read, reading, read_behind, part_drawing, drawn_parts, all_parts, parts_of, write_parts, port_clock, guarded_address}

-- the cells of a memory that write, and those that give it its first rows
abbrev pub writes_it : List ℕ → RtlCell → Bool
writes_it id c = is_write c.kind && text_eq (memory_id c) id

abbrev pub begins_it : List ℕ → RtlCell → Bool
begins_it id c = is_init c.kind && text_eq (memory_id c) id

-- ---- the cells of one part

-- what a part writes with, and what it begins with
abbrev pub own_writes : Circuit → Placed → ℕ → Part → List RtlCell
own_writes c x n FirstRows = []
own_writes c x n (Writes k w) = writing c x.plan x.memory k n w (write_enable c x.memory n w) ∷ []
own_writes c x n (Reads r) = []

abbrev pub own_inits : Circuit → Placed → ℕ → Part → List RtlCell
own_inits c x n FirstRows = init_cell x.plan (step_id n) x.memory.rows ∷ []
own_inits c x n (Writes k w) = []
own_inits c x n (Reads r) = []

-- whether cells of the drawing pass, where those of its guard do not
module _ (test : RtlCell → Bool) where
  guarded_cells : (xs ys : List RtlCell) → filter test xs ≡ [] → filter test (xs ++ ys) ≡ filter test ys
  guarded_cells xs ys e = filter-append test xs ys ∙ ap (λ zs. zs ++ filter test ys) e

module _ (c : Circuit) (id : List ℕ) (x : Placed) (n : ℕ) where
  abbrev p : Plan
  p = x.plan

  abbrev m : Memory
  m = x.memory

  guard_writes : (e : ExprId) → filter (writes_it id) (address_guard c m n e).cells ≡ []
  guard_writes e = cond_both (names_rows c m e) nothing _ (λ (d : Drawing). filter (writes_it id) d.cells ≡ []) (λ t. refl) (λ t. refl)

  guard_inits : (e : ExprId) → filter (begins_it id) (address_guard c m n e).cells ≡ []
  guard_inits e = cond_both (names_rows c m e) nothing _ (λ (d : Drawing). filter (begins_it id) d.cells ≡ []) (λ t. refl) (λ t. refl)

  one_write : (cell : RtlCell) → is_write cell.kind ≡ true → memory_id cell ≡ p.id → filter (writes_it id) (cell ∷ []) ≡ (if text_eq p.id id then cell ∷ [] else [])
  one_write cell kind own = λ i. if kind i && text_eq (own i) id then cell ∷ [] else []

  part_writes : (q : Part) → filter (writes_it id) (part_drawing c x n q).cells ≡ (if text_eq p.id id then own_writes c x n q else [])
  part_writes FirstRows = cond_both (text_eq p.id id) [] [] (λ (cells : List RtlCell). [] ≡ cells) (λ t. refl) (λ t. refl)
  part_writes (Writes k w) =
      let cell : RtlCell = writing c p m k n w (write_enable c m n w) in
      guarded_cells (writes_it id) (address_guard c m n w.addr).cells (write_behind c p m k n w).cells (guard_writes w.addr)
      ∙ cond_both (names_rows c m w.addr) (one_cell cell) _ (λ (d : Drawing). filter (writes_it id) d.cells ≡ (if text_eq p.id id then cell ∷ [] else [])) (λ t. one_write cell refl refl) (λ t. one_write cell refl refl)
  part_writes (Reads r) =
      guarded_cells (writes_it id) (address_guard c m n r.addr).cells (read_behind c p m n r).cells (guard_writes r.addr)
      ∙ read_none r.domain
    where
      none : (b : Bool) → [] ≡ (if b then own_writes c x n (Reads r) else [])
      none true = refl
      none false = refl

      read_none : (d : Option (List ℕ)) → filter (writes_it id) (if names_rows c m r.addr then one_cell (reading c p m n r d (whole (signal_value c r.word.0))) else guarded_read c p m n r d).cells ≡ (if text_eq p.id id then own_writes c x n (Reads r) else [])
      read_none None = cond_both (names_rows c m r.addr) (one_cell (reading c p m n r None (whole (signal_value c r.word.0)))) (guarded_read c p m n r None) (λ (d : Drawing). filter (writes_it id) d.cells ≡ []) (λ t. refl) (λ t. refl) ∙ none (text_eq p.id id)
      read_none (Some d) = cond_both (names_rows c m r.addr) (one_cell (reading c p m n r (Some d) (whole (signal_value c r.word.0)))) (guarded_read c p m n r (Some d)) (λ (d : Drawing). filter (writes_it id) d.cells ≡ []) (λ t. refl) (λ t. refl) ∙ none (text_eq p.id id)

  one_init : (cell : RtlCell) → is_init cell.kind ≡ true → memory_id cell ≡ p.id → filter (begins_it id) (cell ∷ []) ≡ (if text_eq p.id id then cell ∷ [] else [])
  one_init cell kind own = λ i. if kind i && text_eq (own i) id then cell ∷ [] else []

  no_inits : (b : Bool) (cells : List RtlCell) → cells ≡ [] → [] ≡ (if b then cells else [])
  no_inits true cells e = sym e
  no_inits false cells e = refl

  part_inits : (q : Part) → filter (begins_it id) (part_drawing c x n q).cells ≡ (if text_eq p.id id then own_inits c x n q else [])
  part_inits FirstRows = one_init (init_cell p (step_id n) m.rows) refl refl
  part_inits (Writes k w) =
      let cell : RtlCell = writing c p m k n w (write_enable c m n w) in
      guarded_cells (begins_it id) (address_guard c m n w.addr).cells (write_behind c p m k n w).cells (guard_inits w.addr)
      ∙ cond_both (names_rows c m w.addr) (one_cell cell) _ (λ (d : Drawing). filter (begins_it id) d.cells ≡ []) (λ t. refl) (λ t. refl) ∙ no_inits (text_eq p.id id) (own_inits c x n (Writes k w)) refl
  part_inits (Reads r) =
      guarded_cells (begins_it id) (address_guard c m n r.addr).cells (read_behind c p m n r).cells (guard_inits r.addr) ∙ read_none r.domain ∙ no_inits (text_eq p.id id) (own_inits c x n (Reads r)) refl
    where
      read_none : (d : Option (List ℕ)) → filter (begins_it id) (if names_rows c m r.addr then one_cell (reading c p m n r d (whole (signal_value c r.word.0))) else guarded_read c p m n r d).cells ≡ []
      read_none None = cond_both (names_rows c m r.addr) (one_cell (reading c p m n r None (whole (signal_value c r.word.0)))) (guarded_read c p m n r None) (λ (d : Drawing). filter (begins_it id) d.cells ≡ []) (λ t. refl) (λ t. refl)
      read_none (Some d) = cond_both (names_rows c m r.addr) (one_cell (reading c p m n r (Some d) (whole (signal_value c r.word.0)))) (guarded_read c p m n r (Some d)) (λ (d : Drawing). filter (begins_it id) d.cells ≡ []) (λ t. refl) (λ t. refl)

-- ---- all parts

-- what the parts of the memory with an id have of such cells, where the first of these parts has number n
abbrev pub owned : (own : Placed → ℕ → Part → List RtlCell) (id : List ℕ) → ℕ → List (Placed × Part) → List RtlCell
owned own id n [] = []
owned own id n ((x, q) ∷ more) = (if text_eq x.plan.id id then own x n q else []) ++ owned own id (n + 11) more

module _ (c : Circuit) (id : List ℕ) where
  pub parts_writes : (n : ℕ) (xs : List (Placed × Part)) → flat_map (λ (d : Drawing). filter (writes_it id) d.cells) (drawn_parts c n xs) ≡ owned (own_writes c) id n xs
  parts_writes n [] = refl
  parts_writes n ((x, q) ∷ xs) = λ i. part_writes c id x n q i ++ parts_writes (n + 11) xs i

  pub parts_inits : (n : ℕ) (xs : List (Placed × Part)) → flat_map (λ (d : Drawing). filter (begins_it id) d.cells) (drawn_parts c n xs) ≡ owned (own_inits c) id n xs
  parts_inits n [] = refl
  parts_inits n ((x, q) ∷ xs) = λ i. part_inits c id x n q i ++ parts_inits (n + 11) xs i

-- ---- of one memory after another

module _ (own : Placed → ℕ → Part → List RtlCell) (id : List ℕ) where
  owned-append : (n : ℕ) (xs ys : List (Placed × Part)) → owned own id n (xs ++ ys) ≡ owned own id n xs ++ owned own id (n + 11 * length xs) ys
  owned-append n [] ys = ap (λ k. owned own id k ys) (let e : n ≡ n + 11 * 0 = omega arith in e)
  owned-append n ((x, q) ∷ xs) ys =
      ap (λ zs. (if text_eq x.plan.id id then own x n q else []) ++ zs) (owned-append (n + 11) xs ys)
      ∙ sym (append_assoc (if text_eq x.plan.id id then own x n q else []) (owned own id (n + 11) xs) (owned own id ((n + 11) + 11 * length xs) ys))
      ∙ ap (λ k. ((if text_eq x.plan.id id then own x n q else []) ++ owned own id (n + 11) xs) ++ owned own id k ys) (let e : (n + 11) + 11 * length xs ≡ n + 11 * suc (length xs) = omega arith in e)

  -- the parts of other memories have none
  other_none : (n : ℕ) (x : Placed) (qs : List Part) → text_eq x.plan.id id ≡ false → owned own id n (map (λ q. (x, q)) qs) ≡ []
  other_none n x [] e = refl
  other_none n x (q ∷ qs) e = λ i. (if e i then own x n q else []) ++ other_none (n + 11) x qs e i

  -- its own parts one after another
  abbrev pub own_parts : Placed → ℕ → List Part → List RtlCell
  own_parts x n [] = []
  own_parts x n (q ∷ qs) = own x n q ++ own_parts x (n + 11) qs

  own_all : (n : ℕ) (x : Placed) (qs : List Part) → text_eq x.plan.id id ≡ true → owned own id n (map (λ q. (x, q)) qs) ≡ own_parts x n qs
  own_all n x [] e = refl
  own_all n x (q ∷ qs) e = λ i. (if e i then own x n q else []) ++ own_all (n + 11) x qs e i

  none_of : (n : ℕ) (xs : List Placed) → AllByRecursion (λ (x : Placed). text_eq x.plan.id id ≡ false) xs → owned own id n (all_parts xs) ≡ []
  none_of n [] h = refl
  none_of n (x ∷ xs) h =
      owned-append n (map (λ q. (x, q)) (parts_of x.memory)) (all_parts xs)
      ∙ (λ i. other_none n x (parts_of x.memory) h.0 i ++ none_of (n + 11 * length {A = Placed × Part} (map (λ q. (x, q)) (parts_of x.memory))) xs h.1 i)

-- the drawings of some parts, and of more behind them
pub drawn_parts-append : (c : Circuit) (n : ℕ) (xs ys : List (Placed × Part)) → drawn_parts c n (xs ++ ys) ≡ drawn_parts c n xs ++ drawn_parts c (n + 11 * length xs) ys
drawn_parts-append c n [] ys = ap (λ k. drawn_parts c k ys) (let e : n ≡ n + 11 * 0 = omega arith in e)
drawn_parts-append c n ((x, q) ∷ xs) ys =
    ap (λ ds. part_drawing c x n q ∷ ds)
    (drawn_parts-append c (n + 11) xs ys ∙ ap (λ k. drawn_parts c (n + 11) xs ++ drawn_parts c k ys) (let e : (n + 11) + 11 * length xs ≡ n + 11 * suc (length xs) = omega arith in e))

-- where no two have one id, the memory with this id has its own, from some number on; there its parts are drawn
pub record IsOwned (c : Circuit) (own : Placed → ℕ → Part → List RtlCell) (x : Placed) (drawn : List Drawing) (cells : List RtlCell) : Type 0 where
  pub first : ℕ
  pub same : cells ≡ own_parts own x.plan.id x first (parts_of x.memory)
  pub there : (d : Drawing) → Among (drawn_parts c first (map (λ q. (x, q)) (parts_of x.memory))) d → Among drawn d

abbrev pub placed_ids : List Placed → List (List ℕ)
placed_ids xs = map (λ (x : Placed). x.plan.id) xs

all_apart : (x : Placed) (xs : List Placed) → AllByRecursion (λ i. text_eq x.plan.id i ≡ false) (placed_ids xs) → AllByRecursion (λ (y : Placed). text_eq y.plan.id x.plan.id ≡ false) xs
all_apart x [] h = tt
all_apart x (y ∷ xs) h = (text_eq_flipped y.plan.id x.plan.id ∙ h.0, all_apart x xs h.1)

pub apart_at : (x : Placed) (y : Placed) (xs : List Placed) → AllByRecursion (λ i. text_eq x.plan.id i ≡ false) (placed_ids xs) → Among xs y → text_eq x.plan.id y.plan.id ≡ false
apart_at x y [] h a = absurd a
apart_at x y (z ∷ xs) h a = ⊎_elim (λ (e : z ≡ y). ap (λ (w : Placed). text_eq x.plan.id w.plan.id) (sym e) ∙ h.0) (λ (more : Among xs y). apart_at x y xs h.1 more) a

pub owned_by : (c : Circuit) (own : Placed → ℕ → Part → List RtlCell) (n : ℕ) (xs : List Placed) (y : Placed) → IsDistinct text_eq (placed_ids xs) → Among xs y → IsOwned c own y (drawn_parts c n (all_parts xs)) (owned own y.plan.id n (all_parts xs))
owned_by c own n [] y d a = absurd a
owned_by c own n (x ∷ xs) y d a =
    let mine : List (Placed × Part) = map (λ q. (x, q)) (parts_of x.memory) in
    let next : ℕ = n + 11 * length {A = Placed × Part} (map (λ q. (x, q)) (parts_of x.memory)) in
    let apart : drawn_parts c n (all_parts (x ∷ xs)) ≡ drawn_parts c n mine ++ drawn_parts c next (all_parts xs) = drawn_parts-append c n mine (all_parts xs) in
    let heads = IsDistinct-head text_eq x.plan.id (placed_ids xs) d in
    ⊎_elim
    (λ (here : x ≡ y).
    subst (λ (z : Placed). IsOwned c own z (drawn_parts c n (all_parts (x ∷ xs))) (owned own z.plan.id n (all_parts (x ∷ xs)))) here
    (record {
      first = n;
      same =
          owned-append own x.plan.id n (map (λ q. (x, q)) (parts_of x.memory)) (all_parts xs)
          ∙ (λ i. own_all own x.plan.id n x (parts_of x.memory) (text_eq_same x.plan.id) i ++ none_of own x.plan.id next xs (all_apart x xs heads) i)
          ∙ append-nil (own_parts own x.plan.id x n (parts_of x.memory));
      there = λ e b. subst (λ ds. Among ds e) (sym apart) (Among-left (drawn_parts c n mine) (drawn_parts c next (all_parts xs)) e b);
    }))
    (λ (later : Among xs y).
    let r = owned_by c own next xs y (IsDistinct-tail text_eq x.plan.id (placed_ids xs) d) later in
    record {
      first = r.first;
      same =
          owned-append own y.plan.id n (map (λ q. (x, q)) (parts_of x.memory)) (all_parts xs)
          ∙ ap (λ zs. zs ++ owned own y.plan.id next (all_parts xs)) (other_none own y.plan.id n x (parts_of x.memory) (apart_at x y xs heads later))
          ∙ r.same;
      there = λ e b. subst (λ ds. Among ds e) (sym apart) (Among-right (drawn_parts c n mine) (drawn_parts c next (all_parts xs)) e (r.there e b));
    })
    a

-- ---- in order

-- what stands at the ends of the cells of these ports, numbered from n on
abbrev pub ports_from : Circuit → Memory → ℕ → List MemWrite → List WritePort
ports_from c m n [] = []
ports_from c m n (w ∷ ws) =
    record { id = step_id (n + 6); clock = port_clock c w.domain; enable = write_enable c m n w; address = guarded_address c m n w.addr; word = whole (expr_value c w.word.0) } ∷ ports_from c m (n + 11) ws

pub length-ports_from : (c : Circuit) (m : Memory) (n : ℕ) (ws : List MemWrite) → length (ports_from c m n ws) ≡ length ws
length-ports_from c m n [] = refl
length-ports_from c m n (w ∷ ws) = ap suc (length-ports_from c m (n + 11) ws)

module _ (c : Circuit) (x : Placed) where
  reads_none : (id : List ℕ) (n : ℕ) (rs : List MemRead) → own_parts (own_writes c) id x n (map Reads rs) ≡ []
  reads_none id n [] = refl
  reads_none id n (r ∷ rs) = reads_none id (n + 11) rs

  pub ports_are : (id : List ℕ) (k n : ℕ) (ws : List MemWrite) (rs : List MemRead) → own_parts (own_writes c) id x n (write_parts k ws ++ map Reads rs) ≡ write_cells x.plan k (ports_from c x.memory n ws)
  ports_are id k n [] rs = reads_none id n rs
  ports_are id k n (w ∷ ws) rs = ap (λ cells. writing c x.plan x.memory k n w (write_enable c x.memory n w) ∷ cells) (ports_are id (suc k) (n + 11) ws rs)

  pub inits_none : (id : List ℕ) (k n : ℕ) (ws : List MemWrite) (rs : List MemRead) → own_parts (own_inits c) id x n (write_parts k ws ++ map Reads rs) ≡ []
  inits_none id k n [] [] = refl
  inits_none id k n [] (r ∷ rs) = inits_none id k (n + 11) [] rs
  inits_none id k n (w ∷ ws) rs = inits_none id (suc k) (n + 11) ws rs
