-- The memories of a module one after another.
use Rattle.std.specs.Prelude.{◌≡◌, ◌<◌, ◌≤◌, ◌+◌, ◌-◌, ◌*◌, ◌^◌, ℕ, suc, nat_le, Bool, true, false, cond, if◌then◌else◌, List, [], ◌∷◌, ◌++◌, map, length, drop, get_or, slice_get, Option, Some, unwrap_or}
use Rattle.std.specs.List.{filter, find, range_with_len}
use Rattle.std.proofs.Common.{refl, sym, ap, ◌∙◌, arith, append_assoc, append-nil}
use Rattle.std.proofs.Math.Nat.{pow-le-pow_right}
use Rattle.std.proofs.lemmas.Bool.{le-leb, lt-leb}
use Rattle.std.proofs.lemmas.List.{drop_more, drop_all, map-append, length-map, length-append}
use Rattle.std.proofs.lemmas.List.Concat.{flat_map-append}
use Rattle.std.proofs.lemmas.Option.{get_or_from_slice_get}
use Rattle.design_ir.specs.declared.memory.MemWrite.{MemWrite}
use Rattle.design_ir.specs.declared.memory.MemRead.{MemRead}
use Rattle.design_ir.specs.declared.memory.Memory.{Memory}
use Rattle.design_ir.specs.declared.port.Column.{Column}
use Rattle.design_ir.specs.Circuits.{Circuit}
use Rattle.memory_cells.specs.declared.plan.Plan.{Plan}
use Rattle.memory_cells.specs.Plans.{planned}
use Rattle.new_names.specs.Fresh.{fresh_name, given_names}
use Rattle.rtlil_text.specs.declared.module.RtlMemory.{RtlMemory}
use Rattle.netlist_laws.specs.Operators.{Drawing}
use Rattle.netlist_laws.specs.Expressions.{and_also}
use Rattle.netlist_laws.specs.Module.{is_there}
use Rattle.netlist_laws.specs.MemoryDrawings.{Placed, Part, FirstRows, Reads, placed, plan_of, write_parts, parts_of, part_drawing, write_drawing, read_drawing, all_parts, drawn_parts, memories_of, memory_drawings, memory_lines}
use Rattle.netlist.specs.Tables.{own_parts, placed_one, names_with, together}
use Rattle.netlist_cells.proofs.LowerItems.{and_also_assoc}
use Rattle.netlist.proofs.LowerDrawings.{also_nothing, also_more}
use Rattle.netlist.proofs.LowerModule.{together_append}
use Rattle.netlist.proofs.LowerWires.{range_next, range_end}
use Rattle.netlist_laws.proofs.MemoryWrites.{drawn_parts-append}

-- ---- widths of rows' numbers

-- numbers of these widths fit
pub small_width : (w : ℕ) → w < 17 → 2 ^ w ≤ 65536
small_width w h =
    let narrow : w ≤ 16 = omega (arith, h) in
    let few : 2 ^ w ≤ 2 ^ 16 = pow-le-pow_right {n = 2} (omega arith) narrow in
    omega (arith, few)

-- a width whose numbers are too few for the rows, the first whose numbers name them all, and none
pub width_turn : (depth w : ℕ) (all : Option ℕ) → w < 17 → 2 ^ w < depth → find (λ v. nat_le depth (2 ^ v)) (range_with_len w (17 - w)) ≡ all → find (λ v. nat_le depth (2 ^ v)) (range_with_len (w + 1) (17 - (w + 1))) ≡ all
width_turn depth w all h few whole =
    let f = λ (v : ℕ). nat_le depth (2 ^ v) in
    ap (λ b. cond b (Some w) (find f (range_with_len (w + 1) (17 - (w + 1))))) (sym (lt-leb depth (2 ^ w) few)) ∙ ap (find f) (sym (range_next w 17 h)) ∙ whole

pub width_found : (depth w : ℕ) (all : Option ℕ) → w < 17 → depth ≤ 2 ^ w → find (λ v. nat_le depth (2 ^ v)) (range_with_len w (17 - w)) ≡ all → w ≡ unwrap_or all 17
width_found depth w all h enough whole =
    let f = λ (v : ℕ). nat_le depth (2 ^ v) in
    ap (λ o. unwrap_or o 17) (ap (λ b. cond b (Some w) (find f (range_with_len (w + 1) (17 - (w + 1))))) (sym (le-leb depth (2 ^ w) enough)) ∙ ap (find f) (sym (range_next w 17 h)) ∙ whole)

pub width_end : (depth w : ℕ) (all : Option ℕ) → 17 ≤ w → find (λ v. nat_le depth (2 ^ v)) (range_with_len w (17 - w)) ≡ all → 17 ≡ unwrap_or all 17
width_end depth w all h whole = ap (λ o. unwrap_or o 17) (ap (find (λ v. nat_le depth (2 ^ v))) (sym (range_end w 17 h)) ∙ whole)

-- ---- names of columns

-- a turn: the next name is given behind those that stand
pub names_turn : (names names' all : List (List ℕ)) (more : List (List ℕ)) (name : List ℕ) → names' ≡ names ++ fresh_name names name ∷ [] → names ++ given_names names (name ∷ more) ≡ all → names' ++ given_names names' more ≡ all
names_turn names names' all more name given whole =
    let x : List ℕ = fresh_name names name in
    ap (λ ns. ns ++ given_names ns more) given ∙ append_assoc names (x ∷ []) (given_names (names ++ x ∷ []) more) ∙ whole

pub columns_turn : (cs : List Column) (k : ℕ) (x : Column) (names names' all : List (List ℕ)) → k < length cs → slice_get cs k ≡ Some x → names' ≡ names ++ fresh_name names x.name ∷ []
    → names ++ given_names names (map (λ (y : Column). y.name) (drop k cs)) ≡ all → names' ++ given_names names' (map (λ (y : Column). y.name) (drop (k + 1) cs)) ≡ all
columns_turn cs k x names names' all h is given whole =
    let f = λ (y : Column). y.name in
    let head : drop k cs ≡ x ∷ drop (k + 1) cs = drop_more cs k x h ∙ ap (λ (y : Column). y ∷ drop (k + 1) cs) (get_or_from_slice_get cs k x x is) in
    names_turn names names' all (map f (drop (k + 1) cs)) x.name given (ap (λ ys. names ++ given_names names (map f ys)) (sym head) ∙ whole)

pub columns_end : (cs : List Column) (k : ℕ) (names all : List (List ℕ)) → length cs ≤ k → names ++ given_names names (map (λ (y : Column). y.name) (drop k cs)) ≡ all → names ≡ all
columns_end cs k names all h whole = sym (append-nil names) ∙ ap (λ ys. names ++ given_names names (map (λ (y : Column). y.name) ys)) (sym (drop_all k cs h)) ∙ whole

-- ---- parts of one memory

pub writes_turn : (c : Circuit) (p : Plan) (m : Memory) (n k : ℕ) (ws : List MemWrite) (w : MemWrite) (d d' all : Drawing) → k < length ws → get_or ws k w ≡ w → d' ≡ and_also d (write_drawing c p m k (n + 11 * k) w)
    → and_also d (together (drawn_parts c (n + 11 * k) (own_parts p m (write_parts k (drop k ws))))) ≡ all → and_also d' (together (drawn_parts c (n + 11 * (k + 1)) (own_parts p m (write_parts (k + 1) (drop (k + 1) ws))))) ≡ all
writes_turn c p m n k ws w d d' all h is added whole =
    let head : drop k ws ≡ w ∷ drop (k + 1) ws = drop_more ws k w h ∙ ap (λ (x : MemWrite). x ∷ drop (k + 1) ws) is in
    let one : k + 1 ≡ suc k = omega arith in
    let on : n + 11 * (k + 1) ≡ n + 11 * k + 11 = omega arith in
    (λ i. and_also d' (together (drawn_parts c (on i) (own_parts p m (write_parts (one i) (drop (k + 1) ws))))))
    ∙ also_more d d' all (write_drawing c p m k (n + 11 * k) w) (drawn_parts c (n + 11 * k + 11) (own_parts p m (write_parts (suc k) (drop (k + 1) ws)))) added
    (ap (λ xs. and_also d (together (drawn_parts c (n + 11 * k) (own_parts p m (write_parts k xs))))) (sym head) ∙ whole)

pub reads_turn : (c : Circuit) (p : Plan) (m : Memory) (n k : ℕ) (rs : List MemRead) (r : MemRead) (d d' all : Drawing) → k < length rs → get_or rs k r ≡ r → d' ≡ and_also d (read_drawing c p m (n + 11 * k) r)
    → and_also d (together (drawn_parts c (n + 11 * k) (own_parts p m (map Reads (drop k rs))))) ≡ all → and_also d' (together (drawn_parts c (n + 11 * (k + 1)) (own_parts p m (map Reads (drop (k + 1) rs))))) ≡ all
reads_turn c p m n k rs r d d' all h is added whole =
    let head : drop k rs ≡ r ∷ drop (k + 1) rs = drop_more rs k r h ∙ ap (λ (x : MemRead). x ∷ drop (k + 1) rs) is in
    let on : n + 11 * (k + 1) ≡ n + 11 * k + 11 = omega arith in
    (λ i. and_also d' (together (drawn_parts c (on i) (own_parts p m (map Reads (drop (k + 1) rs))))))
    ∙ also_more d d' all (read_drawing c p m (n + 11 * k) r) (drawn_parts c (n + 11 * k + 11) (own_parts p m (map Reads (drop (k + 1) rs)))) added
    (ap (λ xs. and_also d (together (drawn_parts c (n + 11 * k) (own_parts p m (map Reads xs))))) (sym head) ∙ whole)

pub writes_begin : (c : Circuit) (p : Plan) (m : Memory) (n : ℕ) (d : Drawing) → and_also d (together (drawn_parts c (n + 11 * 0) (own_parts p m (write_parts 0 (drop 0 m.writes))))) ≡ and_also d (together (drawn_parts c n (own_parts p m (write_parts 0 m.writes))))
writes_begin c p m n d = let e : n + 11 * 0 ≡ n = omega arith in ap (λ k. and_also d (together (drawn_parts c k (own_parts p m (write_parts 0 m.writes))))) e

pub writes_end : (c : Circuit) (p : Plan) (m : Memory) (n k : ℕ) (d all : Drawing) → length m.writes ≤ k → and_also d (together (drawn_parts c (n + 11 * k) (own_parts p m (write_parts k (drop k m.writes))))) ≡ all → d ≡ all
writes_end c p m n k d all h whole = sym (also_nothing d) ∙ ap (λ ws. and_also d (together (drawn_parts c (n + 11 * k) (own_parts p m (write_parts k ws))))) (sym (drop_all k m.writes h)) ∙ whole

pub reads_begin : (c : Circuit) (p : Plan) (m : Memory) (n : ℕ) (d : Drawing) → and_also d (together (drawn_parts c (n + 11 * 0) (own_parts p m (map Reads (drop 0 m.reads))))) ≡ and_also d (together (drawn_parts c n (own_parts p m (map Reads m.reads))))
reads_begin c p m n d = let e : n + 11 * 0 ≡ n = omega arith in ap (λ k. and_also d (together (drawn_parts c k (own_parts p m (map Reads m.reads))))) e

pub reads_end : (c : Circuit) (p : Plan) (m : Memory) (n k : ℕ) (d all : Drawing) → length m.reads ≤ k → and_also d (together (drawn_parts c (n + 11 * k) (own_parts p m (map Reads (drop k m.reads))))) ≡ all → d ≡ all
reads_end c p m n k d all h whole = sym (also_nothing d) ∙ ap (λ rs. and_also d (together (drawn_parts c (n + 11 * k) (own_parts p m (map Reads rs))))) (sym (drop_all k m.reads h)) ∙ whole

length-write_parts : (k : ℕ) (ws : List MemWrite) → length (write_parts k ws) ≡ length ws
length-write_parts k [] = refl
length-write_parts k (w ∷ ws) = ap suc (length-write_parts (suc k) ws)

-- the first rows, the write ports and the read ports
pub parts_together : (c : Circuit) (p : Plan) (m : Memory) (n k : ℕ) (d rows writes reads : Drawing) → k ≡ length m.writes → rows ≡ and_also d (part_drawing c (record { plan = p; memory = m }) n FirstRows)
    → writes ≡ and_also rows (together (drawn_parts c (n + 11) (own_parts p m (write_parts 0 m.writes))))
    → reads ≡ and_also writes (together (drawn_parts c (n + 11 + 11 * k) (own_parts p m (map Reads m.reads)))) → reads ≡ and_also d (together (drawn_parts c n (own_parts p m (parts_of m))))
parts_together c p m n k d rows writes reads count first second last =
    let x : Placed = record { plan = p; memory = m } in
    let ws : List Part = write_parts 0 m.writes in
    let rs : List Part = map Reads m.reads in
    let A : List Drawing = drawn_parts c (n + 11) (own_parts p m ws) in
    let B : List Drawing = drawn_parts c (n + 11 + 11 * length m.writes) (own_parts p m rs) in
    let long : length (own_parts p m ws) ≡ length m.writes = length-map ws (λ q. (x, q)) ∙ length-write_parts 0 m.writes in
    let rest : drawn_parts c (n + 11) (own_parts p m (ws ++ rs)) ≡ A ++ B =
    ap (drawn_parts c (n + 11)) (map-append (λ q. (x, q)) ws rs) ∙ drawn_parts-append c (n + 11) (own_parts p m ws) (own_parts p m rs) ∙ ap (λ k. A ++ drawn_parts c (n + 11 + 11 * k) (own_parts p m rs)) long in
    last ∙ ap (λ j. and_also writes (together (drawn_parts c (n + 11 + 11 * j) (own_parts p m rs)))) count ∙ ap (λ y. and_also y (together B)) second ∙ and_also_assoc rows (together A) (together B) ∙ ap (and_also rows) (together_append A B) ∙ ap (λ ds. and_also rows (together ds)) (sym rest)
    ∙ ap (λ y. and_also y (together (drawn_parts c (n + 11) (own_parts p m (ws ++ rs))))) first
    ∙ and_also_assoc d (part_drawing c x n FirstRows) (together (drawn_parts c (n + 11) (own_parts p m (ws ++ rs))))

-- ---- all memories

-- those of these memories that are memories of the module, behind these names
abbrev pub placed_all : List (List ℕ) → List Memory → List Placed
placed_all names ms = placed (given_names names (map (λ (m : Memory). m.name) (filter is_there ms))) (filter is_there ms)

pub placed_next : (names : List (List ℕ)) (m : Memory) (ms : List Memory) → placed_all names (m ∷ ms) ≡ placed_one names m ++ placed_all (names_with names m) ms
placed_next names m ms = by (is_there m)
  where
    more : List Memory
    more = filter is_there ms

    by : (b : Bool) → placed (given_names names (map (λ (x : Memory). x.name) (cond b (m ∷ more) more))) (cond b (m ∷ more) more)
        ≡ (if b then record { plan = plan_of (fresh_name names m.name) m; memory = m } ∷ [] else []) ++ placed_all (if b then names ++ fresh_name names m.name ∷ [] else names) ms
    by true = refl
    by false = refl

module _ (c : Circuit) (names names' : List (List ℕ)) (n n' : ℕ) (m : Memory) (ms : List Memory) (given : names' ≡ names_with names m) (count : n' ≡ n + 11 * length (all_parts (placed_one names m))) where
  abbrev one : List Placed
  one = placed_one names m

  split : all_parts (placed_all names (m ∷ ms)) ≡ all_parts one ++ all_parts (placed_all names' ms)
  split = ap all_parts (placed_next names m ms ∙ ap (λ ns. one ++ placed_all ns ms) (sym given)) ∙ flat_map-append (λ (x : Placed). map (λ q. (x, q)) (parts_of x.memory)) one (placed_all names' ms)

  drawn_split : drawn_parts c n (all_parts (placed_all names (m ∷ ms))) ≡ drawn_parts c n (all_parts one) ++ drawn_parts c n' (all_parts (placed_all names' ms))
  drawn_split =
      ap (drawn_parts c n) split ∙ drawn_parts-append c n (all_parts one) (all_parts (placed_all names' ms)) ∙ ap (λ k. drawn_parts c n (all_parts one) ++ drawn_parts c k (all_parts (placed_all names' ms))) (sym count)

  pub memory_drawn : (d d' all : Drawing) → d' ≡ and_also d (together (drawn_parts c n (all_parts one))) → and_also d (together (drawn_parts c n (all_parts (placed_all names (m ∷ ms))))) ≡ all
      → and_also d' (together (drawn_parts c n' (all_parts (placed_all names' ms)))) ≡ all
  memory_drawn d d' all added whole =
      let A = together (drawn_parts c n (all_parts one)) in
      let B = together (drawn_parts c n' (all_parts (placed_all names' ms))) in
      ap (λ x. and_also x B) added ∙ and_also_assoc d A B ∙ ap (and_also d) (together_append (drawn_parts c n (all_parts one)) (drawn_parts c n' (all_parts (placed_all names' ms)))) ∙ ap (λ ds. and_also d (together ds)) (sym drawn_split) ∙ whole

  pub memory_line : (lines lines' all : List RtlMemory) → lines' ≡ lines ++ map (λ (x : Placed). planned x.plan) one → lines ++ map (λ (x : Placed). planned x.plan) (placed_all names (m ∷ ms)) ≡ all
      → lines' ++ map (λ (x : Placed). planned x.plan) (placed_all names' ms) ≡ all
  memory_line lines lines' all added whole =
      let f = λ (x : Placed). planned x.plan in
      ap (λ ls. ls ++ map f (placed_all names' ms)) added ∙ append_assoc lines (map f one) (map f (placed_all names' ms))
      ∙ ap (λ ls. lines ++ ls) (sym (map-append f one (placed_all names' ms)) ∙ ap (map f) (sym (placed_next names m ms ∙ ap (λ ns. one ++ placed_all ns ms) (sym given)))) ∙ whole

-- how many parts one memory has
pub parts_count : (names : List (List ℕ)) (m : Memory) → length (all_parts (placed_one names m)) ≡ (if is_there m then suc (length m.writes + length m.reads) else 0)
parts_count names m = by (is_there m)
  where
    x : Placed
    x = record { plan = plan_of (fresh_name names m.name) m; memory = m }

    own : length (parts_of m) ≡ suc (length m.writes + length m.reads)
    own = ap suc (length-append (write_parts 0 m.writes) (map Reads m.reads) ∙ (λ i. length-write_parts 0 m.writes i + length-map m.reads Reads i))

    by : (b : Bool) → length (all_parts (if b then x ∷ [] else [])) ≡ (if b then suc (length m.writes + length m.reads) else 0)
    by true = ap length (append-nil (map (λ q. (x, q)) (parts_of m))) ∙ length-map (parts_of m) (λ q. (x, q)) ∙ own
    by false = refl

-- ---- a turn, by the place of the memory

pub memory_head : (ms : List Memory) (j : ℕ) (m : Memory) → j < length ms → slice_get ms j ≡ Some m → drop j ms ≡ m ∷ drop (j + 1) ms
memory_head ms j m h is = drop_more ms j m h ∙ ap (λ (x : Memory). x ∷ drop (j + 1) ms) (get_or_from_slice_get ms j m m is)

module _ (c : Circuit) (names names' : List (List ℕ)) (n n' j : ℕ) (m : Memory) (ms : List Memory) (h : j < length ms) (is : slice_get ms j ≡ Some m) (given : names' ≡ names_with names m) (count : n' ≡ n + 11 * length (all_parts (placed_one names m))) where
  pub turn_drawn : (d d' all : Drawing) → d' ≡ and_also d (together (drawn_parts c n (all_parts (placed_one names m)))) → and_also d (together (drawn_parts c n (all_parts (placed_all names (drop j ms))))) ≡ all
      → and_also d' (together (drawn_parts c n' (all_parts (placed_all names' (drop (j + 1) ms))))) ≡ all
  turn_drawn d d' all added whole =
      memory_drawn c names names' n n' m (drop (j + 1) ms) given count d d' all added (ap (λ xs. and_also d (together (drawn_parts c n (all_parts (placed_all names xs))))) (sym (memory_head ms j m h is)) ∙ whole)

  pub turn_lines : (lines lines' all : List RtlMemory) → lines' ≡ lines ++ map (λ (x : Placed). planned x.plan) (placed_one names m) → lines ++ map (λ (x : Placed). planned x.plan) (placed_all names (drop j ms)) ≡ all
      → lines' ++ map (λ (x : Placed). planned x.plan) (placed_all names' (drop (j + 1) ms)) ≡ all
  turn_lines lines lines' all added whole =
      memory_line c names names' n n' m (drop (j + 1) ms) given count lines lines' all added (ap (λ xs. lines ++ map (λ (x : Placed). planned x.plan) (placed_all names xs)) (sym (memory_head ms j m h is)) ∙ whole)

  pub turn_total : (all : ℕ) → n + 11 * length (all_parts (placed_all names (drop j ms))) ≡ all → n' + 11 * length (all_parts (placed_all names' (drop (j + 1) ms))) ≡ all
  turn_total all whole =
      let parts : length (all_parts (placed_all names (drop j ms))) ≡ length (all_parts (placed_one names m)) + length (all_parts (placed_all names' (drop (j + 1) ms))) =
      ap (λ xs. length (all_parts (placed_all names xs))) (memory_head ms j m h is) ∙ ap length (split c names names' n n' m (drop (j + 1) ms) given count) ∙ length-append (all_parts (placed_one names m)) (all_parts (placed_all names' (drop (j + 1) ms))) in
      omega (arith, parts, count, whole)

-- ---- the first turn, and the end

pub memories_are : (c : Circuit) → memories_of c ≡ placed_all (map (λ (x : Column). x.name) c.columns) c.memories
unfolding memories_of
memories_are c = refl

drawings_are : (c : Circuit) → memory_drawings c ≡ drawn_parts c (3 * length c.pool.signals) (all_parts (memories_of c))
unfolding memory_drawings
drawings_are c = refl

module _ (c : Circuit) (names : List (List ℕ)) (n : ℕ) (own : names ≡ map (λ (x : Column). x.name) c.columns) (behind : n ≡ 3 * length c.pool.signals) where
  all_placed : placed_all names c.memories ≡ memories_of c
  all_placed = ap (λ ns. placed_all ns c.memories) own ∙ sym (memories_are c)

  pub begin_drawn : (d : Drawing) → and_also d (together (drawn_parts c n (all_parts (placed_all names (drop 0 c.memories))))) ≡ and_also d (together (memory_drawings c))
  begin_drawn d = ap (λ ds. and_also d (together ds)) ((λ i. drawn_parts c (behind i) (all_parts (all_placed i))) ∙ sym (drawings_are c))

  pub begin_lines : (lines : List RtlMemory) → lines ≡ [] → lines ++ map (λ (x : Placed). planned x.plan) (placed_all names (drop 0 c.memories)) ≡ memory_lines c
  begin_lines lines none = ap (λ ls. ls ++ map (λ (x : Placed). planned x.plan) (placed_all names c.memories)) none ∙ ap (map (λ (x : Placed). planned x.plan)) all_placed

  pub begin_total : n + 11 * length (all_parts (placed_all names (drop 0 c.memories))) ≡ 3 * length c.pool.signals + 11 * length (all_parts (memories_of c))
  begin_total = λ i. behind i + 11 * length (all_parts (all_placed i))

module _ (c : Circuit) (names : List (List ℕ)) (n j : ℕ) (end : length c.memories ≤ j) where
  none_left : placed_all names (drop j c.memories) ≡ []
  none_left = ap (placed_all names) (drop_all j c.memories end)

  pub end_drawn : (d all : Drawing) → and_also d (together (drawn_parts c n (all_parts (placed_all names (drop j c.memories))))) ≡ all → d ≡ all
  end_drawn d all whole = sym (also_nothing d) ∙ ap (λ xs. and_also d (together (drawn_parts c n (all_parts xs)))) (sym none_left) ∙ whole

  pub end_lines : (lines all : List RtlMemory) → lines ++ map (λ (x : Placed). planned x.plan) (placed_all names (drop j c.memories)) ≡ all → lines ≡ all
  end_lines lines all whole = sym (append-nil lines) ∙ ap (λ xs. lines ++ map (λ (x : Placed). planned x.plan) xs) (sym none_left) ∙ whole

  pub end_total : (all : ℕ) → n + 11 * length (all_parts (placed_all names (drop j c.memories))) ≡ all → n ≡ all
  end_total all whole = let none : length (all_parts (placed_all names (drop j c.memories))) ≡ 0 = ap (λ xs. length (all_parts xs)) none_left in omega (arith, none, whole)

-- the parts of so few memories are few
pub few_parts : (signals n j parts : ℕ) → j < 2 ^ 32 → n ≡ 3 * signals + 11 * parts → n ≤ 3 * signals + j * (11 * 65) → parts < 10 ^ 18
few_parts signals n j parts few total bound = omega (arith, few, total, bound)

-- ---- a memory that the module has, and one that it has not

one_there : (names : List (List ℕ)) (m : Memory) → is_there m ≡ true → placed_one names m ≡ record { plan = plan_of (fresh_name names m.name) m; memory = m } ∷ []
one_there names m t = ap (λ (b : Bool). if b then record { plan = plan_of (fresh_name names m.name) m; memory = m } ∷ [] else []) t

one_away : (names : List (List ℕ)) (m : Memory) → is_there m ≡ false → placed_one names m ≡ []
one_away names m t = ap (λ (b : Bool). if b then record { plan = plan_of (fresh_name names m.name) m; memory = m } ∷ [] else []) t

parts_there : (names : List (List ℕ)) (m : Memory) → is_there m ≡ true → all_parts (placed_one names m) ≡ own_parts (plan_of (fresh_name names m.name) m) m (parts_of m)
parts_there names m t = ap all_parts (one_there names m t) ∙ append-nil (own_parts (plan_of (fresh_name names m.name) m) m (parts_of m))

-- what is added for a memory that the module has
module _ (c : Circuit) (names : List (List ℕ)) (m : Memory) (there : is_there m ≡ true) (name : List ℕ) (named : name ≡ fresh_name names m.name) (p : Plan) (plan : p ≡ plan_of name m) where
  own_plan : p ≡ plan_of (fresh_name names m.name) m
  own_plan = plan ∙ ap (λ x. plan_of x m) named

  pub one_named : (names' : List (List ℕ)) → names' ≡ names ++ fresh_name names m.name ∷ [] → names' ≡ names_with names m
  one_named names' given = given ∙ ap (λ (b : Bool). if b then names ++ fresh_name names m.name ∷ [] else names) (sym there)

  pub one_line : (lines lines' : List RtlMemory) → lines' ≡ lines ++ planned p ∷ [] → lines' ≡ lines ++ map (λ (x : Placed). planned x.plan) (placed_one names m)
  one_line lines lines' added = added ∙ ap (λ q. lines ++ planned q ∷ []) own_plan ∙ ap (λ xs. lines ++ map (λ (x : Placed). planned x.plan) xs) (sym (one_there names m there))

  pub one_drawn : (n : ℕ) (d d' : Drawing) → d' ≡ and_also d (together (drawn_parts c n (own_parts p m (parts_of m)))) → d' ≡ and_also d (together (drawn_parts c n (all_parts (placed_one names m))))
  one_drawn n d d' added = added ∙ ap (λ q. and_also d (together (drawn_parts c n (own_parts q m (parts_of m))))) own_plan ∙ ap (λ ps. and_also d (together (drawn_parts c n ps))) (sym (parts_there names m there))

  pub one_count : (n : ℕ) → n + 11 * (1 + length m.writes + length m.reads) ≡ n + 11 * length (all_parts (placed_one names m))
  one_count n =
      let parts : length (all_parts (placed_one names m)) ≡ suc (length m.writes + length m.reads) = parts_count names m ∙ ap (λ (b : Bool). if b then suc (length m.writes + length m.reads) else 0) there in
      omega (arith, parts)

-- and nothing for another
module _ (c : Circuit) (names : List (List ℕ)) (m : Memory) (away : is_there m ≡ false) where
  pub none_named : names ≡ names_with names m
  none_named = ap (λ (b : Bool). if b then names ++ fresh_name names m.name ∷ [] else names) (sym away)

  pub none_line : (lines : List RtlMemory) → lines ≡ lines ++ map (λ (x : Placed). planned x.plan) (placed_one names m)
  none_line lines = sym (append-nil lines) ∙ ap (λ xs. lines ++ map (λ (x : Placed). planned x.plan) xs) (sym (one_away names m away))

  pub none_drawn : (n : ℕ) (d : Drawing) → d ≡ and_also d (together (drawn_parts c n (all_parts (placed_one names m))))
  none_drawn n d = sym (also_nothing d) ∙ ap (λ xs. and_also d (together (drawn_parts c n (all_parts xs)))) (sym (one_away names m away))

  pub none_count : (n : ℕ) → n ≡ n + 11 * length (all_parts (placed_one names m))
  none_count n = let none : length (all_parts (placed_one names m)) ≡ 0 = ap (λ xs. length (all_parts xs)) (one_away names m away) in omega (arith, none)
