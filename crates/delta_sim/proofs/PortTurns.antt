-- The ports of memories, one after another.
use Rattle.std.specs.Prelude.{◌≡◌, refl, ℕ, suc, ◌+◌, ◌<◌, ◌≤◌, ◌&&◌, if◌then◌else◌, false, not, List, [], ◌∷◌, ◌++◌, drop, length, slice_get, slice_set, slice_index_or, ℤ, pos, Some, fold}
use Rattle.std.specs.List.{flat_map, list_any}
use Rattle.std.proofs.Common.{sym, ◌∙◌, ap, arith, subst, ⊎_elim, add-one, get_or}
use Rattle.std.proofs.lemmas.Bool.{or_parts, cases_lt}
use Rattle.std.proofs.lemmas.List.{at_drop_more, at_drop_all, get_or-set_same, get_or-set_other}
use Rattle.shape_rules.specs.Operators.{is_zero}
use Rattle.design_ir.specs.declared.ids.DomainId.{DomainId}
use Rattle.design_ir.specs.declared.ids.ExprId.{ExprId}
use Rattle.design_ir.specs.declared.memory.MemRead.{MemRead}
use Rattle.design_ir.specs.declared.memory.MemWrite.{MemWrite}
use Rattle.design_ir.specs.declared.memory.Memory.{Memory}
use Rattle.design_ir.specs.Circuits.{Circuit, at, option_test}
use Rattle.design_ir.specs.Pools.{Pooled}
use Rattle.design_ir.specs.Rows.{address, row_at, written}
use Rattle.design_ir.specs.Steps.{clocked_read, clocked_reads, port_active, read_word, rows_after, write_row}
use Rattle.design_ir.specs.Values.{num}
use Rattle.sim_plans.specs.Ports.{AreKnown}
use Rattle.sim_plans.specs.Tasks.{AreAmong, IsRead}
use Rattle.sim_plans.proofs.Among.{among_index, there_at}
use Rattle.delta_sim.proofs.Starts.{drop_get}
use Rattle.sim_plans.proofs.Walks.{all_parts}

-- ---- expressions whose integers are known

module _ (p : Pooled) (env nums : List ℤ) where
  -- those that were computed
  pub known_of : (list es : List ExprId) → IsRead p env nums list → AreAmong list es → AreKnown p env nums es
  known_of list [] read h = tt
  known_of list (e ∷ es) read h =
      let r = among_index list e.0 h.0 in
      let below : r.1.0 < length nums = there_at (length nums) list r.0 r.1 read.program.there r.2 in
      ((omega (arith, below, r.3), read.numbers e.0 h.0), known_of list es read h.1)

  pub known_parts : (xs ys : List ExprId) → AreKnown p env nums (xs ++ ys) → AreKnown p env nums xs × AreKnown p env nums ys
  known_parts xs ys h = all_parts (λ (e : ExprId). (e.0 < length nums) × (slice_index_or nums e.0 (pos 0) ≡ num p env e.0)) xs ys h

  -- those of one port more, where the ports from some place on are known
  pub known_turn : {A : Type 0} (f : A → List ExprId) (xs : List A) (i : ℕ) (x : A) → i < length xs → x ≡ get_or xs i x → AreKnown p env nums (flat_map f (drop i xs)) → AreKnown p env nums (f x) × AreKnown p env nums (flat_map f (drop (i + 1) xs))
  known_turn {A} f xs i x h is known = known_parts (f x) (flat_map f (drop (i + 1) xs)) (subst (λ ys. AreKnown p env nums (flat_map f ys)) here known)
    where
      here : drop i xs ≡ x ∷ drop (i + 1) xs
      here = at_drop_more (λ ys. ys) xs i x h ∙ ap (λ y. y ∷ drop (i + 1) xs) (sym is)

-- ---- a memory none of whose ports acts

module _ (c : Circuit) (env : List ℤ) (listed : List DomainId) (m : Memory) where
  pub idle_writes : (ws : List MemWrite) (rows : List ℤ) → list_any (λ (w : MemWrite). port_active c env listed (Some w.domain)) ws ≡ false → fold (write_row c env listed m) rows ws ≡ rows
  idle_writes [] rows e = refl
  idle_writes (w ∷ ws) rows e =
      let parts = or_parts (port_active c env listed (Some w.domain)) (list_any (λ (x : MemWrite). port_active c env listed (Some x.domain)) ws) e in
      ap (λ b. fold (write_row c env listed m) (if b then slice_set rows (address c.pool env w.addr) (written c.pool env m (row_at c.pool env rows w.addr) w) else rows) ws) parts.0
      ∙ idle_writes ws rows parts.1

  pub idle_reads : (rows : List ℤ) (rs : List MemRead) (cur : List ℤ) → list_any (λ (r : MemRead). port_active c env listed r.domain) rs ≡ false → fold (clocked_read c env listed m rows) cur rs ≡ cur
  idle_reads rows [] cur e = refl
  idle_reads rows (r ∷ rs) cur e =
      let parts = or_parts (port_active c env listed r.domain) (list_any (λ (x : MemRead). port_active c env listed x.domain) rs) e in
      ap (λ b. fold (clocked_read c env listed m rows) (if b && option_test (λ (y : ExprId). not (is_zero (num c.pool env y.0))) r.enable then slice_set cur r.word.0 (read_word c env listed m rows r) else cur) rs) parts.0
      ∙ idle_reads rows rs cur parts.1

-- ---- memories one after another

module _ (c : Circuit) (env : List ℤ) (listed : List DomainId) where
  abbrev pub after : Memory → List ℤ → List ℤ
  after m rows = fold (write_row c env listed m) rows m.writes

  -- where each memory's rows are what its write ports leave, they are the rows after the edge
  pub rows_are : (ms : List Memory) (old new : List (List ℤ)) → length old ≡ length ms → length new ≡ length ms → ((k : ℕ) (m : Memory) → slice_get ms k ≡ Some m → get_or new k [] ≡ after m (get_or old k [])) → new ≡ rows_after c env listed ms old
  rows_are [] [] [] e f each = refl
  rows_are [] [] (y ∷ new) e f each = absurd (omega (arith, f))
  rows_are [] (x ∷ old) new e f each = absurd (omega (arith, e))
  rows_are (m ∷ ms) [] new e f each = absurd (omega (arith, e))
  rows_are (m ∷ ms) (x ∷ old) [] e f each = absurd (omega (arith, f))
  rows_are (m ∷ ms) (x ∷ old) (y ∷ new) e f each =
      ap (λ z. z ∷ new) (each 0 m refl) ∙ ap (λ zs. after m x ∷ zs) (rows_are ms old new (omega (arith, e)) (omega (arith, f)) (λ k n is. each (suc k) n is))

  -- the reads of one memory more
  pub reads_turn : (ms : List Memory) (all : List (List ℤ)) (k : ℕ) (m : Memory) (cur more whole : List ℤ) → slice_get ms k ≡ Some m → k < length all → more ≡ fold (clocked_read c env listed m (get_or all k [])) cur m.reads
      → clocked_reads c env listed (drop k ms) (drop k all) cur ≡ whole → clocked_reads c env listed (drop (k + 1) ms) (drop (k + 1) all) more ≡ whole
  reads_turn ms all k m cur more whole is there e known =
      let mems : drop k ms ≡ m ∷ drop (k + 1) ms = drop_get ms k m is ∙ ap (λ n. m ∷ drop n ms) (sym (add-one k)) in
      let rows : drop k all ≡ get_or all k [] ∷ drop (k + 1) all = at_drop_more (λ ys. ys) all k [] there in
      ap (clocked_reads c env listed (drop (k + 1) ms) (drop (k + 1) all)) e
      ∙ sym (ap (λ xs. clocked_reads c env listed xs (drop k all) cur) mems ∙ ap (λ ys. clocked_reads c env listed (m ∷ drop (k + 1) ms) ys cur) rows)
      ∙ known

  pub reads_end : (ms : List Memory) (all : List (List ℤ)) (k : ℕ) (cur whole : List ℤ) → length ms ≤ k → clocked_reads c env listed (drop k ms) (drop k all) cur ≡ whole → cur ≡ whole
  reads_end ms all k cur whole past known = sym (at_drop_all (λ xs. clocked_reads c env listed xs (drop k all) cur) ms k past) ∙ known

  -- ---- rows that are written, memory by memory

  module _ (ms : List Memory) (old now : List (List ℤ)) (k : ℕ) (m : Memory) (new : List ℤ) (is : slice_get ms k ≡ Some m) (there : k < length now) (written : new ≡ after m (get_or old k [])) where
    pub done_turn : ((j : ℕ) (n : Memory) → j < k → slice_get ms j ≡ Some n → get_or now j [] ≡ after n (get_or old j [])) → (j : ℕ) (n : Memory) → j < k + 1 → slice_get ms j ≡ Some n → get_or (slice_set now k new) j [] ≡ after n (get_or old j [])
    done_turn was j n lt at =
        ⊎_elim
        (λ (before : j < k). get_or-set_other now k j new [] (λ e. absurd (omega (arith, before, e))) ∙ was j n before at)
        (λ (here : k ≤ j).
        let same : j ≡ k = omega (arith, lt, here) in
        let n_is : m ≡ n = let f : Some m ≡ Some n = sym is ∙ ap (slice_get ms) (sym same) ∙ at in cc in
        ap (λ i. get_or (slice_set now k new) i []) same
        ∙ get_or-set_same now k new [] there
        ∙ written
        ∙ ap (λ x. after x (get_or old k [])) n_is
        ∙ ap (λ i. after n (get_or old i [])) (sym same))
        (cases_lt j k)

    pub rest_turn : ((j : ℕ) → k ≤ j → get_or now j [] ≡ get_or old j []) → (j : ℕ) → k + 1 ≤ j → get_or (slice_set now k new) j [] ≡ get_or old j []
    rest_turn was j le = get_or-set_other now k j new [] (λ e. absurd (omega (arith, le, e))) ∙ was j (omega (arith, le))
