-- A flat design holds the same after an event.
use Rattle.std.specs.Prelude.{◌≡◌, refl, ℕ, suc, ◌+◌, ◌<◌, ◌≤◌, ◌==◌, ◌&&◌, nat_lt, not, Bool, true, false, if◌then◌else◌, is_some, List, [], ◌∷◌, length, slice_set, fold, ℤ, pos, unsigned_abs, Option, Some, None, Contains}
use Rattle.std.specs.List.{AllByRecursion, list_any}
use Rattle.std.proofs.Common.{sym, ◌∙◌, ap, arith, ⊎_elim}
use Rattle.std.proofs.lemmas.Bool.{cond_both, cases_lt}
use Rattle.std.proofs.lemmas.List.{get_or_past}
use Rattle.shape_rules.specs.Operators.{is_zero}
use Rattle.design_ir.specs.declared.ids.DomainId.{DomainId}
use Rattle.design_ir.specs.declared.ids.ExprId.{ExprId}
use Rattle.design_ir.specs.declared.event.Event.{Event}
use Rattle.design_ir.specs.declared.event.Event.TheVariants.{Set, Edge}
use Rattle.design_ir.specs.declared.expr.Expr.{Expr}
use Rattle.design_ir.specs.declared.memory.MemRead.{MemRead}
use Rattle.design_ir.specs.declared.memory.MemWrite.{MemWrite}
use Rattle.design_ir.specs.declared.memory.Memory.{Memory}
use Rattle.design_ir.specs.declared.process.DesignProcess.{DesignProcess}
use Rattle.design_ir.specs.PoolRules.{IsPool}
use Rattle.design_ir.specs.Values.{num}
use Rattle.design_ir.specs.Put.{put}
use Rattle.design_ir.specs.Guards.{driven}
use Rattle.design_ir.specs.Rows.{written, row_at, address}
use Rattle.design_ir.specs.Designs.{IsDesign, IsProcess, IsMemory, IsReadPort, IsWritePort, IsClocking}
use Rattle.design_ir.specs.Circuits.{Circuit, State, at, is_among, is_held, option_test, FitsSignals}
use Rattle.design_ir.specs.Settled.{starts, Settled}
use Rattle.design_ir.specs.Steps.{is_active, port_active, is_reset, is_cleared, reset_all, clocked_at, clocked, cleared_at, cleared, write_row, rows_after, writes_through, shown_through, read_word, reads_now, clocked_read, clocked_reads, toggle, moved, step}
use Rattle.design_ir.proofs.Resets.{resets_length, resets_same, resets_other}
use Rattle.design_ir.proofs.PutLaws.{put_length, put_other}
use Rattle.comb_graph.proofs.PutFits.{put_fits}
use Rattle.comb_graph.proofs.DeltaLaws.{starts_length, delta_start}
use Rattle.flat_design.specs.Growing.{IsMore}
use Rattle.flat_design.specs.Shown.{init_of}
use Rattle.flat_design.specs.Flat.{AreFlatProcesses}
use Rattle.flat_design.proofs.Growing.{num_more}
use Rattle.flat_design.proofs.FlatPairs.{with_exprs, with_parts}
use Rattle.flat_design.proofs.FlatRounds.{IsTurn, rounds_same}
use Rattle.flat_design.proofs.DrivenOnce.{processes_distinct, uncomb, held, starts_held}
use Rattle.flat_design.proofs.Resets.{resets_fit}

module _ (c : Circuit) (env : List ℤ) (listed : List DomainId) where
  pub after_length : (p : DesignProcess) (cur : List ℤ) (o : Option DomainId) → length (clocked_at c env listed p cur o) ≡ length cur
  after_length p cur None = refl
  after_length p cur (Some x) =
      let left : List ℤ = put c.pool env p.body cur in
      let reset : List ℤ = reset_all c.pool.signals left (driven c.pool p.body) in
      cond_both (is_active c env listed x.0) (if is_reset c env x.0 then reset else left) cur (λ y. length y ≡ length cur)
      (λ t. cond_both (is_reset c env x.0) reset left (λ y. length y ≡ length cur) (λ u. resets_length c.pool.signals (driven c.pool p.body) left ∙ put_length c.pool env p.body cur) (λ u. put_length c.pool env p.body cur)) (λ t. refl)

  after_other : (p : DesignProcess) (cur : List ℤ) (s : ℕ) (o : Option DomainId) → is_among (driven c.pool p.body) s ≡ false → at (clocked_at c env listed p cur o) s ≡ at cur s
  after_other p cur s None e = refl
  after_other p cur s (Some x) e =
      let left : List ℤ = put c.pool env p.body cur in
      let reset : List ℤ = reset_all c.pool.signals left (driven c.pool p.body) in
      cond_both (is_active c env listed x.0) (if is_reset c env x.0 then reset else left) cur (λ y. at y s ≡ at cur s)
      (λ t. cond_both (is_reset c env x.0) reset left (λ y. at y s ≡ at cur s) (λ u. resets_other c.pool.signals (driven c.pool p.body) left s e ∙ put_other c.pool env p.body cur s e) (λ u. put_other c.pool env p.body cur s e))
      (λ t. refl)

module _ (c : Circuit) (es : List Expr) (ps : List DesignProcess) (rules : IsPool c.pool) (design : IsDesign c) (more : IsMore c.pool (with_exprs c.pool es))
    (are : AreFlatProcesses c.pool (with_exprs c.pool es) c.processes ps) where
  abbrev d : Circuit
  d = with_parts c es ps

  module _ (env : List ℤ) (listed : List DomainId) where
    -- ---- registers

    after_fits : (p : DesignProcess) (cur : List ℤ) (o : Option DomainId) → IsProcess c p → FitsSignals c.pool cur → FitsSignals c.pool (clocked_at c env listed p cur o)
    after_fits p cur None is fit = fit
    after_fits p cur (Some x) is fit =
        let left : List ℤ = put c.pool env p.body cur in
        let lefts : FitsSignals c.pool left = put_fits c.pool env p.body cur rules is.targets fit in
        let reset : List ℤ = reset_all c.pool.signals left (driven c.pool p.body) in
        cond_both (is_active c env listed x.0) (if is_reset c env x.0 then reset else left) cur (FitsSignals c.pool)
        (λ t. cond_both (is_reset c env x.0) reset left (FitsSignals c.pool) (λ u. resets_fit c.pool rules (driven c.pool p.body) left lefts) (λ u. lefts)) (λ t. fit)

    after_same : (o : Option DomainId) (old new : DesignProcess) (cur : List ℤ) → (is_some o ≡ true → put (with_exprs c.pool es) env new.body cur ≡ put c.pool env old.body cur)
        → ((s : ℕ) → is_among (driven (with_exprs c.pool es) new.body) s ≡ is_among (driven c.pool old.body) s) → clocked_at d env listed new cur o ≡ clocked_at c env listed old cur o
    after_same None old new cur puts drives = refl
    after_same (Some x) old new cur puts drives =
        ap (λ y. if is_active c env listed x.0 then (if is_reset c env x.0 then reset_all c.pool.signals y (driven (with_exprs c.pool es) new.body) else y) else cur) (puts refl)
        ∙ ap (λ y. if is_active c env listed x.0 then (if is_reset c env x.0 then y else put c.pool env old.body cur) else cur)
        (resets_same c.pool.signals (driven (with_exprs c.pool es) new.body) (driven c.pool old.body) (put c.pool env old.body cur) drives)

    module _ (fit_env : FitsSignals c.pool env) where
      abbrev round : List ℤ → DesignProcess → List ℤ
      round cur p = clocked c env listed cur p

      abbrev kind : DesignProcess → Bool
      kind p = is_some p.domain

      turn : IsTurn c (with_exprs c.pool es) round (clocked d env listed) kind (at env)
      turn = record {
        fits = λ cur p is fit. after_fits p cur p.domain is fit;
        long = λ cur p. after_length c env listed p cur p.domain;
        others = λ cur p s e. after_other c env listed p cur s p.domain e;
        same = λ cur old new flat fit long start.
            ap (clocked_at d env listed new cur) flat.domain
            ∙ after_same old.domain old new cur
            (λ clocked. flat.body.puts env cur fit_env fit long (λ s here. start clocked s here ∙ ap (λ b. if b then at env s else init_of c.pool s) (sym clocked))) flat.body.drives;
      }

      registers_same : (st : State) → FitsSignals c.pool st.held → length st.held ≡ length c.pool.signals → Settled c st env → fold (clocked d env listed) st.held ps ≡ fold (clocked c env listed) st.held c.processes
      registers_same st fit long settled =
          rounds_same c (with_exprs c.pool es) round (clocked d env listed) kind (at env) turn c.processes ps st.held are design.processes (processes_distinct c design) fit long
          (λ p among clocked s here. sym (shown p among clocked s here))
        where
          shown : (p : DesignProcess) → Contains c.processes p → is_some p.domain ≡ true → (s : ℕ) → is_among (driven c.pool p.body) s ≡ true → at env s ≡ at st.held s
          shown p among clocked s here =
              let i : 0 + s ≡ s = omega arith in
              let begun : at env s ≡ at (starts c st 0 c.pool.signals) s = ap (λ x. at x s) (sym settled) ∙ delta_start c st rules design env s (uncomb c design p among s here clocked) in
              ⊎_elim
              (λ (there : s < length c.pool.signals). begun ∙ starts_held c st 0 c.pool.signals s there (ap (is_held c) i ∙ held c design p among s here clocked) ∙ ap (at st.held) i)
              (λ (past : length c.pool.signals ≤ s).
              begun ∙ get_or_past (starts c st 0 c.pool.signals) s (pos 0) (omega (arith, past, starts_length c st 0 c.pool.signals)) ∙ sym (get_or_past st.held s (pos 0) (omega (arith, past, long))))
              (cases_lt s (length c.pool.signals))

    -- ---- memories

    module _ (m : Memory) where
      written_same : (old : ℤ) (w : MemWrite) → IsWritePort c m w → written (with_exprs c.pool es) env m old w ≡ written c.pool env m old w
      written_same old w is =
          let a : num (with_exprs c.pool es) env w.enable.0 ≡ num c.pool env w.enable.0 = num_more c.pool (with_exprs c.pool es) rules more env w.enable.0 is.enable.usable.there in
          let b : num (with_exprs c.pool es) env w.word.0 ≡ num c.pool env w.word.0 = num_more c.pool (with_exprs c.pool es) rules more env w.word.0 is.word.usable.there in
          rw (a, b) refl

      address_same : (e : ExprId) → e.0 < length c.pool.exprs → address (with_exprs c.pool es) env e ≡ address c.pool env e
      address_same e there = ap (λ n. unsigned_abs n) (num_more c.pool (with_exprs c.pool es) rules more env e.0 there)

      row_same : (rows : List ℤ) (w : MemWrite) → IsWritePort c m w → write_row d env listed m rows w ≡ write_row c env listed m rows w
      row_same rows w is =
          ap (λ a. if port_active c env listed (Some w.domain) then slice_set rows a (written (with_exprs c.pool es) env m (at rows a) w) else rows) (address_same w.addr is.addr.usable.there)
          ∙ ap (λ n. if port_active c env listed (Some w.domain) then slice_set rows (address c.pool env w.addr) n else rows) (written_same (row_at c.pool env rows w.addr) w is)

      rows_same : (ws : List MemWrite) (rows : List ℤ) → AllByRecursion (IsWritePort c m) ws → fold (write_row d env listed m) rows ws ≡ fold (write_row c env listed m) rows ws
      rows_same [] rows ports = refl
      rows_same (w ∷ ws) rows ports = ap (λ x. fold (write_row d env listed m) x ws) (row_same rows w ports.0) ∙ rows_same ws (write_row c env listed m rows w) ports.1

      shown_same : (through : List ℕ) (addr i : ℕ) (ws : List MemWrite) (row : ℤ) → AllByRecursion (IsWritePort c m) ws → shown_through d env listed m through addr i ws row ≡ shown_through c env listed m through addr i ws row
      shown_same through addr i [] row ports = refl
      shown_same through addr i (w ∷ ws) row ports =
          ap (λ a. shown_through d env listed m through addr (suc i) ws (if list_any (λ k. k == i) through && (port_active c env listed (Some w.domain) && (a == addr)) then written (with_exprs c.pool es) env m row w else row))
          (address_same w.addr ports.0.addr.usable.there)
          ∙ ap (λ n. shown_through d env listed m through addr (suc i) ws (if writes_through c env listed through addr i w then n else row)) (written_same row w ports.0)
          ∙ shown_same through addr (suc i) ws (if writes_through c env listed through addr i w then written c.pool env m row w else row) ports.1

      word_same : (rows : List ℤ) (r : MemRead) → IsMemory c m → IsReadPort c m r → read_word d env listed m rows r ≡ read_word c env listed m rows r
      word_same rows r is port =
          ap (λ a. if nat_lt a (length rows) then shown_through d env listed m r.transparent a 0 m.writes (at rows a) else pos 0) (address_same r.addr port.addr.usable.there)
          ∙ ap (λ n. if nat_lt (address c.pool env r.addr) (length rows) then n else pos 0) (shown_same r.transparent (address c.pool env r.addr) 0 m.writes (at rows (address c.pool env r.addr)) is.writes)

      enable_same : (name : Option (List ℕ)) (o : Option ExprId) → IsClocking c name o
          → option_test (λ (e : ExprId). not (is_zero (num (with_exprs c.pool es) env e.0))) o ≡ option_test (λ (e : ExprId). not (is_zero (num c.pool env e.0))) o
      enable_same name None is = refl
      enable_same None (Some e) is = absurd is
      enable_same (Some x) (Some e) is = ap (λ n. not (is_zero n)) (num_more c.pool (with_exprs c.pool es) rules more env e.0 is.1.usable.there)

      read_same : (rows : List ℤ) (cur : List ℤ) (r : MemRead) → IsMemory c m → IsReadPort c m r → clocked_read d env listed m rows cur r ≡ clocked_read c env listed m rows cur r
      read_same rows cur r is port =
          ap (λ b. if port_active c env listed r.domain && b then slice_set cur r.word.0 (read_word d env listed m rows r) else cur) (enable_same r.domain r.enable port.clocking)
          ∙ ap (λ n. if reads_now c env listed r then slice_set cur r.word.0 n else cur) (word_same rows r is port)

      ports_same : (rows : List ℤ) (rs : List MemRead) (cur : List ℤ) → IsMemory c m → AllByRecursion (IsReadPort c m) rs → fold (clocked_read d env listed m rows) cur rs ≡ fold (clocked_read c env listed m rows) cur rs
      ports_same rows [] cur is ports = refl
      ports_same rows (r ∷ rs) cur is ports = ap (λ x. fold (clocked_read d env listed m rows) x rs) (read_same rows cur r is ports.0) ∙ ports_same rows rs (clocked_read c env listed m rows cur r) is ports.1

    reads_same : (ms : List Memory) (all : List (List ℤ)) (cur : List ℤ) → AllByRecursion (IsMemory c) ms → clocked_reads d env listed ms all cur ≡ clocked_reads c env listed ms all cur
    reads_same [] all cur are-memories = refl
    reads_same (m ∷ ms) [] cur are-memories = refl
    reads_same (m ∷ ms) (rows ∷ all) cur are-memories =
        ap (clocked_reads d env listed ms all) (ports_same m rows m.reads cur are-memories.0 are-memories.0.reads) ∙ reads_same ms all (fold (clocked_read c env listed m rows) cur m.reads) are-memories.1

    all_rows_same : (ms : List Memory) (all : List (List ℤ)) → AllByRecursion (IsMemory c) ms → rows_after d env listed ms all ≡ rows_after c env listed ms all
    all_rows_same [] all are-memories = refl
    all_rows_same (m ∷ ms) [] are-memories = refl
    all_rows_same (m ∷ ms) (rows ∷ all) are-memories =
        ap (λ x. x ∷ rows_after d env listed ms all) (rows_same m m.writes rows are-memories.0.writes) ∙ ap (λ xs. fold (write_row c env listed m) rows m.writes ∷ xs) (all_rows_same ms all are-memories.1)

  -- ---- asynchronous resets

  module _ (held : List ℤ) where
    clear_same : (o : Option DomainId) (old new : DesignProcess) (cur : List ℤ) → ((s : ℕ) → is_among (driven (with_exprs c.pool es) new.body) s ≡ is_among (driven c.pool old.body) s)
        → cleared_at d held new cur o ≡ cleared_at c held old cur o
    clear_same None old new cur drives = refl
    clear_same (Some x) old new cur drives =
        ap (λ y. if is_cleared c held x.0 then y else cur) (resets_same c.pool.signals (driven (with_exprs c.pool es) new.body) (driven c.pool old.body) cur drives)

    clears_same : (olds news : List DesignProcess) (cur : List ℤ) → AreFlatProcesses c.pool (with_exprs c.pool es) olds news → fold (cleared d held) cur news ≡ fold (cleared c held) cur olds
    clears_same [] [] cur flat = refl
    clears_same [] (n ∷ news) cur flat = absurd flat
    clears_same (o ∷ olds) [] cur flat = absurd flat
    clears_same (o ∷ olds) (n ∷ news) cur flat =
        ap (λ x. fold (cleared d held) x news) (ap (cleared_at d held n cur) flat.0.domain ∙ clear_same o.domain o n cur flat.0.body.drives) ∙ clears_same olds news (cleared c held cur o) flat.1

  -- ---- events

  moved_same : (st : State) (env : List ℤ) (e : Event) → FitsSignals c.pool st.held → length st.held ≡ length c.pool.signals → FitsSignals c.pool env → Settled c st env → moved d st env e ≡ moved c st env e
  moved_same st env (Set s n) fit long fit_env settled = refl
  moved_same st env (Edge listed) fit long fit_env settled =
      let registers : List ℤ = fold (clocked c env listed) st.held c.processes in
      ap (λ x. record { held = fold (toggle c.domains) (clocked_reads d env listed c.memories st.rows x) listed; rows = rows_after d env listed c.memories st.rows }) (registers_same env listed fit_env st fit long settled)
      ∙ ap (λ x. record { held = fold (toggle c.domains) x listed; rows = rows_after d env listed c.memories st.rows }) (reads_same env listed c.memories st.rows registers design.memories)
      ∙ ap (λ x. record { held = fold (toggle c.domains) (clocked_reads c env listed c.memories st.rows registers) listed; rows = x }) (all_rows_same env listed c.memories st.rows design.memories)

  pub step_same : (st : State) (env : List ℤ) (e : Event) → FitsSignals c.pool st.held → length st.held ≡ length c.pool.signals → FitsSignals c.pool env → Settled c st env → step d st env e ≡ step c st env e
  step_same st env e fit long fit_env settled =
      let after : State = moved c st env e in
      ap (λ (x : State). record x { held = fold (cleared d x.held) x.held ps }) (moved_same st env e fit long fit_env settled)
      ∙ ap (λ xs. record after { held = xs }) (clears_same after.held c.processes ps after.held are)
