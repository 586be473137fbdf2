-- The states to which legal events lead have numbers and rows of their shapes.
use Rattle.std.specs.Prelude.{◌≡◌, refl, ℕ, zero, suc, ◌<◌, false, if◌then◌else◌, List, [], ◌∷◌, map, length, slice_get, slice_set, ℤ, pos, negsuc, ◌-ℤ◌, Option, Some, None, option_map, unwrap_or, fold}
use Rattle.std.specs.List.{AllByRecursion}
use Rattle.std.proofs.Common.{sym, ap, arith, subst}
use Rattle.std.proofs.lemmas.Bool.{cond_both}
use Rattle.amh_bits.specs.Patterns.{IsOf}
use Rattle.amh_bits.proofs.InShape.{of_zero}
use Rattle.shape_rules.specs.Forms.{Form, unsigned}
use Rattle.design_ir.specs.declared.ids.DomainId.{DomainId}
use Rattle.design_ir.specs.declared.domain.Domain.{Domain}
use Rattle.design_ir.specs.declared.event.Event.{Event}
use Rattle.design_ir.specs.declared.event.Event.TheVariants.{Set, Edge}
use Rattle.design_ir.specs.declared.memory.MemRead.{MemRead}
use Rattle.design_ir.specs.declared.memory.Memory.{Memory}
use Rattle.design_ir.specs.declared.process.DesignProcess.{DesignProcess}
use Rattle.design_ir.specs.declared.signal.Sig.{Sig}
use Rattle.design_ir.specs.PoolRules.{IsPool, HasInit}
use Rattle.design_ir.specs.Designs.{IsDesign, IsProcess, IsMemory, IsReadPort, IsClockDomain}
use Rattle.design_ir.specs.Values.{signal_form}
use Rattle.design_ir.specs.Guards.{driven}
use Rattle.design_ir.specs.Put.{put}
use Rattle.design_ir.specs.Legal.{IsLegal}
use Rattle.design_ir.specs.Circuits.{Circuit, State, at}
use Rattle.design_ir.specs.Steps.{is_active, is_reset, is_cleared, reset_to, reset_all, clocked_at, clocked, cleared_at, cleared, reads_now, read_word, clocked_read, clocked_reads, toggle_at, toggle, moved, step, clock_low, first_state}
use Rattle.design_ir.proofs.NumbersFit.{FitsSignals}
use Rattle.comb_graph.specs.Laws.{FitsRows, FitsState}
use Rattle.digraph.proofs.Members.{all_at}
use Rattle.comb_graph.proofs.PutFits.{OfSignal, set_fits, put_fits}
use Rattle.comb_graph.proofs.WrittenRows.{read_of, rows_fit}

-- ---- the first state

inits_of : (sigs : List Sig) → AllByRecursion HasInit sigs → (s : ℕ) → s < length sigs → IsOf (signal_form sigs s).signed (signal_form sigs s).width (at (map (λ (x : Sig). x.init) sigs) s)
inits_of [] h s there = absurd (omega (arith, there))
inits_of (x ∷ sigs) h zero there = h.0
inits_of (x ∷ sigs) h (suc s) there = inits_of sigs h.1 s (omega (arith, there))

module _ (c : Circuit) (rules : IsPool c.pool) (design : IsDesign c) where
  clocks_low : (ds : List Domain) (cur : List ℤ) → FitsSignals c.pool cur → FitsSignals c.pool (fold clock_low cur ds)
  clocks_low [] cur fit = fit
  clocks_low (d ∷ ds) cur fit = clocks_low ds (clock_low cur d) (set_fits c.pool cur d.clk.0 (pos 0) (of_zero (signal_form c.pool.signals d.clk.0).signed (signal_form c.pool.signals d.clk.0).width) fit)

  first_rows : (ms : List Memory) → AllByRecursion (IsMemory c) ms → FitsRows ms (map (λ (m : Memory). m.rows) ms)
  first_rows [] are = tt
  first_rows (m ∷ ms) are = (are.0.row_shapes, first_rows ms are.1)

  pub first_fits : FitsState c (first_state c)
  first_fits = record { held = clocks_low c.domains (map (λ (x : Sig). x.init) c.pool.signals) (inits_of c.pool.signals rules.inits); rows = first_rows c.memories design.memories }

  -- ---- registers

  reset_fits : (s : ℕ) (o : Option Sig) (cur : List ℤ) → slice_get c.pool.signals s ≡ o → FitsSignals c.pool cur → FitsSignals c.pool (reset_to s cur o)
  reset_fits s None cur e fit = fit
  reset_fits s (Some x) cur e fit =
      let shape : x.shape ≡ signal_form c.pool.signals s = sym (ap (λ (o : Option Sig). unwrap_or (option_map (λ (y : Sig). y.shape) o) (unsigned 0)) e) in
      let of : OfSignal c.pool s x.init = subst (λ (f : Form). IsOf f.signed f.width x.init) shape (all_at HasInit c.pool.signals s x rules.inits e) in
      cond_both x.reset_less cur (slice_set cur s x.init) (FitsSignals c.pool) (λ t. fit) (λ t. set_fits c.pool cur s x.init of fit)

  resets_fit : (ss : List ℕ) (cur : List ℤ) → FitsSignals c.pool cur → FitsSignals c.pool (reset_all c.pool.signals cur ss)
  resets_fit [] cur fit = fit
  resets_fit (s ∷ ss) cur fit = resets_fit ss (reset_to s cur (slice_get c.pool.signals s)) (reset_fits s (slice_get c.pool.signals s) cur refl fit)

  module _ (env : List ℤ) (listed : List DomainId) where
    process_fits : (d : Option DomainId) (p : DesignProcess) (cur : List ℤ) → IsProcess c p → FitsSignals c.pool cur → FitsSignals c.pool (clocked_at c env listed p cur d)
    process_fits None p cur is fit = fit
    process_fits (Some d) p cur is fit =
        let after : List ℤ = put c.pool env p.body cur in
        let afters : FitsSignals c.pool after = put_fits c.pool env p.body cur rules is.targets fit in
        let reset : List ℤ = reset_all c.pool.signals after (driven c.pool p.body) in
        cond_both (is_active c env listed d.0) (if is_reset c env d.0 then reset else after) cur (FitsSignals c.pool)
        (λ t. cond_both (is_reset c env d.0) reset after (FitsSignals c.pool) (λ u. resets_fit (driven c.pool p.body) after afters) (λ u. afters)) (λ t. fit)

    processes_fit : (ps : List DesignProcess) (cur : List ℤ) → AllByRecursion (IsProcess c) ps → FitsSignals c.pool cur → FitsSignals c.pool (fold (clocked c env listed) cur ps)
    processes_fit [] cur are fit = fit
    processes_fit (p ∷ ps) cur are fit = processes_fit ps (clocked c env listed cur p) are.1 (process_fits p.domain p cur are.0 fit)

    -- ---- memories

    ports_fit : (m : Memory) (rows : List ℤ) (rs : List MemRead) (cur : List ℤ) → AllByRecursion (IsReadPort c m) rs → AllByRecursion (IsOf m.shape.signed m.shape.width) rows → FitsSignals c.pool cur
        → FitsSignals c.pool (fold (clocked_read c env listed m rows) cur rs)
    ports_fit m rows [] cur are of fit = fit
    ports_fit m rows (r ∷ rs) cur are of fit =
        let word : ℤ = read_word c env listed m rows r in
        let here : OfSignal c.pool r.word.0 word = subst (λ (f : Form). IsOf f.signed f.width word) (sym are.0.word.shape) (read_of c env m listed rows r of) in
        ports_fit m rows rs (clocked_read c env listed m rows cur r) are.1 of
        (cond_both (reads_now c env listed r) (slice_set cur r.word.0 word) cur (FitsSignals c.pool) (λ t. set_fits c.pool cur r.word.0 word here fit) (λ t. fit))

    reads_fit : (ms : List Memory) (all : List (List ℤ)) (cur : List ℤ) → AllByRecursion (IsMemory c) ms → FitsRows ms all → FitsSignals c.pool cur → FitsSignals c.pool (clocked_reads c env listed ms all cur)
    reads_fit [] all cur are of fit = fit
    reads_fit (m ∷ ms) [] cur are of fit = fit
    reads_fit (m ∷ ms) (rows ∷ more) cur are of fit = reads_fit ms more (fold (clocked_read c env listed m rows) cur m.reads) are.1 of.1 (ports_fit m rows m.reads cur are.0.reads of.0 fit)

  -- ---- clocks

  turned : (z : ℤ) → IsOf false 1 z → IsOf false 1 (pos 1 -ℤ z)
  turned (pos zero) h = omega arith
  turned (pos (suc zero)) h = omega arith
  turned (pos (suc (suc n))) h = absurd (omega (arith, h))
  turned (negsuc n) h = absurd h

  toggle_fits : (k : ℕ) (o : Option Domain) (cur : List ℤ) → slice_get c.domains k ≡ o → FitsSignals c.pool cur → FitsSignals c.pool (toggle_at cur o)
  toggle_fits k None cur e fit = fit
  toggle_fits k (Some x) cur e fit =
      let is : IsClockDomain c x = all_at (IsClockDomain c) c.domains k x design.domains e in
      let was : IsOf false 1 (at cur x.clk.0) = subst (λ (f : Form). IsOf f.signed f.width (at cur x.clk.0)) is.clock.shape (fit x.clk.0 is.clock.there) in
      let now : OfSignal c.pool x.clk.0 (pos 1 -ℤ at cur x.clk.0) = subst (λ (f : Form). IsOf f.signed f.width (pos 1 -ℤ at cur x.clk.0)) (sym is.clock.shape) (turned (at cur x.clk.0) was) in
      set_fits c.pool cur x.clk.0 (pos 1 -ℤ at cur x.clk.0) now fit

  toggles_fit : (ds : List DomainId) (cur : List ℤ) → FitsSignals c.pool cur → FitsSignals c.pool (fold (toggle c.domains) cur ds)
  toggles_fit [] cur fit = fit
  toggles_fit (d ∷ ds) cur fit = toggles_fit ds (toggle c.domains cur d) (toggle_fits d.0 (slice_get c.domains d.0) cur refl fit)

  -- ---- asynchronous resets

  clear_fits : (held : List ℤ) (d : Option DomainId) (p : DesignProcess) (cur : List ℤ) → FitsSignals c.pool cur → FitsSignals c.pool (cleared_at c held p cur d)
  clear_fits held None p cur fit = fit
  clear_fits held (Some d) p cur fit = cond_both (is_cleared c held d.0) (reset_all c.pool.signals cur (driven c.pool p.body)) cur (FitsSignals c.pool) (λ t. resets_fit (driven c.pool p.body) cur fit) (λ t. fit)

  pub clears_fit : (held : List ℤ) (ps : List DesignProcess) (cur : List ℤ) → FitsSignals c.pool cur → FitsSignals c.pool (fold (cleared c held) cur ps)
  clears_fit held [] cur fit = fit
  clears_fit held (p ∷ ps) cur fit = clears_fit held ps (cleared c held cur p) (clear_fits held p.domain p cur fit)

  -- ---- events

  moved_fits : (st : State) (env : List ℤ) (e : Event) → IsLegal c e → FitsState c st → FitsState c (moved c st env e)
  moved_fits st env (Set s n) legal fit = record { held = set_fits c.pool st.held s.0 n legal.2 fit.held; rows = fit.rows }
  moved_fits st env (Edge ds) legal fit =
      let registers : List ℤ = fold (clocked c env ds) st.held c.processes in
      record {
        held = toggles_fit ds (clocked_reads c env ds c.memories st.rows registers) (reads_fit env ds c.memories st.rows registers design.memories fit.rows (processes_fit env ds c.processes st.held design.processes fit.held));
        rows = rows_fit c env ds c.memories st.rows fit.rows;
      }

  pub step_fits : (st : State) (env : List ℤ) (e : Event) → IsLegal c e → FitsState c st → FitsState c (step c st env e)
  step_fits st env e legal fit =
      let after : State = moved c st env e in
      let fits : FitsState c after = moved_fits st env e legal fit in
      record { held = clears_fit after.held c.processes after.held fits.held; rows = fits.rows }
