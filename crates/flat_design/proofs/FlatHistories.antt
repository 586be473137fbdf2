-- A design and a flat one have the same histories.
use Rattle.std.specs.Prelude.{◌≡◌, ◌↔◌, refl, suc, List, [], ◌∷◌, map, length, fold, ℤ, pos, ◌-ℤ◌, slice_get, slice_set, Option, Some, None}
use Rattle.std.proofs.Common.{sym, ◌∙◌, ap, subst}
use Rattle.std.proofs.lemmas.Bool.{cond_both}
use Rattle.std.proofs.lemmas.List.{length-set}
use Rattle.design_ir.specs.declared.ids.DomainId.{DomainId}
use Rattle.design_ir.specs.declared.domain.Domain.{Domain}
use Rattle.design_ir.specs.declared.event.Event.{Event}
use Rattle.design_ir.specs.declared.event.Event.TheVariants.{Set, Edge}
use Rattle.design_ir.specs.declared.expr.Expr.{Expr}
use Rattle.design_ir.specs.declared.memory.MemRead.{MemRead}
use Rattle.design_ir.specs.declared.memory.Memory.{Memory}
use Rattle.design_ir.specs.declared.process.DesignProcess.{DesignProcess}
use Rattle.design_ir.specs.declared.signal.Sig.{Sig}
use Rattle.design_ir.specs.PoolRules.{IsPool}
use Rattle.design_ir.specs.Designs.{IsDesign}
use Rattle.design_ir.specs.Circuits.{Circuit, State, at, FitsSignals}
use Rattle.design_ir.specs.Settled.{Settled}
use Rattle.design_ir.specs.Histories.{HistoryFrom, History}
use Rattle.design_ir.specs.Legal.{AllLegal}
use Rattle.design_ir.specs.Steps.{clocked, read_word, reads_now, clocked_read, clocked_reads, toggle_at, toggle, moved, clock_low, step, first_state}
use Rattle.design_ir.proofs.ClearedLaws.{clears_length}
use Rattle.comb_graph.specs.Laws.{FitsState}
use Rattle.comb_graph.proofs.StepFits.{first_fits, step_fits}
use Rattle.comb_graph.proofs.DeltaLaws.{delta_fits}
use Rattle.flat_design.specs.Growing.{IsMore}
use Rattle.flat_design.specs.Flat.{AreFlatProcesses}
use Rattle.flat_design.specs.Laws.{FlatHasTheHistory}
use Rattle.flat_design.proofs.FlatPairs.{with_exprs, with_parts, design_is, more_is, flat_is}
use Rattle.flat_design.proofs.FlatDeltas.{delta_same}
use Rattle.flat_design.proofs.FlatSteps.{after_length, step_same}

-- ---- a state keeps a number for each signal

module _ (c : Circuit) (env : List ℤ) (listed : List DomainId) where
  ports_length : (m : Memory) (rows : List ℤ) (rs : List MemRead) (cur : List ℤ) → length (fold (clocked_read c env listed m rows) cur rs) ≡ length cur
  ports_length m rows [] cur = refl
  ports_length m rows (r ∷ rs) cur =
      ports_length m rows rs (clocked_read c env listed m rows cur r)
      ∙ cond_both (reads_now c env listed r) (slice_set cur r.word.0 (read_word c env listed m rows r)) cur (λ x. length x ≡ length cur) (λ t. length-set cur r.word.0 (read_word c env listed m rows r)) (λ t. refl)

  reads_length : (ms : List Memory) (all : List (List ℤ)) (cur : List ℤ) → length (clocked_reads c env listed ms all cur) ≡ length cur
  reads_length [] all cur = refl
  reads_length (m ∷ ms) [] cur = refl
  reads_length (m ∷ ms) (rows ∷ all) cur = reads_length ms all (fold (clocked_read c env listed m rows) cur m.reads) ∙ ports_length m rows m.reads cur

  registers_length : (ps : List DesignProcess) (cur : List ℤ) → length (fold (clocked c env listed) cur ps) ≡ length cur
  registers_length [] cur = refl
  registers_length (p ∷ ps) cur = registers_length ps (clocked c env listed cur p) ∙ after_length c env listed p cur p.domain

toggle_length : (o : Option Domain) (cur : List ℤ) → length (toggle_at cur o) ≡ length cur
toggle_length None cur = refl
toggle_length (Some x) cur = length-set cur x.clk.0 (pos 1 -ℤ at cur x.clk.0)

toggles_length : (domains : List Domain) (ds : List DomainId) (cur : List ℤ) → length (fold (toggle domains) cur ds) ≡ length cur
toggles_length domains [] cur = refl
toggles_length domains (d ∷ ds) cur = toggles_length domains ds (toggle domains cur d) ∙ toggle_length (slice_get domains d.0) cur

moved_length : (c : Circuit) (st : State) (env : List ℤ) (e : Event) → length (moved c st env e).held ≡ length st.held
moved_length c st env (Set s n) = length-set st.held s.0 n
moved_length c st env (Edge ds) =
    let registers : List ℤ = fold (clocked c env ds) st.held c.processes in
    toggles_length c.domains ds (clocked_reads c env ds c.memories st.rows registers) ∙ reads_length c env ds c.memories st.rows registers ∙ registers_length c env ds c.processes st.held

step_length : (c : Circuit) (st : State) (env : List ℤ) (e : Event) → length (step c st env e).held ≡ length st.held
step_length c st env e = let after : State = moved c st env e in clears_length c after.held c.processes after.held ∙ moved_length c st env e

lows_length : (ds : List Domain) (cur : List ℤ) → length (fold clock_low cur ds) ≡ length cur
lows_length [] cur = refl
lows_length (d ∷ ds) cur = lows_length ds (clock_low cur d) ∙ length-set cur d.clk.0 (pos 0)

inits_length : (sigs : List Sig) → length (map (λ (x : Sig). x.init) sigs) ≡ length sigs
inits_length [] = refl
inits_length (x ∷ sigs) = ap (λ n. suc n) (inits_length sigs)

first_length : (c : Circuit) → length (first_state c).held ≡ length c.pool.signals
first_length c = lows_length c.domains (map (λ (x : Sig). x.init) c.pool.signals) ∙ inits_length c.pool.signals

-- ---- histories

module _ (c : Circuit) (es : List Expr) (ps : List DesignProcess) (rules : IsPool c.pool) (design : IsDesign c) (more : IsMore c.pool (with_exprs c.pool es))
    (are : AreFlatProcesses c.pool (with_exprs c.pool es) c.processes ps) (grown : IsPool (with_exprs c.pool es)) (flat : IsDesign (with_parts c es ps)) where
  abbrev d : Circuit
  d = with_parts c es ps

  module _ (st : State) (fit : FitsState c st) (env : List ℤ) where
    fits_flat : Settled d st env → FitsSignals c.pool env
    fits_flat settled = subst (FitsSignals c.pool) settled (delta_fits d st grown flat (record { held = fit.held; rows = fit.rows }) env)

    fits_own : Settled c st env → FitsSignals c.pool env
    fits_own settled = subst (FitsSignals c.pool) settled (delta_fits c st rules design fit env)

    settled_own : Settled d st env → Settled c st env
    settled_own settled = sym (delta_same c es ps rules design more are st env fit.held (fits_flat settled)) ∙ settled

    settled_flat : Settled c st env → Settled d st env
    settled_flat settled = delta_same c es ps rules design more are st env fit.held (fits_own settled) ∙ settled

    next : (e : Event) → length st.held ≡ length c.pool.signals → Settled c st env → step d st env e ≡ step c st env e
    next e long settled = step_same c es ps rules design more are st env e fit.held long (fits_own settled) settled

  own_history : (events : List Event) (envs : List (List ℤ)) (st : State) → AllLegal c events → FitsState c st → length st.held ≡ length c.pool.signals → HistoryFrom d st events envs → HistoryFrom c st events envs
  own_history [] [] st legal fit long h = absurd h
  own_history [] (env ∷ []) st legal fit long h = settled_own st fit env h
  own_history [] (env ∷ other ∷ envs) st legal fit long h = absurd h
  own_history (e ∷ events) [] st legal fit long h = absurd h
  own_history (e ∷ events) (env ∷ envs) st legal fit long h =
      let settled : Settled c st env = settled_own st fit env h.0 in
      (settled, own_history events envs (step c st env e) legal.1 (step_fits c rules design st env e legal.0 fit) (step_length c st env e ∙ long) (subst (λ x. HistoryFrom d x events envs) (next st fit env e long settled) h.1))

  flat_history : (events : List Event) (envs : List (List ℤ)) (st : State) → AllLegal c events → FitsState c st → length st.held ≡ length c.pool.signals → HistoryFrom c st events envs → HistoryFrom d st events envs
  flat_history [] [] st legal fit long h = absurd h
  flat_history [] (env ∷ []) st legal fit long h = settled_flat st fit env h
  flat_history [] (env ∷ other ∷ envs) st legal fit long h = absurd h
  flat_history (e ∷ events) [] st legal fit long h = absurd h
  flat_history (e ∷ events) (env ∷ envs) st legal fit long h = (
    settled_flat st fit env h.0,
    subst (λ x. HistoryFrom d x events envs) (sym (next st fit env e long h.0)) (flat_history events envs (step c st env e) legal.1 (step_fits c rules design st env e legal.0 fit) (step_length c st env e ∙ long) h.1),
  )

  same_histories : (events : List Event) (envs : List (List ℤ)) → AllLegal c events → History d events envs ↔ History c events envs
  same_histories events envs legal =
      (own_history events envs (first_state c) legal (first_fits c rules design) (first_length c), flat_history events envs (first_state c) legal (first_fits c rules design) (first_length c))

pub flat_has_the_history : FlatHasTheHistory
flat_has_the_history c d events envs rules grown design flat-design flat legal =
    let is : d ≡ with_parts c d.pool.exprs d.processes = design_is c d flat in
    subst (λ x. History x events envs ↔ History c events envs) (sym is)
    (same_histories c d.pool.exprs d.processes rules design (more_is c d flat) (flat_is c d flat) (subst (λ (x : Circuit). IsPool x.pool) is grown) (subst IsDesign is flat-design) events envs legal)
