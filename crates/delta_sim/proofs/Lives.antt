-- The life of a simulator: it starts, and events happen.
use Rattle.std.specs.Prelude.{◌≡◌, refl, ℕ, suc, ◌+◌, List, [], ◌∷◌, ◌++◌, map, drop, length, slice_get, slice_set, ℤ, pos, Some, fold}
use Rattle.std.proofs.Common.{sym, ◌∙◌, ap, subst, add-one}
use Rattle.std.proofs.lemmas.List.{length-set}
use Rattle.amh_bits.proofs.InShape.{of_zero}
use Rattle.design_ir.specs.declared.domain.Domain.{Domain}
use Rattle.design_ir.specs.declared.event.Event.{Event}
use Rattle.design_ir.specs.declared.event.Event.TheVariants.{Set, Edge}
use Rattle.design_ir.specs.declared.memory.Memory.{Memory}
use Rattle.design_ir.specs.declared.signal.Sig.{Sig}
use Rattle.design_ir.specs.Circuits.{Circuit, State}
use Rattle.design_ir.specs.Designs.{IsDesign}
use Rattle.design_ir.specs.Histories.{Reaches, start, after as reaches_after}
use Rattle.design_ir.specs.Legal.{IsLegal}
use Rattle.design_ir.specs.PoolRules.{IsPool}
use Rattle.design_ir.specs.Settled.{Settled}
use Rattle.design_ir.specs.Steps.{clocked, clocked_reads, moved, step, clock_low, first_state}
use Rattle.design_ir.specs.Values.{signal_form}
use Rattle.design_ir.proofs.ClearedLaws.{clears_length}
use Rattle.design_ir.proofs.NumbersFit.{FitsSignals}
use Rattle.comb_graph.specs.Laws.{FitsRows, FitsState}
use Rattle.comb_graph.proofs.StepFits.{first_fits, step_fits}
use Rattle.delta_sim.specs.Standing.{Simulated, state_of, AreNumbersOf, AreRowsOf, IsSimOf, Stands}
use Rattle.sim_plans.proofs.DrivenLists.{append_turn}
use Rattle.delta_sim.proofs.Starts.{drop_get}
use Rattle.sim_plans.proofs.EdgesFit.{clocks_length, toggles_length}
use Rattle.delta_sim.proofs.PortsFit.{reads_length, rows_length}
use Rattle.sim_plans.proofs.TargetsInside.{inits, inits_fit}
use Rattle.sim_plans.proofs.WritesFit.{set_fits}

module _ (c : Circuit) (rules : IsPool c.pool) (design : IsDesign c) where
  -- ---- events

  -- a state of numbers and rows of their shapes
  pub fits_state : (held : List ℤ) (rows : List (List ℤ)) → AreNumbersOf c held → AreRowsOf c rows → FitsState c (state_of held rows)
  fits_state held rows numbers are = record { held = numbers.fits; rows = are.fits }

  moved_count : (held : List ℤ) (rows : List (List ℤ)) (env : List ℤ) (e : Event) → length (moved c (state_of held rows) env e).held ≡ length held
  moved_count held rows env (Set s n) = length-set held s.0 n
  moved_count held rows env (Edge listed) =
      let registers : List ℤ = fold (clocked c env listed) held c.processes in
      let all : List ℤ = clocked_reads c env listed c.memories rows registers in
      toggles_length c listed all ∙ reads_length c env listed c.memories rows registers ∙ clocks_length c env listed c.processes held

  rows_count : (held : List ℤ) (rows : List (List ℤ)) (env : List ℤ) (e : Event) → length rows ≡ length c.memories → length (moved c (state_of held rows) env e).rows ≡ length c.memories
  rows_count held rows env (Set s n) many = many
  rows_count held rows env (Edge listed) many = rows_length c env listed c.memories rows many

  module _ (held : List ℤ) (rows : List (List ℤ)) (env : List ℤ) (e : Event) (legal : IsLegal c e) (numbers : AreNumbersOf c held) (are : AreRowsOf c rows) where
    stepped : FitsState c (step c (state_of held rows) env e)
    stepped = step_fits c rules design (state_of held rows) env e legal (fits_state held rows numbers are)

    pub step_numbers : AreNumbersOf c (step c (state_of held rows) env e).held
    step_numbers =
        let before : List ℤ = (moved c (state_of held rows) env e).held in
        record { count = clears_length c before c.processes before ∙ moved_count held rows env e ∙ numbers.count; fits = stepped.held }

    pub step_rows : AreRowsOf c (step c (state_of held rows) env e).rows
    step_rows = record { count = rows_count held rows env e are.count; fits = stepped.rows }

-- the state of numbers and rows that are those of another
pub same_state : (st : State) (held : List ℤ) (rows : List (List ℤ)) → held ≡ st.held → rows ≡ st.rows → st ≡ state_of held rows
same_state st held rows h r = ap (λ xs. state_of xs st.rows) (sym h) ∙ ap (state_of held) (sym r)

-- what holds of a state holds of the same numbers and rows
pub move_state : (P : State → Type 0) (held held' : List ℤ) (rows rows' : List (List ℤ)) → held' ≡ held → rows' ≡ rows → P (state_of held rows) → P (state_of held' rows')
move_state P held held' rows rows' h r x = subst (λ xs. P (state_of xs rows')) (sym h) (subst (λ ys. P (state_of held ys)) (sym r) x)

module _ (c : Circuit) where
  pub happened : (events : List Event) (e : Event) (old new : Simulated) → IsSimOf c new → step c (state_of old.held old.rows) old.env e ≡ state_of new.held new.rows → Settled c (state_of new.held new.rows) new.env → Stands c events old → Stands c (events ++ e ∷ []) new
  happened events e old new of state settled stands = record {
    of_design = of;
    reaches = subst (λ st. Reaches c (events ++ e ∷ []) st new.env) state (reaches_after events (state_of old.held old.rows) old.env e new.env stands.reaches (subst (λ st. Settled c st new.env) (sym state) settled));
  }

  -- ---- the start

  pub started : (s : Simulated) → IsSimOf c s → s.held ≡ fold clock_low (inits c.pool.signals) c.domains → s.rows ≡ map (λ (m : Memory). m.rows) c.memories → Settled c (state_of s.held s.rows) s.env → Stands c [] s
  started s of is rows_is settled =
      let state : first_state c ≡ state_of s.held s.rows = same_state (first_state c) s.held s.rows is rows_is in
      record {
        of_design = of;
        reaches = subst (λ st. Reaches c [] st s.env) state (start s.env (subst (λ st. Settled c st s.env) (sym state) settled));
      }

  mapped_length : (ms : List Memory) → length (map (λ (m : Memory). m.rows) ms) ≡ length ms
  mapped_length [] = refl
  mapped_length (m ∷ ms) = ap suc (mapped_length ms)

  pub first_rows : (rows : List (List ℤ)) → IsPool c.pool → IsDesign c → rows ≡ map (λ (m : Memory). m.rows) c.memories → AreRowsOf c rows
  first_rows rows rules design is = record {
    count = ap length is ∙ mapped_length c.memories;
    fits = subst (FitsRows c.memories) (sym is) (first_fits c rules design).rows;
  }

pub inits_turn : (sigs : List Sig) (s : ℕ) (x : Sig) (now more all : List ℤ) → slice_get sigs s ≡ Some x → more ≡ now ++ x.init ∷ [] → now ++ inits (drop s sigs) ≡ all → more ++ inits (drop (s + 1) sigs) ≡ all
inits_turn sigs s x now more all is grown known =
    append_turn now more (x.init ∷ []) (inits (drop (s + 1) sigs)) all grown
    (ap (λ k. now ++ x.init ∷ inits (drop k sigs)) (add-one s) ∙ sym (ap (λ ys. now ++ inits ys) (drop_get sigs s x is)) ∙ known)

pub lows_turn : (ds : List Domain) (d : ℕ) (x : Domain) (now more all : List ℤ) → slice_get ds d ≡ Some x → more ≡ slice_set now x.clk.0 (pos 0) → fold clock_low now (drop d ds) ≡ all → fold clock_low more (drop (d + 1) ds) ≡ all
lows_turn ds d x now more all is low known =
    ap (λ k. fold clock_low more (drop k ds)) (add-one d)
    ∙ ap (λ cur. fold clock_low cur (drop (suc d) ds)) low
    ∙ sym (ap (fold clock_low now) (drop_get ds d x is)) ∙ known

module _ (c : Circuit) where
  inits_length : (sigs : List Sig) → length (inits sigs) ≡ length sigs
  inits_length [] = refl
  inits_length (x ∷ sigs) = ap suc (inits_length sigs)

  lows_length : (ds : List Domain) (cur : List ℤ) → length (fold clock_low cur ds) ≡ length cur
  lows_length [] cur = refl
  lows_length (d ∷ ds) cur = lows_length ds (clock_low cur d) ∙ length-set cur d.clk.0 (pos 0)

  lows_fit : (ds : List Domain) (cur : List ℤ) → FitsSignals c.pool cur → FitsSignals c.pool (fold clock_low cur ds)
  lows_fit [] cur fit = fit
  lows_fit (d ∷ ds) cur fit =
      lows_fit ds (clock_low cur d) (set_fits c.pool cur d.clk.0 (pos 0) (of_zero (signal_form c.pool.signals d.clk.0).signed (signal_form c.pool.signals d.clk.0).width) fit)

  pub first_numbers : (held : List ℤ) → IsPool c.pool → held ≡ fold clock_low (inits c.pool.signals) c.domains → AreNumbersOf c held
  first_numbers held rules is = record {
    count = ap length is ∙ lows_length c.domains (inits c.pool.signals) ∙ inits_length c.pool.signals;
    fits = subst (FitsSignals c.pool) (sym is) (lows_fit c.domains (inits c.pool.signals) (inits_fit c.pool rules));
  }
