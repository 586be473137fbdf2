-- What a design holds stays of its shapes, one number for each signal: at first, and after each legal event.
use Rattle.std.specs.Prelude.{◌≡◌, refl, List, [], ◌∷◌, map, length, slice_get, ℤ, pos, fold}
use Rattle.std.proofs.Common.{◌∙◌}
use Rattle.std.proofs.lemmas.List.{length-map, length-set}
use Rattle.design_ir.specs.declared.ids.DomainId.{DomainId}
use Rattle.design_ir.specs.declared.signal.Sig.{Sig}
use Rattle.design_ir.specs.declared.domain.Domain.{Domain}
use Rattle.design_ir.specs.declared.event.Event.{Event}
use Rattle.design_ir.specs.declared.event.Event.TheVariants.{Set, Edge}
use Rattle.design_ir.specs.PoolRules.{IsPool}
use Rattle.design_ir.specs.Circuits.{Circuit, State}
use Rattle.design_ir.specs.Designs.{IsDesign}
use Rattle.design_ir.specs.Legal.{IsLegal}
use Rattle.design_ir.specs.Steps.{clocked, clocked_reads, toggle, moved, step, clock_low, first_state}
use Rattle.comb_graph.specs.Laws.{FitsState}
use Rattle.comb_graph.proofs.StepFits.{first_fits, step_fits}
use Rattle.netlist_laws.proofs.OneDriver.{length-fold}
use Rattle.netlist_laws.proofs.Driven.{driven_by}
use Rattle.netlist_laws.proofs.ReadOnce.{length-clocked_reads}
use Rattle.netlist_laws.proofs.RegisterSteps.{clocked_at-other, length-clocked_at}
use Rattle.netlist_laws.proofs.RegisterClears.{length-clears}
use Rattle.netlist_laws.proofs.ClockEdges.{length-toggle_at}

-- a number for each signal, of its shape, and rows of the memories' shapes
pub record AreHeld (c : Circuit) (st : State) : Type 0 where
  pub long : length st.held ≡ length c.pool.signals
  pub fits : FitsState c st

length-clocks_low : (ds : List Domain) (xs : List ℤ) → length (fold clock_low xs ds) ≡ length xs
length-clocks_low [] xs = refl
length-clocks_low (d ∷ ds) xs = length-clocks_low ds (clock_low xs d) ∙ length-set xs d.clk.0 (pos 0)

length-toggles : (domains : List Domain) (ds : List DomainId) (xs : List ℤ) → length (fold (toggle domains) xs ds) ≡ length xs
length-toggles domains [] xs = refl
length-toggles domains (d ∷ ds) xs = length-toggles domains ds (toggle domains xs d) ∙ length-toggle_at xs (slice_get domains d.0)

-- the numbers that a design begins with
pub first_held : (c : Circuit) → IsPool c.pool → IsDesign c → AreHeld c (first_state c)
first_held c rules design = record {
  long = length-clocks_low c.domains (map (λ (x : Sig). x.init) c.pool.signals) ∙ length-map c.pool.signals (λ (x : Sig). x.init);
  fits = first_fits c rules design;
}

module _ (c : Circuit) where
  pub length-moved : (st : State) (env : List ℤ) (e : Event) → length (moved c st env e).held ≡ length st.held
  length-moved st env (Set s n) = length-set st.held s.0 n
  length-moved st env (Edge listed) =
      let after : List ℤ = fold (clocked c env listed) st.held c.processes in
      length-toggles c.domains listed (clocked_reads c env listed c.memories st.rows after)
      ∙ length-clocked_reads c env listed c.memories st.rows after
      ∙ length-fold (driven_by c) 0 (clocked c env listed) (λ cur q. length-clocked_at c env listed 0 q cur q.domain) (λ cur q k. clocked_at-other c env listed 0 q cur q.domain k) c.processes st.held

-- what is held after an event
pub step_held : (c : Circuit) → IsPool c.pool → IsDesign c → (st : State) (env : List ℤ) (e : Event) → IsLegal c e → AreHeld c st → AreHeld c (step c st env e)
step_held c rules design st env e legal h =
    let after : State = moved c st env e in
    record { long = length-clears c after.held c.processes after.held ∙ length-moved c st env e ∙ h.long; fits = step_fits c rules design st env e legal h.fits }
