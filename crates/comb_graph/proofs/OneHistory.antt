-- An ordered design has one history for its events, as each state to which they lead settles once.
use Rattle.std.specs.Prelude.{◌≡◌, List, [], ◌∷◌, ℤ}
use Rattle.std.specs.List.{AllByRecursion}
use Rattle.std.proofs.Common.{ap, subst}
use Rattle.design_ir.specs.declared.event.Event.{Event}
use Rattle.design_ir.specs.PoolRules.{IsPool}
use Rattle.design_ir.specs.Designs.{IsDesign}
use Rattle.design_ir.specs.Targets.{Bit}
use Rattle.design_ir.specs.Histories.{HistoryFrom}
use Rattle.design_ir.specs.Legal.{AllLegal}
use Rattle.design_ir.specs.Circuits.{Circuit, State}
use Rattle.design_ir.specs.Steps.{step, first_state}
use Rattle.design_ir.proofs.NumbersFit.{FitsSignals}
use Rattle.comb_graph.specs.Orders.{IsOrder}
use Rattle.comb_graph.specs.Laws.{FitsState, SettlesOnce, HasOneHistory}
use Rattle.comb_graph.proofs.SettledOnce.{settles_once}
use Rattle.comb_graph.proofs.StepFits.{first_fits, step_fits}

module _ (c : Circuit) (order : List Bit) (rules : IsPool c.pool) (design : IsDesign c) (ordered : IsOrder c order) where
  -- exactly one history for these events from this state on
  record IsOneFrom (st : State) (events : List Event) : Type 0 where
    envs : List (List ℤ)
    settles : HistoryFrom c st events envs
    fits : AllByRecursion (FitsSignals c.pool) envs
    only : (others : List (List ℤ)) → HistoryFrom c st events others → others ≡ envs

  only_last : (st : State) (once : SettlesOnce c st) (others : List (List ℤ)) → HistoryFrom c st [] others → others ≡ once.env ∷ []
  only_last st once [] h = absurd h
  only_last st once (env ∷ []) h = ap (λ x. x ∷ []) (once.only env h)
  only_last st once (env ∷ more ∷ envs) h = absurd h

  only_next : (st : State) (e : Event) (events : List Event) (once : SettlesOnce c st) (rest : IsOneFrom (step c st once.env e) events) (others : List (List ℤ))
      → HistoryFrom c st (e ∷ events) others → others ≡ once.env ∷ rest.envs
  only_next st e events once rest [] h = absurd h
  only_next st e events once rest (env ∷ envs) h =
      let same = once.only env h.0 in
      let after = rest.only envs (subst (λ x. HistoryFrom c (step c st x e) events envs) same h.1) in
      λ i. same i ∷ after i

  one_from : (events : List Event) (st : State) → AllLegal c events → FitsState c st → IsOneFrom st events
  one_from [] st legal fit =
      let once = settles_once c order rules design ordered st fit in
      record { envs = once.env ∷ []; settles = once.settled; fits = (once.fits, tt); only = only_last st once }
  one_from (e ∷ events) st legal fit =
      let once = settles_once c order rules design ordered st fit in
      let rest = one_from events (step c st once.env e) legal.1 (step_fits c rules design st once.env e legal.0 fit) in
      record { envs = once.env ∷ rest.envs; settles = (once.settled, rest.settles); fits = (once.fits, rest.fits); only = only_next st e events once rest }

  pub one_history : (events : List Event) → AllLegal c events → HasOneHistory c events
  one_history events legal =
      let one = one_from events (first_state c) legal (first_fits c rules design) in
      record { envs = one.envs; settles = one.settles; fits = one.fits; only = one.only }
