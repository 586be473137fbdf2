-- A design has the histories of its root.
use Rattle.std.specs.Prelude.{◌≡◌, List, [], ◌∷◌, map, ℤ}
use Rattle.std.specs.List.{AllByRecursion, IsDistinct}
use Rattle.std.proofs.Common.{sym, ◌∙◌, subst}
use Rattle.lists.specs.Texts.{text_eq}
use Rattle.design_ir.specs.declared.domain.Domain.{Domain}
use Rattle.design_ir.specs.declared.port.Port.{Port}
use Rattle.design_ir.specs.declared.port.Column.{Column}
use Rattle.design_ir.specs.declared.process.Process.{Process}
use Rattle.design_ir.specs.declared.fragment.Fragment.{Fragment}
use Rattle.design_ir.specs.declared.event.Event.{Event}
use Rattle.design_ir.specs.Pools.{Pooled}
use Rattle.design_ir.specs.Circuits.{Circuit, State}
use Rattle.design_ir.specs.Settled.{delta, Settled}
use Rattle.design_ir.specs.Steps as design
use Rattle.design_ir.specs.Histories as history
use Rattle.fragment_walks.specs.Walks.{all_processes}
use Rattle.fragment_laws.specs.Surroundings.{Surroundings}
use Rattle.fragment_laws.specs.Settling.{IsSettled}
use Rattle.fragment_laws.specs.Stepping.{step}
use Rattle.fragment_laws.specs.Lives.{first_state, HistoryFrom}
use Rattle.fragment_laws.specs.Roots.{IsSideNamed, surroundings_of, happening, HasRows, IsStateOf, MeansItsRoot}
use Rattle.fragment_laws.proofs.OneDriver.{IsDrivenOnce}
use Rattle.fragment_laws.proofs.RootNumbers.{root_design, settle_same, step_same, step_sized, first_same, first_sized}

-- ---- two designs that settle and step alike

module _ (c d : Circuit) (deltas : (st : State) (env : List ℤ) → delta d st env ≡ delta c st env) (steps : (st : State) (env : List ℤ) (e : Event) → design.step d st env e ≡ design.step c st env e) where
  pub settled_alike : (st : State) (env : List ℤ) → Settled d st env → Settled c st env
  settled_alike st env h = sym (deltas st env) ∙ h

  pub histories_alike : (es : List Event) (envs : List (List ℤ)) (st : State) → history.HistoryFrom d st es envs → history.HistoryFrom c st es envs
  histories_alike [] [] st h = absurd h
  histories_alike [] (env ∷ []) st h = settled_alike st env h
  histories_alike [] (env ∷ other ∷ envs) st h = absurd h
  histories_alike (e ∷ es) [] st h = absurd h
  histories_alike (e ∷ es) (env ∷ envs) st h =
      (settled_alike st env h.0, subst (λ x. history.HistoryFrom c x es envs) (steps st env e) (histories_alike es envs (design.step d st env e) h.1))

-- ---- a fragment and the design of its processes

module _ (q : Pooled) (f : Fragment) (ds : List Domain) (ios : List Port) (columns : List Column) where
  abbrev d : Circuit
  d = root_design q f ds ios columns

  abbrev w : Surroundings
  w = surroundings_of d

  module _ (rules : IsDrivenOnce d) (apart : IsDistinct text_eq (map (λ (x : Domain). x.name) ds)) (named : AllByRecursion (λ (x : Process). IsSideNamed ds x.side) (all_processes f)) where
    settled_into : (st : State) (env : List ℤ) → HasRows d st → IsSettled q f w st env → Settled d st env
    settled_into st env rows h = sym (settle_same q f ds ios columns rules apart named st env rows) ∙ h

    settled_from : (st : State) (env : List ℤ) → HasRows d st → Settled d st env → IsSettled q f w st env
    settled_from st env rows h = settle_same q f ds ios columns rules apart named st env rows ∙ h

    next : (st : State) (env : List ℤ) (e : Event) → IsStateOf d st → step q f w st env (happening d e) ≡ design.step d st env e
    next st env e sized = step_same q f ds ios columns rules apart named st env e sized

    into : (es : List Event) (envs : List (List ℤ)) (st : State) → IsStateOf d st → HistoryFrom q f w st (map (happening d) es) envs → history.HistoryFrom d st es envs
    into [] [] st sized h = absurd h
    into [] (env ∷ []) st sized h = settled_into st env sized.rows h
    into [] (env ∷ other ∷ envs) st sized h = absurd h
    into (e ∷ es) [] st sized h = absurd h
    into (e ∷ es) (env ∷ envs) st sized h = (
      settled_into st env sized.rows h.0,
      into es envs (design.step d st env e) (step_sized q f ds ios columns rules apart named st env e sized) (subst (λ x. HistoryFrom q f w x (map (happening d) es) envs) (next st env e sized) h.1),
    )

    from : (es : List Event) (envs : List (List ℤ)) (st : State) → IsStateOf d st → history.HistoryFrom d st es envs → HistoryFrom q f w st (map (happening d) es) envs
    from [] [] st sized h = absurd h
    from [] (env ∷ []) st sized h = settled_from st env sized.rows h
    from [] (env ∷ other ∷ envs) st sized h = absurd h
    from (e ∷ es) [] st sized h = absurd h
    from (e ∷ es) (env ∷ envs) st sized h = (
      settled_from st env sized.rows h.0,
      subst (λ x. HistoryFrom q f w x (map (happening d) es) envs) (sym (next st env e sized)) (from es envs (design.step d st env e) (step_sized q f ds ios columns rules apart named st env e sized) h.1),
    )

    first : first_state q f w ≡ design.first_state d
    first = first_same q f ds ios columns rules apart named

    sized : IsStateOf d (design.first_state d)
    sized = first_sized q f ds ios columns rules apart named

    pub root_meaning : MeansItsRoot q f d
    root_meaning = record {
      first = first;
      settled = λ st env rows. (settled_into st env rows, settled_from st env rows);
      steps = next;
      histories = λ es envs. (
        (λ h. into es envs (design.first_state d) sized (subst (λ x. HistoryFrom q f w x (map (happening d) es) envs) first h)),
        (λ h. subst (λ x. HistoryFrom q f w x (map (happening d) es) envs) (sym first) (from es envs (design.first_state d) sized h)),
      );
    }
