-- A design whose domains were resolved means what its root does.
use Rattle.std.specs.Prelude.{◌≡◌, IsTrue, false, List, map, length, ℤ}
use Rattle.std.specs.List.{AllByRecursion, IsDistinct, list_any}
use Rattle.std.proofs.Common.{sym, ◌∙◌, ap, subst}
use Rattle.design_ir.specs.declared.port.Port.{Port}
use Rattle.design_ir.specs.declared.fragment.Fragment.{Fragment}
use Rattle.design_ir.specs.declared.event.Event.{Event}
use Rattle.design_ir.specs.Pools.{Pooled}
use Rattle.design_ir.specs.Circuits.{Circuit, State, is_among}
use Rattle.design_ir.specs.Designs.{drivers, share}
use Rattle.design_ir.specs.Settled.{delta}
use Rattle.design_ir.specs.Steps as design
use Rattle.design_ir.specs.Histories as history
use Rattle.clock_domains.proofs.DesignWhole.{IsApart}
use Rattle.fragment_laws.specs.Parts.{unnamed}
use Rattle.fragment_laws.specs.Surroundings.{pool_in}
use Rattle.fragment_laws.specs.Roots.{IsRoot, IsStateOf, MeansItsRoot, DesignsMeanTheirRoots}
use Rattle.fragment_laws.proofs.Twins as twin
use Rattle.fragment_laws.proofs.Unnamed as bare
use Rattle.fragment_laws.proofs.DeltaNumbers.{length_map}
use Rattle.fragment_laws.proofs.OneDriver.{IsDrivenOnce}
use Rattle.fragment_laws.proofs.RootNumbers.{root_design}
use Rattle.fragment_laws.proofs.RootHistories.{settled_alike, histories_alike, root_meaning}

module _ (q : Pooled) (f : Fragment) (c : Circuit) (sound : IsApart c) (root : IsRoot q f c) where
  abbrev over : Circuit
  over = record c { pool = pool_in c.domains q }

  abbrev plain : Circuit
  plain = record over { memories = map unnamed c.memories }

  abbrev d : Circuit
  d = root_design q f c.domains c.ports c.columns

  -- the design with the fragment's pool, and with no names of memories, is that of its processes
  plain_is : plain ≡ d
  plain_is =
      let processes = root.processes in
      let memories = root.memories in
      λ i. record { pool = pool_in c.domains q; processes = processes i; memories = memories i; domains = c.domains; ports = c.ports; columns = c.columns }

  deltas : (st : State) (env : List ℤ) → delta d st env ≡ delta c st env
  deltas st env = ap (λ x. delta x st env) (sym plain_is) ∙ bare.delta_bare over st env ∙ twin.delta_same c (pool_in c.domains q) root.pool env st

  steps : (st : State) (env : List ℤ) (e : Event) → design.step d st env e ≡ design.step c st env e
  steps st env e = ap (λ x. design.step x st env e) (sym plain_is) ∙ bare.step_bare over st env e ∙ twin.step_same c (pool_in c.domains q) root.pool st env e

  first : design.first_state d ≡ design.first_state c
  first = ap design.first_state (sym plain_is) ∙ bare.first_bare over ∙ twin.first_same c (pool_in c.domains q) root.pool

  drivers_are : drivers d ≡ drivers c
  drivers_are = ap drivers (sym plain_is) ∙ bare.drivers_bare over ∙ twin.drivers_same c (pool_in c.domains q) root.pool

  rules : IsDrivenOnce d
  rules = record {
    once = subst (IsDistinct share) (sym drivers_are) sound.one_driver;
    inputs = subst (λ all. AllByRecursion (λ (p : Port). IsTrue p.is_input → list_any (λ ss. is_among ss p.sig.0) all ≡ false) c.ports) (sym drivers_are) sound.no_driven_input;
  }

  meaning : MeansItsRoot q f d
  meaning = root_meaning q f c.domains c.ports c.columns rules sound.names root.named

  memories_long : length c.memories ≡ length d.memories
  memories_long = sym (length_map unnamed c.memories) ∙ ap length root.memories

  sized : (st : State) → IsStateOf c st → IsStateOf d st
  sized st h = record { held = h.held ∙ sym (ap length root.pool.signals); rows = h.rows ∙ memories_long }

  pub means : MeansItsRoot q f c
  means = record {
    first = meaning.first ∙ first;
    settled = λ st env rows. (
      (λ h. settled_alike c d deltas steps st env ((meaning.settled st env (rows ∙ memories_long)).0 h)),
      (λ h. (meaning.settled st env (rows ∙ memories_long)).1 (settled_alike d c (λ x y. sym (deltas x y)) (λ x y z. sym (steps x y z)) st env h)),
    );
    steps = λ st env e h. meaning.steps st env e (sized st h) ∙ steps st env e;
    histories = λ es envs. (
      (λ h. subst (λ x. history.HistoryFrom c x es envs) first (histories_alike c d deltas steps es envs (design.first_state d) ((meaning.histories es envs).0 h))),
      (λ h. (meaning.histories es envs).1 (subst (λ x. history.HistoryFrom d x es envs) (sym first) (histories_alike d c (λ x y. sym (deltas x y)) (λ x y z. sym (steps x y z)) es envs (design.first_state c) h))),
    );
  }

pub designs_mean_their_roots : DesignsMeanTheirRoots
designs_mean_their_roots q f c sound root = means q f c (record { names = sound.domain_names; one_driver = sound.one_driver; no_driven_input = sound.no_driven_input }) root
