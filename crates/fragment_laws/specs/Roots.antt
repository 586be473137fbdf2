-- A design whose domains were resolved means what its root does.
use Rattle.std.specs.Prelude.{◌≡◌, ◌↔◌, ℕ, ⊤, IsSome, List, map, length, ℤ, Option, option_map, slice_get, Ok}
use Rattle.std.specs.List.{AllByRecursion, filter_map}
use Rattle.design_ir.specs.declared.ids.DomainId.{DomainId}
use Rattle.design_ir.specs.declared.domain.Domain.{Domain}
use Rattle.design_ir.specs.declared.process.Side.{Side}
use Rattle.design_ir.specs.declared.process.Side.TheVariants.{Comb, Clocked}
use Rattle.design_ir.specs.declared.process.Process.{Process}
use Rattle.design_ir.specs.declared.fragment.Fragment.{Fragment}
use Rattle.design_ir.specs.declared.event.Event.{Event}
use Rattle.design_ir.specs.declared.event.Event.TheVariants.{Set, Edge}
use Rattle.design_ir.specs.Pools.{Pooled}
use Rattle.design_ir.specs.PoolRules.{IsPool}
use Rattle.design_ir.specs.Circuits.{Circuit, State, is_input}
use Rattle.design_ir.specs.Designs.{IsDesign}
use Rattle.design_ir.specs.Settled.{Settled}
use Rattle.design_ir.specs.Steps as design
use Rattle.design_ir.specs.Histories as design_history
use Rattle.fragment_walks.specs.Walks.{all_processes}
use Rattle.clock_domains.specs.declared.top.TopPorts.{TopPorts}
use Rattle.clock_domains.specs.Resolvable.{IsResolvable}
use Rattle.clock_domains.specs.Resolved.{made_pool, process_in, resolved}
use Rattle.fragment_laws.specs.Parts.{unnamed, all_memories}
use Rattle.fragment_laws.specs.Surroundings.{Surroundings, domain_of, pool_in}
use Rattle.fragment_laws.specs.Settling.{IsSettled}
use Rattle.fragment_laws.specs.Stepping.{Happening, given, toggled, step}
use Rattle.fragment_laws.specs.Lives.{first_state, History}
use Rattle.fragment_laws.specs.SamePools.{AreSameIn}

-- ---- roots

-- a domain has the name of a clocked side
abbrev pub IsSideNamed : List Domain → Side → Type 0
IsSideNamed domains Comb = ⊤
IsSideNamed domains (Clocked name) = IsSome (domain_of domains name)

-- a design is a fragment whose domains were resolved: it has the signals and expressions of a pool with each reset read as
-- the signal that it is, the fragment's processes by the numbers of their domains, and its memories under some names
pub record IsRoot (q : Pooled) (f : Fragment) (c : Circuit) : Type 0 where
  pub pool : AreSameIn (pool_in c.domains q) c.pool c
  pub processes : c.processes ≡ map (process_in c.domains) (all_processes f)
  pub named : AllByRecursion (λ (p : Process). IsSideNamed c.domains p.side) (all_processes f)
  pub memories : map unnamed c.memories ≡ all_memories f

-- ---- what a design is to its root

abbrev pub surroundings_of : Circuit → Surroundings
surroundings_of c = record { domains = c.domains; outside = is_input c }

abbrev pub name_at : Circuit → DomainId → Option (List ℕ)
name_at c d = option_map (λ (x : Domain). x.name) (slice_get c.domains d.0)

abbrev pub happening : Circuit → Event → Happening
happening c (Set s n) = given s.0 n
happening c (Edge ds) = toggled (filter_map (name_at c) ds)

-- the rows of each memory
abbrev pub HasRows : Circuit → State → Type 0
HasRows c st = length st.rows ≡ length c.memories

-- a number of each signal, and the rows of each memory
pub record IsStateOf (c : Circuit) (st : State) : Type 0 where
  pub held : length st.held ≡ length c.pool.signals
  pub rows : HasRows c st

-- ---- the law

-- the design's first state, settled environments, steps and histories are those of its root
pub record MeansItsRoot (q : Pooled) (f : Fragment) (c : Circuit) : Type 0 where
  pub first : first_state q f (surroundings_of c) ≡ design.first_state c
  pub settled : (st : State) (env : List ℤ) → HasRows c st → IsSettled q f (surroundings_of c) st env ↔ Settled c st env
  pub steps : (st : State) (env : List ℤ) (e : Event) → IsStateOf c st → step q f (surroundings_of c) st env (happening c e) ≡ design.step c st env e
  pub histories : (es : List Event) (envs : List (List ℤ)) → History q f (surroundings_of c) (map (happening c) es) envs ↔ design_history.History c es envs

-- whichever way the domains were resolved
abbrev pub DesignsMeanTheirRoots : Type 0
DesignsMeanTheirRoots = (q : Pooled) (f : Fragment) (c : Circuit) → IsDesign c → IsRoot q f c → MeansItsRoot q f c

-- so it is where `resolve` gives the design, over the pool with the signals of the domains that it makes, in which resets are still
-- resets
abbrev pub ResolvedMeansItsRoot : Type 0
ResolvedMeansItsRoot =
    (q : Pooled) (f : Fragment) (top : TopPorts) (c : Circuit) → IsPool q → IsPool c.pool → IsResolvable q f top → resolved q f top ≡ Ok c → MeansItsRoot (made_pool q f) f c
