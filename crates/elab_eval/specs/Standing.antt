-- What the trees keep to behind each node, and the whole tree with its top, so that they can be resolved. (Internal: no rule of the language.)
use Rattle.std.specs.Prelude.{◌≡◌, ℕ, List, [], slice_get, Some}
use Rattle.std.specs.List.{AllByRecursion}
use Rattle.design_ir.specs.declared.domain.DomainDef.{DomainDef}
use Rattle.design_ir.specs.declared.fragment.Fragment.{Fragment}
use Rattle.design_ir.specs.Forests.{Forest}
use Rattle.design_ir.specs.Pools.{Pooled}
use Rattle.flat_design.specs.Growing.{IsMore}
use Rattle.fragment_walks.specs.Reads.{data_signals}
use Rattle.fragment_walks.specs.Walks.{definitions_of, all_definitions, memories_of, all_memories}
use Rattle.clock_domains.specs.Resolvable.{AreModules, IsTree}
use Rattle.transform_laws.specs.Laws.{AreNamedResets}
use Rattle.elab_store.specs.declared.domains.ClockDomain.{ClockDomain}
use Rattle.elab_store.specs.Sound.{HasNoClock, HasNoPort}
use Rattle.elab_store.specs.Stores.{Stored}

-- a definition is that of a clock domain that was made, but for its name
pub record IsFrom (made : List ClockDomain) (d : DomainDef) : Type 0 where
  pub number : ℕ
  pub x : ClockDomain
  pub at : slice_get made number ≡ Some x
  pub domain : record (d.domain) { name = x.domain.name } ≡ x.domain

-- a signal that no clock domain has, and no component
pub record IsFree (s : Stored) (k : ℕ) : Type 0 where
  pub clocks : AllByRecursion (HasNoClock k) s.clock_domains.made
  pub ports : AllByRecursion (HasNoPort k) s.components.objects

-- trees of modules over pool p, which was q before the first wrapper of them acted
pub record IsStanding (s : Stored) (q p : Pooled) (f : Forest) : Type 0 where
  pub more : IsMore q p
  pub resets : AreNamedResets p
  pub modules : AreModules p f
  pub definitions : AllByRecursion (IsFrom s.clock_domains.made) (definitions_of f)
  pub free_data : AllByRecursion (IsFree s) (data_signals (memories_of [] f))

-- the top with all that stands below it
pub record StandsFor (s : Stored) (p : Pooled) (f : Fragment) : Type 0 where
  pub resets : AreNamedResets p
  pub tree : IsTree p f
  pub definitions : AllByRecursion (IsFrom s.clock_domains.made) (all_definitions f)
  pub free_data : AllByRecursion (IsFree s) (data_signals (all_memories f))
