-- What is asked of a tree of modules for it to be resolved stays where its pool grows, and where a wrapper of clock domains makes
-- another tree of it. (This project's own rule: what the calls that make them leave.)
use Rattle.std.specs.Prelude.{◌≡◌, ⊤, List, map, length}
use Rattle.std.specs.List.{AllByRecursion}
use Rattle.lists.specs.Names.{IsName}
use Rattle.design_ir.specs.declared.ids.ExprId.{ExprId}
use Rattle.design_ir.specs.declared.expr.Expr.{Expr}
use Rattle.design_ir.specs.declared.expr.Expr.TheVariants.{Reset}
use Rattle.design_ir.specs.declared.domain.DomainDef.{DomainDef}
use Rattle.design_ir.specs.declared.fragment.Fragment.{Fragment}
use Rattle.design_ir.specs.Forests.{Leaf, Forest}
use Rattle.design_ir.specs.Named.{AllBelow}
use Rattle.design_ir.specs.Pools.{Pooled}
use Rattle.design_ir.specs.PoolRules.{IsPool}
use Rattle.flat_design.specs.Growing.{IsMore}
use Rattle.fragment_walks.specs.Held.{held_resets}
use Rattle.fragment_walks.specs.Reads.{data_signals}
use Rattle.fragment_walks.specs.Walks.{all_definitions, all_memories}
use Rattle.clock_domains.specs.declared.top.TopPorts.{TopPorts}
use Rattle.clock_domains.specs.Resolvable.{AreApart, AreModules, IsModule, IsNamedReset, IsResolvable, IsTree}
use Rattle.domain_transforms.specs.declared.controls.Control.{Control}
use Rattle.domain_transforms.specs.declared.controls.NamePair.{NamePair}
use Rattle.domain_transforms.specs.Enabling.{enabled}
use Rattle.domain_transforms.specs.Placed.{AreControls, fragment_exprs}
use Rattle.domain_transforms.specs.Renamed.{renamed, renamed_definition}
use Rattle.domain_transforms.specs.Resetting.{reset_inserted}

-- ---- resets

-- an expression, if it is a reset, has the name of a domain
abbrev pub IsNamedExpr : Expr → Type 0
IsNamedExpr (Reset domain place) = IsName domain
IsNamedExpr e = ⊤

-- each reset of a pool has
abbrev pub AreNamedResets : Pooled → Type 0
AreNamedResets q = AllByRecursion IsNamedExpr q.exprs

-- ---- pools that grow

-- over a pool that has more expressions behind those that it had, a tree of modules is what it was
pub record GrownTrees : Type 0 where
  pub modules : (q p : Pooled) (l : Leaf) → IsPool q → IsMore q p → IsModule q l → IsModule p l
  pub forests : (q p : Pooled) (f : Forest) → IsPool q → IsMore q p → AreModules q f → AreModules p f
  pub trees : (q p : Pooled) (f : Fragment) → IsPool q → IsMore q p → IsTree q f → IsTree p f
  pub resolvable : (q p : Pooled) (f : Fragment) (top : TopPorts) → IsPool q → IsMore q p → IsResolvable q f top → IsResolvable p f top

-- what stands in the statements and memory ports of a tree is of the pool, and where each reset of the pool has the name of a
-- domain, each that stands in some expressions has
pub record StandingTrees : Type 0 where
  pub there : (q : Pooled) (f : Fragment) → IsTree q f → AllBelow (length q.exprs) (fragment_exprs f)
  pub resets : (q : Pooled) (roots : List ExprId) → AreNamedResets q → AllByRecursion IsNamedReset (held_resets q roots)

-- ---- wrappers: what one makes of a tree is one of modules of the pool that it leaves, where it was so before

-- by what it asks of the pool, and what it makes
pub record KeepsTrees (Asks : Pooled → Type 0) (made : Pooled → Fragment → Fragment × Pooled) : Type 0 where
  pub pools : (q : Pooled) (f : Fragment) → IsMore q (made q f).1
  pub resets : (q : Pooled) (f : Fragment) → Asks q → AreNamedResets q → AreNamedResets (made q f).1
  pub trees : (q : Pooled) (f : Fragment) → Asks q → IsPool q → IsPool (made q f).1 → AreNamedResets q → IsTree q f → IsTree (made q f).1 (made q f).0
  pub read_data : (q : Pooled) (f : Fragment) → data_signals (all_memories (made q f).0) ≡ data_signals (all_memories f)
  pub resolvable : (q : Pooled) (f : Fragment) (top : TopPorts) → Asks q → IsPool q → IsPool (made q f).1 → AreNamedResets q → IsResolvable q f top → IsResolvable (made q f).1 (made q f).0 top

-- the new names of domains are names
abbrev pub AreNewNames : List NamePair → Type 0
AreNewNames names = AllByRecursion (λ (x : NamePair). IsName x.after) names

-- and two definitions that were apart are, whichever of them are renamed
pub record RenamedTrees : Type 0 where
  pub keeps : (names : List NamePair) → KeepsTrees (λ q. AreNewNames names) (renamed names)
  pub definitions : (names : List NamePair) (q : Pooled) (f : Fragment) → all_definitions (renamed names q f).0 ≡ map (renamed_definition names) (all_definitions f)
  pub apart_first : (names : List NamePair) (d e : DomainDef) → AreApart d e → AreApart (renamed_definition names d) e
  pub apart_second : (names : List NamePair) (d e : DomainDef) → AreApart d e → AreApart d (renamed_definition names e)

-- controls are of the pool, and definitions stay
pub record ResetTrees : Type 0 where
  pub keeps : (controls : List Control) → KeepsTrees (λ q. AreControls (length q.exprs) controls) (reset_inserted controls)
  pub definitions : (controls : List Control) (q : Pooled) (f : Fragment) → all_definitions (reset_inserted controls q f).0 ≡ all_definitions f

pub record EnabledTrees : Type 0 where
  pub keeps : (controls : List Control) → KeepsTrees (λ q. AreControls (length q.exprs) controls) (enabled controls)
  pub definitions : (controls : List Control) (q : Pooled) (f : Fragment) → all_definitions (enabled controls q f).0 ≡ all_definitions f
