-- A module whose statements stand is one that can be resolved, and so is a memory alone.
use Rattle.std.specs.Prelude.{IsTrue, ◌≡◌, refl, ℕ, not, List, [], ◌∷◌, slice_get, slice_index_or, Option, Some, None, zero, suc, codes}
use Rattle.std.specs.Option.{option_map_or}
use Rattle.std.specs.List.{AllByRecursion}
use Rattle.std.proofs.Common.{sym, subst}
use Rattle.std.proofs.lemmas.List.Elements.{All-nil}
use Rattle.lists.specs.Names.{IsName, continues_name}
use Rattle.design_ir.specs.declared.domain.DomainDef.{DomainDef}
use Rattle.design_ir.specs.declared.process.Side.{Side}
use Rattle.design_ir.specs.Fragments.{leaf_of}
use Rattle.design_ir.specs.Pools.{Pooled}
use Rattle.module_dsl.specs.Sided as dsl
use Rattle.module_dsl.specs.Sided.{givens, sides_of, process_of, processes_of}
use Rattle.module_dsl.specs.Blocks.{Given, Entries, entries_of}
use Rattle.module_dsl.specs.Builders.{Built, built_blocks, fragment_of}
use Rattle.clock_domains.specs.Resolvable.{IsNamedSide, IsThere, IsOpenSide, IsDefinition, IsMemoryOf, IsModule}
use Rattle.elab_store.specs.Sound.{IsBuilt, AreClockDomains}
use Rattle.elab_store.specs.ClockDomains.{defined_by}
use Rattle.transform_laws.specs.Laws.{AreNamedResets}
use Rattle.elab_store.specs.declared.hierarchy.Addition.{Addition}
use Rattle.elab_store.specs.declared.hierarchy.Node.{Node}
use Rattle.elab_store.specs.declared.hierarchy.NodeOf.{NodeOf}
use Rattle.elab_store.specs.declared.hierarchy.NodeOf.TheVariants as node
use Rattle.elab_store.specs.declared.memories.OwnMemory.{OwnMemory}
use Rattle.elab_store.specs.Stores.{Stored}
use Rattle.elab_eval.specs.Elaborates.{module_in, root_module, node_name, leaf_in, leaf_at}
use Rattle.elab_acts.proofs.EachLaws.{all_map, all_filter, all_each}
use Rattle.elab_eval.proofs.DefinitionLaws.{definitions_stand}
use Rattle.elab_eval.proofs.OwnMemories.{spec_at}
use Rattle.transform_laws.proofs.GrowthLaws.{standing_trees}
use Rattle.elab_store.proofs.Standing.{IsGiven, Stand, entries_stand, blocks_stand, givens_stand, targets_stand, exprs_stand}

-- ---- sides

sides_named : (q : Pooled) (all : List Given) → AllByRecursion (IsGiven q) all → AllByRecursion IsNamedSide (sides_of all)
sides_named q [] h = tt
sides_named q (g ∷ more) h = (h.0.side, all_filter IsNamedSide (λ s. not (dsl.same_side g.side s)) (sides_of more) (sides_named q more h.1))

-- ---- modules and names by number

abbrev module_or_none : List Built → ℕ → Built
module_or_none bs m = slice_index_or bs m (record { name = []; steps = [] })

-- where there is none of a number, nothing is told
built_or_none : (q : Pooled) (bs : List Built) (m : ℕ) → AllByRecursion (IsBuilt q) bs → IsBuilt q (module_or_none bs m)
built_or_none q [] m h = record { steps = tt }
built_or_none q (b ∷ bs) zero h = h.0
built_or_none q (b ∷ bs) (suc m) h = built_or_none q bs m h.1

u_named : IsName (codes "u")
u_named = record { first = 117; rest = []; whole = refl; starts = refl; continues = All-nil (λ b. IsTrue (continues_name b)) }

name_at : (additions : List Addition) (k : ℕ) → AllByRecursion (λ (a : Addition). IsName a.name) additions → IsName (option_map_or (λ (a : Addition). a.name) (slice_get additions k) (codes "u"))
name_at [] k g = u_named
name_at (a ∷ additions) zero g = g.0
name_at (a ∷ additions) (suc k) g = name_at additions k g.1

leaf_named : (s : Stored) (name : List ℕ) (o : NodeOf) → (leaf_in s name o).name ≡ name
leaf_named s name (node.Module m) = refl
leaf_named s name (node.Memory k) = refl
leaf_named s name (node.Wrapper k) = refl

pub leaf_name : (s : Stored) (x : Node) → AllByRecursion (λ (a : Addition). IsName a.name) s.hierarchy.additions → IsName (leaf_at s x).name
leaf_name s x named = subst IsName (sym (leaf_named s (node_name s x) x.of)) (name_at s.hierarchy.additions x.addition named)

-- ---- statements

module _ (q : Pooled) (named : AreNamedResets q) where
  side_stands : (es : Entries) (side : Side) → Stand q es → IsNamedSide side → IsOpenSide q (process_of es side)
  side_stands es side h own =
      let p = process_of es side in
      record {
        side = own;
        expressions = exprs_stand q (IsThere q) (λ e there. there) side es h;
        targets = targets_stand q side [] es h;
      }

  -- the sides of a module are named, and its statements stand
  sides_stand : (b : Built) → IsBuilt q b → AllByRecursion (IsOpenSide q) (processes_of (entries_of (built_blocks b)))
  sides_stand b h =
      let es : Entries = entries_of (built_blocks b) in
      let stand : Stand q (entries_of (built_blocks b)) = entries_stand q (built_blocks b) (blocks_stand q b.steps h.steps) in
      all_map (IsOpenSide q) (process_of es) (sides_of (givens es))
      (all_each IsNamedSide (λ s. IsOpenSide q (process_of es s)) (sides_of (givens es)) (λ s own. side_stands es s stand own) (sides_named q (givens es) (givens_stand q es stand)))

  -- under whatever name it stands
  module_stands : (b : Built) (name : List ℕ) (ds : List DomainDef) → IsBuilt q b → AllByRecursion (IsDefinition q) ds → IsModule q (record (leaf_of (fragment_of b)) { name = name; domains = ds })
  unfolding fragment_of
  module_stands b name ds h defined = record { domains = defined; memories = tt; processes = sides_stand b h; resets = standing_trees.resets q _ named }

  pub root_stands : (b : Built) (ds : List DomainDef) → IsBuilt q b → AllByRecursion (IsDefinition q) ds → IsModule q (record (leaf_of (fragment_of b)) { domains = ds })
  unfolding fragment_of
  root_stands b ds h defined = record { domains = defined; memories = tt; processes = sides_stand b h; resets = standing_trees.resets q _ named }

  -- a module, or a memory alone
  pub leaf_stands : (s : Stored) (name : List ℕ) (o : NodeOf) → AllByRecursion (IsBuilt q) s.modules → AllByRecursion (λ (x : OwnMemory). IsMemoryOf q x.spec) s.memories → AreClockDomains q s.clock_domains.made → IsModule q (leaf_in s name o)
  leaf_stands s name (node.Module m) h own clocked = module_stands (module_or_none s.modules m) name (defined_by m s.clock_domains) (built_or_none q s.modules m h) (definitions_stand q s.clock_domains m clocked)
  leaf_stands s name (node.Memory k) h own clocked = record { domains = tt; memories = spec_at (IsMemoryOf q) s.memories k own; processes = tt; resets = standing_trees.resets q _ named }
  leaf_stands s name (node.Wrapper k) h own clocked = record { domains = tt; memories = tt; processes = tt; resets = standing_trees.resets q _ named }

-- the module of a number is as sound as all of them
pub built_at : (q : Pooled) (bs : List Built) (m : Option ℕ) (b : Built) → AllByRecursion (IsBuilt q) bs → module_in bs m ≡ Some b → IsBuilt q b
built_at q bs None b h e = cc
built_at q bs (Some m) b h e = at bs m h e
  where
    at : (bs : List Built) (m : ℕ) → AllByRecursion (IsBuilt q) bs → slice_get bs m ≡ Some b → IsBuilt q b
    at [] m h e = cc
    at (x ∷ bs) zero h e = let same : x ≡ b = cc in subst (IsBuilt q) same h.0
    at (x ∷ bs) (suc m) h e = at bs m h.1 e

pub root_built : (q : Pooled) (s : Stored) (b : Built) → AllByRecursion (IsBuilt q) s.modules → root_module s ≡ Some b → IsBuilt q b
root_built q s b h e = built_at q s.modules s.top.root b h e
