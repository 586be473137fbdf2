-- A renamed tree can be resolved where the tree before could.
use Rattle.std.proofs.Common.{◌≡◌, ℕ, List, [], ◌∷◌, ◌++◌, map, length, refl, sym, ap, ◌∙◌, subst}
use Rattle.design_ir.specs.declared.ids.ExprId.{ExprId}
use Rattle.design_ir.specs.declared.memory.MemRead.{MemRead}
use Rattle.design_ir.specs.declared.memory.Memory.{Memory}
use Rattle.design_ir.specs.declared.fragment.Fragment.{Fragment}
use Rattle.design_ir.specs.Forests.{Leaf}
use Rattle.design_ir.specs.Pools.{Pooled}
use Rattle.design_ir.specs.PoolRules.{IsPool}
use Rattle.flat_design.specs.Growing.{IsMore}
use Rattle.flat_design.proofs.Growing.{more_refl}
use Rattle.fragment_walks.specs.Reads.{data_signals}
use Rattle.fragment_walks.specs.Walks.{all_definitions, all_memories}
use Rattle.fragment_walks.proofs.Lists.{map_map}
use Rattle.clock_domains.specs.Resolvable.{IsTree}
use Rattle.domain_transforms.specs.declared.controls.NamePair.{NamePair}
use Rattle.domain_transforms.specs.Placed.{fragment_exprs}
use Rattle.domain_transforms.specs.Renamed.{anew, remade, renamed, renamed_definition, renamed_leaf, renamed_memory, renamed_pool, renamed_read}
use Rattle.transform_laws.specs.Laws.{AreNamedResets, AreNewNames, RenamedTrees}
use Rattle.transform_laws.proofs.Definitions.{apart_first, apart_second, fragment_data, fragment_definitions, own_data, resolvable_from}
use Rattle.transform_laws.proofs.Making.{fragment_keeps, fragment_stands}
use Rattle.transform_laws.proofs.Renaming.{leaf_stands, pool_more, pool_named}

data_renamed : (names : List NamePair) (to : ExprId → ExprId) (ms : List Memory) → data_signals (map (renamed_memory names to) ms) ≡ data_signals ms
data_renamed names to [] = refl
data_renamed names to (m ∷ ms) =
    ap (λ xs. xs ++ data_signals (map (renamed_memory names to) ms)) (map_map (renamed_read names to) (λ (r : MemRead). r.word.0) m.reads) ∙ ap (λ xs. own_data m ++ xs) (data_renamed names to ms)

module _ (names : List NamePair) (q : Pooled) (f : Fragment) where
  abbrev numbers : List ℕ
  numbers = remade names q (fragment_exprs f)

  abbrev pool : Pooled
  pool = renamed_pool names q numbers

  abbrev make : Pooled → Leaf → Leaf × Pooled
  make p l = (renamed_leaf names (anew (length q.exprs) numbers) l, p)

  pool_is : (renamed names q f).1 ≡ pool
  pool_is = fragment_keeps (λ x. x ≡ pool) make (λ p l h. h) pool f refl

  pools : IsMore q (renamed names q f).1
  pools = subst (IsMore q) (sym pool_is) (pool_more names q numbers)

  resets : AreNewNames names → AreNamedResets q → AreNamedResets (renamed names q f).1
  resets news named = subst AreNamedResets (sym pool_is) (pool_named names q numbers news named)

  trees : AreNewNames names → IsPool q → IsPool (renamed names q f).1 → AreNamedResets q → IsTree q f → IsTree (renamed names q f).1 (renamed names q f).0
  trees news rules rules' named h =
      subst (λ x. IsTree x (renamed names q f).0) (sym pool_is)
      (fragment_stands q pool make (λ p l. more_refl p) (λ p l. refl) (λ p l before after k. leaf_stands names q (fragment_exprs f) rules (subst IsPool pool_is rules') news named l k) pool f
      (pool_more names q numbers) (subst (λ x. IsMore x pool) (sym pool_is) (more_refl pool)) h)

  reads : data_signals (all_memories (renamed names q f).0) ≡ data_signals (all_memories f)
  reads = fragment_data make (λ p l. data_renamed names (anew (length q.exprs) numbers) l.memories) pool f

  definitions : all_definitions (renamed names q f).0 ≡ map (renamed_definition names) (all_definitions f)
  definitions = fragment_definitions make (renamed_definition names) (λ p l. refl) pool f

pub renamed_trees : RenamedTrees
renamed_trees = record {
  keeps = λ names. record {
    pools = pools names;
    resets = resets names;
    trees = trees names;
    read_data = reads names;
    resolvable = λ q f top news rules rules' named h.
        resolvable_from q (renamed names q f).1 (pools names q f).signals (renamed_definition names) (λ d. refl) (λ d e k. apart_second names (renamed_definition names d) e (apart_first names d e k)) f (renamed names q f).0 top
        (reads names q f) (definitions names q f) (trees names q f news rules rules' named h.tree) h;
  };
  definitions = definitions;
  apart_first = apart_first;
  apart_second = apart_second;
}
