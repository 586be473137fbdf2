-- A tree that can be resolved can be over a pool that grew.
use Rattle.std.proofs.Common.{◌≡◌, List, [], ◌∷◌, map, refl, ap}
use Rattle.design_ir.specs.declared.domain.DomainDef.{DomainDef}
use Rattle.fragment_walks.specs.Walks.{all_definitions}
use Rattle.transform_laws.specs.Laws.{GrownTrees, StandingTrees}
use Rattle.transform_laws.proofs.Definitions.{resolvable_from}
use Rattle.transform_laws.proofs.Growth.{module_stays, modules_stay, tree_stays}
use Rattle.transform_laws.proofs.Resets.{held_named}
use Rattle.transform_laws.proofs.Standing.{tree_there}

pub same_mapped : {A : Type 0} (xs : List A) → xs ≡ map (λ x. x) xs
same_mapped [] = refl
same_mapped (x ∷ xs) = ap (λ ys. x ∷ ys) (same_mapped xs)

pub grown_trees : GrownTrees
grown_trees = record {
  modules = λ q p l rules more h. module_stays q p rules more l h;
  forests = λ q p f rules more h. modules_stay q p rules more f h;
  trees = λ q p f rules more h. tree_stays q p rules more f h;
  resolvable = λ q p f top rules more h. resolvable_from q p more.signals (λ (d : DomainDef). d) (λ d. refl) (λ d e k. k) f f top refl (same_mapped (all_definitions f)) (tree_stays q p rules more f h.tree) h;
}

pub standing_trees : StandingTrees
standing_trees = record { there = tree_there; resets = held_named }
