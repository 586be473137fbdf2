-- A tree that an enable inserter gates can be resolved where the tree before could.
use Rattle.std.proofs.Common.{◌≡◌, List, [], ◌∷◌, ◌++◌, map, length, refl, sym, ap, ◌∙◌}
use Rattle.std.specs.Prelude.{pos}
use Rattle.design_ir.specs.declared.expr.Expr.TheVariants.{Const, Mux}
use Rattle.design_ir.specs.declared.domain.DomainDef.{DomainDef}
use Rattle.design_ir.specs.declared.memory.MemRead.{MemRead}
use Rattle.design_ir.specs.declared.memory.Memory.{Memory}
use Rattle.design_ir.specs.declared.fragment.Fragment.{Fragment}
use Rattle.design_ir.specs.Pools.{Pooled}
use Rattle.design_ir.specs.PoolRules.{IsPool}
use Rattle.flat_design.specs.Growing.{IsMore}
use Rattle.flat_design.proofs.Growing.{more_refl, more_trans}
use Rattle.fragment_walks.specs.Reads.{data_signals}
use Rattle.fragment_walks.specs.Walks.{all_definitions, all_memories}
use Rattle.fragment_walks.proofs.Lists.{all_joined}
use Rattle.clock_domains.specs.Resolvable.{IsTree}
use Rattle.domain_transforms.specs.declared.controls.Control.{Control}
use Rattle.domain_transforms.specs.Enabling.{enabled, enabled_leaf, enabled_memory, enabled_read, enabled_write}
use Rattle.domain_transforms.specs.Making.{each_in}
use Rattle.domain_transforms.specs.Placed.{AreControls}
use Rattle.transform_laws.specs.Laws.{AreNamedResets, EnabledTrees, IsNamedExpr}
use Rattle.transform_laws.proofs.Definitions.{fragment_data, fragment_definitions, own_data, resolvable_from}
use Rattle.transform_laws.proofs.Enabling.{leaf_keeps, leaf_stands, leaves_add}
use Rattle.transform_laws.proofs.GrowthLaws.{same_mapped}
use Rattle.transform_laws.proofs.Making.{each_same, fragment_keeps, fragment_stands}

module _ (controls : List Control) where
  memory_data : (p : Pooled) (m : Memory) → own_data (enabled_memory controls p m).0 ≡ own_data m
  memory_data p m = each_same (enabled_read controls) (λ (r : MemRead). r.word.0) (λ (r : MemRead). r.word.0) (λ x r. refl) (each_in (enabled_write controls) p m.writes).1 m.reads

  memories_data : (p : Pooled) (ms : List Memory) → data_signals (each_in (enabled_memory controls) p ms).0 ≡ data_signals ms
  memories_data p [] = refl
  memories_data p (m ∷ ms) =
      let next : Pooled = (enabled_memory controls p m).1 in
      ap (λ xs. xs ++ data_signals (each_in (enabled_memory controls) next ms).0) (memory_data p m) ∙ ap (λ xs. own_data m ++ xs) (memories_data next ms)

  module _ (q : Pooled) (f : Fragment) where
    pools : IsMore q (enabled controls q f).1
    pools = fragment_keeps (IsMore q) (enabled_leaf controls) (λ p l k. more_trans q p (enabled_leaf controls p l).1 k (leaves_add controls p l)) q f (more_refl q)

    resets : AreNamedResets q → AreNamedResets (enabled controls q f).1
    resets named =
        fragment_keeps AreNamedResets (enabled_leaf controls)
        (leaf_keeps AreNamedResets (λ p s k. all_joined IsNamedExpr p.exprs (Const (pos 0) s ∷ []) k (tt, tt)) (λ p s a b k. all_joined IsNamedExpr p.exprs (Mux s a b ∷ []) k (tt, tt)) controls) q f named

    trees : AreControls (length q.exprs) controls → IsPool q → IsPool (enabled controls q f).1 → AreNamedResets q → IsTree q f → IsTree (enabled controls q f).1 (enabled controls q f).0
    trees there rules rules' named h =
        let r : Pooled = (enabled controls q f).1 in
        fragment_stands q r (enabled_leaf controls) (leaves_add controls) (λ p l. refl) (λ p l before after k. leaf_stands controls q r rules rules' pools there (resets named) p l before after k) q f (more_refl q) (more_refl r) h

    reads : data_signals (all_memories (enabled controls q f).0) ≡ data_signals (all_memories f)
    reads = fragment_data (enabled_leaf controls) (λ p l. memories_data p l.memories) q f

    definitions : all_definitions (enabled controls q f).0 ≡ map (λ d. d) (all_definitions f)
    definitions = fragment_definitions (enabled_leaf controls) (λ (d : DomainDef). d) (λ p l. same_mapped l.domains) q f

pub enabled_trees : EnabledTrees
enabled_trees = record {
  keeps = λ controls. record {
    pools = pools controls;
    resets = λ q f there named. resets controls q f named;
    trees = trees controls;
    read_data = reads controls;
    resolvable = λ q f top there rules rules' named h.
        resolvable_from q (enabled controls q f).1 (pools controls q f).signals (λ (d : DomainDef). d) (λ d. refl) (λ d e k. k) f (enabled controls q f).0 top (reads controls q f) (definitions controls q f)
        (trees controls q f there rules rules' named h.tree) h;
  };
  definitions = λ controls q f. definitions controls q f ∙ sym (same_mapped (all_definitions f));
}
