-- A tree whose registers are reset can be resolved where the tree before could.
use Rattle.std.proofs.Common.{◌≡◌, List, [], ◌∷◌, map, length, refl, sym, ◌∙◌}
use Rattle.design_ir.specs.declared.expr.Expr.TheVariants as expr
use Rattle.design_ir.specs.declared.domain.DomainDef.{DomainDef}
use Rattle.design_ir.specs.declared.fragment.Fragment.{Fragment}
use Rattle.design_ir.specs.Pools.{Pooled}
use Rattle.design_ir.specs.PoolRules.{IsPool}
use Rattle.flat_design.specs.Growing.{IsMore}
use Rattle.flat_design.proofs.Growing.{more_refl, more_trans}
use Rattle.fragment_walks.specs.Reads.{data_signals}
use Rattle.fragment_walks.specs.Walks.{all_definitions, all_memories}
use Rattle.fragment_walks.proofs.Lists.{all_joined}
use Rattle.clock_domains.specs.Resolvable.{IsTree}
use Rattle.domain_transforms.specs.declared.controls.Control.{Control}
use Rattle.domain_transforms.specs.Placed.{AreControls}
use Rattle.domain_transforms.specs.Resetting.{reset_inserted, reset_leaf}
use Rattle.transform_laws.specs.Laws.{AreNamedResets, IsNamedExpr, ResetTrees}
use Rattle.transform_laws.proofs.Definitions.{fragment_data, fragment_definitions, resolvable_from}
use Rattle.transform_laws.proofs.GrowthLaws.{same_mapped}
use Rattle.transform_laws.proofs.Making.{fragment_keeps, fragment_stands}
use Rattle.transform_laws.proofs.Resetting.{leaf_keeps, leaf_stands, leaves_add}

module _ (controls : List Control) (q : Pooled) (f : Fragment) where
  pools : IsMore q (reset_inserted controls q f).1
  pools = fragment_keeps (IsMore q) (reset_leaf controls) (λ p l k. more_trans q p (reset_leaf controls p l).1 k (leaves_add controls p l)) q f (more_refl q)

  resets : AreNamedResets q → AreNamedResets (reset_inserted controls q f).1
  resets named = fragment_keeps AreNamedResets (reset_leaf controls) (leaf_keeps AreNamedResets (λ p r k. all_joined IsNamedExpr p.exprs (expr.Const r.init r.shape ∷ []) k (tt, tt)) controls) q f named

  trees : AreControls (length q.exprs) controls → IsPool q → IsPool (reset_inserted controls q f).1 → AreNamedResets q → IsTree q f → IsTree (reset_inserted controls q f).1 (reset_inserted controls q f).0
  trees there rules rules' named h =
      let r : Pooled = (reset_inserted controls q f).1 in
      fragment_stands q r (reset_leaf controls) (leaves_add controls) (λ p l. refl) (λ p l before after k. leaf_stands controls q r rules rules' pools there (resets named) p l before after k) q f (more_refl q) (more_refl r) h

  reads : data_signals (all_memories (reset_inserted controls q f).0) ≡ data_signals (all_memories f)
  reads = fragment_data (reset_leaf controls) (λ p l. refl) q f

  definitions : all_definitions (reset_inserted controls q f).0 ≡ map (λ d. d) (all_definitions f)
  definitions = fragment_definitions (reset_leaf controls) (λ (d : DomainDef). d) (λ p l. same_mapped l.domains) q f

pub reset_trees : ResetTrees
reset_trees = record {
  keeps = λ controls. record {
    pools = pools controls;
    resets = λ q f there named. resets controls q f named;
    trees = trees controls;
    read_data = reads controls;
    resolvable = λ q f top there rules rules' named h.
        resolvable_from q (reset_inserted controls q f).1 (pools controls q f).signals (λ (d : DomainDef). d) (λ d. refl) (λ d e k. k) f (reset_inserted controls q f).0 top (reads controls q f) (definitions controls q f)
        (trees controls q f there rules rules' named h.tree) h;
  };
  definitions = λ controls q f. definitions controls q f ∙ sym (same_mapped (all_definitions f));
}
