-- The processes of a design, one by one.
use Rattle.std.proofs.Common.{◌≡◌, ◌∙◌, ℕ, zero, suc, ◌+◌, List, [], ◌∷◌, length, sym, ap, subst, arith, take, Some, slice_get}
use Rattle.std.specs.List.{AllByRecursion}
use Rattle.design_ir.specs.declared.ids.ExprId.{ExprId}
use Rattle.design_ir.specs.declared.process.DesignProcess.{DesignProcess}
use Rattle.design_ir.specs.Named.{AllBelow}
use Rattle.design_ir.specs.Guards.{block_exprs}
use Rattle.design_ir.specs.Circuits.{Circuit}
use Rattle.design_ir.specs.Designs.{IsUsable, IsProcess}
use Rattle.design_ir.specs.Pools.{Pooled}
use Rattle.digraph.specs.Graphs.{Digraph}
use Rattle.comb_graph.specs.Rules.{ObeysRules, Adds, all_rules, comb_part, comb_assignments}
use Rattle.digraph.proofs.GraphLists.{some-same}
use Rattle.comb_graph.proofs.GraphBlocks.{adds_then, rules-append}
use Rattle.comb_graph.proofs.GraphRows.{flat_more}

names_of : (c : Circuit) (es : List ExprId) → AllByRecursion (IsUsable c) es → AllBelow (length c.pool.exprs) es
names_of c [] h = tt
names_of c (e ∷ es) h = (h.0.there, names_of c es h.1)

pub process_names : (c : Circuit) (ps : List DesignProcess) (i : ℕ) (p : DesignProcess) → AllByRecursion (IsProcess c) ps → slice_get ps i ≡ Some p → AllBelow (length c.pool.exprs) (block_exprs p.body)
process_names c [] i p h at = absurd cc
process_names c (q ∷ ps) zero p h at = subst (λ (x : DesignProcess). AllBelow (length c.pool.exprs) (block_exprs x.body)) (some-same q p at) (names_of c (block_exprs q.body) h.0.expressions)
process_names c (q ∷ ps) (suc i) p h at = process_names c ps i p h.1 at

pub process_turn : (g h j : Digraph) (pool : Pooled) (ps : List DesignProcess) (i : ℕ) (p : DesignProcess) → slice_get ps i ≡ Some p
    → Adds g h pool (all_rules pool (comb_assignments (take i ps))) → Adds h j pool (all_rules pool (comb_part p)) → Adds g j pool (all_rules pool (comb_assignments (take (i + 1) ps)))
process_turn g h j pool ps i p at a b =
    let split = ap (all_rules pool) (flat_more comb_part ps i p at) ∙ rules-append pool (comb_assignments (take i ps)) (comb_part p) in
    subst (Adds g j pool) (sym split) (adds_then g h j pool (all_rules pool (comb_assignments (take i ps))) (all_rules pool (comb_part p)) a b)

-- a graph without edges
pub obeys_none : (size count : ℕ) → ObeysRules (record { size = size; edges = [] }) count []
obeys_none size count = record {
  into = λ r c among reads. absurd (omega (arith, among.1));
  only = λ n m x below leads inside comes. absurd (omega (arith, leads.1));
}
