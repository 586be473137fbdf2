-- A tree whose registers a reset inserter resets is a tree of modules of the pool that it got.
use Rattle.std.proofs.Common.{◌≡◌, ℕ, ◌<◌, IsTrue, List, length, Option, Some, None, slice_get, sym, subst}
use Rattle.std.specs.List.{AllByRecursion, range_with_len}
use Rattle.design_ir.specs.declared.ids.ExprId.{ExprId}
use Rattle.design_ir.specs.declared.expr.Expr.{Expr}
use Rattle.design_ir.specs.declared.expr.Expr.TheVariants as expr
use Rattle.design_ir.specs.declared.process.Process.{Process}
use Rattle.design_ir.specs.Forests.{Leaf}
use Rattle.design_ir.specs.Trees.{Statement, choose, none, arm, Block, block_and}
use Rattle.design_ir.specs.Pools.{Pooled}
use Rattle.design_ir.specs.PoolRules.{IsPool, expr_added}
use Rattle.design_ir.specs.Targets.{is_open_target}
use Rattle.design_ir.specs.Guards.{block_exprs, statement_exprs}
use Rattle.design_ir.proofs.Equations.{place_below}
use Rattle.flat_design.specs.Growing.{IsMore}
use Rattle.flat_design.proofs.Growing.{more_added, more_refl, more_trans}
use Rattle.fragment_walks.specs.Held.{leaf_exprs}
use Rattle.fragment_walks.specs.Reads.{block_targets, statement_targets}
use Rattle.fragment_walks.proofs.Lists.{all_imp, all_joined, all_mapped}
use Rattle.clock_domains.specs.Resolvable.{IsModule, IsOpenSide, IsThere}
use Rattle.domain_transforms.specs.declared.controls.Control.{Control}
use Rattle.domain_transforms.specs.declared.resetting.Register.{Register}
use Rattle.domain_transforms.specs.Enabling.{side_control}
use Rattle.domain_transforms.specs.Making.{each_in}
use Rattle.domain_transforms.specs.Placed.{AreControls, OptionBelow}
use Rattle.domain_transforms.specs.Resetting.{block_in_order, init_statement, reset_leaf, reset_process, reset_process_by, reset_register, reset_registers}
use Rattle.domain_transforms.proofs.GateLaws.{get_last}
use Rattle.domain_transforms.proofs.ResetFragments.{init_targets, targets-and}
use Rattle.domain_transforms.proofs.ResetLaws.{reset_is}
use Rattle.transform_laws.specs.Laws.{AreNamedResets}
use Rattle.transform_laws.proofs.Blocks.{exprs-and, exprs_in_order, exprs_under, targets_under}
use Rattle.transform_laws.proofs.Carried.{AreOpen, side_from, side_targets}
use Rattle.transform_laws.proofs.Enabling.{side_below}
use Rattle.transform_laws.proofs.Growth.{carried_more, definition_stays, memory_stays, open_is, open_stays, stands_more, there_stays}
use Rattle.transform_laws.proofs.Making.{each_adds, each_keeps, each_stands}
use Rattle.transform_laws.proofs.Resets.{all_taken_from, held_named}

-- ---- what is kept of a pool that gets constants

module _ (K : Pooled → Type 0) (with_init : (p : Pooled) (r : Register) → K p → K (expr_added p (expr.Const r.init r.shape))) where
  process_keeps_by : (o : Option ExprId) (p : Pooled) (s : Process) → K p → K (reset_process_by o p s).1
  process_keeps_by None p s h = h
  process_keeps_by (Some c) p s h = each_keeps K init_statement with_init p (reset_registers p s.body) h

  pub leaf_keeps : (controls : List Control) (p : Pooled) (l : Leaf) → K p → K (reset_leaf controls p l).1
  leaf_keeps controls p l h = each_keeps K (reset_process controls) (λ x s k. process_keeps_by (side_control controls s.side) x s k) p l.processes h

inits_add : (p : Pooled) (r : Register) → IsMore p (init_statement p r).1
inits_add p r = more_added p (expr.Const r.init r.shape)

processes_add : (controls : List Control) (p : Pooled) (s : Process) → IsMore p (reset_process controls p s).1
processes_add controls p s = process_keeps_by (IsMore p) (λ x r k. more_trans p x (expr_added x (expr.Const r.init r.shape)) k (inits_add x r)) (side_control controls s.side) p s (more_refl p)

pub leaves_add : (controls : List Control) (p : Pooled) (l : Leaf) → IsMore p (reset_leaf controls p l).1
leaves_add controls p l = each_adds (reset_process controls) (processes_add controls) p l.processes

-- ---- what stands over the pool in the end

module _ (r : Pooled) (rules' : IsPool r) where
  -- a register that is reset, and where it is assigned its init
  record IsAimed (x : Register) : Type 0 where
    there : x.target.0 < length r.exprs
    aim : IsTrue (is_open_target r x.target.0)

  registers_aimed : (p : Pooled) (b : Block) → IsMore p r → AllByRecursion IsAimed (reset_registers p b)
  unfolding reset_registers
  registers_aimed p b more = all_taken_from IsAimed (reset_register p b) (range_with_len 0 (length p.signals)) one
    where
      one : (n : ℕ) (x : Register) → reset_register p b n ≡ Some x → IsAimed x
      one n x is =
          let signal : Expr = expr.Sig (record { 0 = n }) in
          let here : slice_get r.exprs x.target.0 ≡ Some signal = stands_more p r x.target.0 signal more (reset_is p b n x is).target in
          record { there = place_below r.exprs x.target.0 signal here; aim = open_is r x.target.0 signal rules' here }

  init_there : (q p : Pooled) (x : Register) → IsMore q p → IsMore (init_statement p x).1 r → IsAimed x → AllByRecursion (IsThere r) (statement_exprs (init_statement p x).0)
  init_there q p x before after h =
      let constant : Expr = expr.Const x.init x.shape in
      (h.there, (place_below r.exprs (length p.exprs) constant (stands_more (expr_added p constant) r (length p.exprs) constant after (get_last p.exprs constant)), tt))

module _ (controls : List Control) (q r : Pooled) (rules : IsPool q) (rules' : IsPool r) (more : IsMore q r) (there : AreControls (length q.exprs) controls) where
  body_stands : (c : ExprId) (p : Pooled) (b : Block) → c.0 < length q.exprs → IsMore q p → IsMore (each_in init_statement p (reset_registers p b)).1 r → AllByRecursion (IsThere q) (block_exprs b) → AreOpen q (block_targets b)
      → (let reset : Statement = choose (arm c (block_in_order (each_in init_statement p (reset_registers p b)).0) none) in AllByRecursion (IsThere r) (block_exprs (block_and b reset)) × AreOpen r (block_targets (block_and b reset)))
  body_stands c p b low before after here aims =
      let xs : List Register = reset_registers p b in
      let inits : List Statement × Pooled = each_in init_statement p xs in
      let reset : Statement = choose (arm c (block_in_order inits.0) none) in
      let whole : IsMore p r = more_trans p inits.1 r (each_adds init_statement inits_add p xs) after in
      let aimed : AllByRecursion (IsAimed r rules') xs = registers_aimed r rules' p b whole in
      let inside : AllByRecursion (IsThere r) (block_exprs (block_in_order inits.0)) =
      exprs_in_order (IsThere r) inits.0 (each_stands p r init_statement inits_add (IsAimed r rules') (λ s. AllByRecursion (IsThere r) (statement_exprs s)) (λ x y begun ended k. init_there r rules' p x y begun ended k) p xs (more_refl p) after aimed) in
      let at : AreOpen r (block_targets (block_in_order inits.0)) =
      subst (AreOpen r) (sym (init_targets p xs)) (all_mapped (λ k. IsTrue (is_open_target r k)) (λ (x : Register). x.target.0) xs (all_imp (λ (x : Register) (k : IsAimed r rules' x). k.aim) xs aimed)) in (
        subst (AllByRecursion (IsThere r)) (sym (exprs-and b reset))
            (all_joined (IsThere r) (block_exprs b) (statement_exprs reset) (there_stays q r rules more (block_exprs b) here) (exprs_under (IsThere r) c (block_in_order inits.0) (carried_more q r rules more c low).0 inside)),
        subst (AreOpen r) (sym (targets-and b reset))
            (all_joined (λ k. IsTrue (is_open_target r k)) (block_targets b) (statement_targets reset) (all_imp (open_stays q r rules more) (block_targets b) aims) (targets_under (λ k. IsTrue (is_open_target r k)) c (block_in_order inits.0) at)),
      )

  side_stands_by : (o : Option ExprId) (p : Pooled) (s : Process) → OptionBelow (length q.exprs) o → IsMore q p → IsMore (reset_process_by o p s).1 r → IsOpenSide q s → IsOpenSide r (reset_process_by o p s).0
  side_stands_by None p s low before after h = side_from r s.side s.body h.side (there_stays q r rules more (block_exprs s.body) h.expressions) (all_imp (open_stays q r rules more) (block_targets s.body) (side_targets q s h))
  side_stands_by (Some c) p s low before after h =
      let b = body_stands c p s.body low before after h.expressions (side_targets q s h) in
      side_from r s.side (reset_process_by (Some c) p s).0.body h.side b.0 b.1

  pub leaf_stands : AreNamedResets r → (p : Pooled) (l : Leaf) → IsMore q p → IsMore (reset_leaf controls p l).1 r → IsModule q l → IsModule r (reset_leaf controls p l).0
  leaf_stands named p l before after h = record {
    domains = all_imp (definition_stays q r rules more) l.domains h.domains;
    memories = all_imp (memory_stays q r rules more) l.memories h.memories;
    processes =
        each_stands q r (reset_process controls) (processes_add controls) (IsOpenSide q) (IsOpenSide r)
        (λ x s begun ended k. side_stands_by (side_control controls s.side) x s (side_below (length q.exprs) controls s.side there) begun ended k) p l.processes before after h.processes;
    resets = held_named r (leaf_exprs (reset_leaf controls p l).0) named;
  }
