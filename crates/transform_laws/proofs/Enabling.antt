-- A tree whose statements and memory ports an enable inserter gates is a tree of modules of the pool that it got.
use Rattle.std.proofs.Common.{◌≡◌, ℕ, suc, IsTrue, List, [], ◌∷◌, ◌++◌, map, length, Option, Some, None, slice_get, refl, sym, ap, ◌∙◌, arith, length-append}
use Rattle.std.specs.Prelude.{max, option_and_then, option_map, pos}
use Rattle.std.specs.List.{AllByRecursion}
use Rattle.shape_rules.specs.Forms.{Form, common, unsigned}
use Rattle.design_ir.specs.declared.ids.ExprId.{ExprId}
use Rattle.design_ir.specs.declared.expr.Expr.{Expr}
use Rattle.design_ir.specs.declared.expr.Expr.TheVariants.{Const, Mux}
use Rattle.design_ir.specs.declared.memory.MemWrite.{MemWrite}
use Rattle.design_ir.specs.declared.memory.MemRead.{MemRead}
use Rattle.design_ir.specs.declared.memory.Memory.{Memory}
use Rattle.design_ir.specs.declared.process.Side.{Side}
use Rattle.design_ir.specs.declared.process.Side.TheVariants.{Comb, Clocked}
use Rattle.design_ir.specs.declared.process.Process.{Process}
use Rattle.design_ir.specs.Forests.{Leaf}
use Rattle.design_ir.specs.Trees.{Block, arm, choose, none}
use Rattle.design_ir.specs.Pools.{Pooled}
use Rattle.design_ir.specs.PoolRules.{IsPool, expr_added}
use Rattle.design_ir.specs.Values.{form}
use Rattle.design_ir.specs.Targets.{is_open_target}
use Rattle.design_ir.specs.Guards.{block_exprs, statement_exprs}
use Rattle.design_ir.specs.Rows.{granules}
use Rattle.design_ir.specs.Designs.{IsTransparent}
use Rattle.design_ir.proofs.Equations.{form_is, place_below}
use Rattle.flat_design.specs.Growing.{IsMore}
use Rattle.flat_design.proofs.Growing.{form_more, get_kept, more_added, more_refl, more_trans}
use Rattle.fragment_walks.specs.Held.{leaf_exprs}
use Rattle.fragment_walks.specs.Reads.{block_targets, statement_targets}
use Rattle.fragment_walks.proofs.Lists.{all_imp, all_joined, all_mapped, length_map, map_map}
use Rattle.clock_domains.specs.Resolvable.{IsClockingOf, IsMemoryOf, IsModule, IsOpenSide, IsReadOf, IsShaped, IsThere, IsWriteOf}
use Rattle.domain_transforms.specs.declared.controls.Control.{Control}
use Rattle.domain_transforms.specs.Controlled.{control_of}
use Rattle.domain_transforms.specs.Enabling.{enabled_leaf, enabled_memory, enabled_process, enabled_read, enabled_write, gated, gated_by, gated_option, side_control, under, zero_of}
use Rattle.domain_transforms.specs.Making.{each_in}
use Rattle.domain_transforms.specs.Placed.{AreControls, OptionBelow}
use Rattle.domain_transforms.proofs.GateLaws.{get_last}
use Rattle.domain_transforms.proofs.PlacedLaws.{control_below}
use Rattle.transform_laws.specs.Laws.{AreNamedResets}
use Rattle.transform_laws.proofs.Blocks.{exprs_under, targets_under}
use Rattle.transform_laws.proofs.Carried.{AreOpen, memory_carried, port_domains, read_carried, side_from, side_targets, transparent_carried, write_carried}
use Rattle.transform_laws.proofs.Growth.{carried_more, definition_stays, open_stays, shaped_more, stands_more, there_stays}
use Rattle.transform_laws.proofs.Making.{each_adds, each_keeps, each_same, each_stands}
use Rattle.transform_laws.proofs.Resets.{held_named}

-- ---- what is kept of a pool that gets constants and choices

module _ (K : Pooled → Type 0) (with_constant : (p : Pooled) (f : Form) → K p → K (expr_added p (Const (pos 0) f))) (with_choice : (p : Pooled) (s a b : ExprId) → K p → K (expr_added p (Mux s a b))) where
  gate_keeps : (o : Option ExprId) (p : Pooled) (e : ExprId) → K p → K (gated_by o p e).1
  gate_keeps None p e h = h
  gate_keeps (Some c) p e h = with_choice (zero_of p e) c e (record { 0 = length p.exprs }) (with_constant p (form p e.0) h)

  option_keeps : (o : Option ExprId) (p : Pooled) (e : Option ExprId) → K p → K (gated_option o p e).1
  option_keeps o p None h = h
  option_keeps o p (Some e) h = gate_keeps o p e h

  module _ (controls : List Control) where
    memory_keeps : (p : Pooled) (m : Memory) → K p → K (enabled_memory controls p m).1
    memory_keeps p m h =
        each_keeps K (enabled_read controls) (λ x r k. option_keeps (option_and_then (control_of controls) r.domain) x r.enable k) (each_in (enabled_write controls) p m.writes).1 m.reads
        (each_keeps K (enabled_write controls) (λ x w k. gate_keeps (control_of controls w.domain) x w.enable k) p m.writes h)

    pub leaf_keeps : (p : Pooled) (l : Leaf) → K p → K (enabled_leaf controls p l).1
    leaf_keeps p l h = each_keeps K (enabled_memory controls) memory_keeps p l.memories h

module _ (controls : List Control) where
  writes_add : (p : Pooled) (w : MemWrite) → IsMore p (enabled_write controls p w).1
  writes_add p w = gate_keeps (IsMore p) (λ x f k. more_trans p x (expr_added x (Const (pos 0) f)) k (more_added x (Const (pos 0) f))) (λ x s a b k. more_trans p x (expr_added x (Mux s a b)) k (more_added x (Mux s a b))) (control_of controls w.domain) p w.enable (more_refl p)

  reads_add : (p : Pooled) (r : MemRead) → IsMore p (enabled_read controls p r).1
  reads_add p r =
      option_keeps (IsMore p) (λ x f k. more_trans p x (expr_added x (Const (pos 0) f)) k (more_added x (Const (pos 0) f))) (λ x s a b k. more_trans p x (expr_added x (Mux s a b)) k (more_added x (Mux s a b))) (option_and_then (control_of controls) r.domain) p r.enable (more_refl p)

  memories_add : (p : Pooled) (m : Memory) → IsMore p (enabled_memory controls p m).1
  memories_add p m =
      let ws : List MemWrite × Pooled = each_in (enabled_write controls) p m.writes in
      more_trans p ws.1 (each_in (enabled_read controls) ws.1 m.reads).1 (each_adds (enabled_write controls) writes_add p m.writes) (each_adds (enabled_read controls) reads_add ws.1 m.reads)

  pub leaves_add : (p : Pooled) (l : Leaf) → IsMore p (enabled_leaf controls p l).1
  leaves_add p l = each_adds (enabled_memory controls) memories_add p l.memories

-- ---- what stands over the pool in the end

common_self : (k : ℕ) → common (unsigned k) (unsigned k) ≡ unsigned k
common_self k = ap unsigned (let e : max k k ≡ k = omega arith in e)

pub side_below : (n : ℕ) (controls : List Control) (s : Side) → AreControls n controls → OptionBelow n (side_control controls s)
side_below n controls Comb h = tt
side_below n controls (Clocked name) h = control_below n controls name h

module _ (controls : List Control) (q r : Pooled) (rules : IsPool q) (rules' : IsPool r) (more : IsMore q r) (there : AreControls (length q.exprs) controls) where
  -- an enable that is gated has the shape that it had
  gate_shaped : (o : Option ExprId) (p : Pooled) (e : ExprId) (k : ℕ) → IsMore q p → IsMore (gated_by o p e).1 r → IsShaped q (unsigned k) e → IsShaped r (unsigned k) (gated_by o p e).0
  gate_shaped None p e k before after h = shaped_more q r rules more (unsigned k) e h
  gate_shaped (Some c) p e k before after h =
      let n : ℕ = length p.exprs in
      let made : Pooled = (gated p c e).1 in
      let constant : Expr = Const (pos 0) (form p e.0) in
      let choice : Expr = Mux c e (record { 0 = n }) in
      let count : length (p.exprs ++ constant ∷ []) ≡ suc n = omega (arith, length-append p.exprs (constant ∷ [])) in
      let last : slice_get made.exprs (suc n) ≡ Some choice = ap (slice_get made.exprs) (sym count) ∙ get_last (p.exprs ++ constant ∷ []) choice in
      let before_last : slice_get made.exprs n ≡ Some constant = get_kept (p.exprs ++ constant ∷ []) (choice ∷ []) n (omega (arith, count)) ∙ get_last p.exprs constant in
      let choice_here : slice_get r.exprs (suc n) ≡ Some choice = stands_more made r (suc n) choice after last in
      let constant_here : slice_get r.exprs n ≡ Some constant = stands_more made r n constant after before_last in
      let zero_shape : form r n ≡ unsigned k = form_is r n constant rules' constant_here ∙ form_more q p rules before e.0 h.there ∙ h.shape in
      let own_shape : form r e.0 ≡ unsigned k = form_more q r rules more e.0 h.there ∙ h.shape in
      record {
        there = place_below r.exprs (suc n) choice choice_here;
        shape = form_is r (suc n) choice rules' choice_here ∙ ap (λ (f : Form). common f (form r n)) own_shape ∙ ap (λ (f : Form). common (unsigned k) f) zero_shape ∙ common_self k;
      }

  clocking_stands : (o : Option ExprId) (p : Pooled) (name : Option (List ℕ)) (e : Option ExprId) → IsMore q p → IsMore (gated_option o p e).1 r → IsClockingOf q name e → IsClockingOf r name (gated_option o p e).0
  clocking_stands o p None None before after h = tt
  clocking_stands o p None (Some e) before after h = h
  clocking_stands o p (Some d) None before after h = h
  clocking_stands o p (Some d) (Some e) before after h = (h.0, gate_shaped o p e 1 before after h.1)

  -- ---- memories

  same_name : (name : Option (List ℕ)) (m : Memory) (ks : List ℕ) → AllByRecursion (IsTransparent m (option_map (λ n. n) name)) ks → AllByRecursion (IsTransparent m name) ks
  same_name None m ks h = h
  same_name (Some d) m ks h = h

  module _ (p : Pooled) (m : Memory) (before : IsMore q p) (after : IsMore (enabled_memory controls p m).1 r) (h : IsMemoryOf q m) where
    abbrev ws : List MemWrite × Pooled
    ws = each_in (enabled_write controls) p m.writes

    abbrev rs : List MemRead × Pooled
    rs = each_in (enabled_read controls) ws.1 m.reads

    abbrev made : Memory
    made = (enabled_memory controls p m).0

    same_domains : port_domains ws.0 ≡ map (λ n. n) (port_domains m.writes)
    same_domains = each_same (enabled_write controls) (λ (w : MemWrite). w.domain) (λ (w : MemWrite). w.domain) (λ x w. refl) p m.writes ∙ sym (map_map (λ (w : MemWrite). w.domain) (λ n. n) m.writes)

    same_count : length rs.0 ≡ length m.reads
    same_count =
        sym (length_map (λ (x : MemRead). x.word) rs.0) ∙ ap length (each_same (enabled_read controls) (λ (x : MemRead). x.word) (λ (x : MemRead). x.word) (λ x y. refl) ws.1 m.reads)
        ∙ length_map (λ (x : MemRead). x.word) m.reads

    writes_grow : IsMore p ws.1
    writes_grow = each_adds (enabled_write controls) (writes_add controls) p m.writes

    write_stands : (x : Pooled) (w : MemWrite) → IsMore q x → IsMore (enabled_write controls x w).1 r → IsWriteOf q m w → IsWriteOf r made (enabled_write controls x w).0
    write_stands x w begun ended k =
        write_carried q r more.signals m ws.0 rs.0 w w.domain w.addr w.word (gated_by (control_of controls w.domain) x w.enable).0 k.domain (carried_more q r rules more w.addr k.addr.there) (carried_more q r rules more w.word k.word.there)
        (gate_shaped (control_of controls w.domain) x w.enable (granules m w) begun ended k.enable) k

    read_stands : (x : Pooled) (y : MemRead) → IsMore q x → IsMore (enabled_read controls x y).1 r → IsReadOf q m y → IsReadOf r made (enabled_read controls x y).0
    read_stands x y begun ended k =
        let o : Option ExprId = option_and_then (control_of controls) y.domain in
        read_carried q r more.signals m ws.0 rs.0 y y.domain y.addr (gated_option o x y.enable).0 (carried_more q r rules more y.addr k.addr.there) (clocking_stands o x y.domain y.enable begun ended k.clocking)
        (same_name y.domain made y.transparent (transparent_carried (λ n. n) m ws.0 rs.0 same_domains y.domain y.transparent k.transparent)) k

    memory_stands : IsMemoryOf r made
    memory_stands =
        memory_carried (λ n. n) q r m ws.0 rs.0 same_domains same_count
        (each_stands q r (enabled_write controls) (writes_add controls) (IsWriteOf q m) (IsWriteOf r made) write_stands p m.writes before (more_trans ws.1 rs.1 r (each_adds (enabled_read controls) (reads_add controls) ws.1 m.reads) after) h.writes)
        (each_stands q r (enabled_read controls) (reads_add controls) (IsReadOf q m) (IsReadOf r made) read_stands ws.1 m.reads (more_trans q p ws.1 before writes_grow) after h.reads) h

  -- ---- statements

  body_stands : (o : Option ExprId) (b : Block) → OptionBelow (length q.exprs) o → AllByRecursion (IsThere q) (block_exprs b) → AreOpen q (block_targets b) → AllByRecursion (IsThere r) (block_exprs (under o b)) × AreOpen r (block_targets (under o b))
  body_stands None b low here aims = (there_stays q r rules more (block_exprs b) here, all_imp (open_stays q r rules more) (block_targets b) aims)
  body_stands (Some c) b low here aims = (
    all_joined (IsThere r) (statement_exprs (choose (arm c b none))) [] (exprs_under (IsThere r) c b (carried_more q r rules more c low).0 (there_stays q r rules more (block_exprs b) here)) tt,
    all_joined (λ k. IsTrue (is_open_target r k)) (statement_targets (choose (arm c b none))) [] (targets_under (λ k. IsTrue (is_open_target r k)) c b (all_imp (open_stays q r rules more) (block_targets b) aims)) tt,
  )

  side_stands : (s : Process) → IsOpenSide q s → IsOpenSide r (enabled_process controls s)
  side_stands s h =
      let o : Option ExprId = side_control controls s.side in
      let b = body_stands o s.body (side_below (length q.exprs) controls s.side there) h.expressions (side_targets q s h) in
      side_from r s.side (under o s.body) h.side b.0 b.1

  -- ---- modules

  pub leaf_stands : AreNamedResets r → (p : Pooled) (l : Leaf) → IsMore q p → IsMore (enabled_leaf controls p l).1 r → IsModule q l → IsModule r (enabled_leaf controls p l).0
  leaf_stands named p l before after h = record {
    domains = all_imp (definition_stays q r rules more) l.domains h.domains;
    memories = each_stands q r (enabled_memory controls) (memories_add controls) (IsMemoryOf q) (IsMemoryOf r) (λ x m begun ended k. memory_stands x m begun ended k) p l.memories before after h.memories;
    processes = all_mapped (IsOpenSide r) (enabled_process controls) l.processes (all_imp side_stands l.processes h.processes);
    resets = held_named r (leaf_exprs (enabled_leaf controls p l).0) named;
  }
