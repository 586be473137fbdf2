-- The wires of the module of a design obey all its drawings.
use Rattle.std.specs.Prelude.{◌≡◌, ℕ, zero, suc, ◌+◌, ◌<◌, nat_lt, false, cond, List, [], ◌∷◌, length, slice_get, Some, All, Contains}
use Rattle.std.specs.List.{AllByRecursion}
use Rattle.std.proofs.Common.{refl, sym, ap, ◌∙◌, arith, subst, inl, inr}
use Rattle.std.proofs.lemmas.Bool.{cond_both, false≢true}
use Rattle.design_ir.specs.declared.ids.DomainId.{DomainId}
use Rattle.design_ir.specs.declared.expr.Expr.{Expr}
use Rattle.design_ir.specs.declared.process.DesignProcess.{DesignProcess}
use Rattle.design_ir.specs.Values.{signal_form}
use Rattle.design_ir.specs.Circuits.{Circuit}
use Rattle.rtlil_text.specs.declared.cell.RtlCell.{RtlCell}
use Rattle.rtlil_text.specs.declared.module.RtlLink.{RtlLink}
use Rattle.rtlil_text.specs.declared.module.RtlModule.{RtlModule}
use Rattle.rtlil_text.specs.Rules.{IsModule}
use Rattle.rtlil_text.specs.Meaning.{Inputs, State, source_value, is_kept, comb_bit, driven_bit}
use Rattle.rtlil_text.specs.History.{wire_bit}
use Rattle.rtlil_text.proofs.Among.{Among, Among-left, Among-slice_get, AllByRecursion-among}
use Rattle.rtlil_text.proofs.Driven.{driver-cell, driver-link}
use Rattle.rtlil_text.proofs.Enough.{wire_bit-driven}
use Rattle.netlist_laws.specs.Ids.{value_id}
use Rattle.netlist_laws.specs.Operators.{Drawing, nothing}
use Rattle.netlist_laws.specs.Carried.{ObeysCell, ObeysLink, Obeys}
use Rattle.netlist_laws.specs.CombDrawings.{ObeysUnkept, ObeysComb}
use Rattle.netlist_laws.specs.Expressions.{part_count, drawn}
use Rattle.netlist_laws.specs.Made.{HasByteStride}
use Rattle.netlist_laws.specs.PoolsDrawn.{IsDrawn}
use Rattle.netlist_laws.specs.Module.{wire_id, signal_value, expr_value, Driving, ByEvents, ByComb, ByClock, ByNothing, driving, register_drawing, driving_drawing, signal_drawing, drawn_from, drawings, other_drawings, all_drawings, module_of, ByRead, Heeding, NoReset, AtEdges, AtOnce, heeding}
use Rattle.netlist_laws.proofs.ModuleHeld.{All-among}
use Rattle.netlist_laws.proofs.ModuleParts.{signal_among, cell_held, link_held}
use Rattle.netlist_laws.proofs.LogicCells.{IsLogic, AreLogic, logic_unkept, logic_bit, drawn_logic}

-- ---- any module

module _ (m : RtlModule) (rules : IsModule m) (kept : State) (inputs : Inputs) where
  pub obeys_link : (l : RtlLink) → Contains m.links l → ObeysLink (wire_bit m kept inputs) l
  obeys_link l among k id i at = wire_bit-driven m kept inputs id i ∙ ap (driven_bit m kept inputs (source_value (wire_bit m kept inputs)) id i) (driver-link m l k id i rules among at)

  pub obeys_logic : (c : RtlCell) → Contains m.cells c → IsLogic c → ObeysCell (wire_bit m kept inputs) c
  obeys_logic c among logic k id i at =
      wire_bit-driven m kept inputs id i
      ∙ ap (driven_bit m kept inputs (source_value (wire_bit m kept inputs)) id i) (driver-cell m c k id i rules among at)
      ∙ ap (λ t. cond t (kept.registers id i) (comb_bit m kept (source_value (wire_bit m kept inputs)) c k c.kind)) (logic_unkept c logic)
      ∙ logic_bit m kept (source_value (wire_bit m kept inputs)) c k c.kind logic

-- ---- the drawings of expressions, by their numbers

-- the first part of expression k, where the first of all is 0
abbrev pub part_start : List Expr → ℕ → ℕ
part_start [] k = 0
part_start (e ∷ es) zero = 0
part_start (e ∷ es) (suc k) = part_count e + part_start es k

drawn_among : (c : Circuit) (k n : ℕ) (es : List Expr) (j : ℕ) (e : Expr) → slice_get es j ≡ Some e → Among (drawn_from c k n es) (drawn (signal_value c) (expr_value c) (n + part_start es j) (expr_value c (k + j)) e)
drawn_among c k n [] j e is = cc
drawn_among c k n (x ∷ es) zero e is =
    let same : x ≡ e = cc in
    let first : n ≡ n + 0 = omega arith in
    let own : k ≡ k + 0 = omega arith in
    inl (λ i. drawn (signal_value c) (expr_value c) (first i) (expr_value c (own i)) (same i))
drawn_among c k n (x ∷ es) (suc j) e is =
    let first : (n + part_count x) + part_start es j ≡ n + (part_count x + part_start es j) = omega arith in
    let own : suc k + j ≡ k + suc j = omega arith in
    inr (subst (λ a. Among (drawn_from c (suc k) (n + part_count x) es) (drawn (signal_value c) (expr_value c) a (expr_value c (k + suc j)) e)) first
    (subst (λ b. Among (drawn_from c (suc k) (n + part_count x) es) (drawn (signal_value c) (expr_value c) ((n + part_count x) + part_start es j) (expr_value c b) e)) own
    (drawn_among c (suc k) (n + part_count x) es j e is)))

pub expression_among : (c : Circuit) (k : ℕ) (e : Expr) → slice_get c.pool.exprs k ≡ Some e → Among (drawings c) (drawn (signal_value c) (expr_value c) (part_start c.pool.exprs k) (expr_value c k) e)
expression_among c k e is =
    let first : 0 + part_start c.pool.exprs k ≡ part_start c.pool.exprs k = omega arith in
    let own : 0 + k ≡ k = omega arith in
    subst (λ a. Among (drawings c) (drawn (signal_value c) (expr_value c) a (expr_value c k) e)) first
    (subst (λ b. Among (drawings c) (drawn (signal_value c) (expr_value c) (0 + part_start c.pool.exprs k) (expr_value c b) e)) own (drawn_among c 0 0 c.pool.exprs k e is))

-- ---- the cells of signals

-- a cell that keeps nothing is one of logic
abbrev IsSimple : RtlCell → Type 0
IsSimple x = is_kept x ≡ false → IsLogic x

register_simple : (c : Circuit) (s : ℕ) (p : DesignProcess) (d : DomainId) (h : Heeding) → AllByRecursion IsSimple (register_drawing c s p d h).cells
register_simple c s p d NoReset = (λ e. absurd (false≢true (sym e)), tt)
register_simple c s p d (AtOnce r) = (λ e. absurd (false≢true (sym e)), tt)
register_simple c s p d (AtEdges r) = (λ e. refl, ((λ e. absurd (false≢true (sym e))), tt))

driving_simple : (c : Circuit) (s : ℕ) (d : Driving) → AllByRecursion IsSimple (driving_drawing c s d).cells
driving_simple c s ByEvents = tt
driving_simple c s (ByComb p) = tt
driving_simple c s (ByClock p d) = register_simple c s p d (heeding c s d)
driving_simple c s ByRead = tt
driving_simple c s ByNothing = tt

signal_simple : (c : Circuit) (s : ℕ) → AllByRecursion IsSimple (signal_drawing c s).cells
signal_simple c s =
    cond_both (nat_lt 0 (signal_form c.pool.signals s).width) (driving_drawing c s (driving c s)) nothing (λ (d : Drawing). AllByRecursion IsSimple d.cells) (λ _. driving_simple c s (driving c s)) (λ _. tt)

-- ---- the module of a design

module _ (c : Circuit) (rules : IsModule (module_of c)) (kept : State) (inputs : Inputs) where
  obeys_links : (d : Drawing) → Among (all_drawings c) d → All (ObeysLink (wire_bit (module_of c) kept inputs)) d.links
  obeys_links d a = All-among (ObeysLink (wire_bit (module_of c) kept inputs)) d.links (λ l b. obeys_link (module_of c) rules kept inputs l (link_held c d l a b))

  pub obeys_drawing : (d : Drawing) → Among (all_drawings c) d → AreLogic d → Obeys (wire_bit (module_of c) kept inputs) d
  obeys_drawing d a logic = record {
    cells = All-among (ObeysCell (wire_bit (module_of c) kept inputs)) d.cells (λ x b. obeys_logic (module_of c) rules kept inputs x (cell_held c d x a b) (AllByRecursion-among IsLogic d.cells x logic b));
    links = obeys_links d a;
  }

  pub obeys_signal : (s : ℕ) → s < length c.pool.signals → ObeysComb (wire_bit (module_of c) kept inputs) (signal_drawing c s)
  obeys_signal s there =
      let d : Drawing = signal_drawing c s in
      let a = signal_among c s there in
      record {
        cells = All-among (ObeysUnkept (wire_bit (module_of c) kept inputs)) d.cells (λ x b e. obeys_logic (module_of c) rules kept inputs x (cell_held c d x a b) (AllByRecursion-among IsSimple d.cells x (signal_simple c s) b e));
        links = obeys_links d a;
      }

  -- all expressions are drawn
  pub all_drawn : AllByRecursion HasByteStride c.pool.exprs → IsDrawn (wire_bit (module_of c) kept inputs) c.pool (wire_id c) value_id (part_start c.pool.exprs)
  all_drawn bytes k e is =
      let d : Drawing = drawn (signal_value c) (expr_value c) (part_start c.pool.exprs k) (expr_value c k) e in
      (AllByRecursion-among HasByteStride c.pool.exprs e bytes (Among-slice_get c.pool.exprs k e is), obeys_drawing d (Among-left (drawings c) (other_drawings c) d (expression_among c k e is)) (drawn_logic (signal_value c) (expr_value c) (part_start c.pool.exprs k) (expr_value c k) e))
