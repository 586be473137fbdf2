-- Wires that carry an environment in which every combinational equation holds.
use Rattle.std.specs.Prelude.{◌≡◌, ℕ, ◌<◌, ◌≤◌, true, cond, List, length, ℤ}
use Rattle.std.proofs.Common.{◌∙◌, ap, arith}
use Rattle.std.proofs.lemmas.Bool.{lt-ltb}
use Rattle.design_ir.specs.declared.ids.ExprId.{ExprId}
use Rattle.design_ir.specs.declared.process.DesignProcess.{DesignProcess}
use Rattle.design_ir.specs.PoolRules.{IsPool}
use Rattle.design_ir.specs.Values.{form, num, signal_form}
use Rattle.design_ir.specs.Put.{put}
use Rattle.design_ir.specs.Circuits.{Circuit, at}
use Rattle.design_ir.specs.Designs.{IsUsable, IsDesign}
use Rattle.design_ir.proofs.NumbersFit.{FitsSignals, has_shape, num_fits}
use Rattle.rtlil_text.specs.History.{Wires}
use Rattle.netlist_laws.specs.Operators.{nothing}
use Rattle.netlist_laws.specs.Carried.{Carries}
use Rattle.netlist_laws.specs.Latest.{Latest, latest_of}
use Rattle.netlist_laws.specs.Module.{signal_value, expr_value, driving, Driving, at_first, at_last, bits_at_last, driving_drawing, signal_drawing}
use Rattle.netlist_laws.proofs.Reading.{Reads}
use Rattle.netlist_laws.proofs.Drawn.{form_sign}
use Rattle.netlist_laws.proofs.PutSources.{IsSourced, IsShown, put_sourced}
use Rattle.netlist_laws.proofs.OneDriver.{IsOnly}
use Rattle.netlist_laws.proofs.Driven.{driven_by}
use Rattle.netlist_laws.proofs.SourcedSpecs.{reads_sources, held_sourced}
use Rattle.netlist_laws.specs.Plain.{ArePlain}
use Rattle.netlist_laws.proofs.PlainProcesses.{process_plain, process_given}

-- ---- what expressions carry

pub shown : (wires : Wires) (c : Circuit) (env : List ℤ) (e : ExprId) → IsPool c.pool → FitsSignals c.pool env → e.0 < length c.pool.exprs → Carries wires (expr_value c e.0) (num c.pool env e.0) → IsShown wires (expr_value c e.0) (num c.pool env e.0)
shown wires c env e rules fit there carried = record {
  carried = carried;
  fits = num_fits c.pool env rules fit e there;
  sign = form_sign (form c.pool e.0) (has_shape c.pool env rules fit e there);
}

-- the wire of each expression that a process may read carries its integer
abbrev pub Shows : Wires → Circuit → List ℤ → Type 0
Shows wires c env = (e : ExprId) → IsUsable c e → Carries wires (expr_value c e.0) (num c.pool env e.0)

-- ---- the drawing of a signal with bits

pub signal_drawing-some : (c : Circuit) (s : ℕ) (d : Driving) → 1 ≤ (signal_form c.pool.signals s).width → driving c s ≡ d → signal_drawing c s ≡ driving_drawing c s d
signal_drawing-some c s d h e =
    ap (λ t. cond t (driving_drawing c s (driving c s)) nothing) (lt-ltb 0 (signal_form c.pool.signals s).width (omega arith)) ∙ ap (driving_drawing c s) e

-- ---- the processes of a design on wires that show its expressions

module _ (wires : Wires) (c : Circuit) (env : List ℤ) (design : IsDesign c) (rules : IsPool c.pool) (plain : ArePlain c) (fit : FitsSignals c.pool env) (shows : Shows wires c env) where
  -- what a process leaves of a signal that it alone drives
  pub process_sourced : (s : ℕ) (p : DesignProcess) (latest : Latest) (cur : List ℤ) → IsOnly (driven_by c) s c.processes p → length cur ≡ length c.pool.signals → IsSourced wires c.pool latest cur s
      → IsSourced wires c.pool (latest_of c.pool (expr_value c) p.body latest) (put c.pool env p.body cur) s
  process_sourced s p latest cur o count h =
      put_sourced wires c.pool env (expr_value c) p.body latest cur s (process_plain c design plain s p o)
      (process_given c design plain s p o (λ (e : ExprId). IsShown wires (expr_value c e.0) (num c.pool env e.0)) (λ e u. shown wires c env e rules fit u.there (shows e u))) count h

  -- a register's next number, from the one that its wire carries
  pub reads_next : (s : ℕ) (p : DesignProcess) (x : ℤ) (cur : List ℤ) → IsOnly (driven_by c) s c.processes p → Carries wires (signal_value c s) x → at cur s ≡ x → length cur ≡ length c.pool.signals
      → Reads wires (bits_at_last c true p s) (signal_form c.pool.signals s).width (at (put c.pool env p.body cur) s)
  reads_next s p x cur o carried is count =
      let h : IsSourced wires c.pool (at_last c true p) (put c.pool env p.body cur) s = process_sourced s p (at_first c true) cur o count (held_sourced wires c s cur x carried is) in
      reads_sources wires (at_last c true p s) (signal_form c.pool.signals s).width (at (put c.pool env p.body cur) s) h.bits
