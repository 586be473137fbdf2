-- Designs whose processes are plain: no choice, and fixed targets alone.
use Rattle.std.specs.Prelude.{◌≡◌, ℕ, true}
use Rattle.std.specs.List.{AllByRecursion}
use Rattle.std.proofs.lemmas.Bool.{false≢true, and_parts}
use Rattle.design_ir.specs.declared.ids.ExprId.{ExprId}
use Rattle.design_ir.specs.declared.process.DesignProcess.{DesignProcess}
use Rattle.design_ir.specs.Pools.{Pooled}
use Rattle.design_ir.specs.Trees.{assign, choose, Block, done, next}
use Rattle.design_ir.specs.Guards.{block_exprs}
use Rattle.design_ir.specs.Circuits.{Circuit}
use Rattle.design_ir.specs.Designs.{IsUsable, IsProcess, IsDesign}
use Rattle.netlist_laws.specs.Latest.{is_fixed, is_plain}
use Rattle.netlist_laws.specs.Plain.{ArePlain}
use Rattle.netlist_laws.proofs.PutSources.{AreGiven}
use Rattle.netlist_laws.proofs.OneDriver.{IsOnly, only_holds}
use Rattle.netlist_laws.proofs.Driven.{driven_by}

block_given : (P Q : ExprId → Type 0) (pool : Pooled) (b : Block) → ((e : ExprId) → P e → Q e) → is_plain pool b ≡ true → AllByRecursion P (block_exprs b) → AreGiven Q b
block_given P Q pool done f plain h = tt
block_given P Q pool (next (assign t v p) rest) f plain h = (f v h.1.0, block_given P Q pool rest f (and_parts (is_fixed pool t.0) (is_plain pool rest) plain).1 h.1.1)
block_given P Q pool (next (choose arms) rest) f plain h = absurd (false≢true plain)

module _ (c : Circuit) (design : IsDesign c) (plain : ArePlain c) (s : ℕ) (p : DesignProcess) (only : IsOnly (driven_by c) s c.processes p) where
  pub process_plain : is_plain c.pool p.body ≡ true
  process_plain = only_holds (λ (q : DesignProcess). is_plain c.pool q.body ≡ true) (driven_by c) s c.processes p only plain

  -- what holds of each usable expression holds of those that the process assigns
  pub process_given : (Q : ExprId → Type 0) → ((e : ExprId) → IsUsable c e → Q e) → AreGiven Q p.body
  process_given Q f = block_given (IsUsable c) Q c.pool p.body f process_plain (only_holds (IsProcess c) (driven_by c) s c.processes p only design.processes).expressions
