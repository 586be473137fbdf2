use Rattle.std.proofs.Common.{◌≡◌, ◌*◌, ℕ, List, length, take}
use Rattle.design_ir.specs.Statements.{block_of}
use Rattle.netlist_laws.specs.Latest.{Latest, latest_of}
use Rattle.netlist_laws.specs.Module.{expr_value}
use Rattle.netlist.specs.Tables.{Shows}
use Rattle.netlist.proofs.sources.give_block.Given as goal

abbrev pub invariant-loop-s : goal.invariant-loop-s
invariant-loop-s l = record {
  long : length l.bits.items ≡ length l.design.pool.signals * 128;
  given :
      (ids : ℕ → List ℕ) (latest : Latest) → Shows ids (length l.design.pool.signals) l.initial.bits.items latest
      → Shows ids (length l.design.pool.signals) l.bits.items (latest_of l.design.pool (expr_value l.design) (block_of (take l.s-index l.s-items)) latest);
}
