-- The number of a signal that a port without a clock gives, in an environment in which every combinational equation holds.
use Rattle.std.specs.Prelude.{◌≡◌, ◌<◌, List, map, length, ℤ, None, fold}
use Rattle.std.proofs.Common.{sym, ap, ◌∙◌, arith}
use Rattle.design_ir.specs.declared.memory.MemRead.{MemRead}
use Rattle.design_ir.specs.declared.memory.Memory.{Memory}
use Rattle.design_ir.specs.Circuits.{Circuit, State, at}
use Rattle.design_ir.specs.Designs.{IsDesign}
use Rattle.design_ir.specs.Rows.{row_at}
use Rattle.design_ir.specs.Settled.{starts, comb_process, Settled}
use Rattle.comb_graph.proofs.DeltaBits.{processes_length}
use Rattle.netlist_laws.proofs.Driven.{driven_by}
use Rattle.netlist_laws.proofs.ReadOnce.{words_of, distinct_right}
use Rattle.netlist_laws.proofs.ReadData.{Located, comb_reads-at}
use Rattle.netlist_laws.proofs.Starts.{length-starts}

module _ (c : Circuit) (env : List ℤ) (design : IsDesign c) (st : State) (settled : Settled c st env) where
  begin : List ℤ
  begin = starts c st 0 c.pool.signals

  -- what the processes leave, before the reads
  behind : List ℤ
  unfolding begin
  behind = fold (comb_process c.pool env) begin c.processes

  pub settled_read : (m : Memory) (rows : List ℤ) (r : MemRead) → Located c.memories st.rows m rows r → r.domain ≡ None → r.word.0 < length c.pool.signals → at env r.word.0 ≡ row_at c.pool env rows r.addr
  unfolding begin behind
  settled_read m rows r located none there =
      let long : length behind ≡ length c.pool.signals = processes_length c.pool env c.processes begin ∙ length-starts c st 0 c.pool.signals in
      ap (λ xs. at xs r.word.0) (sym settled)
      ∙ comb_reads-at c.pool env c.memories st.rows m rows r behind (distinct_right (map (driven_by c) c.processes) (words_of c.memories) design.one_driver) located none (omega (arith, long, there))
