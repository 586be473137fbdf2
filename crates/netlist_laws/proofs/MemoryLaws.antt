-- What is proved of the cells and the drawings of memories, together.
use Rattle.memory_cells.specs.Laws.{RowsBegin, RowsFollow, ReadsFollow, GuardsFollow, SpreadsCarry}
use Rattle.netlist_laws.specs.PortLaws.{WritePortsAreMade, CombReadsAreMade, WordsAreShown}
use Rattle.netlist_laws.proofs.KeptReadSteps.{ReadLaws}

pub record MemoryLaws : Type 0 where
  pub begin : RowsBegin
  pub follow : RowsFollow
  pub spreads : SpreadsCarry
  pub rows : ReadsFollow
  pub guards : GuardsFollow
  pub writes : WritePortsAreMade
  pub comb : CombReadsAreMade
  pub reads : ReadLaws
  pub shown : WordsAreShown
