use Rattle.comb_graph.specs.Rules.{Adds, word_rules}
use Rattle.comb_graph.proofs.reads.add_word.Given as goal

abbrev pub invariant-loop-bit : goal.invariant-loop-bit
invariant-loop-bit l = Adds l.fn.graph l.graph l.design.pool (word_rules l.design.pool l.word.0 l.fn.address l.bit)
