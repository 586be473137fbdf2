use Rattle.std.proofs.Common.{◌≡◌, map, drop}
use Rattle.py_tree.specs.Seen.{argument_of}
use Rattle.py_grammar.specs.Seen.{keywords_last}
use Rattle.py_words.proofs.node.keywords_last.Given as goal

abbrev pub invariant-loop-argument : goal.invariant-loop-argument
invariant-loop-argument l = keywords_last l.last (map argument_of (drop l.argument-index l.arguments)) ≡ keywords_last l.seen (map argument_of l.arguments)
