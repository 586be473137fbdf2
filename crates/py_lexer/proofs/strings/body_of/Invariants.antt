use Rattle.std.proofs.Common.{◌≡◌, ◌+◌, length}
use Rattle.py_lexer.specs.Strings.{string_from}
use Rattle.py_lexer.proofs.strings.body_of.Given as goal

abbrev pub invariant-loop-rest : goal.invariant-loop-rest
invariant-loop-rest l = record {
  told : string_from l.style l.passed 0 l.rest ≡ string_from l.style 0 0 l.cs;
  split : l.passed + length l.rest ≡ length l.cs;
}

abbrev pub decreases-loop-rest : goal.decreases-loop-rest
decreases-loop-rest l = length l.rest
