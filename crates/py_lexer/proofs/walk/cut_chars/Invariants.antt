use Rattle.std.proofs.Common.{◌≡◌, ◌≤◌, length}
use Rattle.py_lexer.specs.Walks.{begun, owed, HasRoom}
use Rattle.py_lexer.proofs.walk.cut_chars.Given as goal

abbrev pub invariant-loop-rest : goal.invariant-loop-rest
invariant-loop-rest l = record {
  told : owed l.walk l.rest ≡ owed begun l.cs;
  room : HasRoom l.walk l.rest;
  few : length l.rest ≤ length l.cs;
}

abbrev pub decreases-loop-rest : goal.decreases-loop-rest
decreases-loop-rest l = length l.rest
