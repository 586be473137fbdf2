use Rattle.std.proofs.Common.{◌≡◌, ◌≤◌, ◌+◌, ◌*◌, drop}
use Rattle.py_lexer.specs.Characters.{past}
use Rattle.py_lexer.proofs.chars.past.Given as goal

abbrev pub invariant-loop-c : goal.invariant-loop-c
invariant-loop-c l = record {
  told : past l.at (drop l.c-index l.cs) ≡ past l.fn.mark l.cs;
  byte : l.at.byte ≤ l.fn.mark.byte + 4 * l.c-index;
  line : l.at.place.line ≤ l.fn.mark.place.line + l.c-index;
  col : l.at.place.col ≤ l.fn.mark.place.col + l.c-index;
}
