use Rattle.std.proofs.Common.{◌≡◌, ◌<◌, ◌^◌, drop}
use Rattle.py_lexer.specs.Numbers.{value_from}
use Rattle.py_lexer.proofs.numbers.value.Given as goal

abbrev pub invariant-loop-c : goal.invariant-loop-c
invariant-loop-c l = record {
  spelled : value_from l.base l.n (drop l.c-index l.digits) ≡ value_from l.base 0 l.digits;
  narrow : l.n < 2 ^ 128;
}
