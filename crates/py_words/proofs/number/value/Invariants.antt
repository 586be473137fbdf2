use Rattle.std.proofs.Common.{◌≡◌, ◌<◌, ◌^◌, drop}
use Rattle.py_lexer.specs.Numbers.{value_from}
use Rattle.py_words.proofs.number.value.Given as goal

abbrev pub invariant-loop-byte : goal.invariant-loop-byte
invariant-loop-byte l = record {
  spelled : value_from l.base l.n (drop l.byte-index l.bytes) ≡ value_from l.base 0 l.bytes;
  narrow : l.n < 2 ^ 128;
}
