use Rattle.std.proofs.Common.{◌≡◌, ◌<◌, ◌^◌, drop}
use Rattle.play_text.specs.Script.{digits_from}
use Rattle.play_text.proofs.script_numbers.number_of.Given as goal

abbrev pub invariant-loop-b : goal.invariant-loop-b
invariant-loop-b l = record {
  number : digits_from l.number (drop l.b-index l.text) ≡ digits_from 0 l.text;
  fits : l.number < 2 ^ 128;
}
