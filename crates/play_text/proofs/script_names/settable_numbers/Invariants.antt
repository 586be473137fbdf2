use Rattle.std.proofs.Common.{take}
use Rattle.play_text.specs.ScriptParts.{Numbers}
use Rattle.play_text.proofs.script_names.settable_numbers.Given as goal

abbrev pub invariant-loop-number : goal.invariant-loop-number
invariant-loop-number l = Numbers l.numbers (take l.number l.columns)
