use Rattle.std.proofs.Common.{◌≡◌, length}
use Rattle.play_text.proofs.trace_stripes.nowhere.Given as goal

abbrev pub invariant-loop : goal.invariant-loop
invariant-loop l = length l.shown.items ≡ l.counter
