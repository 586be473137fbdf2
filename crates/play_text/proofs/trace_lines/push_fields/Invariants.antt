use Rattle.std.proofs.Common.{◌≡◌, ◌++◌, drop}
use Rattle.play_text.specs.Trace.{all_fields}
use Rattle.play_text.proofs.trace_lines.push_fields.Given as goal

abbrev pub invariant-loop-x : goal.invariant-loop-x
invariant-loop-x l = l.text.items ++ all_fields (drop l.x-index l.columns) l.env ≡ l.fn.text.items ++ all_fields l.columns l.env
