use Rattle.std.proofs.Common.{◌≡◌, ◌≤◌, ◌+◌, length}
use Rattle.play_text.specs.TextLines.{lines_in}
use Rattle.play_text.specs.Script.{events_from, most_bytes, most_events}
use Rattle.play_text.proofs.ScriptEvents.{behind_events}
use Rattle.play_text.proofs.script.read_script.Given as goal

abbrev pub invariant-loop-rest : goal.invariant-loop-rest
invariant-loop-rest l = record {
  lines : l.line + length l.rest ≤ length l.text;
  events : behind_events l.events (events_from l.board (l.line + 1) l.room l.left (lines_in l.rest)) ≡ events_from l.board 1 most_bytes most_events (lines_in l.text);
}

abbrev pub decreases-loop-rest : goal.decreases-loop-rest
decreases-loop-rest l = length l.rest
