use Rattle.std.proofs.Common.{◌≡◌, take, drop}
use Rattle.play_text.specs.TextLines.{lines_in}
use Rattle.play_text.proofs.TextLineLaws.{joined_line}
use Rattle.play_text.proofs.text_lines.first_line.Given as goal

abbrev pub invariant-loop-b : goal.invariant-loop-b
invariant-loop-b l = record {
  place : l.end ≡ l.b-index;
  lines : lines_in l.text ≡ joined_line (take l.end l.text) (lines_in (drop l.end l.text));
}
