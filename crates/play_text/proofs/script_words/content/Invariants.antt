use Rattle.std.proofs.Common.{◌≡◌, ◌++◌, take, drop}
use Rattle.play_text.specs.Script.{content}
use Rattle.play_text.proofs.script_words.content.Given as goal

abbrev pub invariant-loop-b : goal.invariant-loop-b
invariant-loop-b l = record {
  place : l.len ≡ l.b-index;
  content : content l.line ≡ take l.len l.line ++ content (drop l.len l.line);
}
