use Rattle.std.proofs.Common.{◌≡◌, true, take}
use Rattle.std.specs.List.{list_all}
use Rattle.play_text.specs.Script.{words_in}
use Rattle.play_text.specs.ScriptParts.{is_named_once}
use Rattle.play_text.proofs.ScriptEdgeLaws.{named_among}
use Rattle.play_text.proofs.script_edge.once_each.Given as goal

abbrev pub invariant-loop-number : goal.invariant-loop-number
invariant-loop-number l = record {
  clocks : l.clocks ≡ named_among (words_in l.words) (take l.number l.domains);
  once : list_all (is_named_once (words_in l.words)) (take l.number l.domains) ≡ true;
}
