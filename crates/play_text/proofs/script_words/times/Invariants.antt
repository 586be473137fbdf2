use Rattle.std.proofs.Common.{◌≡◌, ◌≤◌, ◌+◌, length}
use Rattle.std.specs.Prelude.{count_by, bytes_eq}
use Rattle.std.specs.Option.{option_map}
use Rattle.play_text.specs.Script.{words_in}
use Rattle.play_text.specs.ScriptParts.{words_behind, behind_size}
use Rattle.play_text.proofs.script_words.times.Given as goal

abbrev pub invariant-loop-rest : goal.invariant-loop-rest
invariant-loop-rest l = record {
  few : l.count + behind_size (option_map (λ r. r.now) l.rest) ≤ length l.fn.text + 1;
  count : l.count + count_by (bytes_eq l.word) (words_behind (option_map (λ r. r.now) l.rest)) ≡ count_by (bytes_eq l.word) (words_in l.fn.text);
}

abbrev pub decreases-loop-rest : goal.decreases-loop-rest
decreases-loop-rest l = behind_size (option_map (λ r. r.now) l.rest)
