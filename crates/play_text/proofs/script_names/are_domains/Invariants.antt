use Rattle.std.proofs.Common.{◌≡◌}
use Rattle.std.specs.Option.{option_map}
use Rattle.std.specs.List.{list_all}
use Rattle.play_text.specs.Script.{is_domain, words_in}
use Rattle.play_text.specs.ScriptParts.{words_behind, behind_size}
use Rattle.play_text.proofs.script_names.are_domains.Given as goal

abbrev pub invariant-loop-rest : goal.invariant-loop-rest
invariant-loop-rest l = list_all (is_domain l.board) (words_behind (option_map (λ r. r.now) l.rest)) ≡ list_all (is_domain l.board) (words_in l.words)

abbrev pub decreases-loop-rest : goal.decreases-loop-rest
decreases-loop-rest l = behind_size (option_map (λ r. r.now) l.rest)
