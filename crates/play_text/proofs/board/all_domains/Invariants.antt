use Rattle.std.proofs.Common.{◌≡◌, ◌++◌, drop}
use Rattle.play_text.proofs.board.all_domains.Given as goal

abbrev pub invariant-loop-d : goal.invariant-loop-d
invariant-loop-d l = l.domains ++ drop l.d l.design.domains ≡ l.design.domains
