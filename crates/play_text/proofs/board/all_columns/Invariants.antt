use Rattle.std.proofs.Common.{◌≡◌, ◌++◌, drop, map}
use Rattle.play_text.specs.Boards.{shown_of}
use Rattle.play_text.proofs.board.all_columns.Given as goal

abbrev pub invariant-loop-i : goal.invariant-loop-i
invariant-loop-i l = l.columns ++ map (shown_of l.design) (drop l.i l.design.columns) ≡ map (shown_of l.design) l.design.columns
