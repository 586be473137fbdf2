-- What a walk over a text owes.
-- Internal: no rule of the language.
use Rattle.std.specs.Prelude.{ℕ, ◌+◌, ◌*◌, ◌≤◌, List, [], Result, length}
use Rattle.amh_host.specs.declared.place.Place.{Place}
use Rattle.py_lexer.specs.declared.line.Line.{Line}
use Rattle.py_lexer.specs.declared.walk.Walk.{Walk}
use Rattle.py_lexer.specs.Characters.{start}
use Rattle.py_lexer.specs.Pieces.{pieces_from}
use Rattle.py_lexer.specs.Lines.{fresh, before, lines_from}

-- before the first character
abbrev pub begun : Walk
begun = record { lines = []; going = fresh; mark = start }

-- the lines so far and those of the rest, or the first fault of the rest
unfoldable pub owed : Walk → List ℕ → Result (List Line) Place
owed w cs = before w.lines (lines_from w.going (pieces_from w.mark 0 cs))

-- the walk has room for so many characters more
pub record HasRoom (w : Walk) (cs : List ℕ) : Type 0 where
  pub byte : w.mark.byte + 4 * length cs ≤ 4194304
  pub line : w.mark.place.line + length cs ≤ 1048577
  pub col : w.mark.place.col + length cs ≤ 1048577
  pub indent : w.going.indent + length cs ≤ 1048576
  pub lines : length w.lines + length cs ≤ 1048576
