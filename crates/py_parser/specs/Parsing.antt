-- The program of a text whose logical lines are known.
-- Source: Python reference 9.2, File input; the refused line and its place: own rule (docs/RULES.md).
use Rattle.std.specs.Prelude.{◌≡◌, ℕ, List, map, slice_get, Some, Result, Ok, Err}
use Rattle.amh_host.specs.declared.place.Place.{Place}
use Rattle.py_lexer.specs.declared.line.Line.{Line as Cut_line}
use Rattle.py_tree.specs.declared.stmt.Program.{Program}
use Rattle.py_tree.specs.Programs.{program_of}
use Rattle.py_grammar.specs.Blocks.{Line, IsProgram, IsRefusedLine}
use Rattle.py_parser.specs.declared.parsing.ParseStop.{ParseStop}
use Rattle.py_parser.specs.declared.parsing.ParseStop.TheVariants as stops
use Rattle.py_words.specs.Words_of.{words_of}

-- a logical line of a text: its indent, and the words that its tokens spell
abbrev pub words_line : List ℕ → Cut_line → Line
words_line text l = record { indent = l.indent; words = words_of text l.tokens }

abbrev pub file_lines : List ℕ → List Cut_line → List Line
file_lines text lines = map (words_line text) lines

-- the line that is refused begins at this place
pub record IsRefusedAt (text : List ℕ) (lines : List Cut_line) (place : Place) : Type 0 where
  pub number : ℕ
  pub line : Cut_line
  pub there : slice_get lines number ≡ Some line
  pub begins : place ≡ line.place
  pub refused : IsRefusedLine (file_lines text lines) (words_line text line)

-- the lines stand for the program, or the line that begins there is the one that is refused, or memory ran out
abbrev pub IsParsed : List ℕ → List Cut_line → Result Program ParseStop → Type 0
IsParsed text lines (Ok p) = IsProgram (file_lines text lines) (program_of p)
IsParsed text lines (Err (stops.Subset place)) = IsRefusedAt text lines place
IsParsed text lines (Err stops.NoMemory) = Unit {0}
