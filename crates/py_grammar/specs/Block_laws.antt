-- The laws that tie the reader of files to their grammar.
-- Internal: no rule of the language.
use Rattle.std.specs.Prelude.{◌≡◌, List, ◌++◌}
use Rattle.py_tree.specs.Steps.{Steps}
use Rattle.py_grammar.specs.Blocks.{Line, IsProgram, IsFront, IsRefusedLine}
use Rattle.py_grammar.specs.Block_reading.{Whole, Refused, program}

-- what is read of a file is what its lines stand for
abbrev pub ProgramReadIsDerived : Type 0
ProgramReadIsDerived = (lines : List Line) (body : Steps) → program lines ≡ Whole body → IsProgram lines body

-- lines that stand for a program are read
abbrev pub ProgramDerivedIsRead : Type 0
ProgramDerivedIsRead = (lines : List Line) (body : Steps) → IsProgram lines body → program lines ≡ Whole body

-- lines stand for one program at most
abbrev pub OneProgram : Type 0
OneProgram = (lines : List Line) (body other : Steps) → IsProgram lines body → IsProgram lines other → body ≡ other

-- the line that is refused is the first with which the lines are no front of a program, or the head at their end that wants its block
abbrev pub RefusedIsFirst : Type 0
RefusedIsFirst = (lines : List Line) (line : Line) → program lines ≡ Refused line → IsRefusedLine lines line

-- what stands before a line in the front of a file is such a front itself, so there is one first line that cannot stand there
abbrev pub FrontOfFront : Type 0
FrontOfFront = (before after : List Line) → IsFront (before ++ after) → IsFront before
