-- Small files, whose lines are one word each.
use Rattle.std.proofs.Common.{◌≡◌, ℕ, refl, List, [], ◌∷◌}
use Rattle.std.specs.Prelude.{false, if◌then◌else◌, Option, Some, None, codes}
use Rattle.amh_host.specs.declared.place.Place.{Place}
use Rattle.py_tree.specs.Tree.{Tree, Number}
use Rattle.py_tree.specs.Steps.{Pass, Break, If, While, Steps, steps, branch, no_branch, nothing_else, otherwise}
use Rattle.py_grammar.specs.declared.word.Mark.TheVariants as mark
use Rattle.py_grammar.specs.Words.{word, next_key}
use Rattle.py_grammar.specs.Shapes.{Head, IfHead, ElifHead, ElseHead, WhileHead, LineForm, Simple, Headed}
use Rattle.py_grammar.specs.Blocks.{Line, at_top}
use Rattle.py_grammar.specs.Block_reading.{Stuck, Form, form_at, one_line, deeper, suite, elif_block, else_block, choice, repeat, statement, statements, block, Whole, Refused, program_by}

abbrev here : Place
here = record { line = 1; col = 1 }

abbrev one : Tree
one = Number here 1

abbrev head_form : Head → Option LineForm
head_form h = Some (Headed (h, false) None)

-- each line is read by its first word
abbrev first_word : Form
first_word ws =
    if next_key (codes "pass") ws then Some (Simple (Pass here, false)) else
    if next_key (codes "break") ws then Some (Simple (Break here, false)) else
    if next_key (codes "if") ws then head_form (IfHead here one) else
    if next_key (codes "elif") ws then head_form (ElifHead here one) else
    if next_key (codes "else") ws then head_form (ElseHead here) else
    if next_key (codes "while") ws then head_form (WhileHead here one) else None

abbrev line : ℕ → List ℕ → Line
line indent text = record { indent = indent; words = word (mark.Keyword text) here ∷ [] }

abbrev passing : Steps
passing = steps (Pass here ∷ [])

no_lines : program_by first_word [] ≡ Whole (steps [])
unfolding program_by
no_lines = refl

two_statements : program_by first_word (line 0 (codes "pass") ∷ line 0 (codes "pass") ∷ []) ≡ Whole (steps (Pass here ∷ Pass here ∷ []))
unfolding program_by block statements repeat statement one_line form_at
two_statements = refl

-- the blocks of an `if` stand at any deeper indents
all_branches : program_by first_word (line 0 (codes "if") ∷ line 4 (codes "pass") ∷ line 0 (codes "elif") ∷ line 2 (codes "pass") ∷ line 0 (codes "else") ∷ line 1 (codes "pass") ∷ line 0 (codes "pass") ∷ [])
    ≡ Whole (steps (If here (branch one passing (branch one passing no_branch)) (otherwise passing) ∷ Pass here ∷ []))
unfolding program_by block statements repeat statement one_line form_at suite deeper choice elif_block else_block
all_branches = refl

nested : program_by first_word (line 0 (codes "while") ∷ line 1 (codes "if") ∷ line 2 (codes "break") ∷ line 1 (codes "pass") ∷ [])
    ≡ Whole (steps (While here one (steps (If here (branch one (steps (Break here ∷ [])) no_branch) nothing_else ∷ Pass here ∷ [])) ∷ []))
unfolding program_by block statements repeat statement one_line form_at suite deeper choice elif_block else_block
nested = refl

-- ---- lines that are refused

-- where one block may be nested, the first line of a block within it
too_many_blocks : block first_word 1 at_top 0 (line 0 (codes "while") ∷ line 1 (codes "while") ∷ line 2 (codes "pass") ∷ []) ≡ Stuck (line 2 (codes "pass") ∷ [])
unfolding block statements repeat statement one_line form_at suite deeper
too_many_blocks = refl

indented_first : program_by first_word (line 1 (codes "pass") ∷ []) ≡ Refused (line 1 (codes "pass"))
unfolding program_by block statements repeat statement one_line form_at
indented_first = refl

too_deep : program_by first_word (line 0 (codes "pass") ∷ line 1 (codes "pass") ∷ []) ≡ Refused (line 1 (codes "pass"))
unfolding program_by block statements repeat statement one_line form_at
too_deep = refl

between_two_indents : program_by first_word (line 0 (codes "while") ∷ line 4 (codes "pass") ∷ line 2 (codes "pass") ∷ []) ≡ Refused (line 2 (codes "pass"))
unfolding program_by block statements repeat statement one_line form_at suite deeper
between_two_indents = refl

no_deeper_line : program_by first_word (line 0 (codes "while") ∷ line 0 (codes "pass") ∷ []) ≡ Refused (line 0 (codes "pass"))
unfolding program_by block statements repeat statement one_line form_at suite deeper
no_deeper_line = refl

no_line_behind_head : program_by first_word (line 0 (codes "pass") ∷ line 0 (codes "while") ∷ []) ≡ Refused (line 0 (codes "while"))
unfolding program_by block statements repeat statement one_line form_at suite deeper
no_line_behind_head = refl

break_outside_loop : program_by first_word (line 0 (codes "if") ∷ line 1 (codes "break") ∷ []) ≡ Refused (line 1 (codes "break"))
unfolding program_by block statements repeat statement one_line form_at suite deeper
break_outside_loop = refl

else_behind_while : program_by first_word (line 0 (codes "while") ∷ line 1 (codes "pass") ∷ line 0 (codes "else") ∷ line 1 (codes "pass") ∷ []) ≡ Refused (line 0 (codes "else"))
unfolding program_by block statements repeat statement one_line form_at suite deeper
else_behind_while = refl

elif_behind_else : program_by first_word (line 0 (codes "if") ∷ line 1 (codes "pass") ∷ line 0 (codes "else") ∷ line 1 (codes "pass") ∷ line 0 (codes "elif") ∷ []) ≡ Refused (line 0 (codes "elif"))
unfolding program_by block statements repeat statement one_line form_at suite deeper choice elif_block else_block
elif_behind_else = refl
