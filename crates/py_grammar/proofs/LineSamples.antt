-- Small lines, and what they stand for, within two brackets: the reader is computed, and its laws say the rest.
use Rattle.std.proofs.Common.{◌≡◌, ℕ, refl, List, [], ◌∷◌, ◌++◌, Some, None}
use Rattle.std.specs.Prelude.{true, false, codes}
use Rattle.amh_host.specs.declared.place.Place.{Place}
use Rattle.py_tree.specs.declared.expr.Operator.TheVariants as op
use Rattle.py_tree.specs.Tree.{Tree, Name, Number, Tuple, Await, some, none, absent, present}
use Rattle.py_tree.specs.Steps.{Pass, Import, ImportAll, Assign, Annotate, Augment, Evaluate, Return, Named, Star}
use Rattle.py_grammar.specs.declared.word.Word.{Word}
use Rattle.py_grammar.specs.declared.word.Mark.TheVariants as mark
use Rattle.py_grammar.specs.Words.{word}
use Rattle.py_grammar.specs.Shapes.{LineForm, Simple, Headed, IfHead, DefHead}
use Rattle.py_grammar.specs.Statements.{LineOf}
use Rattle.py_grammar.specs.Readers.{repeat}
use Rattle.py_grammar.specs.Reading.{begins_mark, begins, begins_argument, comma_then, items, comp, others, pair, amount, number, round, square, curly, bracketed, atom, is_named, arg, args, perhaps_expr, index, call, indexed, trail, trails, primary, awaited, power, unary, worded, is_operator, operator, link, chain, level, negated, operand, either, expr, target, inner}
use Rattle.py_grammar.specs.Line_reading.{name_next, exprs, targets, dotted, import_name, names, imports, import, returned, asserted, raised, assignment, annotation, augmentation, augmented_next, behind_first, by_first, simple, param, param_next, params, definition, bases_read, class_head, with_head, for_head, tested, head, head_next, headed, line, line_of}
use Rattle.py_grammar.proofs.Lines.{line_read_is_derived, line_derived_is_read}

-- ---- words and trees of the samples

abbrev here : Place
here = record { line = 1; col = 1 }

abbrev called : List ℕ → Word
called n = word (mark.Name n) here

abbrev key : List ℕ → Word
key s = word (mark.Keyword s) here

abbrev sign : List ℕ → Word
sign s = word (mark.Sign s) here

abbrev one : Word
one = word (mark.Number 1) here

abbrev x : Word
x = called (codes "x")

abbrev y : Word
y = called (codes "y")

abbrev equals : Word
equals = sign (codes "=")

abbrev colon : Word
colon = sign (codes ":")

abbrev comma : Word
comma = sign (codes ",")

abbrev the_x : Tree
the_x = Name here (codes "x")

abbrev the_y : Tree
the_y = Name here (codes "y")

abbrev the_one : Tree
the_one = Number here 1

-- a definition of f with these words between its brackets, and `return x` behind the colon
abbrev def_f : List Word → List Word
def_f ws = key (codes "def") ∷ called (codes "f") ∷ sign (codes "(") ∷ (ws ++ sign (codes ")") ∷ colon ∷ key (codes "return") ∷ x ∷ [])

-- a call of f with these words between its brackets
abbrev call_f : List Word → List Word
call_f ws = called (codes "f") ∷ sign (codes "(") ∷ (ws ++ sign (codes ")") ∷ [])

-- ---- what a line stands for, and that it stands for nothing

abbrev Stands : List Word → LineForm → Type 0
Stands ws f = LineOf 2 ws f

abbrev Refused : List Word → Type 0
Refused ws = (f : LineForm) → LineOf 2 ws f → ⊥

stands : (ws : List Word) (f : LineForm) → line_of 2 ws ≡ Some f → Stands ws f
stands ws f h = line_read_is_derived 2 ws f h

refused : (ws : List Word) → line_of 2 ws ≡ None → Refused ws
refused ws h f d = let r = line_derived_is_read 2 ws f d in cc

-- ---- simple statements

-- pass
-- x = y = 1
-- x: y
-- x += 1
-- return
-- await x
abbrev Statements_stand : Type 0
Statements_stand =
    Stands (key (codes "pass") ∷ []) (Simple (Pass here, false))
    × Stands (x ∷ equals ∷ y ∷ equals ∷ one ∷ []) (Simple (Assign here (some the_x (some the_y none)) the_one, false))
    × Stands (x ∷ colon ∷ y ∷ []) (Simple (Annotate here the_x the_y absent, false))
    × Stands (x ∷ sign (codes "+=") ∷ one ∷ []) (Simple (Augment here the_x op.Add the_one, false))
    × Stands (key (codes "return") ∷ []) (Simple (Return here absent, false))
    × Stands (key (codes "await") ∷ x ∷ []) (Simple (Evaluate here (Await here the_x), true))

-- from a.b import c as d
-- from a import *
-- x, = y
-- (x, y) = 1
abbrev Targets_stand : Type 0
Targets_stand =
    Stands (key (codes "from") ∷ called (codes "a") ∷ sign (codes ".") ∷ called (codes "b") ∷ key (codes "import") ∷ called (codes "c") ∷ key (codes "as") ∷ called (codes "d") ∷ []) (Simple (Import here (codes "a" ∷ codes "b" ∷ []) (record { place = here; name = codes "c"; bound = Some (codes "d") } ∷ []), false))
    × Stands (key (codes "from") ∷ called (codes "a") ∷ key (codes "import") ∷ sign (codes "*") ∷ []) (Simple (ImportAll here (codes "a" ∷ []), false))
    × Stands (x ∷ comma ∷ equals ∷ y ∷ []) (Simple (Assign here (some (Tuple here (some the_x none)) none) the_y, false))
    × Stands (sign (codes "(") ∷ x ∷ comma ∷ y ∷ sign (codes ")") ∷ equals ∷ one ∷ []) (Simple (Assign here (some (Tuple here (some the_x (some the_y none))) none) the_one, false))

-- ---- heads

-- if x: pass
-- if x:
-- def f(x, y=1, *, z): return x
abbrev Heads_stand : Type 0
Heads_stand =
    Stands (key (codes "if") ∷ x ∷ colon ∷ key (codes "pass") ∷ []) (Headed (IfHead here the_x, false) (Some (Pass here, false)))
    × Stands (key (codes "if") ∷ x ∷ colon ∷ []) (Headed (IfHead here the_x, false) None)
    × Stands (def_f (x ∷ comma ∷ y ∷ equals ∷ one ∷ comma ∷ sign (codes "*") ∷ comma ∷ called (codes "z") ∷ []))
    (Headed (DefHead here (codes "f") false (Named here (codes "x") absent absent ∷ Named here (codes "y") absent (present the_one) ∷ Star here ∷ Named here (codes "z") absent absent ∷ []) absent, false) (Some (Return here (present the_x), false)))

-- ---- lines that stand for nothing

-- f(x=1, y)
-- x, y: 1
-- 1 = x
-- x += y = 1
-- x y
-- from x import y,
abbrev Statements_refused : Type 0
Statements_refused =
    Refused (call_f (x ∷ equals ∷ one ∷ comma ∷ y ∷ []))
    × Refused (x ∷ comma ∷ y ∷ colon ∷ one ∷ [])
    × Refused (one ∷ equals ∷ x ∷ [])
    × Refused (x ∷ sign (codes "+=") ∷ y ∷ equals ∷ one ∷ [])
    × Refused (x ∷ y ∷ [])
    × Refused (key (codes "from") ∷ x ∷ key (codes "import") ∷ y ∷ comma ∷ [])

-- def f(x=1, y): return x
-- def f(*): return x
-- def f(x, x): return x
-- if x
abbrev Heads_refused : Type 0
Heads_refused =
    Refused (def_f (x ∷ equals ∷ one ∷ comma ∷ y ∷ []))
    × Refused (def_f (sign (codes "*") ∷ []))
    × Refused (def_f (x ∷ comma ∷ x ∷ []))
    × Refused (key (codes "if") ∷ x ∷ [])

-- ---- all of them

pub samples : Statements_stand × Targets_stand × Heads_stand × Statements_refused × Heads_refused
unfolding repeat begins_mark begins begins_argument comma_then items comp others pair amount number round square curly bracketed atom is_named arg args perhaps_expr index call indexed trail trails primary awaited power unary worded is_operator operator link chain level negated operand either expr target inner name_next exprs targets dotted import_name names imports import returned asserted raised assignment annotation augmentation augmented_next behind_first by_first simple param param_next params definition bases_read class_head with_head for_head tested head head_next headed line line_of
samples = (
  (stands _ _ refl, stands _ _ refl, stands _ _ refl, stands _ _ refl, stands _ _ refl, stands _ _ refl),
  (stands _ _ refl, stands _ _ refl, stands _ _ refl, stands _ _ refl),
  (stands _ _ refl, stands _ _ refl, stands _ _ refl),
  (refused _ refl, refused _ refl, refused _ refl, refused _ refl, refused _ refl, refused _ refl),
  (refused _ refl, refused _ refl, refused _ refl, refused _ refl),
)
