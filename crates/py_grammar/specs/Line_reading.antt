-- The reader of logical lines: the words that come first tell which statement it is, so nothing is read twice.
-- Internal: no rule of the language.
use Rattle.std.specs.Prelude.{◌≡◌, ℕ, suc, ◌-◌, ◌&&◌, ◌||◌, Bool, true, false, not, is_some, if◌then◌else◌, length, List, [], ◌∷◌, ◌++◌, take, map, Option, Some, None, codes}
use Rattle.amh_host.specs.declared.place.Place.{Place}
use Rattle.py_tree.specs.declared.expr.Operator.{Operator}
use Rattle.py_tree.specs.Tree.{Tree, Trailer, trees}
use Rattle.py_tree.specs.Steps.{Step, Pass, Break, Continue, Assign, Evaluate, Import_name, Parameter, Star}
use Rattle.py_grammar.specs.declared.word.Word.{Word}
use Rattle.py_grammar.specs.declared.word.Kind.TheVariants.{Target as a_target, Expr as an_expr}
use Rattle.py_grammar.specs.Words.{name_of, sign_of, valued, next, next_sign, next_key}
use Rattle.py_grammar.specs.Readers.{Read, ◌>>=◌, one, sign, key, ◌▹◌, made, choose, maybe, such, many}
use Rattle.py_grammar.specs.Seen.{Seen, Deep, Listed, is_empty, is_lone, tuple_seen, call_seen, seen_is_target}
use Rattle.py_grammar.specs.Reading.{Inner, inner, begins, comma_then, items, inside, args}
use Rattle.py_grammar.specs.Shapes.{return_seen, assert_seen, raise_seen, import_name_seen, dotted_seen, listed, import_seen, annotate_seen, augment_seen, evaluate_seen, augmented_of, named_seen, params_fit, params_seen, Head, if_seen, elif_seen, else_seen, while_seen, for_seen, with_seen, def_seen, class_seen, awaits, Noted, LineForm, Simple as simple_line, headed_seen}

-- one more of a list
abbrev pub and_then : {A : Type 0} → List A → A → List A
and_then xs x = xs ++ x ∷ []

unfoldable pub name_next : List Word → Bool
name_next = next (λ m. is_some (name_of m))

-- things with a comma between each two, where the test tells what can follow a comma
abbrev pub commas : {A : Type 0} → (List Word → Bool) → Read A → Read (List A)
commas test r = made listed (r ▹ many (comma_then test) (sign (codes ",") ▹ r) and_then [])

unfoldable pub exprs : Inner → Read Seen
exprs i = made tuple_seen (items (i an_expr))

unfoldable pub targets : Inner → Read Seen
targets i = made tuple_seen (items (i a_target))

-- ---- simple statements

unfoldable pub dotted : Read (List (List ℕ))
dotted = made dotted_seen (one name_of ▹ many (next_sign (codes ".")) (sign (codes ".") ▹ one name_of) and_then [])

unfoldable pub import_name : Read Import_name
import_name = made import_name_seen (one name_of ▹ maybe (next_key (codes "as")) (key (codes "as") ▹ one name_of))

unfoldable pub names : Read (List Import_name)
names = commas name_next import_name

abbrev pub bracketed_names : Read (Option (List Import_name))
bracketed_names = made (λ x. Some x.1.0) (sign (codes "(") ▹ (names ▹ (maybe (next_sign (codes ",")) (sign (codes ",")) ▹ sign (codes ")"))))

unfoldable pub imports : Read (Option (List Import_name))
imports = choose (next_sign (codes "*")) (made (λ p. None) (sign (codes "*"))) (choose (next_sign (codes "(")) bracketed_names (made (λ ns. Some ns) names))

unfoldable pub import : Read Step
import = made import_seen (key (codes "from") ▹ (dotted ▹ (key (codes "import") ▹ imports)))

unfoldable pub returned : Inner → Read Step
returned i = made return_seen (key (codes "return") ▹ maybe begins (exprs i))

unfoldable pub asserted : Inner → Read Step
asserted i = made assert_seen (key (codes "assert") ▹ (i an_expr ▹ maybe (next_sign (codes ",")) (sign (codes ",") ▹ i an_expr)))

unfoldable pub raised : Inner → Read Step
raised i = made raise_seen (key (codes "raise") ▹ i an_expr)

-- ---- statements that begin with expressions

-- of expressions with `=` between each two, whether all but the last are targets
abbrev pub are_assigned : Seen → List (Place × Seen) → Bool
are_assigned e [] = true
are_assigned e (x ∷ xs) = seen_is_target e && are_assigned x.1 xs

abbrev pub assigned_fit : Seen × List (Place × Seen) → Bool
assigned_fit x = are_assigned x.0 x.1

-- their trees, but that of the last, and the last
abbrev pub front_trees : Tree → List (Place × Seen) → List Tree
front_trees t [] = []
front_trees t (x ∷ xs) = t ∷ front_trees x.1.tree xs

abbrev pub last_tree : Tree → List (Place × Seen) → Tree
last_tree t [] = t
last_tree t (x ∷ xs) = last_tree x.1.tree xs

-- one alone is evaluated, and else the last is assigned to the others
abbrev pub assigned_seen : Seen × List (Place × Seen) → Step
assigned_seen x = if is_empty x.1 then evaluate_seen x.0 else Assign x.0.place (trees (front_trees x.0.tree x.1)) (last_tree x.0.tree x.1)

abbrev pub First : Type 0
First = Seen × Listed Tree

-- one target, without a comma
abbrev pub is_one_target : First → Bool
is_one_target x = is_lone x.1 && seen_is_target x.0

unfoldable pub assignment : Inner → Seen → Read Step
assignment i e = made assigned_seen (such assigned_fit (made (λ xs. (e, xs)) (many (next_sign (codes "=")) (sign (codes "=") ▹ exprs i) and_then [])))

unfoldable pub annotation : Inner → Seen → Read Step
annotation i e = made (λ x. annotate_seen (e, x)) (sign (codes ":") ▹ (i an_expr ▹ maybe (next_sign (codes "=")) (sign (codes "=") ▹ exprs i)))

unfoldable pub augmentation : Inner → Seen → Read Step
augmentation i e = made (λ x. augment_seen (e, x)) (one (valued sign_of augmented_of) ▹ exprs i)

unfoldable pub augmented_next : List Word → Bool
augmented_next = next (λ m. is_some (valued sign_of augmented_of m))

-- what follows the first expressions tells what is done with them
unfoldable pub behind_first : Inner → First → Read Step
behind_first i x =
    choose (next_sign (codes ":")) (such (λ s. is_one_target x) (annotation i x.0))
    (choose augmented_next (such (λ s. is_one_target x) (augmentation i x.0)) (assignment i (tuple_seen x)))

unfoldable pub by_first : Inner → Read Step
by_first i ws = items (i an_expr) ws >>= λ x. behind_first i x.0 x.1

unfoldable pub simple : Inner → Read Step
simple i =
    choose (next_key (codes "pass")) (made Pass (key (codes "pass")))
    (choose (next_key (codes "break")) (made Break (key (codes "break")))
    (choose (next_key (codes "continue")) (made Continue (key (codes "continue")))
    (choose (next_key (codes "return")) (returned i)
    (choose (next_key (codes "assert")) (asserted i)
    (choose (next_key (codes "raise")) (raised i)
    (choose (next_key (codes "from")) import (by_first i)))))))

-- ---- heads

unfoldable pub param : Inner → Read Parameter
param j =
    choose (next_sign (codes "*")) (made Star (sign (codes "*")))
    (made named_seen (one name_of ▹ (maybe (next_sign (codes ":")) (sign (codes ":") ▹ j an_expr) ▹ maybe (next_sign (codes "=")) (sign (codes "=") ▹ j an_expr))))

unfoldable pub param_next : List Word → Bool
param_next ws = next_sign (codes "*") ws || name_next ws

unfoldable pub params : Inner → Read (List Parameter)
params j = such params_fit (made params_seen (commas param_next (param j) ▹ maybe (next_sign (codes ",")) (sign (codes ","))))

unfoldable pub definition : Inner → Inner → Read Head
definition i j =
    made def_seen (maybe (next_key (codes "async")) (key (codes "async")) ▹ (key (codes "def") ▹ (one name_of ▹ (sign (codes "(") ▹ (inside (codes ")") (params j)
    ▹ (sign (codes ")") ▹ (maybe (next_sign (codes "->")) (sign (codes "->") ▹ i an_expr) ▹ sign (codes ":"))))))))

unfoldable pub bases_read : Inner → Read (Deep Trailer)
bases_read j = made (λ x. call_seen x.1.0) (sign (codes "(") ▹ (inside (codes ")") (args j) ▹ sign (codes ")")))

unfoldable pub class_head : Inner → Read Head
class_head j = made class_seen (key (codes "class") ▹ (one name_of ▹ (maybe (next_sign (codes "(")) (bases_read j) ▹ sign (codes ":"))))

unfoldable pub with_head : Inner → Read Head
with_head i = made with_seen (key (codes "with") ▹ (i an_expr ▹ (maybe (next_key (codes "as")) (key (codes "as") ▹ i a_target) ▹ sign (codes ":"))))

unfoldable pub for_head : Inner → Read Head
for_head i = made for_seen (key (codes "for") ▹ (targets i ▹ (key (codes "in") ▹ (exprs i ▹ sign (codes ":")))))

-- a keyword, an expression and a colon
unfoldable pub tested : List ℕ → (Place × (Seen × Place) → Head) → Inner → Read Head
tested this f i = made f (key this ▹ (i an_expr ▹ sign (codes ":")))

unfoldable pub head : Inner → Inner → Read Head
head i j =
    choose (next_key (codes "if")) (tested (codes "if") if_seen i)
    (choose (next_key (codes "elif")) (tested (codes "elif") elif_seen i)
    (choose (next_key (codes "else")) (made else_seen (key (codes "else") ▹ sign (codes ":")))
    (choose (next_key (codes "while")) (tested (codes "while") while_seen i)
    (choose (next_key (codes "for")) (for_head i)
    (choose (next_key (codes "with")) (with_head i)
    (choose (next_key (codes "class")) (class_head j) (definition i j)))))))

unfoldable pub head_next : List Word → Bool
head_next ws =
    next_key (codes "if") ws || next_key (codes "elif") ws || next_key (codes "else") ws || next_key (codes "while") ws || next_key (codes "for") ws
    || next_key (codes "with") ws || next_key (codes "class") ws || next_key (codes "async") ws || next_key (codes "def") ws

-- ---- lines

-- a thing, noted with whether `await` stands in the words that were read
abbrev pub noting : {A : Type 0} → Read A → Read (Noted A)
noting r = λ ws. r ws >>= λ x. Some ((x.0, awaits (take (length ws - length x.1) ws)), x.1)

unfoldable pub headed : Inner → Inner → Read LineForm
headed i j = made headed_seen (noting (head i j) ▹ maybe (λ ws. not (is_empty ws)) (noting (simple i)))

unfoldable pub line : Inner → Inner → Read LineForm
line i j = choose head_next (headed i j) (made simple_line (noting (simple i)))

-- what all words of a line stand for
abbrev pub all_read : {A : Type 0} → Option (A × List Word) → Option A
all_read None = None
all_read (Some x) = if is_empty x.1 then Some x.0 else None

unfoldable pub line_of : ℕ → List Word → Option LineForm
line_of room ws = all_read (line (inner (suc room)) (inner room) ws)
