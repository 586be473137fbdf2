-- The grammar of logical lines: which words stand for which simple statement or head of a compound one, each rule as it
-- stands in the language's reference. Expressions stand in so many brackets at most, and those of parameters and of the
-- arguments of a class in one more.
-- Source: Python reference 7, Simple statements, 8, Compound statements, and 10; a part of them: own rule (docs/RULES.md).
use Rattle.std.specs.Prelude.{◌≡◌, ℕ, suc, Bool, List, [], Option, Some, None, codes}
use Rattle.amh_host.specs.declared.place.Place.{Place}
use Rattle.py_tree.specs.declared.expr.Operator.{Operator}
use Rattle.py_tree.specs.Tree.{Trailer}
use Rattle.py_tree.specs.Steps.{Step, Pass, Break, Continue, Import_name, Parameter, Star}
use Rattle.py_grammar.specs.declared.word.Word.{Word}
use Rattle.py_grammar.specs.declared.word.Kind.TheVariants.{Target as a_target, Expr as an_expr}
use Rattle.py_grammar.specs.Words.{name_of, sign_of, valued}
use Rattle.py_grammar.specs.Forms.{Means, Signed, Keyed, One, ◌▸◌, ◌∣◌, Made, Such, Maybe, Many}
use Rattle.py_grammar.specs.Seen.{Seen, Deep, tuple_seen, call_seen}
use Rattle.py_grammar.specs.Grammar.{Deeper, Within, Items, Args}
use Rattle.py_grammar.specs.Shapes.{return_seen, assert_seen, raise_seen, import_name_seen, dotted_seen, listed, import_seen, assign_seen, annotate_seen, augment_seen, evaluate_seen, augmented_of, named_seen, params_fit, params_seen, Head, if_seen, elif_seen, else_seen, while_seen, for_seen, with_seen, def_seen, class_seen, awaits, Noted, LineForm, Simple as simple_line, headed_seen}

-- a thing, noted with whether `await` stands in its words
pub record Noting {A : Type 0} (D : List Word → A → Type 0) (ws : List Word) (x : A × Bool) : Type 0 where
  pub derived : D ws x.0
  pub noted : x.1 ≡ awaits ws

-- x { "," x }
abbrev pub Commas : {A : Type 0} → Means A → Means (List A)
Commas D = Made listed (D ▸ Many (Signed (codes ",") ▸ D))

abbrev pub Exprs : Deeper → Means Seen
Exprs I = Made tuple_seen (Items (I an_expr))

abbrev pub Targets : Deeper → Means Seen
Targets I = Made tuple_seen (Items (I a_target))

-- ---- simple statements

abbrev pub Dotted : Means (List (List ℕ))
Dotted = Made dotted_seen (One name_of ▸ Many (Signed (codes ".") ▸ One name_of))

abbrev pub Names : Means (List Import_name)
Names = Commas (Made import_name_seen (One name_of ▸ Maybe (Keyed (codes "as") ▸ One name_of)))

-- "*", or names, or names in brackets
abbrev pub Imports : Means (Option (List Import_name))
Imports =
    Made (λ p. None) (Signed (codes "*"))
    ∣ Made (λ names. Some names) Names
    ∣ Made (λ x. Some x.1.0) (Signed (codes "(") ▸ (Names ▸ (Maybe (Signed (codes ",")) ▸ Signed (codes ")"))))

abbrev pub Assignment : Deeper → Means Step
Assignment I = Made assign_seen (Targets I ▸ (Signed (codes "=") ▸ (Many (Targets I ▸ Signed (codes "=")) ▸ Exprs I)))

abbrev pub Annotation : Deeper → Means Step
Annotation I = Made annotate_seen (I a_target ▸ (Signed (codes ":") ▸ (I an_expr ▸ Maybe (Signed (codes "=") ▸ Exprs I))))

abbrev pub Augmented : Deeper → Means Step
Augmented I = Made augment_seen (I a_target ▸ (One (valued sign_of augmented_of) ▸ Exprs I))

abbrev pub SimpleRule : Deeper → Means Step
SimpleRule I =
    Made Pass (Keyed (codes "pass"))
    ∣ Made Break (Keyed (codes "break"))
    ∣ Made Continue (Keyed (codes "continue"))
    ∣ Made return_seen (Keyed (codes "return") ▸ Maybe (Exprs I))
    ∣ Made assert_seen (Keyed (codes "assert") ▸ (I an_expr ▸ Maybe (Signed (codes ",") ▸ I an_expr)))
    ∣ Made raise_seen (Keyed (codes "raise") ▸ I an_expr)
    ∣ Made import_seen (Keyed (codes "from") ▸ (Dotted ▸ (Keyed (codes "import") ▸ Imports)))
    ∣ Assignment I
    ∣ Annotation I
    ∣ Augmented I
    ∣ Made evaluate_seen (Exprs I)

-- ---- heads

-- a parameter with its annotation and its default, or "*"
abbrev pub Param : Deeper → Means Parameter
Param J =
    Made named_seen (One name_of ▸ (Maybe (Signed (codes ":") ▸ J an_expr) ▸ Maybe (Signed (codes "=") ▸ J an_expr)))
    ∣ Made Star (Signed (codes "*"))

abbrev pub Params : Deeper → Means (List Parameter)
Params J = Such params_fit (Made params_seen (Commas (Param J) ▸ Maybe (Signed (codes ","))))

abbrev pub DefRule : Deeper → Deeper → Means Head
DefRule I J =
    Made def_seen (Maybe (Keyed (codes "async")) ▸ (Keyed (codes "def") ▸ (One name_of ▸ (Signed (codes "(") ▸ (Maybe (Params J)
    ▸ (Signed (codes ")") ▸ (Maybe (Signed (codes "->") ▸ I an_expr) ▸ Signed (codes ":"))))))))

-- the bases are written as the arguments of a call
abbrev pub BasesRule : Deeper → Means (Deep Trailer)
BasesRule J = Made (λ x. call_seen x.1.0) (Signed (codes "(") ▸ (Maybe (Args J) ▸ Signed (codes ")")))

abbrev pub HeadRule : Deeper → Deeper → Means Head
HeadRule I J =
    Made if_seen (Keyed (codes "if") ▸ (I an_expr ▸ Signed (codes ":")))
    ∣ Made elif_seen (Keyed (codes "elif") ▸ (I an_expr ▸ Signed (codes ":")))
    ∣ Made else_seen (Keyed (codes "else") ▸ Signed (codes ":"))
    ∣ Made while_seen (Keyed (codes "while") ▸ (I an_expr ▸ Signed (codes ":")))
    ∣ Made for_seen (Keyed (codes "for") ▸ (Targets I ▸ (Keyed (codes "in") ▸ (Exprs I ▸ Signed (codes ":")))))
    ∣ Made with_seen (Keyed (codes "with") ▸ (I an_expr ▸ (Maybe (Keyed (codes "as") ▸ I a_target) ▸ Signed (codes ":"))))
    ∣ DefRule I J
    ∣ Made class_seen (Keyed (codes "class") ▸ (One name_of ▸ (Maybe (BasesRule J) ▸ Signed (codes ":"))))

-- ---- lines

abbrev pub LineRule : Deeper → Deeper → Means LineForm
LineRule I J = Made simple_line (Noting (SimpleRule I)) ∣ Made headed_seen (Noting (HeadRule I J) ▸ Maybe (Noting (SimpleRule I)))

-- what all words of a line stand for, where expressions stand in so many brackets at most
abbrev pub LineOf : ℕ → Means LineForm
LineOf room = LineRule (Within (suc room)) (Within room)
