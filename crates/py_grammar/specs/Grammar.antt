-- The grammar of expressions: which words stand for which tree, each rule as it stands in the language's reference.
-- What stands inside a bracket is one bracket deeper, and so is each operand of `not`, of a sign before one operand,
-- of `**` and of `if else`; so a rule takes the rules of one bracket deeper, and `Within` counts how many there may be.
-- Source: Python reference 6, Expressions, and 10, Full Grammar specification; a part of them, and the depth: own rule (docs/RULES.md).
use Rattle.std.specs.Prelude.{◌≡◌, ◌==◌, ℕ, zero, suc, Bool, List, Option, Some, None, codes}
use Rattle.amh_host.specs.declared.place.Place.{Place}
use Rattle.py_tree.specs.declared.expr.Operator.{Operator}
use Rattle.py_tree.specs.declared.expr.Operator.TheVariants as op
use Rattle.py_tree.specs.declared.number.Amount.{Amount}
use Rattle.py_tree.specs.Tree.{Tree, Each, Trailer, Argument}
use Rattle.py_grammar.specs.declared.word.Word.{Word}
use Rattle.py_grammar.specs.declared.word.Kind.{Kind}
use Rattle.py_grammar.specs.declared.word.Kind.TheVariants.{Target as a_target, Unary as a_unary, Not as a_not, Or as an_or, Expr as an_expr}
use Rattle.py_grammar.specs.declared.word.Mark.{Mark}
use Rattle.py_grammar.specs.Words.{name_of, keyword_of, sign_of, number_of, decimal_of, string_of, format_of, valued}
use Rattle.py_grammar.specs.Values.{constant_of, unary_of, sign_at, key_at}
use Rattle.py_grammar.specs.Forms.{Means, Signed, Keyed, One, ◌▸◌, ◌∣◌, Made, Such, Maybe, Many}
use Rattle.py_grammar.specs.Seen.{Seen, Deep, Listed, Rest, over, more, all_of, name_seen, constant_seen, decimal_seen, string_seen, format_seen, whole_amount, decimal_amount, number_seen, plain, tuple_seen, round_seen, display_seen, pair_seen, after_comma, dict_seen, each_seen, attribute_seen, starred_seen, keyword_seen, positional_seen, args_fit, call_seen, index_fits, index_seen, bracketed_index, primary_seen, await_seen, power_fits, power_seen, unary_seen, not_seen, link_seen, chain_seen, choice_fits, choice_seen, seen_is_target}

-- the rules of one bracket deeper
abbrev pub Deeper : Type 1
Deeper = Kind → Means Seen

-- x { "," x } [ "," ]
abbrev pub More : {A : Type 0} → Means (Deep A) → Means (Listed A)
More D = Made all_of (Many (Made after_comma (Signed (codes ",") ▸ D))) ▸ Maybe (Signed (codes ","))

abbrev pub Plain : Means Seen → Means (Deep Tree)
Plain D = Made (λ e. (e.tree, e.depth)) D

abbrev pub Items : Means Seen → Means (Seen × Listed Tree)
Items D = D ▸ More (Plain D)

-- "for" targets "in" or [ "if" or ]
abbrev pub Comp : Deeper → Means (Deep Each)
Comp I = Made (λ x. each_seen x.1.0 x.1.1.1.0 x.1.1.1.1) (Keyed (codes "for") ▸ (Made tuple_seen (Items (I a_target)) ▸ (Keyed (codes "in") ▸ (I an_or ▸ Maybe (Keyed (codes "if") ▸ I an_or)))))

-- what follows a first thing in brackets: a comprehension, or more things
abbrev pub Others : {A : Type 0} → Deeper → Means (Deep A) → Means (Rest A)
Others I D = Made over (Comp I) ∣ Made more (More D)

abbrev pub Pair : Deeper → Means (Deep (Tree × Tree))
Pair I = Made pair_seen (I an_expr ▸ (Signed (codes ":") ▸ I an_expr))

abbrev pub AmountOf : Means Amount
AmountOf = Made whole_amount (One number_of) ∣ Made decimal_amount (One decimal_of)

abbrev pub Round : Deeper → Means Seen
Round I = Made (λ x. round_seen x.0 x.1.0) (Signed (codes "(") ▸ (Maybe (Items (I an_expr)) ▸ Signed (codes ")")))

abbrev pub Square : Deeper → Means Seen
Square I = Made (λ x. display_seen x.0 x.1.0) (Signed (codes "[") ▸ (Maybe (I an_expr ▸ Others I (Plain (I an_expr))) ▸ Signed (codes "]")))

abbrev pub Curly : Deeper → Means Seen
Curly I = Made (λ x. dict_seen x.0 x.1.0) (Signed (codes "{") ▸ (Maybe (Pair I ▸ Others I (Pair I)) ▸ Signed (codes "}")))

abbrev pub Atom : Deeper → Means Seen
Atom I =
    Made name_seen (One name_of)
    ∣ Made number_seen (One number_of ▸ Maybe (Signed (codes "/") ▸ AmountOf))
    ∣ Made decimal_seen (One decimal_of)
    ∣ Made string_seen (One string_of)
    ∣ Made format_seen (One format_of)
    ∣ Made constant_seen (One (valued keyword_of constant_of))
    ∣ Round I
    ∣ Square I
    ∣ Curly I

abbrev pub Arg : Deeper → Means (Deep Argument)
Arg I =
    Made starred_seen (Signed (codes "*") ▸ I an_expr)
    ∣ Made keyword_seen (One name_of ▸ (Signed (codes "=") ▸ I an_expr))
    ∣ Made positional_seen (I an_expr)

abbrev pub Args : Deeper → Means (Deep Argument × Rest Argument)
Args I = Such args_fit (Arg I ▸ Others I (Arg I))

-- an expression, or a slice: what is left out of both is refused
abbrev pub IndexRule : Deeper → Means (Deep Trailer)
IndexRule I = Made index_seen (Such index_fits (Maybe (I an_expr) ▸ Maybe (Signed (codes ":") ▸ (Maybe (I an_expr) ▸ Maybe (Signed (codes ":") ▸ Maybe (I an_expr))))))

abbrev pub Trail : Deeper → Means (Deep Trailer)
Trail I =
    Made attribute_seen (Signed (codes ".") ▸ One name_of)
    ∣ Made (λ x. call_seen x.1.0) (Signed (codes "(") ▸ (Maybe (Args I) ▸ Signed (codes ")")))
    ∣ Made bracketed_index (Signed (codes "[") ▸ (IndexRule I ▸ Signed (codes "]")))

abbrev pub Primary : Deeper → Means Seen
Primary I = Made primary_seen (Atom I ▸ Made all_of (Many (Trail I)))

abbrev pub Awaited : Deeper → Means Seen
Awaited I = Made await_seen (Keyed (codes "await") ▸ Primary I) ∣ Primary I

abbrev pub PowerRule : Deeper → ℕ → Means Seen
PowerRule I room = Made power_seen (Such (power_fits room) (Awaited I ▸ Maybe (Signed (codes "**") ▸ I a_unary)))

abbrev pub UnaryRule : Deeper → ℕ → Means Seen
UnaryRule I room = Made unary_seen (One (valued sign_of unary_of) ▸ I a_unary) ∣ PowerRule I room

-- `not in`, `is not` and `is`, which only compare
abbrev pub Worded : Means Operator
Worded =
    Made (λ x. op.NotIn) (Keyed (codes "not") ▸ Keyed (codes "in"))
    ∣ Made (λ x. op.IsNot) (Keyed (codes "is") ▸ Keyed (codes "not"))
    ∣ Made (λ x. op.Is) (Keyed (codes "is"))

-- the operators of a level
abbrev pub Op : ℕ → Means Operator
Op k =
    Made (λ x. x.1) (One (valued sign_of (sign_at k)))
    ∣ Made (λ x. x.1) (One (valued keyword_of (key_at k)))
    ∣ Such (λ x. k == 6) Worded

-- operands with an operator of the level between each two
abbrev pub Chain : ℕ → Means Seen → Means Seen
Chain k D = Made (chain_seen k) (D ▸ Made all_of (Many (Made link_seen (Op k ▸ D))))

-- the levels of arithmetic, and then comparisons
abbrev pub Level : Deeper → ℕ → ℕ → Means Seen
Level I room zero = UnaryRule I room
Level I room (suc k) = Chain k (Level I room k)

abbrev pub NotRule : Deeper → ℕ → Means Seen
NotRule I room = Made not_seen (Keyed (codes "not") ▸ I a_not) ∣ Level I room 7

abbrev pub OrRule : Deeper → ℕ → Means Seen
OrRule I room = Chain 8 (Chain 7 (NotRule I room))

abbrev pub ExprRule : Deeper → ℕ → Means Seen
ExprRule I room = Made choice_seen (Such (choice_fits room) (OrRule I room ▸ Maybe (Keyed (codes "if") ▸ (I an_or ▸ (Keyed (codes "else") ▸ I an_expr)))))

abbrev pub TargetRule : Deeper → Means Seen
TargetRule I = Such seen_is_target (Primary I)

abbrev pub rule : Deeper → ℕ → Kind → Means Seen
rule I room a_target = TargetRule I
rule I room a_unary = UnaryRule I room
rule I room a_not = NotRule I room
rule I room an_or = OrRule I room
rule I room an_expr = ExprRule I room

-- where so many brackets may still be opened, and none means that not even the first thing may stand there
abbrev pub Within : ℕ → Deeper
Within zero k ws e = ⊥
Within (suc room) k ws e = rule (Within room) room k ws e
