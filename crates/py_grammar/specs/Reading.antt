-- The reader of expressions, by precedence: the words that come next tell each choice, so nothing is read twice.
-- Internal: no rule of the language.
use Rattle.std.specs.Prelude.{nat_lt, if◌then◌else◌, ◌≡◌, ◌==◌, ◌||◌, ◌&&◌, is_some, not, ℕ, zero, suc, Bool, true, false, List, [], ◌∷◌, Option, Some, None, codes}
use Rattle.lists.specs.Texts.{text_eq}
use Rattle.amh_host.specs.declared.place.Place.{Place}
use Rattle.py_tree.specs.declared.expr.Operator.{Operator}
use Rattle.py_tree.specs.declared.expr.Operator.TheVariants as op
use Rattle.py_tree.specs.declared.number.Amount.{Amount}
use Rattle.py_tree.specs.Tree.{Tree, Each, Trailer, Argument}
use Rattle.py_grammar.specs.declared.word.Word.{Word}
use Rattle.py_grammar.specs.declared.word.Mark.{Mark}
use Rattle.py_grammar.specs.declared.word.Mark.TheVariants as mark
use Rattle.py_grammar.specs.Words.{name_of, keyword_of, sign_of, number_of, decimal_of, string_of, format_of, valued, next, next_sign, next_key, is_text}
use Rattle.py_grammar.specs.Values.{constant_of, unary_of, sign_at, key_at}
use Rattle.py_grammar.specs.Readers.{Read, ◌>>=◌, one, sign, key, ◌▹◌, made, choose, maybe, such, many, fails}
use Rattle.py_grammar.specs.Seen.{Seen, Deep, Listed, Rest, over, more, and_one, name_seen, constant_seen, decimal_seen, string_seen, format_seen, whole_amount, decimal_amount, number_seen, plain, tuple_seen, round_seen, display_seen, pair_seen, after_comma, dict_seen, each_seen, attribute_seen, starred_seen, keyword_seen, positional_seen, args_fit, call_seen, index_fits, index_seen, bracketed_index, primary_seen, await_seen, power_fits, power_seen, unary_seen, not_seen, link_seen, chain_seen, choice_fits, choice_seen, seen_is_target}
use Rattle.py_grammar.specs.declared.word.Kind.{Kind}
use Rattle.py_grammar.specs.declared.word.Kind.TheVariants.{Target as a_target, Unary as a_unary, Not as a_not, Or as an_or, Expr as an_expr}

-- the readers of one bracket deeper
abbrev pub Inner : Type 0
Inner = Kind → Read Seen

-- whether a word of this mark can be the first of an expression
abbrev pub opens : List ℕ → Bool
opens text = text_eq text (codes "(") || text_eq text (codes "[") || text_eq text (codes "{") || is_some (unary_of text)

abbrev pub leads : List ℕ → Bool
leads text = text_eq text (codes "not") || text_eq text (codes "await") || is_some (constant_of text)

unfoldable pub begins_mark : Mark → Bool
begins_mark (mark.Name text) = true
begins_mark (mark.Keyword text) = leads text
begins_mark (mark.Number n) = true
begins_mark (mark.Decimal d) = true
begins_mark (mark.Str text) = true
begins_mark (mark.Format pieces) = true
begins_mark (mark.Sign text) = opens text
begins_mark mark.Other = false

unfoldable pub begins : List Word → Bool
begins = next begins_mark

unfoldable pub begins_argument : List Word → Bool
begins_argument ws = next_sign (codes "*") ws || begins ws

-- a comma, and then words that pass the test
unfoldable pub comma_then : (List Word → Bool) → List Word → Bool
comma_then test [] = false
comma_then test (w ∷ r) = next_sign (codes ",") (w ∷ r) && test r

abbrev pub more_of : {A : Type 0} → (List Word → Bool) → Read (Deep A) → Read (Listed A)
more_of test r = many (comma_then test) (made after_comma (sign (codes ",") ▹ r)) and_one ([], 0) ▹ maybe (next_sign (codes ",")) (sign (codes ","))

abbrev pub plain_of : Read Seen → Read (Deep Tree)
plain_of r = made (λ e. (e.tree, e.depth)) r

unfoldable pub items : Read Seen → Read (Seen × Listed Tree)
items r = r ▹ more_of begins (plain_of r)

abbrev pub if_part : Inner → Read (Option (Place × Seen))
if_part i = maybe (next_key (codes "if")) (key (codes "if") ▹ i an_or)

unfoldable pub comp : Inner → Read (Deep Each)
comp i = made (λ x. each_seen x.1.0 x.1.1.1.0 x.1.1.1.1) (key (codes "for") ▹ (made tuple_seen (items (i a_target)) ▹ (key (codes "in") ▹ (i an_or ▹ if_part i))))

unfoldable pub others : {A : Type 0} → Inner → (List Word → Bool) → Read (Deep A) → Read (Rest A)
others i test r = choose (next_key (codes "for")) (made over (comp i)) (made more (more_of test r))

unfoldable pub pair : Inner → Read (Deep (Tree × Tree))
pair i = made pair_seen (i an_expr ▹ (sign (codes ":") ▹ i an_expr))

unfoldable pub amount : Read Amount
amount = choose (next (λ m. is_some (number_of m))) (made whole_amount (one number_of)) (made decimal_amount (one decimal_of))

unfoldable pub number : Read Seen
number = made number_seen (one number_of ▹ maybe (next_sign (codes "/")) (sign (codes "/") ▹ amount))

-- brackets are empty where the closing one comes next
abbrev pub inside : {A : Type 0} → List ℕ → Read A → Read (Option A)
inside close r = maybe (λ ws. not (next_sign close ws)) r

unfoldable pub round : Inner → Read Seen
round i = made (λ x. round_seen x.0 x.1.0) (sign (codes "(") ▹ (inside (codes ")") (items (i an_expr)) ▹ sign (codes ")")))

abbrev pub square_inside : Inner → Read (Seen × Rest Tree)
square_inside i = i an_expr ▹ others i begins (plain_of (i an_expr))

unfoldable pub square : Inner → Read Seen
square i = made (λ x. display_seen x.0 x.1.0) (sign (codes "[") ▹ (inside (codes "]") (square_inside i) ▹ sign (codes "]")))

abbrev pub curly_inside : Inner → Read (Deep (Tree × Tree) × Rest (Tree × Tree))
curly_inside i = pair i ▹ others i begins (pair i)

unfoldable pub curly : Inner → Read Seen
curly i = made (λ x. dict_seen x.0 x.1.0) (sign (codes "{") ▹ (inside (codes "}") (curly_inside i) ▹ sign (codes "}")))

unfoldable pub bracketed : Inner → Read Seen
bracketed i = choose (next_sign (codes "(")) (round i) (choose (next_sign (codes "[")) (square i) (curly i))

abbrev pub atom_by : Inner → Mark → Read Seen
atom_by i (mark.Name text) = made name_seen (one name_of)
atom_by i (mark.Number n) = number
atom_by i (mark.Decimal d) = made decimal_seen (one decimal_of)
atom_by i (mark.Str text) = made string_seen (one string_of)
atom_by i (mark.Format pieces) = made format_seen (one format_of)
atom_by i (mark.Keyword text) = made constant_seen (one (valued keyword_of constant_of))
atom_by i (mark.Sign text) = bracketed i
atom_by i mark.Other = fails

-- an atom is told by its first word
unfoldable pub atom : Inner → Read Seen
atom i [] = None
atom i (w ∷ r) = atom_by i w.mark (w ∷ r)

unfoldable pub is_named : List Word → Bool
is_named [] = false
is_named (w ∷ r) = is_some (name_of w.mark) && next_sign (codes "=") r

unfoldable pub arg : Inner → Read (Deep Argument)
arg i = choose (next_sign (codes "*"))
    (made starred_seen (sign (codes "*") ▹ i an_expr))
    (choose is_named
    (made keyword_seen (one name_of ▹ (sign (codes "=") ▹ i an_expr)))
    (made positional_seen (i an_expr)))

unfoldable pub args : Inner → Read (Deep Argument × Rest Argument)
args i = such args_fit (arg i ▹ others i begins_argument (arg i))

unfoldable pub perhaps_expr : Inner → Read (Option Seen)
perhaps_expr i = maybe begins (i an_expr)

abbrev pub step : Inner → Read (Option (Place × Option Seen))
step i = maybe (next_sign (codes ":")) (sign (codes ":") ▹ perhaps_expr i)

abbrev pub stop : Inner → Read (Option (Place × (Option Seen × Option (Place × Option Seen))))
stop i = maybe (next_sign (codes ":")) (sign (codes ":") ▹ (perhaps_expr i ▹ step i))

unfoldable pub index : Inner → Read (Deep Trailer)
index i = made index_seen (such index_fits (perhaps_expr i ▹ stop i))

abbrev pub attribute : Read (Deep Trailer)
attribute = made attribute_seen (sign (codes ".") ▹ one name_of)

unfoldable pub call : Inner → Read (Deep Trailer)
call i = made (λ x. call_seen x.1.0) (sign (codes "(") ▹ (inside (codes ")") (args i) ▹ sign (codes ")")))

unfoldable pub indexed : Inner → Read (Deep Trailer)
indexed i = made bracketed_index (sign (codes "[") ▹ (index i ▹ sign (codes "]")))

unfoldable pub trail : Inner → Read (Deep Trailer)
trail i = choose (next_sign (codes ".")) attribute (choose (next_sign (codes "(")) (call i) (indexed i))

unfoldable pub trails : List Word → Bool
trails ws = next_sign (codes ".") ws || next_sign (codes "(") ws || next_sign (codes "[") ws

unfoldable pub primary : Inner → Read Seen
primary i = made primary_seen (atom i ▹ many trails (trail i) and_one ([], 0))

unfoldable pub awaited : Inner → Read Seen
awaited i = choose (next_key (codes "await")) (made await_seen (key (codes "await") ▹ primary i)) (primary i)

unfoldable pub power : Inner → ℕ → Read Seen
power i room = made power_seen (such (power_fits room) (awaited i ▹ maybe (next_sign (codes "**")) (sign (codes "**") ▹ i a_unary)))

unfoldable pub unary : Inner → ℕ → Read Seen
unary i room = choose (next (λ m. is_some (valued sign_of unary_of m)))
    (made unary_seen (one (valued sign_of unary_of) ▹ i a_unary))
    (power i room)

-- `is`, or `is not` where `not` follows
abbrev pub if_not : Option Place → Operator
if_not None = op.Is
if_not (Some p) = op.IsNot

abbrev pub starts_worded : Mark → Bool
starts_worded m = is_text (codes "not") (keyword_of m) || is_text (codes "is") (keyword_of m)

-- an operator of a level at the front, and what is left
unfoldable pub worded : Read Operator
worded = choose (next_key (codes "not"))
    (made (λ x. op.NotIn) (key (codes "not") ▹ key (codes "in")))
    (made (λ x. if_not x.1) (key (codes "is") ▹ maybe (next_key (codes "not")) (key (codes "not"))))

unfoldable pub is_operator : ℕ → List Word → Bool
is_operator k = next (λ m. is_some (valued sign_of (sign_at k) m) || is_some (valued keyword_of (key_at k) m) || (k == 6 && starts_worded m))

unfoldable pub operator : ℕ → Read Operator
operator k = choose (next (λ m. is_some (valued sign_of (sign_at k) m))) (made (λ x. x.1) (one (valued sign_of (sign_at k))))
    (choose (next (λ m. is_some (valued keyword_of (key_at k) m))) (made (λ x. x.1) (one (valued keyword_of (key_at k)))) (such (λ x. k == 6) worded))

unfoldable pub link : ℕ → Read Seen → Read (Deep (Operator × Tree))
link k r = made link_seen (operator k ▹ r)

unfoldable pub chain : ℕ → Read Seen → Read Seen
chain k r = made (chain_seen k) (r ▹ many (is_operator k) (link k r) and_one ([], 0))

unfoldable pub level : Inner → ℕ → ℕ → Read Seen
level i room zero = unary i room
level i room (suc k) = chain k (level i room k)

unfoldable pub negated : Inner → ℕ → Read Seen
negated i room = choose (next_key (codes "not")) (made not_seen (key (codes "not") ▹ i a_not)) (chain 6 (level i room 6))

-- the operands of a level
unfoldable pub operand : Inner → ℕ → ℕ → Read Seen
operand i room k = if nat_lt k 7 then level i room k else if k == 7 then negated i room else chain 7 (negated i room)

unfoldable pub either : Inner → ℕ → Read Seen
either i room = chain 8 (operand i room 8)

abbrev pub choice_part : Inner → Read (Option (Place × (Seen × (Place × Seen))))
choice_part i = maybe (next_key (codes "if")) (key (codes "if") ▹ (i an_or ▹ (key (codes "else") ▹ i an_expr)))

unfoldable pub expr : Inner → ℕ → Read Seen
expr i room = made choice_seen (such (choice_fits room) (either i room ▹ choice_part i))

unfoldable pub target : Inner → Read Seen
target i = such seen_is_target (primary i)

abbrev pub by_kind : Inner → ℕ → Kind → Read Seen
by_kind i room a_target = target i
by_kind i room a_unary = unary i room
by_kind i room a_not = negated i room
by_kind i room an_or = either i room
by_kind i room an_expr = expr i room

-- where so many brackets may still be opened
unfoldable pub inner : ℕ → Inner
inner zero k ws = None
inner (suc room) k ws = by_kind (inner room) room k ws
