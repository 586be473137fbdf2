-- The laws of whole words: no words follow.
use Rattle.std.proofs.Common.{◌≡◌, ℕ, refl, sym, ap, ◌∙◌, List, [], Some, arith}
use Rattle.std.proofs.lemmas.List.{append-nil}
use Rattle.py_grammar.specs.declared.word.Word.{Word}
use Rattle.py_grammar.specs.declared.word.Kind.{Kind}
use Rattle.py_grammar.specs.declared.word.Kind.TheVariants.{Target as a_target, Unary as a_unary, Not as a_not, Or as an_or, Expr as an_expr}
use Rattle.py_grammar.specs.Readers.{Read}
use Rattle.py_grammar.specs.Seen.{Seen, tuple_seen}
use Rattle.py_grammar.specs.Grammar.{Within, Items}
use Rattle.py_grammar.specs.Reading.{inner, items, begins}
use Rattle.py_grammar.specs.Laws.{Derived_front, ReadIsDerived, DerivedIsRead, OneTree, Exprs, exprs, ExprsReadIsDerived, ExprsDerivedIsRead, ExprsOneTree}
use Rattle.py_grammar.proofs.Exact.{Exact, exact_made, some_same}
use Rattle.py_grammar.proofs.Lists.{After, kind_rank, After_list, exact_items, comma_after}
use Rattle.py_grammar.proofs.Levels.{knows_within}

whole_read : (E : List Word → Type 0) (D : List Word → Seen → Type 0) (rd : Read Seen) → Exact E D rd → E [] → (ws : List Word) (e : Seen) → D ws e → rd ws ≡ Some (e, [])
whole_read E D rd x none ws e d = ap rd (sym (append-nil ws)) ∙ x.complete ws e [] d none

front_read : (E : List Word → Type 0) (D : List Word → Seen → Type 0) (rd : Read Seen) → Exact E D rd → (ws : List Word) (e : Seen) (r : List Word) → rd ws ≡ Some (e, r) → Derived_front D ws e r
front_read E D rd x ws e r h = let f = x.sound ws e r h in record { front = f.front; split = f.split; derived = f.derived }

one_tree : (rd : Read Seen) (ws : List Word) (e f : Seen) → rd ws ≡ Some (e, []) → rd ws ≡ Some (f, []) → e ≡ f
one_tree rd ws e f a b = let u : Seen × List Word = (e, []) in let v : Seen × List Word = (f, []) in ap (λ (z : Seen × List Word). z.0) (some_same u v (sym a ∙ b))

end_of_kind : (k : Kind) → After (kind_rank k) []
end_of_kind a_target = omega arith
end_of_kind a_unary = omega arith
end_of_kind a_not = omega arith
end_of_kind an_or = omega arith
end_of_kind an_expr = omega arith

pub read_is_derived : ReadIsDerived
read_is_derived room k ws e r h = front_read (After (kind_rank k)) (Within room k) (inner room k) ((knows_within room).exact k) ws e r h

pub derived_is_read : DerivedIsRead
derived_is_read room k ws e d = whole_read (After (kind_rank k)) (Within room k) (inner room k) ((knows_within room).exact k) (end_of_kind k) ws e d

pub read_once : OneTree
read_once room k ws e f d g = one_tree (inner room k) ws e f (derived_is_read room k ws e d) (derived_is_read room k ws f g)

exprs_exact : (room : ℕ) → Exact (After_list (After 11) begins) (Exprs room) (exprs room)
exprs_exact room = exact_made (After_list (After 11) begins) tuple_seen (Items (Within room an_expr)) (items (inner room an_expr)) (exact_items (After 11) (Within room an_expr) (inner room an_expr) ((knows_within room).exact an_expr) (comma_after 11 (omega arith)) ((knows_within room).leads an_expr))

end_of_list : After_list (After 11) begins []
unfolding begins
end_of_list = record { ends = omega arith; no_comma = refl; not_begun = refl }

pub exprs_read_is_derived : ExprsReadIsDerived
exprs_read_is_derived room ws e r h = front_read (After_list (After 11) begins) (Exprs room) (exprs room) (exprs_exact room) ws e r h

pub exprs_derived_is_read : ExprsDerivedIsRead
exprs_derived_is_read room ws e d = whole_read (After_list (After 11) begins) (Exprs room) (exprs room) (exprs_exact room) end_of_list ws e d

pub exprs_read_once : ExprsOneTree
exprs_read_once room ws e f d g = one_tree (exprs room) ws e f (exprs_derived_is_read room ws e d) (exprs_derived_is_read room ws f g)
