-- Logical lines are read exactly: the laws of whole lines.
use Rattle.std.proofs.Common.{◌≡◌, ℕ, ◌<◌, refl, sym, ap, subst, ◌∙◌, List, [], ◌∷◌, ◌++◌, Option, Some, None, arith}
use Rattle.std.proofs.lemmas.List.{append-nil}
use Rattle.std.specs.Prelude.{true, false, not, suc, if◌then◌else◌}
use Rattle.py_tree.specs.Steps.{Step}
use Rattle.py_grammar.specs.declared.word.Word.{Word}
use Rattle.py_grammar.specs.declared.word.Kind.{Kind}
use Rattle.py_grammar.specs.Forms.{◌▸◌, Made, Maybe}
use Rattle.py_grammar.specs.Readers.{◌▹◌, made, choose, maybe}
use Rattle.py_grammar.specs.Seen.{Seen, is_empty}
use Rattle.py_grammar.specs.Grammar.{Within}
use Rattle.py_grammar.specs.Reading.{Inner, inner}
use Rattle.py_grammar.specs.Shapes.{Noted, LineForm, Simple as simple_line, headed_seen}
use Rattle.py_grammar.specs.Statements.{SimpleRule, HeadRule, Noting, LineRule, LineOf}
use Rattle.py_grammar.specs.Line_reading.{simple, head, head_next, noting, headed, line, all_read, line_of}
use Rattle.py_grammar.specs.Line_laws.{LineReadIsDerived, LineDerivedIsRead, OneLineForm}
use Rattle.py_grammar.proofs.Exact.{Exact, Any, exact_then, exact_made, exact_choose, exact_maybe, some_same}
use Rattle.py_grammar.proofs.Lists.{Knows, then_first}
use Rattle.py_grammar.proofs.Levels.{knows_within}
use Rattle.py_grammar.proofs.Line_forms.{End, exact_swap, exact_noting}
use Rattle.py_grammar.proofs.Line_ends.{at_end}
use Rattle.py_grammar.proofs.Line_keys.{order, head_not}
use Rattle.py_grammar.proofs.Target_lists.{Knows_targets, targets_within}
use Rattle.py_grammar.proofs.Simple_lines.{Part, simple_part}
use Rattle.py_grammar.proofs.Head_lines.{head_part, head_there}

-- ---- lines

some_words : (ws : List Word) → 0 < order ws → is_empty ws ≡ false
some_words [] h = absurd (omega arith)
some_words (w ∷ ws) h = refl

abbrev Simple_noted : (Kind → List Word → Seen → Type 0) → List Word → Noted Step → Type 0
Simple_noted I = Noting (SimpleRule I)

exact_behind_colon : (I : Kind → List Word → Seen → Type 0) (i : Inner) → Part End 9 (SimpleRule I) (simple i) → Exact End (Maybe (Simple_noted I)) (maybe (λ ws. not (is_empty ws)) (noting (simple i)))
exact_behind_colon I i p = exact_maybe End End (λ ws. not (is_empty ws)) (Simple_noted I) (noting (simple i)) (exact_noting End (SimpleRule I) (simple i) p.exact) (λ r e. e)
    (λ ws s r d e. let h = p.past ws s.0 r d.derived in ap not (some_words (ws ++ r) (omega arith)))
    (λ r e. at_end (λ z. not (is_empty z) ≡ false) refl r e)

abbrev Headed_rule : (I J : Kind → List Word → Seen → Type 0) → List Word → LineForm → Type 0
Headed_rule I J = Made headed_seen (Noting (HeadRule I J) ▸ Maybe (Simple_noted I))

exact_headed : (I J : Kind → List Word → Seen → Type 0) (i j : Inner) → Knows I i → Knows J j → Knows_targets I → Exact End (Headed_rule I J) (headed i j)
unfolding headed
exact_headed I J i j ki kj kt = exact_made End headed_seen (Noting (HeadRule I J) ▸ Maybe (Simple_noted I)) (noting (head i j) ▹ maybe (λ ws. not (is_empty ws)) (noting (simple i)))
    (exact_then Any End (Noting (HeadRule I J)) (Maybe (Simple_noted I)) (noting (head i j)) (maybe (λ ws. not (is_empty ws)) (noting (simple i))) (exact_noting Any (HeadRule I J) (head i j) (head_part I J i j ki kj).exact) (exact_behind_colon I i (simple_part I i ki kt)) (λ us b r d e. tt))

headed_there : (I J : Kind → List Word → Seen → Type 0) (ws : List Word) (f : LineForm) (r : List Word) → Headed_rule I J ws f → head_next (ws ++ r) ≡ true
headed_there I J ws f r d = then_first (λ z. head_next z ≡ true) (Noting (HeadRule I J)) (Maybe (Simple_noted I)) (λ us h r n. head_there I J us h.0 r n.derived) ws d.from r d.derived

exact_line : (I J : Kind → List Word → Seen → Type 0) (i j : Inner) → Knows I i → Knows J j → Knows_targets I → Exact End (LineRule I J) (line i j)
unfolding line
exact_line I J i j ki kj kt =
    let p = simple_part I i ki kt in
    exact_swap End (Headed_rule I J) (Made simple_line (Simple_noted I)) (choose head_next (headed i j) (made simple_line (noting (simple i))))
    (exact_choose End head_next (Headed_rule I J) (Made simple_line (Simple_noted I)) (headed i j) (made simple_line (noting (simple i))) (exact_headed I J i j ki kj kt)
    (exact_made End simple_line (Simple_noted I) (noting (simple i)) (exact_noting End (SimpleRule I) (simple i) p.exact))
    (λ ws f r d e. headed_there I J ws f r d)
    (λ ws f r d e. head_not (ws ++ r) (p.past ws d.from.0 r d.derived.derived)))

-- ---- the laws

line_exact : (room : ℕ) → Exact End (LineOf room) (line (inner (suc room)) (inner room))
line_exact room = exact_line (Within (suc room)) (Within room) (inner (suc room)) (inner room) (knows_within (suc room)) (knows_within room) (targets_within room)

record Read_all (o : Option (LineForm × List Word)) (f : LineForm) : Type 0 where
  is : o ≡ Some (f, [])

none_left : (f g : LineForm) (r : List Word) → (if is_empty r then Some f else None) ≡ Some g → Read_all (Some (f, r)) g
none_left f g [] h = record { is = ap (λ (z : LineForm). Some (z, [])) (some_same f g h) }
none_left f g (w ∷ r) h = cc

all_is : (o : Option (LineForm × List Word)) (f : LineForm) → all_read o ≡ Some f → Read_all o f
all_is None f h = cc
all_is (Some x) f h = none_left x.0 f x.1 h

pub line_read_is_derived : LineReadIsDerived
unfolding line_of
line_read_is_derived room ws f h =
    let a = all_is (line (inner (suc room)) (inner room) ws) f h in
    let d = (line_exact room).sound ws f [] a.is in
    subst (λ z. LineOf room z f) (sym (d.split ∙ append-nil d.front)) d.derived

pub line_derived_is_read : LineDerivedIsRead
unfolding line_of
line_derived_is_read room ws f d = ap (λ z. all_read (line (inner (suc room)) (inner room) z)) (sym (append-nil ws)) ∙ ap all_read ((line_exact room).complete ws f [] d refl)

pub one_line_form : OneLineForm
one_line_form room ws f g d e = some_same f g (sym (line_derived_is_read room ws f d) ∙ line_derived_is_read room ws g e)
