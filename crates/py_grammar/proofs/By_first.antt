-- A statement that begins with expressions is read exactly.
use Rattle.std.proofs.Common.{◌≡◌, ◌≤◌, refl, sym, ap, subst, ◌∙◌, List, [], ◌++◌, Option, Some, None, arith, inl, inr}
use Rattle.std.proofs.lemmas.List.{append-nil}
use Rattle.std.specs.Prelude.{true, not, is_some, IsTrue, map, codes}
use Rattle.amh_host.specs.declared.place.Place.{Place}
use Rattle.py_tree.specs.Tree.{Tree}
use Rattle.py_tree.specs.Steps.{Step}
use Rattle.py_grammar.specs.declared.word.Word.{Word}
use Rattle.py_grammar.specs.declared.word.Kind.{Kind}
use Rattle.py_grammar.specs.declared.word.Kind.TheVariants.{Target as a_target, Expr as an_expr}
use Rattle.py_grammar.specs.Words.{sign_of, valued}
use Rattle.py_grammar.specs.Forms.{Signed, One, ◌▸◌, ◌∣◌, Made, Maybe, not_there, Many, no_more, one_more}
use Rattle.py_grammar.specs.Seen.{Seen, Deep, seen_is_target, is_empty, is_lone, tuple_seen}
use Rattle.py_grammar.specs.Grammar.{Items, Plain, More}
use Rattle.py_grammar.specs.Reading.{Inner, begins, items}
use Rattle.py_grammar.specs.Shapes.{augmented_of, evaluate_seen}
use Rattle.py_grammar.specs.Statements.{Exprs, Targets, Assignment, Annotation, Augmented}
use Rattle.py_grammar.specs.Line_reading.{First, is_one_target, assigned_fit, assigned_seen, behind_first, by_first}
use Rattle.py_grammar.proofs.Exact.{Exact, true_is, is_true}
use Rattle.py_grammar.proofs.Ends.{lead, and_first, and_second}
use Rattle.py_grammar.proofs.Lists.{After, Knows, then_first, Item, After_list, exact_items, comma_after}
use Rattle.py_grammar.proofs.Line_forms.{End, exact_same, Next, exact_next}
use Rattle.py_grammar.proofs.Targets.{none_there, all_first}
use Rattle.py_grammar.proofs.Target_lists.{Knows_targets}
use Rattle.py_grammar.proofs.Assigned.{assignment_of, Values_of, values_of}
use Rattle.py_grammar.proofs.Firsts.{Behind, exact_behind, behind_follows}

-- ---- one expression with no comma

many_none : (D : List Word → Deep Tree → Type 0) (us : List Word) (xs : List (Deep Tree)) → Many D us xs → is_empty (map (λ (x : Deep Tree). x.0) xs) ≡ true → us ≡ []
many_none D us xs (no_more) h = refl
many_none D us xs (one_more {ws = vs} {us = ys} {x = x} {xs = zs} d m) h = cc

not_some : (o : Option Place) → not (is_some o) ≡ true → o ≡ None
not_some None h = refl
not_some (Some p) h = cc

lone_items : (D : List Word → Seen → Type 0) (ws : List Word) (x : First) → Items D ws x → is_lone x.1 ≡ true → D ws x.0
lone_items D ws x d h =
    let l = d.second in
    let m = l.first in
    let empty : is_empty (map (λ (y : Deep Tree). y.0) m.from) ≡ true = ap is_empty (sym (ap (λ (z : Deep (List Tree)). z.0) m.is ∙ all_first ([], 0) m.from)) ∙ and_first (is_empty x.1.0.0) (not (is_some x.1.1)) h in
    let front : l.front ≡ [] = many_none (Item (Plain D)) l.front m.from m.derived empty in
    let back : l.back ≡ [] = none_there (Signed (codes ",")) l.back x.1.1 l.second (not_some x.1.1 (and_second (is_empty x.1.0.0) (not (is_some x.1.1)) h)) in
    let all : d.front ≡ ws = sym (d.whole ∙ (ap (λ z. d.front ++ z) (l.whole ∙ (ap (λ z. z ++ l.back) front ∙ back)) ∙ append-nil d.front)) in
    subst (λ z. D z x.0) all d.first

abbrev alone : Seen → First
alone e = (e, (([], 0), None))

items_alone : (D : List Word → Seen → Type 0) (ws : List Word) (e : Seen) → D ws e → Items D ws (alone e)
items_alone D ws e d = record { front = ws; back = []; whole = sym (append-nil ws); first = d; second = record { front = []; back = []; whole = refl; first = record { from = []; derived = no_more; is = refl }; second = not_there } }

-- ---- the grammar's alternatives, and what stands behind the first expressions

abbrev pub Begun : (Kind → List Word → Seen → Type 0) → List Word → Step → Type 0
Begun I = Assignment I ∣ Annotation I ∣ Augmented I ∣ Made evaluate_seen (Exprs I)

assigned_begun : (I : Kind → List Word → Seen → Type 0) (ws : List Word) (s : Step) → (Assignment I ∣ Made evaluate_seen (Exprs I)) ws s → Begun I ws s
assigned_begun I ws s (inl d) = inl d
assigned_begun I ws s (inr d) = inr (inr (inr d))

one_target : (I : Kind → List Word → Seen → Type 0) → Knows_targets I → (ws : List Word) (x : First) → Items (I an_expr) ws x → IsTrue (is_one_target x) → I a_target ws x.0
one_target I kt ws x d p = let h = true_is (is_one_target x) p in kt.as_target ws x.0 (lone_items (I an_expr) ws x d (and_first (is_lone x.1) (seen_is_target x.0) h)) (and_second (is_lone x.1) (seen_is_target x.0) h)

begun_of : (I : Kind → List Word → Seen → Type 0) → Knows_targets I → (front back ws : List Word) (x : First) (s : Step) → ws ≡ front ++ back → Items (I an_expr) front x → Behind I x back s → Begun I ws s
begun_of I kt front back ws x s w d (inl b) = inr (inl record { from = (x.0, b.derived.from); derived = record { front = front; back = back; whole = w; first = one_target I kt front x d b.passes; second = b.derived.derived }; is = b.derived.is })
begun_of I kt front back ws x s w d (inr (inl b)) = inr (inr (inl record { from = (x.0, b.derived.from); derived = record { front = front; back = back; whole = w; first = one_target I kt front x d b.passes; second = b.derived.derived }; is = b.derived.is }))
begun_of I kt front back ws x s w d (inr (inr b)) =
    let m = b.derived.derived in
    let e : Seen = tuple_seen x in
    let fits : assigned_fit (e, m.from) ≡ true = ap assigned_fit (sym m.is) ∙ true_is (assigned_fit b.from) b.derived.passes in
    let is : s ≡ assigned_seen (e, m.from) = b.is ∙ ap assigned_seen m.is in
    subst (λ z. Begun I z s) (sym w) (assigned_begun I (front ++ back) s (assignment_of I kt front back e m.from s (record { from = x; derived = d; is = refl }) m.derived fits is))

alone_is : (I : Kind → List Word → Seen → Type 0) → Knows_targets I → (ws : List Word) (e : Seen) → I a_target ws e → IsTrue (is_one_target (alone e))
alone_is I kt ws e d = is_true (is_one_target (alone e)) (kt.is_one ws e d)

next_of_values : (I : Kind → List Word → Seen → Type 0) (ws : List Word) (s : Step) → Values_of I ws s → Next (Items (I an_expr)) (Behind I) ws s
next_of_values I ws s v =
    let x = v.begun.from in
    let e : Seen = tuple_seen x in
    let fits : assigned_fit (e, v.others) ≡ true = ap (λ (z : Seen). assigned_fit (z, v.others)) (sym v.begun.is) ∙ v.fits in
    let is : s ≡ assigned_seen (e, v.others) = v.is ∙ ap (λ (z : Seen). assigned_seen (z, v.others)) v.begun.is in
    record { before = x; front = v.front; back = v.back; whole = v.whole; first = v.begun.derived; second = inr (inr record { from = (e, v.others); derived = record { derived = record { from = v.others; derived = v.derived; is = refl }; passes = is_true (assigned_fit (e, v.others)) fits }; is = is }) }

next_of_begun : (I : Kind → List Word → Seen → Type 0) → Knows_targets I → (ws : List Word) (s : Step) → Begun I ws s → Next (Items (I an_expr)) (Behind I) ws s
next_of_begun I kt ws s (inl d) = next_of_values I ws s (values_of I kt ws s (inl d))
next_of_begun I kt ws s (inr (inl d)) = let e = d.from.0 in let th = d.derived in record { before = alone e; front = th.front; back = th.back; whole = th.whole; first = items_alone (I an_expr) th.front e (kt.as_expr th.front e th.first); second = inl record { derived = record { from = d.from.1; derived = th.second; is = d.is }; passes = alone_is I kt th.front e th.first } }
next_of_begun I kt ws s (inr (inr (inl d))) = let e = d.from.0 in let th = d.derived in record { before = alone e; front = th.front; back = th.back; whole = th.whole; first = items_alone (I an_expr) th.front e (kt.as_expr th.front e th.first); second = inr (inl record { derived = record { from = d.from.1; derived = th.second; is = d.is }; passes = alone_is I kt th.front e th.first }) }
next_of_begun I kt ws s (inr (inr (inr d))) = next_of_values I ws s (values_of I kt ws s (inr d))

exact_next_first : (I : Kind → List Word → Seen → Type 0) (i : Inner) → Knows I i → Exact End (Next (Items (I an_expr)) (Behind I)) (by_first i)
unfolding by_first
exact_next_first I i kn = exact_next (After_list (After 11) begins) End (Items (I an_expr)) (Behind I) (items (i an_expr)) (behind_first i) (exact_items (After 11) (I an_expr) (i an_expr) (kn.exact an_expr) (comma_after 11 (omega arith)) (kn.leads an_expr)) (exact_behind I i kn) (behind_follows I)

pub exact_by_first : (I : Kind → List Word → Seen → Type 0) (i : Inner) → Knows I i → Knows_targets I → Exact End (Begun I) (by_first i)
exact_by_first I i kn kt = exact_same End (Next (Items (I an_expr)) (Behind I)) (Begun I) (by_first i) (exact_next_first I i kn)
    (λ ws s d. begun_of I kt d.front d.back ws d.before s d.whole d.first d.second)
    (λ ws s d. next_of_begun I kt ws s d)

-- such a statement begins as an expression does
pub exprs_lead : (I : Kind → List Word → Seen → Type 0) (i : Inner) → Knows I i → (ws : List Word) (e : Seen) (r : List Word) → Exprs I ws e → lead (ws ++ r) ≤ 3
exprs_lead I i kn ws e r d = then_first (λ ws. lead ws ≤ 3) (I an_expr) (More (Plain (I an_expr))) (kn.leads an_expr) ws d.from r d.derived

targets_lead : (I : Kind → List Word → Seen → Type 0) (i : Inner) → Knows I i → (ws : List Word) (e : Seen) (r : List Word) → Targets I ws e → lead (ws ++ r) ≤ 3
targets_lead I i kn ws e r d = then_first (λ ws. lead ws ≤ 3) (I a_target) (More (Plain (I a_target))) (kn.leads a_target) ws d.from r d.derived

pub begun_leads : (I : Kind → List Word → Seen → Type 0) (i : Inner) → Knows I i → (ws : List Word) (s : Step) (r : List Word) → Begun I ws s → lead (ws ++ r) ≤ 3
begun_leads I i kn ws s r (inl d) = then_first (λ ws. lead ws ≤ 3) (Targets I) (Signed (codes "=") ▸ (Many (Targets I ▸ Signed (codes "=")) ▸ Exprs I)) (targets_lead I i kn) ws d.from r d.derived
begun_leads I i kn ws s r (inr (inl d)) = then_first (λ ws. lead ws ≤ 3) (I a_target) (Signed (codes ":") ▸ (I an_expr ▸ Maybe (Signed (codes "=") ▸ Exprs I))) (kn.leads a_target) ws d.from r d.derived
begun_leads I i kn ws s r (inr (inr (inl d))) = then_first (λ ws. lead ws ≤ 3) (I a_target) (One (valued sign_of augmented_of) ▸ Exprs I) (kn.leads a_target) ws d.from r d.derived
begun_leads I i kn ws s r (inr (inr (inr d))) = exprs_lead I i kn ws d.from r d.derived
