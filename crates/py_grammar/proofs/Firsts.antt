-- Statements that begin with expressions: what follows the first of them tells which statement it is.
use Rattle.std.proofs.Common.{◌≡◌, refl, sym, ap, subst, ◌∙◌, List, [], ◌++◌, append_assoc, arith, inl, inr}
use Rattle.std.specs.Prelude.{true, false, is_some, codes}
use Rattle.amh_host.specs.declared.place.Place.{Place}
use Rattle.py_tree.specs.Steps.{Step}
use Rattle.py_grammar.specs.declared.word.Word.{Word}
use Rattle.py_grammar.specs.declared.word.Kind.{Kind}
use Rattle.py_grammar.specs.declared.word.Kind.TheVariants.{Expr as an_expr}
use Rattle.py_grammar.specs.Words.{next, next_sign, sign_of, valued}
use Rattle.py_grammar.specs.Forms.{Signed, One, ◌▸◌, ◌∣◌, Made, Such, Maybe, no_more, one_more}
use Rattle.py_grammar.specs.Readers.{one, sign, ◌▹◌, such, many}
use Rattle.py_grammar.specs.Seen.{Seen, tuple_seen}
use Rattle.py_grammar.specs.Reading.{Inner, begins}
use Rattle.py_grammar.specs.Shapes.{annotate_seen, augment_seen, augmented_of}
use Rattle.py_grammar.specs.Statements.{Exprs}
use Rattle.py_grammar.specs.Line_reading.{and_then, exprs, First, is_one_target, assigned_fit, assigned_seen, assignment, annotation, augmentation, augmented_next, behind_first}
use Rattle.py_grammar.proofs.Exact.{Exact, Any, exact_sign, exact_one, exact_then, exact_made, exact_choose, exact_such}
use Rattle.py_grammar.proofs.Runs.{Runs}
use Rattle.py_grammar.proofs.Ends.{Sign_first}
use Rattle.py_grammar.proofs.Lists.{After, Knows, then_first, signed_first, sign_after, sign_there, sign_long, After_list}
use Rattle.py_grammar.proofs.Atoms.{close_list}
use Rattle.py_grammar.proofs.Line_forms.{End, exact_list}
use Rattle.py_grammar.proofs.Assigned.{Values}
use Rattle.py_grammar.proofs.Line_ends.{at_end, exprs_end, before_equals, before_colon, exact_exprs, last_exprs, sign_or, exact_last}
use Rattle.py_grammar.proofs.Augments.{augmented_ends, Augmented_first, augmented_one}

-- ---- what may stand behind the first expressions

abbrev pub Annotating : (Kind → List Word → Seen → Type 0) → First → List Word → Step → Type 0
Annotating I x = Such (λ s. is_one_target x) (Made (λ y. annotate_seen (x.0, y)) (Signed (codes ":") ▸ (I an_expr ▸ Maybe (Signed (codes "=") ▸ Exprs I))))

abbrev pub Augmenting : (Kind → List Word → Seen → Type 0) → First → List Word → Step → Type 0
Augmenting I x = Such (λ s. is_one_target x) (Made (λ y. augment_seen (x.0, y)) (One (valued sign_of augmented_of) ▸ Exprs I))

abbrev pub Assigning : (Kind → List Word → Seen → Type 0) → Seen → List Word → Step → Type 0
Assigning I e = Made assigned_seen (Such assigned_fit (Made (λ xs. (e, xs)) (Values I)))

abbrev pub Behind : (Kind → List Word → Seen → Type 0) → First → List Word → Step → Type 0
Behind I x = Annotating I x ∣ Augmenting I x ∣ Assigning I (tuple_seen x)

exact_annotating : (I : Kind → List Word → Seen → Type 0) (i : Inner) → Knows I i → (x : First) → Exact End (Annotating I x) (such (λ s. is_one_target x) (annotation i x.0))
unfolding annotation
exact_annotating I i kn x = exact_such End (λ s. is_one_target x) (Made (λ y. annotate_seen (x.0, y)) (Signed (codes ":") ▸ (I an_expr ▸ Maybe (Signed (codes "=") ▸ Exprs I)))) (annotation i x.0)
    (exact_made End (λ y. annotate_seen (x.0, y)) (Signed (codes ":") ▸ (I an_expr ▸ Maybe (Signed (codes "=") ▸ Exprs I))) _
    (exact_then Any End (Signed (codes ":")) (I an_expr ▸ Maybe (Signed (codes "=") ▸ Exprs I)) (sign (codes ":")) _ (exact_sign (codes ":"))
    (exact_then (After 11) End (I an_expr) (Maybe (Signed (codes "=") ▸ Exprs I)) (i an_expr) _ (kn.exact an_expr) (exact_last (codes "=") (Exprs I) (exprs i) (last_exprs I i kn))
    (λ us b r d e. sign_or (After 11) (codes "=") (Exprs I) (λ ws f. sign_after (codes "=") 11 ws (omega arith) f) us b r d (at_end (After 11) (omega arith) r e)))
    (λ us b r d e. tt)))

exact_augmenting : (I : Kind → List Word → Seen → Type 0) (i : Inner) → Knows I i → (x : First) → Exact End (Augmenting I x) (such (λ s. is_one_target x) (augmentation i x.0))
unfolding augmentation
exact_augmenting I i kn x = exact_such End (λ s. is_one_target x) (Made (λ y. augment_seen (x.0, y)) (One (valued sign_of augmented_of) ▸ Exprs I)) (augmentation i x.0)
    (exact_made End (λ y. augment_seen (x.0, y)) (One (valued sign_of augmented_of) ▸ Exprs I) (one (valued sign_of augmented_of) ▹ exprs i)
    (exact_then Any End (One (valued sign_of augmented_of)) (Exprs I) (one (valued sign_of augmented_of)) (exprs i) (exact_one (valued sign_of augmented_of)) (last_exprs I i kn) (λ us b r d e. tt)))

value_runs : (I : Kind → List Word → Seen → Type 0) (i : Inner) → Knows I i → Runs (After_list (After 11) begins) End (Signed (codes "=") ▸ Exprs I) (next_sign (codes "=")) (sign (codes "=") ▹ exprs i)
value_runs I i kn = record {
  exact = exact_then Any (After_list (After 11) begins) (Signed (codes "=")) (Exprs I) (sign (codes "=")) (exprs i) (exact_sign (codes "=")) (exact_exprs I i kn) (λ us b r d h. tt);
  length_there = λ ws a d. sign_long (codes "=") ws (signed_first (codes "=") (Exprs I) ws a [] d);
  goes_on = λ ws a r d. sign_there (codes "=") (ws ++ r) (signed_first (codes "=") (Exprs I) ws a r d);
  ends = λ r e. at_end (λ z. next_sign (codes "=") z ≡ false) refl r e;
  at_end = exprs_end;
  at_next = λ ws a r d. before_equals (ws ++ r) (signed_first (codes "=") (Exprs I) ws a r d);
}

exact_assigning : (I : Kind → List Word → Seen → Type 0) (i : Inner) → Knows I i → (e : Seen) → Exact End (Assigning I e) (assignment i e)
unfolding assignment
exact_assigning I i kn e = exact_made End assigned_seen (Such assigned_fit (Made (λ xs. (e, xs)) (Values I))) _ (exact_such End assigned_fit (Made (λ xs. (e, xs)) (Values I)) _
    (exact_made End (λ (xs : List (Place × Seen)). (e, xs)) (Values I) (many (next_sign (codes "=")) (sign (codes "=") ▹ exprs i) and_then [])
    (exact_list (After_list (After 11) begins) End (Signed (codes "=") ▸ Exprs I) (next_sign (codes "=")) (sign (codes "=") ▹ exprs i) (value_runs I i kn))))

-- ---- what stands there is told by its first word

values_or : (t : List Word → Type 0) → t [] → ((ws : List Word) → Sign_first (codes "=") ws → t ws) → (I : Kind → List Word → Seen → Type 0) (us : List Word) (xs : List (Place × Seen)) (r : List Word) → Values I us xs → End r → t (us ++ r)
values_or t a f I us xs r (no_more) e = at_end t a r e
values_or t a f I us xs r (one_more {ws = vs} {us = ys} {x = x} d m) e = f ((vs ++ ys) ++ r) (subst (Sign_first (codes "=")) (sym (append_assoc vs ys r)) (signed_first (codes "=") (Exprs I) vs x (ys ++ r) d))

augmenting_first : (I : Kind → List Word → Seen → Type 0) (x : First) (us : List Word) (s : Step) (r : List Word) → Augmenting I x us s → Augmented_first (us ++ r)
augmenting_first I x us s r d = then_first Augmented_first (One (valued sign_of augmented_of)) (Exprs I) augmented_one us d.derived.from r d.derived.derived

augmented_there : (ws : List Word) → Augmented_first ws → augmented_next ws ≡ true
unfolding augmented_next
augmented_there ws f = ap (next (λ m. is_some (valued sign_of augmented_of m))) f.first.whole ∙ f.known

augmented_not : (ws : List Word) → Sign_first (codes "=") ws → augmented_next ws ≡ false
unfolding augmented_next
augmented_not ws f = ap (next (λ m. is_some (valued sign_of augmented_of m))) f.whole

augmented_none : augmented_next [] ≡ false
unfolding augmented_next
augmented_none = refl

augmented_follows : (ws : List Word) → Augmented_first ws → After_list (After 11) begins ws
augmented_follows ws f = let e = augmented_ends f.sign f.known in close_list f.sign e.after e.no_comma e.not_begun ws f.first

pub exact_behind : (I : Kind → List Word → Seen → Type 0) (i : Inner) → Knows I i → (x : First) → Exact End (Behind I x) (behind_first i x)
unfolding behind_first
exact_behind I i kn x = exact_choose End (next_sign (codes ":")) (Annotating I x) (Augmenting I x ∣ Assigning I (tuple_seen x)) _ _ (exact_annotating I i kn x)
    (exact_choose End augmented_next (Augmenting I x) (Assigning I (tuple_seen x)) _ _ (exact_augmenting I i kn x) (exact_assigning I i kn (tuple_seen x))
    (λ ws a r d e. augmented_there (ws ++ r) (augmenting_first I x ws a r d))
    (λ ws a r d e. values_or (λ z. augmented_next z ≡ false) augmented_none augmented_not I ws d.derived.derived.from r d.derived.derived.derived e))
    (λ ws a r d e. sign_there (codes ":") (ws ++ r) (signed_first (codes ":") (I an_expr ▸ Maybe (Signed (codes "=") ▸ Exprs I)) ws d.derived.from r d.derived.derived))
    (λ ws a r d e. elim d [
      | inl d ↦ let f = augmenting_first I x ws a r d in ap (next_sign (codes ":")) f.first.whole ∙ (augmented_ends f.sign f.known).no_colon
      | inr d ↦ values_or (λ z. next_sign (codes ":") z ≡ false) refl (λ ws f. ap (next_sign (codes ":")) f.whole) I ws d.derived.derived.from r d.derived.derived.derived e
    ])

pub behind_follows : (I : Kind → List Word → Seen → Type 0) (x : First) (us : List Word) (s : Step) (r : List Word) → Behind I x us s → End r → After_list (After 11) begins (us ++ r)
behind_follows I x us s r (inl d) e = before_colon (us ++ r) (signed_first (codes ":") (I an_expr ▸ Maybe (Signed (codes "=") ▸ Exprs I)) us d.derived.from r d.derived.derived)
behind_follows I x us s r (inr (inl d)) e = augmented_follows (us ++ r) (augmenting_first I x us s r d)
behind_follows I x us s r (inr (inr d)) e = values_or (After_list (After 11) begins) (exprs_end [] refl) before_equals I us d.derived.derived.from r d.derived.derived.derived e
