-- Expressions in lines: what may follow them, and what ends a line.
use Rattle.std.proofs.Common.{◌≡◌, ℕ, refl, sym, subst, List, [], ◌++◌, Option, arith}
use Rattle.std.specs.Prelude.{false, codes}
use Rattle.amh_host.specs.declared.place.Place.{Place}
use Rattle.py_grammar.specs.declared.word.Word.{Word}
use Rattle.py_grammar.specs.declared.word.Mark.TheVariants as mark
use Rattle.py_grammar.specs.declared.word.Kind.{Kind}
use Rattle.py_grammar.specs.declared.word.Kind.TheVariants.{Target as a_target, Expr as an_expr}
use Rattle.py_grammar.specs.Words.{next_sign}
use Rattle.py_grammar.specs.Forms.{Signed, ◌▸◌, Maybe, not_there, there}
use Rattle.py_grammar.specs.Readers.{Read, sign, ◌▹◌, maybe}
use Rattle.py_grammar.specs.Seen.{Seen, tuple_seen}
use Rattle.py_grammar.specs.Grammar.{Items}
use Rattle.py_grammar.specs.Reading.{Inner, begins, begins_mark, items}
use Rattle.py_grammar.specs.Statements.{Exprs, Targets}
use Rattle.py_grammar.specs.Line_reading.{exprs, targets}
use Rattle.py_grammar.proofs.Exact.{Exact, Any, exact_sign, exact_then, exact_made, exact_maybe}
use Rattle.py_grammar.proofs.Ends.{Sign_first}
use Rattle.py_grammar.proofs.Lists.{After, Knows, exact_weaken, signed_first, sign_there, After_list, exact_items, comma_after}
use Rattle.py_grammar.proofs.Atoms.{close_list, not_colon}
use Rattle.py_grammar.proofs.Line_forms.{End}

-- ---- what may follow expressions

pub at_end : (t : List Word → Type 0) → t [] → (r : List Word) → End r → t r
at_end t h r e = subst t (sym e) h

pub exprs_end : (r : List Word) → End r → After_list (After 11) begins r
unfolding begins
exprs_end r e = at_end (After_list (After 11) begins) (record { ends = omega arith; no_comma = refl; not_begun = refl }) r e

not_equals : begins_mark (mark.Sign (codes "=")) ≡ false
unfolding begins_mark
not_equals = refl

pub before_equals : (r : List Word) → Sign_first (codes "=") r → After_list (After 11) begins r
before_equals r f = close_list (codes "=") (omega arith) refl not_equals r f

pub before_colon : (r : List Word) → Sign_first (codes ":") r → After_list (After 11) begins r
before_colon r f = close_list (codes ":") (omega arith) refl not_colon r f

pub exact_exprs : (I : Kind → List Word → Seen → Type 0) (i : Inner) → Knows I i → Exact (After_list (After 11) begins) (Exprs I) (exprs i)
unfolding exprs
exact_exprs I i kn = exact_made (After_list (After 11) begins) tuple_seen (Items (I an_expr)) (items (i an_expr)) (exact_items (After 11) (I an_expr) (i an_expr) (kn.exact an_expr) (comma_after 11 (omega arith)) (kn.leads an_expr))

pub exact_targets : (I : Kind → List Word → Seen → Type 0) (i : Inner) → Knows I i → Exact (After_list (After 0) begins) (Targets I) (targets i)
unfolding targets
exact_targets I i kn = exact_made (After_list (After 0) begins) tuple_seen (Items (I a_target)) (items (i a_target)) (exact_items (After 0) (I a_target) (i a_target) (kn.exact a_target) (comma_after 0 (omega arith)) (kn.leads a_target))

pub last_exprs : (I : Kind → List Word → Seen → Type 0) (i : Inner) → Knows I i → Exact End (Exprs I) (exprs i)
last_exprs I i kn = exact_weaken (After_list (After 11) begins) End (Exprs I) (exprs i) (exact_exprs I i kn) exprs_end

-- what holds where a sign comes first, and of the words behind, holds of perhaps that sign and more
pub sign_or : {A : Type 0} (t : List Word → Type 0) (s : List ℕ) (D : List Word → A → Type 0) → ((ws : List Word) → Sign_first s ws → t ws) → (us : List Word) (o : Option (Place × A)) (r : List Word) → Maybe (Signed s ▸ D) us o → t r → t (us ++ r)
sign_or t s D f us o r (not_there) h = h
sign_or t s D f us o r (there {x = x} d) h = f (us ++ r) (signed_first s D us x r d)

-- a sign and more at the end of a line, or nothing
pub exact_last : {A : Type 0} (s : List ℕ) (D : List Word → A → Type 0) (rd : Read A) → Exact End D rd → Exact End (Maybe (Signed s ▸ D)) (maybe (next_sign s) (sign s ▹ rd))
exact_last s D rd e = exact_maybe End End (next_sign s) (Signed s ▸ D) (sign s ▹ rd) (exact_then Any End (Signed s) D (sign s) rd (exact_sign s) e (λ us b r d h. tt))
    (λ r h. h) (λ ws x r d h. sign_there s (ws ++ r) (signed_first s D ws x r d)) (λ r h. at_end (λ z. next_sign s z ≡ false) refl r h)
