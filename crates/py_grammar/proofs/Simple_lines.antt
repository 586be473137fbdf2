-- Simple statements are read exactly, at the end of a line.
use Rattle.std.proofs.Common.{◌≡◌, ℕ, ◌<◌, ◌≤◌, refl, List, [], ◌++◌, arith, inl, inr}
use Rattle.std.specs.Prelude.{false, codes}
use Rattle.amh_host.specs.declared.place.Place.{Place}
use Rattle.py_tree.specs.Steps.{Step, Pass, Break, Continue}
use Rattle.py_grammar.specs.declared.word.Word.{Word}
use Rattle.py_grammar.specs.declared.word.Kind.{Kind}
use Rattle.py_grammar.specs.declared.word.Kind.TheVariants.{Expr as an_expr}
use Rattle.py_grammar.specs.Words.{next_sign, next_key}
use Rattle.py_grammar.specs.Forms.{Signed, Keyed, ◌▸◌, ◌∣◌, Made, Maybe}
use Rattle.py_grammar.specs.Readers.{Read, sign, key, ◌▹◌, made, choose, maybe}
use Rattle.py_grammar.specs.Seen.{Seen}
use Rattle.py_grammar.specs.Reading.{Inner, begins}
use Rattle.py_grammar.specs.Shapes.{return_seen, assert_seen, raise_seen, import_seen}
use Rattle.py_grammar.specs.Statements.{Exprs, Dotted, Imports, SimpleRule}
use Rattle.py_grammar.specs.Line_reading.{exprs, import, returned, asserted, raised, by_first, simple}
use Rattle.py_grammar.proofs.Exact.{Exact, Any, exact_key, exact_then, exact_made, exact_choose, exact_maybe}
use Rattle.py_grammar.proofs.Ends.{Key_first, begins_lead}
use Rattle.py_grammar.proofs.Lists.{After, Knows, exact_weaken, keyed_first, keyed_is, sign_after, key_there, After_list}
use Rattle.py_grammar.proofs.Line_forms.{End}
use Rattle.py_grammar.proofs.Line_ends.{at_end, exprs_end, exact_exprs, sign_or, exact_last}
use Rattle.py_grammar.proofs.Line_keys.{key_order, order, key_past, key_by_order, order_by_lead}
use Rattle.py_grammar.proofs.Target_lists.{Knows_targets}
use Rattle.py_grammar.proofs.By_first.{Begun, exact_by_first, exprs_lead, begun_leads}
use Rattle.py_grammar.proofs.Imports.{exact_import}

-- ---- alternatives that are told by the keyword that they begin with

-- read exactly, and with no keyword up to the order n in front
pub record Part {A : Type 0} (E : List Word → Type 0) (n : ℕ) (D : List Word → A → Type 0) (rd : Read A) : Type 0 where
  pub exact : Exact E D rd
  pub past : (ws : List Word) (a : A) (r : List Word) → D ws a → n < order (ws ++ r)

pub record Keyed_part {A : Type 0} (E : List Word → Type 0) (s : List ℕ) (D : List Word → A → Type 0) (rd : Read A) : Type 0 where
  pub exact : Exact E D rd
  pub first : (ws : List Word) (a : A) (r : List Word) → D ws a → Key_first s (ws ++ r)

pub keyed_or : {A : Type 0} (E : List Word → Type 0) (s : List ℕ) (m n : ℕ) (D1 D2 : List Word → A → Type 0) (r1 r2 : Read A) → m < key_order s → key_order s ≤ n → Keyed_part E s D1 r1 → Part E n D2 r2 → Part E m (D1 ∣ D2) (choose (next_key s) r1 r2)
keyed_or {A = A} E s m n D1 D2 r1 r2 low high one other = record {
  exact = exact_choose E (next_key s) D1 D2 r1 r2 one.exact other.exact (λ ws a r d e. key_there s (ws ++ r) (one.first ws a r d)) (λ ws a r d e. key_by_order s (ws ++ r) n (other.past ws a r d) high);
  past = λ ws a r d. elim d [ inl d ↦ key_past s m (ws ++ r) low (one.first ws a r d) | inr d ↦ let h = other.past ws a r d in omega arith ];
}

-- a keyword and what follows it
pub keyed_part : {A B : Type 0} (E : List Word → Type 0) (s : List ℕ) (f : Place × A → B) (D : List Word → A → Type 0) (rd : Read A) → Exact E D rd → Keyed_part E s (Made f (Keyed s ▸ D)) (made f (key s ▹ rd))
keyed_part {A = A} E s f D rd e = record {
  exact = exact_made E f (Keyed s ▸ D) (key s ▹ rd) (exact_then Any E (Keyed s) D (key s) rd (exact_key s) e (λ us b r d h. tt));
  first = λ ws b r d. keyed_first s D ws d.from r d.derived;
}

keyword_part : (s : List ℕ) (f : Place → Step) → Keyed_part End s (Made f (Keyed s)) (made f (key s))
keyword_part s f = record {
  exact = exact_weaken Any End (Made f (Keyed s)) (made f (key s)) (exact_made Any f (Keyed s) (key s) (exact_key s)) (λ r h. tt);
  first = λ ws b r d. keyed_is s ws d.from r d.derived;
}

-- ---- `return`, `assert`, `raise` and `from`

begins_none : begins [] ≡ false
unfolding begins
begins_none = refl

return_part : (I : Kind → List Word → Seen → Type 0) (i : Inner) → Knows I i → Keyed_part End (codes "return") (Made return_seen (Keyed (codes "return") ▸ Maybe (Exprs I))) (returned i)
unfolding returned
return_part I i kn = keyed_part End (codes "return") return_seen (Maybe (Exprs I)) (maybe begins (exprs i))
    (exact_maybe (After_list (After 11) begins) End begins (Exprs I) (exprs i) (exact_exprs I i kn) exprs_end (λ ws a r d h. begins_lead (ws ++ r) (exprs_lead I i kn ws a r d)) (λ r e. at_end (λ z. begins z ≡ false) begins_none r e))

last_expr : (I : Kind → List Word → Seen → Type 0) (i : Inner) → Knows I i → Exact End (I an_expr) (i an_expr)
last_expr I i kn = exact_weaken (After 11) End (I an_expr) (i an_expr) (kn.exact an_expr) (λ r e. at_end (After 11) (omega arith) r e)

assert_part : (I : Kind → List Word → Seen → Type 0) (i : Inner) → Knows I i → Keyed_part End (codes "assert") (Made assert_seen (Keyed (codes "assert") ▸ (I an_expr ▸ Maybe (Signed (codes ",") ▸ I an_expr)))) (asserted i)
unfolding asserted
assert_part I i kn = keyed_part End (codes "assert") assert_seen (I an_expr ▸ Maybe (Signed (codes ",") ▸ I an_expr)) (i an_expr ▹ maybe (next_sign (codes ",")) (sign (codes ",") ▹ i an_expr))
    (exact_then (After 11) End (I an_expr) (Maybe (Signed (codes ",") ▸ I an_expr)) (i an_expr) _ (kn.exact an_expr) (exact_last (codes ",") (I an_expr) (i an_expr) (last_expr I i kn))
    (λ us b r d e. sign_or (After 11) (codes ",") (I an_expr) (λ ws f. sign_after (codes ",") 11 ws (omega arith) f) us b r d (at_end (After 11) (omega arith) r e)))

raise_part : (I : Kind → List Word → Seen → Type 0) (i : Inner) → Knows I i → Keyed_part End (codes "raise") (Made raise_seen (Keyed (codes "raise") ▸ I an_expr)) (raised i)
unfolding raised
raise_part I i kn = keyed_part End (codes "raise") raise_seen (I an_expr) (i an_expr) (last_expr I i kn)

import_part : Keyed_part End (codes "from") (Made import_seen (Keyed (codes "from") ▸ (Dotted ▸ (Keyed (codes "import") ▸ Imports)))) import
import_part = record { exact = exact_import; first = λ ws b r d. keyed_first (codes "from") (Dotted ▸ (Keyed (codes "import") ▸ Imports)) ws d.from r d.derived }

begun_part : (I : Kind → List Word → Seen → Type 0) (i : Inner) → Knows I i → Knows_targets I → Part End 16 (Begun I) (by_first i)
begun_part I i kn kt = record { exact = exact_by_first I i kn kt; past = λ ws a r d. let e = order_by_lead (ws ++ r) (begun_leads I i kn ws a r d) in omega arith }

-- ---- all of them

pub simple_part : (I : Kind → List Word → Seen → Type 0) (i : Inner) → Knows I i → Knows_targets I → Part End 9 (SimpleRule I) (simple i)
unfolding simple
simple_part I i kn kt =
    keyed_or End (codes "pass") 9 10 _ _ _ _ (omega arith) (omega arith) (keyword_part (codes "pass") Pass)
    (keyed_or End (codes "break") 10 11 _ _ _ _ (omega arith) (omega arith) (keyword_part (codes "break") Break)
    (keyed_or End (codes "continue") 11 12 _ _ _ _ (omega arith) (omega arith) (keyword_part (codes "continue") Continue)
    (keyed_or End (codes "return") 12 13 _ _ _ _ (omega arith) (omega arith) (return_part I i kn)
    (keyed_or End (codes "assert") 13 14 _ _ _ _ (omega arith) (omega arith) (assert_part I i kn)
    (keyed_or End (codes "raise") 14 15 _ _ _ _ (omega arith) (omega arith) (raise_part I i kn)
    (keyed_or End (codes "from") 15 16 _ _ _ _ (omega arith) (omega arith) import_part (begun_part I i kn kt)))))))
