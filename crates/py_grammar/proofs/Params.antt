-- Parameters are read exactly.
use Rattle.std.proofs.Common.{◌≡◌, ℕ, refl, ap, ◌∙◌, List, ◌++◌, Option, arith, inl, inr}
use Rattle.std.specs.Prelude.{true, false, ◌||◌, codes}
use Rattle.amh_host.specs.declared.place.Place.{Place}
use Rattle.py_tree.specs.Steps.{Parameter, Star}
use Rattle.py_grammar.specs.declared.word.Word.{Word}
use Rattle.py_grammar.specs.declared.word.Kind.{Kind}
use Rattle.py_grammar.specs.declared.word.Kind.TheVariants.{Expr as an_expr}
use Rattle.py_grammar.specs.Words.{next_sign, name_of}
use Rattle.py_grammar.specs.Forms.{Signed, One, ◌▸◌, Made, Maybe}
use Rattle.py_grammar.specs.Readers.{one, sign, ◌▹◌, made, maybe}
use Rattle.py_grammar.specs.Seen.{Seen}
use Rattle.py_grammar.specs.Reading.{Inner}
use Rattle.py_grammar.specs.Shapes.{named_seen, params_fit, params_seen}
use Rattle.py_grammar.specs.Statements.{Commas, Param, Params}
use Rattle.py_grammar.specs.Line_reading.{commas, name_next, param, param_next, params}
use Rattle.py_grammar.proofs.Exact.{Exact, Any, exact_sign, exact_one, exact_then, exact_made, exact_choose, exact_such, exact_maybe}
use Rattle.py_grammar.proofs.Ends.{Sign_first, sign_by_rank}
use Rattle.py_grammar.proofs.Lists.{After, Knows, exact_weaken, then_first, signed_first, signed_is, sign_after, sign_there, comma_after, After_list}
use Rattle.py_grammar.proofs.Primaries.{or_first, or_second}
use Rattle.py_grammar.proofs.Line_forms.{exact_swap}
use Rattle.py_grammar.proofs.Line_ends.{sign_or}
use Rattle.py_grammar.proofs.Commas.{Between, exact_commas_last, commas_begin}
use Rattle.py_grammar.proofs.Imports.{one_name_next, no_name_sign, name_no_sign}

-- ---- one parameter

-- nothing of the levels up to n goes on, and no colon
record No_colon (n : ℕ) (r : List Word) : Type 0 where
  after : After n r
  no_colon : next_sign (codes ":") r ≡ false

abbrev Annotated : (Kind → List Word → Seen → Type 0) → List Word → Option (Place × Seen) → Type 0
Annotated J = Maybe (Signed (codes ":") ▸ J an_expr)

abbrev Defaulted : (Kind → List Word → Seen → Type 0) → List Word → Option (Place × Seen) → Type 0
Defaulted J = Maybe (Signed (codes "=") ▸ J an_expr)

abbrev Named_rule : (Kind → List Word → Seen → Type 0) → List Word → Parameter → Type 0
Named_rule J = Made named_seen (One name_of ▸ (Annotated J ▸ Defaulted J))

exact_annotated : (J : Kind → List Word → Seen → Type 0) (j : Inner) → Knows J j → Exact (No_colon 11) (Annotated J) (maybe (next_sign (codes ":")) (sign (codes ":") ▹ j an_expr))
exact_annotated J j kn = exact_maybe (After 11) (No_colon 11) (next_sign (codes ":")) (Signed (codes ":") ▸ J an_expr) (sign (codes ":") ▹ j an_expr)
    (exact_then Any (After 11) (Signed (codes ":")) (J an_expr) (sign (codes ":")) (j an_expr) (exact_sign (codes ":")) (kn.exact an_expr) (λ us b r d h. tt))
    (λ r h. h.after) (λ ws x r d h. sign_there (codes ":") (ws ++ r) (signed_first (codes ":") (J an_expr) ws x r d)) (λ r h. h.no_colon)

exact_defaulted : (J : Kind → List Word → Seen → Type 0) (j : Inner) → Knows J j → Exact (No_colon 12) (Defaulted J) (maybe (next_sign (codes "=")) (sign (codes "=") ▹ j an_expr))
exact_defaulted J j kn = exact_maybe (After 11) (No_colon 12) (next_sign (codes "=")) (Signed (codes "=") ▸ J an_expr) (sign (codes "=") ▹ j an_expr)
    (exact_then Any (After 11) (Signed (codes "=")) (J an_expr) (sign (codes "=")) (j an_expr) (exact_sign (codes "=")) (kn.exact an_expr) (λ us b r d h. tt))
    (λ r h. let a = h.after in omega arith) (λ ws x r d h. sign_there (codes "=") (ws ++ r) (signed_first (codes "=") (J an_expr) ws x r d)) (λ r h. sign_by_rank (codes "=") r 12 h.after (omega arith))

default_follows : (J : Kind → List Word → Seen → Type 0) (us : List Word) (o : Option (Place × Seen)) (r : List Word) → Defaulted J us o → No_colon 12 r → No_colon 11 (us ++ r)
default_follows J us o r d h = sign_or (No_colon 11) (codes "=") (J an_expr) (λ ws f. record { after = sign_after (codes "=") 11 ws (omega arith) f; no_colon = ap (next_sign (codes ":")) f.whole }) us o r d (record { after = (let a = h.after in omega arith); no_colon = h.no_colon })

exact_named : (J : Kind → List Word → Seen → Type 0) (j : Inner) → Knows J j → Exact (No_colon 12) (Named_rule J) (made named_seen (one name_of ▹ (maybe (next_sign (codes ":")) (sign (codes ":") ▹ j an_expr) ▹ maybe (next_sign (codes "=")) (sign (codes "=") ▹ j an_expr))))
exact_named J j kn = exact_made (No_colon 12) named_seen (One name_of ▸ (Annotated J ▸ Defaulted J)) _ (exact_then Any (No_colon 12) (One name_of) (Annotated J ▸ Defaulted J) (one name_of) _ (exact_one name_of)
    (exact_then (No_colon 11) (No_colon 12) (Annotated J) (Defaulted J) _ _ (exact_annotated J j kn) (exact_defaulted J j kn) (default_follows J))
    (λ us b r d h. tt))

named_next : (J : Kind → List Word → Seen → Type 0) (ws : List Word) (a : Parameter) (r : List Word) → Named_rule J ws a → name_next (ws ++ r) ≡ true
named_next J ws a r d = then_first (λ z. name_next z ≡ true) (One name_of) (Annotated J ▸ Defaulted J) one_name_next ws d.from r d.derived

exact_param : (J : Kind → List Word → Seen → Type 0) (j : Inner) → Knows J j → Exact (No_colon 12) (Param J) (param j)
unfolding param
exact_param J j kn = exact_swap (No_colon 12) (Made Star (Signed (codes "*"))) (Named_rule J) _ (exact_choose (No_colon 12) (next_sign (codes "*")) (Made Star (Signed (codes "*"))) (Named_rule J) (made Star (sign (codes "*"))) _
    (exact_weaken Any (No_colon 12) (Made Star (Signed (codes "*"))) (made Star (sign (codes "*"))) (exact_made Any Star (Signed (codes "*")) (sign (codes "*")) (exact_sign (codes "*"))) (λ r h. tt))
    (exact_named J j kn)
    (λ ws a r d h. sign_there (codes "*") (ws ++ r) (signed_is (codes "*") ws d.from r d.derived))
    (λ ws a r d h. name_no_sign (codes "*") (ws ++ r) (named_next J ws a r d)))

-- ---- parameters with a comma between each two

param_begins : (J : Kind → List Word → Seen → Type 0) (ws : List Word) (a : Parameter) (r : List Word) → Param J ws a → param_next (ws ++ r) ≡ true
unfolding param_next
param_begins J ws a r (inl d) = or_second (next_sign (codes "*") (ws ++ r)) (name_next (ws ++ r)) (named_next J ws a r d)
param_begins J ws a r (inr d) = or_first (next_sign (codes "*") (ws ++ r)) (name_next (ws ++ r)) (sign_there (codes "*") (ws ++ r) (signed_is (codes "*") ws d.from r d.derived))

param_not_close : (J : Kind → List Word → Seen → Type 0) (ws : List Word) (a : Parameter) (r : List Word) → Param J ws a → next_sign (codes ")") (ws ++ r) ≡ false
param_not_close J ws a r (inl d) = name_no_sign (codes ")") (ws ++ r) (named_next J ws a r d)
param_not_close J ws a r (inr d) = ap (next_sign (codes ")")) (signed_is (codes "*") ws d.from r d.derived).whole

params_between : (J : Kind → List Word → Seen → Type 0) (j : Inner) → Knows J j → Between (No_colon 12) param_next (Param J) (param j)
params_between J j kn = record { exact = exact_param J j kn; at_comma = λ p r. record { after = comma_after 12 (omega arith) p r; no_colon = refl }; begun = param_begins J }

params_end : (r : List Word) → Sign_first (codes ")") r → After_list (No_colon 12) param_next r
unfolding param_next
params_end r f = record {
  ends = record { after = sign_after (codes ")") 12 r (omega arith) f; no_colon = ap (next_sign (codes ":")) f.whole };
  no_comma = ap (next_sign (codes ",")) f.whole;
  not_begun = ap (λ b. b || name_next r) (ap (next_sign (codes "*")) f.whole) ∙ no_name_sign (codes ")") r f;
}

pub exact_params : (J : Kind → List Word → Seen → Type 0) (j : Inner) → Knows J j → Exact (Sign_first (codes ")")) (Params J) (params j)
unfolding params
exact_params J j kn = exact_such (Sign_first (codes ")")) params_fit (Made params_seen (Commas (Param J) ▸ Maybe (Signed (codes ",")))) (made params_seen (commas param_next (param j) ▹ maybe (next_sign (codes ",")) (sign (codes ","))))
    (exact_made (Sign_first (codes ")")) params_seen (Commas (Param J) ▸ Maybe (Signed (codes ","))) (commas param_next (param j) ▹ maybe (next_sign (codes ",")) (sign (codes ",")))
    (exact_weaken (After_list (No_colon 12) param_next) (Sign_first (codes ")")) (Commas (Param J) ▸ Maybe (Signed (codes ","))) (commas param_next (param j) ▹ maybe (next_sign (codes ",")) (sign (codes ",")))
    (exact_commas_last (No_colon 12) param_next (Param J) (param j) (params_between J j kn)) params_end))

pub params_not_close : (J : Kind → List Word → Seen → Type 0) (ws : List Word) (ps : List Parameter) (r : List Word) → Params J ws ps → next_sign (codes ")") (ws ++ r) ≡ false
params_not_close J ws ps r d = then_first (λ z. next_sign (codes ")") z ≡ false) (Commas (Param J)) (Maybe (Signed (codes ","))) (commas_begin (Param J) (λ z. next_sign (codes ")") z ≡ false) (param_not_close J)) ws d.derived.from r d.derived.derived
