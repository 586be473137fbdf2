-- The heads of compound statements are read exactly.
use Rattle.std.proofs.Common.{◌≡◌, ℕ, ◌<◌, sym, ap, subst, ◌∙◌, List, ◌++◌, append_assoc, Option, arith}
use Rattle.std.specs.Prelude.{false, not, codes}
use Rattle.amh_host.specs.declared.place.Place.{Place}
use Rattle.py_tree.specs.Tree.{Trailer}
use Rattle.py_grammar.specs.declared.word.Word.{Word}
use Rattle.py_grammar.specs.declared.word.Kind.{Kind}
use Rattle.py_grammar.specs.Words.{next_sign, next_key, name_of}
use Rattle.py_grammar.specs.Forms.{Signed, Keyed, One, Then, ◌▸◌, Made, Maybe, not_there, there}
use Rattle.py_grammar.specs.Readers.{Read, one, sign, key, ◌▹◌, made, maybe}
use Rattle.py_grammar.specs.Seen.{Seen, Deep}
use Rattle.py_grammar.specs.Grammar.{Args}
use Rattle.py_grammar.specs.Reading.{Inner, inside, call}
use Rattle.py_grammar.proofs.Exact.{Exact, Any, exact_sign, exact_key, exact_one, exact_then, exact_made, exact_maybe}
use Rattle.py_grammar.proofs.Ends.{Sign_first, Key_first}
use Rattle.py_grammar.proofs.Lists.{After, Knows, signed_first, keyed_first, signed_is, keyed_is, sign_after, sign_there, key_there, After_list}
use Rattle.py_grammar.proofs.Primaries.{exact_call}
use Rattle.py_grammar.proofs.Line_keys.{order, key_past}
use Rattle.py_grammar.specs.declared.word.Kind.TheVariants.{Target as a_target, Expr as an_expr}
use Rattle.py_grammar.specs.Shapes.{Head, else_seen, for_seen, with_seen, def_seen, class_seen}
use Rattle.py_grammar.specs.Statements.{Exprs, Targets, Params, DefRule, BasesRule}
use Rattle.py_grammar.specs.Line_reading.{exprs, targets, params, definition, bases_read, class_head, with_head, for_head, tested}
use Rattle.py_grammar.specs.Reading.{begins}
use Rattle.py_grammar.proofs.Lists.{key_after, targets_end}
use Rattle.py_grammar.proofs.Line_ends.{before_colon, exact_exprs, exact_targets}
use Rattle.py_grammar.proofs.Params.{exact_params, params_not_close}
use Rattle.py_grammar.proofs.Simple_lines.{Part, Keyed_part, keyed_part}

-- ---- an expression and a colon, and what is like it

abbrev pub Colon : List Word → Place → Type 0
Colon = Signed (codes ":")

colon_is : (us : List Word) (p : Place) (r : List Word) → Colon us p → Sign_first (codes ":") (us ++ r)
colon_is us p r d = signed_is (codes ":") us p r d

exact_to_colon : {A : Type 0} (E : List Word → Type 0) (D : List Word → A → Type 0) (rd : Read A) → Exact E D rd → ((ws : List Word) → Sign_first (codes ":") ws → E ws) → Exact Any (D ▸ Colon) (rd ▹ sign (codes ":"))
exact_to_colon E D rd e f = exact_then E Any D Colon rd (sign (codes ":")) e (exact_sign (codes ":")) (λ us p r d h. f (us ++ r) (colon_is us p r d))

after_colon : (n : ℕ) → n < 20 → (ws : List Word) → Sign_first (codes ":") ws → After n ws
after_colon n h ws f = sign_after (codes ":") n ws h f

pub tested_part : (I : Kind → List Word → Seen → Type 0) (i : Inner) → Knows I i → (s : List ℕ) (f : Place × (Seen × Place) → Head) → Keyed_part Any s (Made f (Keyed s ▸ (I an_expr ▸ Colon))) (tested s f i)
unfolding tested
tested_part I i kn s f = keyed_part Any s f (I an_expr ▸ Colon) (i an_expr ▹ sign (codes ":")) (exact_to_colon (After 11) (I an_expr) (i an_expr) (kn.exact an_expr) (after_colon 11 (omega arith)))

pub else_part : Keyed_part Any (codes "else") (Made else_seen (Keyed (codes "else") ▸ Colon)) (made else_seen (key (codes "else") ▹ sign (codes ":")))
else_part = keyed_part Any (codes "else") else_seen Colon (sign (codes ":")) (exact_sign (codes ":"))

pub for_part : (I : Kind → List Word → Seen → Type 0) (i : Inner) → Knows I i → Keyed_part Any (codes "for") (Made for_seen (Keyed (codes "for") ▸ (Targets I ▸ (Keyed (codes "in") ▸ (Exprs I ▸ Colon))))) (for_head i)
unfolding for_head
for_part I i kn = keyed_part Any (codes "for") for_seen (Targets I ▸ (Keyed (codes "in") ▸ (Exprs I ▸ Colon))) (targets i ▹ (key (codes "in") ▹ (exprs i ▹ sign (codes ":"))))
    (exact_then (After_list (After 0) begins) Any (Targets I) (Keyed (codes "in") ▸ (Exprs I ▸ Colon)) (targets i) (key (codes "in") ▹ (exprs i ▹ sign (codes ":"))) (exact_targets I i kn)
    (exact_then Any Any (Keyed (codes "in")) (Exprs I ▸ Colon) (key (codes "in")) (exprs i ▹ sign (codes ":")) (exact_key (codes "in")) (exact_to_colon (After_list (After 11) begins) (Exprs I) (exprs i) (exact_exprs I i kn) before_colon) (λ us b r d h. tt))
    (λ us b r d h. targets_end (us ++ r) (keyed_first (codes "in") (Exprs I ▸ Colon) us b r d)))

-- ---- `with`

abbrev pub Bound_to : (Kind → List Word → Seen → Type 0) → List Word → Option (Place × Seen) → Type 0
Bound_to I = Maybe (Keyed (codes "as") ▸ I a_target)

as_or : (I : Kind → List Word → Seen → Type 0) (us : List Word) (o : Option (Place × Seen)) (r : List Word) → Bound_to I us o → Sign_first (codes ":") r → After 11 (us ++ r)
as_or I us o r (not_there) h = after_colon 11 (omega arith) r h
as_or I us o r (there {x = x} d) h = key_after (codes "as") 11 (us ++ r) (omega arith) (keyed_first (codes "as") (I a_target) us x r d)

as_follows : (I : Kind → List Word → Seen → Type 0) (us : List Word) (x : Option (Place × Seen) × Place) (r : List Word) → Then (Bound_to I) Colon us x → After 11 (us ++ r)
as_follows I us x r d = subst (After 11) (sym (ap (λ z. z ++ r) d.whole ∙ append_assoc d.front d.back r)) (as_or I d.front x.0 (d.back ++ r) d.first (colon_is d.back x.1 r d.second))

exact_as : (I : Kind → List Word → Seen → Type 0) (i : Inner) → Knows I i → Exact (Sign_first (codes ":")) (Bound_to I) (maybe (next_key (codes "as")) (key (codes "as") ▹ i a_target))
exact_as I i kn = exact_maybe (After 0) (Sign_first (codes ":")) (next_key (codes "as")) (Keyed (codes "as") ▸ I a_target) (key (codes "as") ▹ i a_target)
    (exact_then Any (After 0) (Keyed (codes "as")) (I a_target) (key (codes "as")) (i a_target) (exact_key (codes "as")) (kn.exact a_target) (λ us b r d h. tt))
    (after_colon 0 (omega arith)) (λ ws x r d h. key_there (codes "as") (ws ++ r) (keyed_first (codes "as") (I a_target) ws x r d)) (λ r f. ap (next_key (codes "as")) f.whole)

pub with_part : (I : Kind → List Word → Seen → Type 0) (i : Inner) → Knows I i → Keyed_part Any (codes "with") (Made with_seen (Keyed (codes "with") ▸ (I an_expr ▸ (Bound_to I ▸ Colon)))) (with_head i)
unfolding with_head
with_part I i kn = keyed_part Any (codes "with") with_seen (I an_expr ▸ (Bound_to I ▸ Colon)) _
    (exact_then (After 11) Any (I an_expr) (Bound_to I ▸ Colon) (i an_expr) _ (kn.exact an_expr) (exact_to_colon (Sign_first (codes ":")) (Bound_to I) _ (exact_as I i kn) (λ ws f. f)) (λ us x r d h. as_follows I us x r d))

-- ---- classes

exact_bases : (J : Kind → List Word → Seen → Type 0) (j : Inner) → Knows J j → Exact Any (BasesRule J) (bases_read j)
unfolding bases_read call
exact_bases J j kn = exact_call J j kn

bases_first : (J : Kind → List Word → Seen → Type 0) (ws : List Word) (t : Deep Trailer) (r : List Word) → BasesRule J ws t → Sign_first (codes "(") (ws ++ r)
bases_first J ws t r d = signed_first (codes "(") (Maybe (Args J) ▸ Signed (codes ")")) ws d.from r d.derived

pub class_part : (J : Kind → List Word → Seen → Type 0) (j : Inner) → Knows J j → Keyed_part Any (codes "class") (Made class_seen (Keyed (codes "class") ▸ (One name_of ▸ (Maybe (BasesRule J) ▸ Colon)))) (class_head j)
unfolding class_head
class_part J j kn = keyed_part Any (codes "class") class_seen (One name_of ▸ (Maybe (BasesRule J) ▸ Colon)) _
    (exact_then Any Any (One name_of) (Maybe (BasesRule J) ▸ Colon) (one name_of) _ (exact_one name_of)
    (exact_to_colon (Sign_first (codes ":")) (Maybe (BasesRule J)) (maybe (next_sign (codes "(")) (bases_read j))
    (exact_maybe Any (Sign_first (codes ":")) (next_sign (codes "(")) (BasesRule J) (bases_read j) (exact_bases J j kn) (λ r h. tt) (λ ws t r d h. sign_there (codes "(") (ws ++ r) (bases_first J ws t r d)) (λ r f. ap (next_sign (codes "(")) f.whole))
    (λ ws f. f))
    (λ us b r d h. tt))

-- ---- functions

abbrev Result_of : (Kind → List Word → Seen → Type 0) → List Word → Option (Place × Seen) → Type 0
Result_of I = Maybe (Signed (codes "->") ▸ I an_expr)

abbrev After_params : (Kind → List Word → Seen → Type 0) → List Word → Place × (Option (Place × Seen) × Place) → Type 0
After_params I = Signed (codes ")") ▸ (Result_of I ▸ Colon)

exact_after_params : (I : Kind → List Word → Seen → Type 0) (i : Inner) → Knows I i → Exact Any (After_params I) (sign (codes ")") ▹ (maybe (next_sign (codes "->")) (sign (codes "->") ▹ i an_expr) ▹ sign (codes ":")))
exact_after_params I i kn = exact_then Any Any (Signed (codes ")")) (Result_of I ▸ Colon) (sign (codes ")")) _ (exact_sign (codes ")"))
    (exact_to_colon (Sign_first (codes ":")) (Result_of I) (maybe (next_sign (codes "->")) (sign (codes "->") ▹ i an_expr))
    (exact_maybe (After 11) (Sign_first (codes ":")) (next_sign (codes "->")) (Signed (codes "->") ▸ I an_expr) (sign (codes "->") ▹ i an_expr)
    (exact_then Any (After 11) (Signed (codes "->")) (I an_expr) (sign (codes "->")) (i an_expr) (exact_sign (codes "->")) (kn.exact an_expr) (λ us b r d h. tt))
    (after_colon 11 (omega arith)) (λ ws x r d h. sign_there (codes "->") (ws ++ r) (signed_first (codes "->") (I an_expr) ws x r d)) (λ r f. ap (next_sign (codes "->")) f.whole))
    (λ ws f. f))
    (λ us b r d h. tt)

exact_inside : {A : Type 0} (s : List ℕ) (D : List Word → A → Type 0) (rd : Read A) → Exact (Sign_first s) D rd → ((ws : List Word) (a : A) (r : List Word) → D ws a → next_sign s (ws ++ r) ≡ false) → Exact (Sign_first s) (Maybe D) (inside s rd)
exact_inside s D rd e t = exact_maybe (Sign_first s) (Sign_first s) (λ ws. not (next_sign s ws)) D rd e (λ r h. h) (λ ws a r d h. ap not (t ws a r d)) (λ r h. ap not (sign_there s r h))

exact_def : (I J : Kind → List Word → Seen → Type 0) (i j : Inner) → Knows I i → Knows J j → Exact Any (DefRule I J) (definition i j)
unfolding definition
exact_def I J i j ki kj = exact_made Any def_seen (Maybe (Keyed (codes "async")) ▸ (Keyed (codes "def") ▸ (One name_of ▸ (Signed (codes "(") ▸ (Maybe (Params J) ▸ After_params I))))) _
    (exact_then (Key_first (codes "def")) Any (Maybe (Keyed (codes "async"))) (Keyed (codes "def") ▸ (One name_of ▸ (Signed (codes "(") ▸ (Maybe (Params J) ▸ After_params I)))) (maybe (next_key (codes "async")) (key (codes "async"))) _
    (exact_maybe Any (Key_first (codes "def")) (next_key (codes "async")) (Keyed (codes "async")) (key (codes "async")) (exact_key (codes "async")) (λ r h. tt) (λ ws p r d h. key_there (codes "async") (ws ++ r) (keyed_is (codes "async") ws p r d)) (λ r f. ap (next_key (codes "async")) f.whole))
    (exact_then Any Any (Keyed (codes "def")) (One name_of ▸ (Signed (codes "(") ▸ (Maybe (Params J) ▸ After_params I))) (key (codes "def")) _ (exact_key (codes "def"))
    (exact_then Any Any (One name_of) (Signed (codes "(") ▸ (Maybe (Params J) ▸ After_params I)) (one name_of) _ (exact_one name_of)
    (exact_then Any Any (Signed (codes "(")) (Maybe (Params J) ▸ After_params I) (sign (codes "(")) _ (exact_sign (codes "("))
    (exact_then (Sign_first (codes ")")) Any (Maybe (Params J)) (After_params I) (inside (codes ")") (params j)) _ (exact_inside (codes ")") (Params J) (params j) (exact_params J j kj) (params_not_close J)) (exact_after_params I i ki)
    (λ us x r d h. signed_first (codes ")") (Result_of I ▸ Colon) us x r d))
    (λ us b r d h. tt))
    (λ us b r d h. tt))
    (λ us b r d h. tt))
    (λ us b r d h. keyed_first (codes "def") (One name_of ▸ (Signed (codes "(") ▸ (Maybe (Params J) ▸ After_params I))) us b r d))

-- `async` or `def` comes first
async_or : (t : List Word → Type 0) → ((ws : List Word) → Key_first (codes "async") ws → t ws) → ((ws : List Word) → Key_first (codes "def") ws → t ws) → (us : List Word) (o : Option Place) (r : List Word) → Maybe (Keyed (codes "async")) us o → Key_first (codes "def") r → t (us ++ r)
async_or t a b us o r (not_there) f = b r f
async_or t a b us o r (there {x = p} d) f = a (us ++ r) (keyed_is (codes "async") us p r d)

pub def_first : (t : List Word → Type 0) → ((ws : List Word) → Key_first (codes "async") ws → t ws) → ((ws : List Word) → Key_first (codes "def") ws → t ws) → (I J : Kind → List Word → Seen → Type 0) (ws : List Word) (h : Head) (r : List Word) → DefRule I J ws h → t (ws ++ r)
def_first t a b I J ws h r d = let th = d.derived in subst t (sym (ap (λ z. z ++ r) th.whole ∙ append_assoc th.front th.back r)) (async_or t a b th.front d.from.0 (th.back ++ r) th.first (keyed_first (codes "def") (One name_of ▸ (Signed (codes "(") ▸ (Maybe (Params J) ▸ After_params I))) th.back d.from.1 r th.second))

pub def_part : (I J : Kind → List Word → Seen → Type 0) (i j : Inner) → Knows I i → Knows J j → Part Any 7 (DefRule I J) (definition i j)
def_part I J i j ki kj = record { exact = exact_def I J i j ki kj; past = def_first (λ ws. 7 < order ws) (λ ws f. key_past (codes "async") 7 ws (omega arith) f) (λ ws f. key_past (codes "def") 7 ws (omega arith) f) I J }
