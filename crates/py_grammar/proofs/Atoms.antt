-- Atoms, trailers and primaries are read exactly.
use Rattle.std.proofs.Common.{◌≡◌, ℕ, ◌<◌, ◌≤◌, refl, sym, ap, subst, ◌∙◌, List, ◌++◌, Option, Some, arith, inl, inr}
use Rattle.std.specs.Prelude.{false, codes, is_some, if◌then◌else◌}
use Rattle.lists.specs.Texts.{text_eq}
use Rattle.amh_host.specs.declared.place.Place.{Place}
use Rattle.py_tree.specs.declared.name.Piece.{Piece}
use Rattle.py_tree.specs.declared.number.Decimal.{Decimal}
use Rattle.py_tree.specs.declared.expr.Constant.{Constant}
use Rattle.py_grammar.specs.declared.word.Word.{Word}
use Rattle.py_grammar.specs.declared.word.Mark.{Mark}
use Rattle.py_grammar.specs.declared.word.Mark.TheVariants as mark
use Rattle.py_grammar.specs.declared.word.Kind.{Kind}
use Rattle.py_grammar.specs.declared.word.Kind.TheVariants.{Expr as an_expr}
use Rattle.py_grammar.specs.Words.{next, next_sign, next_key, name_of, keyword_of, number_of, decimal_of, string_of, format_of, valued}
use Rattle.py_grammar.specs.Values.{constant_of}
use Rattle.py_grammar.specs.Forms.{Signed, One, ◌▸◌, ◌∣◌, Made, Maybe}
use Rattle.py_grammar.specs.Readers.{one, sign, ◌▹◌, made, choose}
use Rattle.py_grammar.specs.Seen.{Seen, whole_amount, decimal_amount, number_seen, round_seen, display_seen, dict_seen}
use Rattle.py_grammar.specs.Grammar.{More, Plain, Items, Others, Pair, AmountOf, Round, Square, Curly, Atom}
use Rattle.py_grammar.specs.Reading.{Inner, begins, begins_mark, items, others, pair, plain_of, amount, number, round, square, square_inside, curly, curly_inside, bracketed}
use Rattle.py_grammar.proofs.Exact.{Exact, Any, exact_sign, exact_one, exact_then, exact_made, exact_choose, exact_maybe}
use Rattle.py_grammar.proofs.Ends.{sign_rank, lead, mark_lead, sign_lead, Sign_first, sign_by_lead, begins_lead}
use Rattle.py_grammar.proofs.Lists.{After, Knows, exact_weaken, then_first, signed_first, sign_after, sign_there, After_list, exact_items, comma_after, After_others, exact_others, others_hold, exact_pair, pair_leads, exact_bracket}

-- ---- first words of single marks

pub one_lead : {A : Type 0} (value : Mark → Option A) (n : ℕ) → ((m : Mark) (a : A) → value m ≡ Some a → mark_lead m ≤ n) → (ws : List Word) (x : Place × A) (r : List Word) → One value ws x → lead (ws ++ r) ≤ n
one_lead value n f ws x r d = subst (λ z. z ≤ n) (sym (ap (λ z. lead (z ++ r)) d.whole)) (f d.mark_is x.1 d.valued)

pub name_lead : (m : Mark) (a : List ℕ) → name_of m ≡ Some a → mark_lead m ≤ 0
name_lead (mark.Name s) a h = omega arith
name_lead (mark.Keyword s) a h = cc
name_lead (mark.Number n) a h = cc
name_lead (mark.Decimal d) a h = cc
name_lead (mark.Str s) a h = cc
name_lead (mark.Format s) a h = cc
name_lead (mark.Sign s) a h = cc
name_lead mark.Other a h = cc

number_lead : (m : Mark) (a : ℕ) → number_of m ≡ Some a → mark_lead m ≤ 0
number_lead (mark.Number n) a h = omega arith
number_lead (mark.Name s) a h = cc
number_lead (mark.Keyword s) a h = cc
number_lead (mark.Decimal d) a h = cc
number_lead (mark.Str s) a h = cc
number_lead (mark.Format s) a h = cc
number_lead (mark.Sign s) a h = cc
number_lead mark.Other a h = cc

decimal_lead : (m : Mark) (a : Decimal) → decimal_of m ≡ Some a → mark_lead m ≤ 0
decimal_lead (mark.Decimal d) a h = omega arith
decimal_lead (mark.Name s) a h = cc
decimal_lead (mark.Keyword s) a h = cc
decimal_lead (mark.Number n) a h = cc
decimal_lead (mark.Str s) a h = cc
decimal_lead (mark.Format s) a h = cc
decimal_lead (mark.Sign s) a h = cc
decimal_lead mark.Other a h = cc

string_lead : (m : Mark) (a : List ℕ) → string_of m ≡ Some a → mark_lead m ≤ 0
string_lead (mark.Str s) a h = omega arith
string_lead (mark.Name s) a h = cc
string_lead (mark.Keyword s) a h = cc
string_lead (mark.Number n) a h = cc
string_lead (mark.Decimal d) a h = cc
string_lead (mark.Format s) a h = cc
string_lead (mark.Sign s) a h = cc
string_lead mark.Other a h = cc

format_lead : (m : Mark) (a : List Piece) → format_of m ≡ Some a → mark_lead m ≤ 0
format_lead (mark.Format s) a h = omega arith
format_lead (mark.Name s) a h = cc
format_lead (mark.Keyword s) a h = cc
format_lead (mark.Number n) a h = cc
format_lead (mark.Decimal d) a h = cc
format_lead (mark.Str s) a h = cc
format_lead (mark.Sign s) a h = cc
format_lead mark.Other a h = cc

constant_lead : (m : Mark) (a : Constant) → valued keyword_of constant_of m ≡ Some a → mark_lead m ≤ 0
constant_lead (mark.Keyword s) a h = subst (λ z. z ≤ 0) (sym (ap (λ o. if is_some o then 0 else if text_eq s (codes "await") then 1 else if text_eq s (codes "not") then 3 else 9) h)) (omega arith)
constant_lead (mark.Name s) a h = cc
constant_lead (mark.Number n) a h = cc
constant_lead (mark.Decimal d) a h = cc
constant_lead (mark.Str s) a h = cc
constant_lead (mark.Format s) a h = cc
constant_lead (mark.Sign s) a h = cc
constant_lead mark.Other a h = cc

pub sign_leads : (s : List ℕ) (n : ℕ) (ws : List Word) → sign_lead s ≤ n → Sign_first s ws → lead ws ≤ n
sign_leads s n ws h f = subst (λ z. z ≤ n) (sym (ap lead f.whole)) h

pub round_first : (I : Kind → List Word → Seen → Type 0) (ws : List Word) (e : Seen) (r : List Word) → Round I ws e → Sign_first (codes "(") (ws ++ r)
round_first I ws e r d = signed_first (codes "(") (Maybe (Items (I an_expr)) ▸ Signed (codes ")")) ws d.from r d.derived

pub square_first : (I : Kind → List Word → Seen → Type 0) (ws : List Word) (e : Seen) (r : List Word) → Square I ws e → Sign_first (codes "[") (ws ++ r)
square_first I ws e r d = signed_first (codes "[") (Maybe (I an_expr ▸ Others I (Plain (I an_expr))) ▸ Signed (codes "]")) ws d.from r d.derived

pub curly_first : (I : Kind → List Word → Seen → Type 0) (ws : List Word) (e : Seen) (r : List Word) → Curly I ws e → Sign_first (codes "{") (ws ++ r)
curly_first I ws e r d = signed_first (codes "{") (Maybe (Pair I ▸ Others I (Pair I)) ▸ Signed (codes "}")) ws d.from r d.derived

pub atom_leads : (I : Kind → List Word → Seen → Type 0) (ws : List Word) (e : Seen) (r : List Word) → Atom I ws e → lead (ws ++ r) ≤ 0
atom_leads I ws e r (inl d) = one_lead name_of 0 name_lead ws d.from r d.derived
atom_leads I ws e r (inr (inl d)) = then_first (λ ws. lead ws ≤ 0) (One number_of) (Maybe (Signed (codes "/") ▸ AmountOf)) (λ us a r d. one_lead number_of 0 number_lead us a r d) ws d.from r d.derived
atom_leads I ws e r (inr (inr (inl d))) = one_lead decimal_of 0 decimal_lead ws d.from r d.derived
atom_leads I ws e r (inr (inr (inr (inl d)))) = one_lead string_of 0 string_lead ws d.from r d.derived
atom_leads I ws e r (inr (inr (inr (inr (inl d))))) = one_lead format_of 0 format_lead ws d.from r d.derived
atom_leads I ws e r (inr (inr (inr (inr (inr (inl d)))))) = one_lead (valued keyword_of constant_of) 0 constant_lead ws d.from r d.derived
atom_leads I ws e r (inr (inr (inr (inr (inr (inr (inl d))))))) = sign_leads (codes "(") 0 (ws ++ r) (omega arith) (round_first I ws e r d)
atom_leads I ws e r (inr (inr (inr (inr (inr (inr (inr (inl d)))))))) = sign_leads (codes "[") 0 (ws ++ r) (omega arith) (square_first I ws e r d)
atom_leads I ws e r (inr (inr (inr (inr (inr (inr (inr (inr d)))))))) = sign_leads (codes "{") 0 (ws ++ r) (omega arith) (curly_first I ws e r d)

-- ---- what stands before a closing bracket

pub close_list : (s : List ℕ) → 11 < sign_rank s → text_eq s (codes ",") ≡ false → begins_mark (mark.Sign s) ≡ false → (r : List Word) → Sign_first s r → After_list (After 11) begins r
unfolding begins
close_list s h c b r f = record { ends = sign_after s 11 r h f; no_comma = ap (next_sign (codes ",")) f.whole ∙ c; not_begun = ap begins f.whole ∙ b }

pub close_others : (s : List ℕ) → 11 < sign_rank s → text_eq s (codes ",") ≡ false → begins_mark (mark.Sign s) ≡ false → (r : List Word) → Sign_first s r → After_others (After 11) begins r
close_others s h c b r f = record { list = close_list s h c b r f; no_if = sign_after s 11 r h f; no_for = ap (next_key (codes "for")) f.whole }

pub not_round : begins_mark (mark.Sign (codes ")")) ≡ false
unfolding begins_mark
not_round = refl

pub not_square : begins_mark (mark.Sign (codes "]")) ≡ false
unfolding begins_mark
not_square = refl

not_curly : begins_mark (mark.Sign (codes "}")) ≡ false
unfolding begins_mark
not_curly = refl

pub not_colon : begins_mark (mark.Sign (codes ":")) ≡ false
unfolding begins_mark
not_colon = refl

exact_round : (I : Kind → List Word → Seen → Type 0) (i : Inner) → Knows I i → Exact Any (Round I) (round i)
unfolding round
exact_round I i kn = exact_made Any (λ x. round_seen x.0 x.1.0) _ _ (exact_bracket (codes "(") (codes ")") (Items (I an_expr)) (items (i an_expr))
    (exact_weaken (After_list (After 11) begins) (Sign_first (codes ")")) (Items (I an_expr)) (items (i an_expr)) (exact_items (After 11) (I an_expr) (i an_expr) (kn.exact an_expr) (comma_after 11 (omega arith)) (kn.leads an_expr)) (close_list (codes ")") (omega arith) refl not_round))
    (λ ws a r d. sign_by_lead (codes ")") (ws ++ r) 3 (then_first (λ ws. lead ws ≤ 3) (I an_expr) (More (Plain (I an_expr))) (kn.leads an_expr) ws a r d) (omega arith)))

exact_square : (I : Kind → List Word → Seen → Type 0) (i : Inner) → Knows I i → Exact Any (Square I) (square i)
unfolding square
exact_square I i kn = exact_made Any (λ x. display_seen x.0 x.1.0) _ _ (exact_bracket (codes "[") (codes "]") (I an_expr ▸ Others I (Plain (I an_expr))) (square_inside i)
    (exact_weaken (After_others (After 11) begins) (Sign_first (codes "]")) (I an_expr ▸ Others I (Plain (I an_expr))) (square_inside i)
    (exact_then (After 11) (After_others (After 11) begins) (I an_expr) (Others I (Plain (I an_expr))) (i an_expr) (others i begins (plain_of (i an_expr))) (kn.exact an_expr)
    (exact_others I i kn (After 11) begins (Plain (I an_expr)) (plain_of (i an_expr)) (exact_made (After 11) (λ e. (e.tree, e.depth)) (I an_expr) (i an_expr) (kn.exact an_expr)) (comma_after 11 (omega arith)) (λ ws a r d. begins_lead (ws ++ r) (kn.leads an_expr ws d.from r d.derived)))
    (λ us x r d h. others_hold (After 11) I (Plain (I an_expr)) (comma_after 11 (omega arith)) (λ p r. omega arith) us x r d h.no_if))
    (close_others (codes "]") (omega arith) refl not_square))
    (λ ws a r d. sign_by_lead (codes "]") (ws ++ r) 3 (then_first (λ ws. lead ws ≤ 3) (I an_expr) (Others I (Plain (I an_expr))) (kn.leads an_expr) ws a r d) (omega arith)))

exact_curly : (I : Kind → List Word → Seen → Type 0) (i : Inner) → Knows I i → Exact Any (Curly I) (curly i)
unfolding curly
exact_curly I i kn = exact_made Any (λ x. dict_seen x.0 x.1.0) _ _ (exact_bracket (codes "{") (codes "}") (Pair I ▸ Others I (Pair I)) (curly_inside i)
    (exact_weaken (After_others (After 11) begins) (Sign_first (codes "}")) (Pair I ▸ Others I (Pair I)) (curly_inside i)
    (exact_then (After 11) (After_others (After 11) begins) (Pair I) (Others I (Pair I)) (pair i) (others i begins (pair i)) (exact_pair I i kn)
    (exact_others I i kn (After 11) begins (Pair I) (pair i) (exact_pair I i kn) (comma_after 11 (omega arith)) (λ ws a r d. begins_lead (ws ++ r) (pair_leads I i kn ws a r d)))
    (λ us x r d h. others_hold (After 11) I (Pair I) (comma_after 11 (omega arith)) (λ p r. omega arith) us x r d h.no_if))
    (close_others (codes "}") (omega arith) refl not_curly))
    (λ ws a r d. sign_by_lead (codes "}") (ws ++ r) 3 (then_first (λ ws. lead ws ≤ 3) (Pair I) (Others I (Pair I)) (pair_leads I i kn) ws a r d) (omega arith)))

pub exact_bracketed : (I : Kind → List Word → Seen → Type 0) (i : Inner) → Knows I i → Exact Any (Round I ∣ Square I ∣ Curly I) (bracketed i)
unfolding bracketed
exact_bracketed I i kn = exact_choose Any (next_sign (codes "(")) (Round I) (Square I ∣ Curly I) (round i) (choose (next_sign (codes "[")) (square i) (curly i)) (exact_round I i kn)
    (exact_choose Any (next_sign (codes "[")) (Square I) (Curly I) (square i) (curly i) (exact_square I i kn) (exact_curly I i kn)
    (λ ws a r d h. sign_there (codes "[") (ws ++ r) (square_first I ws a r d))
    (λ ws a r d h. ap (next_sign (codes "[")) (curly_first I ws a r d).whole))
    (λ ws a r d h. sign_there (codes "(") (ws ++ r) (round_first I ws a r d))
    (λ ws a r d h. elim d [ inl d ↦ ap (next_sign (codes "(")) (square_first I ws a r d).whole | inr d ↦ ap (next_sign (codes "(")) (curly_first I ws a r d).whole ])

-- ---- numbers and times

not_number : (m : Mark) (a : Decimal) → decimal_of m ≡ Some a → is_some (number_of m) ≡ false
not_number (mark.Decimal d) a h = refl
not_number (mark.Name s) a h = refl
not_number (mark.Keyword s) a h = refl
not_number (mark.Number n) a h = cc
not_number (mark.Str s) a h = refl
not_number (mark.Format s) a h = refl
not_number (mark.Sign s) a h = refl
not_number mark.Other a h = refl

exact_amount : Exact Any AmountOf amount
unfolding amount
exact_amount = exact_choose Any (next (λ m. is_some (number_of m))) (Made whole_amount (One number_of)) (Made decimal_amount (One decimal_of)) (made whole_amount (one number_of)) (made decimal_amount (one decimal_of))
    (exact_made Any whole_amount (One number_of) (one number_of) (exact_one number_of)) (exact_made Any decimal_amount (One decimal_of) (one decimal_of) (exact_one decimal_of))
    (λ ws a r d h. let o = d.derived in ap (λ z. next (λ m. is_some (number_of m)) (z ++ r)) o.whole ∙ ap is_some o.valued)
    (λ ws a r d h. let o = d.derived in ap (λ z. next (λ m. is_some (number_of m)) (z ++ r)) o.whole ∙ not_number o.mark_is d.from.1 o.valued)

-- a number goes on with `/`
abbrev pub No_slash : List Word → Type 0
No_slash r = next_sign (codes "/") r ≡ false

pub exact_number : Exact No_slash (Made number_seen (One number_of ▸ Maybe (Signed (codes "/") ▸ AmountOf))) number
unfolding number
exact_number = exact_made No_slash number_seen (One number_of ▸ Maybe (Signed (codes "/") ▸ AmountOf)) _ (exact_then Any No_slash (One number_of) (Maybe (Signed (codes "/") ▸ AmountOf)) (one number_of) _ (exact_one number_of)
    (exact_maybe Any No_slash (next_sign (codes "/")) (Signed (codes "/") ▸ AmountOf) (sign (codes "/") ▹ amount) (exact_then Any Any (Signed (codes "/")) AmountOf (sign (codes "/")) amount (exact_sign (codes "/")) exact_amount (λ us b r d h. tt)) (λ r h. tt) (λ ws x r d h. sign_there (codes "/") (ws ++ r) (signed_first (codes "/") AmountOf ws x r d)) (λ r h. h))
    (λ us b r d h. tt))
