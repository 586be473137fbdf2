-- Atoms, arguments, indices, trailers and primaries are read exactly.
use Rattle.std.proofs.Common.{◌≡◌, ℕ, ◌<◌, ◌≤◌, refl, sym, ap, subst, ◌∙◌, List, [], ◌∷◌, ◌++◌, append_assoc, length, Option, Some, arith, inl, inr}
use Rattle.std.specs.Prelude.{Bool, true, false, ◌&&◌, ◌||◌, codes, is_some}
use Rattle.amh_host.specs.declared.place.Place.{Place}
use Rattle.py_tree.specs.declared.name.Piece.{Piece}
use Rattle.py_tree.specs.declared.number.Decimal.{Decimal}
use Rattle.py_tree.specs.declared.number.Amount.{Amount}
use Rattle.py_tree.specs.declared.expr.Constant.{Constant}
use Rattle.py_tree.specs.Tree.{Argument, Trailer}
use Rattle.py_grammar.specs.declared.word.Word.{Word}
use Rattle.py_grammar.specs.declared.word.Mark.{Mark}
use Rattle.py_grammar.specs.declared.word.Mark.TheVariants as mark
use Rattle.py_grammar.specs.declared.word.Kind.{Kind}
use Rattle.py_grammar.specs.declared.word.Kind.TheVariants.{Expr as an_expr}
use Rattle.py_grammar.specs.Words.{word, next_sign, next_key, name_of, keyword_of, number_of, decimal_of, string_of, format_of, valued}
use Rattle.py_grammar.specs.Values.{constant_of}
use Rattle.py_grammar.specs.Forms.{Signed, One, Then, ◌▸◌, ◌∣◌, Made, Maybe, not_there, there, Many, no_more, one_more}
use Rattle.py_grammar.specs.Readers.{Read, one, sign, ◌▹◌, made, maybe, many}
use Rattle.py_grammar.specs.Seen.{Seen, Deep, and_one, all_of, name_seen, constant_seen, decimal_seen, string_seen, format_seen, number_seen, starred_seen, keyword_seen, positional_seen, args_fit, call_seen, index_fits, index_seen, bracketed_index, attribute_seen, primary_seen}
use Rattle.py_grammar.specs.Grammar.{Others, AmountOf, Round, Square, Curly, Atom, Arg, Args, IndexRule, Trail, Primary}
use Rattle.py_grammar.specs.Reading.{Inner, begins, begins_mark, begins_argument, others, number, bracketed, atom, atom_by, is_named, arg, args, perhaps_expr, step, stop, index, attribute, call, indexed, trail, trails, primary}
use Rattle.py_grammar.proofs.Exact.{Front, Exact, Any, some_same, exact_sign, exact_one, exact_then, exact_made, exact_choose, exact_such, exact_maybe}
use Rattle.py_grammar.proofs.Runs.{Runs, exact_many}
use Rattle.py_grammar.proofs.Ends.{rank, sign_rank, lead, Sign_first, sign_first, sign_by_rank, sign_by_lead, begins_lead, refuted, and_first, and_second}
use Rattle.py_grammar.proofs.Lists.{After, Knows, exact_weaken, then_first, signed_first, sign_after, sign_there, comma_after, After_others, exact_others, others_hold, exact_bracket}
use Rattle.py_grammar.proofs.Atoms.{one_lead, name_lead, round_first, square_first, curly_first, atom_leads, not_square, not_colon, No_slash, exact_number, exact_bracketed}

-- ---- atoms

abbrev Bracket : (Kind → List Word → Seen → Type 0) → List Word → Seen → Type 0
Bracket I = Round I ∣ Square I ∣ Curly I

front_in : {A : Type 0} (D F : List Word → A → Type 0) → ((us : List Word) (a : A) → D us a → F us a) → (ws : List Word) (a : A) (r : List Word) → Front D ws a r → Front F ws a r
front_in D F f ws a r d = record { front = d.front; split = d.split; derived = f d.front a d.derived }

atom_sound_by : (I : Kind → List Word → Seen → Type 0) (i : Inner) → Knows I i → (m : Mark) (ws : List Word) (e : Seen) (r : List Word) → atom_by i m ws ≡ Some (e, r) → Front (Atom I) ws e r
atom_sound_by I i kn (mark.Name s) ws e r h = front_in (Made name_seen (One name_of)) (Atom I) (λ us a d. inl d) ws e r ((exact_made Any name_seen (One name_of) (one name_of) (exact_one name_of)).sound ws e r h)
atom_sound_by I i kn (mark.Number n) ws e r h = front_in (Made number_seen (One number_of ▸ Maybe (Signed (codes "/") ▸ AmountOf))) (Atom I) (λ us a d. inr (inl d)) ws e r (exact_number.sound ws e r h)
atom_sound_by I i kn (mark.Decimal n) ws e r h = front_in (Made decimal_seen (One decimal_of)) (Atom I) (λ us a d. inr (inr (inl d))) ws e r ((exact_made Any decimal_seen (One decimal_of) (one decimal_of) (exact_one decimal_of)).sound ws e r h)
atom_sound_by I i kn (mark.Str s) ws e r h = front_in (Made string_seen (One string_of)) (Atom I) (λ us a d. inr (inr (inr (inl d)))) ws e r ((exact_made Any string_seen (One string_of) (one string_of) (exact_one string_of)).sound ws e r h)
atom_sound_by I i kn (mark.Format s) ws e r h = front_in (Made format_seen (One format_of)) (Atom I) (λ us a d. inr (inr (inr (inr (inl d))))) ws e r ((exact_made Any format_seen (One format_of) (one format_of) (exact_one format_of)).sound ws e r h)
atom_sound_by I i kn (mark.Keyword s) ws e r h = front_in (Made constant_seen (One (valued keyword_of constant_of))) (Atom I) (λ us a d. inr (inr (inr (inr (inr (inl d)))))) ws e r ((exact_made Any constant_seen (One (valued keyword_of constant_of)) (one (valued keyword_of constant_of)) (exact_one (valued keyword_of constant_of))).sound ws e r h)
atom_sound_by I i kn (mark.Sign s) ws e r h = front_in (Bracket I) (Atom I) (λ us a d. inr (inr (inr (inr (inr (inr d)))))) ws e r ((exact_bracketed I i kn).sound ws e r h)
atom_sound_by I i kn mark.Other ws e r h = cc

atom_sound : (I : Kind → List Word → Seen → Type 0) (i : Inner) → Knows I i → (ws : List Word) (e : Seen) (r : List Word) → atom i ws ≡ Some (e, r) → Front (Atom I) ws e r
unfolding atom
atom_sound I i kn [] e r h = cc
atom_sound I i kn (w ∷ ws) e r h = atom_sound_by I i kn w.mark (w ∷ ws) e r h

-- which reader the first mark tells
atom_to : (i : Inner) (ws us : List Word) (m : Mark) (p : Place) → ws ≡ word m p ∷ us → atom i ws ≡ atom_by i m ws
unfolding atom
atom_to i ws us m p h = ap (atom i) h ∙ ap (atom_by i m) (sym h)

atom_sign : (i : Inner) (ws : List Word) (s : List ℕ) → Sign_first s ws → atom i ws ≡ bracketed i ws
atom_sign i ws s f = atom_to i ws f.rest (mark.Sign s) f.place f.whole

one_to : {A : Type 0} (i : Inner) (value : Mark → Option A) (rd : Read Seen) → ((m : Mark) (a : A) (ws : List Word) → value m ≡ Some a → atom_by i m ws ≡ rd ws) → (ws : List Word) (x : Place × A) (r : List Word) → One value ws x → atom i (ws ++ r) ≡ rd (ws ++ r)
one_to i value rd f ws x r d = atom_to i (ws ++ r) r d.mark_is x.0 (ap (λ z. z ++ r) d.whole) ∙ f d.mark_is x.1 (ws ++ r) d.valued

by_name : (i : Inner) (m : Mark) (a : List ℕ) (ws : List Word) → name_of m ≡ Some a → atom_by i m ws ≡ made name_seen (one name_of) ws
by_name i (mark.Name s) a ws h = refl
by_name i (mark.Keyword s) a ws h = cc
by_name i (mark.Number n) a ws h = cc
by_name i (mark.Decimal d) a ws h = cc
by_name i (mark.Str s) a ws h = cc
by_name i (mark.Format s) a ws h = cc
by_name i (mark.Sign s) a ws h = cc
by_name i mark.Other a ws h = cc

by_number : (i : Inner) (m : Mark) (a : ℕ) (ws : List Word) → number_of m ≡ Some a → atom_by i m ws ≡ number ws
by_number i (mark.Number n) a ws h = refl
by_number i (mark.Name s) a ws h = cc
by_number i (mark.Keyword s) a ws h = cc
by_number i (mark.Decimal d) a ws h = cc
by_number i (mark.Str s) a ws h = cc
by_number i (mark.Format s) a ws h = cc
by_number i (mark.Sign s) a ws h = cc
by_number i mark.Other a ws h = cc

by_decimal : (i : Inner) (m : Mark) (a : Decimal) (ws : List Word) → decimal_of m ≡ Some a → atom_by i m ws ≡ made decimal_seen (one decimal_of) ws
by_decimal i (mark.Decimal n) a ws h = refl
by_decimal i (mark.Name s) a ws h = cc
by_decimal i (mark.Keyword s) a ws h = cc
by_decimal i (mark.Number d) a ws h = cc
by_decimal i (mark.Str s) a ws h = cc
by_decimal i (mark.Format s) a ws h = cc
by_decimal i (mark.Sign s) a ws h = cc
by_decimal i mark.Other a ws h = cc

by_string : (i : Inner) (m : Mark) (a : List ℕ) (ws : List Word) → string_of m ≡ Some a → atom_by i m ws ≡ made string_seen (one string_of) ws
by_string i (mark.Str s) a ws h = refl
by_string i (mark.Name s) a ws h = cc
by_string i (mark.Keyword s) a ws h = cc
by_string i (mark.Number n) a ws h = cc
by_string i (mark.Decimal d) a ws h = cc
by_string i (mark.Format s) a ws h = cc
by_string i (mark.Sign s) a ws h = cc
by_string i mark.Other a ws h = cc

by_format : (i : Inner) (m : Mark) (a : List Piece) (ws : List Word) → format_of m ≡ Some a → atom_by i m ws ≡ made format_seen (one format_of) ws
by_format i (mark.Format s) a ws h = refl
by_format i (mark.Name s) a ws h = cc
by_format i (mark.Keyword s) a ws h = cc
by_format i (mark.Number n) a ws h = cc
by_format i (mark.Decimal d) a ws h = cc
by_format i (mark.Str s) a ws h = cc
by_format i (mark.Sign s) a ws h = cc
by_format i mark.Other a ws h = cc

by_constant : (i : Inner) (m : Mark) (a : Constant) (ws : List Word) → valued keyword_of constant_of m ≡ Some a → atom_by i m ws ≡ made constant_seen (one (valued keyword_of constant_of)) ws
by_constant i (mark.Keyword s) a ws h = refl
by_constant i (mark.Name s) a ws h = cc
by_constant i (mark.Number n) a ws h = cc
by_constant i (mark.Decimal d) a ws h = cc
by_constant i (mark.Str s) a ws h = cc
by_constant i (mark.Format s) a ws h = cc
by_constant i (mark.Sign s) a ws h = cc
by_constant i mark.Other a ws h = cc

number_to : (i : Inner) (ws : List Word) (x : (Place × ℕ) × Option (Place × Amount)) (r : List Word) → Then (One number_of) (Maybe (Signed (codes "/") ▸ AmountOf)) ws x → atom i (ws ++ r) ≡ number (ws ++ r)
number_to i ws x r d = then_first (λ ws. atom i ws ≡ number ws) (One number_of) (Maybe (Signed (codes "/") ▸ AmountOf)) (λ us a r d. one_to i number_of number (by_number i) us a r d) ws x r d

atom_complete : (I : Kind → List Word → Seen → Type 0) (i : Inner) → Knows I i → (ws : List Word) (e : Seen) (r : List Word) → Atom I ws e → No_slash r → atom i (ws ++ r) ≡ Some (e, r)
atom_complete I i kn ws e r (inl d) h = one_to i name_of (made name_seen (one name_of)) (by_name i) ws d.from r d.derived ∙ (exact_made Any name_seen (One name_of) (one name_of) (exact_one name_of)).complete ws e r d tt
atom_complete I i kn ws e r (inr (inl d)) h = number_to i ws d.from r d.derived ∙ exact_number.complete ws e r d h
atom_complete I i kn ws e r (inr (inr (inl d))) h = one_to i decimal_of (made decimal_seen (one decimal_of)) (by_decimal i) ws d.from r d.derived ∙ (exact_made Any decimal_seen (One decimal_of) (one decimal_of) (exact_one decimal_of)).complete ws e r d tt
atom_complete I i kn ws e r (inr (inr (inr (inl d)))) h = one_to i string_of (made string_seen (one string_of)) (by_string i) ws d.from r d.derived ∙ (exact_made Any string_seen (One string_of) (one string_of) (exact_one string_of)).complete ws e r d tt
atom_complete I i kn ws e r (inr (inr (inr (inr (inl d))))) h = one_to i format_of (made format_seen (one format_of)) (by_format i) ws d.from r d.derived ∙ (exact_made Any format_seen (One format_of) (one format_of) (exact_one format_of)).complete ws e r d tt
atom_complete I i kn ws e r (inr (inr (inr (inr (inr (inl d)))))) h = one_to i (valued keyword_of constant_of) (made constant_seen (one (valued keyword_of constant_of))) (by_constant i) ws d.from r d.derived ∙ (exact_made Any constant_seen (One (valued keyword_of constant_of)) (one (valued keyword_of constant_of)) (exact_one (valued keyword_of constant_of))).complete ws e r d tt
atom_complete I i kn ws e r (inr (inr (inr (inr (inr (inr (inl d))))))) h = atom_sign i (ws ++ r) (codes "(") (round_first I ws e r d) ∙ (exact_bracketed I i kn).complete ws e r (inl d) tt
atom_complete I i kn ws e r (inr (inr (inr (inr (inr (inr (inr (inl d)))))))) h = atom_sign i (ws ++ r) (codes "[") (square_first I ws e r d) ∙ (exact_bracketed I i kn).complete ws e r (inr (inl d)) tt
atom_complete I i kn ws e r (inr (inr (inr (inr (inr (inr (inr (inr d)))))))) h = atom_sign i (ws ++ r) (codes "{") (curly_first I ws e r d) ∙ (exact_bracketed I i kn).complete ws e r (inr (inr d)) tt

exact_atom : (I : Kind → List Word → Seen → Type 0) (i : Inner) → Knows I i → Exact No_slash (Atom I) (atom i)
exact_atom I i kn = record { sound = atom_sound I i kn; complete = atom_complete I i kn }

-- ---- arguments

record Named_first (ws : List Word) : Type 0 where
  name : List ℕ
  place : Place
  equals : Place
  rest : List Word
  whole : ws ≡ word (mark.Name name) place ∷ word (mark.Sign (codes "=")) equals ∷ rest

named_mark : (m : Mark) → is_some (name_of m) ≡ true → (n : List ℕ) × (m ≡ mark.Name n)
named_mark (mark.Name s) h = (s, refl)
named_mark (mark.Keyword s) h = cc
named_mark (mark.Number n) h = cc
named_mark (mark.Decimal d) h = cc
named_mark (mark.Str s) h = cc
named_mark (mark.Format s) h = cc
named_mark (mark.Sign s) h = cc
named_mark mark.Other h = cc

named_first : (ws : List Word) → is_named ws ≡ true → Named_first ws
unfolding is_named
named_first [] h = cc
named_first (w ∷ r) h = let m = named_mark w.mark (and_first (is_some (name_of w.mark)) (next_sign (codes "=") r) h) in let f = sign_first (codes "=") r (and_second (is_some (name_of w.mark)) (next_sign (codes "=") r) h) in record { name = m.0; place = w.place; equals = f.place; rest = f.rest; whole = ap (λ z. word z w.place ∷ r) m.1 ∙ ap (λ z. word (mark.Name m.0) w.place ∷ z) f.whole }

-- an expression before anything but `=` is no name before `=`
not_named : (I : Kind → List Word → Seen → Type 0) (i : Inner) → Knows I i → (ws : List Word) (e : Seen) (r : List Word) → I an_expr ws e → After 12 r → is_named (ws ++ r) ≡ false
not_named I i kn ws e r d h = refuted (is_named (ws ++ r)) (λ t.
    let f = named_first (ws ++ r) t in
    let n = kn.named ws e d f.name f.place in
    let tail : List Word = word (mark.Sign (codes "=")) f.equals ∷ f.rest in
    let one_way : i an_expr (ws ++ r) ≡ Some (e, r) = (kn.exact an_expr).complete ws e r d (omega arith) in
    let other_way : i an_expr (word (mark.Name f.name) f.place ∷ tail) ≡ Some (n.0, tail) = (kn.exact an_expr).complete (word (mark.Name f.name) f.place ∷ []) n.0 tail n.1 (omega arith) in
    let u : Seen × List Word = (e, r) in
    let v : Seen × List Word = (n.0, tail) in
    let same : u ≡ v = some_same u v (sym one_way ∙ (ap (i an_expr) f.whole ∙ other_way)) in
    let twelve : rank r ≡ 12 = ap (λ (z : Seen × List Word). rank z.1) same in omega arith)

keyword_first : (I : Kind → List Word → Seen → Type 0) (ws : List Word) (x : (Place × List ℕ) × (Place × Seen)) (r : List Word) → Then (One name_of) (Signed (codes "=") ▸ I an_expr) ws x → is_named (ws ++ r) ≡ true
unfolding is_named
keyword_first I ws x r d = let o = d.first in let s = d.second.first in
    ap is_named (ap (λ z. z ++ r) d.whole ∙ (append_assoc d.front d.back r ∙ ap (λ z. z ++ (d.back ++ r)) o.whole))
    ∙ (ap (λ z. is_some z && next_sign (codes "=") (d.back ++ r)) o.valued
    ∙ sign_there (codes "=") (d.back ++ r) (signed_first (codes "=") (I an_expr) d.back x.1 r d.second))

arg_star : (I : Kind → List Word → Seen → Type 0) (ws : List Word) (x : Place × Seen) (r : List Word) → Then (Signed (codes "*")) (I an_expr) ws x → Sign_first (codes "*") (ws ++ r)
arg_star I ws x r d = signed_first (codes "*") (I an_expr) ws x r d

key_no_star : (I : Kind → List Word → Seen → Type 0) (ws : List Word) (x : (Place × List ℕ) × (Place × Seen)) (r : List Word) → Then (One name_of) (Signed (codes "=") ▸ I an_expr) ws x → lead (ws ++ r) ≤ 0
key_no_star I ws x r d = then_first (λ ws. lead ws ≤ 0) (One name_of) (Signed (codes "=") ▸ I an_expr) (λ us a r d. one_lead name_of 0 name_lead us a r d) ws x r d

exact_arg : (I : Kind → List Word → Seen → Type 0) (i : Inner) → Knows I i → Exact (After 12) (Arg I) (arg i)
unfolding arg
exact_arg I i kn =
    let ex : Exact (After 12) (I an_expr) (i an_expr) = exact_weaken (After 11) (After 12) (I an_expr) (i an_expr) (kn.exact an_expr) (λ r h. omega arith) in
    exact_choose (After 12) (next_sign (codes "*")) (Made starred_seen (Signed (codes "*") ▸ I an_expr)) (Made keyword_seen (One name_of ▸ (Signed (codes "=") ▸ I an_expr)) ∣ Made positional_seen (I an_expr)) _ _
    (exact_made (After 12) starred_seen (Signed (codes "*") ▸ I an_expr) (sign (codes "*") ▹ i an_expr) (exact_then Any (After 12) (Signed (codes "*")) (I an_expr) (sign (codes "*")) (i an_expr) (exact_sign (codes "*")) ex (λ us b r d h. tt)))
    (exact_choose (After 12) is_named (Made keyword_seen (One name_of ▸ (Signed (codes "=") ▸ I an_expr))) (Made positional_seen (I an_expr)) _ _
    (exact_made (After 12) keyword_seen (One name_of ▸ (Signed (codes "=") ▸ I an_expr)) (one name_of ▹ (sign (codes "=") ▹ i an_expr)) (exact_then Any (After 12) (One name_of) (Signed (codes "=") ▸ I an_expr) (one name_of) (sign (codes "=") ▹ i an_expr) (exact_one name_of) (exact_then Any (After 12) (Signed (codes "=")) (I an_expr) (sign (codes "=")) (i an_expr) (exact_sign (codes "=")) ex (λ us b r d h. tt)) (λ us b r d h. tt)))
    (exact_made (After 12) positional_seen (I an_expr) (i an_expr) ex)
    (λ ws a r d h. keyword_first I ws d.from r d.derived)
    (λ ws a r d h. not_named I i kn ws d.from r d.derived h))
    (λ ws a r d h. sign_there (codes "*") (ws ++ r) (arg_star I ws d.from r d.derived))
    (λ ws a r d h. elim d [ inl d ↦ sign_by_lead (codes "*") (ws ++ r) 0 (key_no_star I ws d.from r d.derived) (omega arith) | inr d ↦ sign_by_lead (codes "*") (ws ++ r) 3 (kn.leads an_expr ws d.from r d.derived) (omega arith) ])

pub or_second : (a b : Bool) → b ≡ true → (a || b) ≡ true
or_second true b h = refl
or_second false b h = h

pub or_first : (a b : Bool) → a ≡ true → (a || b) ≡ true
or_first a b h = ap (λ z. z || b) h

arg_begins : (I : Kind → List Word → Seen → Type 0) (i : Inner) → Knows I i → (ws : List Word) (a : Deep Argument) (r : List Word) → Arg I ws a → begins_argument (ws ++ r) ≡ true
unfolding begins_argument
arg_begins I i kn ws a r (inl d) = or_first (next_sign (codes "*") (ws ++ r)) (begins (ws ++ r)) (sign_there (codes "*") (ws ++ r) (arg_star I ws d.from r d.derived))
arg_begins I i kn ws a r (inr (inl d)) = or_second (next_sign (codes "*") (ws ++ r)) (begins (ws ++ r)) (begins_lead (ws ++ r) (let h = key_no_star I ws d.from r d.derived in omega arith))
arg_begins I i kn ws a r (inr (inr d)) = or_second (next_sign (codes "*") (ws ++ r)) (begins (ws ++ r)) (begins_lead (ws ++ r) (kn.leads an_expr ws d.from r d.derived))

arg_not_close : (I : Kind → List Word → Seen → Type 0) (i : Inner) → Knows I i → (ws : List Word) (a : Deep Argument) (r : List Word) → Arg I ws a → next_sign (codes ")") (ws ++ r) ≡ false
arg_not_close I i kn ws a r (inl d) = ap (next_sign (codes ")")) (arg_star I ws d.from r d.derived).whole
arg_not_close I i kn ws a r (inr (inl d)) = sign_by_lead (codes ")") (ws ++ r) 0 (key_no_star I ws d.from r d.derived) (omega arith)
arg_not_close I i kn ws a r (inr (inr d)) = sign_by_lead (codes ")") (ws ++ r) 3 (kn.leads an_expr ws d.from r d.derived) (omega arith)

args_end : (r : List Word) → Sign_first (codes ")") r → After_others (After 12) begins_argument r
unfolding begins_argument begins begins_mark
args_end r f = record { list = record { ends = sign_after (codes ")") 12 r (omega arith) f; no_comma = ap (next_sign (codes ",")) f.whole; not_begun = ap begins_argument f.whole }; no_if = sign_after (codes ")") 11 r (omega arith) f; no_for = ap (next_key (codes "for")) f.whole }

exact_args : (I : Kind → List Word → Seen → Type 0) (i : Inner) → Knows I i → Exact (Sign_first (codes ")")) (Args I) (args i)
unfolding args
exact_args I i kn = exact_such (Sign_first (codes ")")) args_fit (Arg I ▸ Others I (Arg I)) (arg i ▹ others i begins_argument (arg i))
    (exact_weaken (After_others (After 12) begins_argument) (Sign_first (codes ")")) (Arg I ▸ Others I (Arg I)) (arg i ▹ others i begins_argument (arg i))
    (exact_then (After 12) (After_others (After 12) begins_argument) (Arg I) (Others I (Arg I)) (arg i) (others i begins_argument (arg i)) (exact_arg I i kn)
    (exact_others I i kn (After 12) begins_argument (Arg I) (arg i) (exact_arg I i kn) (comma_after 12 (omega arith)) (arg_begins I i kn))
    (λ us x r d h. others_hold (After 12) I (Arg I) (comma_after 12 (omega arith)) (λ p r. omega arith) us x r d h.list.ends))
    args_end)

pub exact_call : (I : Kind → List Word → Seen → Type 0) (i : Inner) → Knows I i → Exact Any (Made (λ x. call_seen x.1.0) (Signed (codes "(") ▸ (Maybe (Args I) ▸ Signed (codes ")")))) (call i)
unfolding call
exact_call I i kn = exact_made Any (λ x. call_seen x.1.0) _ _ (exact_bracket (codes "(") (codes ")") (Args I) (args i) (exact_args I i kn)
    (λ ws a r d. then_first (λ ws. next_sign (codes ")") ws ≡ false) (Arg I) (Others I (Arg I)) (arg_not_close I i kn) ws a r d.derived))

-- ---- indices

record After_part (r : List Word) : Type 0 where
  ends : After 11 r
  not_begun : begins r ≡ false

exact_part : (I : Kind → List Word → Seen → Type 0) (i : Inner) → Knows I i → Exact After_part (Maybe (I an_expr)) (perhaps_expr i)
unfolding perhaps_expr
exact_part I i kn = exact_maybe (After 11) After_part begins (I an_expr) (i an_expr) (kn.exact an_expr) (λ r h. h.ends) (λ ws a r d h. begins_lead (ws ++ r) (kn.leads an_expr ws a r d)) (λ r h. h.not_begun)

part_at : (s : List ℕ) → 11 < sign_rank s → begins_mark (mark.Sign s) ≡ false → (r : List Word) → Sign_first s r → After_part r
unfolding begins
part_at s h b r f = record { ends = sign_after s 11 r h f; not_begun = ap begins f.whole ∙ b }

colon_or_end : {A : Type 0} (D : List Word → A → Type 0) (us : List Word) (o : Option (Place × A)) (r : List Word) → Maybe (Signed (codes ":") ▸ D) us o → Sign_first (codes "]") r → After_part (us ++ r)
colon_or_end D us o r (not_there) h = part_at (codes "]") (omega arith) not_square r h
colon_or_end D us o r (there {x = x} d) h = part_at (codes ":") (omega arith) not_colon (us ++ r) (signed_first (codes ":") D us x r d)

exact_colon : {A : Type 0} (D : List Word → A → Type 0) (rd : Read A) → Exact (Sign_first (codes "]")) D rd → Exact (Sign_first (codes "]")) (Maybe (Signed (codes ":") ▸ D)) (maybe (next_sign (codes ":")) (sign (codes ":") ▹ rd))
exact_colon D rd e = exact_maybe (Sign_first (codes "]")) (Sign_first (codes "]")) (next_sign (codes ":")) (Signed (codes ":") ▸ D) (sign (codes ":") ▹ rd)
    (exact_then Any (Sign_first (codes "]")) (Signed (codes ":")) D (sign (codes ":")) rd (exact_sign (codes ":")) e (λ us b r d h. tt))
    (λ r h. h) (λ ws x r d h. sign_there (codes ":") (ws ++ r) (signed_first (codes ":") D ws x r d)) (λ r h. ap (next_sign (codes ":")) h.whole)

exact_index : (I : Kind → List Word → Seen → Type 0) (i : Inner) → Knows I i → Exact (Sign_first (codes "]")) (IndexRule I) (index i)
unfolding index
exact_index I i kn =
    let part : Exact (Sign_first (codes "]")) (Maybe (I an_expr)) (perhaps_expr i) = exact_weaken After_part (Sign_first (codes "]")) (Maybe (I an_expr)) (perhaps_expr i) (exact_part I i kn) (part_at (codes "]") (omega arith) not_square) in
    let last = exact_colon (Maybe (I an_expr)) (perhaps_expr i) part in
    let middle = exact_then After_part (Sign_first (codes "]")) (Maybe (I an_expr)) (Maybe (Signed (codes ":") ▸ Maybe (I an_expr))) (perhaps_expr i) (step i) (exact_part I i kn) last (colon_or_end (Maybe (I an_expr))) in
    let both = exact_colon (Maybe (I an_expr) ▸ Maybe (Signed (codes ":") ▸ Maybe (I an_expr))) (perhaps_expr i ▹ step i) middle in
    exact_made (Sign_first (codes "]")) index_seen _ _ (exact_such (Sign_first (codes "]")) index_fits _ _
    (exact_then After_part (Sign_first (codes "]")) (Maybe (I an_expr)) (Maybe (Signed (codes ":") ▸ (Maybe (I an_expr) ▸ Maybe (Signed (codes ":") ▸ Maybe (I an_expr))))) (perhaps_expr i) (stop i) (exact_part I i kn) both (colon_or_end (Maybe (I an_expr) ▸ Maybe (Signed (codes ":") ▸ Maybe (I an_expr))))))

-- ---- trailers

trail_holds : (t : List Word → Type 0) → ((p : Place) (r : List Word) → t (word (mark.Sign (codes ".")) p ∷ r)) → ((p : Place) (r : List Word) → t (word (mark.Sign (codes "(")) p ∷ r)) → ((p : Place) (r : List Word) → t (word (mark.Sign (codes "[")) p ∷ r)) → (I : Kind → List Word → Seen → Type 0) (ws : List Word) (a : Deep Trailer) (r : List Word) → Trail I ws a → t (ws ++ r)
trail_holds t a b c I ws x r (inl d) = let f = signed_first (codes ".") (One name_of) ws d.from r d.derived in subst t (sym f.whole) (a f.place f.rest)
trail_holds t a b c I ws x r (inr (inl d)) = let f = signed_first (codes "(") (Maybe (Args I) ▸ Signed (codes ")")) ws d.from r d.derived in subst t (sym f.whole) (b f.place f.rest)
trail_holds t a b c I ws x r (inr (inr d)) = let f = signed_first (codes "[") (IndexRule I ▸ Signed (codes "]")) ws d.from r d.derived in subst t (sym f.whole) (c f.place f.rest)

exact_trail : (I : Kind → List Word → Seen → Type 0) (i : Inner) → Knows I i → Exact Any (Trail I) (trail i)
unfolding trail indexed
exact_trail I i kn = exact_choose Any (next_sign (codes ".")) (Made attribute_seen (Signed (codes ".") ▸ One name_of)) _ attribute _
    (exact_made Any attribute_seen (Signed (codes ".") ▸ One name_of) (sign (codes ".") ▹ one name_of) (exact_then Any Any (Signed (codes ".")) (One name_of) (sign (codes ".")) (one name_of) (exact_sign (codes ".")) (exact_one name_of) (λ us b r d h. tt)))
    (exact_choose Any (next_sign (codes "(")) (Made (λ x. call_seen x.1.0) (Signed (codes "(") ▸ (Maybe (Args I) ▸ Signed (codes ")")))) (Made bracketed_index (Signed (codes "[") ▸ (IndexRule I ▸ Signed (codes "]")))) (call i) (indexed i)
    (exact_call I i kn)
    (exact_made Any bracketed_index (Signed (codes "[") ▸ (IndexRule I ▸ Signed (codes "]"))) (sign (codes "[") ▹ (index i ▹ sign (codes "]"))) (exact_then Any Any (Signed (codes "[")) (IndexRule I ▸ Signed (codes "]")) (sign (codes "[")) (index i ▹ sign (codes "]")) (exact_sign (codes "["))
    (exact_then (Sign_first (codes "]")) Any (IndexRule I) (Signed (codes "]")) (index i) (sign (codes "]")) (exact_index I i kn) (exact_sign (codes "]")) (λ us p r d h. record { place = p; rest = r; whole = ap (λ z. z ++ r) d.whole }))
    (λ us b r d h. tt)))
    (λ ws a r d h. sign_there (codes "(") (ws ++ r) (signed_first (codes "(") (Maybe (Args I) ▸ Signed (codes ")")) ws d.from r d.derived))
    (λ ws a r d h. ap (next_sign (codes "(")) (signed_first (codes "[") (IndexRule I ▸ Signed (codes "]")) ws d.from r d.derived).whole))
    (λ ws a r d h. sign_there (codes ".") (ws ++ r) (signed_first (codes ".") (One name_of) ws d.from r d.derived))
    (λ ws a r d h. trail_later I ws a r d)
  where
    trail_later : (I : Kind → List Word → Seen → Type 0) (ws : List Word) (a : Deep Trailer) (r : List Word) → (Made (λ x. call_seen x.1.0) (Signed (codes "(") ▸ (Maybe (Args I) ▸ Signed (codes ")"))) ∣ Made bracketed_index (Signed (codes "[") ▸ (IndexRule I ▸ Signed (codes "]")))) ws a → next_sign (codes ".") (ws ++ r) ≡ false
    trail_later I ws a r (inl d) = ap (next_sign (codes ".")) (signed_first (codes "(") (Maybe (Args I) ▸ Signed (codes ")")) ws d.from r d.derived).whole
    trail_later I ws a r (inr d) = ap (next_sign (codes ".")) (signed_first (codes "[") (IndexRule I ▸ Signed (codes "]")) ws d.from r d.derived).whole

trails_there : (I : Kind → List Word → Seen → Type 0) (ws : List Word) (a : Deep Trailer) (r : List Word) → Trail I ws a → trails (ws ++ r) ≡ true
unfolding trails
trails_there I ws a r d = trail_holds (λ ws. trails ws ≡ true) (λ p r. refl) (λ p r. refl) (λ p r. refl) I ws a r d

trails_end : (r : List Word) → After 0 r → trails r ≡ false
unfolding trails
trails_end r h = let a = sign_by_rank (codes ".") r 0 h (omega arith) in let b = sign_by_rank (codes "(") r 0 h (omega arith) in let c = sign_by_rank (codes "[") r 0 h (omega arith) in ap (λ z. z || next_sign (codes "(") r || next_sign (codes "[") r) a ∙ (ap (λ z. z || next_sign (codes "[") r) b ∙ c)

trails_nothing : trails [] ≡ false
unfolding trails
trails_nothing = refl

trail_long : (I : Kind → List Word → Seen → Type 0) (ws : List Word) (a : Deep Trailer) → Trail I ws a → 0 < length ws
trail_long I [] a d = let e = trails_there I [] a [] d in let n = trails_nothing in cc
trail_long I (w ∷ ws) a d = omega arith

trail_runs : (I : Kind → List Word → Seen → Type 0) (i : Inner) → Knows I i → Runs Any (After 0) (Trail I) trails (trail i)
trail_runs I i kn = record { exact = exact_trail I i kn; length_there = trail_long I; goes_on = trails_there I; ends = trails_end; at_end = λ r h. tt; at_next = λ ws a r d. tt }

trailed_on : (I : Kind → List Word → Seen → Type 0) (us : List Word) (xs : List (Deep Trailer)) (r : List Word) → Many (Trail I) us xs → After 0 r → No_slash (us ++ r)
trailed_on I us xs r (no_more) h = sign_by_rank (codes "/") r 0 h (omega arith)
trailed_on I us xs r (one_more {ws = vs} {us = ys} {x = x} d m) h = subst No_slash (sym (append_assoc vs ys r)) (trail_holds No_slash (λ p r. refl) (λ p r. refl) (λ p r. refl) I vs x (ys ++ r) d)

pub exact_primary : (I : Kind → List Word → Seen → Type 0) (i : Inner) → Knows I i → Exact (After 0) (Primary I) (primary i)
unfolding primary
exact_primary I i kn = exact_made (After 0) primary_seen (Atom I ▸ Made all_of (Many (Trail I))) (atom i ▹ many trails (trail i) and_one ([], 0))
    (exact_then No_slash (After 0) (Atom I) (Made all_of (Many (Trail I))) (atom i) (many trails (trail i) and_one ([], 0)) (exact_atom I i kn)
    (exact_many Any (After 0) (Trail I) trails (trail i) and_one ([], 0) (trail_runs I i kn))
    (λ us b r d h. trailed_on I us d.from r d.derived h))

pub primary_leads : (I : Kind → List Word → Seen → Type 0) (ws : List Word) (e : Seen) (r : List Word) → Primary I ws e → lead (ws ++ r) ≤ 0
primary_leads I ws e r d = then_first (λ ws. lead ws ≤ 0) (Atom I) (Made all_of (Many (Trail I))) (atom_leads I) ws d.from r d.derived
