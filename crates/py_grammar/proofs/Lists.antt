-- Lists with commas, brackets and comprehensions are read exactly.
use Rattle.std.proofs.Common.{◌≡◌, ℕ, ◌<◌, ◌≤◌, refl, sym, ap, subst, ◌∙◌, List, [], ◌∷◌, ◌++◌, append_assoc, length, Option, arith, inl, inr}
use Rattle.std.specs.Prelude.{Bool, true, false, not, ◌&&◌, codes}
use Rattle.amh_host.specs.declared.place.Place.{Place}
use Rattle.py_tree.specs.Tree.{Tree, Each}
use Rattle.py_grammar.specs.declared.word.Word.{Word}
use Rattle.py_grammar.specs.declared.word.Mark.TheVariants as mark
use Rattle.py_grammar.specs.declared.word.Kind.{Kind}
use Rattle.py_grammar.specs.declared.word.Kind.TheVariants.{Target as a_target, Unary as a_unary, Not as a_not, Or as an_or, Expr as an_expr}
use Rattle.py_grammar.specs.Words.{word, next_sign, next_key}
use Rattle.py_grammar.specs.Forms.{Signed, Keyed, Then, ◌▸◌, Made, Maybe, not_there, there, Many, no_more, one_more}
use Rattle.py_grammar.specs.Readers.{Read, sign, key, ◌▹◌, made, maybe, many}
use Rattle.py_grammar.specs.Seen.{Seen, Deep, Listed, Rest, over, more, and_one, all_of, after_comma, tuple_seen, pair_seen, each_seen}
use Rattle.py_grammar.specs.Grammar.{More, Plain, Items, Comp, Others, Pair}
use Rattle.py_grammar.specs.Reading.{Inner, begins, begins_mark, comma_then, more_of, plain_of, items, if_part, comp, others, pair, inside}
use Rattle.py_grammar.proofs.Exact.{Exact, Any, exact_sign, exact_key, exact_then, exact_made, exact_choose, exact_maybe, text_itself}
use Rattle.py_grammar.proofs.Runs.{Runs, exact_many}
use Rattle.py_grammar.proofs.Ends.{rank, sign_rank, key_rank, lead, Sign_first, Key_first, key_by_rank, begins_lead}

-- nothing of the levels up to n goes on
abbrev pub After : ℕ → List Word → Type 0
After n r = n < rank r

abbrev pub kind_rank : Kind → ℕ
kind_rank a_target = 0
kind_rank a_unary = 1
kind_rank a_not = 8
kind_rank an_or = 10
kind_rank an_expr = 11

-- what is known of the rules and the readers of one bracket deeper
pub record Knows (I : Kind → List Word → Seen → Type 0) (i : Inner) : Type 0 where
  pub exact : (k : Kind) → Exact (After (kind_rank k)) (I k) (i k)
  pub leads : (k : Kind) (ws : List Word) (e : Seen) (r : List Word) → I k ws e → lead (ws ++ r) ≤ 3
  pub named : (ws : List Word) (e : Seen) → I an_expr ws e → (n : List ℕ) (p : Place) → (e' : Seen) × I an_expr (word (mark.Name n) p ∷ []) e'

pub exact_weaken : {A : Type 0} (E F : List Word → Type 0) (D : List Word → A → Type 0) (rd : Read A) → Exact E D rd → ((r : List Word) → F r → E r) → Exact F D rd
exact_weaken E F D rd e f = record { sound = e.sound; complete = λ ws a r d h. e.complete ws a r d (f r h) }

-- ---- first words

pub then_first : {A B : Type 0} (t : List Word → Type 0) (D1 : List Word → A → Type 0) (D2 : List Word → B → Type 0) → ((us : List Word) (a : A) (r : List Word) → D1 us a → t (us ++ r)) → (ws : List Word) (x : A × B) (r : List Word) → Then D1 D2 ws x → t (ws ++ r)
then_first t D1 D2 f ws x r d = subst t (sym (ap (λ z. z ++ r) d.whole ∙ append_assoc d.front d.back r)) (f d.front x.0 (d.back ++ r) d.first)

abbrev pub signed_is : (s : List ℕ) (ws : List Word) (p : Place) (r : List Word) → Signed s ws p → Sign_first s (ws ++ r)
signed_is s ws p r d = record { place = p; rest = r; whole = ap (λ z. z ++ r) d.whole }

abbrev pub keyed_is : (s : List ℕ) (ws : List Word) (p : Place) (r : List Word) → Keyed s ws p → Key_first s (ws ++ r)
keyed_is s ws p r d = record { place = p; rest = r; whole = ap (λ z. z ++ r) d.whole }

pub signed_first : {B : Type 0} (s : List ℕ) (D : List Word → B → Type 0) (ws : List Word) (x : Place × B) (r : List Word) → Then (Signed s) D ws x → Sign_first s (ws ++ r)
signed_first s D ws x r d = then_first (Sign_first s) (Signed s) D (signed_is s) ws x r d

pub keyed_first : {B : Type 0} (s : List ℕ) (D : List Word → B → Type 0) (ws : List Word) (x : Place × B) (r : List Word) → Then (Keyed s) D ws x → Key_first s (ws ++ r)
keyed_first s D ws x r d = then_first (Key_first s) (Keyed s) D (keyed_is s) ws x r d

pub sign_after : (s : List ℕ) (n : ℕ) (ws : List Word) → n < sign_rank s → Sign_first s ws → n < rank ws
sign_after s n ws h f = subst (λ x. n < x) (sym (ap rank f.whole)) h

pub key_after : (s : List ℕ) (n : ℕ) (ws : List Word) → n < key_rank s → Key_first s ws → n < rank ws
key_after s n ws h f = subst (λ x. n < x) (sym (ap rank f.whole)) h

pub sign_there : (s : List ℕ) (ws : List Word) → Sign_first s ws → next_sign s ws ≡ true
sign_there s ws f = ap (next_sign s) f.whole ∙ text_itself s

pub key_there : (s : List ℕ) (ws : List Word) → Key_first s ws → next_key s ws ≡ true
key_there s ws f = ap (next_key s) f.whole ∙ text_itself s

-- ---- things with a comma before each

abbrev comma : List ℕ
comma = codes ","

abbrev pub Item : {A : Type 0} → (List Word → Deep A → Type 0) → List Word → Deep A → Type 0
Item D = Made after_comma (Signed (codes ",") ▸ D)

pub record After_list (E : List Word → Type 0) (test : List Word → Bool) (r : List Word) : Type 0 where
  pub ends : E r
  pub no_comma : next_sign (codes ",") r ≡ false
  pub not_begun : test r ≡ false

pub record After_items (E : List Word → Type 0) (test : List Word → Bool) (r : List Word) : Type 0 where
  pub ends : E r
  pub no_item : comma_then test r ≡ false

item_first : {A : Type 0} (D : List Word → Deep A → Type 0) (ws : List Word) (x : Deep A) (r : List Word) → Item D ws x → Sign_first (codes ",") (ws ++ r)
item_first D ws x r d = signed_first (codes ",") D ws d.from r d.derived

item_goes : {A : Type 0} (test : List Word → Bool) (D : List Word → Deep A → Type 0) → ((ws : List Word) (a : Deep A) (r : List Word) → D ws a → test (ws ++ r) ≡ true) → (ws : List Word) (x : Deep A) (r : List Word) → Item D ws x → comma_then test (ws ++ r) ≡ true
unfolding comma_then
item_goes test D t ws x r d = let th = d.derived in let e : ws ++ r ≡ word (mark.Sign (codes ",")) d.from.0 ∷ (th.back ++ r) = ap (λ z. z ++ r) th.whole ∙ (append_assoc th.front th.back r ∙ ap (λ z. z ++ (th.back ++ r)) th.first.whole) in ap (comma_then test) e ∙ t th.back d.from.1 r th.second

pub sign_long : (s : List ℕ) (ws : List Word) → Sign_first s (ws ++ []) → 0 < length ws
sign_long s [] f = let e = f.whole in cc
sign_long s (w ∷ ws) f = omega arith

no_item_of : (test : List Word → Bool) (r : List Word) → next_sign (codes ",") r ≡ false → comma_then test r ≡ false
unfolding comma_then
no_item_of test [] h = refl
no_item_of test (w ∷ r) h = ap (λ b. b && test r) h

comma_no_item : (test : List Word → Bool) (p : Place) (r : List Word) → test r ≡ false → comma_then test (word (mark.Sign (codes ",")) p ∷ r) ≡ false
unfolding comma_then
comma_no_item test p r h = h

comma_runs : {A : Type 0} (E : List Word → Type 0) (test : List Word → Bool) (D : List Word → Deep A → Type 0) (rd : Read (Deep A)) → Exact E D rd → ((p : Place) (r : List Word) → E (word (mark.Sign (codes ",")) p ∷ r)) → ((ws : List Word) (a : Deep A) (r : List Word) → D ws a → test (ws ++ r) ≡ true) → Runs E (After_items E test) (Item D) (comma_then test) (made after_comma (sign (codes ",") ▹ rd))
comma_runs E test D rd e c t = record {
  exact = exact_made E after_comma (Signed (codes ",") ▸ D) (sign (codes ",") ▹ rd) (exact_then Any E (Signed (codes ",")) D (sign (codes ",")) rd (exact_sign (codes ",")) e (λ us b r d h. tt));
  length_there = λ ws a d. sign_long (codes ",") ws (item_first D ws a [] d);
  goes_on = item_goes test D t;
  ends = λ r f. f.no_item;
  at_end = λ r f. f.ends;
  at_next = λ ws a r d. let f = item_first D ws a r d in subst E (sym f.whole) (c f.place f.rest);
}

pub last_follows : (E : List Word → Type 0) (test : List Word → Bool) → ((p : Place) (r : List Word) → E (word (mark.Sign (codes ",")) p ∷ r)) → (us : List Word) (o : Option Place) (r : List Word) → Maybe (Signed (codes ",")) us o → After_list E test r → After_items E test (us ++ r)
last_follows E test c us o r (not_there) h = record { ends = h.ends; no_item = no_item_of test r h.no_comma }
last_follows E test c us o r (there {x = p} d) h = let f = signed_is (codes ",") us p r d in subst (After_items E test) (sym f.whole) (record { ends = c f.place f.rest; no_item = comma_no_item test p r h.not_begun })

pub exact_more : {A : Type 0} (E : List Word → Type 0) (test : List Word → Bool) (D : List Word → Deep A → Type 0) (rd : Read (Deep A)) → Exact E D rd → ((p : Place) (r : List Word) → E (word (mark.Sign (codes ",")) p ∷ r)) → ((ws : List Word) (a : Deep A) (r : List Word) → D ws a → test (ws ++ r) ≡ true) → Exact (After_list E test) (More D) (more_of test rd)
exact_more E test D rd e c t = exact_then (After_items E test) (After_list E test) (Made all_of (Many (Item D))) (Maybe (Signed (codes ","))) (many (comma_then test) (made after_comma (sign (codes ",") ▹ rd)) and_one ([], 0)) (maybe (next_sign (codes ",")) (sign (codes ",")))
    (exact_many E (After_items E test) (Item D) (comma_then test) (made after_comma (sign (codes ",") ▹ rd)) and_one ([], 0) (comma_runs E test D rd e c t))
    (exact_maybe Any (After_list E test) (next_sign (codes ",")) (Signed (codes ",")) (sign (codes ",")) (exact_sign (codes ",")) (λ r h. tt) (λ ws p r d h. sign_there (codes ",") (ws ++ r) (signed_is (codes ",") ws p r d)) (λ r h. h.no_comma))
    (last_follows E test c)

-- what holds of a comma and of the words behind holds of the words of a list
many_hold : {A : Type 0} (t : List Word → Type 0) (D : List Word → Deep A → Type 0) → ((p : Place) (r : List Word) → t (word (mark.Sign (codes ",")) p ∷ r)) → (us : List Word) (xs : List (Deep A)) (r : List Word) → Many (Item D) us xs → t r → t (us ++ r)
many_hold t D c us xs r (no_more) h = h
many_hold t D c us xs r (one_more {ws = vs} {us = ys} {x = x} d m) h = let f = item_first D vs x (ys ++ r) d in subst t (sym (append_assoc vs ys r ∙ f.whole)) (c f.place f.rest)

last_holds : (t : List Word → Type 0) → ((p : Place) (r : List Word) → t (word (mark.Sign (codes ",")) p ∷ r)) → (us : List Word) (o : Option Place) (r : List Word) → Maybe (Signed (codes ",")) us o → t r → t (us ++ r)
last_holds t c us o r (not_there) h = h
last_holds t c us o r (there {x = p} d) h = let f = signed_is (codes ",") us p r d in subst t (sym f.whole) (c f.place f.rest)

pub more_holds : {A : Type 0} (t : List Word → Type 0) (D : List Word → Deep A → Type 0) → ((p : Place) (r : List Word) → t (word (mark.Sign (codes ",")) p ∷ r)) → (us : List Word) (x : Listed A) (r : List Word) → More D us x → t r → t (us ++ r)
more_holds t D c us x r d h = subst t (sym (ap (λ z. z ++ r) d.whole ∙ append_assoc d.front d.back r)) (many_hold t D c d.front d.first.from (d.back ++ r) d.first.derived (last_holds t c d.back x.1 r d.second h))

pub exact_items : (E : List Word → Type 0) (D : List Word → Seen → Type 0) (rd : Read Seen) → Exact E D rd → ((p : Place) (r : List Word) → E (word (mark.Sign (codes ",")) p ∷ r)) → ((ws : List Word) (a : Seen) (r : List Word) → D ws a → lead (ws ++ r) ≤ 3) → Exact (After_list E begins) (Items D) (items rd)
unfolding items
exact_items E D rd e c l = exact_then E (After_list E begins) D (More (Plain D)) rd (more_of begins (plain_of rd)) e
    (exact_more E begins (Plain D) (plain_of rd) (exact_made E (λ e. (e.tree, e.depth)) D rd e) c (λ ws a r d. begins_lead (ws ++ r) (l ws d.from r d.derived)))
    (λ us x r d h. more_holds E (Plain D) c us x r d h.ends)

-- a comma ends every level
pub comma_after : (n : ℕ) → n < 20 → (p : Place) (r : List Word) → After n (word (mark.Sign (codes ",")) p ∷ r)
comma_after n h p r = h

-- ---- comprehensions

if_there : (I : Kind → List Word → Seen → Type 0) (us : List Word) (o : Option (Place × Seen)) (r : List Word) → Maybe (Keyed (codes "if") ▸ I an_or) us o → After 11 r → After 10 (us ++ r)
if_there I us o r (not_there) h = omega arith
if_there I us o r (there {x = x} d) h = key_after (codes "if") 10 (us ++ r) (omega arith) (keyed_first (codes "if") (I an_or) us x r d)

exact_if : (I : Kind → List Word → Seen → Type 0) (i : Inner) → Knows I i → Exact (After 11) (Maybe (Keyed (codes "if") ▸ I an_or)) (if_part i)
exact_if I i kn = exact_maybe (After 10) (After 11) (next_key (codes "if")) (Keyed (codes "if") ▸ I an_or) (key (codes "if") ▹ i an_or)
    (exact_then Any (After 10) (Keyed (codes "if")) (I an_or) (key (codes "if")) (i an_or) (exact_key (codes "if")) (kn.exact an_or) (λ us b r d h. tt))
    (λ r h. omega arith) (λ ws x r d h. key_there (codes "if") (ws ++ r) (keyed_first (codes "if") (I an_or) ws x r d)) (λ r h. key_by_rank (codes "if") r 11 h (omega arith))

pub targets_end : (ws : List Word) → Key_first (codes "in") ws → After_list (After 0) begins ws
unfolding begins begins_mark
targets_end ws f = record { ends = key_after (codes "in") 0 ws (omega arith) f; no_comma = ap (next_sign (codes ",")) f.whole; not_begun = ap begins f.whole }

pub exact_comp : (I : Kind → List Word → Seen → Type 0) (i : Inner) → Knows I i → Exact (After 11) (Comp I) (comp i)
unfolding comp
exact_comp I i kn = exact_made (After 11) (λ x. each_seen x.1.0 x.1.1.1.0 x.1.1.1.1) _ _
    (exact_then Any (After 11) (Keyed (codes "for")) _ (key (codes "for")) _ (exact_key (codes "for"))
    (exact_then (After_list (After 0) begins) (After 11) (Made tuple_seen (Items (I a_target))) _ (made tuple_seen (items (i a_target))) _
    (exact_made (After_list (After 0) begins) tuple_seen (Items (I a_target)) (items (i a_target)) (exact_items (After 0) (I a_target) (i a_target) (kn.exact a_target) (comma_after 0 (omega arith)) (kn.leads a_target)))
    (exact_then Any (After 11) (Keyed (codes "in")) _ (key (codes "in")) _ (exact_key (codes "in"))
    (exact_then (After 10) (After 11) (I an_or) _ (i an_or) _ (kn.exact an_or) (exact_if I i kn) (if_there I))
    (λ us b r d h. tt))
    (λ us b r d h. targets_end (us ++ r) (keyed_first (codes "in") (I an_or ▸ Maybe (Keyed (codes "if") ▸ I an_or)) us b r d)))
    (λ us b r d h. tt))

comp_first : (I : Kind → List Word → Seen → Type 0) (us : List Word) (x : Deep Each) (r : List Word) → Comp I us x → Key_first (codes "for") (us ++ r)
comp_first I us x r d = keyed_first (codes "for") (Made tuple_seen (Items (I a_target)) ▸ (Keyed (codes "in") ▸ (I an_or ▸ Maybe (Keyed (codes "if") ▸ I an_or)))) us d.from r d.derived

-- ---- what follows the first thing in brackets

pub record After_others (E : List Word → Type 0) (test : List Word → Bool) (r : List Word) : Type 0 where
  pub list : After_list E test r
  pub no_if : After 11 r
  pub no_for : next_key (codes "for") r ≡ false

pub exact_others : {A : Type 0} (I : Kind → List Word → Seen → Type 0) (i : Inner) → Knows I i → (E : List Word → Type 0) (test : List Word → Bool) (D : List Word → Deep A → Type 0) (rd : Read (Deep A)) → Exact E D rd → ((p : Place) (r : List Word) → E (word (mark.Sign (codes ",")) p ∷ r)) → ((ws : List Word) (a : Deep A) (r : List Word) → D ws a → test (ws ++ r) ≡ true) → Exact (After_others E test) (Others I D) (others i test rd)
unfolding others
exact_others I i kn E test D rd e c t = exact_choose (After_others E test) (next_key (codes "for")) (Made over (Comp I)) (Made more (More D)) (made over (comp i)) (made more (more_of test rd))
    (exact_weaken (After 11) (After_others E test) (Made over (Comp I)) (made over (comp i)) (exact_made (After 11) over (Comp I) (comp i) (exact_comp I i kn)) (λ r h. h.no_if))
    (exact_weaken (After_list E test) (After_others E test) (Made more (More D)) (made more (more_of test rd)) (exact_made (After_list E test) more (More D) (more_of test rd) (exact_more E test D rd e c t)) (λ r h. h.list))
    (λ ws a r d h. key_there (codes "for") (ws ++ r) (comp_first I ws d.from r d.derived))
    (λ ws a r d h. more_holds (λ ws. next_key (codes "for") ws ≡ false) D (λ p r. refl) ws d.from r d.derived h.no_for)

-- such things do not go on with what stands before them
pub others_hold : {A : Type 0} (t : List Word → Type 0) (I : Kind → List Word → Seen → Type 0) (D : List Word → Deep A → Type 0) → ((p : Place) (r : List Word) → t (word (mark.Sign (codes ",")) p ∷ r)) → ((p : Place) (r : List Word) → t (word (mark.Keyword (codes "for")) p ∷ r)) → (us : List Word) (x : Rest A) (r : List Word) → Others I D us x → t r → t (us ++ r)
others_hold t I D c f us x r d h = elim d [ inl d ↦ let k = comp_first I us d.from r d.derived in subst t (sym k.whole) (f k.place k.rest) | inr d ↦ more_holds t D c us d.from r d.derived h ]

pub exact_pair : (I : Kind → List Word → Seen → Type 0) (i : Inner) → Knows I i → Exact (After 11) (Pair I) (pair i)
unfolding pair
exact_pair I i kn = exact_made (After 11) pair_seen _ _ (exact_then (After 11) (After 11) (I an_expr) (Signed (codes ":") ▸ I an_expr) (i an_expr) (sign (codes ":") ▹ i an_expr) (kn.exact an_expr)
    (exact_then Any (After 11) (Signed (codes ":")) (I an_expr) (sign (codes ":")) (i an_expr) (exact_sign (codes ":")) (kn.exact an_expr) (λ us b r d h. tt))
    (λ us b r d h. sign_after (codes ":") 11 (us ++ r) (omega arith) (signed_first (codes ":") (I an_expr) us b r d)))

pub pair_leads : (I : Kind → List Word → Seen → Type 0) (i : Inner) → Knows I i → (ws : List Word) (a : Deep (Tree × Tree)) (r : List Word) → Pair I ws a → lead (ws ++ r) ≤ 3
pair_leads I i kn ws a r d = then_first (λ ws. lead ws ≤ 3) (I an_expr) (Signed (codes ":") ▸ I an_expr) (kn.leads an_expr) ws d.from r d.derived

-- ---- brackets

pub exact_bracket : {A : Type 0} (from_sign to_sign : List ℕ) (D : List Word → A → Type 0) (rd : Read A) → Exact (Sign_first to_sign) D rd → ((ws : List Word) (a : A) (r : List Word) → D ws a → next_sign to_sign (ws ++ r) ≡ false) → Exact Any (Signed from_sign ▸ (Maybe D ▸ Signed to_sign)) (sign from_sign ▹ (inside to_sign rd ▹ sign to_sign))
exact_bracket from_sign to_sign D rd e t = exact_then Any Any (Signed from_sign) (Maybe D ▸ Signed to_sign) (sign from_sign) (inside to_sign rd ▹ sign to_sign) (exact_sign from_sign)
    (exact_then (Sign_first to_sign) Any (Maybe D) (Signed to_sign) (inside to_sign rd) (sign to_sign)
    (exact_maybe (Sign_first to_sign) (Sign_first to_sign) (λ ws. not (next_sign to_sign ws)) D rd e (λ r h. h) (λ ws a r d h. ap not (t ws a r d)) (λ r h. ap not (sign_there to_sign r h)))
    (exact_sign to_sign) (λ us p r d h. signed_is to_sign us p r d))
    (λ us b r d h. tt)
