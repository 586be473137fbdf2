-- Things with a comma between each two are read exactly.
use Rattle.std.proofs.Common.{◌≡◌, sym, ap, subst, ◌∙◌, List, [], ◌∷◌, ◌++◌, append_assoc}
use Rattle.std.specs.Prelude.{Bool, true, codes}
use Rattle.amh_host.specs.declared.place.Place.{Place}
use Rattle.py_grammar.specs.declared.word.Word.{Word}
use Rattle.py_grammar.specs.declared.word.Mark.TheVariants as mark
use Rattle.py_grammar.specs.Words.{word, next_sign}
use Rattle.py_grammar.specs.Forms.{Signed, ◌▸◌, Maybe, Many, no_more, one_more}
use Rattle.py_grammar.specs.Readers.{Read, sign, ◌▹◌, maybe, many}
use Rattle.py_grammar.specs.Reading.{comma_then}
use Rattle.py_grammar.specs.Shapes.{listed}
use Rattle.py_grammar.specs.Statements.{Commas}
use Rattle.py_grammar.specs.Line_reading.{and_then, commas}
use Rattle.py_grammar.proofs.Exact.{Exact, Any, exact_sign, exact_then, exact_made, exact_maybe}
use Rattle.py_grammar.proofs.Runs.{Runs}
use Rattle.py_grammar.proofs.Lists.{then_first, signed_first, signed_is, sign_there, sign_long, After_list, After_items, last_follows}
use Rattle.py_grammar.proofs.Line_forms.{exact_list}

-- ---- things with a comma between each two

abbrev Comma_then : {A : Type 0} → (List Word → A → Type 0) → List Word → Place × A → Type 0
Comma_then D = Signed (codes ",") ▸ D

comma_goes : {A : Type 0} (test : List Word → Bool) (D : List Word → A → Type 0) → ((ws : List Word) (a : A) (r : List Word) → D ws a → test (ws ++ r) ≡ true) → (ws : List Word) (x : Place × A) (r : List Word) → Comma_then D ws x → comma_then test (ws ++ r) ≡ true
unfolding comma_then
comma_goes test D t ws x r d = let e : ws ++ r ≡ word (mark.Sign (codes ",")) x.0 ∷ (d.back ++ r) = ap (λ z. z ++ r) d.whole ∙ (append_assoc d.front d.back r ∙ ap (λ z. z ++ (d.back ++ r)) d.first.whole) in ap (comma_then test) e ∙ t d.back x.1 r d.second

-- what is asked of such things
pub record Between {A : Type 0} (E : List Word → Type 0) (test : List Word → Bool) (D : List Word → A → Type 0) (rd : Read A) : Type 0 where
  pub exact : Exact E D rd
  pub at_comma : (p : Place) (r : List Word) → E (word (mark.Sign (codes ",")) p ∷ r)
  pub begun : (ws : List Word) (a : A) (r : List Word) → D ws a → test (ws ++ r) ≡ true

commas_run : {A : Type 0} (E : List Word → Type 0) (test : List Word → Bool) (D : List Word → A → Type 0) (rd : Read A) → Between E test D rd → Runs E (After_items E test) (Comma_then D) (comma_then test) (sign (codes ",") ▹ rd)
commas_run E test D rd b = record {
  exact = exact_then Any E (Signed (codes ",")) D (sign (codes ",")) rd (exact_sign (codes ",")) b.exact (λ us a r d h. tt);
  length_there = λ ws a d. sign_long (codes ",") ws (signed_first (codes ",") D ws a [] d);
  goes_on = comma_goes test D b.begun;
  ends = λ r f. f.no_item;
  at_end = λ r f. f.ends;
  at_next = λ ws a r d. let f = signed_first (codes ",") D ws a r d in subst E (sym f.whole) (b.at_comma f.place f.rest);
}

commas_hold : {A : Type 0} (t : List Word → Type 0) → ((p : Place) (r : List Word) → t (word (mark.Sign (codes ",")) p ∷ r)) → (D : List Word → A → Type 0) (us : List Word) (xs : List (Place × A)) (r : List Word) → Many (Comma_then D) us xs → t r → t (us ++ r)
commas_hold t c D us xs r (no_more) h = h
commas_hold t c D us xs r (one_more {ws = vs} {us = ys} {x = x} d m) h = let f = signed_first (codes ",") D vs x (ys ++ r) d in subst t (sym (append_assoc vs ys r ∙ f.whole)) (c f.place f.rest)

pub exact_commas : {A : Type 0} (E : List Word → Type 0) (test : List Word → Bool) (D : List Word → A → Type 0) (rd : Read A) → Between E test D rd → Exact (After_items E test) (Commas D) (commas test rd)
exact_commas E test D rd b = exact_made (After_items E test) listed (D ▸ Many (Comma_then D)) (rd ▹ many (comma_then test) (sign (codes ",") ▹ rd) and_then [])
    (exact_then E (After_items E test) D (Many (Comma_then D)) rd (many (comma_then test) (sign (codes ",") ▹ rd) and_then []) b.exact
    (exact_list E (After_items E test) (Comma_then D) (comma_then test) (sign (codes ",") ▹ rd) (commas_run E test D rd b))
    (λ us xs r m h. commas_hold E b.at_comma D us xs r m h.ends))

pub commas_begin : {A : Type 0} (D : List Word → A → Type 0) (t : List Word → Type 0) → ((ws : List Word) (a : A) (r : List Word) → D ws a → t (ws ++ r)) → (ws : List Word) (xs : List A) (r : List Word) → Commas D ws xs → t (ws ++ r)
commas_begin D t f ws xs r d = then_first t D (Many (Comma_then D)) f ws d.from r d.derived

-- with perhaps a comma at the end
pub exact_commas_last : {A : Type 0} (E : List Word → Type 0) (test : List Word → Bool) (D : List Word → A → Type 0) (rd : Read A) → Between E test D rd → Exact (After_list E test) (Commas D ▸ Maybe (Signed (codes ","))) (commas test rd ▹ maybe (next_sign (codes ",")) (sign (codes ",")))
exact_commas_last E test D rd b = exact_then (After_items E test) (After_list E test) (Commas D) (Maybe (Signed (codes ","))) (commas test rd) (maybe (next_sign (codes ",")) (sign (codes ","))) (exact_commas E test D rd b)
    (exact_maybe Any (After_list E test) (next_sign (codes ",")) (Signed (codes ",")) (sign (codes ",")) (exact_sign (codes ",")) (λ r h. tt) (λ ws p r d h. sign_there (codes ",") (ws ++ r) (signed_is (codes ",") ws p r d)) (λ r h. h.no_comma))
    (last_follows E test b.at_comma)
