-- Names with a dot between each two, and imports, are read exactly.
use Rattle.std.proofs.Common.{◌≡◌, ℕ, refl, sym, ap, subst, ◌∙◌, List, [], ◌++◌, append_assoc, Option, Some, None, inl, inr}
use Rattle.std.specs.Prelude.{true, false, is_some, codes}
use Rattle.amh_host.specs.declared.place.Place.{Place}
use Rattle.py_tree.specs.Steps.{Import_name}
use Rattle.py_grammar.specs.declared.word.Word.{Word}
use Rattle.py_grammar.specs.Words.{next, next_sign, next_key, name_of}
use Rattle.py_grammar.specs.Forms.{Signed, Keyed, One, Then, ◌▸◌, ◌∣◌, Made, Maybe, Many}
use Rattle.py_grammar.specs.Readers.{one, sign, key, ◌▹◌, made, choose, maybe, many}
use Rattle.py_grammar.specs.Reading.{comma_then}
use Rattle.py_grammar.specs.Shapes.{dotted_seen, import_name_seen, import_seen}
use Rattle.py_grammar.specs.Statements.{Dotted, Names, Imports}
use Rattle.py_grammar.specs.Line_reading.{and_then, name_next, dotted, import_name, names, bracketed_names, imports, import}
use Rattle.py_grammar.proofs.Exact.{Exact, Any, exact_sign, exact_key, exact_one, exact_then, exact_made, exact_choose, exact_maybe}
use Rattle.py_grammar.proofs.Runs.{Runs}
use Rattle.py_grammar.proofs.Ends.{Sign_first, sign_first, refuted}
use Rattle.py_grammar.proofs.Lists.{exact_weaken, then_first, signed_first, keyed_first, signed_is, sign_there, key_there, sign_long, After_list, After_items, last_follows}
use Rattle.py_grammar.proofs.Line_forms.{End, exact_swap, exact_list}
use Rattle.py_grammar.proofs.Line_ends.{at_end}
use Rattle.py_grammar.proofs.Commas.{Between, exact_commas, commas_begin}

-- ---- names with a dot between each two

abbrev No_dot : List Word → Type 0
No_dot r = next_sign (codes ".") r ≡ false

dot_runs : Runs Any No_dot (Signed (codes ".") ▸ One name_of) (next_sign (codes ".")) (sign (codes ".") ▹ one name_of)
dot_runs = record {
  exact = exact_then Any Any (Signed (codes ".")) (One name_of) (sign (codes ".")) (one name_of) (exact_sign (codes ".")) (exact_one name_of) (λ us b r d h. tt);
  length_there = λ ws a d. sign_long (codes ".") ws (signed_first (codes ".") (One name_of) ws a [] d);
  goes_on = λ ws a r d. sign_there (codes ".") (ws ++ r) (signed_first (codes ".") (One name_of) ws a r d);
  ends = λ r h. h;
  at_end = λ r h. tt;
  at_next = λ ws a r d. tt;
}

exact_dotted : Exact No_dot Dotted dotted
unfolding dotted
exact_dotted = exact_made No_dot dotted_seen (One name_of ▸ Many (Signed (codes ".") ▸ One name_of)) (one name_of ▹ many (next_sign (codes ".")) (sign (codes ".") ▹ one name_of) and_then [])
    (exact_then Any No_dot (One name_of) (Many (Signed (codes ".") ▸ One name_of)) (one name_of) (many (next_sign (codes ".")) (sign (codes ".") ▹ one name_of) and_then []) (exact_one name_of)
    (exact_list Any No_dot (Signed (codes ".") ▸ One name_of) (next_sign (codes ".")) (sign (codes ".") ▹ one name_of) dot_runs) (λ us b r d h. tt))

-- ---- imported names

abbrev No_as : List Word → Type 0
No_as r = next_key (codes "as") r ≡ false

abbrev Imported : List Word → Import_name → Type 0
Imported = Made import_name_seen (One name_of ▸ Maybe (Keyed (codes "as") ▸ One name_of))

exact_import_name : Exact No_as Imported import_name
unfolding import_name
exact_import_name = exact_made No_as import_name_seen (One name_of ▸ Maybe (Keyed (codes "as") ▸ One name_of)) (one name_of ▹ maybe (next_key (codes "as")) (key (codes "as") ▹ one name_of))
    (exact_then Any No_as (One name_of) (Maybe (Keyed (codes "as") ▸ One name_of)) (one name_of) (maybe (next_key (codes "as")) (key (codes "as") ▹ one name_of)) (exact_one name_of)
    (exact_maybe Any No_as (next_key (codes "as")) (Keyed (codes "as") ▸ One name_of) (key (codes "as") ▹ one name_of)
    (exact_then Any Any (Keyed (codes "as")) (One name_of) (key (codes "as")) (one name_of) (exact_key (codes "as")) (exact_one name_of) (λ us b r d h. tt))
    (λ r h. tt) (λ ws x r d h. key_there (codes "as") (ws ++ r) (keyed_first (codes "as") (One name_of) ws x r d)) (λ r h. h))
    (λ us b r d h. tt))

-- a name comes first
pub one_name_next : (ws : List Word) (x : Place × List ℕ) (r : List Word) → One name_of ws x → name_next (ws ++ r) ≡ true
unfolding name_next
one_name_next ws x r d = ap (λ z. next (λ m. is_some (name_of m)) (z ++ r)) d.whole ∙ ap is_some d.valued

imported_next : (ws : List Word) (a : Import_name) (r : List Word) → Imported ws a → name_next (ws ++ r) ≡ true
imported_next ws a r d = then_first (λ z. name_next z ≡ true) (One name_of) (Maybe (Keyed (codes "as") ▸ One name_of)) one_name_next ws d.from r d.derived

names_between : Between No_as name_next Imported import_name
names_between = record { exact = exact_import_name; at_comma = λ p r. refl; begun = imported_next }

pub no_name_sign : (s : List ℕ) (ws : List Word) → Sign_first s ws → name_next ws ≡ false
unfolding name_next
no_name_sign s ws f = ap (next (λ m. is_some (name_of m))) f.whole

names_end : (r : List Word) → End r → After_items No_as name_next r
unfolding comma_then
names_end r e = at_end (After_items No_as name_next) (record { ends = refl; no_item = refl }) r e

exact_names : Exact (After_items No_as name_next) Names names
unfolding names
exact_names = exact_commas No_as name_next Imported import_name names_between

names_first : (ws : List Word) (xs : List Import_name) (r : List Word) → Names ws xs → name_next (ws ++ r) ≡ true
names_first ws xs r d = commas_begin Imported (λ z. name_next z ≡ true) imported_next ws xs r d

-- ---- imports

abbrev In_brackets : List Word → List Import_name × (Option Place × Place) → Type 0
In_brackets = Names ▸ (Maybe (Signed (codes ",")) ▸ Signed (codes ")"))

abbrev Bracketed : List Word → Option (List Import_name) → Type 0
Bracketed = Made (λ x. Some x.1.0) (Signed (codes "(") ▸ In_brackets)

names_close : (r : List Word) → Sign_first (codes ")") r → After_list No_as name_next r
names_close r f = record { ends = ap (next_key (codes "as")) f.whole; no_comma = ap (next_sign (codes ",")) f.whole; not_begun = no_name_sign (codes ")") r f }

names_follow : (us : List Word) (x : Option Place × Place) (r : List Word) → Then (Maybe (Signed (codes ","))) (Signed (codes ")")) us x → After_items No_as name_next (us ++ r)
names_follow us x r d = subst (After_items No_as name_next) (sym (ap (λ z. z ++ r) d.whole ∙ append_assoc d.front d.back r)) (last_follows No_as name_next (λ p r. refl) d.front x.0 (d.back ++ r) d.first (names_close (d.back ++ r) (signed_is (codes ")") d.back x.1 r d.second)))

exact_in_brackets : Exact Any In_brackets (names ▹ (maybe (next_sign (codes ",")) (sign (codes ",")) ▹ sign (codes ")")))
exact_in_brackets = exact_then (After_items No_as name_next) Any Names (Maybe (Signed (codes ",")) ▸ Signed (codes ")")) names (maybe (next_sign (codes ",")) (sign (codes ",")) ▹ sign (codes ")")) exact_names
    (exact_then (Sign_first (codes ")")) Any (Maybe (Signed (codes ","))) (Signed (codes ")")) (maybe (next_sign (codes ",")) (sign (codes ","))) (sign (codes ")"))
    (exact_maybe Any (Sign_first (codes ")")) (next_sign (codes ",")) (Signed (codes ",")) (sign (codes ",")) (exact_sign (codes ",")) (λ r h. tt) (λ ws p r d h. sign_there (codes ",") (ws ++ r) (signed_is (codes ",") ws p r d)) (λ r f. ap (next_sign (codes ",")) f.whole))
    (exact_sign (codes ")")) (λ us p r d h. signed_is (codes ")") us p r d))
    (λ us x r d h. names_follow us x r d)

exact_bracketed_names : Exact End Bracketed bracketed_names
exact_bracketed_names = exact_weaken Any End Bracketed bracketed_names (exact_made Any (λ (x : Place × (List Import_name × (Option Place × Place))). Some x.1.0) (Signed (codes "(") ▸ In_brackets) (sign (codes "(") ▹ (names ▹ (maybe (next_sign (codes ",")) (sign (codes ",")) ▹ sign (codes ")"))))
    (exact_then Any Any (Signed (codes "(")) In_brackets (sign (codes "(")) _ (exact_sign (codes "(")) exact_in_brackets (λ us b r d h. tt))) (λ r h. tt)

pub name_no_sign : (s : List ℕ) (ws : List Word) → name_next ws ≡ true → next_sign s ws ≡ false
name_no_sign s ws h = refuted (next_sign s ws) (λ t. let n = no_name_sign s ws (sign_first s ws t) in cc)

abbrev Listed_names : List Word → Option (List Import_name) → Type 0
Listed_names = Made (λ ns. Some ns) Names

exact_listed_names : Exact End (Bracketed ∣ Listed_names) (choose (next_sign (codes "(")) bracketed_names (made (λ ns. Some ns) names))
exact_listed_names = exact_choose End (next_sign (codes "(")) Bracketed Listed_names bracketed_names (made (λ ns. Some ns) names) exact_bracketed_names
    (exact_made End (λ (ns : List Import_name). Some ns) Names names (exact_weaken (After_items No_as name_next) End Names names exact_names names_end))
    (λ ws x r d h. sign_there (codes "(") (ws ++ r) (signed_first (codes "(") In_brackets ws d.from r d.derived))
    (λ ws x r d h. name_no_sign (codes "(") (ws ++ r) (names_first ws d.from r d.derived))

exact_imports : Exact End Imports imports
unfolding imports
exact_imports = exact_choose End (next_sign (codes "*")) (Made (λ p. None) (Signed (codes "*"))) (Listed_names ∣ Bracketed) (made (λ p. None) (sign (codes "*"))) (choose (next_sign (codes "(")) bracketed_names (made (λ ns. Some ns) names))
    (exact_weaken Any End (Made (λ p. None) (Signed (codes "*"))) (made (λ p. None) (sign (codes "*"))) (exact_made Any (λ p. None) (Signed (codes "*")) (sign (codes "*")) (exact_sign (codes "*"))) (λ r h. tt))
    (exact_swap End Bracketed Listed_names (choose (next_sign (codes "(")) bracketed_names (made (λ ns. Some ns) names)) exact_listed_names)
    (λ ws x r d h. sign_there (codes "*") (ws ++ r) (signed_is (codes "*") ws d.from r d.derived))
    (λ ws x r d h. elim d [
      | inl d ↦ name_no_sign (codes "*") (ws ++ r) (names_first ws d.from r d.derived)
      | inr d ↦ ap (next_sign (codes "*")) (signed_first (codes "(") In_brackets ws d.from r d.derived).whole
    ])

pub exact_import : Exact End (Made import_seen (Keyed (codes "from") ▸ (Dotted ▸ (Keyed (codes "import") ▸ Imports)))) import
unfolding import
exact_import = exact_made End import_seen (Keyed (codes "from") ▸ (Dotted ▸ (Keyed (codes "import") ▸ Imports))) (key (codes "from") ▹ (dotted ▹ (key (codes "import") ▹ imports)))
    (exact_then Any End (Keyed (codes "from")) (Dotted ▸ (Keyed (codes "import") ▸ Imports)) (key (codes "from")) (dotted ▹ (key (codes "import") ▹ imports)) (exact_key (codes "from"))
    (exact_then No_dot End Dotted (Keyed (codes "import") ▸ Imports) dotted (key (codes "import") ▹ imports) exact_dotted
    (exact_then Any End (Keyed (codes "import")) Imports (key (codes "import")) imports (exact_key (codes "import")) exact_imports (λ us b r d h. tt))
    (λ us b r d h. ap (next_sign (codes ".")) (keyed_first (codes "import") Imports us b r d).whole))
    (λ us b r d h. tt))
