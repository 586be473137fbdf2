-- No name and no keyword is longer than the word that is cut.
use Rattle.std.proofs.Common.{◌≡◌, ℕ, suc, true, false, ◌<◌, ◌≤◌, ◌||◌, List, [], ◌∷◌, ◌++◌, length, refl, sym, subst, ◌∙◌, arith, inl, inr, bytes_eq}
use Rattle.std.specs.Prelude.{◌==◌, Some}
use Rattle.std.specs.List.{list_all}
use Rattle.std.specs.Char.{is_ascii_alphabetic, is_ascii_alphanumeric}
use Rattle.std.specs.Cmp.Lexicographic.{bytes_decides}
use Rattle.std.proofs.lemmas.Bool.{cond-true, cond-false, or_cases, or_from}
use Rattle.unicode_ident.specs.Ident.{is_xid_start, is_xid_continue}
use Rattle.unicode_ident.proofs.Computing.{unicode_ident}
use Rattle.unicode_ident.proofs.IdentLemmas.{is_xid_start-ascii, is_xid_continue-ascii}
use Rattle.unicode_normalization.specs.Forms.{nfkc, is_in_form, Nfkc}
use Rattle.py_lexer.specs.declared.token.TokenForm.TheVariants.{Name}
use Rattle.py_lexer.specs.Names.{starts_name, name_width, is_among, and_to_class, continue_to_from, if_to_or, pass_to_with, is_keyword, is_refused_keyword, word_form}
use Rattle.py_lexer.specs.Grammar.{IsName}
use Rattle.py_lexer.proofs.WordLaws.{prefix_count}
use Rattle.py_lexer.proofs.ReachLists.{prefix_reach, prefix_exact}

-- an ASCII character that is no letter and no `_` begins no name
pub no_start : (c : ℕ) → c < 128 → is_ascii_alphabetic c ≡ false → (c == 95) ≡ false → starts_name c ≡ false
no_start c l a u = or_from (is_xid_start c) (c == 95) (is_xid_start-ascii c l ∙ a) u

-- an ASCII character that is no letter, no digit and no `_` continues no name
pub no_continue : (c : ℕ) → c < 128 → is_ascii_alphanumeric c ≡ false → (c == 95) ≡ false → is_xid_continue c ≡ false
no_continue c l a u = is_xid_continue-ascii c l ∙ or_from (is_ascii_alphanumeric c) (c == 95) a u

-- a word of letters and digits that begins with a letter
abbrev pub IsWord : List ℕ → Type 0
IsWord [] = ⊥
IsWord (c ∷ cs) = (starts_name c ≡ true) × (list_all is_xid_continue cs ≡ true)

abbrev pub EachWord : (List ℕ → Type 0) → List (List ℕ) → Type 0
EachWord P [] = Unit {0}
EachWord P (w ∷ ws) = P w × EachWord P ws

pub among_each : (P : List ℕ → Type 0) (words : List (List ℕ)) (word : List ℕ) → EachWord P words → is_among words word ≡ true → P word
among_each P [] word each e = cc
among_each P (w ∷ ws) word each e = elim (or_cases (bytes_eq word w) (is_among ws word) e) as (λ _. P word) [ inl t ↦ subst P (sym ((bytes_decides word w).0 t)) each.0 | inr t ↦ among_each P ws word each.1 t ]

pub keyword_is_word : (word : List ℕ) → is_keyword word ≡ true → IsWord word
unfolding is_keyword unicode_ident
keyword_is_word word e =
    let a = is_among and_to_class word in
    let b = is_among continue_to_from word in
    let c = is_among if_to_or word in
    let d = is_among pass_to_with word in
    elim (or_cases ((a || b) || c) d e) as (λ _. IsWord word) [
      | inl abc ↦ elim (or_cases (a || b) c abc) as (λ _. IsWord word) [
        | inl ab ↦ elim (or_cases a b ab) as (λ _. IsWord word) [
          | inl t ↦ among_each IsWord and_to_class word ((refl, refl), ((refl, refl), ((refl, refl), ((refl, refl), ((refl, refl), ((refl, refl), ((refl, refl), tt))))))) t
          | inr t ↦ among_each IsWord continue_to_from word ((refl, refl), ((refl, refl), ((refl, refl), ((refl, refl), ((refl, refl), ((refl, refl), ((refl, refl), tt))))))) t
        ]
        | inr t ↦ among_each IsWord if_to_or word ((refl, refl), ((refl, refl), ((refl, refl), ((refl, refl), ((refl, refl), ((refl, refl), ((refl, refl), tt))))))) t
      ]
      | inr t ↦ among_each IsWord pass_to_with word ((refl, refl), ((refl, refl), ((refl, refl), ((refl, refl), ((refl, refl), ((refl, refl), tt)))))) t
    ]

-- a name is told as one
pub name_form : (word : List ℕ) → IsName word → word_form word ≡ Some Name
unfolding word_form
name_form word n =
    cond-true (is_in_form Nfkc word) _ _ ((bytes_decides (nfkc word) word).1 n.normal)
    ∙ (cond-false (is_keyword word) _ _ n.kept ∙ cond-false (is_refused_keyword word) _ _ n.free)

-- no word is longer than the one that is cut
pub word_reach : (first : ℕ) (rest b : List ℕ) → list_all is_xid_continue rest ≡ true → length (first ∷ rest) ≤ name_width (rest ++ b)
word_reach first rest b all = omega (arith, prefix_count is_xid_continue (rest ++ b), prefix_reach is_xid_continue rest b all)

-- a word ends before a character that continues none
pub word_exact : (rest : List ℕ) (y : ℕ) (b : List ℕ) → list_all is_xid_continue rest ≡ true → is_xid_continue y ≡ false → name_width (rest ++ y ∷ b) ≡ suc (length rest)
word_exact rest y b all stop = omega (arith, prefix_count is_xid_continue (rest ++ y ∷ b), prefix_exact is_xid_continue rest y b all stop)
