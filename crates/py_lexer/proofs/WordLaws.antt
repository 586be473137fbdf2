-- Each name and each keyword that is cut is one.
use Rattle.std.proofs.Common.{◌≡◌, ℕ, suc, Bool, true, false, ◌+◌, ◌≤◌, List, [], ◌∷◌, length, take, refl, sym, subst, arith, cond}
use Rattle.std.specs.Prelude.{Option, None, Some, take_while}
use Rattle.std.specs.List.{list_all, prefix_len}
use Rattle.std.specs.Cmp.Lexicographic.{bytes_decides}
use Rattle.std.proofs.lemmas.Bool.{cond_both, and_from}
use Rattle.std.proofs.lemmas.List.{length-take-le}
use Rattle.unicode_ident.specs.Ident.{is_xid_continue}
use Rattle.unicode_normalization.specs.Forms.{nfkc, is_in_form, Nfkc}
use Rattle.py_lexer.specs.declared.token.TokenForm.{TokenForm}
use Rattle.py_lexer.specs.declared.token.TokenForm.TheVariants.{Name, Keyword, Number, Decimal, Str, FormatStr, Sign}
use Rattle.py_lexer.specs.Names.{starts_name, name_width, is_keyword, is_refused_keyword, word_form}
use Rattle.py_lexer.specs.Grammar.{IsName, IsToken}

-- how many characters pass a test from the front on
pub prefix_fits : (p : ℕ → Bool) (cs : List ℕ) → prefix_len p cs ≤ length cs
prefix_fits p [] = omega arith
prefix_fits p (c ∷ cs) = let h = prefix_fits p cs in cond_both (p c) (1 + prefix_len p cs) 0 (λ n. n ≤ suc (length cs)) (λ _. omega (arith, h)) (λ _. omega arith)

pub prefix_all : (p : ℕ → Bool) (cs : List ℕ) → list_all p (take (prefix_len p cs) cs) ≡ true
prefix_all p [] = refl
prefix_all p (c ∷ cs) =
    let more : suc (prefix_len p cs) ≡ 1 + prefix_len p cs = omega arith in
    cond_both (p c) (1 + prefix_len p cs) 0 (λ n. list_all p (take n (c ∷ cs)) ≡ true)
    (λ e. subst (λ n. list_all p (take n (c ∷ cs)) ≡ true) more (and_from (p c) (list_all p (take (prefix_len p cs) cs)) e (prefix_all p cs)))
    (λ _. refl)

pub prefix_count : (p : ℕ → Bool) (cs : List ℕ) → length (take_while p cs) ≡ prefix_len p cs
prefix_count p cs = length-take-le (prefix_len p cs) cs (prefix_fits p cs)

-- a word has the form that it is told
abbrev pub WordIs : List ℕ → TokenForm → Type 0
WordIs word Name = (nfkc word ≡ word) × (is_keyword word ≡ false) × (is_refused_keyword word ≡ false)
WordIs word Keyword = is_keyword word ≡ true
WordIs word Number = ⊥
WordIs word Decimal = ⊥
WordIs word Str = ⊥
WordIs word FormatStr = ⊥
WordIs word Sign = ⊥

abbrev pub WordAt : List ℕ → Option TokenForm → Type 0
WordAt word None = Unit {0}
WordAt word (Some form) = WordIs word form

pub word_sound : (word : List ℕ) → WordAt word (word_form word)
unfolding word_form
word_sound word =
    cond_both (is_in_form Nfkc word) (cond (is_keyword word) (Some Keyword) (cond (is_refused_keyword word) None (Some Name))) None (WordAt word)
    (λ n. cond_both (is_keyword word) (Some Keyword) (cond (is_refused_keyword word) None (Some Name)) (WordAt word) (λ k. k)
    (λ k. cond_both (is_refused_keyword word) None (Some Name) (WordAt word) (λ r. tt) (λ r. ((bytes_decides (nfkc word) word).0 n, k, r))))
    (λ _. tt)

-- the word at the front
pub name_sound : (c : ℕ) (cs : List ℕ) → starts_name c ≡ true → WordIs (take (name_width cs) (c ∷ cs)) Name → IsName (take (name_width cs) (c ∷ cs))
name_sound c cs s w = record {
  first = c;
  rest = take (length (take_while is_xid_continue cs)) cs;
  whole = refl;
  starts = s;
  continues = subst (λ n. list_all is_xid_continue (take n cs) ≡ true) (sym (prefix_count is_xid_continue cs)) (prefix_all is_xid_continue cs);
  normal = w.0;
  kept = w.1;
  free = w.2;
}

-- the token that a word is
pub word_token : (form : TokenForm) (c : ℕ) (cs : List ℕ) → starts_name c ≡ true → WordIs (take (name_width cs) (c ∷ cs)) form → IsToken form (take (name_width cs) (c ∷ cs))
word_token Name c cs s w = name_sound c cs s w
word_token Keyword c cs s w = w
word_token Number c cs s w = absurd w
word_token Decimal c cs s w = absurd w
word_token Str c cs s w = absurd w
word_token FormatStr c cs s w = absurd w
word_token Sign c cs s w = absurd w
