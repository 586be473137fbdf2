-- What may follow a phrase, and what may begin it, by the first word: the rank of a word is the tightest level of
-- phrases that it goes on with, and its lead says which phrases it begins.
use Rattle.std.proofs.Common.{◌≡◌, ℕ, ◌<◌, ◌≤◌, ◌+◌, suc, zero, refl, sym, ap, subst, ◌∙◌, List, [], ◌∷◌, Option, Some, arith, inl, inr}
use Rattle.std.specs.Prelude.{◌⊎◌, Bool, true, false, if◌then◌else◌, ◌==◌, ◌&&◌, ◌||◌, is_some, codes}
use Rattle.lists.specs.Texts.{text_eq}
use Rattle.amh_host.specs.declared.place.Place.{Place}
use Rattle.py_tree.specs.declared.expr.Operator.{Operator}
use Rattle.py_grammar.specs.declared.word.Word.{Word}
use Rattle.py_grammar.specs.declared.word.Mark.{Mark}
use Rattle.py_grammar.specs.declared.word.Mark.TheVariants as mark
use Rattle.py_grammar.specs.Words.{word, sign_of, keyword_of, next_sign, next_key, valued}
use Rattle.py_grammar.specs.Values.{constant_of, unary_of, term_of, sum_of, shift_of, comparison_of, only, sign_at, key_at}
use Rattle.py_grammar.specs.Reading.{is_operator, starts_worded, begins, begins_mark}
use Rattle.py_grammar.proofs.Exact.{text_same, is_sign_text, is_key_text}

abbrev pub sign_rank : List ℕ → ℕ
sign_rank s =
    if text_eq s (codes ".") then 0 else
    if text_eq s (codes "(") then 0 else
    if text_eq s (codes "[") then 0 else
    if text_eq s (codes "/") then 0 else
    if text_eq s (codes "**") then 1 else
    if is_some (term_of s) then 2 else
    if is_some (sum_of s) then 3 else
    if is_some (shift_of s) then 4 else
    if text_eq s (codes "&") then 5 else
    if text_eq s (codes "^") then 6 else
    if text_eq s (codes "|") then 7 else
    if is_some (comparison_of s) then 8 else
    if text_eq s (codes "=") then 12 else 20

abbrev pub key_rank : List ℕ → ℕ
key_rank s =
    if text_eq s (codes "not") then 8 else
    if text_eq s (codes "is") then 8 else
    if text_eq s (codes "in") then 8 else
    if text_eq s (codes "and") then 9 else
    if text_eq s (codes "or") then 10 else
    if text_eq s (codes "if") then 11 else 20

abbrev pub mark_rank : Mark → ℕ
mark_rank (mark.Sign s) = sign_rank s
mark_rank (mark.Keyword s) = key_rank s
mark_rank (mark.Name s) = 20
mark_rank (mark.Number n) = 20
mark_rank (mark.Decimal d) = 20
mark_rank (mark.Str s) = 20
mark_rank (mark.Format s) = 20
mark_rank mark.Other = 20

abbrev pub rank : List Word → ℕ
rank [] = 20
rank (w ∷ r) = mark_rank w.mark

-- 0 begins an atom, 1 is `await`, 2 is a sign before one operand, 3 is `not`
abbrev pub sign_lead : List ℕ → ℕ
sign_lead s =
    if text_eq s (codes "(") then 0 else
    if text_eq s (codes "[") then 0 else
    if text_eq s (codes "{") then 0 else
    if is_some (unary_of s) then 2 else 9

abbrev pub key_lead : List ℕ → ℕ
key_lead s =
    if is_some (constant_of s) then 0 else
    if text_eq s (codes "await") then 1 else
    if text_eq s (codes "not") then 3 else 9

abbrev pub mark_lead : Mark → ℕ
mark_lead (mark.Sign s) = sign_lead s
mark_lead (mark.Keyword s) = key_lead s
mark_lead (mark.Name s) = 0
mark_lead (mark.Number n) = 0
mark_lead (mark.Decimal d) = 0
mark_lead (mark.Str s) = 0
mark_lead (mark.Format s) = 0
mark_lead mark.Other = 9

abbrev pub lead : List Word → ℕ
lead [] = 9
lead (w ∷ r) = mark_lead w.mark

-- ---- a sign or a keyword comes first

pub record Sign_first (s : List ℕ) (ws : List Word) : Type 0 where
  pub place : Place
  pub rest : List Word
  pub whole : ws ≡ word (mark.Sign s) place ∷ rest

pub record Key_first (s : List ℕ) (ws : List Word) : Type 0 where
  pub place : Place
  pub rest : List Word
  pub whole : ws ≡ word (mark.Keyword s) place ∷ rest

pub sign_first : (s : List ℕ) (ws : List Word) → next_sign s ws ≡ true → Sign_first s ws
sign_first s [] h = cc
sign_first s (w ∷ r) h = record { place = w.place; rest = r; whole = ap (λ m. word m w.place ∷ r) (is_sign_text s w.mark h) }

pub key_first : (s : List ℕ) (ws : List Word) → next_key s ws ≡ true → Key_first s ws
key_first s [] h = cc
key_first s (w ∷ r) h = record { place = w.place; rest = r; whole = ap (λ m. word m w.place ∷ r) (is_key_text s w.mark h) }

-- a test that leads to nothing is false
pub refuted : (b : Bool) → (b ≡ true → ⊥) → b ≡ false
refuted true h = absurd (h refl)
refuted false h = refl

pub sign_by_rank : (s : List ℕ) (ws : List Word) (n : ℕ) → n < rank ws → sign_rank s ≤ n → next_sign s ws ≡ false
sign_by_rank s ws n h le = refuted (next_sign s ws) (λ t. let e : rank ws ≡ sign_rank s = ap rank (sign_first s ws t).whole in let low : rank ws ≤ n = subst (λ x. x ≤ n) (sym e) le in omega arith)

pub key_by_rank : (s : List ℕ) (ws : List Word) (n : ℕ) → n < rank ws → key_rank s ≤ n → next_key s ws ≡ false
key_by_rank s ws n h le = refuted (next_key s ws) (λ t. let e : rank ws ≡ key_rank s = ap rank (key_first s ws t).whole in let low : rank ws ≤ n = subst (λ x. x ≤ n) (sym e) le in omega arith)

pub sign_by_lead : (s : List ℕ) (ws : List Word) (n : ℕ) → lead ws ≤ n → n < sign_lead s → next_sign s ws ≡ false
sign_by_lead s ws n h le = refuted (next_sign s ws) (λ t. let e : lead ws ≡ sign_lead s = ap lead (sign_first s ws t).whole in let low : n < lead ws = subst (λ x. n < x) (sym e) le in omega arith)

pub key_by_lead : (s : List ℕ) (ws : List Word) (n : ℕ) → lead ws ≤ n → n < key_lead s → next_key s ws ≡ false
key_by_lead s ws n h le = refuted (next_key s ws) (λ t. let e : lead ws ≡ key_lead s = ap lead (key_first s ws t).whole in let low : n < lead ws = subst (λ x. n < x) (sym e) le in omega arith)

-- ---- the tables of operators, by rank

pub if_is_some : {A : Type 0} (b : Bool) (x : A) (o : Option A) → is_some (if b then Some x else o) ≡ true → (b ≡ true) ⊎ (is_some o ≡ true)
if_is_some true x o h = inl refl
if_is_some false x o h = inr h

rank_at : (s t : List ℕ) → text_eq s t ≡ true → sign_rank s ≡ sign_rank t
rank_at s t h = ap sign_rank (text_same s t h)

term_rank : (s : List ℕ) → is_some (term_of s) ≡ true → sign_rank s ≡ 2
term_rank s h = elim (if_is_some (text_eq s (codes "*")) _ _ h) [
  | inl e ↦ rank_at s (codes "*") e
  | inr h ↦
      elim (if_is_some (text_eq s (codes "//")) _ _ h) [
        | inl e ↦ rank_at s (codes "//") e
        | inr h ↦
            elim (if_is_some (text_eq s (codes "%")) _ _ h) [ inl e ↦ rank_at s (codes "%") e | inr h ↦ cc ]
      ]
]

sum_rank : (s : List ℕ) → is_some (sum_of s) ≡ true → sign_rank s ≡ 3
sum_rank s h = elim (if_is_some (text_eq s (codes "+")) _ _ h) [
  | inl e ↦ rank_at s (codes "+") e
  | inr h ↦
      elim (if_is_some (text_eq s (codes "-")) _ _ h) [ inl e ↦ rank_at s (codes "-") e | inr h ↦ cc ]
]

shift_rank : (s : List ℕ) → is_some (shift_of s) ≡ true → sign_rank s ≡ 4
shift_rank s h = elim (if_is_some (text_eq s (codes "<<")) _ _ h) [
  | inl e ↦ rank_at s (codes "<<") e
  | inr h ↦
      elim (if_is_some (text_eq s (codes ">>")) _ _ h) [ inl e ↦ rank_at s (codes ">>") e | inr h ↦ cc ]
]

only_text : (this : List ℕ) (o : Operator) (s : List ℕ) → is_some (only this o s) ≡ true → text_eq s this ≡ true
only_text this o s h = elim (if_is_some (text_eq s this) _ _ h) [ inl e ↦ e | inr h ↦ cc ]

comparison_rank : (s : List ℕ) → is_some (comparison_of s) ≡ true → sign_rank s ≡ 8
comparison_rank s h = elim (if_is_some (text_eq s (codes "<")) _ _ h) [
  | inl e ↦ rank_at s (codes "<") e
  | inr h ↦
      elim (if_is_some (text_eq s (codes "<=")) _ _ h) [
        | inl e ↦ rank_at s (codes "<=") e
        | inr h ↦
            elim (if_is_some (text_eq s (codes ">")) _ _ h) [
              | inl e ↦ rank_at s (codes ">") e
              | inr h ↦
                  elim (if_is_some (text_eq s (codes ">=")) _ _ h) [
                    | inl e ↦ rank_at s (codes ">=") e
                    | inr h ↦
                        elim (if_is_some (text_eq s (codes "==")) _ _ h) [
                          | inl e ↦ rank_at s (codes "==") e
                          | inr h ↦
                              elim (if_is_some (text_eq s (codes "!=")) _ _ h) [ inl e ↦ rank_at s (codes "!=") e | inr h ↦ cc ]
                        ]
                  ]
            ]
      ]
]

sign_at_rank : (k : ℕ) (s : List ℕ) → is_some (sign_at k s) ≡ true → sign_rank s ≡ k + 2
sign_at_rank zero s h = term_rank s h
sign_at_rank (suc zero) s h = sum_rank s h
sign_at_rank (suc (suc zero)) s h = shift_rank s h
sign_at_rank (suc (suc (suc zero))) s h = rank_at s (codes "&") (only_text (codes "&") _ s h)
sign_at_rank (suc (suc (suc (suc zero)))) s h = rank_at s (codes "^") (only_text (codes "^") _ s h)
sign_at_rank (suc (suc (suc (suc (suc zero))))) s h = rank_at s (codes "|") (only_text (codes "|") _ s h)
sign_at_rank (suc (suc (suc (suc (suc (suc zero)))))) s h = comparison_rank s h
sign_at_rank (suc (suc (suc (suc (suc (suc (suc k))))))) s h = cc

key_rank_at : (s t : List ℕ) → text_eq s t ≡ true → key_rank s ≡ key_rank t
key_rank_at s t h = ap key_rank (text_same s t h)

key_at_rank : (k : ℕ) (s : List ℕ) → is_some (key_at k s) ≡ true → key_rank s ≡ k + 2
key_at_rank zero s h = cc
key_at_rank (suc zero) s h = cc
key_at_rank (suc (suc zero)) s h = cc
key_at_rank (suc (suc (suc zero))) s h = cc
key_at_rank (suc (suc (suc (suc zero)))) s h = cc
key_at_rank (suc (suc (suc (suc (suc zero))))) s h = cc
key_at_rank (suc (suc (suc (suc (suc (suc zero)))))) s h = key_rank_at s (codes "in") (only_text (codes "in") _ s h)
key_at_rank (suc (suc (suc (suc (suc (suc (suc zero))))))) s h = key_rank_at s (codes "and") (only_text (codes "and") _ s h)
key_at_rank (suc (suc (suc (suc (suc (suc (suc (suc zero)))))))) s h = key_rank_at s (codes "or") (only_text (codes "or") _ s h)
key_at_rank (suc (suc (suc (suc (suc (suc (suc (suc (suc k))))))))) s h = cc

pub or_cases : (a b : Bool) → (a || b) ≡ true → (a ≡ true) ⊎ (b ≡ true)
or_cases true b h = inl refl
or_cases false b h = inr h

pub and_first : (a b : Bool) → (a && b) ≡ true → a ≡ true
and_first true b h = refl
and_first false b h = cc

pub and_second : (a b : Bool) → (a && b) ≡ true → b ≡ true
and_second true b h = h
and_second false b h = cc

pub six_is : (k : ℕ) → (k == 6) ≡ true → k ≡ 6
six_is k h = grind (arith, h)

worded_rank : (s : List ℕ) → (text_eq s (codes "not") || text_eq s (codes "is")) ≡ true → key_rank s ≡ 8
worded_rank s h = elim (or_cases (text_eq s (codes "not")) (text_eq s (codes "is")) h) [ inl e ↦ key_rank_at s (codes "not") e | inr e ↦ key_rank_at s (codes "is") e ]

mark_is_operator_rank : (k : ℕ) (m : Mark) → (is_some (valued sign_of (sign_at k) m) || is_some (valued keyword_of (key_at k) m) || ((k == 6) && starts_worded m)) ≡ true → mark_rank m ≡ k + 2
mark_is_operator_rank k (mark.Sign s) h = elim (or_cases (is_some (sign_at k s) || false) ((k == 6) && false) h) [
  | inl a ↦ elim (or_cases (is_some (sign_at k s)) false a) [ inl b ↦ sign_at_rank k s b | inr b ↦ cc ]
  | inr a ↦ let b = and_second (k == 6) false a in cc
]
mark_is_operator_rank k (mark.Keyword s) h = elim (or_cases (is_some (key_at k s)) ((k == 6) && (text_eq s (codes "not") || text_eq s (codes "is"))) h) [
  | inl b ↦ key_at_rank k s b
  | inr a ↦ let e = six_is k (and_first (k == 6) _ a) in worded_rank s (and_second (k == 6) _ a) ∙ sym (ap (λ n. n + 2) e)
]
mark_is_operator_rank k (mark.Name s) h = let b = and_second (k == 6) false h in cc
mark_is_operator_rank k (mark.Number n) h = let b = and_second (k == 6) false h in cc
mark_is_operator_rank k (mark.Decimal d) h = let b = and_second (k == 6) false h in cc
mark_is_operator_rank k (mark.Str s) h = let b = and_second (k == 6) false h in cc
mark_is_operator_rank k (mark.Format s) h = let b = and_second (k == 6) false h in cc
mark_is_operator_rank k mark.Other h = let b = and_second (k == 6) false h in cc

-- an operator of level k has the rank k + 2
pub operator_rank : (k : ℕ) (ws : List Word) → is_operator k ws ≡ true → rank ws ≡ k + 2
unfolding is_operator
operator_rank k [] h = cc
operator_rank k (w ∷ r) h = mark_is_operator_rank k w.mark h

pub no_operator : (k : ℕ) (ws : List Word) → k + 2 < rank ws → is_operator k ws ≡ false
no_operator k ws h = refuted (is_operator k ws) (λ t. let e = operator_rank k ws t in omega arith)

-- ---- what begins an expression

mark_begins_lead : (m : Mark) → mark_lead m ≤ 3 → begins_mark m ≡ true
unfolding begins_mark
mark_begins_lead (mark.Name s) h = refl
mark_begins_lead (mark.Number n) h = refl
mark_begins_lead (mark.Decimal d) h = refl
mark_begins_lead (mark.Str s) h = refl
mark_begins_lead (mark.Format s) h = refl
mark_begins_lead mark.Other h = absurd (omega arith)
mark_begins_lead (mark.Sign s) h = go (text_eq s (codes "(")) (text_eq s (codes "[")) (text_eq s (codes "{")) (is_some (unary_of s)) h
  where
    go : (a b c d : Bool) → (if a then 0 else if b then 0 else if c then 0 else if d then 2 else 9) ≤ 3 → (a || b || c || d) ≡ true
    go true b c d h = refl
    go false true c d h = refl
    go false false true d h = refl
    go false false false true h = refl
    go false false false false h = absurd (omega arith)
mark_begins_lead (mark.Keyword s) h = go (is_some (constant_of s)) (text_eq s (codes "await")) (text_eq s (codes "not")) h
  where
    go : (a b c : Bool) → (if a then 0 else if b then 1 else if c then 3 else 9) ≤ 3 → (c || b || a) ≡ true
    go true true true h = refl
    go true true false h = refl
    go true false true h = refl
    go true false false h = refl
    go false true true h = refl
    go false true false h = refl
    go false false true h = refl
    go false false false h = absurd (omega arith)

pub begins_lead : (ws : List Word) → lead ws ≤ 3 → begins ws ≡ true
unfolding begins
begins_lead [] h = absurd (omega arith)
begins_lead (w ∷ r) h = mark_begins_lead w.mark h
