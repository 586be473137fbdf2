-- The keywords that lines begin with, in the order in which the reader asks for them.
use Rattle.std.proofs.Common.{◌≡◌, ℕ, ◌<◌, ◌≤◌, refl, sym, ap, subst, List, [], ◌∷◌, arith}
use Rattle.std.specs.Prelude.{false, if◌then◌else◌, codes}
use Rattle.lists.specs.Texts.{text_eq}
use Rattle.py_grammar.specs.declared.word.Word.{Word}
use Rattle.py_grammar.specs.declared.word.Mark.{Mark}
use Rattle.py_grammar.specs.declared.word.Mark.TheVariants as mark
use Rattle.py_grammar.specs.Words.{next_key}
use Rattle.py_grammar.specs.Line_reading.{head_next}
use Rattle.py_grammar.proofs.Exact.{text_same}
use Rattle.py_grammar.proofs.Ends.{lead, mark_lead, key_lead, Key_first, key_first, refuted}

abbrev pub key_order : List ℕ → ℕ
key_order s =
    if text_eq s (codes "if") then 1 else
    if text_eq s (codes "elif") then 2 else
    if text_eq s (codes "else") then 3 else
    if text_eq s (codes "while") then 4 else
    if text_eq s (codes "for") then 5 else
    if text_eq s (codes "with") then 6 else
    if text_eq s (codes "class") then 7 else
    if text_eq s (codes "async") then 8 else
    if text_eq s (codes "def") then 9 else
    if text_eq s (codes "pass") then 10 else
    if text_eq s (codes "break") then 11 else
    if text_eq s (codes "continue") then 12 else
    if text_eq s (codes "return") then 13 else
    if text_eq s (codes "assert") then 14 else
    if text_eq s (codes "raise") then 15 else
    if text_eq s (codes "from") then 16 else 17

abbrev pub mark_order : Mark → ℕ
mark_order (mark.Keyword s) = key_order s
mark_order (mark.Sign s) = 17
mark_order (mark.Name s) = 17
mark_order (mark.Number n) = 17
mark_order (mark.Decimal d) = 17
mark_order (mark.Str s) = 17
mark_order (mark.Format s) = 17
mark_order mark.Other = 17

-- 0 where there are no words
abbrev pub order : List Word → ℕ
order [] = 0
order (w ∷ r) = mark_order w.mark

order_of : (s : List ℕ) (ws : List Word) → Key_first s ws → order ws ≡ key_order s
order_of s ws f = ap order f.whole

pub key_past : (s : List ℕ) (n : ℕ) (ws : List Word) → n < key_order s → Key_first s ws → n < order ws
key_past s n ws h f = subst (λ x. n < x) (sym (order_of s ws f)) h

-- a keyword of the order n or before is not first of words of a later order
pub key_by_order : (s : List ℕ) (ws : List Word) (n : ℕ) → n < order ws → key_order s ≤ n → next_key s ws ≡ false
key_by_order s ws n h le = refuted (next_key s ws) (λ t. let e = order_of s ws (key_first s ws t) in let low : order ws ≤ n = subst (λ x. x ≤ n) (sym e) le in omega arith)

-- no expression begins with one of them
mark_by_lead : (m : Mark) → mark_lead m ≤ 3 → mark_order m ≡ 17
mark_by_lead (mark.Sign s) h = refl
mark_by_lead (mark.Name s) h = refl
mark_by_lead (mark.Number n) h = refl
mark_by_lead (mark.Decimal d) h = refl
mark_by_lead (mark.Str s) h = refl
mark_by_lead (mark.Format s) h = refl
mark_by_lead mark.Other h = refl
mark_by_lead (mark.Keyword s) h = rw (no (codes "if") (omega arith), no (codes "elif") (omega arith), no (codes "else") (omega arith), no (codes "while") (omega arith), no (codes "for") (omega arith), no (codes "with") (omega arith), no (codes "class") (omega arith), no (codes "async") (omega arith), no (codes "def") (omega arith), no (codes "pass") (omega arith), no (codes "break") (omega arith), no (codes "continue") (omega arith), no (codes "return") (omega arith), no (codes "assert") (omega arith), no (codes "raise") (omega arith), no (codes "from") (omega arith)) refl
  where
    no : (t : List ℕ) → 3 < key_lead t → text_eq s t ≡ false
    no t far = refuted (text_eq s t) (λ e. let same : key_lead s ≡ key_lead t = ap key_lead (text_same s t e) in omega arith)

pub order_by_lead : (ws : List Word) → lead ws ≤ 3 → order ws ≡ 17
order_by_lead [] h = absurd (omega arith)
order_by_lead (w ∷ r) h = mark_by_lead w.mark h

pub head_not : (ws : List Word) → 9 < order ws → head_next ws ≡ false
unfolding head_next
head_not ws h = rw (key_by_order (codes "if") ws 9 h (omega arith), key_by_order (codes "elif") ws 9 h (omega arith), key_by_order (codes "else") ws 9 h (omega arith), key_by_order (codes "while") ws 9 h (omega arith), key_by_order (codes "for") ws 9 h (omega arith), key_by_order (codes "with") ws 9 h (omega arith), key_by_order (codes "class") ws 9 h (omega arith), key_by_order (codes "async") ws 9 h (omega arith), key_by_order (codes "def") ws 9 h (omega arith)) refl
