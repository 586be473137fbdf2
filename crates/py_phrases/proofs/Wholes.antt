-- What the reader of the grammar read of words is an answer about all of them.
use Rattle.std.proofs.Common.{◌≡◌, ℕ, refl, sym, ap, ◌∙◌, subst, length, List, [], ◌∷◌, ◌++◌, Some, arith}
use Rattle.std.specs.Prelude.{if◌then◌else◌, Result, Ok, Err}
use Rattle.std.proofs.lemmas.Option.{none-some}
use Rattle.py_grammar.specs.declared.word.Word.{Word}
use Rattle.py_grammar.specs.declared.word.Stop.{Stop}
use Rattle.py_grammar.specs.declared.word.Stop.TheVariants.{Unread, NoMemory}
use Rattle.py_grammar.specs.Readers.{Fails}
use Rattle.py_grammar.specs.Seen.{Seen, is_empty}
use Rattle.py_grammar.specs.Laws.{Exprs, exprs, ExprsReadIsDerived, ExprsDerivedIsRead}
use Rattle.py_words.specs.declared.phrase.Phrase.{Phrase}
use Rattle.py_words.specs.Phrases.{seen_of}
use Rattle.py_phrases.specs.Answering.{NothingStands, Answers}

nothing_left : (ws : List Word) → ws ++ [] ≡ ws
nothing_left [] = refl
nothing_left (w ∷ ws) = ap (λ z. w ∷ z) (nothing_left ws)

some_same : {A : Type 0} (x y : A) → Some x ≡ Some y → x ≡ y
some_same x y h = cc

-- all words were read
all_stand : ExprsReadIsDerived → (room : ℕ) (ws : List Word) (e : Seen) → exprs room ws ≡ Some (e, []) → Exprs room ws e
all_stand law room ws e h = let f = law room ws e [] h in subst (λ (z : List Word). Exprs room z e) (sym (f.split ∙ nothing_left f.front)) f.derived

-- some words were left
some_left : ExprsDerivedIsRead → (room : ℕ) (ws : List Word) (e : Seen) (w : Word) (r : List Word) → exprs room ws ≡ Some (e, w ∷ r) → NothingStands (Exprs room ws) Unread
some_left law room ws e w r h f d =
    let x : Seen × List Word = (e, w ∷ r) in
    let y : Seen × List Word = (f, []) in
    let same : x ≡ y = some_same x y (sym h ∙ law room ws f d) in
    omega (arith, ap (λ (z : Seen × List Word). length z.1) same)

-- nothing was read
pub nothing_stands : ExprsDerivedIsRead → (room : ℕ) (ws : List Word) (stop : Stop) → Fails stop (exprs room ws) → NothingStands (Exprs room ws) stop
nothing_stands law room ws Unread h = λ e d. let x : Seen × List Word = (e, []) in none-some x (sym h ∙ law room ws e d)
nothing_stands law room ws NoMemory h = h

-- a front was read, which is the answer where nothing is left
front_answers : ExprsReadIsDerived → ExprsDerivedIsRead → (room : ℕ) (ws : List Word) (p : Phrase) (rest : List Word) → exprs room ws ≡ Some (seen_of p, rest) → Answers (Exprs room ws) (if is_empty rest then Ok p else Err Unread)
front_answers law exact room ws p [] h = all_stand law room ws (seen_of p) h
front_answers law exact room ws p (w ∷ r) h = some_left exact room ws (seen_of p) w r h

pub answers : ExprsReadIsDerived → ExprsDerivedIsRead → (room : ℕ) (ws : List Word) (p : Phrase) (rest : List Word) (result : Result Phrase Stop) → exprs room ws ≡ Some (seen_of p, rest) → result ≡ (if is_empty rest then Ok p else Err Unread) → Answers (Exprs room ws) result
answers law exact room ws p rest result h same = subst (λ (z : Result Phrase Stop). Answers (Exprs room ws) z) (sym same) (front_answers law exact room ws p rest h)
