-- Tokens take whole characters of the text, in order.
use Rattle.std.proofs.Common.{◌≡◌, ℕ, true, ◌+◌, ◌<◌, ◌≤◌, List, [], ◌∷◌, ◌++◌, length, refl, ap, sym, subst, ◌∙◌, arith, append_assoc, length-append, Ok}
use Rattle.std.specs.Prelude.{All}
use Rattle.std.specs.Str.{chars, IsUtf8, IsCharBoundary}
use Rattle.std.proofs.Math.Utf8.{encode, encodes, scalars, scalar}
use Rattle.std.proofs.lemmas.Bool.{and_parts, cond_both}
use Rattle.std.proofs.lemmas.Str.{chars-encodes, length-le-encodes, length-encode, encodes-append, IsCharBoundary-at_seam}
use Rattle.std.proofs.lemmas.List.Elements.{All-cons, All-nil}
use Rattle.py_lexer.specs.declared.token.Token.{Token}
use Rattle.py_lexer.specs.declared.line.Line.{Line}
use Rattle.py_lexer.specs.declared.going.Going.{Going}
use Rattle.py_lexer.specs.declared.piece.Mark.{Mark}
use Rattle.py_lexer.specs.declared.piece.Placed.{Placed}
use Rattle.py_lexer.specs.Characters.{next, past, start}
use Rattle.py_lexer.specs.Lines.{fresh, meet, ends_logical, line_by, line_of, before, going_on, lines_from, logical_lines}
use Rattle.py_lexer.specs.Tiles.{tokens_in, Tiles, over, gap, token}
use Rattle.py_lexer.specs.Spans.{IsSpan, IsInOrder, IsLineOf}
use Rattle.py_lexer.proofs.SizeLaws.{token_some}
use Rattle.py_lexer.proofs.TileLaws.{before_ok, going_ok, last_ok, lines_tile}

-- a fact of each element, by recursion
abbrev pub Each : {A : Type 0} → (A → Type 0) → List A → Type 0
Each P [] = Unit {0}
Each P (x ∷ xs) = P x × Each P xs

All-from_Each : {A : Type 0} (P : A → Type 0) (xs : List A) → Each P xs → All P xs
All-from_Each P [] e = All-nil P
All-from_Each P (x ∷ xs) e = All-cons P x xs e.0 (All-from_Each P xs e.1)

Each-split : {A : Type 0} (P : A → Type 0) (xs ys : List A) → Each P (xs ++ ys) → Each P xs × Each P ys
Each-split P [] ys e = (tt, e)
Each-split P (x ∷ xs) ys e = let rest = Each-split P xs ys e.1 in ((e.0, rest.0), rest.1)

order_down : (m n : ℕ) (ts : List Token) → m ≤ n → IsInOrder n ts → IsInOrder m ts
order_down m n [] h o = tt
order_down m n (t ∷ ts) h o = (omega (arith, o.0), o.1)

order_split : (n : ℕ) (xs ys : List Token) → IsInOrder n (xs ++ ys) → IsInOrder 0 xs × IsInOrder 0 ys
order_split n [] ys o = (tt, order_down 0 n ys (omega arith) o)
order_split n (x ∷ xs) ys o = let rest = order_split_from x.end xs ys o.1 in ((omega arith, rest.0), rest.1)
  where
    order_split_from : (n : ℕ) (xs ys : List Token) → IsInOrder n (xs ++ ys) → IsInOrder n xs × IsInOrder 0 ys
    order_split_from n [] ys o = (tt, order_down 0 n ys (omega arith) o)
    order_split_from n (x ∷ xs) ys o = let rest = order_split_from x.end xs ys o.1 in ((o.0, rest.0), rest.1)

-- a mark counts the bytes of what it has passed
past_byte : (m : Mark) (xs : List ℕ) → (past m xs).byte ≡ m.byte + length (encodes xs)
unfolding past
past_byte m [] = omega arith
past_byte m (c ∷ cs) = omega (arith, past_byte (next m c) cs, length-append (encode c) (encodes cs), length-encode c)

scalars_split : (xs ys : List ℕ) → scalars (xs ++ ys) ≡ true → scalars ys ≡ true
scalars_split [] ys s = s
scalars_split (x ∷ xs) ys s = scalars_split xs ys (and_parts (scalar x) (scalars (xs ++ ys)) s).1

abbrev SpansAt : List ℕ → Mark → List ℕ → List Token → Type 0
SpansAt front m cs ts = m.byte ≡ length (encodes front) → scalars cs ≡ true → Each (IsSpan (encodes (front ++ cs))) ts × IsInOrder m.byte ts

seam : (front cs : List ℕ) → scalars cs ≡ true → IsCharBoundary (encodes (front ++ cs)) (length (encodes front))
seam front cs s = IsCharBoundary-at_seam (encodes (front ++ cs)) (encodes front) (encodes cs) (encodes-append front cs) (cs, (s, refl))

-- tokens that tile a text take whole characters of it, in order
spans : (m : Mark) (cs : List ℕ) (ts : List Token) → Tiles m cs ts → (front : List ℕ) → SpansAt front m cs ts
spans m cs ts (over n) front b s = (tt, tt)
spans m cs ts (gap n between rest us h t) front b s =
    let here : (past n between).byte ≡ length (encodes (front ++ between)) = omega (arith, past_byte n between, ap length (encodes-append front between), length-append (encodes front) (encodes between)) in
    let more = spans (past n between) rest us t (front ++ between) here (scalars_split between rest s) in
    (subst (λ text. Each (IsSpan (encodes text)) us) (append_assoc front between rest) more.0, order_down n.byte (past n between).byte us (omega (arith, past_byte n between)) more.1)
spans m cs ts (token n form text rest us h l t) front b s =
    let here : (past n text).byte ≡ length (encodes (front ++ text)) = omega (arith, past_byte n text, ap length (encodes-append front text), length-append (encodes front) (encodes text)) in
    let more = spans (past n text) rest us t (front ++ text) here (scalars_split text rest s) in
    let whole = encodes (front ++ (text ++ rest)) in
    let starts : IsCharBoundary whole n.byte = subst (IsCharBoundary whole) (sym b) (seam front (text ++ rest) s) in
    let ends : IsCharBoundary whole (past n text).byte = subst (λ xs. IsCharBoundary (encodes xs) (past n text).byte) (append_assoc front text rest) (subst (IsCharBoundary (encodes ((front ++ text) ++ rest))) (sym here) (seam (front ++ text) rest (scalars_split text rest s))) in
    let some : n.byte < (past n text).byte = omega (arith, past_byte n text, token_some form text h, length-le-encodes text) in
    ((record { some = some; starts = starts; ends = ends }, subst (λ xs. Each (IsSpan (encodes xs)) us) (append_assoc front text rest) more.0), (omega arith, more.1))

-- a line has a token, and the place of the first
pub record IsFormed (l : Line) : Type 0 where
  pub first : Token
  pub rest : List Token
  pub tokens : l.tokens ≡ first ∷ rest
  pub place : l.place ≡ first.place

line_formed : (indent : ℕ) (ts : List Token) → Each IsFormed (line_by indent ts)
line_formed indent [] = tt
line_formed indent (t ∷ ts) = (record { first = t; rest = ts; tokens = refl; place = refl }, tt)

Each-join : {A : Type 0} (P : A → Type 0) (xs ys : List A) → Each P xs → Each P ys → Each P (xs ++ ys)
Each-join P [] ys a b = b
Each-join P (x ∷ xs) ys a b = (a.0, Each-join P xs ys a.1 b)

lines_formed : (ps : List Placed) (g : Going) (ls : List Line) → lines_from g ps ≡ Ok ls → Each IsFormed ls
unfolding lines_from
lines_formed [] g ls e = subst (Each IsFormed) (last_ok ls g.brackets g e) (line_formed g.indent g.tokens)
lines_formed (p ∷ ps) g ls e =
    cond_both (ends_logical p g) (before (line_of g) (lines_from fresh ps)) (going_on (meet p g) (λ h. lines_from h ps)) (λ r. r ≡ Ok ls → Each IsFormed ls)
    (λ _ e. let more = before_ok (line_of g) ls (lines_from fresh ps) e in subst (Each IsFormed) more.2 (Each-join IsFormed (line_of g) more.0 (line_formed g.indent g.tokens) (lines_formed ps fresh more.0 more.1)))
    (λ _ e. let on = going_ok ls (meet p g) (λ h. lines_from h ps) e in lines_formed ps on.0 ls on.2)
    e

lines_of_text : (text : List ℕ) (n : ℕ) (ls : List Line) → Each IsFormed ls → Each (IsSpan text) (tokens_in ls) → IsInOrder n (tokens_in ls) → Each (IsLineOf text) ls
lines_of_text text n [] f s o = tt
lines_of_text text n (l ∷ ls) f s o =
    let parts = Each-split (IsSpan text) l.tokens (tokens_in ls) s in
    let ordered = order_split n l.tokens (tokens_in ls) o in (
      record {
        first = f.0.first;
        rest = f.0.rest;
        tokens = f.0.tokens;
        place = f.0.place;
        spans = All-from_Each (IsSpan text) l.tokens parts.0;
        order = ordered.0;
      },
      lines_of_text text 0 ls f.1 parts.1 ordered.1,
    )

-- the lines of a text keep to it
pub lines_kept : (text : List ℕ) (ls : List Line) → IsUtf8 text → logical_lines (chars text) ≡ Ok ls → All (IsLineOf text) ls × IsInOrder 0 (tokens_in ls)
unfolding logical_lines
lines_kept text ls u e =
    let same : chars text ≡ u.0 = ap chars (sym u.1.1) ∙ chars-encodes u.0 u.1.0 in
    let whole : encodes (chars text) ≡ text = ap encodes same ∙ u.1.1 in
    let all = spans start (chars text) (tokens_in ls) (lines_tile (chars text) ls e) [] refl (ap scalars same ∙ u.1.0) in
    let spanned : Each (IsSpan text) (tokens_in ls) = subst (λ bs. Each (IsSpan bs) (tokens_in ls)) whole all.0 in
    (All-from_Each (IsLineOf text) ls (lines_of_text text 0 ls (lines_formed _ fresh ls e) spanned all.1), all.1)
