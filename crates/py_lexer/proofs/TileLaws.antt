-- The tokens of the lines, with what stands between them, are the text.
use Rattle.std.proofs.Common.{◌≡◌, ℕ, zero, suc, Bool, true, false, ◌+◌, ◌-◌, ◌<◌, ◌≤◌, ◌&&◌, List, [], ◌∷◌, ◌++◌, length, take, drop, refl, ap, sym, subst, ◌∙◌, arith, append_assoc, length-append, Result, Ok, Err}
use Rattle.std.specs.Prelude.{◌==◌}
use Rattle.std.proofs.lemmas.Bool.{cond_both}
use Rattle.std.proofs.lemmas.List.{take-append-drop, length-take}
use Rattle.amh_host.specs.declared.place.Place.{Place}
use Rattle.py_lexer.specs.declared.token.Token.{Token}
use Rattle.py_lexer.specs.declared.line.Line.{Line}
use Rattle.py_lexer.specs.declared.going.Going.{Going}
use Rattle.py_lexer.specs.declared.piece.Opening.{Opening}
use Rattle.py_lexer.specs.declared.piece.Mark.{Mark}
use Rattle.py_lexer.specs.declared.piece.Placed.{Placed}
use Rattle.py_lexer.specs.declared.piece.Piece.{Piece}
use Rattle.py_lexer.specs.declared.piece.Piece.TheVariants.{Space, Tab, Comment, LineEnd, Joint, Token as Word, Open, Close, Fault, Unclosed}
use Rattle.py_lexer.specs.declared.token.TokenForm.{TokenForm}
use Rattle.py_lexer.specs.declared.token.TokenForm.TheVariants.{Sign}
use Rattle.py_lexer.specs.Characters.{next, past, start}
use Rattle.py_lexer.specs.Grammar.{IsToken}
use Rattle.py_lexer.specs.Pieces.{front_of, placed, pieces_from}
use Rattle.py_lexer.specs.Lines.{fresh, token_of, with_token, opened, fits, innermost, without_innermost, spaced, meet, meet_by, is_line_end, ends_logical, line_by, line_of, before, last_by, going_on, lines_from, logical_lines}
use Rattle.py_lexer.specs.Tiles.{tokens_in, Tiles, over, gap, token}
use Rattle.py_lexer.proofs.FrontLaws.{SoundBy, front_sound}
use Rattle.py_lexer.specs.Longest.{IsLongest}
use Rattle.py_lexer.proofs.LongestLaws.{ReachBy, token_longest}
use Rattle.py_lexer.proofs.SizeLaws.{gap_some, token_some}

-- the tokens of pieces
abbrev pub piece_tokens : Piece → Placed → List Token
piece_tokens Space p = []
piece_tokens Tab p = []
piece_tokens Comment p = []
piece_tokens LineEnd p = []
piece_tokens Joint p = []
piece_tokens (Word form) p = token_of form p ∷ []
piece_tokens (Open b) p = token_of Sign p ∷ []
piece_tokens (Close b) p = token_of Sign p ∷ []
piece_tokens Fault p = []
piece_tokens Unclosed p = []

abbrev pub tokens_of : List Placed → List Token
tokens_of [] = []
tokens_of (p ∷ ps) = piece_tokens p.piece p ++ tokens_of ps

-- a piece that is no fault
abbrev pub IsGood : Piece → Type 0
IsGood Space = Unit {0}
IsGood Tab = Unit {0}
IsGood Comment = Unit {0}
IsGood LineEnd = Unit {0}
IsGood Joint = Unit {0}
IsGood (Word form) = Unit {0}
IsGood (Open b) = Unit {0}
IsGood (Close b) = Unit {0}
IsGood Fault = ⊥
IsGood Unclosed = ⊥

abbrev pub AreGood : List Placed → Type 0
AreGood [] = Unit {0}
AreGood (p ∷ ps) = IsGood p.piece × AreGood ps

-- no piece that is no fault is empty
piece_some : (piece : Piece) (xs : List ℕ) → IsGood piece → SoundBy piece xs → 0 < length xs
piece_some Space xs g h = gap_some xs h
piece_some Tab xs g h = gap_some xs h
piece_some Comment xs g h = gap_some xs h
piece_some LineEnd xs g h = gap_some xs h
piece_some Joint xs g h = gap_some xs h
piece_some (Word form) xs g h = token_some form xs h
piece_some (Open b) xs g h = token_some Sign xs h
piece_some (Close b) xs g h = token_some Sign xs h
piece_some Fault xs g h = absurd g
piece_some Unclosed xs g h = absurd g

-- a piece that is a token is the longest
abbrev LongestBy : Piece → List ℕ → List ℕ → Type 0
LongestBy Space xs rest = Unit {0}
LongestBy Tab xs rest = Unit {0}
LongestBy Comment xs rest = Unit {0}
LongestBy LineEnd xs rest = Unit {0}
LongestBy Joint xs rest = Unit {0}
LongestBy (Word form) xs rest = IsLongest xs rest
LongestBy (Open b) xs rest = IsLongest xs rest
LongestBy (Close b) xs rest = IsLongest xs rest
LongestBy Fault xs rest = Unit {0}
LongestBy Unclosed xs rest = Unit {0}

-- what reaches as far as each token is the longest
longest_from : (w : ℕ) (cs : List ℕ) → ((form : TokenForm) (other behind : List ℕ) → other ++ behind ≡ cs → IsToken form other → length other ≤ w) → IsLongest (take w cs) (drop w cs)
longest_from w cs h form other behind e t =
    let whole : other ++ behind ≡ cs = e ∙ take-append-drop w cs in
    let reach : length other ≤ w = h form other behind whole t in
    omega (arith, length-take w cs, length-append other behind, ap length whole)

abbrev EachReach : Piece → ℕ → List ℕ → Type 0
EachReach piece w cs = (form : TokenForm) (other behind : List ℕ) → other ++ behind ≡ cs → IsToken form other → ReachBy piece w (length other)

longest_by : (piece : Piece) (w : ℕ) (cs : List ℕ) → EachReach piece w cs → LongestBy piece (take w cs) (drop w cs)
longest_by Space w cs h = tt
longest_by Tab w cs h = tt
longest_by Comment w cs h = tt
longest_by LineEnd w cs h = tt
longest_by Joint w cs h = tt
longest_by (Word form) w cs h = longest_from w cs h
longest_by (Open b) w cs h = longest_from w cs h
longest_by (Close b) w cs h = longest_from w cs h
longest_by Fault w cs h = tt
longest_by Unclosed w cs h = tt

front_longest : (cs : List ℕ) → LongestBy (front_of cs).piece (take (front_of cs).width cs) (drop (front_of cs).width cs)
front_longest cs =
    longest_by (front_of cs).piece (front_of cs).width cs
    (λ form other behind e t. subst (λ xs. ReachBy (front_of xs).piece (front_of xs).width (length other)) e (token_longest form other behind t))

-- one piece, and the tiles behind it
tile : (piece : Piece) (m : Mark) (xs rest : List ℕ) (ts : List Token) → IsGood piece → SoundBy piece xs → LongestBy piece xs rest → Tiles (past m xs) rest ts → Tiles m (xs ++ rest) (piece_tokens piece (record { piece = piece; from = m; upto = past m xs }) ++ ts)
tile Space m xs rest ts g h l t = gap m xs rest ts h t
tile Tab m xs rest ts g h l t = gap m xs rest ts h t
tile Comment m xs rest ts g h l t = gap m xs rest ts h t
tile LineEnd m xs rest ts g h l t = gap m xs rest ts h t
tile Joint m xs rest ts g h l t = gap m xs rest ts h t
tile (Word form) m xs rest ts g h l t = token m form xs rest ts h l t
tile (Open b) m xs rest ts g h l t = token m Sign xs rest ts h l t
tile (Close b) m xs rest ts g h l t = token m Sign xs rest ts h l t
tile Fault m xs rest ts g h l t = absurd g
tile Unclosed m xs rest ts g h l t = absurd g

-- pieces without a fault tile the text
pub pieces_tile : (m : Mark) (left : ℕ) (cs : List ℕ) → AreGood (pieces_from m left cs) → Tiles (past m (take left cs)) (drop left cs) (tokens_of (pieces_from m left cs))
unfolding pieces_from past
pieces_tile m zero [] g = over m
pieces_tile m (suc left) [] g = over m
pieces_tile m (suc left) (c ∷ cs) g = pieces_tile (next m c) left cs g
pieces_tile m zero (c ∷ cs) g =
    let f = front_of (c ∷ cs) in
    let xs = take f.width (c ∷ cs) in
    let ts = tokens_of (pieces_from (next m c) (f.width - 1) cs) in
    let sound : SoundBy f.piece xs = front_sound c cs in
    let behind = pieces_tile (next m c) (f.width - 1) cs g.1 in
    let width : suc (f.width - 1) ≡ f.width = width_some f.width (c ∷ cs) (piece_some f.piece xs g.0 sound) in
    let rest : Tiles (past m xs) (drop f.width (c ∷ cs)) ts = subst (λ n. Tiles (past m (take n (c ∷ cs))) (drop n (c ∷ cs)) ts) width behind in
    subst (λ ys. Tiles m ys (piece_tokens f.piece (placed m f (c ∷ cs)) ++ ts)) (take-append-drop f.width (c ∷ cs)) (tile f.piece m xs (drop f.width (c ∷ cs)) ts g.0 sound (front_longest (c ∷ cs)) rest)
  where
    width_some : (w : ℕ) (xs : List ℕ) → 0 < length (take w xs) → suc (w - 1) ≡ w
    width_some zero xs h = absurd (omega arith)
    width_some (suc w) xs h = omega arith

tokens_in-append : (xs ys : List Line) → tokens_in (xs ++ ys) ≡ tokens_in xs ++ tokens_in ys
tokens_in-append [] ys = refl
tokens_in-append (x ∷ xs) ys = ap (λ ts. x.tokens ++ ts) (tokens_in-append xs ys) ∙ sym (append_assoc x.tokens (tokens_in xs) (tokens_in ys))

append_nil : {A : Type 0} (xs : List A) → xs ++ [] ≡ xs
append_nil [] = refl
append_nil (x ∷ xs) = ap (λ ys. x ∷ ys) (append_nil xs)

tokens_in-line : (indent : ℕ) (ts : List Token) → tokens_in (line_by indent ts) ≡ ts
tokens_in-line indent [] = refl
tokens_in-line indent (t ∷ ts) = append_nil (t ∷ ts)

pub before_ok : (xs ls : List Line) (r : Result (List Line) Place) → before xs r ≡ Ok ls → (ms : List Line) × (r ≡ Ok ms) × (xs ++ ms ≡ ls)
before_ok xs ls (Ok ms) e = (ms, refl, cc)
before_ok xs ls (Err place) e = cc

pub going_ok : (ls : List Line) (r : Result Going Place) (more : Going → Result (List Line) Place) → going_on r more ≡ Ok ls → (h : Going) × (r ≡ Ok h) × (more h ≡ Ok ls)
going_ok ls (Ok h) more e = (h, refl, e)
going_ok ls (Err place) more e = cc

pub last_ok : (ls : List Line) (os : List Opening) (g : Going) → last_by os g ≡ Ok ls → line_of g ≡ ls
last_ok ls [] g e = cc
last_ok ls (o ∷ os) g e = cc

abbrev MetBy : Piece → Placed → Going → Result Going Place → Type 0
MetBy piece p g r = (h : Going) → r ≡ Ok h → IsGood piece × (h.tokens ≡ g.tokens ++ piece_tokens piece p)

abbrev taken : Going → Result Going Place
taken g = Ok g

kept : (x h g : Going) (ts : List Token) → taken x ≡ Ok h → x.tokens ≡ g.tokens ++ ts → h.tokens ≡ g.tokens ++ ts
kept x h g ts e t = let q : h ≡ x = cc in ap (λ (y : Going). y.tokens) q ∙ t

spaced_tokens : (g : Going) → (spaced g).tokens ≡ g.tokens ++ []
spaced_tokens g = cond_both g.in_indent (record g { indent = g.indent + 1 }) g (λ (y : Going). y.tokens ≡ g.tokens ++ []) (λ _. sym (append_nil g.tokens)) (λ _. sym (append_nil g.tokens))

-- a piece that goes on with a line adds its token
met_tokens : (piece : Piece) (p : Placed) (g : Going) → MetBy piece p g (meet_by piece p g)
met_tokens Space p g h e = (tt, kept (spaced g) h g [] e (spaced_tokens g))
met_tokens Tab p g h e = cond_both g.in_indent (Err p.from.place) (Ok g) (λ r. r ≡ Ok h → Unit {0} × (h.tokens ≡ g.tokens ++ [])) (λ _ f. absurd (no_err _ _ f)) (λ _ f. (tt, kept g h g [] f (sym (append_nil g.tokens)))) e
  where
    no_err : (place : Place) (h : Going) → Err place ≡ Ok h → ⊥
    no_err place h e = cc
met_tokens Comment p g h e = (tt, kept g h g [] e (sym (append_nil g.tokens)))
met_tokens LineEnd p g h e = (tt, kept g h g [] e (sym (append_nil g.tokens)))
met_tokens Joint p g h e = (tt, kept (record g { in_indent = false }) h g [] e (sym (append_nil g.tokens)))
met_tokens (Word form) p g h e = (tt, kept (with_token form p g) h g (token_of form p ∷ []) e refl)
met_tokens (Open b) p g h e = (tt, kept (opened b p (with_token Sign p g)) h g (token_of Sign p ∷ []) e refl)
met_tokens (Close b) p g h e =
    cond_both (fits b (innermost g.brackets)) (Ok (with_token Sign p (without_innermost g))) (Err p.from.place) (λ r. r ≡ Ok h → Unit {0} × (h.tokens ≡ g.tokens ++ token_of Sign p ∷ []))
    (λ _ f. (tt, kept (with_token Sign p (without_innermost g)) h g (token_of Sign p ∷ []) f refl)) (λ _ f. absurd (no_err _ _ f)) e
  where
    no_err : (place : Place) (h : Going) → Err place ≡ Ok h → ⊥
    no_err place h e = cc
met_tokens Fault p g h e = cc
met_tokens Unclosed p g h e = cc

ends_good : (piece : Piece) (p : Placed) (b : Bool) → (is_line_end piece && b) ≡ true → IsGood piece × (piece_tokens piece p ≡ [])
ends_good LineEnd p b e = (tt, refl)
ends_good Space p b e = cc
ends_good Tab p b e = cc
ends_good Comment p b e = cc
ends_good Joint p b e = cc
ends_good (Word form) p b e = cc
ends_good (Open k) p b e = cc
ends_good (Close k) p b e = cc
ends_good Fault p b e = cc
ends_good Unclosed p b e = cc

-- the lines have the tokens of the pieces, of which none is a fault
lines_good : (ps : List Placed) (g : Going) (ls : List Line) → lines_from g ps ≡ Ok ls → AreGood ps × (tokens_in ls ≡ g.tokens ++ tokens_of ps)
unfolding lines_from meet
lines_good [] g ls e = (tt, ap tokens_in (sym (last_ok ls g.brackets g e)) ∙ (tokens_in-line g.indent g.tokens ∙ sym (append_nil g.tokens)))
lines_good (p ∷ ps) g ls e =
    cond_both (ends_logical p g) (before (line_of g) (lines_from fresh ps)) (going_on (meet p g) (λ h. lines_from h ps)) (λ r. r ≡ Ok ls → AreGood (p ∷ ps) × (tokens_in ls ≡ g.tokens ++ (piece_tokens p.piece p ++ tokens_of ps)))
    (λ ends e.
    let good = ends_good p.piece p (length g.brackets == 0) ends in
    let more = before_ok (line_of g) ls (lines_from fresh ps) e in
    let rest = lines_good ps fresh more.0 more.1 in
    ((good.0, rest.0), ap tokens_in (sym more.2) ∙ (tokens_in-append (line_of g) more.0 ∙ (ap (λ ts. ts ++ tokens_in more.0) (tokens_in-line g.indent g.tokens) ∙ (ap (λ ts. g.tokens ++ ts) (rest.1 ∙ ap (λ ts. ts ++ tokens_of ps) (sym good.1)))))))
    (λ _ e.
    let on = going_ok ls (meet p g) (λ h. lines_from h ps) e in
    let met = met_tokens p.piece p g on.0 on.1 in
    let rest = lines_good ps on.0 ls on.2 in
    ((met.0, rest.0), rest.1 ∙ (ap (λ ts. ts ++ tokens_of ps) met.1 ∙ append_assoc g.tokens (piece_tokens p.piece p) (tokens_of ps))))
    e

-- the tokens of the logical lines tile the text
pub lines_tile : (cs : List ℕ) (ls : List Line) → logical_lines cs ≡ Ok ls → Tiles start cs (tokens_in ls)
unfolding logical_lines past
lines_tile cs ls e =
    let good = lines_good (pieces_from start 0 cs) fresh ls e in
    subst (λ ts. Tiles start cs ts) (sym good.1) (pieces_tile start 0 cs good.0)
