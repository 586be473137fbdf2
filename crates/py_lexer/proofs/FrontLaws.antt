-- What stands at the front of a text has its form.
use Rattle.std.proofs.Common.{◌≡◌, ℕ, suc, Bool, true, false, ◌+◌, ◌<◌, ◌^◌, ◌&&◌, List, [], ◌∷◌, ◌++◌, length, take, drop, refl, ap, sym, subst, ◌∙◌, arith, cond, inl, inr, slice_index}
use Rattle.std.specs.Prelude.{nat_lt, ◌==◌, Option, None, Some, replicate}
use Rattle.std.proofs.lemmas.Bool.{cond_both, eqb-true, eq-eqb, and_parts, and_from, or_cases}
use Rattle.std.proofs.Math.Seq.{take-add}
use Rattle.py_lexer.specs.declared.strings.Style.{Style}
use Rattle.py_lexer.specs.declared.strings.Body.{Body}
use Rattle.py_lexer.specs.declared.strings.Body.TheVariants.{Closed, Cut, Spoiled}
use Rattle.py_lexer.specs.declared.piece.Bracket.{Bracket}
use Rattle.py_lexer.specs.declared.piece.Bracket.TheVariants.{Round, Square, Curly}
use Rattle.py_lexer.specs.declared.piece.Front.{Front}
use Rattle.py_lexer.specs.declared.piece.Piece.{Piece}
use Rattle.py_lexer.specs.declared.piece.Piece.TheVariants.{Space, Tab, Comment, LineEnd, Joint, Token, Open, Close, Fault, Unclosed}
use Rattle.py_lexer.specs.declared.token.TokenForm.{TokenForm}
use Rattle.py_lexer.specs.declared.token.TokenForm.TheVariants.{Number, Decimal, FormatStr, Sign}
use Rattle.py_lexer.specs.Characters.{line_end, ends_line, line_width}
use Rattle.py_lexer.specs.Names.{starts_name, name_width, word_form}
use Rattle.py_lexer.specs.Numbers.{is_digit, value_from, numeral_of, digits_of, parts_of, is_decimal, is_small, decimal_width, number_front}
use Rattle.py_lexer.specs.Signs.{opened_by, closed_by, sign_width}
use Rattle.py_lexer.specs.Strings.{is_tripled, quotes, string_from, string_by, style_of, string_front, is_quote}
use Rattle.py_lexer.specs.Grammar.{IsGap, space, tab, comment, line_end as ending, joint, IsToken, IsString, IsBody}
use Rattle.py_lexer.specs.Pieces.{fault, joint_front, sign_front, closed_front, bracket_front, word_by, word_front, plain_front, token_front, front_of}
use Rattle.py_lexer.proofs.LineEndLaws.{line_ends, comment_stays}
use Rattle.py_lexer.proofs.WordLaws.{WordAt, word_sound, word_token}
use Rattle.py_lexer.proofs.NumeralLaws.{numeral_sound}
use Rattle.py_lexer.proofs.DecimalLaws.{decimal_sound}
use Rattle.py_lexer.proofs.SignLaws.{sign_sound}
use Rattle.py_lexer.proofs.BodyLaws.{IsQuote, some_quote, closing_quotes, body_sound}

-- a piece has its form
abbrev pub SoundBy : Piece → List ℕ → Type 0
SoundBy Space text = IsGap text
SoundBy Tab text = IsGap text
SoundBy Comment text = IsGap text
SoundBy LineEnd text = IsGap text
SoundBy Joint text = IsGap text
SoundBy (Token form) text = IsToken form text
SoundBy (Open b) text = IsToken Sign text
SoundBy (Close b) text = IsToken Sign text
SoundBy Fault text = Unit {0}
SoundBy Unclosed text = Unit {0}

abbrev pub Sound : List ℕ → Front → Type 0
Sound cs f = SoundBy f.piece (take f.width cs)

-- opening quotes and a body are a string
string_whole : (style : Style) (cs : List ℕ) (n : ℕ) → IsQuote style.quote → take (quotes style) cs ≡ replicate (quotes style) style.quote → string_from style 0 0 (drop (quotes style) cs) ≡ Closed n → IsString style.holes (take (quotes style + n) cs)
string_whole style cs n q opens e =
    let behind = body_sound style 0 0 n (drop (quotes style) cs) (some_quote style.quote q) e in
    let all : behind.0 ≡ n = omega (arith, behind.1) in
    record {
      style = style;
      rest = take n (drop (quotes style) cs);
      quote = q;
      of_kind = refl;
      whole = take-add (quotes style) n cs ∙ ap (λ xs. xs ++ take n (drop (quotes style) cs)) opens;
      body = subst (λ k. IsBody style (take k (drop (quotes style) cs))) all behind.2;
    }

-- the quotes that a style is told by open a string
opened_quotes : (holes : Bool) (q : ℕ) (cs : List ℕ) → 0 < q → take (quotes (style_of holes q cs)) (q ∷ cs) ≡ replicate (quotes (style_of holes q cs)) q
opened_quotes holes q cs p =
    let three = is_tripled q cs in
    let rest : cond three three true ≡ true = cond_both three three true (λ b. b ≡ true) (λ t. t) (λ _. refl) in
    closing_quotes (style_of holes q cs) (q ∷ cs) p (and_from (q == q) (cond three three true) (eq-eqb q q refl) rest)

str_by : (q : ℕ) (cs : List ℕ) (b : Body) → IsQuote q → string_from (style_of false q cs) 0 0 (drop (quotes (style_of false q cs)) (q ∷ cs)) ≡ b → Sound (q ∷ cs) (string_by (style_of false q cs) (quotes (style_of false q cs)) b)
str_by q cs (Closed n) h e = string_whole (style_of false q cs) (q ∷ cs) n h (opened_quotes false q cs (some_quote q h)) e
str_by q cs Cut h e = cond_both (is_tripled q cs) (record { piece = Unclosed; width = quotes (style_of false q cs) }) (record { piece = Fault; width = 0 }) (Sound (q ∷ cs)) (λ _. tt) (λ _. tt)
str_by q cs (Spoiled n) h e = tt

pub str_sound : (q : ℕ) (cs : List ℕ) → IsQuote q → Sound (q ∷ cs) (string_front (style_of false q cs) (q ∷ cs))
unfolding string_front
str_sound q cs h =
    let style = style_of false q cs in
    let lead : quotes style ≡ 0 + quotes style = omega arith in
    subst (λ n. Sound (q ∷ cs) (string_by style n (string_from style 0 0 (drop n (q ∷ cs))))) lead (str_by q cs _ h refl)

format_by : (q : ℕ) (cs : List ℕ) (b : Body) → IsQuote q → string_from (style_of true q cs) 0 0 (drop (quotes (style_of true q cs)) (q ∷ cs)) ≡ b → Sound (102 ∷ q ∷ cs) (string_by (style_of true q cs) (suc (quotes (style_of true q cs))) b)
format_by q cs (Closed n) h e =
    let style = style_of true q cs in
    let width : suc (quotes style + n) ≡ suc (quotes style) + n = omega arith in
    subst (λ w. IsToken FormatStr (take w (102 ∷ q ∷ cs))) width
    (take (quotes style + n) (q ∷ cs), (refl, string_whole style (q ∷ cs) n h (opened_quotes true q cs (some_quote q h)) e))
format_by q cs Cut h e = cond_both (is_tripled q cs) (record { piece = Unclosed; width = suc (quotes (style_of true q cs)) }) (record { piece = Fault; width = 0 }) (Sound (102 ∷ q ∷ cs)) (λ _. tt) (λ _. tt)
format_by q cs (Spoiled n) h e = tt

pub format_sound : (q : ℕ) (cs : List ℕ) → IsQuote q → Sound (102 ∷ q ∷ cs) (string_front (style_of true q cs) (102 ∷ q ∷ cs))
unfolding string_front
format_sound q cs h =
    let style = style_of true q cs in
    let lead : suc (quotes style) ≡ 1 + quotes style = omega arith in
    subst (λ n. Sound (102 ∷ q ∷ cs) (string_by style n (string_from style 0 0 (drop n (102 ∷ q ∷ cs))))) lead (format_by q cs _ h refl)

pub quote_of : (c : ℕ) → is_quote c ≡ true → IsQuote c
quote_of c t = elim (or_cases (c == 39) (c == 34) t) as (λ _. IsQuote c) [ inl e ↦ inl (eqb-true c 39 e) | inr e ↦ inr (eqb-true c 34 e) ]

number_sound : (c : ℕ) (cs : List ℕ) → is_digit 10 c ≡ true → Sound (c ∷ cs) (number_front (c ∷ cs))
unfolding number_front
number_sound c cs d =
    let P = Sound (c ∷ cs) in
    let p = parts_of (c ∷ cs) in
    let n = numeral_of (c ∷ cs) in
    let narrow = nat_lt (value_from n.base 0 (digits_of n (c ∷ cs))) (2 ^ 128) in
    let first = cond (is_small p (c ∷ cs)) (record { piece = Token Decimal; width = decimal_width p }) fault in
    let second = cond narrow (record { piece = Token Number; width = n.width }) fault in
    cond_both (is_decimal p) first second P
    (λ some. cond_both (is_small p (c ∷ cs)) (record { piece = Token Decimal; width = decimal_width p }) fault P (λ small. decimal_sound c cs d some small) (λ _. tt))
    (λ _. cond_both narrow (record { piece = Token Number; width = n.width }) fault P (λ v. numeral_sound c cs d v) (λ _. tt))

sign_front_sound : (c : ℕ) (cs : List ℕ) → Sound (c ∷ cs) (sign_front (c ∷ cs))
sign_front_sound c cs =
    let width = sign_width c (slice_index cs 0) (slice_index cs 1) in
    cond_both (nat_lt 0 width) (record { piece = Token Sign; width = width }) fault (Sound (c ∷ cs)) (λ t. sign_sound (c ∷ cs) t) (λ _. tt)

closed_sound : (c : ℕ) (cs : List ℕ) → Sound (c ∷ cs) (closed_front (closed_by c) (c ∷ cs))
closed_sound c cs =
    let P : Option Bracket → Type 0 = λ o. Sound (c ∷ cs) (closed_front o (c ∷ cs)) in
    cond_both (c == 41) (Some Round) (cond (c == 93) (Some Square) (cond (c == 125) (Some Curly) None)) P (λ e. subst (λ x. IsToken Sign (x ∷ [])) (sym (eqb-true c 41 e)) refl)
    (λ _. cond_both (c == 93) (Some Square) (cond (c == 125) (Some Curly) None) P (λ e. subst (λ x. IsToken Sign (x ∷ [])) (sym (eqb-true c 93 e)) refl)
    (λ _. cond_both (c == 125) (Some Curly) None P (λ e. subst (λ x. IsToken Sign (x ∷ [])) (sym (eqb-true c 125 e)) refl) (λ _. sign_front_sound c cs)))

bracket_sound : (c : ℕ) (cs : List ℕ) → Sound (c ∷ cs) (bracket_front (opened_by c) (c ∷ cs))
bracket_sound c cs =
    let P : Option Bracket → Type 0 = λ o. Sound (c ∷ cs) (bracket_front o (c ∷ cs)) in
    cond_both (c == 40) (Some Round) (cond (c == 91) (Some Square) (cond (c == 123) (Some Curly) None)) P (λ e. subst (λ x. IsToken Sign (x ∷ [])) (sym (eqb-true c 40 e)) refl)
    (λ _. cond_both (c == 91) (Some Square) (cond (c == 123) (Some Curly) None) P (λ e. subst (λ x. IsToken Sign (x ∷ [])) (sym (eqb-true c 91 e)) refl)
    (λ _. cond_both (c == 123) (Some Curly) None P (λ e. subst (λ x. IsToken Sign (x ∷ [])) (sym (eqb-true c 123 e)) refl) (λ _. closed_sound c cs)))

word_by_sound : (c : ℕ) (cs : List ℕ) (form : Option TokenForm) → starts_name c ≡ true → WordAt (take (name_width cs) (c ∷ cs)) form → Sound (c ∷ cs) (word_by form (name_width cs))
word_by_sound c cs None s w = tt
word_by_sound c cs (Some form) s w = word_token form c cs s w

plain_sound : (c : ℕ) (cs : List ℕ) → Sound (c ∷ cs) (plain_front (c ∷ cs))
unfolding plain_front
plain_sound c cs =
    let others = cond (is_digit 10 c) (number_front (c ∷ cs)) (bracket_front (opened_by c) (c ∷ cs)) in
    cond_both (starts_name c) (word_front (c ∷ cs)) others (Sound (c ∷ cs))
    (λ s. word_by_sound c cs (word_form (take (name_width cs) (c ∷ cs))) s (word_sound (take (name_width cs) (c ∷ cs))))
    (λ _. cond_both (is_digit 10 c) (number_front (c ∷ cs)) (bracket_front (opened_by c) (c ∷ cs)) (Sound (c ∷ cs)) (λ d. number_sound c cs d) (λ _. bracket_sound c cs))

pub prefixed_sound : (c : ℕ) (cs : List ℕ) → c ≡ 102 → is_quote (slice_index cs 0) ≡ true → Sound (c ∷ cs) (string_front (style_of true (slice_index cs 0) (drop 1 cs)) (c ∷ cs))
prefixed_sound c [] e q = let z : false ≡ true = q in absurd cc
prefixed_sound c (x ∷ xs) e q = subst (λ y. Sound (y ∷ x ∷ xs) (string_front (style_of true x xs) (y ∷ x ∷ xs))) (sym e) (format_sound x xs (quote_of x q))

token_sound : (c : ℕ) (cs : List ℕ) → Sound (c ∷ cs) (token_front (c ∷ cs))
unfolding token_front
token_sound c cs =
    let P = Sound (c ∷ cs) in
    let format = string_front (style_of true (slice_index cs 0) (drop 1 cs)) (c ∷ cs) in
    let others = cond ((c == 102) && is_quote (slice_index cs 0)) format (plain_front (c ∷ cs)) in
    cond_both (is_quote c) (string_front (style_of false c cs) (c ∷ cs)) others P (λ q. str_sound c cs (quote_of c q))
    (λ _. cond_both ((c == 102) && is_quote (slice_index cs 0)) format (plain_front (c ∷ cs)) P
    (λ t. let both = and_parts (c == 102) (is_quote (slice_index cs 0)) t in prefixed_sound c cs (eqb-true c 102 both.0) both.1)
    (λ _. plain_sound c cs))

joint_sound : (cs : List ℕ) → Sound (92 ∷ cs) (joint_front cs)
joint_sound cs =
    let width : suc (line_end cs) ≡ 1 + line_end cs = omega arith in
    cond_both (ends_line cs && nat_lt (line_end cs) (length cs)) (record { piece = Joint; width = 1 + line_end cs }) fault (Sound (92 ∷ cs))
    (λ t. subst (λ w. IsGap (take w (92 ∷ cs))) width (joint (take (line_end cs) cs) (line_ends cs (and_parts (ends_line cs) _ t).0)))
    (λ _. tt)

-- the piece at the front of a text has its form
pub front_sound : (c : ℕ) (cs : List ℕ) → Sound (c ∷ cs) (front_of (c ∷ cs))
unfolding front_of
front_sound c cs =
    let P = Sound (c ∷ cs) in
    let tokens = token_front (c ∷ cs) in
    let joints = cond (c == 92) (joint_front cs) tokens in
    let ends = cond (ends_line (c ∷ cs)) (record { piece = LineEnd; width = line_end (c ∷ cs) }) joints in
    let comments = cond (c == 35) (record { piece = Comment; width = 1 + line_width cs }) ends in
    let tabs = cond (c == 9) (record { piece = Tab; width = 1 }) comments in
    let width : suc (line_width cs) ≡ 1 + line_width cs = omega arith in
    cond_both (c == 32) (record { piece = Space; width = 1 }) tabs P (λ e. subst (λ x. IsGap (x ∷ [])) (sym (eqb-true c 32 e)) space)
    (λ _. cond_both (c == 9) (record { piece = Tab; width = 1 }) comments P (λ e. subst (λ x. IsGap (x ∷ [])) (sym (eqb-true c 9 e)) tab)
    (λ _. cond_both (c == 35) (record { piece = Comment; width = 1 + line_width cs }) ends P
    (λ e. subst (λ w. IsGap (take w (c ∷ cs))) width (subst (λ x. IsGap (x ∷ take (line_width cs) cs)) (sym (eqb-true c 35 e)) (comment (take (line_width cs) cs) (comment_stays cs))))
    (λ _. cond_both (ends_line (c ∷ cs)) (record { piece = LineEnd; width = line_end (c ∷ cs) }) joints P (λ t. ending (take (line_end (c ∷ cs)) (c ∷ cs)) (line_ends (c ∷ cs) t))
    (λ _. cond_both (c == 92) (joint_front cs) tokens P (λ e. subst (λ x. Sound (x ∷ cs) (joint_front cs)) (sym (eqb-true c 92 e)) (joint_sound cs))
    (λ _. token_sound c cs)))))
