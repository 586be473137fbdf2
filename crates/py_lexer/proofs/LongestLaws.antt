-- No token is longer than the one that is cut.
use Rattle.std.proofs.Common.{◌≡◌, ℕ, zero, suc, Bool, true, false, ◌+◌, ◌-◌, ◌<◌, ◌≤◌, ◌^◌, ◌&&◌, List, [], ◌∷◌, ◌++◌, length, take, drop, refl, sym, subst, arith, cond, inl, inr, slice_index}
use Rattle.std.specs.Prelude.{nat_lt, ◌==◌, Option, None, Some, replicate}
use Rattle.std.specs.List.{list_all}
use Rattle.std.specs.Char.{is_ascii_alphabetic}
use Rattle.std.proofs.lemmas.Bool.{cond_both, cond-true, eqb-true, eq-eqb, ne_eqb, and_parts, and_from, both_ways, ltb-true, ltb-false, agree_below_at, false_from_ne_true, cases_Bool}
use Rattle.unicode_ident.specs.Ident.{is_xid_continue}
use Rattle.unicode_ident.proofs.Computing.{unicode_ident}
use Rattle.py_lexer.specs.declared.strings.Style.{Style}
use Rattle.py_lexer.specs.declared.strings.Body.{Body}
use Rattle.py_lexer.specs.declared.strings.Body.TheVariants.{Closed, Cut, Spoiled}
use Rattle.py_lexer.specs.declared.piece.Bracket.{Bracket}
use Rattle.py_lexer.specs.declared.piece.Front.{Front}
use Rattle.py_lexer.specs.declared.piece.Piece.{Piece}
use Rattle.py_lexer.specs.declared.piece.Piece.TheVariants.{Space, Tab, Comment, LineEnd, Joint, Token, Open, Close, Fault, Unclosed}
use Rattle.py_lexer.specs.declared.token.TokenForm.{TokenForm}
use Rattle.py_lexer.specs.declared.token.TokenForm.TheVariants.{Name, Keyword, Number, Decimal, Str, FormatStr, Sign}
use Rattle.py_lexer.specs.Characters.{line_end, ends_line, line_width}
use Rattle.py_lexer.specs.Names.{starts_name, name_width, word_form}
use Rattle.py_lexer.specs.Numbers.{is_digit, value_from, digit_count, numeral_of, digits_of, parts_of, is_decimal, is_small, decimal_width, number_front}
use Rattle.py_lexer.specs.Signs.{opened_by, closed_by, is_sign_of_three, is_sign_of_two, is_sign_of_one, sign_width}
use Rattle.py_lexer.specs.Strings.{is_tripled, quotes, string_from, string_by, style_of, string_front, is_quote}
use Rattle.py_lexer.specs.Grammar.{IsNumber, nothing, decimal, based, IsGrouped, single, digit, apart, IsDigits, IsDecimal, fractional, exponential, IsString, IsBody, closing, plain, escaped, joined, doubled, hole, IsToken, signs}
use Rattle.py_lexer.specs.Pieces.{fault, joint_front, sign_front, closed_front, bracket_front, word_by, word_front, plain_front, token_front, front_of}
use Rattle.py_lexer.proofs.FrontLaws.{SoundBy, front_sound, prefixed_sound, quote_of}
use Rattle.py_lexer.proofs.SizeLaws.{token_some}
use Rattle.py_lexer.proofs.BodyLaws.{IsQuote}
use Rattle.py_lexer.proofs.ReachWords.{no_start, no_continue, IsWord, among_each, keyword_is_word, word_reach}
use Rattle.py_lexer.proofs.ReachNumbers.{numeral_reach, whole_reach, decimal_reach}
use Rattle.py_lexer.proofs.ReachStrings.{body_reach}

-- a token reaches at least so far
abbrev pub ReachBy : Piece → ℕ → ℕ → Type 0
ReachBy Space w n = Unit {0}
ReachBy Tab w n = Unit {0}
ReachBy Comment w n = Unit {0}
ReachBy LineEnd w n = Unit {0}
ReachBy Joint w n = Unit {0}
ReachBy (Token form) w n = n ≤ w
ReachBy (Open b) w n = n ≤ w
ReachBy (Close b) w n = n ≤ w
ReachBy Fault w n = Unit {0}
ReachBy Unclosed w n = Unit {0}

abbrev pub Reach : ℕ → Front → Type 0
Reach n f = ReachBy f.piece f.width n

positive : (w : ℕ) (cs : List ℕ) → 0 < length (take w cs) → 0 < w
positive zero cs h = absurd (omega arith)
positive (suc w) cs h = omega arith

-- a token takes a character
one_by : (piece : Piece) (w n : ℕ) (cs : List ℕ) → n ≤ 1 → SoundBy piece (take w cs) → ReachBy piece w n
one_by Space w n cs l s = tt
one_by Tab w n cs l s = tt
one_by Comment w n cs l s = tt
one_by LineEnd w n cs l s = tt
one_by Joint w n cs l s = tt
one_by (Token form) w n cs l s = omega (arith, positive w cs (token_some form (take w cs) s))
one_by (Open b) w n cs l s = omega (arith, positive w cs (token_some Sign (take w cs) s))
one_by (Close b) w n cs l s = omega (arith, positive w cs (token_some Sign (take w cs) s))
one_by Fault w n cs l s = tt
one_by Unclosed w n cs l s = tt

one_reach : (c n : ℕ) (cs : List ℕ) → n ≤ 1 → Reach n (front_of (c ∷ cs))
one_reach c n cs l = one_by (front_of (c ∷ cs)).piece (front_of (c ∷ cs)).width n (c ∷ cs) l (front_sound c cs)

joint_reach : (n : ℕ) (cs : List ℕ) → Reach n (joint_front cs)
joint_reach n cs = cond_both (ends_line cs && nat_lt (line_end cs) (length cs)) (record { piece = Joint; width = 1 + line_end cs }) fault (Reach n) (λ _. tt) (λ _. tt)

-- only tokens are in question
front_reach : (c n : ℕ) (cs : List ℕ) → Reach n (token_front (c ∷ cs)) → Reach n (front_of (c ∷ cs))
unfolding front_of
front_reach c n cs t =
    let P = Reach n in
    let tokens = token_front (c ∷ cs) in
    let joints = cond (c == 92) (joint_front cs) tokens in
    let ends = cond (ends_line (c ∷ cs)) (record { piece = LineEnd; width = line_end (c ∷ cs) }) joints in
    let comments = cond (c == 35) (record { piece = Comment; width = 1 + line_width cs }) ends in
    let tabs = cond (c == 9) (record { piece = Tab; width = 1 }) comments in
    cond_both (c == 32) (record { piece = Space; width = 1 }) tabs P (λ _. tt)
    (λ _. cond_both (c == 9) (record { piece = Tab; width = 1 }) comments P (λ _. tt)
    (λ _. cond_both (c == 35) (record { piece = Comment; width = 1 + line_width cs }) ends P (λ _. tt)
    (λ _. cond_both (ends_line (c ∷ cs)) (record { piece = LineEnd; width = line_end (c ∷ cs) }) joints P (λ _. tt)
    (λ _. cond_both (c == 92) (joint_front cs) tokens P (λ _. joint_reach n cs) (λ _. t)))))

-- a quote begins and continues no name, and is no digit
quote_fact : (P : ℕ → Type 0) (c : ℕ) → is_quote c ≡ true → P 39 → P 34 → P c
quote_fact P c q a b = elim (quote_of c q) as (λ _. P c) [ inl e ↦ subst P (sym e) a | inr e ↦ subst P (sym e) b ]

quote_starts_none : (c : ℕ) → is_quote c ≡ true → starts_name c ≡ false
quote_starts_none c q = quote_fact (λ x. starts_name x ≡ false) c q (no_start 39 (omega arith) refl refl) (no_start 34 (omega arith) refl refl)

quote_continues_none : (c : ℕ) → is_quote c ≡ true → is_xid_continue c ≡ false
quote_continues_none c q = quote_fact (λ x. is_xid_continue x ≡ false) c q (no_continue 39 (omega arith) refl refl) (no_continue 34 (omega arith) refl refl)

word_by_reach : (form : Option TokenForm) (w n : ℕ) → n ≤ w → Reach n (word_by form w)
word_by_reach None w n l = tt
word_by_reach (Some form) w n l = l

prefix_reach : (c : ℕ) (rest b : List ℕ) → c ≡ 102 → list_all is_xid_continue rest ≡ true → is_quote (slice_index (rest ++ b) 0) ≡ true → Reach (suc (length rest)) (string_front (style_of true (slice_index (rest ++ b) 0) (drop 1 (rest ++ b))) (c ∷ (rest ++ b)))
prefix_reach c [] b e all q =
    let f = string_front (style_of true (slice_index b 0) (drop 1 b)) (c ∷ b) in
    one_by f.piece f.width 1 (c ∷ b) (omega arith) (prefixed_sound c b e q)
prefix_reach c (x ∷ xs) b e all q = absurd (both_ways (is_xid_continue x) (quote_continues_none x q) (and_parts (is_xid_continue x) (list_all is_xid_continue xs) all).0)

-- a word at the front
word_longest : (c : ℕ) (rest b : List ℕ) → starts_name c ≡ true → list_all is_xid_continue rest ≡ true → Reach (suc (length rest)) (front_of (c ∷ (rest ++ b)))
unfolding token_front plain_front
word_longest c rest b s all =
    let cs = rest ++ b in
    let n = suc (length rest) in
    let P = Reach n in
    let format = string_front (style_of true (slice_index cs 0) (drop 1 cs)) (c ∷ cs) in
    let numbers = cond (is_digit 10 c) (number_front (c ∷ cs)) (bracket_front (opened_by c) (c ∷ cs)) in
    let words = cond (starts_name c) (word_front (c ∷ cs)) numbers in
    let others = cond ((c == 102) && is_quote (slice_index cs 0)) format words in
    front_reach c n cs (cond_both (is_quote c) (string_front (style_of false c cs) (c ∷ cs)) others P
    (λ q. absurd (both_ways (starts_name c) (quote_starts_none c q) s))
    (λ _. cond_both ((c == 102) && is_quote (slice_index cs 0)) format words P
    (λ t. let both = and_parts (c == 102) (is_quote (slice_index cs 0)) t in prefix_reach c rest b (eqb-true c 102 both.0) all both.1)
    (λ _. cond_both (starts_name c) (word_front (c ∷ cs)) numbers P
    (λ _. word_by_reach (word_form (take (name_width cs) (c ∷ cs))) (name_width cs) n (word_reach c rest b all))
    (λ f. absurd (both_ways (starts_name c) f s)))))

-- a digit is no quote and begins no name
digit_no_quote : (c : ℕ) → is_digit 10 c ≡ true → is_quote c ≡ true → ⊥
digit_no_quote c d q = both_ways (is_digit 10 c) (quote_fact (λ x. is_digit 10 x ≡ false) c q refl refl) d

digit_low : (c : ℕ) → is_digit 10 c ≡ true → c < 58
digit_low c =
    let P : ℕ → Type 0 = λ v. nat_lt v 10 ≡ true → c < 58 in
    let last = cond (nat_lt c 123) (c - 87) 36 in
    let fifth = cond (nat_lt c 97) 36 last in
    let fourth = cond (nat_lt c 91) (c - 55) fifth in
    let third = cond (nat_lt c 65) 36 fourth in
    let second = cond (nat_lt c 58) (c - 48) third in
    cond_both (nat_lt c 48) 36 second P (λ a h. omega (arith, ltb-true c 48 a))
    (λ _. cond_both (nat_lt c 58) (c - 48) third P (λ a h. ltb-true c 58 a)
    (λ _. cond_both (nat_lt c 65) 36 fourth P (λ _ h. cc)
    (λ b. cond_both (nat_lt c 91) (c - 55) fifth P (λ _ h. absurd (omega (arith, ltb-false c 65 b, ltb-true (c - 55) 10 h)))
    (λ _. cond_both (nat_lt c 97) 36 last P (λ _ h. cc)
    (λ d. cond_both (nat_lt c 123) (c - 87) 36 P (λ _ h. absurd (omega (arith, ltb-false c 97 d, ltb-true (c - 87) 10 h))) (λ _ h. cc))))))

digit_starts_none : (c : ℕ) → is_digit 10 c ≡ true → starts_name c ≡ false
digit_starts_none c d =
    let low : c < 58 = digit_low c d in
    let both : (is_digit 10 c && is_ascii_alphabetic c) ≡ false = agree_below_at (λ x. is_digit 10 x && is_ascii_alphabetic x) (λ _. false) 128 c refl (omega arith) in
    let letter : is_ascii_alphabetic c ≡ false = false_from_ne_true (is_ascii_alphabetic c) (λ t. both_ways _ both (and_from (is_digit 10 c) (is_ascii_alphabetic c) d t)) in
    no_start c (omega arith) letter (ne_eqb c 95 (λ e. omega (arith, e)))

-- at a digit the number decides
digit_front : (c n : ℕ) (cs : List ℕ) → is_digit 10 c ≡ true → Reach n (number_front (c ∷ cs)) → Reach n (front_of (c ∷ cs))
unfolding token_front plain_front
digit_front c n cs d r =
    let P = Reach n in
    let format = string_front (style_of true (slice_index cs 0) (drop 1 cs)) (c ∷ cs) in
    let numbers = cond (is_digit 10 c) (number_front (c ∷ cs)) (bracket_front (opened_by c) (c ∷ cs)) in
    let words = cond (starts_name c) (word_front (c ∷ cs)) numbers in
    let others = cond ((c == 102) && is_quote (slice_index cs 0)) format words in
    front_reach c n cs (cond_both (is_quote c) (string_front (style_of false c cs) (c ∷ cs)) others P
    (λ q. absurd (digit_no_quote c d q))
    (λ _. cond_both ((c == 102) && is_quote (slice_index cs 0)) format words P
    (λ t. absurd (both_ways (is_digit 10 c) (subst (λ x. is_digit 10 x ≡ false) (sym (eqb-true c 102 (and_parts (c == 102) (is_quote (slice_index cs 0)) t).0)) refl) d))
    (λ _. cond_both (starts_name c) (word_front (c ∷ cs)) numbers P
    (λ s. absurd (both_ways (starts_name c) (digit_starts_none c d) s))
    (λ _. cond_both (is_digit 10 c) (number_front (c ∷ cs)) (bracket_front (opened_by c) (c ∷ cs)) P (λ _. r) (λ f. absurd (both_ways (is_digit 10 c) f d))))))

whole_of : (X : List ℕ) → digit_count 10 X ≤ decimal_width (parts_of X)
unfolding parts_of
whole_of X = omega arith

-- a number at the front
number_at : (X : List ℕ) (n : ℕ) → (is_decimal (parts_of X) ≡ true → n ≤ decimal_width (parts_of X)) → (is_decimal (parts_of X) ≡ false → n ≤ (numeral_of X).width) → Reach n (number_front X)
unfolding number_front
number_at X n a b =
    let P = Reach n in
    let p = parts_of X in
    let m = numeral_of X in
    let narrow = nat_lt (value_from m.base 0 (digits_of m X)) (2 ^ 128) in
    let first = cond (is_small p X) (record { piece = Token Decimal; width = decimal_width p }) fault in
    let second = cond narrow (record { piece = Token Number; width = m.width }) fault in
    cond_both (is_decimal p) first second P
    (λ some. cond_both (is_small p X) (record { piece = Token Decimal; width = decimal_width p }) fault P (λ _. a some) (λ _. tt))
    (λ none. cond_both narrow (record { piece = Token Number; width = m.width }) fault P (λ _. b none) (λ _. tt))

number_reach : (other b : List ℕ) → IsNumber other → Reach (length other) (number_front (other ++ b))
number_reach other b n = number_at (other ++ b) (length other) (λ some. omega (arith, whole_reach other b n some, whole_of (other ++ b))) (λ _. numeral_reach other b n)

decimal_at : (other b : List ℕ) → IsDecimal other → Reach (length other) (number_front (other ++ b))
decimal_at other b d =
    let r = decimal_reach other b d in
    number_at (other ++ b) (length other) (λ _. r.1) (λ none. absurd (both_ways (is_decimal (parts_of (other ++ b))) none r.0))

-- a text that begins with a digit
abbrev BeginsWithDigit : List ℕ → Type 0
BeginsWithDigit [] = ⊥
BeginsWithDigit (c ∷ cs) = is_digit 10 c ≡ true

grouped_begins : (ds : List ℕ) → IsGrouped 10 ds → BeginsWithDigit ds
grouped_begins ds (single d h) = h
grouped_begins ds (digit d more h g) = h
grouped_begins ds (apart d more h g) = h

number_begins : (other : List ℕ) → IsNumber other → BeginsWithDigit other
number_begins other nothing = refl
number_begins other (decimal ds g z v) = grouped_begins ds g
number_begins other (based letter ds p g v) = refl

digits_begin' : (ds more : List ℕ) → IsDigits ds → BeginsWithDigit (ds ++ more)
digits_begin' [] more d = absurd (omega (arith, d.0))
digits_begin' (x ∷ xs) more d = (and_parts (is_digit 10 x) (list_all (is_digit 10) xs) d.1).0

decimal_begins : (other : List ℕ) → IsDecimal other → BeginsWithDigit other
decimal_begins other (fractional ws count fraction w f p few) = digits_begin' ws fraction w
decimal_begins other (exponential ws count fraction exponent w f few e) = digits_begin' ws (fraction ++ exponent) w

begun_with_digit : (other b : List ℕ) → BeginsWithDigit other → Reach (length other) (number_front (other ++ b)) → Reach (length other) (front_of (other ++ b))
begun_with_digit [] b d r = absurd d
begun_with_digit (c ∷ cs) b d r = digit_front c (suc (length cs)) (cs ++ b) d r

-- what a sign of two or three characters begins with begins nothing else
abbrev BeginsSign : ℕ → Type 0
BeginsSign c = (is_quote c ≡ false) × ((c == 102) ≡ false) × (starts_name c ≡ false) × (is_digit 10 c ≡ false) × (opened_by c ≡ None) × (closed_by c ≡ None)

abbrev SignKind : List ℕ → Type 0
SignKind [] = ⊥
SignKind (c ∷ []) = Unit {0}
SignKind (c ∷ d ∷ []) = (is_sign_of_two c d ≡ true) × BeginsSign c
SignKind (c ∷ d ∷ e ∷ []) = (is_sign_of_three c d e ≡ true) × BeginsSign c
SignKind (c ∷ d ∷ e ∷ f ∷ more) = ⊥

sign_kind : (text : List ℕ) → IsToken Sign text → SignKind text
unfolding unicode_ident
sign_kind text e = among_each SignKind signs text (tt, (tt, (tt, (tt, (tt, (tt, (tt, (tt, (tt, (tt, ((refl, (refl, refl, refl, refl, refl, refl)), ((refl, (refl, refl, refl, refl, refl, refl)), (tt, ((refl, (refl, refl, refl, refl, refl, refl)), (tt, ((refl, (refl, refl, refl, refl, refl, refl)), (tt, (tt, (tt, (tt, ((refl, (refl, refl, refl, refl, refl, refl)), (tt, ((refl, (refl, refl, refl, refl, refl, refl)), (tt, (tt, (tt, (tt, ((refl, (refl, refl, refl, refl, refl, refl)), ((refl, (refl, refl, refl, refl, refl, refl)), ((refl, (refl, refl, refl, refl, refl, refl)), ((refl, (refl, refl, refl, refl, refl, refl)), ((refl, (refl, refl, refl, refl, refl, refl)), ((refl, (refl, refl, refl, refl, refl, refl)), ((refl, (refl, refl, refl, refl, refl, refl)), ((refl, (refl, refl, refl, refl, refl, refl)), ((refl, (refl, refl, refl, refl, refl, refl)), ((refl, (refl, refl, refl, refl, refl, refl)), ((refl, (refl, refl, refl, refl, refl, refl)), ((refl, (refl, refl, refl, refl, refl, refl)), ((refl, (refl, refl, refl, refl, refl, refl)), tt)))))))))))))))))))))))))))))))))))))))) e

-- at such a character the signs decide
sign_front_at : (c n : ℕ) (cs : List ℕ) → BeginsSign c → Reach n (sign_front (c ∷ cs)) → Reach n (front_of (c ∷ cs))
unfolding token_front plain_front
sign_front_at c n cs k r =
    let P = Reach n in
    let format = string_front (style_of true (slice_index cs 0) (drop 1 cs)) (c ∷ cs) in
    let numbers = cond (is_digit 10 c) (number_front (c ∷ cs)) (bracket_front (opened_by c) (c ∷ cs)) in
    let words = cond (starts_name c) (word_front (c ∷ cs)) numbers in
    let others = cond ((c == 102) && is_quote (slice_index cs 0)) format words in
    let Q : Option Bracket → Type 0 = λ o. Reach n (bracket_front o (c ∷ cs)) in
    let R : Option Bracket → Type 0 = λ o. Reach n (closed_front o (c ∷ cs)) in
    front_reach c n cs (cond_both (is_quote c) (string_front (style_of false c cs) (c ∷ cs)) others P
    (λ q. absurd (both_ways (is_quote c) k.0 q))
    (λ _. cond_both ((c == 102) && is_quote (slice_index cs 0)) format words P
    (λ t. absurd (both_ways (c == 102) k.1 (and_parts (c == 102) (is_quote (slice_index cs 0)) t).0))
    (λ _. cond_both (starts_name c) (word_front (c ∷ cs)) numbers P
    (λ s. absurd (both_ways (starts_name c) k.2 s))
    (λ _. cond_both (is_digit 10 c) (number_front (c ∷ cs)) (bracket_front (opened_by c) (c ∷ cs)) P
    (λ d. absurd (both_ways (is_digit 10 c) k.3 d))
    (λ _. subst Q (sym k.4) (subst R (sym k.5) r))))))

sign_front_reach : (c n : ℕ) (cs : List ℕ) → n ≤ sign_width c (slice_index cs 0) (slice_index cs 1) → Reach n (sign_front (c ∷ cs))
sign_front_reach c n cs l =
    let width = sign_width c (slice_index cs 0) (slice_index cs 1) in
    cond_both (nat_lt 0 width) (record { piece = Token Sign; width = width }) fault (Reach n) (λ _. l) (λ _. tt)

two_wide : (c d e : ℕ) → is_sign_of_two c d ≡ true → 2 ≤ sign_width c d e
unfolding sign_width
two_wide c d e t =
    cond_both (is_sign_of_three c d e) 3 (cond (is_sign_of_two c d) 2 (cond (is_sign_of_one c) 1 0)) (λ w. 2 ≤ w) (λ _. omega arith)
    (λ _. let w : ℕ = cond (is_sign_of_two c d) 2 (cond (is_sign_of_one c) 1 0) in let e : w ≡ 2 = cond-true (is_sign_of_two c d) 2 (cond (is_sign_of_one c) 1 0) t in omega (arith, e))

three_wide : (c d e : ℕ) → is_sign_of_three c d e ≡ true → 3 ≤ sign_width c d e
unfolding sign_width
three_wide c d e t =
    let w : sign_width c d e ≡ 3 = cond-true (is_sign_of_three c d e) 3 (cond (is_sign_of_two c d) 2 (cond (is_sign_of_one c) 1 0)) t in omega (arith, w)

sign_longest : (other b : List ℕ) → SignKind other → Reach (length other) (front_of (other ++ b))
sign_longest [] b k = absurd k
sign_longest (c ∷ []) b k = one_reach c 1 b (omega arith)
sign_longest (c ∷ d ∷ []) b k = sign_front_at c 2 (d ∷ b) k.1 (sign_front_reach c 2 (d ∷ b) (two_wide c d (slice_index b 0) k.0))
sign_longest (c ∷ d ∷ e ∷ []) b k = sign_front_at c 3 (d ∷ e ∷ b) k.1 (sign_front_reach c 3 (d ∷ e ∷ b) (three_wide c d e k.0))
sign_longest (c ∷ d ∷ e ∷ f ∷ more) b k = absurd k

-- a string of one line that begins with its quote is empty
first_quote : (holes : Bool) (q : ℕ) (rest b : List ℕ) → IsQuote q → IsBody (record { quote = q; triple = false; holes = holes }) rest → slice_index (rest ++ b) 0 ≡ q → length rest ≡ 1
first_quote holes q rest b h closing e = refl
first_quote holes q rest b h (plain c cs p body) e = absurd (both_ways ((c == q) && true) p.inside (and_from (c == q) true (eq-eqb c q e) refl))
first_quote holes q rest b h (escaped x cs t body) e = elim h as (λ _. suc (suc (length cs)) ≡ 1) [ inl f ↦ absurd (omega (arith, e, f)) | inr f ↦ absurd (omega (arith, e, f)) ]
first_quote holes q rest b h (joined ends cs t body) e = elim h as (λ _. suc (length (ends ++ cs)) ≡ 1) [ inl f ↦ absurd (omega (arith, e, f)) | inr f ↦ absurd (omega (arith, e, f)) ]
first_quote holes q rest b h (doubled brace cs t o body) e =
    elim h as (λ _. suc (suc (length cs)) ≡ 1) [
      | inl f ↦ elim o as (λ _. suc (suc (length cs)) ≡ 1) [ inl g ↦ absurd (omega (arith, e, f, g)) | inr g ↦ absurd (omega (arith, e, f, g)) ]
      | inr f ↦ elim o as (λ _. suc (suc (length cs)) ≡ 1) [ inl g ↦ absurd (omega (arith, e, f, g)) | inr g ↦ absurd (omega (arith, e, f, g)) ]
    ]
first_quote holes q rest b h (hole name cs t n body) e = elim h as (λ _. suc (length (name ++ 125 ∷ cs)) ≡ 1) [ inl f ↦ absurd (omega (arith, e, f)) | inr f ↦ absurd (omega (arith, e, f)) ]

-- the string that a first quote opens reaches so far, if it is closed
abbrev ClosesAt : Bool → ℕ → List ℕ → ℕ → Bool → Type 0
ClosesAt holes q Y n triple = (k : ℕ) → string_from (record { quote = q; triple = triple; holes = holes }) 0 0 (drop (cond triple 3 1) (q ∷ Y)) ≡ Closed k → n ≤ cond triple 3 1 + k

closed_same : (k n : ℕ) (b : Body) → b ≡ Closed (0 + n) → b ≡ Closed k → n ≤ k
closed_same k n b e f = let g : 0 + n ≡ k = cc in omega (arith, g)

short_closes : (holes : Bool) (q : ℕ) (rest b : List ℕ) → IsQuote q → IsBody (record { quote = q; triple = false; holes = holes }) rest → ClosesAt holes q (rest ++ b) (suc (length rest)) (is_tripled q (rest ++ b))
short_closes holes q rest b h body =
    let T = is_tripled q (rest ++ b) in
    let style : Style = record { quote = q; triple = false; holes = holes } in
    let P = ClosesAt holes q (rest ++ b) (suc (length rest)) in
    elim (cases_Bool T) as (λ _. P T) [
      | inl t ↦ subst P (sym t) (λ k e. let one : length rest ≡ 1 = first_quote holes q rest b h body (eqb-true _ q (and_parts (slice_index (rest ++ b) 0 == q) (slice_index (rest ++ b) 1 == q) t).0) in omega (arith, one))
      | inr t ↦ subst P (sym t) (λ k e. omega (arith, closed_same k (length rest) _ (body_reach style 0 rest b h body) e))
    ]

long_closes : (holes : Bool) (q : ℕ) (rest b : List ℕ) → IsQuote q → IsBody (record { quote = q; triple = true; holes = holes }) rest → ClosesAt holes q (q ∷ q ∷ (rest ++ b)) (suc (suc (suc (length rest)))) (is_tripled q (q ∷ q ∷ (rest ++ b)))
long_closes holes q rest b h body =
    let style : Style = record { quote = q; triple = true; holes = holes } in
    let P = ClosesAt holes q (q ∷ q ∷ (rest ++ b)) (suc (suc (suc (length rest)))) in
    let e = eq-eqb q q refl in
    subst P (sym (and_from (q == q) (q == q) e e)) (λ k f. omega (arith, closed_same k (length rest) _ (body_reach style 0 rest b h body) f))

string_by_reach : (style : Style) (lead n : ℕ) (body : Body) → ((k : ℕ) → body ≡ Closed k → n ≤ lead + k) → Reach n (string_by style lead body)
string_by_reach style lead n (Closed k) r = r k refl
string_by_reach style lead n Cut r = cond_both style.triple (record { piece = Unclosed; width = lead }) (record { piece = Fault; width = 0 }) (Reach n) (λ _. tt) (λ _. tt)
string_by_reach style lead n (Spoiled k) r = tt

is_quote_from : (q : ℕ) → IsQuote q → is_quote q ≡ true
is_quote_from q h = elim h as (λ _. is_quote q ≡ true) [ inl e ↦ subst (λ x. is_quote x ≡ true) (sym e) refl | inr e ↦ subst (λ x. is_quote x ≡ true) (sym e) refl ]

str_front : (q n : ℕ) (Y : List ℕ) → IsQuote q → ClosesAt false q Y n (is_tripled q Y) → Reach n (front_of (q ∷ Y))
unfolding token_front string_front
str_front q n Y h r =
    let style = style_of false q Y in
    let lead : quotes style ≡ 0 + quotes style = omega arith in
    let found : Reach n (string_by style (0 + quotes style) (string_from style 0 0 (drop (0 + quotes style) (q ∷ Y)))) =
    subst (λ m. Reach n (string_by style m (string_from style 0 0 (drop m (q ∷ Y))))) lead (string_by_reach style (quotes style) n _ r) in
    front_reach q n Y (cond_both (is_quote q) (string_front style (q ∷ Y)) _ (Reach n) (λ _. found) (λ f. absurd (both_ways (is_quote q) f (is_quote_from q h))))

format_front : (q n : ℕ) (Y : List ℕ) → IsQuote q → ClosesAt true q Y n (is_tripled q Y) → Reach (suc n) (front_of (102 ∷ q ∷ Y))
unfolding token_front string_front
format_front q n Y h r =
    let style = style_of true q Y in
    let lead : suc (quotes style) ≡ 1 + quotes style = omega arith in
    let found : Reach (suc n) (string_by style (1 + quotes style) (string_from style 0 0 (drop (1 + quotes style) (102 ∷ q ∷ Y)))) =
    subst (λ m. Reach (suc n) (string_by style m (string_from style 0 0 (drop m (102 ∷ q ∷ Y))))) lead (string_by_reach style (suc (quotes style)) (suc n) (string_from style 0 0 (drop (quotes style) (q ∷ Y))) (λ k e. let l : n ≤ quotes style + k = r k e in omega (arith, l))) in
    front_reach 102 (suc n) (q ∷ Y) (cond_both ((102 == 102) && is_quote q) (string_front style (102 ∷ q ∷ Y)) _ (Reach (suc n)) (λ _. found) (λ f. absurd (both_ways (is_quote q) f (is_quote_from q h))))

str_opened : (q : ℕ) (triple : Bool) (rest b : List ℕ) → IsQuote q → IsBody (record { quote = q; triple = triple; holes = false }) rest → Reach (length (replicate (cond triple 3 1) q ++ rest)) (front_of ((replicate (cond triple 3 1) q ++ rest) ++ b))
str_opened q false rest b h body = str_front q (suc (length rest)) (rest ++ b) h (short_closes false q rest b h body)
str_opened q true rest b h body = str_front q (suc (suc (suc (length rest)))) (q ∷ q ∷ (rest ++ b)) h (long_closes false q rest b h body)

format_opened : (q : ℕ) (triple : Bool) (rest b : List ℕ) → IsQuote q → IsBody (record { quote = q; triple = triple; holes = true }) rest → Reach (suc (length (replicate (cond triple 3 1) q ++ rest))) (front_of (102 ∷ ((replicate (cond triple 3 1) q ++ rest) ++ b)))
format_opened q false rest b h body = format_front q (suc (length rest)) (rest ++ b) h (short_closes true q rest b h body)
format_opened q true rest b h body = format_front q (suc (suc (suc (length rest)))) (q ∷ q ∷ (rest ++ b)) h (long_closes true q rest b h body)

str_longest : (other b : List ℕ) → IsString false other → Reach (length other) (front_of (other ++ b))
str_longest other b s =
    let q = s.style.quote in
    let body : IsBody (record { quote = q; triple = s.style.triple; holes = false }) s.rest = subst (λ (v : Bool). IsBody (record { quote = q; triple = s.style.triple; holes = v }) s.rest) s.of_kind s.body in
    subst (λ x. Reach (length x) (front_of (x ++ b))) (sym s.whole) (str_opened q s.style.triple s.rest b s.quote body)

format_longest : (other b : List ℕ) → IsString true other → Reach (suc (length other)) (front_of (102 ∷ (other ++ b)))
format_longest other b s =
    let q = s.style.quote in
    let body : IsBody (record { quote = q; triple = s.style.triple; holes = true }) s.rest = subst (λ (v : Bool). IsBody (record { quote = q; triple = s.style.triple; holes = v }) s.rest) s.of_kind s.body in
    subst (λ x. Reach (suc (length x)) (front_of (102 ∷ (x ++ b)))) (sym s.whole) (format_opened q s.style.triple s.rest b s.quote body)

keyword_longest : (other b : List ℕ) → IsWord other → Reach (length other) (front_of (other ++ b))
keyword_longest [] b w = absurd w
keyword_longest (c ∷ cs) b w = word_longest c cs b w.0 w.1

-- at the front of a text stands no token that is longer than the one that is cut
pub token_longest : (form : TokenForm) (other b : List ℕ) → IsToken form other → Reach (length other) (front_of (other ++ b))
token_longest Name other b n = subst (λ x. Reach (length x) (front_of (x ++ b))) (sym n.whole) (word_longest n.first n.rest b n.starts n.continues)
token_longest Keyword other b k = keyword_longest other b (keyword_is_word other k)
token_longest Number other b n = begun_with_digit other b (number_begins other n) (number_reach other b n)
token_longest Decimal other b d = begun_with_digit other b (decimal_begins other d) (decimal_at other b d)
token_longest Str other b s = str_longest other b s
token_longest FormatStr other b f = subst (λ x. Reach (length x) (front_of (x ++ b))) (sym f.1.0) (format_longest f.0 b f.1.1)
token_longest Sign other b s = sign_longest other b (sign_kind other s)
