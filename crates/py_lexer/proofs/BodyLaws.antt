-- Each string that is cut is one.
use Rattle.std.proofs.Common.{◌≡◌, ◌≢◌, ℕ, zero, suc, Bool, true, false, ◌+◌, ◌-◌, ◌<◌, ◌&&◌, ◌⊎◌, List, [], ◌∷◌, ◌++◌, take, drop, refl, ap, sym, subst, ◌∙◌, arith, cond, inl, inr, slice_index, append_assoc}
use Rattle.std.specs.Prelude.{nat_lt, ◌==◌, Option, None, Some, codes, replicate}
use Rattle.std.proofs.lemmas.Bool.{cond_both, cond-true, eqb-true, eqb-false, eq-eqb, and_parts, and_from, false_from_ne_true, both_ways}
use Rattle.std.proofs.Math.Seq.{take-add}
use Rattle.py_lexer.specs.declared.strings.Style.{Style}
use Rattle.py_lexer.specs.declared.strings.Part.{Part}
use Rattle.py_lexer.specs.declared.strings.Part.TheVariants.{Inner, Missing, Bad}
use Rattle.py_lexer.specs.declared.strings.Body.{Body}
use Rattle.py_lexer.specs.declared.strings.Body.TheVariants.{Closed}
use Rattle.py_lexer.specs.declared.token.TokenForm.{TokenForm}
use Rattle.py_lexer.specs.declared.token.TokenForm.TheVariants.{Name, Keyword, Number, Decimal, Str, FormatStr, Sign}
use Rattle.py_lexer.specs.Characters.{ends_line, line_end}
use Rattle.py_lexer.specs.Names.{starts_name, name_width, word_form}
use Rattle.py_lexer.specs.Signs.{is_in}
use Rattle.py_lexer.specs.Strings.{is_tripled, quotes, closes, escape, is_name, hole, opening_brace, closing_brace, plain_part, part_of, by_part, string_from}
use Rattle.py_lexer.specs.Grammar.{IsLineEnd, IsName, IsPlain, IsBody, closing, plain, escaped, joined, doubled, hole as in_hole}
use Rattle.py_lexer.proofs.WordLaws.{WordIs, WordAt, word_sound, name_sound}
use Rattle.py_lexer.proofs.LineEndLaws.{line_ends}

-- what stands at a place of a front stands there in the whole text
pub front_at : (k : ℕ) (cs : List ℕ) (i x : ℕ) → slice_index (take k cs) i ≡ x → 0 < x → slice_index cs i ≡ x
front_at zero cs i x e p = absurd (omega (arith, e))
front_at (suc k) [] i x e p = e
front_at (suc k) (c ∷ cs) zero x e p = e
front_at (suc k) (c ∷ cs) (suc i) x e p = front_at k cs i x e p

-- a quote is `'` or `"`
abbrev pub IsQuote : ℕ → Type 0
IsQuote q = (q ≡ 39) ⊎ (q ≡ 34)

pub some_quote : (q : ℕ) → IsQuote q → 0 < q
some_quote q h = elim h as (λ _. 0 < q) [ inl e ↦ omega (arith, e) | inr e ↦ omega (arith, e) ]

tripled_front : (q k : ℕ) (cs : List ℕ) → 0 < q → is_tripled q (take k cs) ≡ true → is_tripled q cs ≡ true
tripled_front q k cs p t =
    let both = and_parts (slice_index (take k cs) 0 == q) (slice_index (take k cs) 1 == q) t in
    and_from (slice_index cs 0 == q) (slice_index cs 1 == q)
    (eq-eqb _ _ (front_at k cs 0 q (eqb-true _ _ both.0) p)) (eq-eqb _ _ (front_at k cs 1 q (eqb-true _ _ both.1) p))

-- a string that is not closed in the text is not closed in a front of it
closes_front : (style : Style) (c k : ℕ) (cs : List ℕ) → 0 < style.quote → closes style (c ∷ cs) ≡ false → closes style (c ∷ take k cs) ≡ false
closes_front style c k cs p f =
    false_from_ne_true (closes style (c ∷ take k cs)) (λ t.
    let both = and_parts (c == style.quote) (cond style.triple (is_tripled style.quote (take k cs)) true) t in
    let rest : cond style.triple (is_tripled style.quote cs) true ≡ true =
    cond_both style.triple (is_tripled style.quote (take k cs)) true (λ b. b ≡ true → cond style.triple (is_tripled style.quote cs) true ≡ true)
    (λ three u. cond-true style.triple _ _ three ∙ tripled_front style.quote k cs p u)
    (λ one u. ap (λ b. cond b (is_tripled style.quote cs) true) one) both.1 in
    let q : true ≡ false = sym (and_from (c == style.quote) (cond style.triple (is_tripled style.quote cs) true) both.0 rest) ∙ f in cc)

-- which characters end a line
pub ends_cases : (c : ℕ) (cs : List ℕ) → ends_line (c ∷ cs) ≡ true → (c ≡ 10) ⊎ ((c ≡ 13) × (slice_index cs 0 ≡ 10))
ends_cases c cs t =
    let P : ℕ → Type 0 = λ n. nat_lt 0 n ≡ true → (c ≡ 10) ⊎ ((c ≡ 13) × (slice_index cs 0 ≡ 10)) in
    cond_both (c == 10) 1 (cond ((c == 13) && (slice_index cs 0 == 10)) 2 0) P (λ e _. inl (eqb-true c 10 e))
    (λ _. cond_both ((c == 13) && (slice_index cs 0 == 10)) 2 0 P (λ e _. let both = and_parts (c == 13) (slice_index cs 0 == 10) e in inr (eqb-true c 13 both.0, eqb-true _ 10 both.1)) (λ _ z. cc)) t

two_end : (c : ℕ) (cs : List ℕ) → c ≡ 13 → slice_index cs 0 ≡ 10 → ends_line (c ∷ cs) ≡ true
two_end c [] e f = absurd (omega (arith, f))
two_end c (x ∷ xs) e f = subst (λ c. ends_line (c ∷ x ∷ xs) ≡ true) (sym e) (subst (λ x. ends_line (13 ∷ x ∷ xs) ≡ true) (sym f) refl)

-- where no line ends in the text none ends in a front of it
ends_front : (c k : ℕ) (cs : List ℕ) → ends_line (c ∷ cs) ≡ false → ends_line (c ∷ take k cs) ≡ false
ends_front c k cs f =
    false_from_ne_true (ends_line (c ∷ take k cs)) (λ t. elim (ends_cases c (take k cs) t) as (λ _. ⊥) [
      | inl e ↦ both_ways (ends_line (c ∷ cs)) f (subst (λ c. ends_line (c ∷ cs) ≡ true) (sym e) refl)
      | inr e ↦ both_ways (ends_line (c ∷ cs)) f (two_end c cs e.0 (front_at k cs 0 10 e.1 (omega arith)))
    ])

closing_by : (q : ℕ) (triple : Bool) (cs : List ℕ) → 0 < q → ((slice_index cs 0 == q) && cond triple (is_tripled q (drop 1 cs)) true) ≡ true → take (cond triple 3 1) cs ≡ replicate (cond triple 3 1) q
closing_by q false [] p t = absurd (omega (arith, eqb-true 0 q (and_parts (0 == q) true t).0))
closing_by q false (c ∷ cs) p t = ap (λ x. x ∷ []) (eqb-true c q (and_parts (c == q) true t).0)
closing_by q true [] p t = absurd (omega (arith, eqb-true 0 q (and_parts (0 == q) ((0 == q) && (0 == q)) t).0))
closing_by q true (c ∷ []) p t = absurd (omega (arith, eqb-true 0 q (and_parts (0 == q) (0 == q) (and_parts (c == q) ((0 == q) && (0 == q)) t).1).0))
closing_by q true (c ∷ d ∷ []) p t = absurd (omega (arith, eqb-true 0 q (and_parts (d == q) (0 == q) (and_parts (c == q) ((d == q) && (0 == q)) t).1).1))
closing_by q true (c ∷ d ∷ e ∷ es) p t =
    let outer = and_parts (c == q) ((d == q) && (e == q)) t in
    let inner = and_parts (d == q) (e == q) outer.1 in
    let one : c ≡ q = eqb-true c q outer.0 in
    let two : d ≡ q = eqb-true d q inner.0 in
    let three : e ≡ q = eqb-true e q inner.1 in
    cc

-- NUL is no quote
pub closing_quotes : (style : Style) (cs : List ℕ) → 0 < style.quote → closes style cs ≡ true → take (quotes style) cs ≡ replicate (quotes style) style.quote
closing_quotes style cs p t = closing_by style.quote style.triple cs p t

-- a part, and the body behind it, are a body
abbrev pub PartAt : Style → List ℕ → ℕ → Part → Type 0
PartAt style cs k (Inner w) = (0 < w) × (IsBody style (take k (drop w cs)) → IsBody style (take w cs ++ take k (drop w cs)))
PartAt style cs k Missing = Unit {0}
PartAt style cs k Bad = Unit {0}

escaped_at : (style : Style) (k : ℕ) (cs : List ℕ) → is_in (codes "\\'\"nt") (slice_index cs 0) ≡ true → PartAt style (92 ∷ cs) k (Inner 2)
escaped_at style k [] t = let q : false ≡ true = t in absurd cc
escaped_at style k (e ∷ es) t = (omega arith, λ body. escaped e (take k es) t body)

joined_at : (style : Style) (k l : ℕ) (cs : List ℕ) → IsLineEnd (take l cs) → PartAt style (92 ∷ cs) k (Inner (suc l))
joined_at style k l cs e = (omega arith, λ body. joined (take l cs) (take k (drop l cs)) e body)

escape_sound : (style : Style) (k : ℕ) (cs : List ℕ) → PartAt style (92 ∷ cs) k (escape cs)
escape_sound style k cs =
    let width : suc (line_end cs) ≡ 1 + line_end cs = omega arith in
    cond_both (is_in (codes "\\'\"nt") (slice_index cs 0)) (Inner 2) (cond (ends_line cs) (Inner (1 + line_end cs)) Bad) (PartAt style (92 ∷ cs) k) (λ t. escaped_at style k cs t)
    (λ _. cond_both (ends_line cs) (Inner (1 + line_end cs)) Bad (PartAt style (92 ∷ cs) k) (λ t. subst (λ w. PartAt style (92 ∷ cs) k (Inner w)) width (joined_at style k (line_end cs) cs (line_ends cs t))) (λ _. tt))

doubled_sound : (style : Style) (brace k : ℕ) (cs : List ℕ) → style.holes ≡ true → (brace ≡ 123) ⊎ (brace ≡ 125) → slice_index cs 0 ≡ brace → PartAt style (brace ∷ cs) k (Inner 2)
doubled_sound style brace k [] h b e = elim b as (λ _. PartAt style (brace ∷ []) k (Inner 2)) [ inl f ↦ absurd (omega (arith, e, f)) | inr f ↦ absurd (omega (arith, e, f)) ]
doubled_sound style brace k (x ∷ xs) h b e = (omega arith, λ body. subst (λ y. IsBody style (brace ∷ y ∷ take k xs)) (sym e) (doubled brace (take k xs) h b body))

-- a character behind the first ones
one_more : (w : ℕ) (cs : List ℕ) (y : ℕ) → slice_index cs w ≡ y → 0 < y → take (suc w) cs ≡ take w cs ++ y ∷ []
one_more w [] y e p = absurd (omega (arith, e))
one_more zero (c ∷ cs) y e p = ap (λ x. x ∷ []) e
one_more (suc w) (c ∷ cs) y e p = ap (λ xs. c ∷ xs) (one_more w cs y e p)

named : (word : List ℕ) (form : Option TokenForm) → is_name form ≡ true → WordAt word form → WordIs word Name
named word (Some Name) e w = w
named word (Some Keyword) e w = cc
named word (Some Number) e w = absurd w
named word (Some Decimal) e w = absurd w
named word (Some Str) e w = absurd w
named word (Some FormatStr) e w = absurd w
named word (Some Sign) e w = absurd w
named word None e w = cc

hole_at : (style : Style) (k w : ℕ) (cs : List ℕ) → style.holes ≡ true → IsName (take w cs) → slice_index cs w ≡ 125 → PartAt style (123 ∷ cs) k (Inner (suc (suc w)))
hole_at style k w cs h name e =
    let rest = take k (drop (suc w) cs) in
    let same : take (suc w) cs ++ rest ≡ take w cs ++ 125 ∷ rest = ap (λ xs. xs ++ rest) (one_more w cs 125 e (omega arith)) ∙ append_assoc (take w cs) (125 ∷ []) rest in
    (omega arith, λ body. subst (λ xs. IsBody style (123 ∷ xs)) (sym same) (in_hole (take w cs) rest h name body))

hole_named : (style : Style) (k : ℕ) (cs : List ℕ) → style.holes ≡ true → ((starts_name (slice_index cs 0) && (slice_index cs (name_width (drop 1 cs)) == 125)) && is_name (word_form (take (name_width (drop 1 cs)) cs))) ≡ true → PartAt style (123 ∷ cs) k (Inner (name_width (drop 1 cs) + 2))
hole_named style k [] h t =
    let q : false ≡ true = (and_parts (starts_name 0) false (and_parts (starts_name 0 && false) (is_name (word_form [])) t).0).1 in absurd cc
hole_named style k (x ∷ xs) h t =
    let w = name_width xs in
    let word = take w (x ∷ xs) in
    let outer = and_parts (starts_name x && (slice_index (x ∷ xs) w == 125)) (is_name (word_form word)) t in
    let inner = and_parts (starts_name x) (slice_index (x ∷ xs) w == 125) outer.0 in
    let name : IsName word = name_sound x xs inner.0 (named word (word_form word) outer.1 (word_sound word)) in
    let width : suc (suc w) ≡ w + 2 = omega arith in
    subst (λ n. PartAt style (123 ∷ x ∷ xs) k (Inner n)) width (hole_at style k w (x ∷ xs) h name (eqb-true _ 125 inner.1))

hole_sound : (style : Style) (k : ℕ) (cs : List ℕ) → style.holes ≡ true → PartAt style (123 ∷ cs) k (hole cs)
unfolding hole
hole_sound style k cs h =
    let w = name_width (drop 1 cs) in
    cond_both ((starts_name (slice_index cs 0) && (slice_index cs w == 125)) && is_name (word_form (take w cs))) (Inner (w + 2)) Bad (PartAt style (123 ∷ cs) k) (λ t. hole_named style k cs h t) (λ _. tt)

plain_at : (style : Style) (c k : ℕ) (cs : List ℕ) → IsPlain style c (take k cs) → PartAt style (c ∷ cs) k (Inner 1)
plain_at style c k cs p = (omega arith, λ body. plain c (take k cs) p body)

opening_sound : (style : Style) (c k : ℕ) (cs : List ℕ) → style.holes ≡ true → c ≡ 123 → PartAt style (c ∷ cs) k (opening_brace cs)
opening_sound style c k cs h e =
    subst (λ x. PartAt style (x ∷ cs) k (opening_brace cs)) (sym e)
    (cond_both (slice_index cs 0 == 123) (Inner 2) (hole cs) (PartAt style (123 ∷ cs) k) (λ t. doubled_sound style 123 k cs h (inl refl) (eqb-true _ 123 t)) (λ _. hole_sound style k cs h))

closing_sound : (style : Style) (c k : ℕ) (cs : List ℕ) → style.holes ≡ true → c ≡ 125 → PartAt style (c ∷ cs) k (closing_brace cs)
closing_sound style c k cs h e =
    subst (λ x. PartAt style (x ∷ cs) k (closing_brace cs)) (sym e)
    (cond_both (slice_index cs 0 == 125) (Inner 2) Bad (PartAt style (125 ∷ cs) k) (λ t. doubled_sound style 125 k cs h (inr refl) (eqb-true _ 125 t)) (λ _. tt))

-- a line end in a string in triple quotes
ending_at : (style : Style) (c k : ℕ) (cs : List ℕ) → 0 < style.quote → closes style (c ∷ cs) ≡ false → (c == 92) ≡ false → ends_line (c ∷ cs) ≡ true → style.triple ≡ true → PartAt style (c ∷ cs) k (Inner 1)
ending_at style c k cs p f n t three =
    let which = ends_cases c cs t in
    let no123 : c ≢ 123 = λ e. elim which as (λ _. ⊥) [ inl a ↦ absurd (omega (arith, a, e)) | inr a ↦ absurd (omega (arith, a.0, e)) ] in
    let no125 : c ≢ 125 = λ e. elim which as (λ _. ⊥) [ inl a ↦ absurd (omega (arith, a, e)) | inr a ↦ absurd (omega (arith, a.0, e)) ] in
    plain_at style c k cs (record {
      inside = closes_front style c k cs p f;
      no_escape = eqb-false c 92 n;
      no_brace = λ _. (no123, no125);
      no_end = λ one. absurd (both_ways style.triple one three);
    })

-- another character
other_at : (style : Style) (c k : ℕ) (cs : List ℕ) → 0 < style.quote → closes style (c ∷ cs) ≡ false → (c == 92) ≡ false → ends_line (c ∷ cs) ≡ false → (style.holes && (c == 123)) ≡ false → (style.holes && (c == 125)) ≡ false → PartAt style (c ∷ cs) k (Inner 1)
other_at style c k cs p f n l a b =
    plain_at style c k cs (record {
      inside = closes_front style c k cs p f;
      no_escape = eqb-false c 92 n;
      no_brace = λ h. ((λ e. both_ways _ a (and_from style.holes (c == 123) h (eq-eqb c 123 e))), (λ e. both_ways _ b (and_from style.holes (c == 125) h (eq-eqb c 125 e))));
      no_end = λ _. ends_front c k cs l;
    })

-- the part at the front
part_sound : (style : Style) (c : ℕ) (cs : List ℕ) (k : ℕ) → 0 < style.quote → closes style (c ∷ cs) ≡ false → PartAt style (c ∷ cs) k (part_of style (c ∷ cs))
unfolding part_of
part_sound style c cs k p f =
    let P = PartAt style (c ∷ cs) k in
    let line = ends_line (c ∷ cs) in
    let open' = style.holes && (c == 123) in
    let close' = style.holes && (c == 125) in
    let last = cond close' (closing_brace cs) (Inner 1) in
    let braces = cond open' (opening_brace cs) last in
    cond_both (c == 92) (escape cs) (plain_part style c cs line) P
    (λ e. subst (λ x. PartAt style (x ∷ cs) k (escape cs)) (sym (eqb-true c 92 e)) (escape_sound style k cs))
    (λ n. cond_both line (cond style.triple (Inner 1) Missing) braces P
    (λ t. cond_both style.triple (Inner 1) Missing P (λ three. ending_at style c k cs p f n t three) (λ _. tt))
    (λ l. cond_both open' (opening_brace cs) last P
    (λ o. let both = and_parts style.holes (c == 123) o in opening_sound style c k cs both.0 (eqb-true c 123 both.1))
    (λ a. cond_both close' (closing_brace cs) (Inner 1) P
    (λ o. let both = and_parts style.holes (c == 125) o in closing_sound style c k cs both.0 (eqb-true c 125 both.1))
    (λ b. other_at style c k cs p f n l a b))))

by_part_closed : (n t : ℕ) (part : Part) (more : ℕ → Body) → by_part n part more ≡ Closed t → (w : ℕ) × (part ≡ Inner w) × (more (w - 1) ≡ Closed t)
by_part_closed n t (Inner w) more e = (w, refl, e)
by_part_closed n t Missing more e = cc
by_part_closed n t Bad more e = cc

-- the string behind its opening quotes
pub body_sound : (style : Style) (n left t : ℕ) (cs : List ℕ) → 0 < style.quote → string_from style n left cs ≡ Closed t → (k : ℕ) × (t ≡ n + left + k) × IsBody style (take k (drop left cs))
unfolding string_from
body_sound style n left t [] p e = cc
body_sound style n (suc left) t (c ∷ cs) p e = let more = body_sound style (suc n) left t cs p e in (more.0, omega (arith, more.1), more.2)
body_sound style n zero t (c ∷ cs) p e =
    let more = λ (left : ℕ). string_from style (suc n) left cs in
    cond_both (closes style (c ∷ cs)) (Closed (n + quotes style)) (by_part n (part_of style (c ∷ cs)) more) (λ b. b ≡ Closed t → (k : ℕ) × (t ≡ n + 0 + k) × IsBody style (take k (c ∷ cs)))
    (λ f e. let q : n + quotes style ≡ t = cc in (quotes style, omega (arith, q), subst (IsBody style) (sym (closing_quotes style (c ∷ cs) p f)) closing))
    (λ f e.
    let part = by_part_closed n t (part_of style (c ∷ cs)) more e in
    let w = part.0 in
    let rest = body_sound style (suc n) (w - 1) t cs p part.2 in
    let k = rest.0 in
    let at : PartAt style (c ∷ cs) k (Inner w) = subst (PartAt style (c ∷ cs) k) part.1 (part_sound style c cs k p f) in
    let width : suc (w - 1) ≡ w = omega (arith, at.0) in
    let behind : IsBody style (take k (drop w (c ∷ cs))) = subst (λ n. IsBody style (take k (drop n (c ∷ cs)))) width rest.2 in
    (w + k, omega (arith, rest.1, at.0), subst (IsBody style) (sym (take-add w k (c ∷ cs))) (at.1 behind)))
    e
