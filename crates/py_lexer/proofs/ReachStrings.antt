-- A string is told in full.
use Rattle.std.proofs.Common.{◌≡◌, ℕ, suc, Bool, true, false, ◌+◌, ◌<◌, ◌≤◌, ◌&&◌, ◌⊎◌, List, [], ◌∷◌, ◌++◌, length, take, drop, refl, ap, sym, subst, ◌∙◌, arith, cond, inl, inr, slice_index, append_assoc, length-append}
use Rattle.std.specs.Prelude.{◌==◌, Some, codes, replicate}
use Rattle.std.specs.List.{list_all}
use Rattle.std.proofs.lemmas.Bool.{cond_both, cond-true, cond-false, eqb-true, eq-eqb, ne_eqb, and_parts, and_from, and_left, and_right, both_ways}
use Rattle.std.proofs.Math.Seq.{drop-append-add, take-append_seam}
use Rattle.py_lexer.specs.declared.strings.Style.{Style}
use Rattle.py_lexer.specs.declared.strings.Part.{Part}
use Rattle.py_lexer.specs.declared.strings.Part.TheVariants.{Inner, Missing, Bad}
use Rattle.py_lexer.specs.declared.strings.Body.TheVariants.{Closed}
use Rattle.py_lexer.specs.declared.token.TokenForm.TheVariants.{Name}
use Rattle.py_lexer.specs.Characters.{ends_line, line_end}
use Rattle.py_lexer.specs.Names.{starts_name, name_width, word_form}
use Rattle.unicode_ident.specs.Ident.{is_xid_continue}
use Rattle.py_lexer.specs.Signs.{is_in}
use Rattle.py_lexer.specs.Strings.{is_tripled, quotes, closes, escape, is_name, hole, opening_brace, closing_brace, plain_part, part_of, string_from}
use Rattle.py_lexer.specs.Grammar.{IsLineEnd, feed, return_feed, IsName, IsPlain, IsBody, closing, plain, escaped, joined, doubled, hole as in_hole}
use Rattle.py_lexer.proofs.BodyLaws.{IsQuote}
use Rattle.py_lexer.proofs.StringLaws.{string_closed, string_inner}
use Rattle.py_lexer.proofs.ReachWords.{no_start, no_continue, name_form, word_exact}

length-replicate_quotes : (style : Style) → length (replicate (quotes style) style.quote) ≡ quotes style
length-replicate_quotes style = cond_both style.triple 3 1 (λ n. length (replicate n style.quote) ≡ n) (λ _. refl) (λ _. refl)

-- a body has its closing quotes
body_long : (style : Style) (rest : List ℕ) → IsBody style rest → quotes style ≤ length rest
body_long style rest closing = omega (arith, length-replicate_quotes style)
body_long style rest (plain c cs p body) = omega (arith, body_long style cs body)
body_long style rest (escaped e cs t body) = omega (arith, body_long style cs body)
body_long style rest (joined ends cs t body) = omega (arith, body_long style cs body, length-append ends cs)
body_long style rest (doubled brace cs h t body) = omega (arith, body_long style cs body)
body_long style rest (in_hole name cs h t body) = omega (arith, body_long style cs body, length-append name (125 ∷ cs))

quotes_some : (style : Style) → 0 < quotes style
quotes_some style = cond_both style.triple 3 1 (λ n. 0 < n) (λ _. omega arith) (λ _. omega arith)

closes_by : (q c : ℕ) (triple : Bool) (cs b : List ℕ) → cond triple 3 1 ≤ length cs → ((c == q) && cond triple (is_tripled q (cs ++ b)) true) ≡ ((c == q) && cond triple (is_tripled q cs) true)
closes_by q c false cs b l = refl
closes_by q c true [] b l = absurd (omega arith)
closes_by q c true (d ∷ []) b l = absurd (omega arith)
closes_by q c true (d ∷ e ∷ es) b l = refl

-- what stands behind a body does not matter
closes_more : (style : Style) (c : ℕ) (cs b : List ℕ) → quotes style ≤ length cs → closes style (c ∷ (cs ++ b)) ≡ closes style (c ∷ cs)
closes_more style c cs b l = closes_by style.quote c style.triple cs b l

ends_more : (c : ℕ) (cs b : List ℕ) → 0 < length cs → ends_line (c ∷ (cs ++ b)) ≡ ends_line (c ∷ cs)
ends_more c [] b l = absurd (omega arith)
ends_more c (d ∷ ds) b l = refl

closing_by : (q : ℕ) (triple : Bool) (b : List ℕ) → ((slice_index (replicate (cond triple 3 1) q ++ b) 0 == q) && cond triple (is_tripled q (drop 1 (replicate (cond triple 3 1) q ++ b))) true) ≡ true
closing_by q false b = and_from (q == q) true (eq-eqb q q refl) refl
closing_by q true b = let e = eq-eqb q q refl in and_from (q == q) ((q == q) && (q == q)) e (and_from (q == q) (q == q) e e)

-- a character that is no quote closes nothing
no_close : (style : Style) (c : ℕ) (cs : List ℕ) → (c ≡ style.quote → ⊥) → closes style (c ∷ cs) ≡ false
no_close style c cs h = and_left (c == style.quote) _ (ne_eqb c style.quote h)

no_quote : (q c : ℕ) → IsQuote q → 34 < c → (c ≡ 39 → ⊥) → c ≡ q → ⊥
no_quote q c h l n e = elim h as (λ _. ⊥) [ inl f ↦ n (e ∙ f) | inr f ↦ absurd (omega (arith, e, f)) ]

-- one part, and then the rest
stepped : (style : Style) (n w size : ℕ) (X Y : List ℕ) → false ≡ closes style X → Inner w ≡ part_of style X → 0 < w → w ≤ length X → drop w X ≡ Y → string_from style (n + w) 0 Y ≡ Closed (n + w + size) → string_from style n 0 X ≡ Closed (n + (w + size))
stepped style n w size X Y f p s l d more =
    string_inner style n w X f p s l ∙ (ap (string_from style (n + w) 0) d ∙ (more ∙ ap Closed (omega arith)))

-- the parts that a body has are the parts that are cut
plain_is : (style : Style) (c : ℕ) (cs b : List ℕ) → 0 < length cs → IsPlain style c cs → part_of style (c ∷ (cs ++ b)) ≡ Inner 1
unfolding part_of
plain_is style c cs b l p =
    let Z = cs ++ b in
    let P : Part → Type 0 = λ r. r ≡ Inner 1 in
    let line = ends_line (c ∷ Z) in
    let open' = style.holes && (c == 123) in
    let close' = style.holes && (c == 125) in
    let last = cond close' (closing_brace Z) (Inner 1) in
    let braces = cond open' (opening_brace Z) last in
    cond_both (c == 92) (escape Z) (plain_part style c Z line) P (λ e. absurd (p.no_escape (eqb-true c 92 e)))
    (λ _. cond_both line (cond style.triple (Inner 1) Missing) braces P
    (λ t. cond_both style.triple (Inner 1) Missing P (λ _. refl) (λ one. absurd (both_ways line (ends_more c cs b l ∙ p.no_end one) t)))
    (λ _. cond_both open' (opening_brace Z) last P
    (λ o. let both = and_parts style.holes (c == 123) o in absurd ((p.no_brace both.0).0 (eqb-true c 123 both.1)))
    (λ _. cond_both close' (closing_brace Z) (Inner 1) P
    (λ o. let both = and_parts style.holes (c == 125) o in absurd ((p.no_brace both.0).1 (eqb-true c 125 both.1)))
    (λ _. refl))))

escape_is : (style : Style) (e : ℕ) (cs : List ℕ) → is_in (codes "\\'\"nt") e ≡ true → part_of style (92 ∷ e ∷ cs) ≡ Inner 2
unfolding part_of
escape_is style e cs t = cond-true (is_in (codes "\\'\"nt") e) (Inner 2) (cond (ends_line (e ∷ cs)) (Inner (1 + line_end (e ∷ cs))) Bad) t

feed_is : (style : Style) (cs : List ℕ) → part_of style (92 ∷ 10 ∷ cs) ≡ Inner 2
unfolding part_of
feed_is style cs = refl

return_is : (style : Style) (cs : List ℕ) → part_of style (92 ∷ 13 ∷ 10 ∷ cs) ≡ Inner 3
unfolding part_of
return_is style cs = refl

opening_is : (style : Style) (cs : List ℕ) → style.holes ≡ true → part_of style (123 ∷ cs) ≡ opening_brace cs
unfolding part_of
opening_is style cs h = cond-true (style.holes && true) (opening_brace cs) (cond (style.holes && false) (closing_brace cs) (Inner 1)) (and_from style.holes true h refl)

closing_is : (style : Style) (cs : List ℕ) → style.holes ≡ true → part_of style (125 ∷ cs) ≡ closing_brace cs
unfolding part_of
closing_is style cs h =
    cond-false (style.holes && false) (opening_brace cs) (cond (style.holes && true) (closing_brace cs) (Inner 1)) (and_right style.holes false refl)
    ∙ cond-true (style.holes && true) (closing_brace cs) (Inner 1) (and_from style.holes true h refl)

index_seam : (xs : List ℕ) (y : ℕ) (ys : List ℕ) → slice_index (xs ++ y ∷ ys) (length xs) ≡ y
index_seam [] y ys = refl
index_seam (x ∷ xs) y ys = index_seam xs y ys

HoleBy : ℕ → List ℕ → ℕ → Part
HoleBy first rest w = cond ((starts_name first && (slice_index (first ∷ rest) w == 125)) && is_name (word_form (take w (first ∷ rest)))) (Inner (w + 2)) Bad

hole_at : (first : ℕ) (rest b : List ℕ) → starts_name first ≡ true → list_all is_xid_continue rest ≡ true → word_form (first ∷ rest) ≡ Some Name → hole (first ∷ (rest ++ 125 ∷ b)) ≡ Inner (suc (length rest) + 2)
unfolding hole HoleBy
hole_at first rest b s all form =
    let Y = rest ++ 125 ∷ b in
    let w = suc (length rest) in
    let exact : name_width Y ≡ w = word_exact rest 125 b all (no_continue 125 (omega arith) refl refl) in
    let at : slice_index (first ∷ Y) w ≡ 125 = index_seam rest 125 b in
    let word : take w (first ∷ Y) ≡ first ∷ rest = ap (λ xs. first ∷ xs) (take-append_seam rest (125 ∷ b)) in
    let named : is_name (word_form (take w (first ∷ Y))) ≡ true = ap (λ x. is_name (word_form x)) word ∙ ap is_name form in
    ap (HoleBy first Y) exact
    ∙ cond-true ((starts_name first && (slice_index (first ∷ Y) w == 125)) && is_name (word_form (take w (first ∷ Y)))) (Inner (w + 2)) Bad
    (and_from (starts_name first && (slice_index (first ∷ Y) w == 125)) _ (and_from (starts_name first) _ s (eq-eqb _ 125 at)) named)

hole_is : (name b : List ℕ) → IsName name → opening_brace (name ++ 125 ∷ b) ≡ Inner (length name + 2)
hole_is name b n =
    let no_brace : (n.first == 123) ≡ false = ne_eqb n.first 123 (λ e. both_ways (starts_name n.first) (subst (λ x. starts_name x ≡ false) (sym e) (no_start 123 (omega arith) refl refl)) n.starts) in
    let form : word_form (n.first ∷ n.rest) ≡ Some Name = subst (λ w. word_form w ≡ Some Name) n.whole (name_form name n) in
    subst (λ w. opening_brace (w ++ 125 ∷ b) ≡ Inner (length w + 2)) (sym n.whole)
    (cond-false (n.first == 123) (Inner 2) (hole (n.first ∷ (n.rest ++ 125 ∷ b))) no_brace ∙ hole_at n.first n.rest b n.starts n.continues form)

abbrev More : Style → ℕ → List ℕ → List ℕ → Type 0
More style n cs b = (k : ℕ) → string_from style (n + k) 0 (cs ++ b) ≡ Closed (n + k + length cs)

joined_reach : (style : Style) (n : ℕ) (cs b ends : List ℕ) → IsQuote style.quote → More style n cs b → IsLineEnd ends → string_from style n 0 (92 ∷ ((ends ++ cs) ++ b)) ≡ Closed (n + suc (length (ends ++ cs)))
joined_reach style n cs b ends q more feed =
    stepped style n 2 (length cs) (92 ∷ 10 ∷ (cs ++ b)) (cs ++ b) (sym (no_close style 92 (10 ∷ (cs ++ b)) (no_quote style.quote 92 q (omega arith) (λ h. omega (arith, h))))) (sym (feed_is style (cs ++ b))) (omega arith) (omega arith) refl (more 2)
    ∙ ap (λ k. Closed (n + k)) (omega arith)
joined_reach style n cs b ends q more return_feed =
    stepped style n 3 (length cs) (92 ∷ 13 ∷ 10 ∷ (cs ++ b)) (cs ++ b) (sym (no_close style 92 (13 ∷ 10 ∷ (cs ++ b)) (no_quote style.quote 92 q (omega arith) (λ h. omega (arith, h))))) (sym (return_is style (cs ++ b))) (omega arith) (omega arith) refl (more 3)
    ∙ ap (λ k. Closed (n + k)) (omega arith)

doubled_reach : (style : Style) (n brace : ℕ) (cs b : List ℕ) → IsQuote style.quote → style.holes ≡ true → More style n cs b → (brace ≡ 123) ⊎ (brace ≡ 125) → string_from style n 0 (brace ∷ brace ∷ (cs ++ b)) ≡ Closed (n + suc (suc (length cs)))
doubled_reach style n brace cs b q h more t =
    let P : ℕ → Type 0 = λ x. string_from style n 0 (x ∷ x ∷ (cs ++ b)) ≡ Closed (n + suc (suc (length cs))) in
    let open' : P 123 =
    stepped style n 2 (length cs) (123 ∷ 123 ∷ (cs ++ b)) (cs ++ b) (sym (no_close style 123 (123 ∷ (cs ++ b)) (no_quote style.quote 123 q (omega arith) (λ h. omega (arith, h))))) (sym (opening_is style (123 ∷ (cs ++ b)) h)) (omega arith) (omega arith) refl (more 2)
    ∙ ap (λ k. Closed (n + k)) (omega arith) in
    let close' : P 125 =
    stepped style n 2 (length cs) (125 ∷ 125 ∷ (cs ++ b)) (cs ++ b) (sym (no_close style 125 (125 ∷ (cs ++ b)) (no_quote style.quote 125 q (omega arith) (λ h. omega (arith, h))))) (sym (closing_is style (125 ∷ (cs ++ b)) h)) (omega arith) (omega arith) refl (more 2)
    ∙ ap (λ k. Closed (n + k)) (omega arith) in
    elim t as (λ _. P brace) [ inl e ↦ subst P (sym e) open' | inr e ↦ subst P (sym e) close' ]

hole_reach : (style : Style) (n : ℕ) (name cs b : List ℕ) → IsQuote style.quote → style.holes ≡ true → More style n cs b → IsName name → string_from style n 0 (123 ∷ ((name ++ 125 ∷ cs) ++ b)) ≡ Closed (n + suc (length (name ++ 125 ∷ cs)))
hole_reach style n name cs b q h more nm =
    let Z = cs ++ b in
    let X = 123 ∷ (name ++ 125 ∷ Z) in
    let w = length name + 2 in
    let same : (name ++ 125 ∷ cs) ++ b ≡ name ++ 125 ∷ Z = append_assoc name (125 ∷ cs) b in
    let width : w ≡ suc (length name + 1) = omega arith in
    let behind : drop w X ≡ Z = ap (λ k. drop k X) width ∙ drop-append-add name (125 ∷ Z) 1 in
    let size : w + length cs ≡ suc (length (name ++ 125 ∷ cs)) = omega (arith, length-append name (125 ∷ cs)) in
    ap (λ xs. string_from style n 0 (123 ∷ xs)) same
    ∙ (stepped style n w (length cs) X Z (sym (no_close style 123 (name ++ 125 ∷ Z) (no_quote style.quote 123 q (omega arith) (λ h. omega (arith, h))))) (sym (opening_is style (name ++ 125 ∷ Z) h ∙ hole_is name Z nm)) (omega arith) (omega (arith, length-append name (125 ∷ Z))) behind (more w)
    ∙ ap (λ k. Closed (n + k)) size)

-- a body is told in full, whatever stands behind it
pub body_reach : (style : Style) (n : ℕ) (rest b : List ℕ) → IsQuote style.quote → IsBody style rest → string_from style n 0 (rest ++ b) ≡ Closed (n + length rest)
body_reach style n rest b q closing =
    let size = length-replicate_quotes style in
    string_closed style n (replicate (quotes style) style.quote ++ b) (omega (arith, length-append (replicate (quotes style) style.quote) b, size, quotes_some style)) (sym (closing_by style.quote style.triple b))
    ∙ ap (λ k. Closed (n + k)) (sym size)
body_reach style n rest b q (plain c cs p body) =
    let long = body_long style cs body in
    let some : 0 < length cs = omega (arith, long, quotes_some style) in
    stepped style n 1 (length cs) (c ∷ (cs ++ b)) (cs ++ b) (sym (closes_more style c cs b long ∙ p.inside)) (sym (plain_is style c cs b some p)) (omega arith) (omega arith) refl (body_reach style (n + 1) cs b q body)
    ∙ ap (λ k. Closed (n + k)) (omega arith)
body_reach style n rest b q (escaped e cs t body) =
    stepped style n 2 (length cs) (92 ∷ e ∷ (cs ++ b)) (cs ++ b) (sym (no_close style 92 (e ∷ (cs ++ b)) (no_quote style.quote 92 q (omega arith) (λ h. omega (arith, h))))) (sym (escape_is style e (cs ++ b) t)) (omega arith) (omega arith) refl (body_reach style (n + 2) cs b q body)
    ∙ ap (λ k. Closed (n + k)) (omega arith)
body_reach style n rest b q (joined ends cs t body) = joined_reach style n cs b ends q (λ k. body_reach style (n + k) cs b q body) t
body_reach style n rest b q (doubled brace cs h t body) = doubled_reach style n brace cs b q h (λ k. body_reach style (n + k) cs b q body) t
body_reach style n rest b q (in_hole name cs h t body) = hole_reach style n name cs b q h (λ k. body_reach style (n + k) cs b q body) t
