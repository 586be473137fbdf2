-- Laws of the words behind `edge`.
use Rattle.std.proofs.Common.{◌≡◌, refl, ℕ, ◌+◌, ◌≤◌, ◌<◌, Bool, true, false, cond, List, [], ◌∷◌, ◌++◌, length, take, get_or, sym, ap, ◌∙◌, subst, arith}
use Rattle.std.specs.Prelude.{Option, Some, None, nat_lt, not, if◌then◌else◌, ◌||◌, ◌==◌, bytes_eq, count_by, option_map}
use Rattle.std.specs.List.{list_any, list_all, filter_map, enumerate_from, cons_option}
use Rattle.std.proofs.lemmas.List.{take_more, length-take-le, take_all}
use Rattle.std.proofs.lemmas.List.Elements.{filter_map-append}
use Rattle.std.proofs.lemmas.List.Folds.{list_all_at, list_all_more}
use Rattle.std.proofs.lemmas.List.Sums.{sum_by-cons}
use Rattle.std.proofs.lemmas.Bool.{false≢true, and_parts, or_right}
use Rattle.std.proofs.lemmas.Bool.Decides.{nat_tests}
use Rattle.std.proofs.lemmas.Slice.Eq.{bytes_eq-Decides}
use Rattle.design_ir.specs.declared.ids.DomainId.{DomainId}
use Rattle.design_ir.specs.declared.domain.Domain.{Domain}
use Rattle.design_ir.specs.declared.event.Event.{Event}
use Rattle.design_ir.specs.declared.event.Event.TheVariants.{Edge}
use Rattle.play_text.specs.declared.board.Board.{Board}
use Rattle.play_text.specs.Script.{is_word, is_domain, all_apart, named_domains, edge_event, words_in, in_word}
use Rattle.play_text.specs.ScriptParts.{is_named_once, once_each}

-- ---- how often a word stands in a list

count_by-cons : (p : List ℕ → Bool) (w : List ℕ) (ws : List (List ℕ)) → count_by p (w ∷ ws) ≡ cond (p w) 1 0 + count_by p ws
count_by-cons p w ws = sum_by-cons (λ x. cond (p x) 1 0) w ws

-- a word stands in a list where it stands there more than 0 times
list_any-count_by : (p : List ℕ → Bool) (ws : List (List ℕ)) → list_any p ws ≡ nat_lt 0 (count_by p ws)
list_any-count_by p [] = refl
list_any-count_by p (w ∷ ws) = rw (count_by-cons p w ws, list_any-count_by p ws) (here (p w))
  where
    here : (t : Bool) → (t || nat_lt 0 (count_by p ws)) ≡ nat_lt 0 (cond t 1 0 + count_by p ws)
    here true = grind (arith, nat_tests)
    here false = grind (arith, nat_tests)

-- ---- the domains that words name

-- the number of a domain that words name
abbrev pub named : List (List ℕ) → ℕ × Domain → Option DomainId
named words = λ (k, d). if is_word words d.name then Some (record { 0 = k }) else None

-- the numbers of those of these domains that words name
abbrev pub named_among : List (List ℕ) → List Domain → List DomainId
named_among words ds = filter_map (named words) (enumerate_from 0 ds)

enumerate_from-append : {X : Type 0} (n : ℕ) (xs ys : List X) → enumerate_from n (xs ++ ys) ≡ enumerate_from n xs ++ enumerate_from (n + length xs) ys
enumerate_from-append n [] ys = let e : n ≡ n + 0 = omega arith in ap (λ m. enumerate_from m ys) e
enumerate_from-append n (x ∷ xs) ys =
    let e : n + 1 + length xs ≡ n + length (x ∷ xs) = omega arith in
    ap (λ zs. (n, x) ∷ zs) (enumerate_from-append (n + 1) xs ys ∙ ap (λ m. enumerate_from (n + 1) xs ++ enumerate_from m ys) e)

-- one domain more
named_push : (ws : List (List ℕ)) (ds : List Domain) (d : Domain) → named_among ws (ds ++ d ∷ []) ≡ named_among ws ds ++ cons_option (named ws (length ds, d)) []
named_push ws ds d = ap (λ xs. filter_map (named ws) xs) (enumerate_from-append 0 ds (d ∷ [])) ∙ filter_map-append (named ws) (enumerate_from 0 ds) ((0 + length ds, d) ∷ [])
    ∙ ap (λ (n : ℕ). named_among ws ds ++ cons_option (named ws (n, d)) []) (zero_add (length ds))
  where
    zero_add : (n : ℕ) → 0 + n ≡ n
    zero_add n = omega arith

take_push : {X : Type 0} (xs : List X) (i : ℕ) (x : X) → i < length xs → x ≡ get_or xs i x → take (i + 1) xs ≡ take i xs ++ x ∷ []
take_push xs i x held is = take_more xs i x held ∙ ap (λ y. take i xs ++ y ∷ []) (sym is)

pub named_more : (ws : List (List ℕ)) (ds : List Domain) (i : ℕ) (d : Domain) (t : Bool) → i < length ds → d ≡ get_or ds i d → nat_lt 0 (count_by (bytes_eq d.name) ws) ≡ t
    → named_among ws (take (i + 1) ds) ≡ named_among ws (take i ds) ++ cond t (record { 0 = i } ∷ []) []
named_more ws ds i d t held is many =
    let len : length (take i ds) ≡ i = length-take-le i ds (omega arith) in
    ap (named_among ws) (take_push ds i d held is) ∙ named_push ws (take i ds) d ∙ ap (λ xs. named_among ws (take i ds) ++ xs) (here t (list_any-count_by (bytes_eq d.name) ws ∙ many) ∙ ap (λ (n : ℕ). cond t (record { 0 = n } ∷ []) []) len)
  where
    here : (s : Bool) → is_word ws d.name ≡ s → cons_option (named ws (length (take i ds), d)) [] ≡ cond s (record { 0 = length (take i ds) } ∷ []) []
    here true e = rw e refl
    here false e = rw e refl

-- a domain that is named twice spoils it
pub once_each-twice : (b : Board) (ws : List (List ℕ)) (ds : List Domain) (i : ℕ) (d : Domain) → b.domains ≡ ds → i < length ds → d ≡ get_or ds i d → 1 < count_by (bytes_eq d.name) ws → None ≡ once_each b ws
once_each-twice b ws ds i d all held is twice =
    let no : is_named_once ws d ≡ false = grind (arith, nat_tests) in
    let none : list_all (is_named_once ws) b.domains ≡ false = ap (list_all (is_named_once ws)) all ∙ list_all_at (is_named_once ws) ds i d held (ap (is_named_once ws) (sym is) ∙ no) in
    rw none refl

-- when all domains have been looked at
pub once_each-whole : (b : Board) (ws : List (List ℕ)) (ds : List Domain) (i : ℕ) (clocks : List DomainId) → b.domains ≡ ds → length ds ≤ i
    → clocks ≡ named_among ws (take i ds) → list_all (is_named_once ws) (take i ds) ≡ true → Some clocks ≡ once_each b ws
once_each-whole b ws ds i clocks all past found once =
    let whole : take i ds ≡ b.domains = take_all i ds past ∙ sym all in
    let named_all : clocks ≡ named_domains b ws = found ∙ ap (named_among ws) whole in
    let once_all : list_all (is_named_once ws) b.domains ≡ true = ap (list_all (is_named_once ws)) (sym whole) ∙ once in
    rw once_all (ap (λ (xs : List DomainId). Some xs) named_all)

pub zero_times : (n : ℕ) → n ≤ 1 → (n ≡ 1 → ⊥) → nat_lt 0 n ≡ false
zero_times n few h = grind (arith, nat_tests)

pub once_more : (ws : List (List ℕ)) (ds : List Domain) (i : ℕ) (d : Domain) → i < length ds → d ≡ get_or ds i d → count_by (bytes_eq d.name) ws ≤ 1
    → list_all (is_named_once ws) (take i ds) ≡ true → list_all (is_named_once ws) (take (i + 1) ds) ≡ true
once_more ws ds i d held is few before =
    let here : is_named_once ws d ≡ true = grind (arith, nat_tests) in
    list_all_more (is_named_once ws) ds i d held ∙ rw (before, sym is, here) refl

-- ---- words that stand once each

pub not_true : (t : Bool) → not t ≡ true → t ≡ false
not_true true e = absurd (false≢true e)
not_true false e = refl

-- of words that are apart each stands at most once
apart-once : (ws : List (List ℕ)) (n : List ℕ) → all_apart ws ≡ true → count_by (bytes_eq n) ws < 2
apart-once [] n h = omega arith
apart-once (w ∷ ws) n h = rw (count_by-cons (bytes_eq n) w ws) (here (bytes_eq n w) refl (apart-once ws n ((and_parts (not (is_word ws w)) (all_apart ws) h).1)))
  where
    here : (t : Bool) → bytes_eq n w ≡ t → count_by (bytes_eq n) ws < 2 → cond t 1 0 + count_by (bytes_eq n) ws < 2
    here true e k =
        let same : n ≡ w = (bytes_eq-Decides n w).0 e in
        let apart : is_word ws n ≡ false = subst (λ (m : List ℕ). is_word ws m ≡ false) (sym same) (not_true (is_word ws w) ((and_parts (not (is_word ws w)) (all_apart ws) h).0)) in
        let none : nat_lt 0 (count_by (bytes_eq n) ws) ≡ false = sym (list_any-count_by (bytes_eq n) ws) ∙ apart in
        grind (arith, nat_tests)
    here false e k = omega arith

-- words that stand at most once each are apart
once-apart : (ws : List (List ℕ)) → ((n : List ℕ) → is_word ws n ≡ true → count_by (bytes_eq n) ws < 2) → all_apart ws ≡ true
once-apart [] h = refl
once-apart (w ∷ ws) h =
    let same : bytes_eq w w ≡ true = (bytes_eq-Decides w w).1 refl in
    let here : is_word (w ∷ ws) w ≡ true = rw same refl in
    let few : count_by (bytes_eq w) ws < 1 = first w same (h w here) in
    let apart : is_word ws w ≡ false = list_any-count_by (bytes_eq w) ws ∙ none (count_by (bytes_eq w) ws) few in
    let rest : all_apart ws ≡ true = once-apart ws (λ n k. behind n (h n (or_right (bytes_eq n w) (is_word ws n) k))) in
    rw (apart, rest) refl
  where
    first : (n : List ℕ) → bytes_eq n w ≡ true → count_by (bytes_eq n) (w ∷ ws) < 2 → count_by (bytes_eq n) ws < 1
    first n e k =
        let cut : count_by (bytes_eq n) (w ∷ ws) ≡ 1 + count_by (bytes_eq n) ws = count_by-cons (bytes_eq n) w ws ∙ ap (λ t. cond t 1 0 + count_by (bytes_eq n) ws) e in
        omega (arith, cut, k)

    none : (m : ℕ) → m < 1 → nat_lt 0 m ≡ false
    none m k = grind (arith, nat_tests)

    behind : (n : List ℕ) → count_by (bytes_eq n) (w ∷ ws) < 2 → count_by (bytes_eq n) ws < 2
    behind n k = let cut = count_by-cons (bytes_eq n) w ws in omega (arith, cut, k)

-- a name of domains alone is one of a domain
domain_of_word : (b : Board) (ws : List (List ℕ)) (n : List ℕ) → list_all (is_domain b) ws ≡ true → is_word ws n ≡ true → is_domain b n ≡ true
domain_of_word b [] n h k = absurd (false≢true k)
domain_of_word b (w ∷ ws) n h k = here (bytes_eq n w) refl k (λ j. domain_of_word b ws n ((and_parts (is_domain b w) (list_all (is_domain b) ws) h).1) j)
  where
    here : (t : Bool) → bytes_eq n w ≡ t → (t || is_word ws n) ≡ true → (is_word ws n ≡ true → is_domain b n ≡ true) → is_domain b n ≡ true
    here true e j more = subst (λ (m : List ℕ). is_domain b m ≡ true) (sym ((bytes_eq-Decides n w).0 e)) ((and_parts (is_domain b w) (list_all (is_domain b) ws) h).0)
    here false e j more = more j

-- where the words name each of these domains at most once, a name of one of them stands at most once
named_once_of : (ws : List (List ℕ)) (ds : List Domain) (n : List ℕ) → list_all (is_named_once ws) ds ≡ true → list_any (λ (d : Domain). bytes_eq d.name n) ds ≡ true → count_by (bytes_eq n) ws < 2
named_once_of ws [] n h k = absurd (false≢true k)
named_once_of ws (d ∷ ds) n h k = here (bytes_eq d.name n) refl k (λ j. named_once_of ws ds n ((and_parts (is_named_once ws d) (list_all (is_named_once ws) ds) h).1) j)
  where
    less : (m : ℕ) → nat_lt m 2 ≡ true → m < 2
    less m e = grind (arith, nat_tests)

    here : (t : Bool) → bytes_eq d.name n ≡ t → (t || list_any (λ (x : Domain). bytes_eq x.name n) ds) ≡ true → (list_any (λ (x : Domain). bytes_eq x.name n) ds ≡ true → count_by (bytes_eq n) ws < 2) → count_by (bytes_eq n) ws < 2
    here true e j more =
        subst (λ (m : List ℕ). count_by (bytes_eq m) ws < 2) ((bytes_eq-Decides d.name n).0 e) (less (count_by (bytes_eq d.name) ws) ((and_parts (is_named_once ws d) (list_all (is_named_once ws) ds) h).0))
    here false e j more = more j

all_named_once : (ws : List (List ℕ)) (ds : List Domain) → ((n : List ℕ) → count_by (bytes_eq n) ws < 2) → list_all (is_named_once ws) ds ≡ true
all_named_once ws [] h = refl
all_named_once ws (d ∷ ds) h = rw (test (count_by (bytes_eq d.name) ws) (h d.name), all_named_once ws ds h) refl
  where
    test : (m : ℕ) → m < 2 → nat_lt m 2 ≡ true
    test m k = grind (arith, nat_tests)

-- of names of domains it is enough to look at the domains
apart-named_once : (b : Board) (ws : List (List ℕ)) → list_all (is_domain b) ws ≡ true → all_apart ws ≡ list_all (is_named_once ws) b.domains
apart-named_once b ws h = here (all_apart ws) (list_all (is_named_once ws) b.domains) refl refl
  where
    here : (s t : Bool) → all_apart ws ≡ s → list_all (is_named_once ws) b.domains ≡ t → s ≡ t
    here true true e k = refl
    here false false e k = refl
    here true false e k = sym (all_named_once ws b.domains (λ n. apart-once ws n e)) ∙ k
    here false true e k = sym e ∙ once-apart ws (λ n j. named_once_of ws b.domains n k (domain_of_word b ws n h j))

-- names of domains ask for the domains that they name, where they name none twice
edge_event-listed : (b : Board) (w : List ℕ) (ws : List (List ℕ)) → list_all (is_domain b) (w ∷ ws) ≡ true → edge_event b (w ∷ ws) ≡ option_map (λ ds. Edge ds) (once_each b (w ∷ ws))
edge_event-listed b w ws h = rw (h, apart-named_once b (w ∷ ws) h) (here (list_all (is_named_once (w ∷ ws)) b.domains))
  where
    here : (t : Bool) → cond t (Some (Edge (named_domains b (w ∷ ws)))) None ≡ option_map {U = Event} (λ ds. Edge ds) (cond t (Some (named_domains b (w ∷ ws))) None)
    here true = refl
    here false = refl

-- a text has a word
words_in-some : (text : List ℕ) → (w : List ℕ) × (ws : List (List ℕ)) × (words_in text ≡ w ∷ ws)
words_in-some [] = ([], [], refl)
words_in-some (c ∷ cs) = here (c == 32) (words_in cs)
  where
    here : (t : Bool) (vs : List (List ℕ)) → (w : List ℕ) × (ws : List (List ℕ)) × (cond t ([] ∷ vs) (in_word c vs) ≡ w ∷ ws)
    here true vs = ([], vs, refl)
    here false [] = (c ∷ [], [], refl)
    here false (v ∷ vs) = (c ∷ v, vs, refl)

pub edge_event-once : (b : Board) (text : List ℕ) → list_all (is_domain b) (words_in text) ≡ true → edge_event b (words_in text) ≡ option_map (λ ds. Edge ds) (once_each b (words_in text))
edge_event-once b text h =
    let cut = words_in-some text in
    let is : words_in text ≡ cut.0 ∷ cut.1 = cut.2 in
    subst (λ (vs : List (List ℕ)). edge_event b vs ≡ option_map (λ ds. Edge ds) (once_each b vs)) (sym is)
    (edge_event-listed b cut.0 cut.1 (ap (list_all (is_domain b)) (sym is) ∙ h))
