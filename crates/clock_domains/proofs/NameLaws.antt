-- Names that are made new by a number.
use Rattle.std.proofs.Common.{◌≡◌, ◌≢◌, ◌⊎◌, inl, inr, ℕ, zero, suc, ◌+◌, ◌<◌, ◌≤◌, ◌^◌, Bool, true, false, not, ◌||◌, cond, List, [], ◌∷◌, ◌++◌, map, length, take, Option, Some, slice_get, unwrap_or, is_some, bytes_eq, codes, refl, sym, ap, ◌∙◌, subst, arith, append_assoc, append-nil}
use Rattle.std.specs.Fmt.{decimal}
use Rattle.std.specs.Cmp.{IsEquivalence}
use Rattle.std.specs.List.{IsDistinct, list_any, find, filter, range_with_len}
use Rattle.std.proofs.lemmas.Bool.{false≢true, cases_lt}
use Rattle.std.proofs.lemmas.List.Elements.{filter-append}
use Rattle.std.proofs.lemmas.Fmt.{decimal_injective}
use Rattle.std.proofs.lemmas.List.{length-append}
use Rattle.std.proofs.lemmas.Map.Made.{length-le_from_is_member}
use Rattle.std.proofs.lemmas.Map.Keys.{IsDistinct-push}
use Rattle.std.proofs.lemmas.Slice.Eq.{bytes_eq-Decides}
use Rattle.lists.specs.Texts.{text_eq}
use Rattle.lists.proofs.TextLaws.{text_eq_true, text_eq_same}
use Rattle.design_ir.specs.declared.port.Port.{Port}
use Rattle.design_ir.specs.declared.port.Column.{Column}
use Rattle.fragment_walks.proofs.Lists.{any-append, or_false, map-push, map-append, take_end, take-push}
use Rattle.clock_domains.specs.Resolved.{has_name, numbered_name, fresh_name, columns_after, ports_named}
use Rattle.clock_domains.specs.Tracked.{names_of, AreTaken, Tracks, IsFree, IsPut}
use Rattle.clock_domains.proofs.PortLaws.{range-push}

-- ---- texts

bool_same : (a b : Bool) → (a ≡ true → b ≡ true) → (b ≡ true → a ≡ true) → a ≡ b
bool_same true b into only = sym (into refl)
bool_same false true into only = only refl
bool_same false false into only = refl

pub text_eq_flipped : (a b : List ℕ) → text_eq a b ≡ text_eq b a
text_eq_flipped a b =
    bool_same (text_eq a b) (text_eq b a)
    (λ h. subst (λ x. text_eq x a ≡ true) (text_eq_true a b h) (text_eq_same a))
    (λ h. subst (λ x. text_eq x b ≡ true) (text_eq_true b a h) (text_eq_same b))

pub text_laws : IsEquivalence text_eq
text_laws = record { refl = text_eq_same; symm = text_eq_flipped; congr = λ a b c h. ap (λ x. text_eq x c) (text_eq_true a b h) }

append_cancel : (a b c : List ℕ) → a ++ b ≡ a ++ c → b ≡ c
append_cancel [] b c e = e
append_cancel (x ∷ a) b c e = append_cancel a b c cc

pub numbered_apart : (name : List ℕ) (i j : ℕ) → i < 2 ^ 64 → j < 2 ^ 64 → numbered_name name i ≡ numbered_name name j → i ≡ j
numbered_apart name i j a b e = decimal_injective i j a b (append_cancel (codes "$") (decimal i) (decimal j) (append_cancel name (codes "$" ++ decimal i) (codes "$" ++ decimal j) e))

numbered_longer : (name : List ℕ) (i : ℕ) → name ≡ numbered_name name i → ⊥
numbered_longer name i e = omega (arith, ap length e, length-append name (codes "$" ++ decimal i), length-append (codes "$") (decimal i))

-- ---- one of as many numbers as there are names is new

-- the name, and the name with the first numbers
first_numbered : List ℕ → ℕ → List (List ℕ)
first_numbered name zero = name ∷ []
first_numbered name (suc k) = first_numbered name k ++ numbered_name name (suc k) ∷ []

none_equal : (name : List ℕ) (k n : ℕ) → k < n → n < 2 ^ 64 → list_any (text_eq (numbered_name name n)) (first_numbered name k) ≡ false
unfolding first_numbered
none_equal name zero n low few = or_false (text_eq (numbered_name name n) name) ∙ differ (text_eq (numbered_name name n) name) refl
  where
    differ : (b : Bool) → text_eq (numbered_name name n) name ≡ b → b ≡ false
    differ false e = refl
    differ true e = absurd (numbered_longer name n (sym (text_eq_true (numbered_name name n) name e)))
none_equal name (suc k) n low few =
    any-append (text_eq (numbered_name name n)) (first_numbered name k) (numbered_name name (suc k) ∷ [])
    ∙ ap (λ b. b || (text_eq (numbered_name name n) (numbered_name name (suc k)) || false)) (none_equal name k n (omega (arith, low)) few)
    ∙ or_false (text_eq (numbered_name name n) (numbered_name name (suc k)))
    ∙ differ (text_eq (numbered_name name n) (numbered_name name (suc k))) refl
  where
    differ : (b : Bool) → text_eq (numbered_name name n) (numbered_name name (suc k)) ≡ b → b ≡ false
    differ false e = refl
    differ true e = absurd (omega (arith, low, numbered_apart name n (suc k) few (omega (arith, low, few)) (text_eq_true (numbered_name name n) (numbered_name name (suc k)) e)))

first_distinct : (name : List ℕ) (k : ℕ) → k < 2 ^ 64 → IsDistinct text_eq (first_numbered name k)
unfolding first_numbered IsDistinct
first_distinct name zero few = (tt, tt)
first_distinct name (suc k) few = IsDistinct-push text_laws (first_numbered name k) (numbered_name name (suc k)) (first_distinct name k (omega (arith, few))) (none_equal name k (suc k) (omega arith) few)

first_length : (name : List ℕ) (k : ℕ) → length (first_numbered name k) ≡ suc k
unfolding first_numbered
first_length name zero = refl
first_length name (suc k) = omega (arith, length-append (first_numbered name k) (numbered_name name (suc k) ∷ []), first_length name k)

or_split : (a b : Bool) → (a || b) ≡ true → (a ≡ true) ⊎ (b ≡ true)
or_split true b h = inl refl
or_split false b h = inr h

first_among : (names : List (List ℕ)) (name : List ℕ) (k : ℕ) → has_name names name ≡ true → AreTaken names name k → (q : List ℕ) → list_any (text_eq q) (first_numbered name k) ≡ true → list_any (text_eq q) names ≡ true
unfolding first_numbered
first_among names name zero there taken q h = any_same names q name (sym (or_false (text_eq q name)) ∙ h) there
  where
    any_same : (names : List (List ℕ)) (q name : List ℕ) → text_eq q name ≡ true → has_name names name ≡ true → list_any (text_eq q) names ≡ true
    any_same names q name e there = subst (λ x. list_any (text_eq x) names ≡ true) (sym (text_eq_true q name e)) there
first_among names name (suc k) there taken q h =
    elim (or_split (list_any (text_eq q) (first_numbered name k)) (text_eq q (numbered_name name (suc k)) || false) (sym (any-append (text_eq q) (first_numbered name k) (numbered_name name (suc k) ∷ [])) ∙ h)) [
      | inl before ↦ first_among names name k there (λ j low high. taken j low (omega (arith, high))) q before
      | inr here ↦ subst (λ x. list_any (text_eq x) names ≡ true) (sym (text_eq_true q (numbered_name name (suc k)) (sym (or_false (text_eq q (numbered_name name (suc k)))) ∙ here))) (taken (suc k) (omega arith) (omega arith))
    ]

pub not_all_taken : (names : List (List ℕ)) (name : List ℕ) → length names < 2 ^ 64 → has_name names name ≡ true → AreTaken names name (length names) → ⊥
not_all_taken names name few there taken =
    omega (arith, length-le_from_is_member text_laws (first_numbered name (length names)) names (first_distinct name (length names) few) (first_among names name (length names) there taken), first_length name (length names))

pub last_below : (names : List (List ℕ)) (name : List ℕ) (last : ℕ) → length names < 2 ^ 64 → has_name names name ≡ true → AreTaken names name last → length names ≤ last → ⊥
last_below names name last few there taken le = not_all_taken names name few there (λ j low high. taken j low (omega (arith, high, le)))

-- ---- the least number that is new

find_free : (names : List (List ℕ)) (name : List ℕ) (a n k : ℕ) → a ≤ k → k < a + n → ((j : ℕ) → a ≤ j → j < k → has_name names (numbered_name name j) ≡ true) → has_name names (numbered_name name k) ≡ false
    → find (λ x. not (has_name names x)) (map (numbered_name name) (range_with_len a n)) ≡ Some (numbered_name name k)
find_free names name a zero k low high before new = absurd (omega (arith, low, high))
find_free names name a (suc n) k low high before new = split (has_name names (numbered_name name a)) refl (λ h. find_free names name (a + 1) n k h (omega (arith, high)) (λ j l. before j (omega (arith, l))) new)
  where
    split : (b : Bool) → has_name names (numbered_name name a) ≡ b → (a + 1 ≤ k → find (λ x. not (has_name names x)) (map (numbered_name name) (range_with_len (a + 1) n)) ≡ Some (numbered_name name k))
        → cond (not (has_name names (numbered_name name a))) (Some (numbered_name name a)) (find (λ x. not (has_name names x)) (map (numbered_name name) (range_with_len (a + 1) n))) ≡ Some (numbered_name name k)
    split true e rest =
        let other : a ≢ k = λ same. false≢true (sym new ∙ ap (λ m. has_name names (numbered_name name m)) (sym same) ∙ e) in
        ap (λ b. cond (not b) (Some (numbered_name name a)) (find (λ x. not (has_name names x)) (map (numbered_name name) (range_with_len (a + 1) n)))) e ∙ rest (omega (arith, low, other))
    split false e rest =
        ap (λ b. cond (not b) (Some (numbered_name name a)) (find (λ x. not (has_name names x)) (map (numbered_name name) (range_with_len (a + 1) n)))) e
        ∙ ap (λ m. Some (numbered_name name m)) (elim (cases_lt a k) [ inl below ↦ absurd (false≢true (sym e ∙ before a (omega arith) below)) | inr past ↦ (let same : a ≡ k = omega (arith, past, low) in same) ])

pub fresh_is : (names : List (List ℕ)) (name : List ℕ) (k : ℕ) → has_name names name ≡ true → IsFree names name k → fresh_name names name ≡ numbered_name name k
fresh_is names name k there h =
    ap (λ b. cond b (unwrap_or (find (λ x. not (has_name names x)) (map (numbered_name name) (range_with_len 1 (length names)))) name) name) there
    ∙ ap (λ o. unwrap_or o name) (find_free names name 1 (length names) k h.some (omega (arith, h.few)) h.before h.new)

pub fresh_new : (names : List (List ℕ)) (name : List ℕ) → has_name names name ≡ false → fresh_name names name ≡ name
fresh_new names name none = ap (λ b. cond b (unwrap_or (find (λ x. not (has_name names x)) (map (numbered_name name) (range_with_len 1 (length names)))) name) name) none

-- ---- names that are kept

same_bytes : (a b : List ℕ) → bytes_eq a b ≡ true → a ≡ b
same_bytes a b h = (bytes_eq-Decides a b).0 h

bytes_text : (a b : List ℕ) → bytes_eq a b ≡ text_eq a b
bytes_text a b = bool_same (bytes_eq a b) (text_eq a b) (λ h. subst (λ x. text_eq a x ≡ true) ((bytes_eq-Decides a b).0 h) (text_eq_same a)) (λ h. (bytes_eq-Decides a b).1 (text_eq_true a b h))

has_more : (names : List (List ℕ)) (new q : List ℕ) → has_name (names ++ new ∷ []) q ≡ (has_name names q || text_eq q new)
has_more names new q = any-append (text_eq q) names (new ∷ []) ∙ ap (λ b. has_name names q || b) (or_false (text_eq q new))

or_true : (a : Bool) → (a || true) ≡ true
or_true true = refl
or_true false = refl

has_still : (names : List (List ℕ)) (new q : List ℕ) → has_name names q ≡ true → has_name (names ++ new ∷ []) q ≡ true
has_still names new q h = has_more names new q ∙ ap (λ b. b || text_eq q new) h

has_new : (names : List (List ℕ)) (new : List ℕ) → has_name (names ++ new ∷ []) new ≡ true
has_new names new = has_more names new new ∙ ap (λ b. has_name names new || b) (text_eq_same new) ∙ or_true (has_name names new)

is_some_put : (b : Bool) (n : ℕ) (o : Option ℕ) → is_some (cond b (Some n) o) ≡ (is_some o || b)
is_some_put true n o = sym (or_true (is_some o))
is_some_put false n o = sym (or_false (is_some o))

-- the names that are found after one more was put
pub has_put : (look look' : List ℕ → Option ℕ) (names : List (List ℕ)) (new : List ℕ) → ((q : List ℕ) → is_some (look q) ≡ has_name names q) → IsPut look new 0 look' → (q : List ℕ) → is_some (look' q) ≡ has_name (names ++ new ∷ []) q
has_put look look' names new h put q =
    ap is_some (put q) ∙ is_some_put (bytes_eq new q) 0 (look q) ∙ ap (λ b. b || bytes_eq new q) (h q) ∙ ap (λ b. has_name names q || b) (bytes_text new q ∙ text_eq_flipped new q) ∙ sym (has_more names new q)

-- a new name
pub tracks_new : (look look' : List ℕ → Option ℕ) (names : List (List ℕ)) (new : List ℕ) → Tracks look names → has_name names new ≡ false → IsPut look new 0 look' → Tracks look' (names ++ new ∷ [])
tracks_new look look' names new h none put = record {
  has = has_put look look' names new h.has put;
  taken = λ q last e j low high. by_test (bytes_eq new q) q last (sym (put q) ∙ e) j low high;
}
  where
    by_test : (b : Bool) (q : List ℕ) (last : ℕ) → cond b (Some 0) (look q) ≡ Some last → (j : ℕ) → 1 ≤ j → j ≤ last → has_name (names ++ new ∷ []) (numbered_name q j) ≡ true
    by_test true q last e j low high = absurd (let same : 0 ≡ last = cc in omega (arith, same, low, high))
    by_test false q last e j low high = has_still names new (numbered_name q j) (h.taken q last e j low high)

-- a name that stands already gets a number more
pub tracks_numbered : (look look1 look2 : List ℕ → Option ℕ) (names : List (List ℕ)) (name : List ℕ) (number : ℕ) → Tracks look names → has_name names name ≡ true → IsFree names name number → IsPut look name number look1 → IsPut look1 (numbered_name name number) 0 look2
    → Tracks look2 (names ++ numbered_name name number ∷ [])
tracks_numbered look look1 look2 names name number h there free put1 put2 = record {
  has = λ q.
      ap is_some (put2 q) ∙ is_some_put (bytes_eq (numbered_name name number) q) 0 (look1 q) ∙ ap (λ b. b || bytes_eq (numbered_name name number) q) (first q)
      ∙ ap (λ b. has_name names q || b) (bytes_text (numbered_name name number) q ∙ text_eq_flipped (numbered_name name number) q) ∙ sym (has_more names (numbered_name name number) q);
  taken = λ q last e j low high. second (bytes_eq (numbered_name name number) q) q last (sym (put2 q) ∙ e) j low high;
}
  where
    first : (q : List ℕ) → is_some (look1 q) ≡ has_name names q
    first q = ap is_some (put1 q) ∙ is_some_put (bytes_eq name q) number (look q) ∙ ap (λ b. b || bytes_eq name q) (h.has q) ∙ same (bytes_eq name q) refl
      where
        same : (b : Bool) → bytes_eq name q ≡ b → (has_name names q || b) ≡ has_name names q
        same true e = or_true (has_name names q) ∙ sym (subst (λ x. has_name names x ≡ true) ((bytes_eq-Decides name q).0 e) there)
        same false e = or_false (has_name names q)

    third : (b : Bool) (q : List ℕ) (last : ℕ) → bytes_eq name q ≡ b → cond b (Some number) (look q) ≡ Some last → (j : ℕ) → 1 ≤ j → j ≤ last → has_name (names ++ numbered_name name number ∷ []) (numbered_name q j) ≡ true
    third false q last s e j low high = has_still names (numbered_name name number) (numbered_name q j) (h.taken q last e j low high)
    third true q last s e j low high =
        let same : name ≡ q = (bytes_eq-Decides name q).0 s in
        let until : number ≡ last = cc in
        subst (λ x. has_name (names ++ numbered_name name number ∷ []) (numbered_name x j) ≡ true) same
        (elim (cases_lt j number) [
          | inl below ↦ has_still names (numbered_name name number) (numbered_name name j) (free.before j low below)
          | inr past ↦ (let here : j ≡ number = omega (arith, past, until, high) in subst (λ n. has_name (names ++ numbered_name name number ∷ []) (numbered_name name n) ≡ true) (sym here) (has_new names (numbered_name name number)))
        ])

    second : (b : Bool) (q : List ℕ) (last : ℕ) → cond b (Some 0) (look1 q) ≡ Some last → (j : ℕ) → 1 ≤ j → j ≤ last → has_name (names ++ numbered_name name number ∷ []) (numbered_name q j) ≡ true
    second true q last e j low high = absurd (let same : 0 ≡ last = cc in omega (arith, same, low, high))
    second false q last e j low high = third (bytes_eq name q) q last refl (sym (put1 q) ∙ e) j low high

-- ---- columns one after another

pub columns-push : (names : List (List ℕ)) (cs : List Column) (c : Column) → columns_after names (cs ++ c ∷ []) ≡ columns_after names cs ++ record c { name = fresh_name (names ++ names_of (columns_after names cs)) c.name } ∷ []
columns-push names [] c = ap (λ ns. record c { name = fresh_name ns c.name } ∷ []) (sym (append-nil names))
columns-push names (d ∷ cs) c =
    let new : List ℕ = fresh_name names d.name in
    ap (λ ds. record d { name = new } ∷ ds)
    (columns-push (names ++ new ∷ []) cs c ∙ ap (λ ns. columns_after (names ++ new ∷ []) cs ++ record c { name = fresh_name ns c.name } ∷ []) (append_assoc names (new ∷ []) (names_of (columns_after (names ++ new ∷ []) cs))))

pub column_turn : (old cur new : List Column) (cs : List Column) (c : Column) → cur ≡ old ++ columns_after (names_of old) cs → new ≡ cur ++ record c { name = fresh_name (names_of cur) c.name } ∷ [] → new ≡ old ++ columns_after (names_of old) (cs ++ c ∷ [])
column_turn old cur new cs c h k =
    k
    ∙ ap (λ xs. xs ++ record c { name = fresh_name (names_of xs) c.name } ∷ []) h
    ∙ append_assoc old (columns_after (names_of old) cs) (record c { name = fresh_name (names_of (old ++ columns_after (names_of old) cs)) c.name } ∷ [])
    ∙ ap (λ ns. old ++ (columns_after (names_of old) cs ++ record c { name = fresh_name ns c.name } ∷ [])) (map-append (λ (x : Column). x.name) old (columns_after (names_of old) cs))
    ∙ ap (λ xs. old ++ xs) (sym (columns-push (names_of old) cs c))

pub columns-append : (names : List (List ℕ)) (xs ys : List Column) → columns_after names (xs ++ ys) ≡ columns_after names xs ++ columns_after (names ++ names_of (columns_after names xs)) ys
columns-append names [] ys = ap (λ ns. columns_after ns ys) (sym (append-nil names))
columns-append names (x ∷ xs) ys =
    let new : List ℕ = fresh_name names x.name in
    ap (λ ds. record x { name = new } ∷ ds) (columns-append (names ++ new ∷ []) xs ys ∙ ap (λ ns. columns_after (names ++ new ∷ []) xs ++ columns_after ns ys) (append_assoc names (new ∷ []) (names_of (columns_after (names ++ new ∷ []) xs))))

-- ---- the ports under the names of their columns

named-push : (ps : List Port) (cs : List Column) (i : ℕ) (p : Port) (c : Column) → slice_get ps i ≡ Some p → slice_get cs i ≡ Some c → ports_named (take (suc i) ps) (take (suc i) cs) ≡ ports_named (take i ps) (take i cs) ++ record p { name = c.name } ∷ []
named-push [] cs i p c at at' = cc
named-push (x ∷ ps) [] i p c at at' = cc
named-push (x ∷ ps) (y ∷ cs) zero p c at at' =
    let a : x ≡ p = cc in
    let b : y ≡ c = cc in
    let f : Port → List Port = λ z. record z { name = y.name } ∷ [] in
    let g : Column → List Port = λ z. record p { name = z.name } ∷ [] in
    ap f a ∙ ap g b
named-push (x ∷ ps) (y ∷ cs) (suc i) p c at at' = ap (λ zs. record x { name = y.name } ∷ zs) (named-push ps cs i p c at at')

pub named_turn : (ps : List Port) (cs : List Column) (i : ℕ) (p : Port) (c : Column) (old new : List Port) → slice_get ps i ≡ Some p → slice_get cs i ≡ Some c → old ≡ ports_named (take i ps) (take i cs) → new ≡ old ++ record p { name = c.name } ∷ [] → new ≡ ports_named (take (i + 1) ps) (take (i + 1) cs)
named_turn ps cs i p c old new at at' h k =
    k ∙ ap (λ xs. xs ++ record p { name = c.name } ∷ []) h ∙ sym (named-push ps cs i p c at at') ∙ ap (λ n. ports_named (take n ps) (take n cs)) (let e : suc i ≡ i + 1 = omega arith in e)

pub named_end : (ps : List Port) (cs : List Column) (i : ℕ) → length ps ≤ i → ports_named (take i ps) (take i cs) ≡ ports_named ps cs
named_end [] cs i h = ap (λ xs. ports_named xs (take i cs)) (take_end [] i h)
named_end (p ∷ ps) [] i h = ap (λ xs. ports_named xs (take i [])) (take_end (p ∷ ps) i h) ∙ ap (ports_named (p ∷ ps)) (take_end [] i (omega arith))
named_end (p ∷ ps) (c ∷ cs) zero h = absurd (omega (arith, h))
named_end (p ∷ ps) (c ∷ cs) (suc i) h = ap (λ xs. record p { name = c.name } ∷ xs) (named_end ps cs i (omega (arith, h)))

pub registers_turn : (test : ℕ → Bool) (n : ℕ) (old new : List ℕ) → old ≡ filter test (range_with_len 0 n) → new ≡ old ++ filter test (n ∷ []) → new ≡ filter test (range_with_len 0 (n + 1))
registers_turn test n old new h k =
    k ∙ ap (λ xs. xs ++ filter test (n ∷ [])) h ∙ sym (filter-append test (range_with_len 0 n) (n ∷ [])) ∙ ap (λ m. filter test (range_with_len 0 n ++ m ∷ [])) (let e : n ≡ 0 + n = omega arith in e) ∙ ap (filter test) (sym (range-push 0 n))

pub columns_turn : {A : Type 0} (f : A → Column) (xs : List A) (i : ℕ) (x : A) (n : List ℕ) (old cur new : List Column) → slice_get xs i ≡ Some x → n ≡ (f x).name → cur ≡ old ++ columns_after (names_of old) (map f (take i xs))
    → new ≡ cur ++ record { name = fresh_name (names_of cur) n; sig = (f x).sig } ∷ [] → new ≡ old ++ columns_after (names_of old) (map f (take (i + 1) xs))
columns_turn f xs i x n old cur new at same h k =
    column_turn old cur new (map f (take i xs)) (f x) h (k ∙ ap (λ m. cur ++ record { name = fresh_name (names_of cur) m; sig = (f x).sig } ∷ []) same)
    ∙ ap (λ cs. old ++ columns_after (names_of old) cs) (sym (map-push f (take i xs) x) ∙ ap (map f) (sym (take-push xs i x at)))
