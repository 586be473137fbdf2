-- Domains by their numbers and by their names.
use Rattle.std.specs.Prelude.{◌≡◌, ◌≢◌, refl, ℕ, zero, suc, not, ◌<◌, ◌≤◌, ◌==◌, ◌&&◌, ◌||◌, IsSome, Bool, true, false, cond, if◌then◌else◌, List, [], ◌∷◌, map, length, nat_lt, position, slice_get, slice_index_or, slice_set, ℤ, pos, ◌-ℤ◌, Option, Some, None, option_map, fold}
use Rattle.std.specs.List.{AllByRecursion, IsDistinct, list_any, find, filter_map, cons_option, position_or_len}
use Rattle.std.proofs.Common.{sym, ◌∙◌, ap, arith, subst, ⊎_elim}
use Rattle.std.proofs.lemmas.Bool.{false≢true, eq-eqb, eqb-true, or_parts, cases_eq, false_from_ne_true}
use Rattle.std.proofs.lemmas.Bool.Decides.{nat_tests}
use Rattle.std.proofs.lemmas.List.{length-set, get_or-set_same, get_or-set_other}
use Rattle.std.proofs.lemmas.List.Folds.{find_at}
use Rattle.std.proofs.lemmas.Option.{slice_get_past, slice_get-get_or, get_or_from_slice_get}
use Rattle.std.proofs.lemmas.List.Quantifiers.{position-Some}
use Rattle.std.proofs.lemmas.Map.Keys.{IsDistinct-head, IsDistinct-tail}
use Rattle.shape_rules.specs.Operators.{is_zero}
use Rattle.lists.specs.Texts.{text_eq}
use Rattle.lists.proofs.TextLaws.{text_eq_true, text_eq_same}
use Rattle.design_ir.specs.declared.ids.DomainId.{DomainId}
use Rattle.design_ir.specs.declared.ids.SigId.{SigId}
use Rattle.design_ir.specs.declared.domain.Domain.{Domain}
use Rattle.design_ir.specs.Circuits.{Circuit, option_test, at}
use Rattle.design_ir.specs.Steps.{is_before_edge, is_active, port_active, is_reset, is_cleared, toggle_at, toggle}
use Rattle.fragment_laws.specs.Surroundings.{domain_of}
use Rattle.fragment_laws.specs.Stepping.{acts, port_acts, resets, resets_at_once, toggle_by}
use Rattle.fragment_laws.specs.Roots.{name_at}

-- ---- what is found, and where

find_nothing : {A : Type 0} (t : A → Bool) (xs : List A) → list_any t xs ≡ false → find t xs ≡ None
find_nothing t [] e = refl
find_nothing t (x ∷ xs) e = let parts = or_parts (t x) (list_any t xs) e in ap (λ b. cond b (Some x) (find t xs)) parts.0 ∙ find_nothing t xs parts.1

pub find_holds : {A : Type 0} (P : A → Type 0) (t : A → Bool) (xs : List A) (x : A) → AllByRecursion P xs → find t xs ≡ Some x → P x
find_holds P t [] x h e = cc
find_holds P t (y ∷ xs) x h e = first (t y) e (λ f. find_holds P t xs x h.1 f)
  where
    first : (b : Bool) → cond b (Some y) (find t xs) ≡ Some x → (find t xs ≡ Some x → P x) → P x
    first true f more = let same : y ≡ x = cc in subst P same h.0
    first false f more = more f

place_is : (b : Bool) (n k : ℕ) → cond b (Some n) None ≡ Some k → n ≡ k
place_is true n k e = cc
place_is false n k e = cc

pub find_placed : {A : Type 0} (t : A → Bool) (xs : List A) (k : ℕ) → position t xs ≡ Some k → find t xs ≡ slice_get xs k
find_placed t xs k e = find_at t xs ∙ ap (slice_get xs) (place_is (nat_lt (position_or_len t xs) (length xs)) (position_or_len t xs) k e)

not_placed : (b : Bool) (n : ℕ) → cond b (Some n) None ≡ None → b ≡ false
not_placed true n e = cc
not_placed false n e = refl

not_below : (n m : ℕ) → nat_lt n m ≡ false → m ≤ n
not_below n m e = grind (arith, nat_tests)

is_below : (n m : ℕ) → nat_lt n m ≡ true → n < m
is_below n m e = grind (arith, nat_tests)

pub placed_below : {A : Type 0} (t : A → Bool) (xs : List A) (k : ℕ) → position t xs ≡ Some k → k < length xs
placed_below t xs k e = by (nat_lt (position_or_len t xs) (length xs)) refl e
  where
    by : (b : Bool) → nat_lt (position_or_len t xs) (length xs) ≡ b → cond b (Some (position_or_len t xs)) None ≡ Some k → k < length xs
    by true e f = omega (arith, is_below (position_or_len t xs) (length xs) e, place_is true (position_or_len t xs) k f)
    by false e f = cc

pub none_past : {A : Type 0} (xs : List A) (k : ℕ) → slice_get xs k ≡ None → k < length xs → ⊥
none_past [] k e there = absurd (omega (arith, there))
none_past (x ∷ xs) zero e there = cc
none_past (x ∷ xs) (suc k) e there = none_past xs k e (omega (arith, there))

pub unplaced : {A : Type 0} (t : A → Bool) (xs : List A) → position t xs ≡ None → find t xs ≡ None
unplaced t xs e =
    let n : ℕ = position_or_len t xs in
    find_at t xs ∙ slice_get_past xs n (not_below n (length xs) (not_placed (nat_lt n (length xs)) n e))

pub placed : {A : Type 0} (t : A → Bool) (xs : List A) → IsSome (find t xs) → (k : ℕ) × (position t xs ≡ Some k)
placed t xs h = by (position t xs) refl
  where
    by : (o : Option ℕ) → position t xs ≡ o → (k : ℕ) × (position t xs ≡ Some k)
    by (Some k) e = (k, e)
    by None e = absurd (false≢true (subst IsSome (unplaced t xs e) h))

abbrev name_of : Domain → List ℕ
name_of d = d.name

abbrev AreApart : List Domain → Type 0
AreApart ds = IsDistinct text_eq (map name_of ds)

-- a name that differs from all of these is none of them
other_name : (n : List ℕ) (ds : List Domain) (k : ℕ) (e : Domain) → AllByRecursion (λ y. text_eq n y ≡ false) (map name_of ds) → slice_get ds k ≡ Some e → text_eq n e.name ≡ false
other_name n [] k e h is = cc
other_name n (x ∷ ds) zero e h is = let same : x ≡ e = cc in subst (λ (z : Domain). text_eq n z.name ≡ false) same h.0
other_name n (x ∷ ds) (suc k) e h is = other_name n ds k e h.1 is

-- two places with one name are one
same_place : (ds : List Domain) (j k : ℕ) (d e : Domain) → AreApart ds → slice_get ds j ≡ Some d → slice_get ds k ≡ Some e → d.name ≡ e.name → j ≡ k
same_place [] j k d e h a b same = cc
same_place (x ∷ ds) zero zero d e h a b same = refl
same_place (x ∷ ds) zero (suc k) d e h a b same =
    let first : x ≡ d = cc in
    let other = other_name x.name ds k e (IsDistinct-head text_eq x.name (map name_of ds) h) b in
    absurd (false≢true (sym other ∙ ap (λ n. text_eq n e.name) (ap name_of first ∙ same) ∙ text_eq_same e.name))
same_place (x ∷ ds) (suc j) zero d e h a b same =
    let first : x ≡ e = cc in
    let other = other_name x.name ds j d (IsDistinct-head text_eq x.name (map name_of ds) h) a in
    absurd (false≢true (sym other ∙ ap (λ n. text_eq n d.name) (ap name_of first ∙ sym same) ∙ text_eq_same d.name))
same_place (x ∷ ds) (suc j) (suc k) d e h a b same = ap suc (same_place ds j k d e (IsDistinct-tail text_eq x.name (map name_of ds) h) a b same)

-- a domain is found by its own name
found_own : (ds : List Domain) (j : ℕ) (d : Domain) → AreApart ds → slice_get ds j ≡ Some d → domain_of ds d.name ≡ Some d
found_own [] j d h is = cc
found_own (x ∷ ds) zero d h is =
    let first : x ≡ d = cc in
    ap (λ b. cond b (Some x) (domain_of ds d.name)) (ap (λ (z : Domain). text_eq z.name d.name) first ∙ text_eq_same d.name) ∙ ap (λ z. Some z) first
found_own (x ∷ ds) (suc j) d h is =
    ap (λ b. cond b (Some x) (domain_of ds d.name)) (other_name x.name ds j d (IsDistinct-head text_eq x.name (map name_of ds) h) is)
    ∙ found_own ds j d (IsDistinct-tail text_eq x.name (map name_of ds) h) is

pub set_at : (s : ℕ) (cur : List ℤ) (k : ℕ) (n : ℤ) → s < length cur → at (slice_set cur k n) s ≡ (if k == s then n else at cur s)
set_at s cur k n there =
    ⊎_elim
    (λ (e : k ≡ s). ap (λ j. at (slice_set cur j n) s) e ∙ get_or-set_same cur s n (pos 0) there ∙ ap (λ b. if b then n else at cur s) (sym (eq-eqb k s e)))
    (λ (e : k ≢ s). get_or-set_other cur k s n (pos 0) (λ q. e (sym q)) ∙ ap (λ b. if b then n else at cur s) (sym (false_from_ne_true (k == s) (λ t. e (eqb-true k s t)))))
    (cases_eq k s)

-- ---- the domains of a design

module _ (c : Circuit) (apart : AreApart c.domains) where
  -- the domain with this name stands at this place
  abbrev pub Stands : List ℕ → ℕ → Type 0
  Stands name k = position (λ (d : Domain). text_eq d.name name) c.domains ≡ Some k

  pub stands : (name : List ℕ) (k : ℕ) → Stands name k → slice_get c.domains k ≡ domain_of c.domains name
  stands name k e = sym (find_placed (λ (d : Domain). text_eq d.name name) c.domains k e)

  -- another domain has that name exactly where it is the same one
  one_name : (name : List ℕ) (k j : ℕ) (d : Domain) → Stands name k → slice_get c.domains j ≡ Some d → (j == k) ≡ text_eq d.name name
  one_name name k j d e is = by (j == k) (text_eq d.name name) refl refl
    where
      facts : (k < length c.domains) × (text_eq (slice_index_or c.domains k d).name name ≡ true)
      facts = let r = position-Some (λ (x : Domain). text_eq x.name name) c.domains k d e in (r.0, r.1)

      by : (a b : Bool) → (j == k) ≡ a → text_eq d.name name ≡ b → a ≡ b
      by true true f g = refl
      by false false f g = refl
      by true false f g =
          let here : slice_index_or c.domains k d ≡ d = get_or_from_slice_get c.domains k d d (subst (λ i. slice_get c.domains i ≡ Some d) (eqb-true j k f) is) in
          absurd (false≢true (sym g ∙ ap (λ (x : Domain). text_eq x.name name) (sym here) ∙ facts.1))
      by false true f g =
          let there : slice_get c.domains k ≡ Some (slice_index_or c.domains k d) = slice_get-get_or c.domains k d facts.0 in
          let same : j ≡ k = same_place c.domains j k d (slice_index_or c.domains k d) apart is there (text_eq_true d.name name g ∙ sym (text_eq_true (slice_index_or c.domains k d).name name facts.1)) in
          absurd (false≢true (sym f ∙ eq-eqb j k same))

  -- the domains that are listed, by their names
  abbrev pub names : List DomainId → List (List ℕ)
  names listed = filter_map (name_at c) listed

  listed_named : (name : List ℕ) (k : ℕ) → Stands name k → (listed : List DomainId) → list_any (λ (x : DomainId). x.0 == k) listed ≡ list_any (λ n. text_eq n name) (names listed)
  listed_named name k e [] = refl
  listed_named name k e (x ∷ listed) = first (slice_get c.domains x.0) refl (listed_named name k e listed)
    where
      past : slice_get c.domains x.0 ≡ None → x.0 ≡ k → ⊥
      past is same = none_past c.domains k (ap (slice_get c.domains) (sym same) ∙ is) (placed_below (λ (d : Domain). text_eq d.name name) c.domains k e)

      first : (o : Option Domain) → slice_get c.domains x.0 ≡ o → list_any (λ (y : DomainId). y.0 == k) listed ≡ list_any (λ n. text_eq n name) (names listed)
          → ((x.0 == k) || list_any (λ (y : DomainId). y.0 == k) listed) ≡ list_any (λ n. text_eq n name) (cons_option (option_map name_of o) (names listed))
      first (Some d) is more = let a = one_name name k x.0 d e is in cc
      first None is more =
          ap (λ b. b || list_any (λ (y : DomainId). y.0 == k) listed) (false_from_ne_true (x.0 == k) (λ t. past is (eqb-true x.0 k t))) ∙ more

  -- ---- what acts

  module _ (env : List ℤ) (listed : List DomainId) where
    pub active_named : (name : List ℕ) (k : ℕ) → Stands name k → is_active c env listed k ≡ acts c.domains env (names listed) name
    active_named name k e =
        let a = listed_named name k e listed in
        let b = stands name k e in
        cc

    pub port_named : (o : Option (List ℕ)) → port_active c env listed o ≡ port_acts c.domains env (names listed) o
    port_named None = refl
    port_named (Some name) = by (position (λ (d : Domain). text_eq d.name name) c.domains) refl
      where
        and_nothing : (b : Bool) → false ≡ (b && false)
        and_nothing true = refl
        and_nothing false = refl

        by : (o : Option ℕ) → position (λ (d : Domain). text_eq d.name name) c.domains ≡ o → option_test (is_active c env listed) o ≡ acts c.domains env (names listed) name
        by (Some k) e = active_named name k e
        by None e =
            and_nothing (list_any (λ n. text_eq n name) (names listed))
            ∙ ap (λ o. list_any (λ n. text_eq n name) (names listed) && option_test (λ (d : Domain). is_before_edge d (at env d.clk.0)) o) (sym (unplaced (λ (d : Domain). text_eq d.name name) c.domains e))

  pub reset_named : (env : List ℤ) (name : List ℕ) (k : ℕ) → Stands name k → is_reset c env k ≡ resets c.domains env name
  reset_named env name k e = ap (option_test (λ (d : Domain). option_test (λ (s : SigId). not (is_zero (at env s.0))) d.rst)) (stands name k e)

  pub cleared_named : (held : List ℤ) (name : List ℕ) (k : ℕ) → Stands name k → is_cleared c held k ≡ resets_at_once c.domains held name
  cleared_named held name k e = let a = reset_named held name k e in let b = ap (option_test (λ (d : Domain). d.async_reset)) (stands name k e) in cc

  -- ---- clocks

  module _ (s : ℕ) where
    pub toggles_named : (listed : List DomainId) (cur : List ℤ) → s < length cur → at (fold (toggle c.domains) cur listed) s ≡ fold (toggle_by c.domains s) (at cur s) (names listed)
    toggles_named [] cur there = refl
    toggles_named (x ∷ listed) cur there = first (slice_get c.domains x.0) refl (λ ys h. toggles_named listed ys h)
      where
        first : (o : Option Domain) → slice_get c.domains x.0 ≡ o → ((ys : List ℤ) → s < length ys → at (fold (toggle c.domains) ys listed) s ≡ fold (toggle_by c.domains s) (at ys s) (names listed))
            → at (fold (toggle c.domains) (toggle_at cur o) listed) s ≡ fold (toggle_by c.domains s) (at cur s) (cons_option (option_map name_of o) (names listed))
        first None is more = more cur there
        first (Some d) is more =
            let k : ℕ = d.clk.0 in
            let ys : List ℤ = slice_set cur k (pos 1 -ℤ at cur k) in
            more ys (omega (arith, there, length-set cur k (pos 1 -ℤ at cur k)))
            ∙ ap (λ n. fold (toggle_by c.domains s) n (names listed)) (set_at s cur k (pos 1 -ℤ at cur k) there ∙ own_number (k == s) refl ∙ ap (λ o. if option_test (λ (x : Domain). x.clk.0 == s) o then pos 1 -ℤ at cur s else at cur s) (sym (found_own c.domains x.0 d apart is)))
          where
            own_number : (b : Bool) → (d.clk.0 == s) ≡ b → (if b then pos 1 -ℤ at cur d.clk.0 else at cur s) ≡ (if b then pos 1 -ℤ at cur s else at cur s)
            own_number true e = ap (λ j. pos 1 -ℤ at cur j) (eqb-true d.clk.0 s e)
            own_number false e = refl
