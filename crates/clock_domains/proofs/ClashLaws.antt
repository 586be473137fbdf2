-- Names and domains that are defined twice, one definition after another.
use Rattle.std.proofs.Common.{◌≡◌, ℕ, ◌+◌, ◌==◌, nat_eq, ◌||◌, Bool, true, false, cond, if◌then◌else◌, List, [], ◌∷◌, ◌++◌, map, take, drop, Option, Some, None, is_some, slice_get, refl, sym, ap, ◌∙◌, subst, append_assoc, append-nil, arith}
use Rattle.std.specs.List.{AllByRecursion, list_any}
use Rattle.std.proofs.lemmas.Bool.{false≢true}
use Rattle.std.proofs.lemmas.Bool.Decides.{nat_tests}
use Rattle.lists.specs.Texts.{text_eq}
use Rattle.lists.proofs.TextLaws.{text_eq_same}
use Rattle.design_ir.specs.declared.domain.DomainDef.{DomainDef}
use Rattle.design_ir.specs.Circuits.{is_among}
use Rattle.fragment_walks.proofs.Lists.{all_both, all_imp, all_joined, any-append, map-push, none_any, or_false, or_none, take-push, take_and_drop}
use Rattle.clock_domains.specs.declared.stop.ResolveStop.{ResolveStop}
use Rattle.clock_domains.specs.declared.stop.ResolveStop.TheVariants.{DomainClash}
use Rattle.clock_domains.specs.Resolved.{first_of, has_name, clash_after, clashes}
use Rattle.clock_domains.specs.Tracked.{IsPut}
use Rattle.clock_domains.proofs.NameLaws.{has_put}

abbrev pub names_of : List DomainDef → List (List ℕ)
names_of ds = map (λ (d : DomainDef). d.domain.name) ds

abbrev pub clocks_of : List DomainDef → List ℕ
clocks_of ds = map (λ (d : DomainDef). d.domain.clk.0) ds

-- a look-up finds exactly these names
abbrev pub IsLook : (List ℕ → Option ℕ) → List (List ℕ) → Type 0
IsLook look names = (q : List ℕ) → is_some (look q) ≡ has_name names q

-- a set has exactly these numbers
abbrev pub HasAll : (ℕ → Bool) → List ℕ → Type 0
HasAll has numbers = (k : ℕ) → has k ≡ is_among numbers k

abbrev clash : Bool → DomainDef → Option ResolveStop
clash there d = if there then Some (DomainClash d.place) else None

first_assoc : {A : Type 0} (a b c : Option A) → first_of a (first_of b c) ≡ first_of (first_of a b) c
first_assoc None b c = refl
first_assoc (Some x) b c = refl

clash-append : (before xs ys : List DomainDef) → clash_after before (xs ++ ys) ≡ first_of (clash_after before xs) (clash_after (before ++ xs) ys)
clash-append before [] ys = ap (λ ds. clash_after ds ys) (sym (append-nil before))
clash-append before (x ∷ xs) ys =
    let here = clash (list_any (clashes x) before) x in
    let next = before ++ x ∷ [] in
    ap (first_of here) (clash-append next xs ys ∙ ap (λ ds. first_of (clash_after next xs) (clash_after ds ys)) (append_assoc before (x ∷ []) xs))
    ∙ first_assoc here (clash_after next xs) (clash_after (before ++ x ∷ xs) ys)

first_none : {A : Type 0} (o : Option A) → first_of o None ≡ o
first_none None = refl
first_none (Some x) = refl

one_clash : (ds : List DomainDef) (i : ℕ) (d : DomainDef) → slice_get ds i ≡ Some d → clash_after [] (take i ds) ≡ None → clash_after [] (take (i + 1) ds) ≡ clash (list_any (clashes d) (take i ds)) d
one_clash ds i d at free =
    ap (clash_after []) (take-push ds i d at) ∙ clash-append [] (take i ds) (d ∷ []) ∙ ap (λ o. first_of o (clash_after (take i ds) (d ∷ []))) free ∙ first_none (clash (list_any (clashes d) (take i ds)) d)

-- the first one that clashes with one before it
pub clash_told : (ds : List DomainDef) (i : ℕ) (d : DomainDef) → slice_get ds i ≡ Some d → clash_after [] (take i ds) ≡ None → list_any (clashes d) (take i ds) ≡ true → clash_after [] ds ≡ Some (DomainClash d.place)
clash_told ds i d at free there =
    ap (clash_after []) (take_and_drop ds (i + 1)) ∙ clash-append [] (take (i + 1) ds) (drop (i + 1) ds)
    ∙ ap (λ o. first_of o (clash_after (take (i + 1) ds) (drop (i + 1) ds))) (one_clash ds i d at free ∙ ap (λ b. clash b d) there)

-- one that clashes with none
pub clash_turn : (ds : List DomainDef) (i : ℕ) (d : DomainDef) → slice_get ds i ≡ Some d → clash_after [] (take i ds) ≡ None → list_any (clashes d) (take i ds) ≡ false → clash_after [] (take (i + 1) ds) ≡ None
clash_turn ds i d at free new = one_clash ds i d at free ∙ ap (λ b. clash b d) new

-- ---- by names and by clocks

or_both : (a b c d : Bool) → ((a || b) || (c || d)) ≡ ((a || c) || (b || d))
or_both true b c d = refl
or_both false true true d = refl
or_both false true false d = refl
or_both false false c d = refl

clashes_any : (d : DomainDef) (ds : List DomainDef) → list_any (clashes d) ds ≡ (has_name (names_of ds) d.domain.name || is_among (clocks_of ds) d.domain.clk.0)
clashes_any d [] = refl
clashes_any d (e ∷ ds) =
    ap (λ b. clashes d e || b) (clashes_any d ds)
    ∙ or_both (text_eq d.domain.name e.domain.name) (e.domain.clk.0 == d.domain.clk.0) (has_name (names_of ds) d.domain.name) (is_among (clocks_of ds) d.domain.clk.0)

or_end : (b : Bool) → (b || true) ≡ true
or_end true = refl
or_end false = refl

pub clashes_named : (d : DomainDef) (ds : List DomainDef) → has_name (names_of ds) d.domain.name ≡ true → list_any (clashes d) ds ≡ true
clashes_named d ds h = clashes_any d ds ∙ ap (λ b. b || is_among (clocks_of ds) d.domain.clk.0) h

pub clashes_clocked : (d : DomainDef) (ds : List DomainDef) → is_among (clocks_of ds) d.domain.clk.0 ≡ true → list_any (clashes d) ds ≡ true
clashes_clocked d ds h = clashes_any d ds ∙ ap (λ b. has_name (names_of ds) d.domain.name || b) h ∙ or_end (has_name (names_of ds) d.domain.name)

pub clashes_none : (d : DomainDef) (ds : List DomainDef) → has_name (names_of ds) d.domain.name ≡ false → is_among (clocks_of ds) d.domain.clk.0 ≡ false → list_any (clashes d) ds ≡ false
clashes_none d ds h k = clashes_any d ds ∙ ap (λ b. b || is_among (clocks_of ds) d.domain.clk.0) h ∙ k

pub look_turn : (look look' : List ℕ → Option ℕ) (ds : List DomainDef) (i : ℕ) (d : DomainDef) (name : List ℕ) → slice_get ds i ≡ Some d → name ≡ d.domain.name → IsLook look (names_of (take i ds)) → IsPut look name 0 look' → IsLook look' (names_of (take (i + 1) ds))
look_turn look look' ds i d name at same h put =
    subst (IsLook look') (ap (λ n. names_of (take i ds) ++ n ∷ []) same ∙ sym (map-push (λ (d : DomainDef). d.domain.name) (take i ds) d) ∙ ap names_of (sym (take-push ds i d at))) (has_put look look' (names_of (take i ds)) name h put)

-- a clock more
pub clocks_turn : (has has' : ℕ → Bool) (ds : List DomainDef) (i : ℕ) (d : DomainDef) → slice_get ds i ≡ Some d → HasAll has (clocks_of (take i ds)) → ((k : ℕ) → has' k ≡ (has k || (d.domain.clk.0 == k))) → HasAll has' (clocks_of (take (i + 1) ds))
clocks_turn has has' ds i d at h put k =
    put k
    ∙ ap (λ b. b || (d.domain.clk.0 == k)) (h k)
    ∙ sym (ap (λ xs. is_among (clocks_of xs) k) (take-push ds i d at) ∙ ap (λ xs. is_among xs k) (map-push (λ (x : DomainDef). x.domain.clk.0) (take i ds) d) ∙ any-append (λ x. x == k) (clocks_of (take i ds)) (d.domain.clk.0 ∷ [])
    ∙ ap (λ b. is_among (clocks_of (take i ds)) k || b) (or_false (d.domain.clk.0 == k)))

-- ---- where none clashes, another name comes with another clock

abbrev pub HasOwnClock : DomainDef → DomainDef → Type 0
HasOwnClock d e = text_eq d.domain.name e.domain.name ≡ false → (d.domain.clk.0 == e.domain.clk.0) ≡ false

abbrev pub HaveOwnClocks : List DomainDef → Type 0
HaveOwnClocks ds = AllByRecursion (λ (d : DomainDef). AllByRecursion (HasOwnClock d) ds) ds

flipped : (a b : ℕ) → (a == b) ≡ false → (b == a) ≡ false
flipped a b h = grind (arith, nat_tests)

one_more : (ds : List DomainDef) (d : DomainDef) → HaveOwnClocks ds → list_any (clashes d) ds ≡ false → HaveOwnClocks (ds ++ d ∷ [])
one_more ds d h free =
    all_joined (λ (x : DomainDef). AllByRecursion (HasOwnClock x) (ds ++ d ∷ [])) ds (d ∷ [])
    (all_both (λ (x : DomainDef) own k. all_joined (HasOwnClock x) ds (d ∷ []) own ((λ differ. clocks x k), tt)) ds h each)
    (all_joined (HasOwnClock d) ds (d ∷ []) (all_imp other ds each) ((λ differ. absurd (false≢true (sym differ ∙ text_eq_same d.domain.name))), tt), tt)
  where
    each : AllByRecursion (λ (x : DomainDef). clashes d x ≡ false) ds
    each = none_any (clashes d) ds free

    clocks : (x : DomainDef) → clashes d x ≡ false → (x.domain.clk.0 == d.domain.clk.0) ≡ false
    clocks x k = (or_none (text_eq d.domain.name x.domain.name) (x.domain.clk.0 == d.domain.clk.0) k).1

    other : (x : DomainDef) → clashes d x ≡ false → HasOwnClock d x
    other x k differ = flipped x.domain.clk.0 d.domain.clk.0 (clocks x k)

told_none : (b : Bool) (d : DomainDef) (o : Option ResolveStop) → first_of (clash b d) o ≡ None → (b ≡ false) × (o ≡ None)
told_none true d o e = cc
told_none false d o e = (refl, e)

own_after : (before ds : List DomainDef) → HaveOwnClocks before → clash_after before ds ≡ None → HaveOwnClocks (before ++ ds)
own_after before [] h free = subst HaveOwnClocks (sym (append-nil before)) h
own_after before (d ∷ ds) h free =
    let parts = told_none (list_any (clashes d) before) d (clash_after (before ++ d ∷ []) ds) free in
    subst HaveOwnClocks (append_assoc before (d ∷ []) ds) (own_after (before ++ d ∷ []) ds (one_more before d h parts.0) parts.1)

pub own_clocks : (ds : List DomainDef) → clash_after [] ds ≡ None → HaveOwnClocks ds
own_clocks ds free = own_after [] ds tt free

pub none_looked : (look : List ℕ → Option ℕ) → ((q : List ℕ) → is_some (look q) ≡ false) → IsLook look []
none_looked look h = h
