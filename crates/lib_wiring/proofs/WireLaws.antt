-- The laws of links.
use Rattle.std.proofs.Common.{◌≡◌, ◌⊎◌, inl, inr, ℕ, Bool, true, false, not, cond, List, [], ◌∷◌, Option, Some, None, refl, sym, ap, ◌∙◌, subst}
use Rattle.std.specs.Prelude.{◌==◌, ◌&&◌, ◌||◌, filter, Contains, option_and_then, slice_get}
use Rattle.std.specs.List.{filter_map, cons_option, AllZip}
use Rattle.std.specs.Ordering.{int_eq}
use Rattle.std.proofs.lemmas.Bool.{false≢true}
use Rattle.std.proofs.lemmas.Cmp.{nat_eq_equiv, int_eq_equiv}
use Rattle.lists.specs.Texts.{text_eq}
use Rattle.lists.proofs.TextLaws.{text_eq_true, text_eq_same}
use Rattle.design_ir.specs.declared.signal.Sig.{Sig}
use Rattle.design_ir.specs.declared.ids.ExprId.{ExprId}
use Rattle.design_ir.proofs.Elements.{filter_has, filter_of, any_of}
use Rattle.lib_wiring.specs.declared.leaf.Leaf.{Leaf}
use Rattle.lib_wiring.specs.declared.leaf.Link.{Link}
use Rattle.lib_wiring.specs.Wiring.{is_at, has_path, are_apart, first_leaves, leaf_at, same_signal, agree, may_meet, meets, have_paths, all_meet, is_connectable, link_between, link_to, links}
use Rattle.lib_wiring.specs.Laws.{Fit, Leads, IsLinked, IsTurned, link_across, across, ConnectableIsFitting, FittingIsTheSame, LinksLeadIn, LinksAreTheSame, TurnedAreLinked}
use Rattle.lib_wiring.proofs.PlaceLaws.{text_eq_flipped, bool_same}
use Rattle.lib_wiring.proofs.LeafLaws.{all_at, all_from, path_of, leaf_there, path_there, path_among, counts_at, counting}

-- ---- what is connectable

and_split : (a b : Bool) → (a && b) ≡ true → (a ≡ true) × (b ≡ true)
and_split true b e = (refl, e)
and_split false b e = absurd (false≢true e)

met_leaf : (sigs : List Sig) (l : Leaf) (o : Option Leaf) → meets sigs l o ≡ true → (m : Leaf) × (o ≡ Some m) × (may_meet sigs l m ≡ true)
met_leaf sigs l None e = absurd (false≢true e)
met_leaf sigs l (Some m) e = (m, refl, e)

fits : (sigs : List Sig) (first second : List Leaf) → is_connectable sigs first second ≡ true → Fit sigs first second
fits sigs first second e = record {
  paths = λ path. bool_same (has_path path first) (has_path path second) (forth path) (back path);
  meet = λ path l m at_first at_second.
      let r = meeting path l at_first in
      let same : r.0 ≡ m = cc (r.1, at_second) in
      subst (λ x. may_meet sigs l x ≡ true) same r.2;
}
  where
    both : (have_paths first second ≡ true) × (all_meet sigs (first_leaves first) second ≡ true)
    both = and_split (have_paths first second) (all_meet sigs (first_leaves first) second) e

    meeting : (path : List ℕ) (l : Leaf) → leaf_at path first ≡ Some l → (m : Leaf) × (leaf_at path second ≡ Some m) × (may_meet sigs l m ≡ true)
    meeting path l at_first =
        let r = met_leaf sigs l (leaf_at l.path second) (all_at (λ l. meets sigs l (leaf_at l.path second)) (first_leaves first) both.1 l (counting path first l at_first)) in
        (r.0, ap (λ q. leaf_at q second) (sym (path_of path first l at_first)) ∙ r.1, r.2)

    forth : (path : List ℕ) → has_path path first ≡ true → has_path path second ≡ true
    forth path there = let l = leaf_there path first there in let r = meeting path l.0 l.1 in path_there path second r.0 r.1

    back : (path : List ℕ) → has_path path second ≡ true → has_path path first ≡ true
    back path there =
        let r = any_of (is_at path) second there in
        subst (λ q. has_path q first ≡ true) (text_eq_true r.0.path path r.2) (all_at (λ m. has_path m.path first) second both.0 r.0 r.1)

fitting : (sigs : List Sig) (first second : List Leaf) → Fit sigs first second → is_connectable sigs first second ≡ true
fitting sigs first second h =
    ap (λ b. b && all_meet sigs (first_leaves first) second) (all_from (λ m. has_path m.path first) second (λ m c. h.paths m.path ∙ path_among second m c))
    ∙ all_from (λ l. meets sigs l (leaf_at l.path second)) (first_leaves first) each
  where
    each : (l : Leaf) → Contains (first_leaves first) l → meets sigs l (leaf_at l.path second) ≡ true
    each l c =
        let here = counts_at first l c in
        let r = leaf_there l.path second (sym (h.paths l.path) ∙ path_there l.path first l here) in
        ap (meets sigs l) r.1 ∙ h.meet l.path l r.0 here r.1

pub connectable_is_fitting : ConnectableIsFitting
connectable_is_fitting sigs first second = (fits sigs first second, fitting sigs first second)

-- ---- the same from both sides

same_signal-flipped : (x y : Option Sig) → same_signal x y ≡ true → same_signal y x ≡ true
same_signal-flipped None y e = absurd (false≢true e)
same_signal-flipped (Some x) None e = absurd (false≢true e)
same_signal-flipped (Some x) (Some y) e =
    ap (λ b. b && int_eq y.init x.init) (nat_eq_equiv.symm y.shape.width x.shape.width) ∙ ap (λ b. (x.shape.width == y.shape.width) && b) (int_eq_equiv.symm y.init x.init) ∙ e

and_flipped : (a b : Bool) → not (a && b) ≡ true → not (b && a) ≡ true
and_flipped true true e = e
and_flipped true false e = refl
and_flipped false true e = refl
and_flipped false false e = refl

may_meet-flipped : (sigs : List Sig) (l m : Leaf) → may_meet sigs l m ≡ true → may_meet sigs m l ≡ true
may_meet-flipped sigs l m e =
    let r = and_split (agree sigs l.sig.0 m.sig.0) (not (l.is_out && m.is_out)) e in
    ap (λ b. b && not (m.is_out && l.is_out)) (same_signal-flipped (slice_get sigs l.sig.0) (slice_get sigs m.sig.0) r.0) ∙ and_flipped l.is_out m.is_out r.1

fit_flipped : (sigs : List Sig) (first second : List Leaf) → Fit sigs first second → Fit sigs second first
fit_flipped sigs first second h = record {
  paths = λ path. sym (h.paths path);
  meet = λ path l m at_first at_second. may_meet-flipped sigs m l (h.meet path m l at_second at_first);
}

pub fitting_is_the_same : FittingIsTheSame
fitting_is_the_same sigs first second =
    bool_same (is_connectable sigs first second) (is_connectable sigs second first) (λ e. fitting sigs second first (fit_flipped sigs first second (fits sigs first second e))) (λ e. fitting sigs first second (fit_flipped sigs second first (fits sigs second first e)))

-- ---- links

between_leads : (l m : Leaf) (link : Link) → link_between l m ≡ Some link → Leads l m link ⊎ Leads m l link
between_leads l m link e = by_ways l.is_out m.is_out refl refl e
  where
    by_ways : (a b : Bool) → l.is_out ≡ a → m.is_out ≡ b → cond a (cond b None (Some record { target = m.expr; source = l.expr })) (cond b (Some record { target = l.expr; source = m.expr }) None) ≡ Some link → Leads l m link ⊎ Leads m l link
    by_ways true true p q h = cc
    by_ways true false p q h = let same : record { target = m.expr; source = l.expr } ≡ link = cc in inr record { in_leaf = q; out_leaf = p; driven = ap (λ k. k.target) (sym same); drives = ap (λ k. k.source) (sym same) }
    by_ways false true p q h = let same : record { target = l.expr; source = m.expr } ≡ link = cc in inl record { in_leaf = p; out_leaf = q; driven = ap (λ k. k.target) (sym same); drives = ap (λ k. k.source) (sym same) }
    by_ways false false p q h = cc

whole : (t s : ExprId) (link : Link) → t ≡ link.target → s ≡ link.source → Some record { target = t; source = s } ≡ Some link
whole t s link p q = ap (λ x. Some record { target = x; source = s }) p ∙ ap (λ x. Some record { target = link.target; source = x }) q

leads_between : (l m : Leaf) (link : Link) → Leads l m link ⊎ Leads m l link → link_between l m ≡ Some link
leads_between l m link (inl h) =
    ap (λ b. cond b (cond m.is_out None (Some record { target = m.expr; source = l.expr })) (cond m.is_out (Some record { target = l.expr; source = m.expr }) None)) h.in_leaf
    ∙ ap (λ b. cond b (Some record { target = l.expr; source = m.expr }) None) h.out_leaf ∙ whole l.expr m.expr link (sym h.driven) (sym h.drives)
leads_between l m link (inr h) =
    ap (λ b. cond b (cond m.is_out None (Some record { target = m.expr; source = l.expr })) (cond m.is_out (Some record { target = l.expr; source = m.expr }) None)) h.out_leaf
    ∙ ap (λ b. cond b None (Some record { target = m.expr; source = l.expr })) h.in_leaf ∙ whole m.expr l.expr link (sym h.driven) (sym h.drives)

linked_of : (first second : List Leaf) (link : Link) → Contains (links first second) link → IsLinked first second link
linked_of first second link c = let r = filter_of (link_to second) (first_leaves first) link c in by_other r.0 (leaf_at r.0.path second) refl (counts_at first r.0 r.1) r.2
  where
    by_other : (l : Leaf) (o : Option Leaf) → leaf_at l.path second ≡ o → leaf_at l.path first ≡ Some l → option_and_then (link_between l) o ≡ Some link → IsLinked first second link
    by_other l None there here e = cc
    by_other l (Some m) there here e = record { path = l.path; one = l; other = m; of_first = here; of_second = there; leads = between_leads l m link e }

linked_has : (first second : List Leaf) (link : Link) → IsLinked first second link → Contains (links first second) link
linked_has first second link h =
    filter_has (link_to second) (first_leaves first) h.one link (counting h.path first h.one h.of_first)
    (ap (λ q. option_and_then (link_between h.one) (leaf_at q second)) (path_of h.path first h.one h.of_first) ∙ ap (option_and_then (link_between h.one)) h.of_second ∙ leads_between h.one h.other link h.leads)

pub links_lead_in : LinksLeadIn
links_lead_in first second link = (linked_of first second link, linked_has first second link)

swapped : (l m : Leaf) (link : Link) → Leads l m link ⊎ Leads m l link → Leads m l link ⊎ Leads l m link
swapped l m link (inl h) = inr h
swapped l m link (inr h) = inl h

pub links_are_the_same : LinksAreTheSame
links_are_the_same first second link c =
    let h = linked_of first second link c in
    linked_has second first link record { path = h.path; one = h.other; other = h.one; of_first = h.of_second; of_second = h.of_first; leads = swapped h.one h.other link h.leads }

-- ---- turned

abbrev ArePathsApart : List Leaf → Type 0
ArePathsApart [] = Unit {0}
ArePathsApart (l ∷ ls) = (has_path l.path ls ≡ false) × ArePathsApart ls

not_false : (b : Bool) → not b ≡ true → b ≡ false
not_false true e = absurd (false≢true e)
not_false false e = refl

paths_apart : (ls : List Leaf) → are_apart ls ≡ true → ArePathsApart ls
paths_apart [] e = tt
paths_apart (l ∷ ls) e = let r = and_split (not (has_path l.path ls)) (are_apart ls) e in (not_false (has_path l.path ls) r.0, paths_apart ls r.1)

-- a leaf that is past for all of these changes nothing
past : (m : Leaf) (ls ms more : List Leaf) → has_path m.path ls ≡ false → AllZip (λ l k. leaf_at l.path more ≡ Some k) ls ms → AllZip (λ l k. leaf_at l.path (m ∷ more) ≡ Some k) ls ms
past m [] [] more e h = tt
past m [] (k ∷ ms) more e h = h
past m (l ∷ ls) [] more e h = h
past m (l ∷ ls) (k ∷ ms) more e h =
    let r = or_split (is_at m.path l) (has_path m.path ls) e in
    (ap (λ b. cond b (Some m) (leaf_at l.path more)) (text_eq_flipped m.path l.path ∙ r.0) ∙ h.0, past m ls ms more r.1 h.1)
  where
    or_split : (a b : Bool) → (a || b) ≡ false → (a ≡ false) × (b ≡ false)
    or_split true b e = absurd (false≢true (sym e))
    or_split false b e = (refl, e)

pairs : (sigs : List Sig) (ls ms : List Leaf) → AllZip (IsTurned sigs) ls ms → ArePathsApart ls → AllZip (λ l k. leaf_at l.path ms ≡ Some k) ls ms
pairs sigs [] [] h a = tt
pairs sigs [] (m ∷ ms) h a = h
pairs sigs (l ∷ ls) [] h a = h
pairs sigs (l ∷ ls) (m ∷ ms) h a =
    (ap (λ q. cond (text_eq q l.path) (Some m) (leaf_at l.path ms)) h.0.path ∙ ap (λ b. cond b (Some m) (leaf_at l.path ms)) (text_eq_same l.path), past m ls ms ms (ap (λ q. has_path q ls) h.0.path ∙ a.0) (pairs sigs ls ms h.1 a.1))

all_count : (ls : List Leaf) → ArePathsApart ls → first_leaves ls ≡ ls
all_count [] a = refl
all_count (l ∷ ls) a = ap (λ ms. l ∷ filter (λ m. not (is_at l.path m)) ms) (all_count ls a.1) ∙ ap (λ ms. l ∷ ms) (all_kept ls a.0)
  where
    all_kept : (ms : List Leaf) → has_path l.path ms ≡ false → filter (λ m. not (is_at l.path m)) ms ≡ ms
    all_kept [] e = refl
    all_kept (m ∷ ms) e = by_test (is_at l.path m) e (all_kept ms)
      where
        by_test : (b : Bool) → (b || has_path l.path ms) ≡ false → (has_path l.path ms ≡ false → filter (λ k. not (is_at l.path k)) ms ≡ ms) → cond (not b) (m ∷ filter (λ k. not (is_at l.path k)) ms) (filter (λ k. not (is_at l.path k)) ms) ≡ m ∷ ms
        by_test true h later = absurd (false≢true (sym h))
        by_test false h later = ap (λ ns. m ∷ ns) (later h)

turned_link : (sigs : List Sig) (l m : Leaf) → IsTurned sigs l m → link_between l m ≡ Some (link_across l m)
turned_link sigs l m h = ap (λ b. cond l.is_out (cond b None (Some out)) (cond b (Some into) None)) h.turned ∙ by_way l.is_out
  where
    out : Link
    out = record { target = m.expr; source = l.expr }

    into : Link
    into = record { target = l.expr; source = m.expr }

    by_way : (a : Bool) → cond a (cond (not a) None (Some out)) (cond (not a) (Some into) None) ≡ Some (cond a out into)
    by_way true = refl
    by_way false = refl

turned_meet : (sigs : List Sig) (l m : Leaf) → IsTurned sigs l m → may_meet sigs l m ≡ true
turned_meet sigs l m h = ap (λ b. b && not (l.is_out && m.is_out)) h.agrees ∙ ap (λ b. not (l.is_out && b)) h.turned ∙ by_way l.is_out
  where
    by_way : (a : Bool) → not (a && not a) ≡ true
    by_way true = refl
    by_way false = refl

turned_links : (sigs : List Sig) (second ls ms : List Leaf) → AllZip (IsTurned sigs) ls ms → AllZip (λ l k. leaf_at l.path second ≡ Some k) ls ms → filter_map (link_to second) ls ≡ across ls ms
turned_links sigs second [] [] h p = refl
turned_links sigs second [] (m ∷ ms) h p = absurd h
turned_links sigs second (l ∷ ls) [] h p = absurd h
turned_links sigs second (l ∷ ls) (m ∷ ms) h p =
    ap (λ o. cons_option (option_and_then (link_between l) o) (filter_map (link_to second) ls)) p.0
    ∙ ap (λ o. cons_option o (filter_map (link_to second) ls)) (turned_link sigs l m h.0)
    ∙ ap (λ ks. link_across l m ∷ ks) (turned_links sigs second ls ms h.1 p.1)

turned_all_meet : (sigs : List Sig) (second ls ms : List Leaf) → AllZip (IsTurned sigs) ls ms → AllZip (λ l k. leaf_at l.path second ≡ Some k) ls ms → all_meet sigs ls second ≡ true
turned_all_meet sigs second [] [] h p = refl
turned_all_meet sigs second [] (m ∷ ms) h p = absurd h
turned_all_meet sigs second (l ∷ ls) [] h p = absurd h
turned_all_meet sigs second (l ∷ ls) (m ∷ ms) h p =
    ap (λ o. meets sigs l o && all_meet sigs ls second) p.0 ∙ ap (λ b. b && all_meet sigs ls second) (turned_meet sigs l m h.0) ∙ turned_all_meet sigs second ls ms h.1 p.1

turned_paths : (sigs : List Sig) (ls ms : List Leaf) → AllZip (IsTurned sigs) ls ms → (path : List ℕ) → has_path path ls ≡ has_path path ms
turned_paths sigs [] [] h path = refl
turned_paths sigs [] (m ∷ ms) h path = absurd h
turned_paths sigs (l ∷ ls) [] h path = absurd h
turned_paths sigs (l ∷ ls) (m ∷ ms) h path = ap (λ q. text_eq q path || has_path path ls) (sym h.0.path) ∙ ap (λ b. is_at path m || b) (turned_paths sigs ls ms h.1 path)

pub turned_are_linked : TurnedAreLinked
turned_are_linked sigs first second h apart =
    let a = paths_apart first apart in
    let p = pairs sigs first second h a in
    let met : all_meet sigs (first_leaves first) second ≡ true = ap (λ ls. all_meet sigs ls second) (all_count first a) ∙ turned_all_meet sigs second first second h p in
    let have : have_paths first second ≡ true = all_from (λ m. has_path m.path first) second (λ m c. turned_paths sigs first second h m.path ∙ path_among second m c) in
    ap (λ b. cond (b && all_meet sigs (first_leaves first) second) (Some (links first second)) None) have
    ∙ ap (λ b. cond b (Some (links first second)) None) met
    ∙ ap Some (ap (filter_map (link_to second)) (all_count first a) ∙ turned_links sigs second first second h p)
