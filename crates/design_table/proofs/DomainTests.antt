-- Domains that are apart.
use Rattle.std.specs.Prelude.{◌≡◌, refl, ℕ, ◌==◌, ◌&&◌, nat_eq, Bool, true, false, not, List, [], ◌∷◌, map, Option, Some, None}
use Rattle.std.specs.List.{AllByRecursion, IsDistinct, list_any, filter_map}
use Rattle.std.proofs.Common.{sym, ◌∙◌}
use Rattle.std.proofs.lemmas.Bool.{false≢true, false_from_ne_true, and_parts, or_parts, eqb-true, eq-eqb}
use Rattle.lists.specs.Texts.{text_eq}
use Rattle.design_ir.specs.declared.domain.Domain.{Domain}
use Rattle.design_ir.specs.declared.ids.SigId.{SigId}
use Rattle.design_ir.specs.Designs.{reset_number}
use Rattle.design_table.specs.Tests.{is_reset_by, share_reset, is_domain_apart, domains_apart}

not_true : (b : Bool) → not b ≡ true → b ≡ false
not_true true e = absurd (false≢true e)
not_true false e = refl

-- what holds of none holds of no element
none_holds : {A B : Type 0} (test : A → B → Bool) (a : A) (f : Domain → B) (xs : List Domain) → list_any (λ (y : Domain). test a (f y)) xs ≡ false → AllByRecursion (λ b. test a b ≡ false) (map f xs)
none_holds test a f [] e = tt
none_holds test a f (x ∷ xs) e = let r = or_parts (test a (f x)) (list_any (λ (y : Domain). test a (f y)) xs) e in (r.0, none_holds test a f xs r.1)

swapped : (a b : ℕ) → (a == b) ≡ false → (b == a) ≡ false
swapped a b e = false_from_ne_true (b == a) (λ t. false≢true (sym e ∙ eq-eqb a b (sym (eqb-true b a t))))

none_reset : (s : ℕ) (xs : List Domain) → list_any (is_reset_by s) xs ≡ false → AllByRecursion (λ y. nat_eq s y ≡ false) (filter_map reset_number xs)
none_reset s [] e = tt
none_reset s (x ∷ xs) e = let r = or_parts (is_reset_by s x) (list_any (is_reset_by s) xs) e in one x.rst refl r.0 (none_reset s xs r.1)
  where
    one : (o : Option SigId) → x.rst ≡ o → is_reset_by s x ≡ false → AllByRecursion (λ y. nat_eq s y ≡ false) (filter_map reset_number xs) → AllByRecursion (λ y. nat_eq s y ≡ false) (filter_map reset_number (x ∷ xs))
    one None is e rest = rw is rest
    one (Some r) is e rest = rw is (swapped r.0 s (rw is at e), rest)

pub names_apart : (xs : List Domain) → domains_apart xs ≡ true → IsDistinct text_eq (map (λ (x : Domain). x.name) xs)
unfolding IsDistinct
names_apart [] e = tt
names_apart (x ∷ xs) e =
    let r = and_parts (is_domain_apart x xs) (domains_apart xs) e in
    let names : Bool = list_any (λ (y : Domain). text_eq x.name y.name) xs in
    let clocks : Bool = list_any (λ (y : Domain). x.clk.0 == y.clk.0) xs in
    let h = and_parts (not names) (not clocks && not (share_reset x.rst xs)) r.0 in
    (none_holds text_eq x.name (λ (y : Domain). y.name) xs (not_true names h.0), names_apart xs r.1)

pub clocks_apart : (xs : List Domain) → domains_apart xs ≡ true → IsDistinct nat_eq (map (λ (x : Domain). x.clk.0) xs)
unfolding IsDistinct
clocks_apart [] e = tt
clocks_apart (x ∷ xs) e =
    let r = and_parts (is_domain_apart x xs) (domains_apart xs) e in
    let names : Bool = list_any (λ (y : Domain). text_eq x.name y.name) xs in
    let clocks : Bool = list_any (λ (y : Domain). x.clk.0 == y.clk.0) xs in
    let h = and_parts (not names) (not clocks && not (share_reset x.rst xs)) r.0 in
    let k = and_parts (not clocks) (not (share_reset x.rst xs)) h.1 in
    (none_holds nat_eq x.clk.0 (λ (y : Domain). y.clk.0) xs (not_true clocks k.0), clocks_apart xs r.1)

pub resets_apart : (xs : List Domain) → domains_apart xs ≡ true → IsDistinct nat_eq (filter_map reset_number xs)
unfolding IsDistinct
resets_apart [] e = tt
resets_apart (x ∷ xs) e =
    let r = and_parts (is_domain_apart x xs) (domains_apart xs) e in
    let names : Bool = list_any (λ (y : Domain). text_eq x.name y.name) xs in
    let clocks : Bool = list_any (λ (y : Domain). x.clk.0 == y.clk.0) xs in
    let h = and_parts (not names) (not clocks && not (share_reset x.rst xs)) r.0 in
    let k = and_parts (not clocks) (not (share_reset x.rst xs)) h.1 in
    one x.rst refl (not_true (share_reset x.rst xs) k.1) (resets_apart xs r.1)
  where
    one : (o : Option SigId) → x.rst ≡ o → share_reset x.rst xs ≡ false → IsDistinct nat_eq (filter_map reset_number xs) → IsDistinct nat_eq (filter_map reset_number (x ∷ xs))
    one None is e rest = rw is rest
    one (Some s) is e rest = rw is (none_reset s.0 xs (rw is at e), rest)
