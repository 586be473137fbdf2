-- Domains of which no two have a signal in common.
use Rattle.std.proofs.Common.{◌≡◌, ◌⊎◌, inl, inr, ℕ, ◌==◌, nat_eq, Bool, true, false, ◌&&◌, ◌||◌, if◌then◌else◌, List, [], ◌∷◌, ◌++◌, map, Option, Some, None, refl, sym, ap, ◌∙◌, subst}
use Rattle.std.specs.List.{AllByRecursion, IsDistinct, list_any, filter_map, flat_map}
use Rattle.std.specs.Option.{option_map_or}
use Rattle.std.proofs.lemmas.Bool.{eq-eqb}
use Rattle.design_ir.specs.declared.ids.SigId.{SigId}
use Rattle.design_ir.specs.declared.domain.Domain.{Domain}
use Rattle.design_ir.specs.declared.port.Port.{Port}
use Rattle.design_ir.specs.Pools.{Pooled}
use Rattle.design_ir.specs.Circuits.{is_among, option_test}
use Rattle.design_ir.specs.Designs.{reset_number, share}
use Rattle.fragment_walks.proofs.Lists.{all_imp, all_joined, all_mapped, all_unmapped, any-append, any_none, map-append, none_any, or_none}
use Rattle.clock_domains.specs.Resolvable.{IsDomainOf, IsResetOf, domain_numbers}
use Rattle.clock_domains.specs.Resolved.{domain_inputs, port_of, reset_port, ports_of_domain, domain_ports, signals_of}
use Rattle.clock_domains.proofs.DesignSound.{distinct_joined, not_flipped, share_flipped}

abbrev pub Apart : Domain → Domain → Type 0
Apart d e = share (domain_numbers d) (domain_numbers e) ≡ false

-- ---- each with each

pub pairs : (ds : List Domain) → IsDistinct share (map domain_numbers ds) → AllByRecursion (λ (d : Domain). AllByRecursion (λ (e : Domain). (d ≡ e) ⊎ Apart d e) ds) ds
unfolding IsDistinct
pairs [] h = tt
pairs (d ∷ ds) h =
    let first : AllByRecursion (Apart d) ds = all_unmapped (λ ys. share (domain_numbers d) ys ≡ false) domain_numbers ds h.0 in (
      ((inl refl), all_imp (λ (e : Domain) a. inr a) ds first),
      both ds first (pairs ds h.1),
    )
  where
    both : (xs : List Domain) → AllByRecursion (Apart d) xs → AllByRecursion (λ (x : Domain). AllByRecursion (λ (e : Domain). (x ≡ e) ⊎ Apart x e) ds) xs → AllByRecursion (λ (x : Domain). AllByRecursion (λ (e : Domain). (x ≡ e) ⊎ Apart x e) (d ∷ ds)) xs
    both [] a b = tt
    both (x ∷ xs) a b = ((inr (share_flipped (domain_numbers d) (domain_numbers x) a.0), b.0), both xs a.1 b.1)

-- ---- clocks

-- the numbers of the one are not among those of the other
others : (d e : Domain) → Apart d e → AllByRecursion (λ s. is_among (domain_numbers d) s ≡ false) (domain_numbers e)
others d e a = none_any (is_among (domain_numbers d)) (domain_numbers e) (share_flipped (domain_numbers d) (domain_numbers e) a)

clocks_apart : (d e : Domain) → Apart d e → nat_eq d.clk.0 e.clk.0 ≡ false
clocks_apart d e a = (or_none (d.clk.0 == e.clk.0) (is_among (option_map_or (λ (s : SigId). s.0 ∷ []) d.rst []) e.clk.0) (others d e a).0).0

pub clocks_distinct : (ds : List Domain) → IsDistinct share (map domain_numbers ds) → IsDistinct nat_eq (map (λ (d : Domain). d.clk.0) ds)
unfolding IsDistinct
clocks_distinct [] h = tt
clocks_distinct (d ∷ ds) h = (
  all_mapped (λ y. nat_eq d.clk.0 y ≡ false) (λ (d : Domain). d.clk.0) ds (all_imp (λ (e : Domain) a. clocks_apart d e a) ds (all_unmapped (λ ys. share (domain_numbers d) ys ≡ false) domain_numbers ds h.0)),
  clocks_distinct ds h.1,
)

-- ---- resets

-- the numbers of resets, where there are any
reset_numbers : Option SigId → List ℕ
reset_numbers o = option_map_or (λ (s : SigId). s.0 ∷ []) o []

resets_apart : (d e : Domain) (s t : SigId) → d.rst ≡ Some s → e.rst ≡ Some t → Apart d e → nat_eq s.0 t.0 ≡ false
resets_apart d e s t f g a = by (subst (λ o. AllByRecursion (λ k. is_among (d.clk.0 ∷ option_map_or (λ (s : SigId). s.0 ∷ []) o []) k ≡ false) (domain_numbers e)) f (others d e a))
  where
    by : AllByRecursion (λ k. is_among (d.clk.0 ∷ s.0 ∷ []) k ≡ false) (domain_numbers e) → nat_eq s.0 t.0 ≡ false
    by all =
        let at = subst (λ o. AllByRecursion (λ k. is_among (d.clk.0 ∷ s.0 ∷ []) k ≡ false) (e.clk.0 ∷ option_map_or (λ (s : SigId). s.0 ∷ []) o [])) g all in
        (or_none (s.0 == t.0) false (or_none (d.clk.0 == t.0) ((s.0 == t.0) || false) at.1.0).1).0

pub resets_distinct : (ds : List Domain) → IsDistinct share (map domain_numbers ds) → IsDistinct nat_eq (filter_map reset_number ds)
unfolding IsDistinct
resets_distinct [] h = tt
resets_distinct (d ∷ ds) h = by d.rst refl (resets_distinct ds h.1)
  where
    apart : AllByRecursion (Apart d) ds
    apart = all_unmapped (λ ys. share (domain_numbers d) ys ≡ false) domain_numbers ds h.0

    past : (s : SigId) → d.rst ≡ Some s → (xs : List Domain) → AllByRecursion (Apart d) xs → AllByRecursion (λ y. nat_eq s.0 y ≡ false) (filter_map reset_number xs)
    past s e [] a = tt
    past s e (x ∷ xs) a = one x.rst refl (past s e xs a.1)
      where
        one : (o : Option SigId) → x.rst ≡ o → AllByRecursion (λ y. nat_eq s.0 y ≡ false) (filter_map reset_number xs) → AllByRecursion (λ y. nat_eq s.0 y ≡ false) (filter_map reset_number (x ∷ xs))
        one None f rest = subst (λ (o : Option SigId). AllByRecursion (λ y. nat_eq s.0 y ≡ false) (filter_map reset_number (record x { rst = o } ∷ xs))) (sym f) rest
        one (Some t) f rest = subst (λ (o : Option SigId). AllByRecursion (λ y. nat_eq s.0 y ≡ false) (filter_map reset_number (record x { rst = o } ∷ xs))) (sym f) (resets_apart d x s t e f a.0, rest)

    by : (o : Option SigId) → d.rst ≡ o → IsDistinct nat_eq (filter_map reset_number ds) → IsDistinct nat_eq (filter_map reset_number (d ∷ ds))
    by None e rest = subst (λ (o : Option SigId). IsDistinct nat_eq (filter_map reset_number (record d { rst = o } ∷ ds))) (sym e) rest
    by (Some s) e rest = subst (λ (o : Option SigId). IsDistinct nat_eq (filter_map reset_number (record d { rst = o } ∷ ds))) (sym e) (past s e ds apart, rest)

-- no clock is a reset
pub clock_no_reset : (q : Pooled) (ds : List Domain) (d : Domain) → AllByRecursion (IsDomainOf q) ds → AllByRecursion (λ (e : Domain). (d ≡ e) ⊎ Apart d e) ds → list_any (λ (x : Domain). option_test (λ (s : SigId). s.0 == d.clk.0) x.rst) ds ≡ false
clock_no_reset q ds d all apart = any_none (λ (x : Domain). option_test (λ (s : SigId). s.0 == d.clk.0) x.rst) ds (each ds all apart)
  where
    own : (clk : SigId) (o : Option SigId) → IsResetOf q clk o → option_test (λ (s : SigId). s.0 == clk.0) o ≡ false
    own clk None h = refl
    own clk (Some s) h = not_flipped clk.0 s.0 h.1

    other : (o : Option SigId) (clk : ℕ) → AllByRecursion (λ k. is_among (domain_numbers d) k ≡ false) (clk ∷ option_map_or (λ (s : SigId). s.0 ∷ []) o []) → option_test (λ (s : SigId). s.0 == d.clk.0) o ≡ false
    other None clk h = refl
    other (Some s) clk h = not_flipped d.clk.0 s.0 (or_none (d.clk.0 == s.0) _ h.1.0).0

    one : (x : Domain) → IsDomainOf q x → (d ≡ x) ⊎ Apart d x → option_test (λ (s : SigId). s.0 == d.clk.0) x.rst ≡ false
    one x h (inl same) = subst (λ (y : Domain). option_test (λ (s : SigId). s.0 == y.clk.0) x.rst ≡ false) (sym same) (own x.clk x.rst h.reset)
    one x h (inr a) = other x.rst x.clk.0 (others d x a)

    each : (xs : List Domain) → AllByRecursion (IsDomainOf q) xs → AllByRecursion (λ (e : Domain). (d ≡ e) ⊎ Apart d e) xs → AllByRecursion (λ (x : Domain). option_test (λ (s : SigId). s.0 == d.clk.0) x.rst ≡ false) xs
    each [] h a = tt
    each (x ∷ xs) h a = (one x h.0 a.0, each xs h.1 a.1)

-- ---- the ports of domains

-- what holds of the numbers of a domain holds of its ports
pub ports_all : (P : ℕ → Type 0) (q : Pooled) (ds : List Domain) (driven : ℕ → Bool) (d : Domain) → AllByRecursion P (domain_numbers d) → AllByRecursion (λ (p : Port). P p.sig.0) (ports_of_domain q ds driven d)
ports_all P q ds driven d h = (h.0, resets d.rst h.1)
  where
    resets : (o : Option SigId) → AllByRecursion P (option_map_or (λ (s : SigId). s.0 ∷ []) o []) → AllByRecursion (λ (p : Port). P p.sig.0) (option_map_or (reset_port q ds driven) o [])
    resets None h = tt
    resets (Some s) h = split (driven s.0)
      where
        split : (b : Bool) → AllByRecursion (λ (p : Port). P p.sig.0) (if b then [] else port_of q ds true s.0 ∷ [])
        split true = tt
        split false = (h.0, tt)

-- of some of all domains
some_ports : (P : ℕ → Type 0) (q : Pooled) (ds : List Domain) (driven : ℕ → Bool) (some : List Domain) → AllByRecursion (λ (d : Domain). AllByRecursion P (domain_numbers d)) some → AllByRecursion (λ (p : Port). P p.sig.0) (flat_map (ports_of_domain q ds driven) some)
some_ports P q ds driven [] h = tt
some_ports P q ds driven (d ∷ some) h =
    all_joined (λ (p : Port). P p.sig.0) (ports_of_domain q ds driven d) (flat_map (ports_of_domain q ds driven) some) (ports_all P q ds driven d h.0) (some_ports P q ds driven some h.1)

pub all_ports : (P : ℕ → Type 0) (q : Pooled) (driven : ℕ → Bool) (ds : List Domain) → AllByRecursion (λ (d : Domain). AllByRecursion P (domain_numbers d)) ds → AllByRecursion (λ (p : Port). P p.sig.0) (domain_ports q driven ds)
all_ports P q driven ds = some_ports P q ds driven ds

-- a number that is none of a domain's is none of its ports'
ports_none : (q : Pooled) (ds : List Domain) (driven : ℕ → Bool) (d : Domain) (s : ℕ) → is_among (domain_numbers d) s ≡ false → is_among (signals_of (ports_of_domain q ds driven d)) s ≡ false
ports_none q ds driven d s h =
    any_none (λ x. x == s) (signals_of (ports_of_domain q ds driven d))
    (all_mapped (λ x. (x == s) ≡ false) (λ (p : Port). p.sig.0) (ports_of_domain q ds driven d) (ports_all (λ x. (x == s) ≡ false) q ds driven d (none_any (λ x. x == s) (domain_numbers d) h)))

one_distinct : (q : Pooled) (ds : List Domain) (driven : ℕ → Bool) (d : Domain) → IsDomainOf q d → IsDistinct nat_eq (signals_of (ports_of_domain q ds driven d))
unfolding IsDistinct
one_distinct q ds driven d h = by d.rst h.reset
  where
    by : (o : Option SigId) → IsResetOf q d.clk o → IsDistinct nat_eq (signals_of (port_of q ds true d.clk.0 ∷ option_map_or (reset_port q ds driven) o []))
    by None k = (tt, tt)
    by (Some s) k = split (driven s.0)
      where
        split : (b : Bool) → IsDistinct nat_eq (signals_of (port_of q ds true d.clk.0 ∷ (if b then [] else port_of q ds true s.0 ∷ [])))
        split true = (tt, tt)
        split false = ((k.1, tt), (tt, tt))

some_distinct : (q : Pooled) (ds : List Domain) (driven : ℕ → Bool) (some : List Domain) → AllByRecursion (IsDomainOf q) some → IsDistinct share (map domain_numbers some) → IsDistinct nat_eq (signals_of (flat_map (ports_of_domain q ds driven) some))
unfolding IsDistinct
some_distinct q ds driven [] h k = tt
some_distinct q ds driven (d ∷ some) h k =
    let here = ports_of_domain q ds driven d in
    let rest = flat_map (ports_of_domain q ds driven) some in
    let apart : AllByRecursion (Apart d) some = all_unmapped (λ ys. share (domain_numbers d) ys ≡ false) domain_numbers some k.0 in
    subst (IsDistinct nat_eq) (sym (map-append (λ (p : Port). p.sig.0) here rest))
    (distinct_joined (signals_of here) (signals_of rest) (one_distinct q ds driven d h.0) (some_distinct q ds driven some h.1 k.1)
    (all_mapped (λ y. is_among (signals_of here) y ≡ false) (λ (p : Port). p.sig.0) rest
    (some_ports (λ y. is_among (signals_of here) y ≡ false) q ds driven some
    (all_imp (λ (e : Domain) a. all_imp (λ s n. ports_none q ds driven d s n) (domain_numbers e) (others d e a)) some apart))))

pub domain_ports_distinct : (q : Pooled) (driven : ℕ → Bool) (ds : List Domain) → AllByRecursion (IsDomainOf q) ds → IsDistinct share (map domain_numbers ds) → IsDistinct nat_eq (signals_of (domain_ports q driven ds))
domain_ports_distinct q driven ds = some_distinct q ds driven ds

-- ---- the inputs of domains

abbrev pub IsInputAmong : List Port → ℕ → Type 0
IsInputAmong ports s = list_any (λ (p : Port). p.is_input && (p.sig.0 == s)) ports ≡ true

or_true : (a b : Bool) → b ≡ true → (a || b) ≡ true
or_true true b e = refl
or_true false b e = e

input_left : (xs ys : List Port) (s : ℕ) → IsInputAmong xs s → IsInputAmong (xs ++ ys) s
input_left xs ys s h = any-append (λ (p : Port). p.is_input && (p.sig.0 == s)) xs ys ∙ ap (λ b. b || list_any (λ (p : Port). p.is_input && (p.sig.0 == s)) ys) h

input_right : (xs ys : List Port) (s : ℕ) → IsInputAmong ys s → IsInputAmong (xs ++ ys) s
input_right xs ys s h = any-append (λ (p : Port). p.is_input && (p.sig.0 == s)) xs ys ∙ or_true (list_any (λ (p : Port). p.is_input && (p.sig.0 == s)) xs) _ h

-- a clock is a port, and so is a reset that acts at once where nothing drives it
one_input : (q : Pooled) (ds : List Domain) (driven : ℕ → Bool) (d : Domain) → AllByRecursion (λ s. driven s ≡ false) (domain_inputs d) → AllByRecursion (IsInputAmong (ports_of_domain q ds driven d)) (domain_inputs d)
one_input q ds driven d h = (
  ap (λ b. b || list_any (λ (p : Port). p.is_input && (p.sig.0 == d.clk.0)) (option_map_or (reset_port q ds driven) d.rst [])) (eq-eqb d.clk.0 d.clk.0 refl),
  at_once d.async_reset d.rst h.1,
)
  where
    at_once : (b : Bool) (o : Option SigId) → AllByRecursion (λ s. driven s ≡ false) (if b then option_map_or (λ (s : SigId). s.0 ∷ []) o [] else [])
        → AllByRecursion (IsInputAmong (port_of q ds true d.clk.0 ∷ option_map_or (reset_port q ds driven) o [])) (if b then option_map_or (λ (s : SigId). s.0 ∷ []) o [] else [])
    at_once false o k = tt
    at_once true None k = tt
    at_once true (Some s) k = (
      or_true (d.clk.0 == s.0) (list_any (λ (p : Port). p.is_input && (p.sig.0 == s.0)) (reset_port q ds driven s))
          (ap (λ b. list_any (λ (p : Port). p.is_input && (p.sig.0 == s.0)) (if b then [] else port_of q ds true s.0 ∷ [])) k.0 ∙ ap (λ b. b || false) (eq-eqb s.0 s.0 refl)),
      tt,
    )

some_inputs : (q : Pooled) (ds : List Domain) (driven : ℕ → Bool) (some : List Domain) → AllByRecursion (λ (d : Domain). AllByRecursion (λ s. driven s ≡ false) (domain_inputs d)) some
    → AllByRecursion (λ (d : Domain). AllByRecursion (IsInputAmong (flat_map (ports_of_domain q ds driven) some)) (domain_inputs d)) some
some_inputs q ds driven [] h = tt
some_inputs q ds driven (d ∷ some) h =
    let own = ports_of_domain q ds driven d in
    let rest = flat_map (ports_of_domain q ds driven) some in (
      all_imp (λ s k. input_left own rest s k) (domain_inputs d) (one_input q ds driven d h.0),
      all_imp (λ (e : Domain) g. all_imp (λ s k. input_right own rest s k) (domain_inputs e) g) some (some_inputs q ds driven some h.1),
    )

pub inputs_are_ports : (q : Pooled) (driven : ℕ → Bool) (ds : List Domain) → AllByRecursion (λ (d : Domain). AllByRecursion (λ s. driven s ≡ false) (domain_inputs d)) ds
    → AllByRecursion (λ (d : Domain). AllByRecursion (IsInputAmong (domain_ports q driven ds)) (domain_inputs d)) ds
inputs_are_ports q driven ds = some_inputs q ds driven ds
