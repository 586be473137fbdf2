-- The definitions of clock domains in a tree of modules: each is a domain of the pool, and two are of one domain but for its name, or have no signal in
-- common.
use Rattle.std.proofs.Common.{◌≡◌, ◌<◌, ◌≤◌, ℕ, zero, suc, refl, sym, ap, ◌∙◌, subst, Bool, true, false, inl, inr, List, [], ◌∷◌, Option, Some, None, true≢false, is_some, nat_eq, arith}
use Rattle.std.specs.Prelude.{◌⊎◌, ◌==◌, ◌||◌, if◌then◌else◌, slice_get, option_map}
use Rattle.std.proofs.lemmas.Bool.{cases_order, eqb-true}
use Rattle.std.specs.Option.{option_map_or}
use Rattle.std.specs.List.{AllByRecursion, filter_map, cons_option}
use Rattle.design_ir.specs.declared.ids.SigId.{SigId}
use Rattle.design_ir.specs.declared.domain.Domain.{Domain}
use Rattle.design_ir.specs.declared.domain.DomainDef.{DomainDef}
use Rattle.design_ir.specs.Pools.{Pooled}
use Rattle.design_ir.specs.Circuits.{is_among}
use Rattle.design_ir.specs.Designs.{share}
use Rattle.clock_domains.specs.Resolvable.{IsDomainOf, IsDefinition, IsResetOf, AreApart, domain_numbers}
use Rattle.clock_domains.specs.Resolvable as resolvable
use Rattle.elab_store.specs.declared.domains.ClockDomain.{ClockDomain}
use Rattle.elab_store.specs.declared.domains.Definition.{Definition}
use Rattle.elab_store.specs.ClockDomains.{ClockDomains, definition_of, definition_in, defined_by}
use Rattle.elab_store.specs.Sound.{IsBit, IsResetBehind, IsClockDomain, last_signal, IsMadeBefore, AreInOrder, AreClockDomains}
use Rattle.elab_store.specs.Stores.{Stored}
use Rattle.elab_acts.proofs.EachLaws.{all_each}
use Rattle.elab_eval.specs.Elaborates.{root_domains}
use Rattle.elab_eval.specs.Standing.{IsFrom}

-- ---- where a definition comes from

-- it is of this clock domain, under its name
pub record IsOwn (made : List ClockDomain) (d : DomainDef) : Type 0 where
  pub number : ℕ
  pub x : ClockDomain
  pub at : slice_get made number ≡ Some x
  pub domain : d.domain ≡ x.domain

-- a clock domain as a definition has it
abbrev as_defined : Definition → ClockDomain → DomainDef
as_defined x y = record { domain = y.domain; place = x.place }

looked_up : (made : List ClockDomain) (k : ℕ) (o : Option ClockDomain) (x : Definition) (d : DomainDef) → slice_get made k ≡ o → option_map (as_defined x) o ≡ Some d → IsOwn made d
looked_up made k None x d at e = absurd (true≢false (sym (ap is_some e)))
looked_up made k (Some y) x d at e = let same : as_defined x y ≡ d = cc in record { number = k; x = y; at = at; domain = ap (λ (z : DomainDef). z.domain) (sym same) }

in_own : (m : ℕ) (made : List ClockDomain) (x : Definition) (d : DomainDef) → definition_in m made x ≡ Some d → IsOwn made d
in_own m made x d e = by_test (x.of == m) e
  where
    by_test : (b : Bool) → (if b then definition_of made x else None) ≡ Some d → IsOwn made d
    by_test true f = looked_up made x.clock_domain (slice_get made x.clock_domain) x d refl f
    by_test false f = absurd (true≢false (sym (ap is_some f)))

all_own : (m : ℕ) (made : List ClockDomain) (xs : List Definition) → AllByRecursion (IsOwn made) (filter_map (definition_in m made) xs)
all_own m made [] = tt
all_own m made (x ∷ xs) = by_one (definition_in m made x) (in_own m made x) (all_own m made xs)
  where
    by_one : (o : Option DomainDef) → ((d : DomainDef) → o ≡ Some d → IsOwn made d) → AllByRecursion (IsOwn made) (filter_map (definition_in m made) xs) → AllByRecursion (IsOwn made) (cons_option o (filter_map (definition_in m made) xs))
    by_one None f all = all
    by_one (Some d) f all = (f d refl, all)

-- those of the top
root_own : (s : Stored) → AllByRecursion (IsOwn s.clock_domains.made) (root_domains s)
root_own s = by_root s.top.root
  where
    by_root : (o : Option ℕ) → AllByRecursion (IsOwn s.clock_domains.made) (option_map_or (λ m. defined_by m s.clock_domains) o [])
    by_root None = tt
    by_root (Some m) = all_own m s.clock_domains.made s.clock_domains.definitions

-- ---- each is a domain of the pool

bit_there : (q : Pooled) (s : SigId) → IsBit q s → resolvable.IsBit q s
bit_there q s h = record { there = h.there; form = h.form }

apart_numbers : (a b : ℕ) (t : Bool) → nat_eq a b ≡ t → a < b → t ≡ false
apart_numbers a b false e h = refl
apart_numbers a b true e h = absurd (omega (arith, h, eqb-true a b e))

reset_there : (q : Pooled) (clk : SigId) (o : Option SigId) → IsResetBehind q clk o → IsResetOf q clk o
reset_there q clk None h = tt
reset_there q clk (Some s) h = (bit_there q s h.0, apart_numbers clk.0 s.0 (nat_eq clk.0 s.0) refl h.1)

domain_there : (q : Pooled) (x : ClockDomain) → IsClockDomain q x → IsDomainOf q x.domain
domain_there q x h = record {
  name = h.name;
  clock = bit_there q x.domain.clk h.clock;
  reset = reset_there q x.domain.clk x.domain.rst h.reset;
}

pub made_at : (P : ClockDomain → Type 0) (made : List ClockDomain) (k : ℕ) (x : ClockDomain) → AllByRecursion P made → slice_get made k ≡ Some x → P x
made_at P [] k x h e = absurd (true≢false (ap is_some (sym e)))
made_at P (y ∷ made) zero x h e = let same : y ≡ x = cc in subst P same h.0
made_at P (y ∷ made) (suc k) x h e = made_at P made k x h.1 e

own_there : (q : Pooled) (made : List ClockDomain) (d : DomainDef) → AllByRecursion (IsClockDomain q) made → IsOwn made d → IsDefinition q d
own_there q made d all h = subst (IsDomainOf q) (sym h.domain) (domain_there q h.x (made_at (IsClockDomain q) made h.number h.x all h.at))

pub definitions_stand : (q : Pooled) (t : ClockDomains) (m : ℕ) → AreClockDomains q t.made → AllByRecursion (IsDefinition q) (defined_by m t)
definitions_stand q t m h = all_each (IsOwn t.made) (IsDefinition q) (defined_by m t) (λ d own. own_there q t.made d h.each own) (all_own m t.made t.definitions)

pub root_definitions_stand : (q : Pooled) (s : Stored) → AreClockDomains q s.clock_domains.made → AllByRecursion (IsDefinition q) (root_domains s)
root_definitions_stand q s h = all_each (IsOwn s.clock_domains.made) (IsDefinition q) (root_domains s) (λ d own. own_there q s.clock_domains.made d h.each own) (root_own s)

-- ---- whatever its name

own_from : (made : List ClockDomain) (d : DomainDef) → IsOwn made d → IsFrom made d
own_from made d h = record { number = h.number; x = h.x; at = h.at; domain = ap (λ (z : Domain). record z { name = h.x.domain.name }) h.domain }

pub defined_from : (t : ClockDomains) (m : ℕ) → AllByRecursion (IsFrom t.made) (defined_by m t)
defined_from t m = all_each (IsOwn t.made) (IsFrom t.made) (defined_by m t) (own_from t.made) (all_own m t.made t.definitions)

pub root_from : (s : Stored) → AllByRecursion (IsFrom s.clock_domains.made) (root_domains s)
root_from s = all_each (IsOwn s.clock_domains.made) (IsFrom s.clock_domains.made) (root_domains s) (own_from s.clock_domains.made) (root_own s)

pub renamed_from : (made : List ClockDomain) (d : DomainDef) (name : List ℕ) → IsFrom made d → IsFrom made (record d { domain = record (d.domain) { name = name } })
renamed_from made d name h = record { number = h.number; x = h.x; at = h.at; domain = h.domain }

-- its signals are those of the clock domain
pub from_numbers : (made : List ClockDomain) (d : DomainDef) (h : IsFrom made d) → domain_numbers d.domain ≡ domain_numbers h.x.domain
from_numbers made d h = ap domain_numbers h.domain

-- ---- lists without a number in common

or_none : (a b : Bool) → a ≡ false → b ≡ false → (a || b) ≡ false
or_none true b e f = e
or_none false b e f = f

none_among : (P Q : ℕ → Type 0) (n : ℕ) (ys : List ℕ) → ((a b : ℕ) → P a → Q b → nat_eq b a ≡ false) → P n → AllByRecursion Q ys → is_among ys n ≡ false
none_among P Q n [] f p all = refl
none_among P Q n (y ∷ ys) f p all = or_none (nat_eq y n) (is_among ys n) (f n y p all.0) (none_among P Q n ys f p all.1)

none_shared : (P Q : ℕ → Type 0) (xs ys : List ℕ) → ((a b : ℕ) → P a → Q b → nat_eq b a ≡ false) → AllByRecursion P xs → AllByRecursion Q ys → share xs ys ≡ false
none_shared P Q [] ys f p all = refl
none_shared P Q (x ∷ xs) ys f p all = or_none (is_among ys x) (share xs ys) (none_among P Q x ys f p.0 all) (none_shared P Q xs ys f p.1 all)

-- ---- two clock domains

-- the numbers of a domain's signals, before and from a number on
numbers_before : (q : Pooled) (x : ClockDomain) (n : ℕ) → IsClockDomain q x → last_signal x.domain < n → AllByRecursion (λ k. k < n) (domain_numbers x.domain)
numbers_before q x n h lt = by_reset x.domain.rst h.reset lt
  where
    by_reset : (o : Option SigId) → IsResetBehind q x.domain.clk o → option_map_or (λ (s : SigId). s.0) o x.domain.clk.0 < n → AllByRecursion (λ k. k < n) (x.domain.clk.0 ∷ option_map_or (λ (s : SigId). s.0 ∷ []) o [])
    by_reset None g lt = (lt, tt)
    by_reset (Some s) g lt = (omega (arith, g.1, lt), (lt, tt))

numbers_from : (q : Pooled) (x : ClockDomain) → IsClockDomain q x → AllByRecursion (λ k. x.domain.clk.0 ≤ k) (domain_numbers x.domain)
numbers_from q x h = by_reset x.domain.rst h.reset
  where
    by_reset : (o : Option SigId) → IsResetBehind q x.domain.clk o → AllByRecursion (λ k. x.domain.clk.0 ≤ k) (x.domain.clk.0 ∷ option_map_or (λ (s : SigId). s.0 ∷ []) o [])
    by_reset None g = (omega arith, tt)
    by_reset (Some s) g = (omega arith, (omega (arith, g.1), tt))

apart_below : (n a b : ℕ) → a < n → n ≤ b → nat_eq b a ≡ false
apart_below n a b h g = not_same (nat_eq b a) refl
  where
    not_same : (t : Bool) → nat_eq b a ≡ t → t ≡ false
    not_same false e = refl
    not_same true e = absurd (omega (arith, h, g, eqb-true b a e))

apart_above : (n a b : ℕ) → n ≤ a → b < n → nat_eq b a ≡ false
apart_above n a b h g = not_same (nat_eq b a) refl
  where
    not_same : (t : Bool) → nat_eq b a ≡ t → t ≡ false
    not_same false e = refl
    not_same true e = absurd (omega (arith, h, g, eqb-true b a e))

-- one that was made before another one
before_apart : (q : Pooled) (x y : ClockDomain) → IsClockDomain q x → IsClockDomain q y → IsMadeBefore x y → share (domain_numbers x.domain) (domain_numbers y.domain) ≡ false
before_apart q x y h g lt =
    none_shared (λ k. k < y.domain.clk.0) (λ k. y.domain.clk.0 ≤ k) (domain_numbers x.domain) (domain_numbers y.domain) (λ a b. apart_below y.domain.clk.0 a b) (numbers_before q x y.domain.clk.0 h lt) (numbers_from q y g)

behind_apart : (q : Pooled) (x y : ClockDomain) → IsClockDomain q x → IsClockDomain q y → IsMadeBefore y x → share (domain_numbers x.domain) (domain_numbers y.domain) ≡ false
behind_apart q x y h g lt =
    none_shared (λ k. x.domain.clk.0 ≤ k) (λ k. k < x.domain.clk.0) (domain_numbers x.domain) (domain_numbers y.domain) (λ a b. apart_above x.domain.clk.0 a b) (numbers_from q x h) (numbers_before q y x.domain.clk.0 g lt)

-- by their numbers
order_at : (made : List ClockDomain) (k j : ℕ) (x y : ClockDomain) → AreInOrder made → k < j → slice_get made k ≡ Some x → slice_get made j ≡ Some y → IsMadeBefore x y
order_at [] k j x y h lt e f = absurd (true≢false (ap is_some (sym e)))
order_at (z ∷ made) k zero x y h lt e f = absurd (omega (arith, lt))
order_at (z ∷ made) zero (suc j) x y h lt e f = let same : z ≡ x = cc in subst (λ (w : ClockDomain). IsMadeBefore w y) same (made_at (IsMadeBefore z) made j y h.0 f)
order_at (z ∷ made) (suc k) (suc j) x y h lt e f = order_at made k j x y h.1 (omega (arith, lt)) e f

some_same : (x y : ClockDomain) → Some x ≡ Some y → x ≡ y
some_same x y e = cc

two_apart : (q : Pooled) (made : List ClockDomain) (d e : DomainDef) → AreClockDomains q made → IsFrom made d → IsFrom made e → AreApart d e
two_apart q made d e h f g = by_order (cases_order f.number g.number)
  where
    here : IsClockDomain q f.x
    here = made_at (IsClockDomain q) made f.number f.x h.each f.at

    there : IsClockDomain q g.x
    there = made_at (IsClockDomain q) made g.number g.x h.each g.at

    numbers : share (domain_numbers f.x.domain) (domain_numbers g.x.domain) ≡ false → share (domain_numbers d.domain) (domain_numbers e.domain) ≡ false
    numbers s = ap (λ ns. share ns (domain_numbers e.domain)) (from_numbers made d f) ∙ ap (λ ns. share (domain_numbers f.x.domain) ns) (from_numbers made e g) ∙ s

    under : (x y : ClockDomain) → x ≡ y → record (d.domain) { name = x.domain.name } ≡ x.domain → record (e.domain) { name = y.domain.name } ≡ y.domain → record (d.domain) { name = e.domain.name } ≡ e.domain
    under x y same a b = ap (λ (z : Domain). record z { name = e.domain.name }) (a ∙ ap (λ (z : ClockDomain). z.domain) same ∙ sym b)

    by_order : (f.number ≡ g.number) ⊎ ((f.number < g.number) ⊎ (g.number < f.number)) → AreApart d e
    by_order (inl same) = inl (under f.x g.x (some_same f.x g.x (sym f.at ∙ ap (slice_get made) same ∙ g.at)) f.domain g.domain)
    by_order (inr (inl lt)) = inr (numbers (before_apart q f.x g.x here there (order_at made f.number g.number f.x g.x h.order lt f.at g.at)))
    by_order (inr (inr lt)) = inr (numbers (behind_apart q f.x g.x here there (order_at made g.number f.number g.x f.x h.order lt g.at f.at)))

-- ---- all definitions of a tree

pub all_apart : (q : Pooled) (made : List ClockDomain) (ds : List DomainDef) → AreClockDomains q made → AllByRecursion (IsFrom made) ds → AllByRecursion (λ (d : DomainDef). AllByRecursion (AreApart d) ds) ds
all_apart q made ds h from =
    all_each (IsFrom made) (λ (d : DomainDef). AllByRecursion (AreApart d) ds) ds (λ d f. all_each (IsFrom made) (AreApart d) ds (λ e g. two_apart q made d e h f g) from) from
