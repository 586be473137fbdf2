-- The domains of a module with those below it: they are domains of the pool, and no two have a name or a signal in common.
use Rattle.std.proofs.Common.{◌≡◌, inl, inr, ℕ, zero, suc, ◌+◌, ◌-◌, ◌*◌, ◌<◌, ◌≤◌, ◌==◌, nat_lt, ◌||◌, true, false, not, if◌then◌else◌, List, [], ◌∷◌, ◌++◌, map, length, Option, Some, None, is_some, position, refl, sym, ap, ◌∙◌, subst, arith}
use Rattle.std.specs.Prelude.{option_map}
use Rattle.std.specs.List.{AllByRecursion, IsDistinct, cons_option, filter_map, flat_map, list_any}
use Rattle.std.specs.Option.{option_map_or}
use Rattle.std.proofs.lemmas.Bool.{false≢true, eq-eqb}
use Rattle.std.proofs.lemmas.Bool.Decides.{nat_tests}
use Rattle.lists.specs.Texts.{text_eq}
use Rattle.lists.specs.Names.{IsName}
use Rattle.lists.proofs.TextLaws.{text_eq_same}
use Rattle.shape_rules.specs.Forms.{unsigned}
use Rattle.design_ir.specs.declared.ids.SigId.{SigId}
use Rattle.design_ir.specs.declared.signal.Sig.{Sig}
use Rattle.design_ir.specs.declared.domain.Domain.{Domain}
use Rattle.design_ir.specs.declared.domain.DomainDef.{DomainDef}
use Rattle.design_ir.specs.declared.memory.MemWrite.{MemWrite}
use Rattle.design_ir.specs.declared.memory.MemRead.{MemRead}
use Rattle.design_ir.specs.declared.memory.Memory.{Memory}
use Rattle.design_ir.specs.declared.process.Side.{Side}
use Rattle.design_ir.specs.declared.process.Side.TheVariants.{Comb, Clocked}
use Rattle.design_ir.specs.declared.process.Process.{Process}
use Rattle.design_ir.specs.Pools.{Pooled}
use Rattle.design_ir.specs.Values.{signal_form}
use Rattle.design_ir.specs.Circuits.{is_among}
use Rattle.design_ir.specs.Designs.{share}
use Rattle.fragment_walks.specs.Walks.{port_names, side_name}
use Rattle.fragment_walks.proofs.Lists.{all_both, all_imp, all_left, all_mapped, all_right, all_unmapped, any_none, none_any, or_none}
use Rattle.fragment_walks.proofs.Outs.{among_flat}
use Rattle.fragment_walks.proofs.WalkLaws.{HasName}
use Rattle.clock_domains.specs.Resolvable.{IsBit, IsResetOf, IsDomainOf, AreApart, domain_numbers}
use Rattle.clock_domains.specs.Resolved.{clash_after, each_once, defined_domain, undefined_names, domain_signals, domain_at, domain_for, number_after, domains_from, with_domains, is_past_limit, domain_number, is_clocked}
use Rattle.clock_domains.specs.Ready.{HasDomain, HasDomains, IsNamedDomain}
use Rattle.clock_domains.proofs.ClashLaws.{HasOwnClock, own_clocks}
use Rattle.clock_domains.proofs.EachOnce.{once_any}
use Rattle.clock_domains.proofs.MadeDomains.{defined_name, defined_all, length_with, made_any, names_back}
use Rattle.clock_domains.proofs.DesignSound.{not_equal, share_flipped}

-- ---- what holds of all of them: of those that are defined, and of those that are made

pub domains_all : (P : Domain → Type 0) (N : List ℕ → Type 0) (definitions : List DomainDef) (m high : ℕ) (names : List (List ℕ)) → AllByRecursion (λ (d : DomainDef). P d.domain) definitions → ((k : ℕ) (n : List ℕ) → m ≤ k → k + 2 ≤ high → N n → P (domain_at k n))
    → AllByRecursion N names → m + 2 * length (undefined_names definitions names) ≤ high → AllByRecursion P (domains_from definitions m names)
domains_all P N definitions m high [] defined made named le = tt
domains_all P N definitions m high (n ∷ names) defined made named le = by (defined_domain definitions n) refl le (domains_all P N definitions m high names defined made named.1) (domains_all P N definitions (m + 2) high names defined (λ k x low. made k x (omega (arith, low))) named.1)
  where
    rest : List (List ℕ)
    rest = undefined_names definitions names

    by : (o : Option Domain) → defined_domain definitions n ≡ o → m + 2 * length (if not (is_some o) then n ∷ rest else rest) ≤ high → (m + 2 * length rest ≤ high → AllByRecursion P (domains_from definitions m names)) → (m + 2 + 2 * length rest ≤ high → AllByRecursion P (domains_from definitions (m + 2) names))
        → AllByRecursion P (domain_for o m n ∷ domains_from definitions (number_after o m) names)
    by (Some d) e le here there = (defined_all P definitions n d defined e, here le)
    by None e le here there = (made m n (omega arith) (omega (arith, le)) named.0, there (omega (arith, le)))

-- ---- the signals of those that are made have one bit

new_form : (xs : List Sig) (names : List (List ℕ)) (s k : ℕ) → s ≡ length xs + k → k < 2 * length names → signal_form (xs ++ flat_map domain_signals names) s ≡ unsigned 1
new_form [] [] s k e h = absurd (omega (arith, h))
new_form [] (n ∷ names) zero k e h = refl
new_form [] (n ∷ names) (suc zero) k e h = refl
new_form [] (n ∷ names) (suc (suc s)) k e h = new_form [] names s s (omega arith) (omega (arith, e, h))
new_form (x ∷ xs) names zero k e h = absurd (omega (arith, e))
new_form (x ∷ xs) names (suc s) k e h = new_form xs names s k (omega (arith, e)) h

pub old_form : (xs more : List Sig) (s : ℕ) → s < length xs → signal_form (xs ++ more) s ≡ signal_form xs s
old_form [] more s h = absurd (omega (arith, h))
old_form (x ∷ xs) more zero h = refl
old_form (x ∷ xs) more (suc s) h = old_form xs more s (omega (arith, h))

made_bit : (q : Pooled) (names : List (List ℕ)) (s : ℕ) → length q.signals ≤ s → s < length q.signals + 2 * length names → IsBit (with_domains q names) (record { 0 = s })
made_bit q names s low high = record {
  there = omega (arith, high, length_with q names);
  form = let e : s ≡ length q.signals + (s - length q.signals) = omega (arith, low) in new_form q.signals names s (s - length q.signals) e (omega (arith, e, high));
}

old_bit : (q : Pooled) (names : List (List ℕ)) (s : SigId) → IsBit q s → IsBit (with_domains q names) s
old_bit q names s h = record { there = omega (arith, h.there, length_with q names); form = old_form q.signals (flat_map domain_signals names) s.0 h.there ∙ h.form }

old_domain : (q : Pooled) (names : List (List ℕ)) (d : Domain) → IsDomainOf q d → IsDomainOf (with_domains q names) d
old_domain q names d h = record { name = h.name; clock = old_bit q names d.clk h.clock; reset = by d.rst h.reset }
  where
    by : (o : Option SigId) → IsResetOf q d.clk o → IsResetOf (with_domains q names) d.clk o
    by None k = tt
    by (Some s) k = (old_bit q names s k.0, k.1)

module _ (q : Pooled) (definitions : List DomainDef) (names : List (List ℕ)) (defined : AllByRecursion (λ (d : DomainDef). IsDomainOf q d.domain) definitions) where
  abbrev made : List (List ℕ)
  made = undefined_names definitions names

  abbrev n : ℕ
  n = length q.signals

  pub domains_sound : AllByRecursion IsName names → AllByRecursion (IsDomainOf (with_domains q made)) (domains_from definitions n names)
  domains_sound named =
      domains_all (IsDomainOf (with_domains q made)) IsName definitions n (n + 2 * length made) names (all_imp (λ (d : DomainDef) h. old_domain q made d.domain h) definitions defined)
      (λ k name low high is. record {
        name = is;
        clock = made_bit q made k low (omega (arith, high));
        reset = (made_bit q made (suc k) (omega (arith, low)) (omega (arith, high)), not_equal k (suc k) (λ e. omega (arith, e)));
      }) named (omega arith)

  -- ---- names

  pub names_distinct : IsDistinct text_eq names → IsDistinct text_eq (map (λ (d : Domain). d.name) (domains_from definitions n names))
  names_distinct h = subst (IsDistinct text_eq) (sym (names_back definitions n names)) h

-- ---- signals

-- numbers below others are not among them
low_high : (m : ℕ) (xs ys : List ℕ) → AllByRecursion (λ x. x < m) xs → AllByRecursion (λ y. m ≤ y) ys → share xs ys ≡ false
low_high m xs ys h k = any_none (is_among ys) xs (all_imp (λ x low. any_none (λ y. y == x) ys (all_imp (λ y high. not_equal y x (λ e. omega (arith, e, low, high))) ys k)) xs h)

numbers_low : (q : Pooled) (d : Domain) → IsDomainOf q d → AllByRecursion (λ x. x < length q.signals) (domain_numbers d)
numbers_low q d h = (h.clock.there, by d.rst h.reset)
  where
    by : (o : Option SigId) → IsResetOf q d.clk o → AllByRecursion (λ x. x < length q.signals) (option_map_or (λ (s : SigId). s.0 ∷ []) o [])
    by None k = tt
    by (Some s) k = (k.0.there, tt)

below_wider : (m n : ℕ) (xs : List ℕ) → m ≤ n → AllByRecursion (λ x. x < m) xs → AllByRecursion (λ x. x < n) xs
below_wider m n xs le h = all_imp (λ x low. let e : x < n = omega (arith, le, low) in e) xs h

-- domains with other names than this one have no signal in common with it
abbrev IsOther : Domain → Domain → Type 0
IsOther d e = text_eq d.name e.name ≡ false → share (domain_numbers d) (domain_numbers e) ≡ false

abbrev AreOthers : List DomainDef → DomainDef → Type 0
AreOthers definitions d = AllByRecursion (AreApart d) definitions

-- they are not this one under other names, whose clock would be the same
others : (d : DomainDef) (definitions : List DomainDef) → AreOthers definitions d → AllByRecursion (HasOwnClock d) definitions → AllByRecursion (λ (e : DomainDef). IsOther d.domain e.domain) definitions
others d definitions h own = all_both one definitions h own
  where
    one : (e : DomainDef) → AreApart d e → HasOwnClock d e → IsOther d.domain e.domain
    one e (inl same) own differ = absurd (false≢true (sym (own differ) ∙ eq-eqb d.domain.clk.0 e.domain.clk.0 (ap (λ (x : Domain). x.clk.0) same)))
    one e (inr apart) own differ = apart

any_name : List ℕ → Type 0
any_name n = Unit {0}

all_named : (names : List (List ℕ)) → AllByRecursion any_name names
unfolding any_name
all_named [] = tt
all_named (n ∷ names) = (tt, all_named names)

module _ (q : Pooled) (definitions : List DomainDef) (defined : AllByRecursion (λ (d : DomainDef). IsDomainOf q d.domain) definitions) (apart : AllByRecursion (AreOthers definitions) definitions) (free : clash_after [] definitions ≡ None) where
  -- a name that is not among others: so it is of their domains
  other_names : (m : ℕ) (names : List (List ℕ)) (n : List ℕ) → AllByRecursion (λ x. text_eq n x ≡ false) names → AllByRecursion (λ (e : Domain). text_eq n e.name ≡ false) (domains_from definitions m names)
  other_names m names n h =
      all_unmapped (λ x. text_eq n x ≡ false) (λ (e : Domain). e.name) (domains_from definitions m names) (subst (AllByRecursion (λ x. text_eq n x ≡ false)) (sym (names_back definitions m names)) h)

  apart_from : (m : ℕ) (names : List (List ℕ)) → length q.signals ≤ m → IsDistinct text_eq names → IsDistinct share (map domain_numbers (domains_from definitions m names))
  unfolding IsDistinct
  apart_from m [] le h = tt
  apart_from m (n ∷ names) le h = by (defined_domain definitions n) refl (apart_from m names le h.1) (apart_from (m + 2) names (omega (arith, le)) h.1)
    where
      first : (d : Domain) (k : ℕ) → AllByRecursion (λ (e : Domain). share (domain_numbers d) (domain_numbers e) ≡ false) (domains_from definitions k names) → AllByRecursion (λ ys. share (domain_numbers d) ys ≡ false) (map domain_numbers (domains_from definitions k names))
      first d k h = all_mapped (λ ys. share (domain_numbers d) ys ≡ false) domain_numbers (domains_from definitions k names) h

      of_defined : (d : Domain) → defined_domain definitions n ≡ Some d → AllByRecursion (λ (e : Domain). share (domain_numbers d) (domain_numbers e) ≡ false) (domains_from definitions m names)
      of_defined d e =
          let mine : IsDomainOf q d = defined_all (IsDomainOf q) definitions n d defined e in
          let name : d.name ≡ n = defined_name definitions n d e in
          let them : AllByRecursion (λ (x : DomainDef). IsOther d x.domain) definitions = defined_all (λ (y : Domain). AllByRecursion (λ (x : DomainDef). IsOther y x.domain) definitions) definitions n d (all_both (λ (x : DomainDef) h own. others x definitions h own) definitions apart (own_clocks definitions free)) e in
          let all : AllByRecursion (IsOther d) (domains_from definitions m names) =
          domains_all (IsOther d) any_name definitions m (m + 2 * length (undefined_names definitions names)) names them
          (λ k x low high is differ. low_high m (domain_numbers d) (k ∷ suc k ∷ []) (below_wider (length q.signals) m (domain_numbers d) le (numbers_low q d mine)) (low, (omega (arith, low), tt))) (all_named names) (omega arith) in
          all_both (λ (x : Domain) other differ. other (ap (λ y. text_eq y x.name) name ∙ differ)) (domains_from definitions m names) all (other_names m names n h.0)

      of_made : AllByRecursion (λ (e : Domain). share (domain_numbers (domain_at m n)) (domain_numbers e) ≡ false) (domains_from definitions (m + 2) names)
      of_made =
          domains_all (λ (e : Domain). share (m ∷ suc m ∷ []) (domain_numbers e) ≡ false) any_name definitions (m + 2) (m + 2 + 2 * length (undefined_names definitions names)) names
          (all_imp (λ (x : DomainDef) mine. share_flipped (domain_numbers x.domain) (m ∷ suc m ∷ []) (low_high m (domain_numbers x.domain) (m ∷ suc m ∷ []) (below_wider (length q.signals) m (domain_numbers x.domain) le (numbers_low q x.domain mine)) (omega arith, (omega arith, tt)))) definitions defined)
          (λ k x low high is. low_high (m + 2) (m ∷ suc m ∷ []) (k ∷ suc k ∷ []) (omega arith, (omega arith, tt)) (low, (omega (arith, low), tt))) (all_named names) (omega arith)

      by : (o : Option Domain) → defined_domain definitions n ≡ o → IsDistinct share (map domain_numbers (domains_from definitions m names)) → IsDistinct share (map domain_numbers (domains_from definitions (m + 2) names))
          → IsDistinct share (map domain_numbers (domain_for o m n ∷ domains_from definitions (number_after o m) names))
      by (Some d) e here there = (first d m (of_defined d e), here)
      by None e here there = (first (domain_at m n) (m + 2) of_made, there)

  pub domains_apart : (names : List (List ℕ)) → IsDistinct text_eq names → IsDistinct share (map domain_numbers (domains_from definitions (length q.signals) names))
  domains_apart names h = apart_from (length q.signals) names (omega arith) h

-- ---- each clocked side has a domain

some_mapped : {A B : Type 0} (f : A → B) (o : Option A) → is_some (option_map f o) ≡ is_some o
some_mapped f None = refl
some_mapped f (Some x) = refl

pub domains_known : (definitions : List DomainDef) (m : ℕ) (names : List (List ℕ)) (ps : List Process) → AllByRecursion (HasName names) ps → AllByRecursion (HasDomain (domains_from definitions m (each_once names))) ps
domains_known definitions m names ps h = all_imp (λ (p : Process) k. by_side p p.side refl k) ps h
  where
    by_side : (p : Process) (s : Side) → p.side ≡ s → HasName names p → is_some (domain_number (domains_from definitions m (each_once names)) p.side) ≡ is_clocked p
    by_side p Comb e h = ap (λ s. is_some (domain_number (domains_from definitions m (each_once names)) s)) e ∙ sym (ap (λ s. is_some (side_name s)) e)
    by_side p (Clocked n) e h =
        ap (λ s. is_some (domain_number (domains_from definitions m (each_once names)) s)) e
        ∙ some_mapped (λ (k : ℕ). record { 0 = k }) (position (λ (d : Domain). text_eq d.name n) (domains_from definitions m (each_once names)))
        ∙ made_any definitions m (each_once names) n
        ∙ once_any names n
        ∙ h n e
        ∙ sym (ap (λ s. is_some (side_name s)) e)

-- ---- each memory port has a domain

abbrev IsNameOf : List (List ℕ) → List ℕ → Type 0
IsNameOf names n = list_any (λ k. text_eq k n) names ≡ true

named_domain : (definitions : List DomainDef) (m : ℕ) (names : List (List ℕ)) (n : List ℕ) → IsNameOf names n → IsNamedDomain (domains_from definitions m (each_once names)) (Some n)
named_domain definitions m names n h =
    made_any definitions m (each_once names) n ∙ once_any names n ∙ h

pub ports_known : (definitions : List DomainDef) (n : ℕ) (names : List (List ℕ)) (m : Memory) → AllByRecursion (IsNameOf names) (port_names m) → HasDomains (domains_from definitions n (each_once names)) m
ports_known definitions n names m h = record {
  writes =
      all_imp (λ (w : MemWrite) k. named_domain definitions n names w.domain k) m.writes
      (all_unmapped (IsNameOf names) (λ (w : MemWrite). w.domain) m.writes (all_left (IsNameOf names) (map (λ (w : MemWrite). w.domain) m.writes) (filter_map (λ (r : MemRead). r.domain) m.reads) h));
  reads = each m.reads (all_right (IsNameOf names) (map (λ (w : MemWrite). w.domain) m.writes) (filter_map (λ (r : MemRead). r.domain) m.reads) h);
}
  where
    each : (rs : List MemRead) → AllByRecursion (IsNameOf names) (filter_map (λ (r : MemRead). r.domain) rs) → AllByRecursion (λ (r : MemRead). IsNamedDomain (domains_from definitions n (each_once names)) r.domain) rs
    each [] k = tt
    each (r ∷ rs) k = by r.domain k (each rs)
      where
        by : (o : Option (List ℕ)) → AllByRecursion (IsNameOf names) (cons_option o (filter_map (λ (r : MemRead). r.domain) rs)) → (AllByRecursion (IsNameOf names) (filter_map (λ (r : MemRead). r.domain) rs) → AllByRecursion (λ (r : MemRead). IsNamedDomain (domains_from definitions n (each_once names)) r.domain) rs)
            → IsNamedDomain (domains_from definitions n (each_once names)) o × AllByRecursion (λ (r : MemRead). IsNamedDomain (domains_from definitions n (each_once names)) r.domain) rs
        by None j rest = (tt, rest j)
        by (Some name) j rest = (named_domain definitions n names name j.0, rest j.1)

-- ---- none of their signals is the data of a read port

-- a signal of the pool that no definition has is in no domain
pub domains_free : (q : Pooled) (definitions : List DomainDef) (names : List (List ℕ)) (s : ℕ) → s < length q.signals → is_among (flat_map (λ (d : DomainDef). domain_numbers d.domain) definitions) s ≡ false
    → is_among (flat_map domain_numbers (domains_from definitions (length q.signals) names)) s ≡ false
domains_free q definitions names s low h =
    let n = length q.signals in
    among_flat domain_numbers (domains_from definitions n names) s
    ∙ any_none (λ (d : Domain). is_among (domain_numbers d) s) (domains_from definitions n names)
    (domains_all (λ (d : Domain). is_among (domain_numbers d) s ≡ false) any_name definitions n (n + 2 * length (undefined_names definitions names)) names
    (none_any (λ (d : DomainDef). is_among (domain_numbers d.domain) s) definitions (sym (among_flat (λ (d : DomainDef). domain_numbers d.domain) definitions s) ∙ h))
    (λ k x from high is. ap (λ b. b || ((suc k == s) || false)) (not_equal k s (λ e. omega (arith, e, low, from))) ∙ ap (λ b. b || false) (not_equal (suc k) s (λ e. omega (arith, e, low, from)))) (all_named names) (omega arith))

-- ---- few domains

pub few_names : (q : Pooled) (definitions : List DomainDef) (names : List (List ℕ)) → is_past_limit q definitions names ≡ false → length names ≤ 64
few_names q definitions names h = below (length names) (or_none _ _ h).0
  where
    below : (n : ℕ) → nat_lt 64 n ≡ false → n ≤ 64
    below n e = grind (arith, nat_tests)
