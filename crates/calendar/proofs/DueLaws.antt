-- What is due at a moment.
use Rattle.std.proofs.Common.{◌≡◌, ◌≢◌, refl, sym, ap, ◌∙◌, subst, inl, inr, ℕ, suc, zero, ◌+◌, ◌<◌, ◌≤◌, Bool, true, false, cond, List, [], ◌∷◌, ◌++◌, map, length, get_or, arith}
use Rattle.std.specs.Prelude.{Contains, filter, ◌==◌}
use Rattle.std.specs.List.{AllByRecursion, range_with_len}
use Rattle.std.proofs.lemmas.Bool.{false≢true, cases_eq, or_cases, or_left, or_right, eqb-true, eq-eqb}
use Rattle.std.proofs.lemmas.List.FromFn.{filter_of_map_range_with_len_more}
use Rattle.std.proofs.lemmas.List.Elements.{Contains-append_right, Contains-append_cases}
use Rattle.design_ir.specs.declared.ids.DomainId.{DomainId}
use Rattle.design_ir.specs.Legal.{Ascending}
use Rattle.calendar.specs.declared.clock.Clock.{Clock}
use Rattle.calendar.specs.Moments.{IsMoment}
use Rattle.calendar.specs.Due.{toggles, is_due, domain, clocks_of, due_domains, AreWithin, AreAnEvent}
use Rattle.calendar.specs.Laws.{DueIsMoment, DueHaveClocks, DueAreSome, DueAreAnEvent}
use Rattle.calendar.proofs.Turns.{tests_are_toggles}

-- ---- moments

pub due_is_moment : DueIsMoment
due_is_moment clocks m = (there clocks, back clocks)
  where
    there : (cs : List Clock) → is_due cs m ≡ true → IsMoment cs m
    there [] h = absurd (false≢true h)
    there (c ∷ cs) h = elim (or_cases (toggles m c) (is_due cs m) h) [ inl t ↦ inl ((tests_are_toggles c m).0 t) | inr k ↦ inr (there cs k) ]

    back : (cs : List Clock) → IsMoment cs m → is_due cs m ≡ true
    back [] h = absurd h
    back (c ∷ cs) h = elim h [ inl t ↦ or_left (toggles m c) (is_due cs m) ((tests_are_toggles c m).1 t) | inr k ↦ or_right (toggles m c) (is_due cs m) (back cs k) ]

-- ---- the clocks of a domain

-- one clock more, of this domain or of another
clocks_more : (d : DomainId) (c : Clock) (cs : List Clock) (b : Bool) → (c.domain.0 == d.0) ≡ b → clocks_of d (c ∷ cs) ≡ cond b (c ∷ clocks_of d cs) (clocks_of d cs)
clocks_more d c cs b e = ap (λ t. cond t (c ∷ clocks_of d cs) (clocks_of d cs)) e

-- what a clock of a domain does, some clock does
moment_of_domain : (d : DomainId) (cs : List Clock) (m : ℕ) → IsMoment (clocks_of d cs) m → IsMoment cs m
moment_of_domain d [] m h = h
moment_of_domain d (c ∷ cs) m h = here (c.domain.0 == d.0) refl (λ k. moment_of_domain d cs m k)
  where
    here : (b : Bool) → (c.domain.0 == d.0) ≡ b → (IsMoment (clocks_of d cs) m → IsMoment cs m) → IsMoment (c ∷ cs) m
    here true e more = elim (subst (λ xs. IsMoment xs m) (clocks_more d c cs true e) h) [ inl t ↦ inl t | inr k ↦ inr (more k) ]
    here false e more = inr (more (subst (λ xs. IsMoment xs m) (clocks_more d c cs false e) h))

-- a domain with a clock that toggles
record IsDomainOf (cs : List Clock) (m domains : ℕ) : Type 0 where
  domain_id : DomainId
  within : domain_id.0 < domains
  moment : IsMoment (clocks_of domain_id cs) m

domain_of_moment : (cs : List Clock) (m domains : ℕ) → AreWithin domains cs → IsMoment cs m → IsDomainOf cs m domains
domain_of_moment [] m domains w h = absurd h
domain_of_moment (c ∷ cs) m domains w h = elim h [
  | inl t ↦ record { domain_id = c.domain; within = w.0; moment = subst (λ xs. IsMoment xs m) (sym (clocks_more c.domain c cs true (eq-eqb c.domain.0 c.domain.0 refl))) (inl t) }
  | inr k ↦ (let o = domain_of_moment cs m domains w.1 k in record { domain_id = o.domain_id; within = o.within; moment = behind o.domain_id (c.domain.0 == o.domain_id.0) refl o.moment })
]
  where
    behind : (d : DomainId) (b : Bool) → (c.domain.0 == d.0) ≡ b → IsMoment (clocks_of d cs) m → IsMoment (clocks_of d (c ∷ cs)) m
    behind d true e k = subst (λ xs. IsMoment xs m) (sym (clocks_more d c cs true e)) (inr k)
    behind d false e k = subst (λ xs. IsMoment xs m) (sym (clocks_more d c cs false e)) k

-- a domain with a clock is one of the domains
within_of_moment : (d : DomainId) (cs : List Clock) (m domains : ℕ) → AreWithin domains cs → IsMoment (clocks_of d cs) m → d.0 < domains
within_of_moment d [] m domains w h = absurd h
within_of_moment d (c ∷ cs) m domains w h = here (c.domain.0 == d.0) refl (λ k. within_of_moment d cs m domains w.1 k)
  where
    here : (b : Bool) → (c.domain.0 == d.0) ≡ b → (IsMoment (clocks_of d cs) m → d.0 < domains) → d.0 < domains
    here true e more = subst (λ (n : ℕ). n < domains) (eqb-true c.domain.0 d.0 e) w.0
    here false e more = more (subst (λ xs. IsMoment xs m) (clocks_more d c cs false e) h)

-- ---- what passes of some domains

-- those from a on, so many, that pass
abbrev passing : (DomainId → Bool) → ℕ → ℕ → List DomainId
passing p a n = filter p (map domain (range_with_len a n))

passing_more : (p : DomainId → Bool) (a n : ℕ) (b : Bool) → p (domain a) ≡ b → passing p a (suc n) ≡ cond b (domain a ∷ passing p (a + 1) n) (passing p (a + 1) n)
passing_more p a n b e = ap (λ t. cond t (domain a ∷ passing p (a + 1) n) (passing p (a + 1) n)) e

passing_pass : (p : DomainId → Bool) (a n : ℕ) (d : DomainId) → Contains (passing p a n) d → p d ≡ true
passing_pass p a zero d h = absurd (omega (arith, h.1))
passing_pass p a (suc n) d h = here (p (domain a)) refl (λ k. passing_pass p (a + 1) n d k)
  where
    only : (x y : DomainId) → Contains (x ∷ []) y → x ≡ y
    only x y (zero, l, is) = is
    only x y (suc k, l, is) = absurd (omega (arith, l))

    here : (b : Bool) → p (domain a) ≡ b → (Contains (passing p (a + 1) n) d → p d ≡ true) → p d ≡ true
    here true e more = elim (Contains-append_cases (domain a ∷ []) (passing p (a + 1) n) d (subst (λ ds. Contains ds d) (passing_more p a n true e) h)) [
      | inl first ↦ subst (λ x. p x ≡ true) (only (domain a) d first) e
      | inr rest ↦ more rest
    ]
    here false e more = more (subst (λ ds. Contains ds d) (passing_more p a n false e) h)

passing_there : (p : DomainId → Bool) (a n : ℕ) (d : DomainId) → a ≤ d.0 → d.0 < a + n → p d ≡ true → Contains (passing p a n) d
passing_there p a zero d low high h = absurd (omega (arith, low, high))
passing_there p a (suc n) d low high h = here (p (domain a)) refl (λ other. passing_there p (a + 1) n d (past other) (omega (arith, high)) h)
  where
    past : a ≢ d.0 → a + 1 ≤ d.0
    past other = grind (arith, low, other)

    here : (b : Bool) → p (domain a) ≡ b → (a ≢ d.0 → Contains (passing p (a + 1) n) d) → Contains (passing p a (suc n)) d
    here true e later = subst (λ ds. Contains ds d) (sym (passing_more p a n true e)) (elim (cases_eq a d.0) [
      | inl same ↦ (0, omega arith, ap domain same)
      | inr other ↦ Contains-append_right (domain a ∷ []) (passing p (a + 1) n) d (later other)
    ])
    here false e later = subst (λ ds. Contains ds d) (sym (passing_more p a n false e)) (later (λ same. false≢true (sym e ∙ (ap (λ k. p (domain k)) same ∙ h))))

passing_within : (p : DomainId → Bool) (a n high : ℕ) → a + n ≤ high → AllByRecursion (λ (d : DomainId). d.0 < high) (passing p a n)
passing_within p a zero high few = tt
passing_within p a (suc n) high few = here (p (domain a)) refl (passing_within p (a + 1) n high (omega (arith, few)))
  where
    here : (b : Bool) → p (domain a) ≡ b → AllByRecursion (λ (d : DomainId). d.0 < high) (passing p (a + 1) n) → AllByRecursion (λ (d : DomainId). d.0 < high) (passing p a (suc n))
    here true e rest = subst (λ ds. AllByRecursion (λ (d : DomainId). d.0 < high) ds) (sym (passing_more p a n true e)) (omega (arith, few), rest)
    here false e rest = subst (λ ds. AllByRecursion (λ (d : DomainId). d.0 < high) ds) (sym (passing_more p a n false e)) rest

passing_ascends : (p : DomainId → Bool) (a n least : ℕ) → least ≤ a → Ascending least (passing p a n)
passing_ascends p a zero least low = tt
passing_ascends p a (suc n) least low = here (p (domain a)) refl (passing_ascends p (a + 1) n (suc a) (omega arith)) (passing_ascends p (a + 1) n least (omega (arith, low)))
  where
    here : (b : Bool) → p (domain a) ≡ b → Ascending (suc a) (passing p (a + 1) n) → Ascending least (passing p (a + 1) n) → Ascending least (passing p a (suc n))
    here true e behind rest = subst (λ ds. Ascending least ds) (sym (passing_more p a n true e)) (low, behind)
    here false e behind rest = subst (λ ds. Ascending least ds) (sym (passing_more p a n false e)) rest

-- ---- what is due

pub due_have_clocks : DueHaveClocks
due_have_clocks clocks domains m d w = (there, back)
  where
    there : Contains (due_domains clocks domains m) d → IsMoment (clocks_of d clocks) m
    there h = (due_is_moment (clocks_of d clocks) m).0 (passing_pass (λ x. is_due (clocks_of x clocks) m) 0 domains d h)

    back : IsMoment (clocks_of d clocks) m → Contains (due_domains clocks domains m) d
    back h = let within = within_of_moment d clocks m domains w h in passing_there (λ x. is_due (clocks_of x clocks) m) 0 domains d (omega arith) (omega (arith, within)) ((due_is_moment (clocks_of d clocks) m).1 h)

pub due_are_some : DueAreSome
due_are_some clocks domains m w = (λ h. first (due_domains clocks domains m) refl h, λ k. some (domain_of_moment clocks m domains w k))
  where
    first : (ds : List DomainId) → due_domains clocks domains m ≡ ds → due_domains clocks domains m ≢ [] → IsMoment clocks m
    first [] e h = absurd (h e)
    first (d ∷ ds) e h = moment_of_domain d clocks m ((due_have_clocks clocks domains m d w).0 (subst (λ xs. Contains xs d) (sym e) (0, omega arith, refl)))

    nothing : (d : DomainId) → Contains [] d → ⊥
    nothing d (k, l, is) = omega (arith, l)

    some : IsDomainOf clocks m domains → due_domains clocks domains m ≢ []
    some o none = nothing o.domain_id (subst (λ xs. Contains xs o.domain_id) none ((due_have_clocks clocks domains m o.domain_id w).1 o.moment))

pub due_are_an_event : DueAreAnEvent
due_are_an_event clocks domains m some c count =
    let p : DomainId → Bool = λ x. is_due (clocks_of x clocks) m in
    (some, passing_within p 0 domains (length c.domains) (omega (arith, count)), passing_ascends p 0 domains 0 (omega arith))

-- at a moment of some clock they are an event
pub event_at : (clocks : List Clock) (domains m : ℕ) (due : List DomainId) → AreWithin domains clocks → due ≡ due_domains clocks domains m → IsMoment clocks m → AreAnEvent domains due
event_at clocks domains m due within is moment = subst (AreAnEvent domains) (sym is) (due_are_an_event clocks domains m ((due_are_some clocks domains m within).1 moment))

-- one domain more
pub due_more : (clocks : List Clock) (domains m : ℕ) (b : Bool) → is_due (clocks_of (domain domains) clocks) m ≡ b → due_domains clocks (domains + 1) m ≡ due_domains clocks domains m ++ cond b (domain domains ∷ []) []
due_more clocks domains m b e =
    filter_of_map_range_with_len_more (λ x. is_due (clocks_of x clocks) m) domain 0 domains domains (omega arith)
    ∙ ap (λ t. due_domains clocks domains m ++ cond t (domain domains ∷ []) []) e

-- a clock that toggles makes its domain due
pub due_here : (d : DomainId) (clocks : List Clock) (i : ℕ) (x : Clock) (m : ℕ) → i < length clocks → ((get_or clocks i x).domain.0 == d.0) ≡ true → toggles m (get_or clocks i x) ≡ true → is_due (clocks_of d clocks) m ≡ true
due_here d [] i x m held of toggling = absurd (omega (arith, held))
due_here d (c ∷ cs) zero x m held of toggling = rw (of, toggling) refl
due_here d (c ∷ cs) (suc i) x m held of toggling = here (c.domain.0 == d.0) refl (due_here d cs i x m (omega (arith, held)) of toggling)
  where
    here : (b : Bool) → (c.domain.0 == d.0) ≡ b → is_due (clocks_of d cs) m ≡ true → is_due (clocks_of d (c ∷ cs)) m ≡ true
    here true e h = rw e (or_right (toggles m c) (is_due (clocks_of d cs) m) h)
    here false e h = rw e h
