use Rattle.std.proofs.Common.{◌≡◌, ◌∙◌, ℕ, List, Option, None, Some, false, length, position, slice_get, refl, sym, ap, subst}
use Rattle.std.specs.Prelude.{OnOk, IfOk, IfErr}
use Rattle.std.proofs.lemmas.Option.{get_or_from_slice_get, slice_get_read}
use Rattle.std.proofs.lemmas.List.Quantifiers.{position-Some}
use Rattle.lists.specs.Texts.{text_eq}
use Rattle.design_ir.specs.declared.domain.Domain.{Domain}
use Rattle.design_ir.specs.declared.domain.DomainDef.{DomainDef}
use Rattle.clock_domains.specs.Resolved.{defined_domain, domain_for, limit_where}
use Rattle.clock_domains.specs.Made.{is_tight_for, pool_for}
use Rattle.clock_domains.specs.Stops.{IsOwed}
use Rattle.clock_domains.proofs.MadeDomains.{defined_at, defined_none}
use Rattle.clock_domains.proofs.domains.domain_of.Goals as goal

pub returns-in_ok-copied_domain-in-Some-clause-room : goal.returns-in_ok-copied_domain-in-Some-clause-room
returns-in_ok-copied_domain-in-Some-clause-room c =
    let q = c.args.pool.now in
    let ds = c.args.definitions.now in
    let name = c.args.name.now in
    let k = c.in-Some.number in
    let x = c.index-definitions-number.result in
    let placed : position (λ (d : DomainDef). text_eq d.domain.name name) ds ≡ Some k = sym (ap (λ (n : List ℕ). position (λ (d : DomainDef). text_eq d.domain.name n) ds) c.as_str.ensures) ∙ sym c.definition_named.ensures ∙ c.in-Some.is in
    let at : slice_get ds k ≡ Some x = slice_get_read ds (length ds) k x refl (position-Some (λ (d : DomainDef). text_eq d.domain.name name) ds k x placed).0 c.index-definitions-number.is in
    let found : defined_domain ds name ≡ Some x.domain = defined_at ds name k x placed at in
    ap (λ (o : Option Domain). is_tight_for o q) found

pub returns-in_ok-copied_domain-in-Some-clause-pool : goal.returns-in_ok-copied_domain-in-Some-clause-pool
returns-in_ok-copied_domain-in-Some-clause-pool c =
    let q = c.args.pool.now in
    let ds = c.args.definitions.now in
    let name = c.args.name.now in
    let k = c.in-Some.number in
    let x = c.index-definitions-number.result in
    let placed : position (λ (d : DomainDef). text_eq d.domain.name name) ds ≡ Some k = sym (ap (λ (n : List ℕ). position (λ (d : DomainDef). text_eq d.domain.name n) ds) c.as_str.ensures) ∙ sym c.definition_named.ensures ∙ c.in-Some.is in
    let at : slice_get ds k ≡ Some x = slice_get_read ds (length ds) k x refl (position-Some (λ (d : DomainDef). text_eq d.domain.name name) ds k x placed).0 c.index-definitions-number.is in
    let found : defined_domain ds name ≡ Some x.domain = defined_at ds name k x placed at in
    sym (ap (λ (o : Option Domain). pool_for o q name) found)

pub returns-in_ok-copied_domain-in-Some-clause-domain : goal.returns-in_ok-copied_domain-in-Some-clause-domain
returns-in_ok-copied_domain-in-Some-clause-domain c =
    let q = c.args.pool.now in
    let ds = c.args.definitions.now in
    let name = c.args.name.now in
    let k = c.in-Some.number in
    let x = c.index-definitions-number.result in
    let placed : position (λ (d : DomainDef). text_eq d.domain.name name) ds ≡ Some k = sym (ap (λ (n : List ℕ). position (λ (d : DomainDef). text_eq d.domain.name n) ds) c.as_str.ensures) ∙ sym c.definition_named.ensures ∙ c.in-Some.is in
    let at : slice_get ds k ≡ Some x = slice_get_read ds (length ds) k x refl (position-Some (λ (d : DomainDef). text_eq d.domain.name name) ds k x placed).0 c.index-definitions-number.is in
    let found : defined_domain ds name ≡ Some x.domain = defined_at ds name k x placed at in
    c.in_ok-copied_domain-in-Some.ensures ∙ ap (λ (y : DomainDef). y.domain) (get_or_from_slice_get ds k x x at) ∙ sym (ap (λ (o : Option Domain). domain_for o (length q.signals) name) found)

pub returns-in-None-clause-room : goal.returns-in-None-clause-room
returns-in-None-clause-room c =
    let q = c.args.pool.now in
    let ds = c.args.definitions.now in
    let name = c.args.name.now in
    let nowhere : position (λ (d : DomainDef). text_eq d.domain.name name) ds ≡ None = sym (ap (λ (n : List ℕ). position (λ (d : DomainDef). text_eq d.domain.name n) ds) c.as_str.ensures) ∙ sym c.definition_named.ensures ∙ c.in-None.is in
    let none : defined_domain ds name ≡ None = defined_none ds name nowhere in
    subst (λ (o : Option Domain). OnOk c.domain_made.result (is_tight_for o q ≡ false)) (sym none) c.domain_made.ensures.room

pub returns-in-None-clause-pool : goal.returns-in-None-clause-pool
returns-in-None-clause-pool c =
    let q = c.args.pool.now in
    let ds = c.args.definitions.now in
    let name = c.args.name.now in
    let nowhere : position (λ (d : DomainDef). text_eq d.domain.name name) ds ≡ None = sym (ap (λ (n : List ℕ). position (λ (d : DomainDef). text_eq d.domain.name n) ds) c.as_str.ensures) ∙ sym c.definition_named.ensures ∙ c.in-None.is in
    let none : defined_domain ds name ≡ None = defined_none ds name nowhere in
    subst (λ (o : Option Domain). OnOk c.domain_made.result (c.domain_made.new.pool ≡ pool_for o q name)) (sym none) c.domain_made.ensures.pool

pub returns-in-None-clause-domain : goal.returns-in-None-clause-domain
returns-in-None-clause-domain c =
    let q = c.args.pool.now in
    let ds = c.args.definitions.now in
    let name = c.args.name.now in
    let nowhere : position (λ (d : DomainDef). text_eq d.domain.name name) ds ≡ None = sym (ap (λ (n : List ℕ). position (λ (d : DomainDef). text_eq d.domain.name n) ds) c.as_str.ensures) ∙ sym c.definition_named.ensures ∙ c.in-None.is in
    let none : defined_domain ds name ≡ None = defined_none ds name nowhere in
    subst (λ (o : Option Domain). IfOk c.domain_made.result (λ d. d ≡ domain_for o (length q.signals) name)) (sym none) c.domain_made.ensures.domain

pub returns-in-None-clause-refused : goal.returns-in-None-clause-refused
returns-in-None-clause-refused c =
    let q = c.args.pool.now in
    let ds = c.args.definitions.now in
    let name = c.args.name.now in
    let nowhere : position (λ (d : DomainDef). text_eq d.domain.name name) ds ≡ None = sym (ap (λ (n : List ℕ). position (λ (d : DomainDef). text_eq d.domain.name n) ds) c.as_str.ensures) ∙ sym c.definition_named.ensures ∙ c.in-None.is in
    let none : defined_domain ds name ≡ None = defined_none ds name nowhere in
    subst (λ (o : Option Domain). IfErr c.domain_made.result (IsOwed (limit_where (is_tight_for o q)))) (sym none) c.domain_made.ensures.refused
