-- Domains of an event.
use Rattle.std.proofs.Common.{◌≡◌, refl, sym, ◌∙◌, ap, subst, ℕ, ◌<◌, ◌==◌, Bool, true, false, List, [], ◌∷◌}
use Rattle.std.specs.Prelude.{◌||◌}
use Rattle.std.specs.List.{AllByRecursion, list_any}
use Rattle.std.proofs.lemmas.Bool.{eqb-true}
use Rattle.design_ir.specs.declared.ids.DomainId.{DomainId}

-- a domain that is listed is as each one of the list
pub listed_within : (n k : ℕ) (ds : List DomainId) → AllByRecursion (λ (d : DomainId). d.0 < n) ds → list_any (λ (d : DomainId). d.0 == k) ds ≡ true → k < n
listed_within n k [] all is = absurd ((cc))
listed_within n k (d ∷ ds) all is = by_test (d.0 == k) refl (listed_within n k ds all.1)
  where
    by_test : (b : Bool) → (d.0 == k) ≡ b → (list_any (λ (x : DomainId). x.0 == k) ds ≡ true → k < n) → k < n
    by_test true e others = subst (λ i. i < n) (eqb-true d.0 k e) all.0
    by_test false e others = others (sym (ap (λ b. b || list_any (λ (x : DomainId). x.0 == k) ds) e) ∙ is)
