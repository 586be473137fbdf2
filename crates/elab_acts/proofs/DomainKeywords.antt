-- The keywords of a clock domain.
use Rattle.std.proofs.Common.{◌≡◌, ℕ, ◌<◌, refl, List, [], ◌∷◌, length, None, arith}
use Rattle.py_values.specs.declared.val.Val.{Val}
use Rattle.elab_acts.specs.declared.domain_arguments.DomainArguments.{DomainArguments}
use Rattle.elab_acts.specs.ClockDomains.{with_domain_keywords}

pub keywords_none : (ns : List (List ℕ)) (vs : List Val) (args : DomainArguments) → 0 < length ns → length vs ≡ 0 → with_domain_keywords ns vs args ≡ None
keywords_none [] vs args h1 h2 = absurd (omega arith)
keywords_none (n ∷ ns) [] args h1 h2 = refl
keywords_none (n ∷ ns) (v ∷ vs) args h1 h2 = absurd (omega arith)
