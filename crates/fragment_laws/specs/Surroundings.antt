-- What a fragment finds around it: which clock domain each name stands for, and which signals come from outside. (Amaranth
-- guide: Clock domains)
use Rattle.std.specs.Prelude.{ℕ, Bool, List, map, Option}
use Rattle.std.specs.List.{find}
use Rattle.lists.specs.Texts.{text_eq}
use Rattle.design_ir.specs.declared.domain.Domain.{Domain}
use Rattle.design_ir.specs.declared.expr.Expr.{Expr}
use Rattle.design_ir.specs.declared.expr.Expr.TheVariants.{Reset}
use Rattle.design_ir.specs.Pools.{Pooled}
pub use Rattle.clock_domains.specs.Placed.{or_signal, reset_of}

-- each domain under the name by which the fragment knows it, and the signals whose numbers come from outside, clocks among
-- them
pub record Surroundings : Type 0 where
  pub domains : List Domain
  pub outside : ℕ → Bool

-- the domain that a name stands for
abbrev pub domain_of : List Domain → List ℕ → Option Domain
domain_of domains name = find (λ (d : Domain). text_eq d.name name) domains

-- the reset of a domain is read, and written, as the signal that it is; that of a domain that has none is 0
abbrev pub read_in : List Domain → Expr → Expr
read_in domains (Reset name place) = or_signal (Reset name place) (reset_of domains name)
read_in domains e = e

abbrev pub pool_in : List Domain → Pooled → Pooled
pool_in domains q = record q { exprs = map (read_in domains) q.exprs }
