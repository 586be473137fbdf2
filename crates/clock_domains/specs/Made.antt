-- Domains as they are made one after another.
use Rattle.std.specs.Prelude.{◌≡◌, ℕ, ◌+◌, nat_lt, nat_le, ◌||◌, Bool, true, false, List, [], ◌∷◌, ◌++◌, length, position, is_some, Option, Some, None}
use Rattle.lists.specs.Texts.{text_eq}
use Rattle.design_ir.specs.declared.domain.Domain.{Domain}
use Rattle.design_ir.specs.declared.domain.DomainDef.{DomainDef}
use Rattle.design_ir.specs.declared.refusal.PoolStop.{PoolStop}
use Rattle.design_ir.specs.declared.refusal.PoolStop.TheVariants as pool
use Rattle.design_ir.specs.Pools.{Pooled}
use Rattle.design_ir.specs.PoolRules.{signal_bits, signal_added, signal_refusal}
use Rattle.clock_domains.specs.declared.stop.ResolveStop.{ResolveStop}
use Rattle.clock_domains.specs.declared.stop.ResolveStop.TheVariants as stop
use Rattle.clock_domains.specs.Resolved.{each_once, undefined_names, bit_signal, domain_signals, domain_for, file_start, limit_where, with_domains, domains_from, is_past_limit}
use Rattle.clock_domains.specs.Stops.{IsOwed}

abbrev pub limit : PoolStop → ResolveStop
limit x = stop.Limit file_start

abbrev pub stop_of : PoolStop → ResolveStop
stop_of pool.NoMemory = stop.NoMemory
stop_of pool.Width = stop.Limit file_start
stop_of pool.BadOperand = stop.Limit file_start
stop_of pool.Limit = stop.Limit file_start

-- one signal of one bit more
pub record IsMade (name : List ℕ) (old : Pooled) (s : ℕ) (new : Pooled) : Type 0 where
  pub accepted : signal_refusal old 1 ≡ None
  pub number : s ≡ length old.signals
  pub pool : new ≡ signal_added old (bit_signal name)

-- ---- a domain that is made

abbrev pub with_domain : Pooled → List ℕ → Pooled
with_domain q name = record q { signals = q.signals ++ domain_signals name }

-- there is no room for its signals
abbrev pub is_tight : Pooled → Bool
is_tight q = nat_lt 16384 (length q.signals + 2) || nat_lt 262144 (signal_bits q.signals + 2)

-- ---- the domain of a name, which is defined or is made

abbrev pub pool_for : Option Domain → Pooled → List ℕ → Pooled
pool_for (Some d) q name = q
pool_for None q name = with_domain q name

abbrev pub is_tight_for : Option Domain → Pooled → Bool
is_tight_for (Some d) q = false
is_tight_for None q = is_tight q

-- there is no room for it behind these
abbrev pub is_full : Option Domain → Pooled → List Domain → Bool
is_full defined q ds = nat_le 64 (length ds) || is_tight_for defined q

-- one with this name stands already
abbrev pub is_made : List Domain → List ℕ → Bool
is_made ds n = is_some (position (λ (d : Domain). text_eq d.name n) ds)

-- it is there behind the others, where there was none with its name
abbrev pub IsNameMade : Bool → Option Domain → List ℕ → Pooled → List Domain → Pooled → List Domain → Type 0
IsNameMade true defined n q ds q' ds' = (q' ≡ q) × (ds' ≡ ds)
IsNameMade false defined n q ds q' ds' =
    (is_full defined q ds ≡ false) × (q' ≡ pool_for defined q n) × (ds' ≡ ds ++ domain_for defined (length q.signals) n ∷ [])

abbrev pub IsNameOwed : Bool → Option Domain → Pooled → List Domain → ResolveStop → Type 0
IsNameOwed true defined q ds = IsOwed None
IsNameOwed false defined q ds = IsOwed (limit_where (is_full defined q ds))

-- ---- the domains of the first names

pub record AreMade (q : Pooled) (definitions : List DomainDef) (names : List (List ℕ)) (q' : Pooled) (ds : List Domain) : Type 0 where
  pub room : is_past_limit q definitions (each_once names) ≡ false
  pub pool : q' ≡ with_domains q (undefined_names definitions (each_once names))
  pub domains : ds ≡ domains_from definitions (length q.signals) (each_once names)
