-- Clock domains that a program makes, and which module defines which. (Amaranth language guide 0.5, "Clock domains".)
use Rattle.std.specs.Prelude.{ℕ, ◌==◌, if◌then◌else◌, List, [], ◌∷◌, ◌++◌, slice_get, Option, None, option_map}
use Rattle.std.specs.List.{filter_map}
use Rattle.design_ir.specs.declared.domain.DomainDef.{DomainDef}
use Rattle.elab_store.specs.declared.domains.ClockDomain.{ClockDomain}
use Rattle.elab_store.specs.declared.domains.Definition.{Definition}

pub record ClockDomains : Type 0 where
  -- those that were made, in order
  pub made : List ClockDomain
  -- all definitions, in order
  pub definitions : List Definition

-- before the body of a program
abbrev pub no_clock_domains : ClockDomains
no_clock_domains = record { made = []; definitions = [] }

abbrev pub with_clock_domain : ClockDomain → ClockDomains → ClockDomains
with_clock_domain x t = record t { made = t.made ++ x ∷ [] }

abbrev pub with_definition : Definition → ClockDomains → ClockDomains
with_definition d t = record t { definitions = t.definitions ++ d ∷ [] }

-- ---- the definitions of a module

-- a definition as a fragment has it
abbrev pub definition_of : List ClockDomain → Definition → Option DomainDef
definition_of made d = option_map (λ (x : ClockDomain). record { domain = x.domain; place = d.place }) (slice_get made d.clock_domain)

abbrev pub definition_in : ℕ → List ClockDomain → Definition → Option DomainDef
definition_in m made d = if d.of == m then definition_of made d else None

-- those of module m, in order
abbrev pub defined_by : ℕ → ClockDomains → List DomainDef
defined_by m t = filter_map (definition_in m t.made) t.definitions
