-- What is held stays sound where clock domains are made and defined.
use Rattle.std.proofs.Common.{◌≡◌, ℕ, ◌≤◌, refl, ap, ◌∙◌, sym, Bool, true, false, List, [], ◌∷◌, ◌++◌, length, Option, Some, None, true≢false, is_some, arith}
use Rattle.std.specs.Prelude.{if◌then◌else◌, codes}
use Rattle.std.specs.List.{AllByRecursion, list_all}
use Rattle.std.proofs.lemmas.List.Sums.{AllPass-from_list_all}
use Rattle.lists.specs.Names.{IsName, continues_name}
use Rattle.lists.specs.Texts.{text_eq}
use Rattle.amh_host.specs.declared.place.Place.{Place}
use Rattle.identifiers.specs.Identifiers.{is_identifier}
use Rattle.identifiers.proofs.NameLaws.{identifier_is_name}
use Rattle.py_values.specs.declared.val.Val.{Val}
use Rattle.py_values.specs.declared.val.Val.TheVariants as val
use Rattle.py_heap.specs.Heaps.{Seen, text_at}
use Rattle.design_ir.specs.declared.ids.SigId.{SigId}
use Rattle.design_ir.specs.Pools.{Pooled}
use Rattle.design_ir.specs.PoolRules.{IsPool}
use Rattle.clock_domains.specs.Resolved.{bit_signal, domain_prefix}
use Rattle.amh_things.specs.declared.thing.Reading.TheVariants as reading
use Rattle.elab_store.specs.declared.domains.ClockDomain.{ClockDomain}
use Rattle.elab_store.specs.declared.kept.Kept.TheVariants as kept
use Rattle.elab_store.specs.Stores.{Held, Answered, next_thing, kept_of}
use Rattle.elab_store.specs.Sound.{IsBit, IsClockDomain, AreClockDomains, IsMachine, IsOwnMemory, HasOwnRegister, IsSound}
use Rattle.elab_store.proofs.Pools.{signal_there}
use Rattle.elab_store.proofs.MemoryLaws.{HasDataBelow, HasRegisterBelow, data_below, with_clock, register_with_clock, all_both}
use Rattle.clock_domains.specs.Resolvable.{domain_numbers}
use Rattle.elab_acts.proofs.EachLaws.{all_each}
use Rattle.elab_acts.specs.declared.domain_arguments.DomainArguments.{DomainArguments}
use Rattle.elab_acts.specs.declared.domain_arguments.Sampling.{Sampling}
use Rattle.elab_components.specs.Signals.{call_name, domain_formed, signal_passes}
use Rattle.elab_acts.specs.Submodules.{found_given}
use Rattle.elab_acts.specs.ClockDomains.{without_cd, domain_sampling, clock_domain_name, clock_signal, reset_signal, next_signal, with_bit, clock_domain, keeping_domain, clock_domain_kept, reset_made, clock_made, clock_domain_said, clock_domain_from, own_attribute, clock_domain_attribute, clock_domain_of, domain_defined, definition_added, has_domain_name, definition_stored, is_definitions_of, definitions_stored}
use Rattle.elab_acts.proofs.GrownLaws.{keeping_sound, name_more}
use Rattle.elab_acts.proofs.DomainLaws.{bit_stays, new_bit, domains_more}
use Rattle.elab_acts.proofs.SignalSound.{unlimited_sound}

pub if_sound : (b : Bool) (x y : Answered) → IsSound x.held → IsSound y.held → IsSound (if b then x else y).held
if_sound true x y h g = h
if_sound false x y h g = g

-- ---- names

-- an identifier other than `comb`
formed_name : (text name : List ℕ) → domain_formed text ≡ Some name → is_identifier name ≡ true
formed_name text name e = by_tests (text_eq text (codes "comb")) (is_identifier text) refl e
  where
    by_tests : (c b : Bool) → is_identifier text ≡ b → (if c then None else (if b then Some text else None)) ≡ Some name → is_identifier name ≡ true
    by_tests true b t e = absurd (true≢false (ap is_some (sym e)))
    by_tests false true t e = let same : text ≡ name = cc in ap is_identifier (sym same) ∙ t
    by_tests false false t e = absurd (true≢false (ap is_some (sym e)))

given_name : (s : Seen) (call : List ℕ) (o : Option Val) (name : List ℕ) → clock_domain_name s call o ≡ Some name → is_identifier name ≡ true
given_name s call None name e = formed_name (without_cd (call_name call)) name e
given_name s call (Some val.None) name e = formed_name (without_cd (call_name call)) name e
given_name s call (Some (val.Str x)) name e = formed_name (text_at s x.0) name e
given_name s call (Some (val.Bool b)) name e = absurd (true≢false (ap is_some (sym e)))
given_name s call (Some (val.Int b)) name e = absurd (true≢false (ap is_some (sym e)))
given_name s call (Some (val.Time b)) name e = absurd (true≢false (ap is_some (sym e)))
given_name s call (Some (val.List b)) name e = absurd (true≢false (ap is_some (sym e)))
given_name s call (Some (val.Tuple b)) name e = absurd (true≢false (ap is_some (sym e)))
given_name s call (Some (val.Dict b)) name e = absurd (true≢false (ap is_some (sym e)))
given_name s call (Some (val.Range b)) name e = absurd (true≢false (ap is_some (sym e)))
given_name s call (Some (val.Func b)) name e = absurd (true≢false (ap is_some (sym e)))
given_name s call (Some (val.Class b)) name e = absurd (true≢false (ap is_some (sym e)))
given_name s call (Some (val.Object b)) name e = absurd (true≢false (ap is_some (sym e)))
given_name s call (Some (val.Hw b)) name e = absurd (true≢false (ap is_some (sym e)))

clk_named : IsName (codes "clk")
clk_named = record { first = 99; rest = codes "lk"; whole = refl; starts = refl; continues = AllPass-from_list_all continues_name (codes "lk") refl }

rst_named : IsName (codes "rst")
rst_named = record { first = 114; rest = codes "st"; whole = refl; starts = refl; continues = AllPass-from_list_all continues_name (codes "st") refl }

-- a domain's signals have names
signal_named : (name end : List ℕ) → IsName name → IsName end → list_all continues_name end ≡ true → IsName (domain_prefix name ++ end)
signal_named name end n e all = by_test (text_eq name (codes "sync"))
  where
    by_test : (b : Bool) → IsName ((if b then [] else name ++ codes "_") ++ end)
    by_test true = e
    by_test false = name_more (name ++ codes "_") end (name_more name (codes "_") n refl) all

-- ---- the clock domain

bit_sound : (name : List ℕ) (h : Held) → IsName name → IsSound h → IsSound (with_bit (bit_signal name) h)
bit_sound name h named t = unlimited_sound reading.Plain (bit_signal name) h named t

-- memories had their data, and machines their registers, before the signals of the domain were made
pub record IsSince (p : Pooled) (x : ClockDomain) (h : Held) : Type 0 where
  pub past : AllByRecursion (λ n. length p.signals ≤ n) (domain_numbers x.domain)
  pub memories : AllByRecursion (HasDataBelow (length p.signals)) h.store.memories
  pub registers : AllByRecursion (HasRegisterBelow (length p.signals)) h.store.machines

with_domain_sound : (p : Pooled) (x : ClockDomain) (h : Held) → IsSound h → AreClockDomains p h.store.clock_domains.made → IsClockDomain h.pool x → length p.signals ≤ x.domain.clk.0 → IsSince p x h → IsSound (record h { store = keeping_domain x h.store })
with_domain_sound p x h t before new le since = record {
  names = t.names;
  things = t.things;
  kept = t.kept;
  modules = t.modules;
  machines = t.machines;
  domains = t.domains;
  additions = t.additions;
  clock_domains = domains_more p h.pool h.store.clock_domains.made x before t.clock_domains new le;
  components = t.components;
  memories = all_both (IsOwnMemory h.pool h.store.clock_domains.made h.store.components.objects) (HasDataBelow (length p.signals)) (IsOwnMemory h.pool (h.store.clock_domains.made ++ x ∷ []) h.store.components.objects) h.store.memories
      (with_clock h.pool h.store.clock_domains.made h.store.components.objects (length p.signals) x since.past) t.memories since.memories;
  registers = all_both (HasOwnRegister h.pool h.store.clock_domains.made h.store.memories) (HasRegisterBelow (length p.signals)) (HasOwnRegister h.pool (h.store.clock_domains.made ++ x ∷ []) h.store.memories) h.store.machines
      (register_with_clock h.pool h.store.clock_domains.made h.store.memories (length p.signals) x since.past) t.registers since.registers;
  wrappings = t.wrappings;
  waits = t.waits;
}

kept_sound : (p : Pooled) (x : ClockDomain) (h : Held) → IsSound h → AreClockDomains p h.store.clock_domains.made → IsClockDomain h.pool x → length p.signals ≤ x.domain.clk.0 → IsSince p x h → IsSound (clock_domain_kept x h).held
kept_sound p x h t before new le since = keeping_sound (record h { store = keeping_domain x h.store }) (kept.ClockDomain (length h.store.clock_domains.made)) (with_domain_sound p x h t before new le since) tt

module _ (name : List ℕ) (named : IsName name) (sampling : Sampling) where
  -- the pool p is that before the clock
  reset_sound : (p : Pooled) (clk : SigId) (h : Held) → IsSound h → AreClockDomains p h.store.clock_domains.made → IsBit h.pool clk → length p.signals ≤ clk.0 → AllByRecursion (HasDataBelow (length p.signals)) h.store.memories → AllByRecursion (HasRegisterBelow (length p.signals)) h.store.machines → IsSound (reset_made name sampling clk h).held
  reset_sound p clk h t before clock le low registers = if_sound (signal_passes h 1) _ _ t (
      kept_sound p (clock_domain name sampling clk (Some (record { sig = next_signal h; val = next_thing h }))) (with_bit (reset_signal name) h) after before (
      record {
        name = named;
        clock = bit_stays h.pool (with_bit (reset_signal name) h).pool (reset_signal name ∷ []) refl clk clock;
        reset = (new_bit h.pool (with_bit (reset_signal name) h).pool (reset_signal name) refl refl, clock.there);
      }
      ) le (record { past = (le, (omega (arith, le, clock.there), tt)); memories = low; registers = registers })
      )
    where
      after : IsSound (with_bit (reset_signal name) h)
      after = bit_sound (domain_prefix name ++ codes "rst") h (signal_named name (codes "rst") named rst_named refl) t

  made_sound : (h : Held) → IsPool h.pool → IsSound h → IsSound (clock_made name sampling h).held
  made_sound h rules t = if_sound (signal_passes h 1) _ _ t (by_reset sampling.reset_less)
    where
      after : IsSound (with_bit (clock_signal name) h)
      after = bit_sound (domain_prefix name ++ codes "clk") h (signal_named name (codes "clk") named clk_named refl) t

      clock : IsBit (with_bit (clock_signal name) h).pool (next_signal h)
      clock = new_bit h.pool (with_bit (clock_signal name) h).pool (clock_signal name) refl refl

      low : AllByRecursion (HasDataBelow (length h.pool.signals)) h.store.memories
      low = all_each (IsOwnMemory h.pool h.store.clock_domains.made h.store.components.objects) (HasDataBelow (length h.pool.signals)) h.store.memories (data_below h.pool h.store.clock_domains.made h.store.components.objects) t.memories

      registers : AllByRecursion (HasRegisterBelow (length h.pool.signals)) h.store.machines
      registers = all_each (IsMachine h.pool) (HasRegisterBelow (length h.pool.signals)) h.store.machines (λ m own. signal_there h.pool.signals [] h.pool.exprs m.machine.register.0 m.machine.signal rules.exprs own.register) t.machines

      by_reset : (b : Bool) → IsSound (if b then clock_domain_kept (clock_domain name sampling (next_signal h) None) (with_bit (clock_signal name) h) else reset_made name sampling (next_signal h) (with_bit (clock_signal name) h)).held
      by_reset true = kept_sound h.pool (clock_domain name sampling (next_signal h) None) (with_bit (clock_signal name) h) after t.clock_domains (record { name = named; clock = clock; reset = tt }) (omega arith) (record { past = (omega arith, tt); memories = low; registers = registers })
      by_reset false = reset_sound h.pool (next_signal h) (with_bit (clock_signal name) h) after t.clock_domains clock (omega arith) low registers

said_sound : (name : Option (List ℕ)) (o : Option Sampling) (h : Held) → IsPool h.pool → IsSound h → ((x : List ℕ) → name ≡ Some x → is_identifier x ≡ true) → IsSound (clock_domain_said name o h).held
said_sound None o h rules t named = t
said_sound (Some name) None h rules t named = t
said_sound (Some name) (Some sampling) h rules t named = made_sound name (identifier_is_name name (named name refl)) sampling h rules t

pub call_sound : (s : Seen) (name : List ℕ) (args : Option DomainArguments) (h : Held) → IsPool h.pool → IsSound h → IsSound (clock_domain_from s name args h).held
call_sound s name None h rules t = t
call_sound s name (Some args) h rules t = said_sound (clock_domain_name s name args.name) (domain_sampling s args) h rules t (λ x e. given_name s name args.name x e)

-- ---- attributes

found_sound : (o : Option Val) (h : Held) → IsSound h → IsSound (found_given o h).held
found_sound None h t = t
found_sound (Some v) h t = t

own_sound : (o : Option ClockDomain) (name : List ℕ) (h : Held) → IsSound h → IsSound (own_attribute o name h).held
own_sound None name h t = t
own_sound (Some x) name h t = if_sound (text_eq name (codes "rst")) _ _ (found_sound x.reset h t) (if_sound (text_eq name (codes "name")) _ _ t t)

pub attribute_sound : (k : ℕ) (name : List ℕ) (h : Held) → IsSound h → IsSound (clock_domain_attribute k name h).held
attribute_sound k name h t = own_sound _ name h t

-- ---- definitions

defined_sound : (m : ℕ) (o : Option ℕ) (gives : Val) (p : Place) (h : Held) → IsSound h → IsSound (domain_defined m o gives p h).held
defined_sound m None gives p h t = t
defined_sound m (Some k) gives p h t = record { names = t.names; things = t.things; kept = t.kept; modules = t.modules; machines = t.machines; domains = t.domains; additions = t.additions; clock_domains = t.clock_domains; memories = t.memories; registers = t.registers; wrappings = t.wrappings; waits = t.waits; components = t.components }

pub added_sound : (m : ℕ) (v x : Val) (p : Place) (h : Held) → IsSound h → IsSound (definition_added m v x p h).held
added_sound m v x p h t = defined_sound m (clock_domain_of (kept_of h.store v)) x p h t

pub stored_sound : (m : ℕ) (name : List ℕ) (v : Val) (p : Place) (h : Held) → IsSound h → IsSound (definition_stored m name v p h).held
stored_sound m name v p h t = if_sound (has_domain_name name h.store (clock_domain_of (kept_of h.store v))) _ _ (added_sound m v val.None p h t) t

pub definitions_sound : (m : ℕ) (v : Val) (h : Held) → IsSound h → IsSound (definitions_stored m v h).held
definitions_sound m v h t = if_sound (is_definitions_of m (kept_of h.store v)) _ _ t t
