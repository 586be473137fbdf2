-- `ClockDomain(name=None, *, clk_edge="pos", reset_less=False, async_reset=False)`, its name and its reset, and `m.domains`. (Amaranth language
-- guide 0.5, "Clock domains". That the clock is no attribute, that `m.domains` is written alone, how a domain is named that is assigned to
-- nothing, and that `async_reset` is a boolean, is this project's own rule.)
use Rattle.std.specs.Prelude.{ℕ, ◌==◌, ◌&&◌, ◌++◌, nat_eq, not, Bool, true, false, if◌then◌else◌, List, [], ◌∷◌, drop, length, slice_get, Option, Some, None, codes, option_map, option_and_then}
use Rattle.std.specs.List.{starts_with}
use Rattle.lists.specs.Texts.{text_eq}
use Rattle.amh_host.specs.declared.place.Place.{Place}
use Rattle.py_values.specs.declared.val.Val.{Val}
use Rattle.py_values.specs.declared.val.Val.TheVariants as val
use Rattle.py_heap.specs.Heaps.{Seen, text_at}
use Rattle.py_frames.specs.declared.request.Answer.TheVariants as answer
use Rattle.py_frames.specs.declared.request.Cause.TheVariants.{Raised, Limit}
use Rattle.design_ir.specs.declared.ids.SigId.{SigId}
use Rattle.design_ir.specs.declared.signal.Sig.{Sig}
use Rattle.design_ir.specs.Circuits.{option_test}
use Rattle.clock_domains.specs.Resolved.{bit_signal, domain_prefix}
use Rattle.amh_things.specs.declared.thing.Reading.TheVariants as reading
use Rattle.amh_things.specs.Things.{read_as}
use Rattle.elab_store.specs.declared.domains.ClockDomain.{ClockDomain}
use Rattle.elab_store.specs.declared.kept.Kept.{Kept}
use Rattle.elab_store.specs.declared.kept.Kept.TheVariants as kept
use Rattle.elab_store.specs.Calls.{Called}
use Rattle.elab_store.specs.ClockDomains.{with_clock_domain, with_definition}
use Rattle.elab_store.specs.Stores.{Stored, Held, Answered, refused, given, next_thing, with_thing, kept_given, kept_of}
use Rattle.elab_components.specs.declared.interfaces.NewSignal.{NewSignal}
use Rattle.elab_components.specs.Signals.{call_name, domain_formed, signal_reset_less, signal_passes, with_signal}
use Rattle.elab_acts.specs.declared.domain_arguments.DomainArguments.{DomainArguments}
use Rattle.elab_acts.specs.declared.domain_arguments.Sampling.{Sampling}
use Rattle.elab_acts.specs.Submodules.{found_given}

-- ---- the arguments

abbrev pub no_domain_arguments : DomainArguments
no_domain_arguments = record { name = None; clk_edge = None; reset_less = None; async_reset = None }

-- an argument is given once
abbrev pub domain_once : Option Val → DomainArguments → Option DomainArguments
domain_once None args = Some args
domain_once (Some v) args = None

abbrev pub with_domain_keyword : List ℕ → Val → DomainArguments → Option DomainArguments
with_domain_keyword n v args =
    if text_eq n (codes "name") then domain_once args.name (record args { name = Some v })
    else (if text_eq n (codes "clk_edge") then domain_once args.clk_edge (record args { clk_edge = Some v })
    else (if text_eq n (codes "reset_less") then domain_once args.reset_less (record args { reset_less = Some v })
    else (if text_eq n (codes "async_reset") then domain_once args.async_reset (record args { async_reset = Some v }) else None)))

abbrev pub with_domain_keywords : List (List ℕ) → List Val → DomainArguments → Option DomainArguments
with_domain_keywords [] vs args = Some args
with_domain_keywords (n ∷ ns) [] args = None
with_domain_keywords (n ∷ ns) (v ∷ vs) args = option_and_then (with_domain_keywords ns vs) (with_domain_keyword n v args)

-- the name alone may be given by its place
abbrev pub placed_name : List Val → Option DomainArguments
placed_name [] = Some no_domain_arguments
placed_name (v ∷ []) = Some (record no_domain_arguments { name = Some v })
placed_name (v ∷ w ∷ vs) = None

abbrev pub domain_arguments : Called → Option DomainArguments
domain_arguments c = option_and_then (with_domain_keywords c.keywords c.keyword_vals) (placed_name c.placed)

-- ---- when registers sample, and how they are reset

-- an edge is `"pos"` or `"neg"`
abbrev pub edge_falls : List ℕ → Option Bool
edge_falls edge = if text_eq edge (codes "pos") then Some false else (if text_eq edge (codes "neg") then Some true else None)

abbrev pub is_falling : Seen → Option Val → Option Bool
is_falling s None = Some false
is_falling s (Some (val.Str x)) = edge_falls (text_at s x.0)
is_falling s (Some v) = None

-- `True` or `False`
abbrev pub resets_at_once : Option Val → Option Bool
resets_at_once None = Some false
resets_at_once (Some (val.Bool b)) = Some b
resets_at_once (Some v) = None

-- where there is no reset, none acts at once
abbrev pub sampling_said : Option Bool → Option Bool → Option Bool → Option Sampling
sampling_said (Some falling) (Some reset_less) (Some at_once) = Some (record { falling = falling; reset_less = reset_less; async_reset = at_once && not reset_less })
sampling_said None reset_less at_once = None
sampling_said (Some falling) None at_once = None
sampling_said (Some falling) (Some reset_less) None = None

abbrev pub domain_sampling : Seen → DomainArguments → Option Sampling
domain_sampling s args = sampling_said (is_falling s args.clk_edge) (signal_reset_less s args.reset_less) (resets_at_once args.async_reset)

-- ---- the name

-- a leading `cd_` is cut off
abbrev pub without_cd : List ℕ → List ℕ
without_cd name = if starts_with nat_eq name (codes "cd_") then drop 3 name else name

-- the name that is given, else that of the call without `cd_`
abbrev pub clock_domain_name : Seen → List ℕ → Option Val → Option (List ℕ)
clock_domain_name s name None = domain_formed (without_cd (call_name name))
clock_domain_name s name (Some val.None) = domain_formed (without_cd (call_name name))
clock_domain_name s name (Some (val.Str x)) = domain_formed (text_at s x.0)
clock_domain_name s name (Some v) = None

-- ---- the clock domain

-- the clock and the reset of `sync` are `clk` and `rst`, those of another domain `x` are `x_clk` and `x_rst`
abbrev pub clock_signal : List ℕ → Sig
clock_signal name = bit_signal (domain_prefix name ++ codes "clk")

abbrev pub reset_signal : List ℕ → Sig
reset_signal name = bit_signal (domain_prefix name ++ codes "rst")

abbrev pub next_signal : Held → SigId
next_signal h = record { 0 = length h.pool.signals }

-- a signal, the expression that it is, and the thing that stands for it
abbrev pub with_bit : Sig → Held → Held
with_bit x h = with_thing (read_as reading.Plain (record { 0 = length h.pool.exprs })) (with_signal x h)

abbrev pub clock_domain : List ℕ → Sampling → SigId → Option NewSignal → ClockDomain
clock_domain name sampling clk reset = record {
  domain = record { name = name; clk = clk; rst = option_map (λ (x : NewSignal). x.sig) reset; falling = sampling.falling; async_reset = sampling.async_reset };
  reset = option_map (λ (x : NewSignal). x.val) reset;
}

abbrev pub keeping_domain : ClockDomain → Stored → Stored
keeping_domain x s = record s { clock_domains = with_clock_domain x s.clock_domains }

abbrev pub clock_domain_kept : ClockDomain → Held → Answered
clock_domain_kept x h = kept_given (kept.ClockDomain (length h.store.clock_domains.made)) (record h { store = keeping_domain x h.store })

abbrev pub reset_made : List ℕ → Sampling → SigId → Held → Answered
reset_made name sampling clk h =
    if signal_passes h 1 then refused Limit h
    else clock_domain_kept (clock_domain name sampling clk (Some (record { sig = next_signal h; val = next_thing h }))) (with_bit (reset_signal name) h)

-- the clock, and behind it the reset; what was made before a count is passed stays, and the program ends there
abbrev pub clock_made : List ℕ → Sampling → Held → Answered
clock_made name sampling h =
    if signal_passes h 1 then refused Limit h
    else (if sampling.reset_less then clock_domain_kept (clock_domain name sampling (next_signal h) None) (with_bit (clock_signal name) h)
    else reset_made name sampling (next_signal h) (with_bit (clock_signal name) h))

-- all that raises is told before a signal is made
abbrev pub clock_domain_said : Option (List ℕ) → Option Sampling → Held → Answered
clock_domain_said (Some name) (Some sampling) h = clock_made name sampling h
clock_domain_said None sampling h = refused Raised h
clock_domain_said (Some name) None h = refused Raised h

abbrev pub clock_domain_from : Seen → List ℕ → Option DomainArguments → Held → Answered
clock_domain_from s name None h = refused Raised h
clock_domain_from s name (Some args) h = clock_domain_said (clock_domain_name s name args.name) (domain_sampling s args) h

abbrev pub clock_domain_called : Seen → Called → Held → Answered
clock_domain_called s c h = clock_domain_from s c.name (domain_arguments c) h

-- ---- its attributes: a domain without a reset has no `rst`

abbrev pub own_attribute : Option ClockDomain → List ℕ → Held → Answered
own_attribute None name h = refused Raised h
own_attribute (Some x) name h =
    if text_eq name (codes "rst") then found_given x.reset h
    else (if text_eq name (codes "name") then record { answer = answer.GiveText x.domain.name; held = h } else refused Raised h)

abbrev pub clock_domain_attribute : ℕ → List ℕ → Held → Answered
clock_domain_attribute k name h = own_attribute (slice_get h.store.clock_domains.made k) name h

-- ---- the definitions of a module

-- the number of the clock domain that a thing is
abbrev pub clock_domain_of : Option Kept → Option ℕ
clock_domain_of (Some (kept.ClockDomain k)) = Some k
clock_domain_of k = None

abbrev pub defining : ℕ → ℕ → Place → Stored → Stored
defining m k p s = record s { clock_domains = with_definition (record { of = m; clock_domain = k; place = p }) s.clock_domains }

abbrev pub domain_defined : ℕ → Option ℕ → Val → Place → Held → Answered
domain_defined m None gives p h = refused Raised h
domain_defined m (Some k) gives p h = given gives (record h { store = defining m k p h.store })

-- `m.domains += v`, which gives `m.domains`, the thing x, again
abbrev pub definition_added : ℕ → Val → Val → Place → Held → Answered
definition_added m v x p h = domain_defined m (clock_domain_of (kept_of h.store v)) x p h

abbrev pub has_domain_name : List ℕ → Stored → Option ℕ → Bool
has_domain_name name s None = false
has_domain_name name s (Some k) = option_test (λ (x : ClockDomain). text_eq x.domain.name name) (slice_get s.clock_domains.made k)

-- `m.domains.name = v`, where v is the clock domain of this name
abbrev pub definition_stored : ℕ → List ℕ → Val → Place → Held → Answered
definition_stored m name v p h = if has_domain_name name h.store (clock_domain_of (kept_of h.store v)) then definition_added m v val.None p h else refused Raised h

-- ---- assignment to `m.domains`: that of what `+=` gave

abbrev pub is_definitions_of : ℕ → Option Kept → Bool
is_definitions_of m (Some (kept.Definitions n)) = n == m
is_definitions_of m k = false

abbrev pub definitions_stored : ℕ → Val → Held → Answered
definitions_stored m v h = if is_definitions_of m (kept_of h.store v) then given val.None h else refused Raised h
