-- The design that a module with those below it stands for, or the refusal of its domains or drivers. (Amaranth guide: Clock domains,
-- Elaboration; Amaranth standard library reference: Memory arrays. What these leave open, as which signals are ports, how they are named
-- and in which order refusals are told, is this project's own: docs/RULES.md.)
use Rattle.std.specs.Prelude.{◌≡◌, ℕ, suc, ◌+◌, ◌*◌, nat_lt, nat_le, ◌==◌, ◌&&◌, ◌||◌, not, Bool, true, false, if◌then◌else◌, List, [], ◌∷◌, ◌++◌, map, length, slice_index_or, position, pos, Option, Some, None, is_some, option_map, unwrap_or, Result, Ok, Err, codes}
use Rattle.std.specs.List.{flat_map, filter, filter_map, list_any, find, range_with_len}
use Rattle.std.specs.Option.{option_map_or}
use Rattle.std.specs.Fmt.{decimal}
use Rattle.lists.specs.Texts.{text_eq}
use Rattle.amh_host.specs.declared.place.Place.{Place}
use Rattle.shape_rules.specs.Forms.{unsigned}
use Rattle.design_ir.specs.declared.ids.DomainId.{DomainId}
use Rattle.design_ir.specs.declared.ids.SigId.{SigId}
use Rattle.design_ir.specs.declared.signal.Sig.{Sig}
use Rattle.design_ir.specs.declared.domain.Domain.{Domain}
use Rattle.design_ir.specs.declared.domain.DomainDef.{DomainDef}
use Rattle.design_ir.specs.declared.memory.MemRead.{MemRead}
use Rattle.design_ir.specs.declared.memory.Memory.{Memory}
use Rattle.design_ir.specs.declared.port.Port.{Port}
use Rattle.design_ir.specs.declared.port.Column.{Column}
use Rattle.design_ir.specs.declared.process.Side.{Side}
use Rattle.design_ir.specs.declared.process.Side.TheVariants.{Comb, Clocked}
use Rattle.design_ir.specs.declared.process.Process.{Process}
use Rattle.design_ir.specs.declared.process.DesignProcess.{DesignProcess}
use Rattle.design_ir.specs.declared.fragment.Fragment.{Fragment}
use Rattle.design_ir.specs.Pools.{Pooled}
use Rattle.design_ir.specs.PoolRules.{signal_bits}
use Rattle.design_ir.specs.Values.{signal_form}
use Rattle.design_ir.specs.Targets.{target_signals}
use Rattle.design_ir.specs.Guards.{Guarded, guarded, driven}
use Rattle.design_ir.specs.Circuits.{Circuit, is_among, option_test}
use Rattle.design_ir.specs.Designs.{share}
use Rattle.fragment_walks.specs.Reads.{data_signals, is_read, is_driven, is_given}
use Rattle.fragment_walks.specs.Held.{ResetCall, fragment_exprs, held_resets}
use Rattle.fragment_walks.specs.Walks.{Contents, side_name, all_contents, all_definitions, all_names}
use Rattle.clock_domains.specs.declared.top.TopPorts.{TopPorts}
use Rattle.clock_domains.specs.declared.top.TopPorts.TheVariants.{Members, Held, Loose}
use Rattle.clock_domains.specs.declared.stop.ResolveStop.{ResolveStop}
use Rattle.clock_domains.specs.declared.stop.ResolveStop.TheVariants.{DomainClash, NoReset, TwoDrivers, DrivenInput, Limit, NoMemory}
use Rattle.clock_domains.specs.Placed.{placed_pool}
use Rattle.clock_domains.specs.Resolvable.{top_inputs}

-- ---- domains: one for each name, in the order of fragments, and in each first of its definitions, then of its clocked sides, of its
-- memory ports and of the resets that it holds

-- each where it comes first
abbrev pub each_once : List (List ℕ) → List (List ℕ)
each_once [] = []
each_once (n ∷ more) = n ∷ filter (λ m. not (text_eq n m)) (each_once more)

abbrev pub domain_names : Pooled → Fragment → List (List ℕ)
domain_names q root = each_once (all_names q root)

-- the domain that a fragment defines with a name
abbrev pub defined_domain : List DomainDef → List ℕ → Option Domain
defined_domain definitions n = option_map (λ (d : DomainDef). d.domain) (find (λ (d : DomainDef). text_eq d.domain.name n) definitions)

-- the names with which no fragment defines one: their domains are made
abbrev pub undefined_names : List DomainDef → List (List ℕ) → List (List ℕ)
undefined_names definitions names = filter (λ n. not (is_some (defined_domain definitions n))) names

abbrev pub made_names : Pooled → Fragment → List (List ℕ)
made_names q root = undefined_names (all_definitions root) (domain_names q root)

-- the signals of domain `sync` are `clk` and `rst`, those of domain `x` are `x_clk` and `x_rst`
abbrev pub domain_prefix : List ℕ → List ℕ
domain_prefix name = if text_eq name (codes "sync") then [] else name ++ codes "_"

abbrev pub bit_signal : List ℕ → Sig
bit_signal name = record { name = name; shape = unsigned 1; init = pos 0; reset_less = false }

abbrev pub domain_signals : List ℕ → List Sig
domain_signals name = bit_signal (domain_prefix name ++ codes "clk") ∷ bit_signal (domain_prefix name ++ codes "rst") ∷ []

-- the pool with the signals of these domains
abbrev pub with_domains : Pooled → List (List ℕ) → Pooled
with_domains q names = record q { signals = q.signals ++ flat_map domain_signals names }

-- the clock of one that is made is the next signal, and its reset the one behind it; it rises, and resets at edges
abbrev pub domain_at : ℕ → List ℕ → Domain
domain_at n name = record { name = name; clk = record { 0 = n }; rst = Some (record { 0 = suc n }); falling = false; async_reset = false }

-- the domain of a name: the one that is defined, or one that is made, and the number of the next signal behind it
abbrev pub domain_for : Option Domain → ℕ → List ℕ → Domain
domain_for (Some d) n name = d
domain_for None n name = domain_at n name

abbrev pub number_after : Option Domain → ℕ → ℕ
number_after (Some d) n = n
number_after None n = n + 2

abbrev pub domains_from : List DomainDef → ℕ → List (List ℕ) → List Domain
domains_from definitions n [] = []
domains_from definitions n (name ∷ more) =
    let defined = defined_domain definitions name in domain_for defined n name ∷ domains_from definitions (number_after defined n) more

-- ---- refusals of domains

abbrev pub has_name : List (List ℕ) → List ℕ → Bool
has_name names name = list_any (text_eq name) names

abbrev pub first_of : {A : Type 0} → Option A → Option A → Option A
first_of None b = b
first_of (Some a) b = Some a

-- a definition clashes with one that has its name, or its clock: that is one domain under two names
abbrev pub clashes : DomainDef → DomainDef → Bool
clashes d e = text_eq d.domain.name e.domain.name || (e.domain.clk.0 == d.domain.clk.0)

-- that of the first definition that clashes with one before it
abbrev pub clash_after : List DomainDef → List DomainDef → Option ResolveStop
clash_after before [] = None
clash_after before (d ∷ more) =
    first_of (if list_any (clashes d) before then Some (DomainClash d.place) else None) (clash_after (before ++ d ∷ []) more)

-- a fragment defines the domain, and it has no reset
abbrev pub lacks_reset : List DomainDef → List ℕ → Bool
lacks_reset definitions name = option_map_or (λ (d : Domain). not (is_some d.rst)) (defined_domain definitions name) false

-- that of the first reset whose domain has none
abbrev pub reset_refusal : List DomainDef → List ResetCall → Option ResolveStop
reset_refusal definitions calls = option_map (λ (r : ResetCall). NoReset r.place) (find (λ (r : ResetCall). lacks_reset definitions r.domain) calls)

-- more domains than there may be, or too many signals with those that are made, or too many bits
abbrev pub is_past_limit : Pooled → List DomainDef → List (List ℕ) → Bool
is_past_limit q definitions names =
    let more : ℕ = 2 * length (undefined_names definitions names) in
    nat_lt 64 (length names) || (nat_lt 16384 (length q.signals + more) || nat_lt 262144 (signal_bits q.signals + more))

abbrev pub file_start : Place
file_start = record { line = 1; col = 1 }

abbrev pub limit_where : Bool → Option ResolveStop
limit_where passed = if passed then Some (Limit file_start) else None

-- ---- drivers

-- the clock of a domain, and a reset that acts at once: what no statement may drive
abbrev pub domain_inputs : Domain → List ℕ
domain_inputs d = d.clk.0 ∷ (if d.async_reset then option_map_or (λ (s : SigId). s.0 ∷ []) d.rst [] else [])

-- those of the domains, and the inputs among the members of the top
abbrev pub design_inputs : List Domain → TopPorts → List ℕ
design_inputs domains top = flat_map domain_inputs domains ++ top_inputs top

-- an input that a statement drives is told before a signal that another process drives
abbrev pub statement_refusal : Pooled → (inputs before : List ℕ) → Guarded → Option ResolveStop
statement_refusal q inputs before g =
    if share (target_signals q g.target.0) inputs then Some (DrivenInput g.place) else (if share (target_signals q g.target.0) before then Some (TwoDrivers g.place) else None)

-- that of the first statement that has one
abbrev pub first_refusal : (Guarded → Option ResolveStop) → List Guarded → Option ResolveStop
first_refusal refusal [] = None
first_refusal refusal (g ∷ more) = first_of (refusal g) (first_refusal refusal more)

-- a signal is the data of two read ports
abbrev pub has_twice : List ℕ → Bool
has_twice [] = false
has_twice (s ∷ more) = is_among more s || has_twice more

abbrev pub data_refusal : List Memory → Option ResolveStop
data_refusal ms = if has_twice (data_signals ms) then Some (TwoDrivers file_start) else None

-- processes in order, each after what those before it drive
abbrev pub driver_refusal : Pooled → (inputs before : List ℕ) → List Process → Option ResolveStop
driver_refusal q inputs before [] = None
driver_refusal q inputs before (p ∷ more) = first_of (first_refusal (statement_refusal q inputs before) (guarded [] p.body)) (driver_refusal q inputs (before ++ driven q p.body) more)

-- ---- processes: each with the number of its side's domain

abbrev pub domain_number : List Domain → Side → Option DomainId
domain_number domains Comb = None
domain_number domains (Clocked n) = option_map (λ (k : ℕ). record { 0 = k }) (position (λ (d : Domain). text_eq d.name n) domains)

abbrev pub process_in : List Domain → Process → DesignProcess
process_in domains p = record { domain = domain_number domains p.side; body = p.body }

-- ---- ports

abbrev pub signal_name : Pooled → ℕ → List ℕ
signal_name q s = (slice_index_or q.signals s (bit_signal [])).name

-- a domain names its clock and its reset, whatever they were called when they were made
abbrev pub name_by : Domain → ℕ → Option (List ℕ)
name_by d s =
    if d.clk.0 == s then Some (domain_prefix d.name ++ codes "clk") else (if option_test (λ (r : SigId). r.0 == s) d.rst then Some (domain_prefix d.name ++ codes "rst") else None)

-- the name that the first domain with this clock or reset gives it, else another one
abbrev pub name_among : List Domain → ℕ → List ℕ → List ℕ
name_among [] s other = other
name_among (d ∷ domains) s other = unwrap_or (name_by d s) (name_among domains s other)

-- the name under which a signal is shown: its own, but for the clocks and resets of domains
abbrev pub shown_name : Pooled → List Domain → ℕ → List ℕ
shown_name q domains s = name_among domains s (signal_name q s)

abbrev pub has_width : Pooled → ℕ → Bool
has_width q s = nat_le 1 (signal_form q.signals s).width

abbrev pub port_of : Pooled → List Domain → Bool → ℕ → Port
port_of q domains is_input s = record { name = shown_name q domains s; sig = record { 0 = s }; is_input = is_input }

-- the clock of a domain is an input, and so is its reset where nothing drives it
abbrev pub reset_port : Pooled → List Domain → (driven : ℕ → Bool) → SigId → List Port
reset_port q domains driven s = if driven s.0 then [] else port_of q domains true s.0 ∷ []

-- of one of these domains
abbrev pub ports_of_domain : Pooled → List Domain → (driven : ℕ → Bool) → Domain → List Port
ports_of_domain q domains driven d = port_of q domains true d.clk.0 ∷ option_map_or (reset_port q domains driven) d.rst []

abbrev pub domain_ports : Pooled → (driven : ℕ → Bool) → List Domain → List Port
domain_ports q driven domains = flat_map (ports_of_domain q domains driven) domains

-- what the top's own statements drive is an output, and what is read and driven nowhere an input
abbrev pub loose_port : Pooled → List Domain → List Process → Contents → ℕ → Option Port
loose_port q domains own all s =
    if is_driven q own s then Some (port_of q domains false s)
    else (if is_read q all.processes all.memories s && not (is_given q all.processes all.memories s) then Some (port_of q domains true s) else None)

-- a signal that the top holds under a name is an input where nothing drives it
abbrev pub held_port : List Domain → (driven : ℕ → Bool) → Port → Port
held_port domains driven p = record p { name = name_among domains p.sig.0 p.name; is_input = not (driven p.sig.0) }

-- members as they were given, held signals, loose signals in order of making
abbrev pub top_ports : Pooled → List Domain → List Process → Contents → TopPorts → List Port
top_ports q domains own all (Members given) = given
top_ports q domains own all (Held given) = map (held_port domains (is_given q all.processes all.memories)) given
top_ports q domains own all Loose = filter_map (loose_port q domains own all) (range_with_len 0 (length q.signals))

abbrev pub signals_of : List Port → List ℕ
signals_of ports = map (λ (p : Port). p.sig.0) ports

-- a signal that is a port already is not one again, and a signal without bits is none
abbrev pub and_new : Pooled → List Port → List Port → List Port
and_new q before ports = before ++ filter (λ (p : Port). not (is_among (signals_of before) p.sig.0) && has_width q p.sig.0) ports

-- ---- columns: the ports, and then the named registers, which clocked sides drive or clocked read ports give

abbrev pub is_clocked : Process → Bool
is_clocked p = is_some (side_name p.side)

-- the path of the first clocked process that drives a signal
abbrev pub process_path : Pooled → List Process → List (Option (List ℕ)) → ℕ → Option (List ℕ)
process_path q [] paths s = None
process_path q (p ∷ ps) [] s = None
process_path q (p ∷ ps) (path ∷ paths) s = if is_clocked p && is_among (driven q p.body) s then path else process_path q ps paths s

abbrev pub clocked_data : Memory → List ℕ
clocked_data m = map (λ (r : MemRead). r.word.0) (filter (λ (r : MemRead). is_some r.domain) m.reads)

-- the path of the first memory of which it is the data of a clocked read port
abbrev pub memory_path : List Memory → List (Option (List ℕ)) → ℕ → Option (List ℕ)
memory_path [] paths s = None
memory_path (m ∷ ms) [] s = None
memory_path (m ∷ ms) (path ∷ paths) s = if is_among (clocked_data m) s then path else memory_path ms paths s

-- the path under which a signal is named as a register: of the first that drives it, or else that gives it
abbrev pub register_path : Pooled → Contents → ℕ → Option (List ℕ)
register_path q all s =
    if is_driven q (filter is_clocked all.processes) s then process_path q all.processes all.paths s else memory_path all.memories all.memory_paths s

abbrev pub named_registers : Pooled → Contents → List Port → List ℕ
named_registers q all ports =
    filter (λ s. is_some (register_path q all s) && (not (is_among (signals_of ports) s) && has_width q s)) (range_with_len 0 (length q.signals))

abbrev pub numbered_name : List ℕ → ℕ → List ℕ
numbered_name name k = name ++ (codes "$" ++ decimal k)

-- a name that stands already gets the least number from 1 on with which it is new; of as many numbers as there are names
-- one is
abbrev pub fresh_name : List (List ℕ) → List ℕ → List ℕ
fresh_name names name =
    if has_name names name then unwrap_or (find (λ x. not (has_name names x)) (map (numbered_name name) (range_with_len 1 (length names)))) name else name

-- each column under a name that none before it has
abbrev pub columns_after : List (List ℕ) → List Column → List Column
columns_after names [] = []
columns_after names (c ∷ more) = record c { name = fresh_name names c.name } ∷ columns_after (names ++ fresh_name names c.name ∷ []) more

abbrev pub column_of_port : Port → Column
column_of_port p = record { name = p.name; sig = p.sig }

-- a register has the name under which it is shown behind its path
abbrev pub column_of_register : Pooled → List Domain → Contents → ℕ → Column
column_of_register q domains all s = record { name = unwrap_or (register_path q all s) [] ++ shown_name q domains s; sig = record { 0 = s } }

abbrev pub columns_of : Pooled → List Domain → Contents → List Port → List ℕ → List Column
columns_of q domains all ports registers = columns_after [] (map column_of_port ports ++ map (column_of_register q domains all) registers)

-- a port has the name of its column
abbrev pub ports_named : List Port → List Column → List Port
ports_named [] columns = []
ports_named (p ∷ ports) [] = []
ports_named (p ∷ ports) (c ∷ columns) = record p { name = c.name } ∷ ports_named ports columns

-- ---- the design

abbrev pub ports_of : Pooled → List Domain → List Process → Contents → TopPorts → List Port
ports_of q domains own all top = and_new q (domain_ports q (is_given q all.processes all.memories) domains) (top_ports q domains own all top)

abbrev pub circuit_with : Pooled → List Domain → Contents → List Port → List Column → Circuit
circuit_with q domains all ports columns = record { pool = q; processes = map (process_in domains) all.processes; memories = all.memories; domains = domains; ports = ports_named ports columns; columns = columns }

abbrev pub circuit_of : Pooled → List Domain → Contents → List Port → Circuit
circuit_of q domains all ports = circuit_with q domains all ports (columns_of q domains all ports (named_registers q all ports))

-- a refusal comes before what would be there
abbrev pub unless : Option ResolveStop → Result Circuit ResolveStop → Result Circuit ResolveStop
unless None r = r
unless (Some stop) r = Err stop

-- what is told of drivers: two read ports before all statements, and a statement that drives what a read port gives like one that drives
-- what an earlier one does
abbrev pub driver_stop : Pooled → List Domain → Contents → TopPorts → Option ResolveStop
driver_stop q domains all top = first_of (data_refusal all.memories) (driver_refusal q (design_inputs domains top) (data_signals all.memories) all.processes)

-- over the pool in which resets are signals, the drivers are told before there is a design
unfoldable pub resolved_in : Pooled → List Domain → List Process → Contents → TopPorts → Result Circuit ResolveStop
resolved_in q domains own all top = unless (driver_stop q domains all top) (Ok (circuit_of q domains all (ports_of q domains own all top)))

-- the pool with the signals of the domains that are made
abbrev pub made_pool : Pooled → Fragment → Pooled
made_pool q root = with_domains q (made_names q root)

abbrev pub made_domains : Pooled → Fragment → List Domain
made_domains q root = domains_from (all_definitions root) (length q.signals) (domain_names q root)

-- and with each reset that a fragment holds as the signal of its domain's reset
abbrev pub whole_pool : Pooled → Fragment → Pooled
whole_pool q root = placed_pool (made_domains q root) (made_pool q root) (fragment_exprs root)

-- what is told of domains: a clash before a reset that there is none of, and this before the limits
abbrev pub domain_stop : Pooled → Fragment → Option ResolveStop
domain_stop q root =
    let definitions = all_definitions root in
    first_of (clash_after [] definitions) (first_of (reset_refusal definitions (held_resets q (fragment_exprs root))) (limit_where (is_past_limit q definitions (domain_names q root))))

-- the domains are told before the drivers
unfoldable pub resolved : Pooled → Fragment → TopPorts → Result Circuit ResolveStop
resolved q root top = unless (domain_stop q root) (resolved_in (whole_pool q root) (made_domains q root) root.processes (all_contents root) top)

-- ---- refusals

-- a refusal is the definition's; want of memory may come at any time
abbrev pub IsResolveRefusal : Result Circuit ResolveStop → ResolveStop → Type 0
IsResolveRefusal owed NoMemory = Unit {0}
IsResolveRefusal owed (DomainClash p) = owed ≡ Err (DomainClash p)
IsResolveRefusal owed (NoReset p) = owed ≡ Err (NoReset p)
IsResolveRefusal owed (TwoDrivers p) = owed ≡ Err (TwoDrivers p)
IsResolveRefusal owed (DrivenInput p) = owed ≡ Err (DrivenInput p)
IsResolveRefusal owed (Limit p) = owed ≡ Err (Limit p)
