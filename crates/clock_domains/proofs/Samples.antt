-- Small modules and what they come to, by computation.
use Rattle.std.proofs.Common.{inl}
use Rattle.std.specs.Prelude.{◌≡◌, refl, ℕ, true, false, List, [], ◌∷◌, ◌++◌, map, pos, Option, Some, None, Result, Ok, Err, codes}
use Rattle.std.specs.Fmt.{digits}
use Rattle.shape_rules.specs.Forms.{unsigned}
use Rattle.amh_host.specs.declared.place.Place.{Place}
use Rattle.design_ir.specs.declared.ids.SigId.{SigId}
use Rattle.design_ir.specs.declared.signal.Sig.{Sig}
use Rattle.design_ir.specs.declared.domain.Domain.{Domain}
use Rattle.design_ir.specs.declared.domain.DomainDef.{DomainDef}
use Rattle.design_ir.specs.declared.expr.Expr.{Expr}
use Rattle.design_ir.specs.declared.expr.Expr.TheVariants as expr
use Rattle.design_ir.specs.declared.memory.MemRead.{MemRead}
use Rattle.design_ir.specs.declared.memory.Memory.{Memory}
use Rattle.design_ir.specs.declared.port.Port.{Port}
use Rattle.design_ir.specs.declared.port.Column.{Column}
use Rattle.design_ir.specs.declared.process.Side.{Side}
use Rattle.design_ir.specs.declared.process.Side.TheVariants.{Comb, Clocked}
use Rattle.design_ir.specs.declared.process.Process.{Process}
use Rattle.design_ir.specs.declared.fragment.Fragment.{Fragment}
use Rattle.design_ir.specs.Forests.{Forest, bare, grown}
use Rattle.design_ir.specs.Trees.{Block, done, next, Statement, assign}
use Rattle.design_ir.specs.Pools.{Pooled}
use Rattle.design_ir.specs.Targets.{target_signals}
use Rattle.design_ir.specs.Circuits.{Circuit}
use Rattle.fragment_walks.specs.Held.{held_resets, inside}
use Rattle.fragment_walks.specs.Reads.{signals_in, offsets_in}
use Rattle.clock_domains.specs.declared.top.TopPorts.TheVariants.{Held, Members, Loose}
use Rattle.clock_domains.specs.declared.stop.ResolveStop.{ResolveStop}
use Rattle.clock_domains.specs.declared.stop.ResolveStop.TheVariants.{DomainClash, DrivenInput, NoReset, TwoDrivers}
use Rattle.clock_domains.specs.Placed.{placed_pool}
use Rattle.clock_domains.specs.Resolvable.{AreApart}
use Rattle.clock_domains.specs.Resolved.{domain_prefix, domain_names, columns_after, resolved_in, resolved}

place : ℕ → Place
place line = record { line = line; col = 13 }

set : ℕ → ℕ → ℕ → Statement
unfolding place
set line target value = assign (record { 0 = target }) (record { 0 = value }) (place line)

one_bit : List ℕ → Sig
one_bit name = record { name = name; shape = unsigned 1; init = pos 0; reset_less = false }

-- two signals `a` and `b`, and their expressions
pool : Pooled
unfolding one_bit
pool = record { signals = one_bit (codes "a") ∷ one_bit (codes "b") ∷ []; exprs = expr.Sig (record { 0 = 0 }) ∷ expr.Sig (record { 0 = 1 }) ∷ [] }

module_of : List Process → Fragment
module_of ps = record { name = codes "m"; is_part = false; domains = []; processes = ps; memories = []; submodules = bare }

under : Side → List Statement → Process
under side ss = record { side = side; body = block ss }
  where
    block : List Statement → Block
    block [] = done
    block (s ∷ ss) = next s (block ss)

at : List ℕ → ℕ → Column
at name s = record { name = name; sig = record { 0 = s } }

shown : Result Circuit ResolveStop → List Port
shown (Ok c) = c.ports
shown (Err stop) = []

port : List ℕ → ℕ → Port
port name s = record { name = name; sig = record { 0 = s }; is_input = true }

-- `m.d.sync += b.eq(a)`: the clock and the reset of `sync`, then `a`, which is read, and `b`, which is driven
registered : Fragment
unfolding module_of under set place
registered = module_of (under (Clocked (codes "sync")) (set 5 1 0 ∷ []) ∷ [])

sync_ports : shown (resolved pool registered Loose) ≡ port (codes "clk") 2 ∷ port (codes "rst") 3 ∷ port (codes "a") 0 ∷ record (port (codes "b") 1) { is_input = false } ∷ []
unfolding resolved_in resolved held_resets inside placed_pool registered module_of under set place pool one_bit shown port target_signals signals_in offsets_in
sync_ports = refl

-- one signal from two domains: the second statement is told
twice : Fragment
unfolding module_of under set place
twice = module_of (under (Clocked (codes "sync")) (set 4 1 0 ∷ []) ∷ under (Clocked (codes "fast")) (set 5 1 0 ∷ []) ∷ [])

two_drivers : resolved pool twice Loose ≡ Err (TwoDrivers (place 5))
unfolding resolved_in resolved held_resets inside placed_pool twice module_of under set place pool one_bit target_signals
two_drivers = refl

-- the member `b` is an input, so its first statement is told, although a later one drives it from another domain
driven_input : resolved pool twice (Members (port (codes "b") 1 ∷ [])) ≡ Err (DrivenInput (place 4))
unfolding resolved_in resolved held_resets inside placed_pool twice module_of under set place pool one_bit port target_signals
driven_input = refl

-- ---- modules below the top

-- a module with these processes and none below it, before others
leaf : List ℕ → List Process → Forest → Forest
leaf name ps rest = grown (record { name = name; is_part = false; domains = []; processes = ps; memories = [] }) bare rest

over : Forest → Fragment
over below = record { name = codes "m"; is_part = false; domains = []; processes = []; memories = []; submodules = below }

-- the statement `m.d.sync += b.eq(a)` in a submodule `sub`
one_below : Fragment
unfolding over leaf under set place
one_below = over (leaf (codes "sub") (under (Clocked (codes "sync")) (set 5 1 0 ∷ []) ∷ []) bare)

-- what a submodule alone drives is no port of the top
below_ports : shown (resolved pool one_below Loose) ≡ port (codes "clk") 2 ∷ port (codes "rst") 3 ∷ port (codes "a") 0 ∷ []
unfolding resolved_in resolved held_resets inside placed_pool one_below over leaf under set place pool one_bit shown port target_signals signals_in offsets_in
below_ports = refl

shown_columns : Result Circuit ResolveStop → List Column
shown_columns (Ok c) = c.columns
shown_columns (Err stop) = []

-- a register has the path of the submodule that drives it
below_columns : shown_columns (resolved pool one_below Loose) ≡ at (codes "clk") 2 ∷ at (codes "rst") 3 ∷ at (codes "a") 0 ∷ at (codes "sub.b") 1 ∷ []
unfolding resolved_in resolved held_resets inside placed_pool one_below over leaf under set place pool one_bit shown_columns at target_signals signals_in offsets_in
below_columns = refl

-- one signal from two modules in one domain: the second statement is told
two_below : Fragment
unfolding over leaf under set place
two_below = over (leaf (codes "first") (under (Clocked (codes "sync")) (set 4 1 0 ∷ []) ∷ []) (leaf (codes "second") (under (Clocked (codes "sync")) (set 5 1 0 ∷ []) ∷ []) bare))

two_modules : resolved pool two_below Loose ≡ Err (TwoDrivers (place 5))
unfolding resolved_in resolved held_resets inside placed_pool two_below over leaf under set place pool one_bit target_signals
two_modules = refl

-- ---- domains that modules define

-- the signals `a` and `b`, and `c` and `r` for the clock and the reset of a domain; and their expressions
wide_pool : Pooled
unfolding one_bit
wide_pool = record {
  signals = one_bit (codes "a") ∷ one_bit (codes "b") ∷ one_bit (codes "c") ∷ one_bit (codes "r") ∷ [];
  exprs = expr.Sig (record { 0 = 0 }) ∷ expr.Sig (record { 0 = 1 }) ∷ expr.Sig (record { 0 = 2 }) ∷ expr.Sig (record { 0 = 3 }) ∷ [];
}

-- `m.domains.NAME = cd`, of signal 2 and a reset, where there is one
define : ℕ → List ℕ → Option SigId → DomainDef
unfolding place
define line name reset = record { domain = record { name = name; clk = record { 0 = 2 }; rst = reset; falling = false; async_reset = false }; place = place line }

with_reset : Option SigId
with_reset = Some (record { 0 = 3 })

-- another one, of signal 3 alone
beside : ℕ → List ℕ → DomainDef
unfolding place
beside line name = record { domain = record { name = name; clk = record { 0 = 3 }; rst = None; falling = false; async_reset = false }; place = place line }

defining : List DomainDef → List Process → Forest → Fragment
defining ds ps below = record { name = codes "m"; is_part = false; domains = ds; processes = ps; memories = []; submodules = below }

defining_leaf : List ℕ → List DomainDef → List Process → Forest
defining_leaf name ds ps = grown (record { name = name; is_part = false; domains = ds; processes = ps; memories = [] }) bare bare

shown_domains : Result Circuit ResolveStop → List Domain
shown_domains (Ok c) = c.domains
shown_domains (Err stop) = []

-- a submodule defines `sync`, which the module above it uses: nothing is made, and the domain's own signals are its ports, under the names
-- that the domain gives them
used_above : Fragment
unfolding defining defining_leaf define with_reset under set place
used_above = defining [] (under (Clocked (codes "sync")) (set 5 1 0 ∷ []) ∷ []) (defining_leaf (codes "sub") (define 3 (codes "sync") with_reset ∷ []) [])

above_ports : shown (resolved wide_pool used_above Loose) ≡ port (codes "clk") 2 ∷ port (codes "rst") 3 ∷ port (codes "a") 0 ∷ record (port (codes "b") 1) { is_input = false } ∷ []
unfolding resolved_in resolved held_resets inside placed_pool used_above defining defining_leaf define with_reset under set place wide_pool one_bit shown port target_signals signals_in offsets_in
above_ports = refl

-- one that is reset_less has a clock alone
without_reset : Fragment
unfolding defining define under set place
without_reset = defining (define 3 (codes "sync") None ∷ []) (under (Clocked (codes "sync")) (set 5 1 0 ∷ []) ∷ []) bare

clock_alone : shown (resolved wide_pool without_reset Loose) ≡ port (codes "clk") 2 ∷ port (codes "a") 0 ∷ record (port (codes "b") 1) { is_input = false } ∷ []
unfolding resolved_in resolved held_resets inside placed_pool without_reset defining define under set place wide_pool one_bit shown port target_signals signals_in offsets_in
clock_alone = refl

-- the top drives the reset: it is an output then
driving_reset : Fragment
unfolding defining define with_reset under set place
driving_reset = defining (define 3 (codes "sync") with_reset ∷ []) (under Comb (set 4 3 0 ∷ []) ∷ under (Clocked (codes "sync")) (set 5 1 0 ∷ []) ∷ []) bare

driven_reset : shown (resolved wide_pool driving_reset Loose) ≡ port (codes "clk") 2 ∷ port (codes "a") 0 ∷ record (port (codes "b") 1) { is_input = false } ∷ record (port (codes "rst") 3) { is_input = false } ∷ []
unfolding resolved_in resolved held_resets inside placed_pool driving_reset defining define with_reset under set place wide_pool one_bit shown port target_signals signals_in offsets_in
driven_reset = refl

-- a clock is never driven
driving_clock : Fragment
unfolding defining define with_reset under set place
driving_clock = defining (define 3 (codes "sync") with_reset ∷ []) (under Comb (set 4 2 0 ∷ []) ∷ []) bare

driven_clock : resolved wide_pool driving_clock Loose ≡ Err (DrivenInput (place 4))
unfolding resolved_in resolved held_resets inside placed_pool driving_clock defining define with_reset under set place wide_pool one_bit target_signals
driven_clock = refl

-- nor is a reset that acts at once
at_once : List DomainDef
unfolding place
at_once = record { domain = record { name = codes "sync"; clk = record { 0 = 2 }; rst = Some (record { 0 = 3 }); falling = true; async_reset = true }; place = place 3 } ∷ []

driving_at_once : Fragment
unfolding defining at_once under set place
driving_at_once = defining at_once (under Comb (set 4 3 0 ∷ []) ∷ []) bare

driven_at_once : resolved wide_pool driving_at_once Loose ≡ Err (DrivenInput (place 4))
unfolding resolved_in resolved held_resets inside placed_pool driving_at_once defining at_once under set place wide_pool one_bit target_signals
driven_at_once = refl

-- it is an input
using_at_once : Fragment
unfolding defining at_once under set place
using_at_once = defining at_once (under (Clocked (codes "sync")) (set 5 1 0 ∷ []) ∷ []) bare

at_once_ports : shown (resolved wide_pool using_at_once Loose) ≡ port (codes "clk") 2 ∷ port (codes "rst") 3 ∷ port (codes "a") 0 ∷ record (port (codes "b") 1) { is_input = false } ∷ []
unfolding resolved_in resolved held_resets inside placed_pool using_at_once defining at_once under set place wide_pool one_bit shown port target_signals signals_in offsets_in
at_once_ports = refl

-- a name that two modules define is told where it is defined again, and before the clock that is driven
twice_defined : Fragment
unfolding defining defining_leaf define with_reset under set place
twice_defined = defining (define 3 (codes "sync") with_reset ∷ []) (under Comb (set 4 2 0 ∷ []) ∷ []) (defining_leaf (codes "sub") (define 7 (codes "sync") None ∷ []) [])

told_again : resolved wide_pool twice_defined Loose ≡ Err (DomainClash (place 7))
unfolding resolved held_resets inside twice_defined defining defining_leaf define with_reset under set place
told_again = refl

-- a module's definitions come before its statements, and these before the modules below it; a name comes once
in_order : Fragment
unfolding defining defining_leaf define beside under set place
in_order = defining (define 3 (codes "slow") None ∷ []) (under (Clocked (codes "sync")) (set 4 0 1 ∷ []) ∷ []) (defining_leaf (codes "sub") (beside 5 (codes "fast") ∷ []) (under (Clocked (codes "slow")) (set 6 1 0 ∷ []) ∷ []))

order_names : domain_names wide_pool in_order ≡ codes "slow" ∷ codes "sync" ∷ codes "fast" ∷ []
unfolding held_resets inside in_order defining defining_leaf define beside under set place wide_pool one_bit
order_names = refl

-- the signals of `sync`, which no module defines, are made behind the others
made_beside : shown_domains (resolved wide_pool in_order Loose)
    ≡ record { name = codes "slow"; clk = record { 0 = 2 }; rst = None; falling = false; async_reset = false } ∷ record { name = codes "sync"; clk = record { 0 = 4 }; rst = Some (record { 0 = 5 }); falling = false; async_reset = false }
    ∷ record { name = codes "fast"; clk = record { 0 = 3 }; rst = None; falling = false; async_reset = false } ∷ []
unfolding resolved_in resolved held_resets inside placed_pool in_order defining defining_leaf define beside under set place wide_pool one_bit shown_domains target_signals signals_in offsets_in
made_beside = refl

-- ---- definitions that were renamed

-- one domain under two names
renamed_apart : AreApart (define 3 (codes "sync") with_reset) (define 7 (codes "fast") with_reset)
unfolding define
renamed_apart = inl refl

-- it clashes with itself, which is told where it is defined again
two_names : Fragment
unfolding defining defining_leaf define with_reset
two_names = defining (define 3 (codes "sync") with_reset ∷ []) [] (defining_leaf (codes "sub") (define 7 (codes "fast") with_reset ∷ []) [])

told_renamed : resolved wide_pool two_names Loose ≡ Err (DomainClash (record { line = 7; col = 13 }))
unfolding resolved held_resets inside two_names defining defining_leaf define with_reset place
told_renamed = refl

-- the signals `clk` and `rst` were made for `sync`, of which the definition was renamed to `fast`
renamed_pool : Pooled
unfolding one_bit
renamed_pool = record {
  signals = one_bit (codes "a") ∷ one_bit (codes "b") ∷ one_bit (codes "clk") ∷ one_bit (codes "rst") ∷ [];
  exprs = expr.Sig (record { 0 = 0 }) ∷ expr.Sig (record { 0 = 1 }) ∷ expr.Sig (record { 0 = 2 }) ∷ expr.Sig (record { 0 = 3 }) ∷ [];
}

-- `sync` is used beside it, and made
renamed : Fragment
unfolding defining define with_reset under set place
renamed = defining (define 3 (codes "fast") with_reset ∷ []) (under (Clocked (codes "sync")) (set 5 1 0 ∷ []) ∷ []) bare

renamed_ports : shown (resolved renamed_pool renamed Loose) ≡ port (codes "fast_clk") 2 ∷ port (codes "fast_rst") 3 ∷ port (codes "clk") 4 ∷ port (codes "rst") 5 ∷ port (codes "a") 0 ∷ record (port (codes "b") 1) { is_input = false } ∷ []
unfolding resolved_in resolved held_resets inside placed_pool renamed defining define with_reset under set place renamed_pool one_bit shown port target_signals signals_in offsets_in
renamed_ports = refl

-- the top holds the reset, which it drives, as `r`, and `a` as `go`: the domain names its reset alone
renamed_held : Fragment
unfolding defining define with_reset under set place
renamed_held = defining (define 3 (codes "fast") with_reset ∷ []) (under Comb (set 4 3 0 ∷ []) ∷ []) bare

held_ports : shown (resolved renamed_pool renamed_held (Held (port (codes "r") 3 ∷ port (codes "go") 0 ∷ []))) ≡ port (codes "fast_clk") 2 ∷ record (port (codes "fast_rst") 3) { is_input = false } ∷ port (codes "go") 0 ∷ []
unfolding resolved_in resolved held_resets inside placed_pool renamed_held defining define with_reset under set place renamed_pool one_bit shown port target_signals signals_in offsets_in
held_ports = refl

-- members keep the names that they were given
member_ports : shown (resolved renamed_pool renamed_held (Members (record (port (codes "r") 3) { is_input = false } ∷ []))) ≡ port (codes "fast_clk") 2 ∷ record (port (codes "r") 3) { is_input = false } ∷ []
unfolding resolved_in resolved held_resets inside placed_pool renamed_held defining define with_reset under set place renamed_pool one_bit shown port target_signals signals_in offsets_in
member_ports = refl

-- a submodule drives it at the edges of its own domain: so it is a register
renamed_register : Fragment
unfolding defining defining_leaf define with_reset under set place
renamed_register = defining [] [] (defining_leaf (codes "sub") (define 3 (codes "fast") with_reset ∷ []) (under (Clocked (codes "fast")) (set 5 3 0 ∷ []) ∷ []))

register_columns : shown_columns (resolved renamed_pool renamed_register Loose) ≡ at (codes "fast_clk") 2 ∷ at (codes "a") 0 ∷ at (codes "sub.fast_rst") 3 ∷ []
unfolding resolved_in resolved held_resets inside placed_pool renamed_register defining defining_leaf define with_reset under set place renamed_pool one_bit shown_columns at target_signals signals_in offsets_in
register_columns = refl

-- ---- resets that modules hold

-- the signals `a` and `b` with their expressions, and `ResetSignal("fast")`
reset_pool : Pooled
unfolding one_bit place
reset_pool = record {
  signals = one_bit (codes "a") ∷ one_bit (codes "b") ∷ [];
  exprs = expr.Sig (record { 0 = 0 }) ∷ expr.Sig (record { 0 = 1 }) ∷ expr.Reset (codes "fast") (place 7) ∷ [];
}

shown_exprs : Result Circuit ResolveStop → List Expr
shown_exprs (Ok c) = c.pool.exprs
shown_exprs (Err stop) = []

-- `m.d.sync += b.eq(ResetSignal("fast"))`: the side's domain comes before that of the reset, which is an input
reading_reset : Fragment
unfolding module_of under set place
reading_reset = module_of (under (Clocked (codes "sync")) (set 7 1 2 ∷ []) ∷ [])

reset_ports : shown (resolved reset_pool reading_reset Loose) ≡ port (codes "clk") 2 ∷ port (codes "rst") 3 ∷ port (codes "fast_clk") 4 ∷ port (codes "fast_rst") 5 ∷ record (port (codes "b") 1) { is_input = false } ∷ []
unfolding resolved_in resolved held_resets inside placed_pool reading_reset module_of under set place reset_pool one_bit shown port target_signals signals_in offsets_in
reset_ports = refl

-- it is the signal of that reset, in its own place
reset_is_signal : shown_exprs (resolved reset_pool reading_reset Loose) ≡ expr.Sig (record { 0 = 0 }) ∷ expr.Sig (record { 0 = 1 }) ∷ expr.Sig (record { 0 = 5 }) ∷ []
unfolding resolved_in resolved held_resets inside placed_pool reading_reset module_of under set place reset_pool one_bit shown_exprs target_signals signals_in offsets_in
reset_is_signal = refl

-- `m.d.comb += ResetSignal("fast").eq(a)`: what is driven is no input
writing_reset : Fragment
unfolding module_of under set place
writing_reset = module_of (under Comb (set 7 2 0 ∷ []) ∷ [])

written_ports : shown (resolved reset_pool writing_reset Loose) ≡ port (codes "fast_clk") 2 ∷ port (codes "a") 0 ∷ record (port (codes "fast_rst") 3) { is_input = false } ∷ []
unfolding resolved_in resolved held_resets inside placed_pool writing_reset module_of under set place reset_pool one_bit shown port target_signals signals_in offsets_in
written_ports = refl

-- one that no module holds uses no domain, and stays as it is
unheld : Fragment
unfolding module_of under set place
unheld = module_of (under Comb (set 5 1 0 ∷ []) ∷ [])

stays_reset : shown_exprs (resolved reset_pool unheld Loose) ≡ expr.Sig (record { 0 = 0 }) ∷ expr.Sig (record { 0 = 1 }) ∷ expr.Reset (codes "fast") (record { line = 7; col = 13 }) ∷ []
unfolding resolved_in resolved held_resets inside placed_pool unheld module_of under set place reset_pool one_bit shown_exprs target_signals signals_in offsets_in
stays_reset = refl

-- a domain that is reset_less has none, which is told at the call of `ResetSignal`
lacking_reset : Fragment
unfolding defining define under set place
lacking_reset = defining (define 3 (codes "fast") None ∷ []) (under Comb (set 9 1 2 ∷ []) ∷ []) bare

told_lacking : resolved reset_pool lacking_reset Loose ≡ Err (NoReset (record { line = 7; col = 13 }))
unfolding resolved held_resets inside lacking_reset defining define under set place reset_pool one_bit
told_lacking = refl

-- ---- memories

-- two rows of one bit, read at `a`, where `a` is 1, at the edges of `sync`, into `b`
reading : MemRead
reading = record { domain = Some (codes "sync"); addr = record { 0 = 0 }; word = record { 0 = 1 }; enable = Some (record { 0 = 0 }); transparent = [] }

two_rows : List MemRead → Memory
two_rows reads = record { name = []; shape = unsigned 1; depth = 2; rows = pos 0 ∷ pos 1 ∷ []; writes = []; reads = reads }

-- a submodule `mem` that is a memory, under a module with these statements
with_memory : List MemRead → List Process → Fragment
unfolding two_rows
with_memory reads ps = record { name = codes "m"; is_part = false; domains = []; processes = ps; memories = []; submodules = grown (record { name = codes "mem"; is_part = false; domains = []; processes = []; memories = two_rows reads ∷ [] }) bare bare }

shown_memories : Result Circuit ResolveStop → List (List ℕ)
shown_memories (Ok c) = map (λ (m : Memory). m.name) c.memories
shown_memories (Err stop) = []

memory_name : shown_memories (resolved pool (with_memory (reading ∷ []) []) Loose) ≡ codes "mem" ∷ []
unfolding resolved_in resolved held_resets inside placed_pool with_memory two_rows reading pool one_bit shown_memories target_signals signals_in offsets_in
memory_name = refl

-- its domain is used, `a` is read, and what a clocked port gives is a register under the path of its memory
memory_columns : shown_columns (resolved pool (with_memory (reading ∷ []) []) Loose) ≡ at (codes "clk") 2 ∷ at (codes "rst") 3 ∷ at (codes "a") 0 ∷ at (codes "mem.b") 1 ∷ []
unfolding resolved_in resolved held_resets inside placed_pool with_memory two_rows reading pool one_bit shown_columns at target_signals signals_in offsets_in
memory_columns = refl

-- a statement may not drive it
memory_driven : resolved pool (with_memory (reading ∷ []) (under Comb (set 5 1 0 ∷ []) ∷ [])) Loose ≡ Err (TwoDrivers (record { line = 5; col = 13 }))
unfolding resolved_in resolved held_resets inside placed_pool with_memory two_rows reading under set place pool one_bit target_signals
memory_driven = refl

-- nor may another read port give it, which is told before all statements
memory_twice : resolved pool (with_memory (reading ∷ reading ∷ []) (under Comb (set 5 1 0 ∷ []) ∷ [])) Loose ≡ Err (TwoDrivers (record { line = 1; col = 1 }))
unfolding resolved_in resolved held_resets inside placed_pool with_memory two_rows reading under set place pool one_bit target_signals
memory_twice = refl

-- in a library part a register is not named
part_columns : shown_columns (resolved pool (over (grown (record { name = codes "sub"; is_part = true; domains = []; processes = under (Clocked (codes "sync")) (set 5 1 0 ∷ []) ∷ []; memories = [] }) bare bare)) Loose) ≡ at (codes "clk") 2 ∷ at (codes "rst") 3 ∷ at (codes "a") 0 ∷ []
unfolding resolved_in resolved held_resets inside placed_pool over under set place pool one_bit shown_columns at target_signals signals_in offsets_in
part_columns = refl

-- ---- names

-- domain `fast` has `fast_clk` and `fast_rst`
fast_prefix : domain_prefix (codes "fast") ++ codes "clk" ≡ codes "fast_clk"
fast_prefix = refl

-- columns of one name are numbered from 1 on
column : List ℕ → Column
column name = record { name = name; sig = record { 0 = 0 } }

numbered : columns_after [] (column (codes "a") ∷ column (codes "b") ∷ column (codes "a") ∷ column (codes "a") ∷ []) ≡ column (codes "a") ∷ column (codes "b") ∷ column (codes "a$1") ∷ column (codes "a$2") ∷ []
unfolding column digits
numbered = refl
