-- Small memories, by computation.
use Rattle.std.specs.Prelude.{◌≡◌, refl, ℕ, false, List, [], ◌∷◌, map, length, ℤ, pos, codes, Option, Some, None}
use Rattle.std.specs.Fmt.{digits}
use Rattle.shape_rules.specs.Forms.{Form, unsigned, signed_form}
use Rattle.design_ir.specs.declared.signal.Sig.{Sig}
use Rattle.design_ir.specs.declared.event.Event.{Event}
use Rattle.design_ir.specs.declared.event.Event.TheVariants.{Edge}
use Rattle.design_ir.specs.declared.memory.Memory.{Memory}
use Rattle.design_ir.specs.Pools.{Pooled}
use Rattle.design_ir.specs.Values.{form, num}
use Rattle.design_ir.specs.Circuits.{Circuit}
use Rattle.design_ir.specs.Histories.{History}
use Rattle.design_ir.proofs.SanityParts.{input, domain, gives, toggles}
use Rattle.memory_ports.specs.declared.refusal.MemStop.{MemStop}
use Rattle.memory_ports.specs.declared.refusal.MemStop.TheVariants.{BadDomain, BadGranularity, BadTransparent, TooManyRows, Limit}
use Rattle.memory_ports.specs.Ports.{least_width, address_width, enable_width, with_signals}
use Rattle.memory_ports.specs.Calls.{new_refusal, new_memory, write_signals, write_refusal, write_port, and_write, read_signals, read_refusal, read_port, and_read}

-- ---- a memory and its pool, call by call

record Stand : Type 0 where
  pool : Pooled
  memory : Memory

abbrev bit : List ℕ → Sig
bit name = record { name = name; shape = unsigned 1; init = pos 0; reset_less = false }

-- the pool has a clock and a reset
abbrev begun : Form → ℕ → List ℤ → Stand
begun shape depth rows = record { pool = record { signals = bit (codes "clk") ∷ bit (codes "rst") ∷ []; exprs = [] }; memory = new_memory shape depth rows }

abbrev and_sync_write : Stand → Stand
and_sync_write x = record { pool = with_signals x.pool (write_signals x.memory None); memory = and_write x.pool x.memory (codes "sync") None }

abbrev and_read_of : Option (List ℕ) → List ℕ → Stand → Stand
and_read_of d ks x = record { pool = with_signals x.pool (read_signals x.memory d); memory = and_read x.pool x.memory d ks }

abbrev circuit_of : Stand → List ℕ → Circuit
circuit_of x inputs = record { pool = x.pool; processes = []; memories = x.memory ∷ []; domains = domain (codes "sync") 0 1 ∷ []; ports = map input inputs; columns = [] }

edge : Event
edge = Edge (toggles 0 ∷ [])

-- ---- five rows of eight bits, two write ports and a comb read

abbrev five : Stand
five = and_read_of None [] (and_sync_write (and_sync_write (begun (unsigned 8) 5 (pos 1 ∷ pos 2 ∷ pos 3 ∷ pos 4 ∷ pos 5 ∷ []))))

names : map (λ (x : Sig). x.name) five.pool.signals ≡ codes "clk" ∷ codes "rst" ∷ codes "w0_addr" ∷ codes "w0_data" ∷ codes "w0_en" ∷ codes "w1_addr" ∷ codes "w1_data" ∷ codes "w1_en" ∷ codes "r0_addr" ∷ codes "r0_data" ∷ []
unfolding least_width digits
names = refl

shapes : map (λ (x : Sig). x.shape) five.pool.signals ≡ unsigned 1 ∷ unsigned 1 ∷ unsigned 3 ∷ unsigned 8 ∷ unsigned 1 ∷ unsigned 3 ∷ unsigned 8 ∷ unsigned 1 ∷ unsigned 3 ∷ unsigned 8 ∷ []
unfolding least_width
shapes = refl

ports : (write_port (begun (unsigned 8) 5 []).pool ≡ record { addr = record { 0 = 2 }; word = record { 0 = 3 }; enable = record { 0 = 4 } }) × (length five.pool.exprs ≡ 8)
unfolding least_width
ports = (refl, refl)

-- clk; address, data and enable of both write ports; address and data of the read port
abbrev five_numbers : ℕ → ℕ → ℕ → ℕ → ℕ → ℕ → ℕ → ℕ → ℕ → List ℤ
five_numbers clk a w n b v k r x = pos clk ∷ pos 0 ∷ pos a ∷ pos w ∷ pos n ∷ pos b ∷ pos v ∷ pos k ∷ pos r ∷ pos x ∷ []

-- row 0 is read at once, and past the depth 0 is; an edge writes nothing there
five_runs : History (circuit_of five (0 ∷ 1 ∷ 2 ∷ 3 ∷ 4 ∷ 5 ∷ 6 ∷ 7 ∷ 8 ∷ [])) (gives 8 (pos 6) ∷ gives 2 (pos 6) ∷ gives 3 (pos 77) ∷ gives 4 (pos 1) ∷ edge ∷ []) (
    five_numbers 0 0 0 0 0 0 0 0 1
    ∷ five_numbers 0 0 0 0 0 0 0 6 0
    ∷ five_numbers 0 6 0 0 0 0 0 6 0
    ∷ five_numbers 0 6 77 0 0 0 0 6 0
    ∷ five_numbers 0 6 77 1 0 0 0 6 0
    ∷ five_numbers 1 6 77 1 0 0 0 6 0
    ∷ []
    )
unfolding least_width edge form num
five_runs = (refl, (refl, (refl, (refl, (refl, refl)))))

-- of two ports that write row 2 the later one wins
later_wins : History (circuit_of five (0 ∷ 1 ∷ 2 ∷ 3 ∷ 4 ∷ 5 ∷ 6 ∷ 7 ∷ 8 ∷ [])) (gives 2 (pos 2) ∷ gives 5 (pos 2) ∷ gives 8 (pos 2) ∷ gives 6 (pos 99) ∷ gives 4 (pos 1) ∷ gives 7 (pos 1) ∷ edge ∷ []) (
    five_numbers 0 0 0 0 0 0 0 0 1
    ∷ five_numbers 0 2 0 0 0 0 0 0 1
    ∷ five_numbers 0 2 0 0 2 0 0 0 1
    ∷ five_numbers 0 2 0 0 2 0 0 2 3
    ∷ five_numbers 0 2 0 0 2 99 0 2 3
    ∷ five_numbers 0 2 0 1 2 99 0 2 3
    ∷ five_numbers 0 2 0 1 2 99 1 2 3
    ∷ five_numbers 1 2 0 1 2 99 1 2 99
    ∷ []
    )
unfolding least_width edge form num
later_wins = (refl, (refl, (refl, (refl, (refl, (refl, (refl, refl)))))))

-- ---- four rows of eight bits, a write port, a read port that is transparent for it and one that is not

abbrev four : Stand
four = and_read_of (Some (codes "sync")) [] (and_read_of (Some (codes "sync")) (0 ∷ []) (and_sync_write (begun (unsigned 8) 4 (pos 10 ∷ pos 20 ∷ pos 30 ∷ pos 40 ∷ []))))

four_names : map (λ (x : Sig). x.name) four.pool.signals ≡ codes "clk" ∷ codes "rst" ∷ codes "w0_addr" ∷ codes "w0_data" ∷ codes "w0_en" ∷ codes "r0_addr" ∷ codes "r0_data" ∷ codes "r0_en" ∷ codes "r1_addr" ∷ codes "r1_data" ∷ codes "r1_en" ∷ []
unfolding least_width digits
four_names = refl

four_begins : map (λ (x : Sig). x.init) four.pool.signals ≡ pos 0 ∷ pos 0 ∷ pos 0 ∷ pos 0 ∷ pos 0 ∷ pos 0 ∷ pos 0 ∷ pos 1 ∷ pos 0 ∷ pos 0 ∷ pos 1 ∷ []
unfolding least_width
four_begins = refl

four_port : read_port four.pool (Some (codes "sync")) ≡ record { addr = record { 0 = 11 }; word = record { 0 = 12 }; enable = Some (record { 0 = 13 }) }
unfolding least_width
four_port = refl

-- clk; data and enable of the write port; what both read ports give
abbrev four_numbers : ℕ → ℕ → ℕ → ℕ → ℕ → List ℤ
four_numbers clk w n x y = pos clk ∷ pos 0 ∷ pos 0 ∷ pos w ∷ pos n ∷ pos 0 ∷ pos x ∷ pos 1 ∷ pos 0 ∷ pos y ∷ pos 1 ∷ []

four_runs : History (circuit_of four (0 ∷ 1 ∷ 2 ∷ 3 ∷ 4 ∷ 5 ∷ 7 ∷ 8 ∷ 10 ∷ [])) (gives 3 (pos 99) ∷ gives 4 (pos 1) ∷ edge ∷ []) (
    four_numbers 0 0 0 0 0
    ∷ four_numbers 0 99 0 0 0
    ∷ four_numbers 0 99 1 0 0
    ∷ four_numbers 1 99 1 99 10
    ∷ []
    )
unfolding least_width edge form num
four_runs = (refl, (refl, (refl, refl)))

-- ---- widths

addresses : (address_width 0 ∷ address_width 1 ∷ address_width 2 ∷ address_width 3 ∷ address_width 4 ∷ address_width 5 ∷ address_width 65536 ∷ []) ≡ 0 ∷ 0 ∷ 1 ∷ 2 ∷ 2 ∷ 3 ∷ 16 ∷ []
unfolding least_width
addresses = refl

-- of a row of eight bits: all of them, one, four; of a row without bits: all of them, one
enables : (enable_width 8 8 ∷ enable_width 8 1 ∷ enable_width 8 4 ∷ enable_width 0 0 ∷ enable_width 0 1 ∷ []) ≡ 1 ∷ 8 ∷ 2 ∷ 1 ∷ 0 ∷ []
enables = refl

-- ---- rows and refusals

-- the rows that are not given are 0
filled : (new_memory (signed_form 4) 3 (pos 7 ∷ [])).rows ≡ pos 7 ∷ pos 0 ∷ pos 0 ∷ []
filled = refl

news : (new_refusal (unsigned 8) 2 2 ∷ new_refusal (unsigned 8) 2 3 ∷ new_refusal (unsigned 16) 65536 0 ∷ new_refusal (unsigned 17) 65536 0 ∷ new_refusal (unsigned 1) 65537 0 ∷ new_refusal (unsigned 1) 65537 65538 ∷ []) ≡ None ∷ Some TooManyRows ∷ None ∷ Some Limit ∷ Some Limit ∷ Some TooManyRows ∷ []
news = refl

abbrev one_write : Stand
one_write = and_sync_write (begun (unsigned 8) 4 [])

abbrev write_of : List ℕ → Option ℕ → Option MemStop
write_of d g = write_refusal one_write.pool one_write.memory d g

-- `comb`, another domain, granules of no bits, of three and of four
writes : (write_of (codes "comb") None ∷ write_of (codes "fast") (Some 0) ∷ write_of (codes "sync") (Some 0) ∷ write_of (codes "sync") (Some 3) ∷ write_of (codes "sync") (Some 4) ∷ []) ≡ Some BadDomain ∷ Some BadDomain ∷ Some BadGranularity ∷ Some BadGranularity ∷ None ∷ []
unfolding least_width
writes = refl

abbrev read_of : Option (List ℕ) → List ℕ → Option MemStop
read_of d ks = read_refusal one_write.pool one_write.memory d ks

-- transparent for port 0: comb, in another domain, in its own; for a port that is not there
reads : (read_of None (0 ∷ []) ∷ read_of (Some (codes "fast")) (0 ∷ []) ∷ read_of (Some (codes "sync")) (0 ∷ []) ∷ read_of (Some (codes "sync")) (0 ∷ 1 ∷ []) ∷ read_of None [] ∷ []) ≡ Some BadTransparent ∷ Some BadTransparent ∷ None ∷ Some BadTransparent ∷ None ∷ []
unfolding least_width
reads = refl
