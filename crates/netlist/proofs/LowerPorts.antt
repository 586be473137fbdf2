-- What the ports of a memory name is there, and their addresses are narrow.
use Rattle.std.specs.Prelude.{◌≡◌, ◌≢◌, ◌≤◌, ◌<◌, ℕ, List, [], length, Option, Some, None, option_map, unwrap_or}
use Rattle.std.proofs.Common.{arith, subst, sym, ap, ◌∙◌, false, ⊎_elim}
use Rattle.lists.specs.Texts.{text_eq}
use Rattle.design_ir.specs.declared.ids.ExprId.{ExprId}
use Rattle.design_ir.specs.declared.ids.DomainId.{DomainId}
use Rattle.design_ir.specs.declared.domain.Domain.{Domain}
use Rattle.design_ir.specs.declared.memory.MemWrite.{MemWrite}
use Rattle.design_ir.specs.declared.memory.MemRead.{MemRead}
use Rattle.design_ir.specs.declared.memory.Memory.{Memory}
use Rattle.design_ir.specs.Values.{form}
use Rattle.design_ir.specs.Circuits.{Circuit, domain_named}
use Rattle.design_ir.specs.Designs.{IsAddress, IsGranularity, IsClocking, IsWritePort, IsReadPort}
use Rattle.memory_cells.specs.declared.clock.Clock.{Clock}
use Rattle.netlist_laws.specs.Module.{no_clock, clock_of}
use Rattle.netlist_laws.specs.MemoryDrawings.{port_clock}
use Rattle.netlist_laws.proofs.PortEdges.{position_there}

-- ---- the clock of a name

pub named_there : (c : Circuit) (name : List ℕ) (k : ℕ) → domain_named c name ≡ Some k → k < length c.domains
named_there c name k e = position_there (λ (d : Domain). text_eq d.name name) c.domains k e

pub named_clock : (c : Circuit) (name : List ℕ) (d : DomainId) → domain_named c name ≡ Some d.0 → port_clock c name ≡ clock_of c d
named_clock c name d e = ap (λ o. unwrap_or (option_map (λ k. clock_of c (record { 0 = k })) o) no_clock) e

-- where no domain has the name, the clock is no bit
pub unnamed_clock : (c : Circuit) (name : List ℕ) (clock : Clock) → clock.bit ≡ [] → clock.falling ≡ false → domain_named c name ≡ None → clock ≡ port_clock c name
unnamed_clock c name clock none rising e = (λ i. record { bit = none i; falling = rising i }) ∙ ap (λ o. unwrap_or (option_map (λ k. clock_of c (record { 0 = k })) o) no_clock) (sym e)

-- ---- what a port names

narrow : (c : Circuit) (m : Memory) (e : ExprId) → IsAddress c m e → m.depth ≤ 65536 → (form c.pool e.0).width ≤ 16
narrow c m e is few = is.width.least 16 (omega (arith, few))

pub write_narrow : (c : Circuit) (m : Memory) (w : MemWrite) → IsWritePort c m w → m.depth ≤ 65536 → (form c.pool w.addr.0).width ≤ 16
write_narrow c m w port few = narrow c m w.addr port.addr few

pub write_addr : (c : Circuit) (m : Memory) (w : MemWrite) → IsWritePort c m w → w.addr.0 < length c.pool.exprs
write_addr c m w port = port.addr.usable.there

pub write_word : (c : Circuit) (m : Memory) (w : MemWrite) → IsWritePort c m w → w.word.0 < length c.pool.exprs
write_word c m w port = port.word.usable.there

pub write_granularity : (c : Circuit) (m : Memory) (w : MemWrite) → IsWritePort c m w → IsGranularity m w.granularity
write_granularity c m w port = port.granularity

pub some_granule : (m : Memory) (g : ℕ) → IsGranularity m g → g ≢ m.shape.width → 0 < g
some_granule m g h apart = ⊎_elim (λ e. absurd (apart e)) (λ p. p) h.some

pub read_narrow : (c : Circuit) (m : Memory) (r : MemRead) → IsReadPort c m r → m.depth ≤ 65536 → (form c.pool r.addr.0).width ≤ 16
read_narrow c m r port few = narrow c m r.addr port.addr few

pub read_addr : (c : Circuit) (m : Memory) (r : MemRead) → IsReadPort c m r → r.addr.0 < length c.pool.exprs
read_addr c m r port = port.addr.usable.there

pub read_word : (c : Circuit) (m : Memory) (r : MemRead) → IsReadPort c m r → r.word.0 < length c.pool.signals
read_word c m r port = port.word.there

-- the enable of a port is an expression
enable_there : (c : Circuit) (d : Option (List ℕ)) (o : Option ExprId) (e : ExprId) → IsClocking c d o → o ≡ Some e → e.0 < length c.pool.exprs
enable_there c None None e h is = cc
enable_there c None (Some x) e h is = absurd h
enable_there c (Some d) None e h is = absurd h
enable_there c (Some d) (Some x) e h is = let same : x ≡ e = cc in subst (λ (y : ExprId). y.0 < length c.pool.exprs) same h.1.usable.there

pub enables_there : (c : Circuit) (m : Memory) (r : MemRead) → IsReadPort c m r → (e : ExprId) → r.enable ≡ Some e → e.0 < length c.pool.exprs
enables_there c m r port e is = enable_there c r.domain r.enable e port.clocking is
