-- What is asked of a module stands over another pool that has something for each of its expressions.
use Rattle.std.proofs.Common.{◌≡◌, ℕ, zero, suc, ◌<◌, IsTrue, List, [], ◌∷◌, map, length, Option, Some, None, slice_get, sym, ap, ◌∙◌, subst, arith}
use Rattle.std.specs.Prelude.{IsSomeAnd, option_map, pos}
use Rattle.std.specs.List.{AllByRecursion}
use Rattle.lists.specs.Names.{IsName}
use Rattle.shape_rules.specs.Forms.{Form, unsigned}
use Rattle.design_ir.specs.declared.ids.ExprId.{ExprId}
use Rattle.design_ir.specs.declared.ids.SigId.{SigId}
use Rattle.design_ir.specs.declared.signal.Sig.{Sig}
use Rattle.design_ir.specs.declared.domain.Domain.{Domain}
use Rattle.design_ir.specs.declared.memory.MemWrite.{MemWrite}
use Rattle.design_ir.specs.declared.memory.MemRead.{MemRead}
use Rattle.design_ir.specs.declared.memory.Memory.{Memory}
use Rattle.design_ir.specs.declared.process.Side.{Side}
use Rattle.design_ir.specs.declared.process.Process.{Process}
use Rattle.design_ir.specs.Trees.{Block}
use Rattle.design_ir.specs.Pools.{Pooled}
use Rattle.design_ir.specs.Values.{form, signal_form}
use Rattle.design_ir.specs.Targets.{is_open_target}
use Rattle.design_ir.specs.Guards.{Guarded, guarded, block_exprs}
use Rattle.design_ir.specs.Rows.{granules}
use Rattle.design_ir.specs.Designs.{IsAddressWidth, IsGranularity, IsTransparent}
use Rattle.fragment_walks.specs.Reads.{block_targets}
use Rattle.fragment_walks.proofs.Lists.{all_imp, all_mapped, all_unmapped, length_map}
use Rattle.clock_domains.specs.Resolvable.{IsAddressOf, IsBit, IsClockingOf, IsDataOf, IsDomainOf, IsMemoryOf, IsNamedSide, IsOpenSide, IsReadOf, IsResetOf, IsShaped, IsThere, IsWriteOf}
use Rattle.clock_domains.proofs.DriverLaws.{block_flat}

-- ---- statements

abbrev pub AreOpen : Pooled → List ℕ → Type 0
AreOpen q ks = AllByRecursion (λ k. IsTrue (is_open_target q k)) ks

pub side_targets : (q : Pooled) (p : Process) → IsOpenSide q p → AreOpen q (block_targets p.body)
side_targets q p h = subst (AreOpen q) (block_flat [] p.body) (all_mapped (λ k. IsTrue (is_open_target q k)) (λ (g : Guarded). g.target.0) (guarded [] p.body) h.targets)

pub side_from : (q : Pooled) (side : Side) (body : Block) → IsNamedSide side → AllByRecursion (IsThere q) (block_exprs body) → AreOpen q (block_targets body) → IsOpenSide q (record { side = side; body = body })
side_from q side body named there aims = record {
  side = named;
  expressions = there;
  targets = all_unmapped (λ k. IsTrue (is_open_target q k)) (λ (g : Guarded). g.target.0) (guarded [] body) (subst (AreOpen q) (sym (block_flat [] body)) aims);
}

-- ---- domains and memories, where the signals are the same

-- what stands for an expression of a pool in another one, with its shape
abbrev pub IsCarried : Pooled → Pooled → ExprId → ExprId → Type 0
IsCarried q p d e = (e.0 < length p.exprs) × (form p e.0 ≡ form q d.0)

pub shaped_carried : (q p : Pooled) (f : Form) (d e : ExprId) → IsCarried q p d e → IsShaped q f d → IsShaped p f e
shaped_carried q p f d e c h = record { there = c.0; shape = c.1 ∙ h.shape }

module _ (q p : Pooled) (signals : p.signals ≡ q.signals) where
  bit_kept : (s : SigId) → IsBit q s → IsBit p s
  bit_kept s h = record {
    there = subst (λ (xs : List Sig). s.0 < length xs) (sym signals) h.there;
    form = subst (λ (xs : List Sig). signal_form xs s.0 ≡ unsigned 1) (sym signals) h.form;
  }

  reset_kept : (clk : SigId) (o : Option SigId) → IsResetOf q clk o → IsResetOf p clk o
  reset_kept clk None h = tt
  reset_kept clk (Some s) h = (bit_kept s h.0, h.1)

  -- under whatever name
  pub domain_kept : (d : Domain) (name : List ℕ) → IsName name → IsDomainOf q d → IsDomainOf p (record d { name = name })
  domain_kept d name named h = record { name = named; clock = bit_kept d.clk h.clock; reset = reset_kept d.clk d.rst h.reset }

  data_kept : (f : Form) (s : SigId) → IsDataOf q f s → IsDataOf p f s
  data_kept f s h = record {
    there = subst (λ (xs : List Sig). s.0 < length xs) (sym signals) h.there;
    shape = subst (λ (xs : List Sig). signal_form xs s.0 ≡ f) (sym signals) h.shape;
    begins = subst (λ (xs : List Sig). IsSomeAnd (slice_get xs s.0) (λ (x : Sig). x.init ≡ pos 0)) (sym signals) h.begins;
  }

  -- a memory that gets other ports
  module _ (m : Memory) (ws : List MemWrite) (rs : List MemRead) where
    abbrev pub with_ports : Memory
    with_ports = record m { writes = ws; reads = rs }

    address_carried : (d e : ExprId) → IsCarried q p d e → IsAddressOf q m d → IsAddressOf p with_ports e
    address_carried d e c h = record {
      there = c.0;
      is_unsigned = ap (λ (f : Form). f.signed) c.1 ∙ h.is_unsigned;
      width = subst (λ (f : Form). IsAddressWidth m.depth f.width) (sym c.1) h.width;
    }

    granularity_kept : (g : ℕ) → IsGranularity m g → IsGranularity with_ports g
    granularity_kept g h = record { some = h.some; count = h.count; divides = h.divides }

    pub write_carried : (w : MemWrite) (name : List ℕ) (a b e : ExprId) → IsName name → IsCarried q p w.addr a → IsCarried q p w.word b → IsShaped p (unsigned (granules m w)) e → IsWriteOf q m w
        → IsWriteOf p with_ports (record w { domain = name; addr = a; word = b; enable = e })
    write_carried w name a b e named addr word enable h = record {
      domain = named;
      addr = address_carried w.addr a addr h.addr;
      word = shaped_carried q p m.shape w.word b word h.word;
      granularity = granularity_kept w.granularity h.granularity;
      enable = enable;
    }

    pub read_carried : (r : MemRead) (name : Option (List ℕ)) (a : ExprId) (e : Option ExprId) → IsCarried q p r.addr a → IsClockingOf p name e → AllByRecursion (IsTransparent with_ports name) r.transparent → IsReadOf q m r
        → IsReadOf p with_ports (record r { domain = name; addr = a; enable = e })
    read_carried r name a e addr clocking transparent h = record { addr = address_carried r.addr a addr h.addr; word = data_kept m.shape r.word h.word; clocking = clocking; transparent = transparent }

-- ---- the domains of write ports

abbrev pub port_domains : List MemWrite → List (List ℕ)
port_domains ws = map (λ (w : MemWrite). w.domain) ws

port_at : (g : List ℕ → List ℕ) (ws vs : List MemWrite) (k : ℕ) (d : List ℕ) → port_domains ws ≡ map g (port_domains vs) → IsSomeAnd (slice_get vs k) (λ (v : MemWrite). v.domain ≡ d) → IsSomeAnd (slice_get ws k) (λ (w : MemWrite). w.domain ≡ g d)
port_at g ws [] k d same h = absurd h
port_at g [] (v ∷ vs) k d same h = absurd cc
port_at g (w ∷ ws) (v ∷ vs) zero d same h = let here : w.domain ≡ g v.domain = cc in here ∙ ap g h
port_at g (w ∷ ws) (v ∷ vs) (suc k) d same h = let rest : port_domains ws ≡ map g (port_domains vs) = cc in port_at g ws vs k d rest h

-- a port writes in the read port's domain as it did, where each domain became another
pub transparent_carried : (g : List ℕ → List ℕ) (m : Memory) (ws : List MemWrite) (rs : List MemRead) → port_domains ws ≡ map g (port_domains m.writes) → (o : Option (List ℕ)) (ks : List ℕ) → AllByRecursion (IsTransparent m o) ks
    → AllByRecursion (IsTransparent (record m { writes = ws; reads = rs }) (option_map g o)) ks
transparent_carried g m ws rs same None ks h = all_imp (λ k none. absurd none) ks h
transparent_carried g m ws rs same (Some d) ks h = all_imp (λ k at. port_at g ws m.writes k d same at) ks h

-- all are of one domain
abbrev AreOne : List (List ℕ) → Type 0
AreOne ns = AllByRecursion (λ n. AllByRecursion (λ k. k ≡ n) ns) ns

one_domain_carried : (g : List ℕ → List ℕ) (ws vs : List MemWrite) → port_domains ws ≡ map g (port_domains vs) → AllByRecursion (λ (w : MemWrite). AllByRecursion (λ (v : MemWrite). v.domain ≡ w.domain) vs) vs
    → AllByRecursion (λ (w : MemWrite). AllByRecursion (λ (v : MemWrite). v.domain ≡ w.domain) ws) ws
one_domain_carried g ws vs same h =
    let domain : MemWrite → List ℕ = λ (w : MemWrite). w.domain in
    let names : AreOne (port_domains vs) = all_mapped (λ n. AllByRecursion (λ k. k ≡ n) (port_domains vs)) domain vs (all_imp (λ (w : MemWrite) one. all_mapped (λ k. k ≡ w.domain) domain vs one) vs h) in
    let others : AreOne (map g (port_domains vs)) =
    all_mapped (λ n. AllByRecursion (λ k. k ≡ n) (map g (port_domains vs))) g (port_domains vs) (all_imp (λ n one. all_mapped (λ k. k ≡ g n) g (port_domains vs) (all_imp (λ k e. ap g e) (port_domains vs) one)) (port_domains vs) names) in
    let here : AreOne (port_domains ws) = subst AreOne (sym same) others in
    all_imp (λ (w : MemWrite) one. all_unmapped (λ k. k ≡ w.domain) domain ws one) ws (all_unmapped (λ n. AllByRecursion (λ k. k ≡ n) (port_domains ws)) domain ws here)

-- a memory with other ports over other domains
pub memory_carried : (g : List ℕ → List ℕ) (q p : Pooled) (m : Memory) (ws : List MemWrite) (rs : List MemRead) → port_domains ws ≡ map g (port_domains m.writes) → length rs ≡ length m.reads
    → AllByRecursion (IsWriteOf p (record m { writes = ws; reads = rs })) ws → AllByRecursion (IsReadOf p (record m { writes = ws; reads = rs })) rs → IsMemoryOf q m → IsMemoryOf p (record m { writes = ws; reads = rs })
memory_carried g q p m ws rs same count writes reads h =
    let domain : MemWrite → List ℕ = λ (w : MemWrite). w.domain in
    let size : length ws ≡ length m.writes = sym (length_map domain ws) ∙ ap length same ∙ length_map g (port_domains m.writes) ∙ length_map domain m.writes in
    record {
      depth = h.depth;
      rows = h.rows;
      row_shapes = h.row_shapes;
      few_ports = omega (arith, h.few_ports, size, count);
      writes = writes;
      reads = reads;
      one_domain = one_domain_carried g ws m.writes same h.one_domain;
    }
