-- A design with flat processes over a pool that has grown keeps to the rules of designs.
use Rattle.std.specs.Prelude.{◌≡◌, refl, ℕ, ◌==◌, ◌||◌, true, false, IsTrue, suc, List, [], ◌∷◌, ◌++◌, map, length, Option, Some, None}
use Rattle.std.specs.List.{AllByRecursion, IsDistinct, flat_map, list_any}
use Rattle.std.proofs.Common.{sym, ◌∙◌, ap, subst, ⊎_elim, eq-eqb}
use Rattle.std.proofs.lemmas.Bool.{false≢true, cases_Bool}
use Rattle.std.proofs.lemmas.List.Elements.{All-contains}
use Rattle.std.proofs.lemmas.Map.Keys.{IsDistinct-tail, IsDistinct-head, IsDistinct-cons}
use Rattle.shape_rules.specs.Forms.{Form, unsigned}
use Rattle.design_ir.specs.declared.ids.ExprId.{ExprId}
use Rattle.design_ir.specs.declared.ids.SigId.{SigId}
use Rattle.design_ir.specs.declared.ids.DomainId.{DomainId}
use Rattle.design_ir.specs.declared.expr.Expr.{Expr}
use Rattle.design_ir.specs.declared.domain.Domain.{Domain}
use Rattle.design_ir.specs.declared.memory.MemWrite.{MemWrite}
use Rattle.design_ir.specs.declared.memory.MemRead.{MemRead}
use Rattle.design_ir.specs.declared.memory.Memory.{Memory}
use Rattle.design_ir.specs.declared.port.Port.{Port}
use Rattle.design_ir.specs.declared.process.DesignProcess.{DesignProcess}
use Rattle.design_ir.specs.Pools.{Pooled}
use Rattle.design_ir.specs.PoolRules.{IsPool}
use Rattle.design_ir.specs.Guards.{driven, block_exprs}
use Rattle.design_ir.specs.Circuits.{Circuit, is_among}
use Rattle.design_ir.specs.Designs.{IsUsable, IsUsableOf, IsDomain, IsProcess, IsSignalOf, IsReset, IsInputReset, IsClockDomain, IsAddress, IsWritePort, IsClocking, IsReadPort, IsMemory, AreColumns, IsDesign, share}
use Rattle.design_ir.proofs.Elements.{any_has, any_of}
use Rattle.digraph.proofs.Members.{all_from_contains}
use Rattle.flat_design.specs.Growing.{IsMore, IsReadable}
use Rattle.flat_design.specs.Flat.{IsFlatProcess, AreFlatProcesses}
use Rattle.flat_design.proofs.Growing.{there_more, reset_more, form_more}
use Rattle.flat_design.proofs.FixedTargets.{plain_targets}
use Rattle.flat_design.proofs.FlatOrders.{all_each}
use Rattle.flat_design.proofs.FlatRounds.{not_shared, has_it}
use Rattle.flat_design.proofs.FlatPairs.{with_exprs, with_parts, pool_is, register_same}

-- ---- what is driven once stays so, where as much is driven

abbrev pub IsLike : List ℕ → List ℕ → Type 0
IsLike xs ys = (s : ℕ) → is_among ys s ≡ is_among xs s

apart_still : (xs ys xs' ys' : List ℕ) → IsLike xs xs' → IsLike ys ys' → share xs ys ≡ false → share xs' ys' ≡ false
apart_still xs ys xs' ys' left right apart = ⊎_elim
    (λ (e : share xs' ys' ≡ true).
    let r = any_of (is_among ys') xs' e in
    let first : is_among xs r.0 ≡ true = sym (left r.0) ∙ any_has (λ x. x == r.0) xs' r.0 r.1 (eq-eqb r.0 r.0 refl) in
    absurd (false≢true (sym (not_shared r.0 xs ys apart first) ∙ sym (right r.0) ∙ r.2)))
    (λ (e : share xs' ys' ≡ false). e) (cases_Bool (share xs' ys'))

module _ (p q : Pooled) where
  abbrev before : DesignProcess → List ℕ
  before x = driven p x.body

  abbrev after : DesignProcess → List ℕ
  after x = driven q x.body

  apart_all : (xs xs' : List ℕ) → IsLike xs xs' → (olds news : List DesignProcess) → AreFlatProcesses p q olds news → (words : List (List ℕ))
      → AllByRecursion (λ ys. share xs ys ≡ false) (map before olds ++ words) → AllByRecursion (λ ys. share xs' ys ≡ false) (map after news ++ words)
  apart_all xs xs' like [] [] are [] h = tt
  apart_all xs xs' like [] [] are (w ∷ words) h = (apart_still xs w xs' w like (λ s. refl) h.0, apart_all xs xs' like [] [] are words h.1)
  apart_all xs xs' like [] (n ∷ news) are words h = absurd are
  apart_all xs xs' like (o ∷ olds) [] are words h = absurd are
  apart_all xs xs' like (o ∷ olds) (n ∷ news) are words h = (apart_still xs (before o) xs' (after n) like are.0.body.drives h.0, apart_all xs xs' like olds news are.1 words h.1)

  distinct_still : (olds news : List DesignProcess) → AreFlatProcesses p q olds news → (words : List (List ℕ)) → IsDistinct share (map before olds ++ words) → IsDistinct share (map after news ++ words)
  distinct_still [] [] are words h = h
  distinct_still [] (n ∷ news) are words h = absurd are
  distinct_still (o ∷ olds) [] are words h = absurd are
  distinct_still (o ∷ olds) (n ∷ news) are words h =
      IsDistinct-cons share (after n) (map after news ++ words)
      (apart_all (before o) (after n) are.0.body.drives olds news are.1 words (IsDistinct-head share (before o) (map before olds ++ words) h))
      (distinct_still olds news are.1 words (IsDistinct-tail share (before o) (map before olds ++ words) h))

  has_still : (s : ℕ) (olds news : List DesignProcess) → AreFlatProcesses p q olds news → (words : List (List ℕ)) → list_any (has_it s) (map after news ++ words) ≡ list_any (has_it s) (map before olds ++ words)
  has_still s [] [] are words = refl
  has_still s [] (n ∷ news) are words = absurd are
  has_still s (o ∷ olds) [] are words = absurd are
  has_still s (o ∷ olds) (n ∷ news) are words = ap (λ b. b || list_any (has_it s) (map after news ++ words)) (are.0.body.drives s) ∙ ap (λ b. has_it s (before o) || b) (has_still s olds news are.1 words)

  as_many : (olds news : List DesignProcess) → AreFlatProcesses p q olds news → length news ≡ length olds
  as_many [] [] are = refl
  as_many [] (n ∷ news) are = absurd are
  as_many (o ∷ olds) [] are = absurd are
  as_many (o ∷ olds) (n ∷ news) are = ap (λ n. suc n) (as_many olds news are.1)

-- ---- the rules
module _ (c : Circuit) (es : List Expr) (ps : List DesignProcess) (rules : IsPool c.pool) (design : IsDesign c) (more : IsMore c.pool (with_exprs c.pool es))
    (are : AreFlatProcesses c.pool (with_exprs c.pool es) c.processes ps) where
  abbrev d : Circuit
  d = with_parts c es ps

  usable : (x : ExprId) → IsUsable c x → IsUsable d x
  usable x h = record { there = there_more c.pool (with_exprs c.pool es) x.0 more h.there; resolved = reset_more c.pool (with_exprs c.pool es) rules more x.0 h.there ∙ h.resolved }

  usable_of : (f : Form) (x : ExprId) → IsUsableOf c f x → IsUsableOf d f x
  usable_of f x h = record { usable = usable x h.usable; shape = form_more c.pool (with_exprs c.pool es) rules more x.0 h.usable.there ∙ h.shape }

  domain : (x y : Option DomainId) → y ≡ x → IsDomain c x → IsDomain d y
  domain x None e h = tt
  domain x (Some d) e h = let P : Option DomainId → Type 0 = IsDomain c in subst P (sym e) h

  process : (old new : DesignProcess) → IsFlatProcess c.pool (with_exprs c.pool es) old new → IsProcess c old → IsProcess d new
  process old new flat h = record {
    domain = domain old.domain new.domain flat.domain h.domain;
    expressions = all_from_contains (IsUsable d) (block_exprs new.body)
        (λ e among. let r = All-contains (IsReadable (with_exprs c.pool es)) (block_exprs new.body) e flat.body.readable among in record { there = r.there; resolved = r.resolved });
    targets = plain_targets (with_exprs c.pool es) new.body flat.body.plain;
  }

  processes : (olds news : List DesignProcess) → AreFlatProcesses c.pool (with_exprs c.pool es) olds news → AllByRecursion (IsProcess c) olds → AllByRecursion (IsProcess d) news
  processes [] [] flat h = tt
  processes [] (n ∷ news) flat h = absurd flat
  processes (o ∷ olds) [] flat h = absurd flat
  processes (o ∷ olds) (n ∷ news) flat h = (process o n flat.0 h.0, processes olds news flat.1 h.1)

  signal_of : (f : Form) (s : SigId) → IsSignalOf c f s → IsSignalOf d f s
  signal_of f s h = record { there = h.there; shape = h.shape }

  reset : (s : Option SigId) → IsReset c s → IsReset d s
  reset None h = tt
  reset (Some s) h = signal_of (unsigned 1) s h

  input : (s : Option SigId) → IsInputReset c s → IsInputReset d s
  input None h = tt
  input (Some s) h = h

  clock_domain : (x : Domain) → IsClockDomain c x → IsClockDomain d x
  clock_domain x h = record { clock = signal_of (unsigned 1) x.clk h.clock; reset = reset x.rst h.reset; clock_input = h.clock_input; clock_no_reset = h.clock_no_reset; async_input = λ t. input x.rst (h.async_input t) }

  address : (m : Memory) (x : ExprId) → IsAddress c m x → IsAddress d m x
  address m x h = record {
    usable = usable x h.usable;
    is_unsigned = ap (λ (f : Form). f.signed) (form_more c.pool (with_exprs c.pool es) rules more x.0 h.usable.there) ∙ h.is_unsigned;
    width = rw (form_more c.pool (with_exprs c.pool es) rules more x.0 h.usable.there) h.width;
  }

  write_port : (m : Memory) (w : MemWrite) → IsWritePort c m w → IsWritePort d m w
  write_port m w h = record { domain = h.domain; addr = address m w.addr h.addr; word = usable_of m.shape w.word h.word; granularity = h.granularity; enable = usable_of _ w.enable h.enable }

  clocking : (x : Option (List ℕ)) (y : Option ExprId) → IsClocking c x y → IsClocking d x y
  clocking None None h = tt
  clocking None (Some y) h = absurd h
  clocking (Some x) None h = absurd h
  clocking (Some x) (Some y) h = (h.0, usable_of (unsigned 1) y h.1)

  read_port : (m : Memory) (r : MemRead) → IsReadPort c m r → IsReadPort d m r
  read_port m r h = record { addr = address m r.addr h.addr; word = signal_of m.shape r.word h.word; word_init = h.word_init; clocking = clocking r.domain r.enable h.clocking; transparent = h.transparent }

  memory : (m : Memory) → IsMemory c m → IsMemory d m
  memory m h = record {
    path = h.path;
    depth = h.depth;
    rows = h.rows;
    row_shapes = h.row_shapes;
    few_ports = h.few_ports;
    writes = all_each (write_port m) m.writes h.writes;
    reads = all_each (read_port m) m.reads h.reads;
    one_domain = h.one_domain;
  }

  columns : AreColumns c → AreColumns d
  columns h = record {
    registers = h.registers;
    split = h.split;
    are_registers = all_each (λ s x. register_same c es ps are s ∙ x) h.registers h.are_registers;
    no_ports = h.no_ports;
    each_once = h.each_once;
    there = h.there;
    some_width = h.some_width;
    names = h.names;
    name_forms = h.name_forms;
  }

  abbrev words : List (List ℕ)
  words = flat_map (λ (m : Memory). map (λ (r : MemRead). r.word.0 ∷ []) m.reads) c.memories

  -- none of the lists has an input's signal
  abbrev IsFree : (DesignProcess → List ℕ) → List DesignProcess → Port → Type 0
  IsFree own qs p = IsTrue p.is_input → list_any (has_it p.sig.0) (map own qs ++ words) ≡ false

  inputs_free : (p : Port) → IsFree (before c.pool (with_exprs c.pool es)) c.processes p → IsFree (after c.pool (with_exprs c.pool es)) ps p
  inputs_free p h input = has_still c.pool (with_exprs c.pool es) p.sig.0 c.processes ps are words ∙ h input

  kept : IsDesign d
  kept = record {
    few_processes = rw (as_many c.pool (with_exprs c.pool es) c.processes ps are) design.few_processes;
    processes = processes c.processes ps are design.processes;
    domains = all_each clock_domain c.domains design.domains;
    domain_names = design.domain_names;
    clocks = design.clocks;
    resets = design.resets;
    memories = all_each memory c.memories design.memories;
    ports = design.ports;
    columns = columns design.columns;
    one_driver = distinct_still c.pool (with_exprs c.pool es) c.processes ps are words design.one_driver;
    no_driven_input = all_each {P = IsFree (before c.pool (with_exprs c.pool es)) c.processes} {Q = IsFree (after c.pool (with_exprs c.pool es)) ps} inputs_free c.ports design.no_driven_input;
  }

pub flat_rules : (c : Circuit) (q : Pooled) (ps : List DesignProcess) → IsPool c.pool → IsDesign c → IsMore c.pool q → AreFlatProcesses c.pool q c.processes ps → IsDesign (record c { pool = q; processes = ps })
flat_rules c q ps rules design more are =
    let is : q ≡ with_exprs c.pool q.exprs = pool_is c.pool q more in
    subst (λ x. IsDesign (record c { pool = x; processes = ps })) (sym is)
    (kept c q.exprs ps rules design (record { signals = refl; more = more.more; exprs = more.exprs }) (subst (λ x. AreFlatProcesses c.pool x c.processes ps) is are))
