-- Parts that pass the tests make a design.
use Rattle.std.specs.Prelude.{◌≡◌, refl, ℕ, ◌<◌, ◌≤◌, ◌==◌, ◌^◌, ◌||◌, nat_eq, suc, not, true, false, IsTrue, List, [], ◌∷◌, ◌++◌, length, map, Option, None, Some}
use Rattle.std.specs.List.{AllByRecursion, IsDistinct, list_all, list_any, flat_map}
use Rattle.std.proofs.Common.{sym, ◌∙◌, ap, arith, subst, append-nil, eq-eqb}
use Rattle.std.proofs.lemmas.Bool.{false≢true, and_parts, or_parts, eqb-true, false_from_ne_true}
use Rattle.lists.specs.Names.{IsPublicName}
use Rattle.shape_rules.specs.Forms.{Form, unsigned}
use Rattle.design_ir.specs.declared.ids.DomainId.{DomainId}
use Rattle.design_ir.specs.declared.ids.ExprId.{ExprId}
use Rattle.design_ir.specs.declared.ids.SigId.{SigId}
use Rattle.design_ir.specs.declared.port.Port.{Port}
use Rattle.design_ir.specs.declared.port.Column.{Column}
use Rattle.design_ir.specs.declared.domain.Domain.{Domain}
use Rattle.design_ir.specs.declared.memory.MemRead.{MemRead}
use Rattle.design_ir.specs.declared.memory.MemWrite.{MemWrite}
use Rattle.design_ir.specs.declared.memory.Memory.{Memory}
use Rattle.design_ir.specs.declared.process.DesignProcess.{DesignProcess}
use Rattle.design_ir.specs.Pools.{Pooled, answers}
use Rattle.design_ir.specs.Trees.{Block}
use Rattle.design_ir.specs.Guards.{Guarded, guarded, driven, block_exprs}
use Rattle.design_ir.specs.Targets.{is_target}
use Rattle.design_ir.specs.Circuits.{Circuit, is_among}
use Rattle.design_ir.specs.Rows.{granules}
use Rattle.design_ir.specs.Designs.{IsUsable, IsUsableOf, IsDomain, IsProcess, IsReset, IsInputReset, IsClockDomain, IsAddress, IsClocking, IsWritePort, IsReadPort, IsMemory, AreColumns, IsDesign, share, drivers}
use Rattle.design_ir.specs.Values.{signal_form}
use Rattle.design_table.specs.Tests.{no_resets, AreSignals, IsResetBit, IsOfInputs, is_reset_by, AreDomains, IsSide, AreSides, is_at, is_input_of, is_own, side_step, column_of, IsAmong, circuit_of}
use Rattle.design_table.specs.MemoryTests.{bare, given_port, given_ports, are_distinct, AreMemories}
use Rattle.design_table.proofs.NoResets.{none_held}
use Rattle.design_table.proofs.TargetSides.{AreOwn, all_joined, side_target, side_signals}
use Rattle.design_table.proofs.Statements.{all_imp, exprs_of, targets_of, driven_own}
use Rattle.design_table.proofs.Ports.{not_true, sigs_distinct, names_distinct, IsShown, all_shown, inputs_are}
use Rattle.design_table.proofs.DesignSides.{none_of, sides_apart, input_free}
use Rattle.design_table.proofs.DomainTests.{names_apart, clocks_apart, resets_apart}

map_map : {A B C : Type 0} (f : A → B) (g : B → C) (xs : List A) → map g (map f xs) ≡ map (λ x. g (f x)) xs
map_map f g [] = refl
map_map f g (x ∷ xs) = ap (λ ys. g (f x) ∷ ys) (map_map f g xs)

all_mapped : {A B : Type 0} (P : B → Type 0) (f : A → B) (xs : List A) → AllByRecursion (λ x. P (f x)) xs → AllByRecursion P (map f xs)
all_mapped P f [] h = tt
all_mapped P f (x ∷ xs) h = (h.0, all_mapped P f xs h.1)

no_elements : IsDistinct nat_eq []
unfolding IsDistinct
no_elements = tt

-- ---- signals that memories give

share_one : (xs : List ℕ) (s : ℕ) → is_among xs s ≡ false → share xs (s ∷ []) ≡ false
share_one [] s e = refl
share_one (x ∷ xs) s e =
    let parts = or_parts (x == s) (is_among xs s) e in
    none_of ((s == x) || false) (share xs (s ∷ []))
    (none_of (s == x) false (false_from_ne_true (s == x) (λ t. false≢true (sym parts.0 ∙ eq-eqb x s (sym (eqb-true s x t))))) refl)
    (share_one xs s parts.1)

abbrev alone : Port → List ℕ
alone p = p.sig.0 ∷ []

-- the signals of read ports as drivers, one by one
abbrev words : List Memory → List (List ℕ)
words ms = flat_map (λ (m : Memory). map (λ (r : MemRead). r.word.0 ∷ []) m.reads) ms

map_joined : {A B : Type 0} (f : A → B) (xs ys : List A) → map f (xs ++ ys) ≡ map f xs ++ map f ys
map_joined f [] ys = refl
map_joined f (x ∷ xs) ys = ap (λ zs. f x ∷ zs) (map_joined f xs ys)

words_are : (ms : List Memory) → words ms ≡ map alone (given_ports ms)
words_are [] = refl
words_are (m ∷ ms) =
    rw (map_joined alone (map given_port m.reads) (given_ports ms), map_map given_port alone m.reads)
    (ap (λ ws. map (λ (r : MemRead). r.word.0 ∷ []) m.reads ++ ws) (words_are ms))

distinct_words : (ps : List Port) → are_distinct ps ≡ true → IsDistinct share (map alone ps)
unfolding IsDistinct
distinct_words [] e = tt
distinct_words (p ∷ ps) e =
    let r = and_parts (list_all (λ (q : Port). not (p.sig.0 == q.sig.0)) ps) (are_distinct ps) e in
    (apart ps r.0, distinct_words ps r.1)
  where
    apart : (qs : List Port) → list_all (λ (q : Port). not (p.sig.0 == q.sig.0)) qs ≡ true → AllByRecursion (λ ys. share (alone p) ys ≡ false) (map alone qs)
    apart [] t = tt
    apart (q ∷ qs) t =
        let h = and_parts (not (p.sig.0 == q.sig.0)) (list_all (λ (x : Port). not (p.sig.0 == x.sig.0)) qs) t in
        (share_one (alone p) q.sig.0 (none_of (p.sig.0 == q.sig.0) false (not_true (p.sig.0 == q.sig.0) h.0) refl), apart qs h.1)

-- each of these is an input
given_inputs : (ms : List Memory) → AllByRecursion (λ (p : Port). IsTrue p.is_input) (given_ports ms)
given_inputs [] = tt
given_inputs (m ∷ ms) = all_joined (λ (p : Port). IsTrue p.is_input) (map given_port m.reads) (given_ports ms) (of_reads m.reads) (given_inputs ms)
  where
    of_reads : (rs : List MemRead) → AllByRecursion (λ (p : Port). IsTrue p.is_input) (map given_port rs)
    of_reads [] = tt
    of_reads (r ∷ rs) = (refl, of_reads rs)

-- what none of these drives shares nothing with them
all_free : (xs : List ℕ) (on ps : List Port) → ((s : ℕ) → is_input_of on s ≡ true → is_among xs s ≡ false)
    → AllByRecursion (λ (p : Port). IsTrue p.is_input) ps → AllByRecursion (λ (p : Port). IsTrue p.is_input → is_input_of on p.sig.0 ≡ true) ps
    → AllByRecursion (λ ys. share xs ys ≡ false) (map alone ps)
all_free xs on [] free h k = tt
all_free xs on (p ∷ ps) free h k = (share_one xs p.sig.0 (free p.sig.0 (k.0 h.0)), all_free xs on ps free h.1 k.1)

-- an input is given by none of what is no input
none_given : (ports ps : List Port) (s : ℕ) → is_input_of ports s ≡ true → list_all (λ (q : Port). not (is_input_of ports q.sig.0)) ps ≡ true → list_any (λ ss. is_among ss s) (map alone ps) ≡ false
none_given ports [] s i e = refl
none_given ports (p ∷ ps) s i e =
    let r = and_parts (not (is_input_of ports p.sig.0)) (list_all (λ (q : Port). not (is_input_of ports q.sig.0)) ps) e in
    let apart : (p.sig.0 == s) ≡ false = false_from_ne_true (p.sig.0 == s) (λ t. false≢true (sym (not_true (is_input_of ports p.sig.0) r.0) ∙ ap (is_input_of ports) (eqb-true p.sig.0 s t) ∙ i)) in
    none_of ((p.sig.0 == s) || false) (list_any (λ ss. is_among ss s) (map alone ps)) (none_of (p.sig.0 == s) false apart refl) (none_given ports ps s i r.1)

module _ (pool : Pooled) (ports : List Port) (sides : List ℕ) (xs : List Domain) (processes : List DesignProcess) (memories : List Memory) where
  d : Circuit
  d = circuit_of pool ports xs processes memories

  module _ (clear : no_resets pool.exprs ≡ true) (signals : AreSignals pool ports) (are : AreDomains pool ports xs)
      (there : AllByRecursion (λ (p : DesignProcess). IsAmong xs p.domain) processes) (statements : AreSides pool ports sides 0 processes) (few : length processes < 2 ^ 32)
      (rows : AreMemories pool ports sides xs processes memories) where
    -- ---- processes

    usable : (e : ExprId) → e.0 < length pool.exprs → IsUsable d e
    unfolding d
    usable e there = record { there = there; resolved = none_held pool e.0 clear }

    exprs_sound : (side : ℕ) (body : Block) → IsSide pool ports sides side body → AllByRecursion (IsUsable d) (block_exprs body)
    exprs_sound side body h = all_imp usable (block_exprs body) (exprs_of (is_at (answers false (side_step (is_own ports sides side)) [] pool.exprs)) (length pool.exprs) body h)

    targets_sound : (side : ℕ) (body : Block) → IsSide pool ports sides side body → AllByRecursion (λ (g : Guarded). IsTrue (is_target pool g.target.0)) (guarded [] body)
    targets_sound side body h =
        all_imp (λ (g : Guarded) t. side_target (is_own ports sides side) pool g.target.0 t) (guarded [] body)
        (targets_of (is_at (answers false (side_step (is_own ports sides side)) [] pool.exprs)) (length pool.exprs) [] body h)

    domain_there : (o : Option DomainId) → IsAmong xs o → IsDomain d o
    unfolding d
    domain_there None h = tt
    domain_there (Some k) h = h

    processes_sound : (side : ℕ) (ps : List DesignProcess) → AllByRecursion (λ (p : DesignProcess). IsAmong xs p.domain) ps → AreSides pool ports sides side ps → AllByRecursion (IsProcess d) ps
    unfolding d
    processes_sound side [] at h = tt
    processes_sound side (p ∷ ps) at h = (
      record { domain = domain_there p.domain at.0; expressions = exprs_sound side p.body h.0; targets = targets_sound side p.body h.0 },
      processes_sound (suc side) ps at.1 h.1,
    )

    -- ---- drivers

    -- what each process drives, and what each read port gives
    abbrev all_driven : List DesignProcess → List (List ℕ)
    all_driven ps = map (λ (p : DesignProcess). driven pool p.body) ps ++ words memories

    side_driven : (on : List Port) (side : ℕ) (body : Block) → IsSide pool on sides side body → AreOwn (is_own on sides side) (driven pool body)
    side_driven on side body h =
        driven_own (is_own on sides side) (is_at (answers false (side_step (is_own on sides side)) [] pool.exprs)) (length pool.exprs) pool body
        (side_signals (is_own on sides side) pool) h

    -- no statement drives what a memory gives
    given_free : (side : ℕ) (body : Block) → IsSide pool (given_ports memories) sides side body → AllByRecursion (λ ys. share (driven pool body) ys ≡ false) (words memories)
    given_free side body h =
        let given : List Port = given_ports memories in
        subst (AllByRecursion (λ ys. share (driven pool body) ys ≡ false)) (sym (words_are memories))
        (all_free (driven pool body) given given (λ s i. input_free given sides side (driven pool body) s (side_driven given side body h) i) (given_inputs memories) (inputs_are given))

    others_apart : (i : ℕ) (ss : List ℕ) → AreOwn (is_own ports sides i) ss → AllByRecursion (λ ys. share ss ys ≡ false) (words memories) → (side : ℕ) (ps : List DesignProcess) → i < side → AreSides pool ports sides side ps → AllByRecursion (λ ys. share ss ys ≡ false) (all_driven ps)
    others_apart i ss own free side [] lt h = free
    others_apart i ss own free side (p ∷ ps) lt h =
        (sides_apart ports sides i side lt ss (driven pool p.body) own (side_driven ports side p.body h.0), others_apart i ss own free (suc side) ps (omega (arith, lt)) h.1)

    all_apart : (side : ℕ) (ps : List DesignProcess) → AreSides pool ports sides side ps → AreSides pool (given_ports memories) sides side ps → IsDistinct share (all_driven ps)
    unfolding IsDistinct
    all_apart side [] h k = subst (IsDistinct share) (sym (words_are memories)) (distinct_words (given_ports memories) rows.given.distinct)
    all_apart side (p ∷ ps) h k = (
      others_apart side (driven pool p.body) (side_driven ports side p.body h.0) (given_free side p.body k.0) (suc side) ps (omega arith) h.1,
      all_apart (suc side) ps h.1 k.1,
    )

    one_driver : IsDistinct share (drivers d)
    unfolding d
    one_driver = all_apart 0 processes statements rows.given.undriven

    not_driven : (s : ℕ) → is_input_of ports s ≡ true → (side : ℕ) (ps : List DesignProcess) → AreSides pool ports sides side ps → list_any (λ ss. is_among ss s) (all_driven ps) ≡ false
    not_driven s i side [] h = subst (λ ws. list_any (λ ss. is_among ss s) ws ≡ false) (sym (words_are memories)) (none_given ports (given_ports memories) s i rows.given.no_inputs)
    not_driven s i side (p ∷ ps) h =
        none_of (is_among (driven pool p.body) s) (list_any (λ ss. is_among ss s) (all_driven ps))
        (input_free ports sides side (driven pool p.body) s (side_driven ports side p.body h.0) i) (not_driven s i (suc side) ps h.1)

    no_driver : (s : ℕ) → is_input_of ports s ≡ true → list_any (λ ss. is_among ss s) (drivers d) ≡ false
    unfolding d
    no_driver s i = not_driven s i 0 processes statements

    no_driven_input : AllByRecursion (λ (p : Port). IsTrue p.is_input → list_any (λ ss. is_among ss p.sig.0) (drivers d) ≡ false) ports
    no_driven_input =
        all_imp {P = λ (p : Port). IsTrue p.is_input → is_input_of ports p.sig.0 ≡ true} {Q = λ (p : Port). IsTrue p.is_input → list_any (λ ss. is_among ss p.sig.0) (drivers d) ≡ false}
        (λ (p : Port) h e. no_driver p.sig.0 (h e)) ports (inputs_are ports)

    -- ---- domains

    reset_sound : (o : Option SigId) → IsResetBit pool ports o → IsReset d o
    unfolding d
    reset_sound None h = tt
    reset_sound (Some s) h = record { there = h.there; shape = h.shape }

    reset_input : (o : Option SigId) → IsResetBit pool ports o → IsInputReset d o
    unfolding d
    reset_input None h = tt
    reset_input (Some s) h = h.input

    domain_sound : (x : Domain) → IsOfInputs pool ports x → list_any (is_reset_by x.clk.0) xs ≡ false → IsClockDomain d x
    unfolding d
    domain_sound x h free = record {
      clock = record { there = h.clock.there; shape = h.clock.shape };
      reset = reset_sound x.rst h.reset;
      clock_input = h.clock.input;
      clock_no_reset = free;
      async_input = λ t. reset_input x.rst h.reset;
    }

    domains_sound : (ys : List Domain) → AllByRecursion (IsOfInputs pool ports) ys → AllByRecursion (λ (x : Domain). list_any (is_reset_by x.clk.0) xs ≡ false) ys → AllByRecursion (IsClockDomain d) ys
    domains_sound [] h free = tt
    domains_sound (y ∷ ys) h free = (domain_sound y h.0 free.0, domains_sound ys h.1 free.1)

    -- ---- columns

    shown : AllByRecursion (IsShown pool) ports
    shown = all_shown pool ports signals.shown

    columns_sound : AreColumns d
    unfolding d
    columns_sound = record {
      registers = [];
      split = map_map column_of (λ (x : Column). x.sig.0) ports ∙ sym (append-nil (map (λ (p : Port). p.sig.0) ports));
      are_registers = tt;
      no_ports = tt;
      each_once = no_elements;
      there = all_mapped (λ (x : Column). x.sig.0 < length pool.signals) column_of ports (all_imp (λ (p : Port) s. s.there) ports shown);
      some_width = all_mapped (λ (x : Column). 1 ≤ (signal_form pool.signals x.sig.0).width) column_of ports (all_imp (λ (p : Port) s. s.some_width) ports shown);
      names = rw (map_map column_of (λ (x : Column). x.name) ports) (names_distinct ports signals.apart);
      name_forms = all_mapped (λ (x : Column). IsPublicName x.name) column_of ports (all_imp (λ (p : Port) s. s.name) ports shown);
    }

    -- ---- memories: what they keep to speaks of the pool and the domains alone

    usable_here : (e : ExprId) → IsUsable (bare pool xs) e → IsUsable d e
    unfolding d
    usable_here e h = record { there = h.there; resolved = h.resolved }

    usable_of_here : (f : Form) (e : ExprId) → IsUsableOf (bare pool xs) f e → IsUsableOf d f e
    unfolding d
    usable_of_here f e h = record { usable = usable_here e h.usable; shape = h.shape }

    address_here : (m : Memory) (e : ExprId) → IsAddress (bare pool xs) m e → IsAddress d m e
    unfolding d
    address_here m e h = record { usable = usable_here e h.usable; is_unsigned = h.is_unsigned; width = h.width }

    write_here : (m : Memory) (w : MemWrite) → IsWritePort (bare pool xs) m w → IsWritePort d m w
    unfolding d
    write_here m w h = record {
      domain = h.domain;
      addr = address_here m w.addr h.addr;
      word = usable_of_here m.shape w.word h.word;
      granularity = h.granularity;
      enable = usable_of_here (unsigned (granules m w)) w.enable h.enable;
    }

    clocking_here : (domain : Option (List ℕ)) (enable : Option ExprId) → IsClocking (bare pool xs) domain enable → IsClocking d domain enable
    unfolding d
    clocking_here None None h = tt
    clocking_here None (Some e) h = h
    clocking_here (Some n) None h = h
    clocking_here (Some n) (Some e) h = (h.0, usable_of_here (unsigned 1) e h.1)

    read_here : (m : Memory) (r : MemRead) → IsReadPort (bare pool xs) m r → IsReadPort d m r
    unfolding d
    read_here m r h = record {
      addr = address_here m r.addr h.addr;
      word = record { there = h.word.there; shape = h.word.shape };
      word_init = h.word_init;
      clocking = clocking_here r.domain r.enable h.clocking;
      transparent = h.transparent;
    }

    memory_here : (m : Memory) → IsMemory (bare pool xs) m → IsMemory d m
    memory_here m h = record {
      path = h.path;
      depth = h.depth;
      rows = h.rows;
      row_shapes = h.row_shapes;
      few_ports = h.few_ports;
      writes = all_imp (write_here m) m.writes h.writes;
      reads = all_imp (read_here m) m.reads h.reads;
      one_domain = h.one_domain;
    }

    -- ---- the design

    pub design_sound : IsDesign (circuit_of pool ports xs processes memories)
    unfolding d
    design_sound = record {
      few_processes = few;
      processes = processes_sound 0 processes there statements;
      domains = domains_sound xs are.inputs are.no_resets;
      domain_names = names_apart xs are.apart;
      clocks = clocks_apart xs are.apart;
      resets = resets_apart xs are.apart;
      memories = all_imp memory_here memories rows.rules;
      ports = sigs_distinct ports signals.apart;
      columns = columns_sound;
      one_driver = one_driver;
      no_driven_input = no_driven_input;
    }
