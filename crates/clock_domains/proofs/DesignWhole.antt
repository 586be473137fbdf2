-- The design of a module with those below it, whole, keeps to the rules of designs.
use Rattle.std.proofs.Common.{◌≡◌, ◌⊎◌, ℕ, zero, suc, ◌+◌, ◌<◌, ◌≤◌, ◌^◌, ◌==◌, nat_eq, Bool, true, false, IsTrue, not, ◌&&◌, ◌||◌, cond, if◌then◌else◌, List, [], ◌∷◌, ◌++◌, map, length, Option, Some, None, is_some, unwrap_or, refl, sym, ap, ◌∙◌, subst, arith, append-nil}
use Rattle.std.specs.List.{AllByRecursion, IsDistinct, list_any, filter, filter_map, flat_map, cons_option, range_with_len}
use Rattle.std.specs.Option.{option_map_or}
use Rattle.std.proofs.lemmas.Bool.{false≢true, eq-eqb, and_parts}
use Rattle.std.proofs.lemmas.List.{length-append}
use Rattle.lists.specs.Texts.{text_eq}
use Rattle.lists.specs.Names.{IsName, IsPath}
use Rattle.shape_rules.specs.Forms.{unsigned}
use Rattle.design_ir.specs.declared.ids.ExprId.{ExprId}
use Rattle.design_ir.specs.declared.ids.SigId.{SigId}
use Rattle.design_ir.specs.declared.ids.DomainId.{DomainId}
use Rattle.design_ir.specs.declared.domain.Domain.{Domain}
use Rattle.design_ir.specs.declared.memory.MemRead.{MemRead}
use Rattle.design_ir.specs.declared.memory.Memory.{Memory}
use Rattle.design_ir.specs.declared.port.Port.{Port}
use Rattle.design_ir.specs.declared.port.Column.{Column}
use Rattle.design_ir.specs.declared.process.Process.{Process}
use Rattle.design_ir.specs.declared.process.DesignProcess.{DesignProcess}
use Rattle.design_ir.specs.Pools.{Pooled}
use Rattle.design_ir.specs.PoolRules.{IsPool}
use Rattle.design_ir.specs.Values.{signal_form}
use Rattle.design_ir.specs.Guards.{driven, block_exprs}
use Rattle.design_ir.specs.Circuits.{Circuit, is_among, is_input, is_register}
use Rattle.design_ir.specs.Designs.{IsDomain, IsProcess, IsSignalOf, IsInputReset, IsReset, IsClockDomain, AreColumns, IsDesign, share, drivers, port_signals}
use Rattle.design_ir.proofs.Counts.{few_below}
use Rattle.fragment_walks.specs.Reads.{data_signals, is_driven, is_given, is_read}
use Rattle.fragment_walks.specs.Walks.{Contents}
use Rattle.fragment_walks.proofs.Lists.{all_filtered, passes, not_true, all_imp, all_both, all_joined, all_mapped, any-append, any_map, any_none, map-append, map_map, length_map}
use Rattle.clock_domains.specs.declared.top.TopPorts.{TopPorts}
use Rattle.clock_domains.specs.declared.top.TopPorts.TheVariants.{Members, Held, Loose}
use Rattle.clock_domains.specs.Resolvable.{IsBit, IsResetOf, IsDomainOf, domain_numbers, top_inputs, AreTopPorts}
use Rattle.clock_domains.specs.Resolved.{bit_signal, reset_port, ports_of_domain, domain_number, process_in, is_clocked, has_width, held_port, signal_name, shown_name, port_of, domain_inputs, domain_ports, top_ports, signals_of, ports_of, named_registers, column_of_port, column_of_register, register_path, columns_of, circuit_of, data_refusal, driver_refusal, driver_stop, has_twice, design_inputs, loose_port, process_path, memory_path}
use Rattle.clock_domains.specs.Chosen.{IsSignal, IsResetThere}
use Rattle.clock_domains.specs.Ready.{IsNaming, IsReady, IsUnder}
use Rattle.clock_domains.proofs.DesignFacts.{Apart, IsInputAmong, pairs, clocks_distinct, resets_distinct, clock_no_reset, all_ports, domain_ports_distinct, inputs_are_ports}
use Rattle.clock_domains.proofs.DesignNames.{columns_distinct, columns_public, columns_signals, columns_length, columns_keep, name_path, under_path}
use Rattle.clock_domains.proofs.WalkedNames.{memory_naming, process_naming, top_path}
use Rattle.clock_domains.proofs.ChoiceLaws.{range_all, top_there}
use Rattle.clock_domains.proofs.ChoiceLaws as choice
use Rattle.clock_domains.proofs.DesignParts.{among_named, clocked_any, named_signals, named_any, named_all, wide_enough, or_true, domains_signal, memory_data}
use Rattle.clock_domains.proofs.DesignMemories.{apart_singles, lists_distinct, memory_sound, read_drivers, read_drivers_are, single, singles_any, singles_distinct}
use Rattle.clock_domains.proofs.DesignSound.{IsThere, domain_there, distinct_filtered, distinct_joined, range_distinct, map_same, top_distinct, name_at, apart_at, share_both, AreFree, are_free, first_none, none_some}

there_domain : (c : Circuit) (o : Option DomainId) → IsThere c.domains o → IsDomain c o
there_domain c None h = tt
there_domain c (Some d) h = h

abbrev IsNamedPort : Port → Type 0
IsNamedPort p = IsName p.name

no_names : IsDistinct text_eq []
unfolding IsDistinct
no_names = tt

-- domains have names of their own, each signal is driven by one at most, and no input by any
pub record IsApart (c : Circuit) : Type 0 where
  pub names : IsDistinct text_eq (map (λ (d : Domain). d.name) c.domains)
  pub one_driver : IsDistinct share (drivers c)
  pub no_driven_input : AllByRecursion (λ (p : Port). IsTrue p.is_input → list_any (λ ss. is_among ss p.sig.0) (drivers c) ≡ false) c.ports

module _ (w : Pooled) (ds : List Domain) (own : List Process) (all : Contents) (top : TopPorts) (r : IsReady w ds own all top) (rules : IsPool w) (free : driver_stop w ds all top ≡ None) where
  abbrev ps : List Process
  ps = all.processes

  abbrev words : List ℕ
  words = data_signals all.memories

  -- a process drives it, or a read port gives it
  abbrev gives : ℕ → Bool
  gives = is_given w all.processes all.memories

  abbrev dp : List Port
  dp = domain_ports w gives ds

  abbrev tp : List Port
  tp = top_ports w ds own all top

  abbrev is_new : Port → Bool
  is_new p = not (is_among (signals_of dp) p.sig.0) && has_width w p.sig.0

  abbrev fresh : List Port
  fresh = filter is_new tp

  abbrev ports : List Port
  ports = ports_of w ds own all top

  abbrev is_column : ℕ → Bool
  is_column s = is_some (register_path w all s) && (not (is_among (signals_of ports) s) && has_width w s)

  abbrev regs : List ℕ
  regs = named_registers w all ports

  abbrev cands : List Column
  cands = map column_of_port ports ++ map (column_of_register w ds all) regs

  abbrev cols : List Column
  cols = columns_of w ds all ports regs

  abbrev c : Circuit
  c = circuit_of w ds all ports

  -- ---- ports

  signals : AllByRecursion (IsSignal w) ds
  signals = domains_signal w ds r.domains

  dp_there : AllByRecursion (λ (p : Port). p.sig.0 < length w.signals) dp
  dp_there = choice.domain_there w gives ds signals

  ports_there : AllByRecursion (λ (p : Port). p.sig.0 < length w.signals) ports
  ports_there = all_joined (λ (p : Port). p.sig.0 < length w.signals) dp fresh dp_there (all_filtered (λ (p : Port). p.sig.0 < length w.signals) is_new tp (top_there w ds own all top r.ports))

  fresh_apart : AllByRecursion (λ y. is_among (signals_of dp) y ≡ false) (signals_of fresh)
  fresh_apart =
      all_mapped (λ y. is_among (signals_of dp) y ≡ false) (λ (p : Port). p.sig.0) fresh
      (all_imp (λ (p : Port) t. not_true (is_among (signals_of dp) p.sig.0) (and_parts (not (is_among (signals_of dp) p.sig.0)) (has_width w p.sig.0) t).0) fresh (passes is_new tp))

  ports_distinct : IsDistinct nat_eq (signals_of ports)
  ports_distinct =
      subst (IsDistinct nat_eq) (sym (map-append (λ (p : Port). p.sig.0) dp fresh))
      (distinct_joined (signals_of dp) (signals_of fresh) (domain_ports_distinct w gives ds r.domains r.apart) (distinct_filtered (λ (p : Port). p.sig.0) is_new tp (top_distinct w ds own all top r.ports)) fresh_apart)

  few_ports : length ports ≤ 16384
  few_ports = omega (arith, few_below (signals_of ports) (length w.signals) ports_distinct (all_mapped (λ s. s < length w.signals) (λ (p : Port). p.sig.0) ports ports_there), length_map (λ (p : Port). p.sig.0) ports, rules.few_signals)

  -- ---- registers

  regs_there : AllByRecursion (λ s. s < length w.signals) regs
  regs_there = all_filtered (λ s. s < length w.signals) is_column (range_with_len 0 (length w.signals)) (range_all (λ s. s < length w.signals) 0 (length w.signals) (λ s low high. omega (arith, high)))

  regs_distinct : IsDistinct nat_eq regs
  regs_distinct = subst (IsDistinct nat_eq) (map_same regs) (distinct_filtered (λ s. s) is_column (range_with_len 0 (length w.signals)) (subst (IsDistinct nat_eq) (sym (map_same (range_with_len 0 (length w.signals)))) (range_distinct 0 (length w.signals))))

  few_regs : length regs ≤ 16384
  few_regs = omega (arith, few_below regs (length w.signals) regs_distinct regs_there, rules.few_signals)

  cands_length : length cands ≡ length ports + length regs
  cands_length = length-append (map column_of_port ports) (map (column_of_register w ds all) regs) ∙ ap (λ n. n + length (map (column_of_register w ds all) regs)) (length_map column_of_port ports) ∙ ap (λ n. length ports + n) (length_map (column_of_register w ds all) regs)

  few_cands : length cands < 2 ^ 64
  few_cands = omega (arith, cands_length, few_ports, few_regs)

  few_all : length {A = List ℕ} [] + length cands < 2 ^ 64
  few_all = omega (arith, few_cands)

  ports_fit : length ports ≤ length cols
  ports_fit = omega (arith, columns_length [] cands, cands_length)

  port_signals_are : port_signals c ≡ signals_of ports
  port_signals_are = named_signals ports cols ports_fit

  -- ---- widths

  bit_wide : (s : SigId) → IsBit w s → 1 ≤ (signal_form w.signals s.0).width
  bit_wide s h = subst (λ f. 1 ≤ f.width) (sym h.form) (omega arith)

  domain_wide : (d : Domain) → IsDomainOf w d → AllByRecursion (λ s. 1 ≤ (signal_form w.signals s).width) (domain_numbers d)
  domain_wide d h = (bit_wide d.clk h.clock, by d.rst h.reset)
    where
      by : (o : Option SigId) → IsResetOf w d.clk o → AllByRecursion (λ s. 1 ≤ (signal_form w.signals s).width) (option_map_or (λ (s : SigId). s.0 ∷ []) o [])
      by None k = tt
      by (Some s) k = (bit_wide s k.0, tt)

  domains_wide : AllByRecursion (λ (p : Port). 1 ≤ (signal_form w.signals p.sig.0).width) dp
  domains_wide = all_ports (λ s. 1 ≤ (signal_form w.signals s).width) w gives ds (all_imp (λ (d : Domain) h. domain_wide d h) ds r.domains)

  ports_wide : AllByRecursion (λ (p : Port). 1 ≤ (signal_form w.signals p.sig.0).width) ports
  ports_wide =
      all_joined (λ (p : Port). 1 ≤ (signal_form w.signals p.sig.0).width) dp fresh domains_wide
      (all_imp (λ (p : Port) t. wide_enough (signal_form w.signals p.sig.0).width (and_parts (not (is_among (signals_of dp) p.sig.0)) (has_width w p.sig.0) t).1) fresh (passes is_new tp))

  reg_parts : (s : ℕ) → is_column s ≡ true → (is_some (register_path w all s) ≡ true) × (is_among (signals_of ports) s ≡ false) × (1 ≤ (signal_form w.signals s).width)
  reg_parts s t =
      let a = and_parts (is_some (register_path w all s)) (not (is_among (signals_of ports) s) && has_width w s) t in
      let b = and_parts (not (is_among (signals_of ports) s)) (has_width w s) a.1 in
      (a.0, not_true (is_among (signals_of ports) s) b.0, wide_enough (signal_form w.signals s).width b.1)

  regs_pass : AllByRecursion (λ s. is_column s ≡ true) regs
  regs_pass = passes is_column (range_with_len 0 (length w.signals))

  -- ---- names

  domains_called : AllByRecursion (λ (d : Domain). IsName d.name) ds
  domains_called = all_imp (λ (d : Domain) h. h.name) ds r.domains

  name_of : (s : ℕ) → s < length w.signals → IsName (shown_name w ds s)
  name_of s low = among_named ds s (signal_name w s) domains_called (name_at w.signals s (bit_signal []) low r.names)

  domain_named : (d : Domain) → IsSignal w d → AllByRecursion IsNamedPort (ports_of_domain w ds gives d)
  domain_named d h = (name_of d.clk.0 h.clock, reset_named d.rst h.reset)
    where
      reset_named : (o : Option SigId) → IsResetThere w o → AllByRecursion (λ (p : Port). IsName p.name) (option_map_or (reset_port w ds gives) o [])
      reset_named None h = tt
      reset_named (Some s) h = split (gives s.0)
        where
          split : (b : Bool) → AllByRecursion (λ (p : Port). IsName p.name) (if b then [] else port_of w ds true s.0 ∷ [])
          split true = tt
          split false = (name_of s.0 h, tt)

  domains_named : (xs : List Domain) → AllByRecursion (IsSignal w) xs → AllByRecursion IsNamedPort (flat_map (ports_of_domain w ds gives) xs)
  domains_named [] h = tt
  domains_named (d ∷ xs) h = all_joined IsNamedPort (ports_of_domain w ds gives d) (flat_map (ports_of_domain w ds gives) xs) (domain_named d h.0) (domains_named xs h.1)

  loose_named : (a n : ℕ) → a + n ≤ length w.signals → AllByRecursion IsNamedPort (filter_map (loose_port w ds own all) (range_with_len a n))
  loose_named a zero le = tt
  loose_named a (suc n) le =
      bools (is_driven w own a) (is_read w all.processes all.memories a && not (gives a)) (filter_map (loose_port w ds own all) (range_with_len (a + 1) n)) (name_of a (omega (arith, le))) (loose_named (a + 1) n (omega (arith, le)))
    where
      bools : (x y : Bool) (rest : List Port) → IsName (shown_name w ds a) → AllByRecursion IsNamedPort rest → AllByRecursion IsNamedPort (cons_option (cond x (Some (port_of w ds false a)) (cond y (Some (port_of w ds true a)) None)) rest)
      bools true y rest n h = (n, h)
      bools false true rest n h = (n, h)
      bools false false rest n h = h

  top_named : (t : TopPorts) → AreTopPorts w t → AllByRecursion IsNamedPort (top_ports w ds own all t)
  top_named (Members given) h = all_imp (λ (p : Port) k. k.name) given h.each
  top_named (Held given) h = all_mapped (λ (p : Port). IsName p.name) (held_port ds gives) given (all_imp (λ (p : Port) k. among_named ds p.sig.0 p.name domains_called k.name) given h.each)
  top_named Loose h = loose_named 0 (length w.signals) (omega arith)

  register_named : (s : ℕ) → s < length w.signals → IsPath (column_of_register w ds all s).name
  register_named s low = under_path (unwrap_or (register_path w all s) []) (shown_name w ds s) (by (register_path w all s) (naming (is_driven w (filter is_clocked ps) s))) (name_of s low)
    where
      naming : (b : Bool) → IsNaming (if b then process_path w all.processes all.paths s else memory_path all.memories all.memory_paths s)
      naming true = process_naming w all.processes all.paths s r.walk.each
      naming false = memory_naming all.memories all.memory_paths s r.walk.memory_each

      by : (o : Option (List ℕ)) → IsNaming o → IsUnder (unwrap_or o [])
      by None h = top_path
      by (Some path) h = h

  cands_named : AllByRecursion (λ (x : Column). IsPath x.name) cands
  cands_named =
      all_joined (λ (x : Column). IsPath x.name) (map column_of_port ports) (map (column_of_register w ds all) regs)
      (all_mapped (λ (x : Column). IsPath x.name) column_of_port ports
      (all_imp (λ (p : Port) n. name_path p.name n) ports (all_joined (λ (p : Port). IsName p.name) dp fresh (domains_named ds signals) (all_filtered (λ (p : Port). IsName p.name) is_new tp (top_named top r.ports)))))
      (all_mapped (λ (x : Column). IsPath x.name) (column_of_register w ds all) regs (all_imp (λ s low. register_named s low) regs regs_there))

  -- ---- processes

  processes_sound : AllByRecursion (IsProcess c) c.processes
  processes_sound =
      all_mapped (IsProcess c) (process_in ds) ps
      (all_imp (λ (p : Process) h. record {
        domain = there_domain c (domain_number ds p.side) (domain_there ds p.side);
        expressions = all_imp (λ (e : ExprId) k. record { there = k.there; resolved = k.resolved }) (block_exprs p.body) h.expressions;
        targets = h.targets;
      }) ps r.processes)

  -- ---- columns

  register_sound : (s : ℕ) → is_some (register_path w all s) ≡ true → IsTrue (is_register c s)
  register_sound s t = by (is_driven w (filter is_clocked ps) s) (clocked_any w ds s ps r.known) t
    where
      clocked : Bool
      clocked = list_any (λ (p : DesignProcess). is_some p.domain && is_among (driven w p.body) s) (map (process_in ds) ps)

      given : Bool
      given = list_any (λ (m : Memory). list_any (λ (r : MemRead). is_some r.domain && (r.word.0 == s)) m.reads) all.memories

      by : (b : Bool) → clocked ≡ b → is_some (if b then process_path w all.processes all.paths s else memory_path all.memories all.memory_paths s) ≡ true → (clocked || given) ≡ true
      by true e h = ap (λ b. b || given) e
      by false e h = or_true clocked given (memory_data all.memories all.memory_paths s h)

  columns_sound : AreColumns c
  columns_sound = record {
    registers = regs;
    split =
        columns_signals [] cands
        ∙ map-append (λ (x : Column). x.sig.0) (map column_of_port ports) (map (column_of_register w ds all) regs)
        ∙ ap (λ xs. xs ++ map (λ (x : Column). x.sig.0) (map (column_of_register w ds all) regs)) (map_map column_of_port (λ (x : Column). x.sig.0) ports)
        ∙ ap (λ xs. signals_of ports ++ xs) (map_map (column_of_register w ds all) (λ (x : Column). x.sig.0) regs ∙ map_same regs)
        ∙ ap (λ xs. xs ++ regs) (sym port_signals_are);
    are_registers = all_imp (λ s t. register_sound s (reg_parts s t).0) regs regs_pass;
    no_ports = all_imp (λ s t. ap (λ ss. is_among ss s) port_signals_are ∙ (reg_parts s t).1) regs regs_pass;
    each_once = regs_distinct;
    there =
        columns_keep (λ s. s < length w.signals) [] cands
        (all_joined (λ (x : Column). x.sig.0 < length w.signals) (map column_of_port ports) (map (column_of_register w ds all) regs) (all_mapped (λ (x : Column). x.sig.0 < length w.signals) column_of_port ports ports_there)
        (all_mapped (λ (x : Column). x.sig.0 < length w.signals) (column_of_register w ds all) regs regs_there));
    some_width =
        columns_keep (λ s. 1 ≤ (signal_form w.signals s).width) [] cands
        (all_joined (λ (x : Column). 1 ≤ (signal_form w.signals x.sig.0).width) (map column_of_port ports) (map (column_of_register w ds all) regs)
        (all_mapped (λ (x : Column). 1 ≤ (signal_form w.signals x.sig.0).width) column_of_port ports ports_wide)
        (all_mapped (λ (x : Column). 1 ≤ (signal_form w.signals x.sig.0).width) (column_of_register w ds all) regs (all_imp (λ s t. (reg_parts s t).2) regs regs_pass)));
    names = columns_distinct [] cands few_all no_names;
    name_forms = columns_public [] cands few_all cands_named;
  }

  -- ---- drivers

  stops : (data_refusal all.memories ≡ None) × (driver_refusal w (design_inputs ds top) words ps ≡ None)
  stops = first_none (data_refusal all.memories) (driver_refusal w (design_inputs ds top) words ps) free

  apart : AreFree w (design_inputs ds top) words ps
  apart = are_free w (design_inputs ds top) words ps stops.1

  once : has_twice words ≡ false
  once = (none_some (has_twice words) _ None stops.0).0

  -- what is driven is no input, whichever of these they are
  domains_untouched : AllByRecursion (λ (p : Process). share (driven w p.body) (flat_map domain_inputs ds) ≡ false) ps
  domains_untouched = all_imp (λ (p : Process) h. (share_both (driven w p.body) (flat_map domain_inputs ds) (top_inputs top) h).0) ps apart.inputs

  members_free : AllByRecursion (λ (p : Process). share (driven w p.body) (top_inputs top) ≡ false) ps
  members_free = all_imp (λ (p : Process) h. (share_both (driven w p.body) (flat_map domain_inputs ds) (top_inputs top) h).1) ps apart.inputs

  drivers_are : drivers c ≡ map (λ (p : Process). driven w p.body) ps ++ map single words
  drivers_are = ap (λ xs. xs ++ read_drivers all.memories) (map_map (process_in ds) (λ (p : DesignProcess). driven w p.body) ps) ∙ ap (λ xs. map (λ (p : Process). driven w p.body) ps ++ xs) (read_drivers_are all.memories)

  drivers_apart : IsDistinct share (drivers c)
  drivers_apart =
      subst (IsDistinct share) (sym drivers_are)
      (lists_distinct (map (λ (p : Process). driven w p.body) ps) (map single words) apart.apart (singles_distinct words once)
      (all_mapped (λ x. AllByRecursion (λ y. share x y ≡ false) (map single words)) (λ (p : Process). driven w p.body) ps (all_imp (λ (p : Process) h. apart_singles (driven w p.body) words h) ps apart.earlier)))

  driven_any : (s : ℕ) → list_any (λ ss. is_among ss s) (drivers c) ≡ gives s
  driven_any s =
      ap (list_any (λ ss. is_among ss s)) drivers_are
      ∙ any-append (λ ss. is_among ss s) (map (λ (p : Process). driven w p.body) ps) (map single words)
      ∙ ap (λ b. b || list_any (λ ss. is_among ss s) (map single words)) (any_map (λ ss. is_among ss s) (λ (p : Process). driven w p.body) ps)
      ∙ ap (λ b. is_driven w ps s || b) (singles_any words s)

  -- an input that nothing drives
  abbrev IsFreePort : Port → Type 0
  IsFreePort p = IsTrue p.is_input → gives p.sig.0 ≡ false

  abbrev IsAmongInputs : List Port → Port → Type 0
  IsAmongInputs given p = IsTrue p.is_input → is_among (map (λ (x : Port). x.sig.0) (filter (λ (x : Port). x.is_input) given)) p.sig.0 ≡ true

  inputs_among : (given : List Port) → AllByRecursion (IsAmongInputs given) given
  inputs_among [] = tt
  inputs_among (p ∷ given) = (
    λ input. here p.is_input input,
    (let f : (x : Port) → IsAmongInputs given x → IsAmongInputs (p ∷ given) x = λ x h input. more p.is_input x (h input) in all_imp f given (inputs_among given)),
  )
    where
      here : (b : Bool) → IsTrue b → is_among (map (λ (x : Port). x.sig.0) (cond b (p ∷ filter (λ (x : Port). x.is_input) given) (filter (λ (x : Port). x.is_input) given))) p.sig.0 ≡ true
      here true t = ap (λ b. b || is_among (map (λ (x : Port). x.sig.0) (filter (λ (x : Port). x.is_input) given)) p.sig.0) (eq-eqb p.sig.0 p.sig.0 refl)
      here false t = absurd (false≢true t)

      more : (b : Bool) (x : Port) → is_among (map (λ (x : Port). x.sig.0) (filter (λ (x : Port). x.is_input) given)) x.sig.0 ≡ true → is_among (map (λ (x : Port). x.sig.0) (cond b (p ∷ filter (λ (x : Port). x.is_input) given) (filter (λ (x : Port). x.is_input) given))) x.sig.0 ≡ true
      more true x h = or_true (p.sig.0 == x.sig.0) _ h
      more false x h = h

  -- no read port gives an input
  data_free : (s : ℕ) → is_among (flat_map domain_numbers ds ++ top_inputs top) s ≡ true → is_among words s ≡ false
  data_free s in' = apart_at words (flat_map domain_numbers ds ++ top_inputs top) s (any_none (is_among (flat_map domain_numbers ds ++ top_inputs top)) words r.free_data) in'

  free_of : (ins : List ℕ) (s : ℕ) → AllByRecursion (λ (p : Process). share (driven w p.body) ins ≡ false) ps → is_among ins s ≡ true → is_among words s ≡ false → gives s ≡ false
  free_of ins s h in' none = ap (λ b. b || is_among words s) (any_none (λ (p : Process). is_among (driven w p.body) s) ps (all_imp (λ (p : Process) k. apart_at (driven w p.body) ins s k in') ps h)) ∙ none

  -- what stands in the first of two lists stands in both
  left_among : (xs ys : List ℕ) (s : ℕ) → is_among xs s ≡ true → is_among (xs ++ ys) s ≡ true
  left_among xs ys s h = any-append (λ x. x == s) xs ys ∙ ap (λ b. b || is_among ys s) h

  right_among : (xs ys : List ℕ) (s : ℕ) → is_among ys s ≡ true → is_among (xs ++ ys) s ≡ true
  right_among xs ys s h = any-append (λ x. x == s) xs ys ∙ or_true (is_among xs s) (is_among ys s) h

  -- an input of a domain is one of all domains, and among their signals
  abbrev IsDomainInput : List Domain → ℕ → Type 0
  IsDomainInput xs s = (is_among (flat_map domain_inputs xs) s ≡ true) × (is_among (flat_map domain_numbers xs) s ≡ true)

  own_inputs : (d : Domain) → AllByRecursion (λ s. (is_among (domain_inputs d) s ≡ true) × (is_among (domain_numbers d) s ≡ true)) (domain_inputs d)
  own_inputs d = (
    (ap (λ b. b || is_among (if d.async_reset then option_map_or (λ (s : SigId). s.0 ∷ []) d.rst [] else []) d.clk.0) (eq-eqb d.clk.0 d.clk.0 refl), ap (λ b. b || is_among (option_map_or (λ (s : SigId). s.0 ∷ []) d.rst []) d.clk.0) (eq-eqb d.clk.0 d.clk.0 refl)),
    at_once d.async_reset d.rst,
  )
    where
      second : (s : SigId) → is_among (d.clk.0 ∷ s.0 ∷ []) s.0 ≡ true
      second s = or_true (d.clk.0 == s.0) ((s.0 == s.0) || false) (ap (λ b. b || false) (eq-eqb s.0 s.0 refl))

      at_once : (b : Bool) (o : Option SigId)
          → AllByRecursion (λ s. (is_among (d.clk.0 ∷ (if b then option_map_or (λ (s : SigId). s.0 ∷ []) o [] else [])) s ≡ true) × (is_among (d.clk.0 ∷ option_map_or (λ (s : SigId). s.0 ∷ []) o []) s ≡ true)) (if b then option_map_or (λ (s : SigId). s.0 ∷ []) o [] else [])
      at_once false o = tt
      at_once true None = tt
      at_once true (Some s) = ((second s, second s), tt)

  inputs_in : (xs : List Domain) → AllByRecursion (λ (d : Domain). AllByRecursion (IsDomainInput xs) (domain_inputs d)) xs
  inputs_in [] = tt
  inputs_in (x ∷ xs) = (
    all_imp (λ s h. (left_among (domain_inputs x) (flat_map domain_inputs xs) s h.0, left_among (domain_numbers x) (flat_map domain_numbers xs) s h.1)) (domain_inputs x) (own_inputs x),
    (let f : (d : Domain) → AllByRecursion (IsDomainInput xs) (domain_inputs d) → AllByRecursion (IsDomainInput (x ∷ xs)) (domain_inputs d) =
        λ d h. all_imp (λ s k. (right_among (domain_inputs x) (flat_map domain_inputs xs) s k.0, right_among (domain_numbers x) (flat_map domain_numbers xs) s k.1)) (domain_inputs d) h in
        all_imp f xs (inputs_in xs)),
  )

  inputs_undriven : AllByRecursion (λ (d : Domain). AllByRecursion (λ s. gives s ≡ false) (domain_inputs d)) ds
  inputs_undriven =
      all_imp (λ (d : Domain) h. all_imp (λ s k. free_of (flat_map domain_inputs ds) s domains_untouched k.0 (data_free s (left_among (flat_map domain_numbers ds) (top_inputs top) s k.1))) (domain_inputs d) h) ds (inputs_in ds)

  clock_free : AllByRecursion (λ (d : Domain). gives d.clk.0 ≡ false) ds
  clock_free = all_imp (λ (d : Domain) h. h.0) ds inputs_undriven

  reset_free : (o : Option SigId) → AllByRecursion IsFreePort (option_map_or (reset_port w ds gives) o [])
  reset_free None = tt
  reset_free (Some s) = split (gives s.0) refl
    where
      split : (b : Bool) → gives s.0 ≡ b → AllByRecursion IsFreePort (if b then [] else port_of w ds true s.0 ∷ [])
      split true e = tt
      split false e = ((λ input. e), tt)

  domains_free : (xs : List Domain) → AllByRecursion (λ (d : Domain). gives d.clk.0 ≡ false) xs → AllByRecursion IsFreePort (flat_map (ports_of_domain w ds gives) xs)
  domains_free [] h = tt
  domains_free (d ∷ xs) h = all_joined IsFreePort (ports_of_domain w ds gives d) (flat_map (ports_of_domain w ds gives) xs) ((λ input. h.0), reset_free d.rst) (domains_free xs h.1)

  loose_free : (a n : ℕ) → AllByRecursion IsFreePort (filter_map (loose_port w ds own all) (range_with_len a n))
  loose_free a zero = tt
  loose_free a (suc n) = bools (is_driven w own a) (is_read w all.processes all.memories a && not (gives a)) refl (filter_map (loose_port w ds own all) (range_with_len (a + 1) n)) (loose_free (a + 1) n)
    where
      bools : (x y : Bool) → (is_read w all.processes all.memories a && not (gives a)) ≡ y → (rest : List Port) → AllByRecursion IsFreePort rest → AllByRecursion IsFreePort (cons_option (cond x (Some (port_of w ds false a)) (cond y (Some (port_of w ds true a)) None)) rest)
      bools true y e rest h = (λ input. absurd (false≢true input), h)
      bools false true e rest h = (λ input. not_true (gives a) (and_parts (is_read w all.processes all.memories a) (not (gives a)) e).1, h)
      bools false false e rest h = h

  top_free : (t : TopPorts) → AllByRecursion (λ (p : Process). share (driven w p.body) (top_inputs t) ≡ false) ps → ((s : ℕ) → is_among (top_inputs t) s ≡ true → is_among words s ≡ false) → AllByRecursion IsFreePort (top_ports w ds own all t)
  top_free (Members given) h none = (let f : (x : Port) → IsAmongInputs given x → IsFreePort x = λ x k input. free_of (top_inputs (Members given)) x.sig.0 h (k input) (none x.sig.0 (k input)) in all_imp f given (inputs_among given))
  top_free (Held given) h none = all_mapped IsFreePort (held_port ds gives) given (each given)
    where
      each : (xs : List Port) → AllByRecursion (λ (p : Port). IsTrue (not (gives p.sig.0)) → gives p.sig.0 ≡ false) xs
      each [] = tt
      each (x ∷ xs) = (not_true (gives x.sig.0), each xs)
  top_free Loose h none = loose_free 0 (length w.signals)

  ports_free : AllByRecursion IsFreePort ports
  ports_free = all_joined IsFreePort dp fresh (domains_free ds clock_free) (all_filtered IsFreePort is_new tp (top_free top members_free (λ s in'. data_free s (right_among (flat_map domain_numbers ds) (top_inputs top) s in'))))

  -- ---- domains

  signal_sound : (s : SigId) → IsBit w s → IsSignalOf c (unsigned 1) s
  signal_sound s h = record { there = h.there; shape = h.form }

  reset_sound : (clk : SigId) (o : Option SigId) → IsResetOf w clk o → IsReset c o
  reset_sound clk None h = tt
  reset_sound clk (Some s) h = signal_sound s h.0

  -- an input among the ports of domains is one of the design
  as_input : (s : ℕ) → IsInputAmong dp s → IsTrue (is_input c s)
  as_input s h = named_any (λ k b. b && (k == s)) ports cols ports_fit ∙ any-append (λ (p : Port). p.is_input && (p.sig.0 == s)) dp fresh ∙ ap (λ b. b || list_any (λ (p : Port). p.is_input && (p.sig.0 == s)) fresh) h

  -- so is a reset that acts at once
  reset_input : (b : Bool) (o : Option SigId) → AllByRecursion (IsInputAmong dp) (if b then option_map_or (λ (s : SigId). s.0 ∷ []) o [] else []) → IsTrue b → IsInputReset c o
  reset_input false o h t = absurd (false≢true t)
  reset_input true None h t = tt
  reset_input true (Some s) h t = as_input s.0 h.0

  abbrev AreInputs : Domain → Type 0
  AreInputs d = AllByRecursion (IsInputAmong dp) (domain_inputs d)

  abbrev IsAlone : Domain → Type 0
  IsAlone d = AllByRecursion (λ (e : Domain). (d ≡ e) ⊎ Apart d e) ds

  domain_sound : (d : Domain) → IsDomainOf w d → AreInputs d → IsAlone d → IsClockDomain c d
  domain_sound d h inputs alone = record {
    clock = signal_sound d.clk h.clock;
    reset = reset_sound d.clk d.rst h.reset;
    clock_input = as_input d.clk.0 inputs.0;
    clock_no_reset = clock_no_reset w ds d r.domains alone;
    async_input = reset_input d.async_reset d.rst inputs.1;
  }

  domains_sound : AllByRecursion (IsClockDomain c) c.domains
  domains_sound =
      all_both {P = λ (d : Domain). IsDomainOf w d × AreInputs d} {Q = IsAlone} (λ (d : Domain) h alone. domain_sound d h.0 h.1 alone) ds
      (all_both {P = IsDomainOf w} {Q = AreInputs} (λ (d : Domain) h inputs. (h, inputs)) ds r.domains (inputs_are_ports w gives ds inputs_undriven)) (pairs ds r.apart)

  -- ---- the design

  pub design_apart : IsApart c
  design_apart = record {
    names = r.domain_names;
    one_driver = drivers_apart;
    no_driven_input =
        named_all (λ s b. IsTrue b → list_any (λ ss. is_among ss s) (drivers c) ≡ false) ports cols
        (let f : (p : Port) → IsFreePort p → (IsTrue p.is_input → list_any (λ ss. is_among ss p.sig.0) (drivers c) ≡ false) = λ p h input. driven_any p.sig.0 ∙ h input in all_imp f ports ports_free);
  }

  pub design_sound : length ps < 2 ^ 32 → IsDesign c
  design_sound few = record {
    few_processes = omega (arith, few, length_map (process_in ds) ps);
    processes = processes_sound;
    domains = domains_sound;
    domain_names = design_apart.names;
    clocks = clocks_distinct ds r.apart;
    resets = resets_distinct ds r.apart;
    memories = all_both (λ (m : Memory) h d. memory_sound c m h d) all.memories r.memories r.ports_known;
    ports = subst (IsDistinct nat_eq) (sym port_signals_are) ports_distinct;
    columns = columns_sound;
    one_driver = design_apart.one_driver;
    no_driven_input = design_apart.no_driven_input;
  }
