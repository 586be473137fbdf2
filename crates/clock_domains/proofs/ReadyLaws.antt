-- What holds of a module with those below it whose domains were made.
use Rattle.std.proofs.Common.{◌≡◌, inl, inr, ℕ, suc, ◌+◌, ◌-◌, ◌<◌, ◌≤◌, ◌^◌, ◌==◌, ◌||◌, Bool, true, false, ◌&&◌, if◌then◌else◌, not, List, [], ◌∷◌, ◌++◌, map, length, Option, Some, None, is_some, Result, Ok, refl, sym, ap, ◌∙◌, subst, arith, append-nil}
use Rattle.std.specs.List.{AllByRecursion, IsDistinct, filter, flat_map, list_any, range_with_len}
use Rattle.std.proofs.lemmas.Bool.{false≢true, cases_lt}
use Rattle.std.proofs.lemmas.List.{get_or_past, length-append}
use Rattle.std.proofs.lemmas.List.Elements.{filter-append}
use Rattle.lists.specs.Names.{IsName}
use Rattle.lists.specs.Texts.{text_eq}
use Rattle.lists.proofs.TextLaws.{text_eq_same}
use Rattle.design_ir.specs.declared.ids.ExprId.{ExprId}
use Rattle.design_ir.specs.declared.ids.SigId.{SigId}
use Rattle.design_ir.specs.declared.signal.Sig.{Sig}
use Rattle.design_ir.specs.declared.port.Port.{Port}
use Rattle.design_ir.specs.declared.port.Column.{Column}
use Rattle.design_ir.specs.declared.domain.Domain.{Domain}
use Rattle.design_ir.specs.declared.domain.DomainDef.{DomainDef}
use Rattle.design_ir.specs.declared.process.Process.{Process}
use Rattle.design_ir.specs.declared.process.DesignProcess.{DesignProcess}
use Rattle.design_ir.specs.declared.memory.MemRead.{MemRead}
use Rattle.design_ir.specs.declared.memory.Memory.{Memory}
use Rattle.design_ir.specs.declared.fragment.Fragment.{Fragment}
use Rattle.design_ir.specs.Named.{AllBelow}
use Rattle.design_ir.specs.Pools.{Pooled}
use Rattle.design_ir.specs.PoolRules.{IsPool}
use Rattle.design_ir.specs.Circuits.{Circuit, is_among}
use Rattle.design_ir.specs.Guards.{block_exprs}
use Rattle.design_ir.specs.Designs.{IsDesign}
use Rattle.fragment_walks.specs.Held.{fragment_exprs, held_resets, is_within, memory_exprs}
use Rattle.fragment_walks.specs.Marks.{Flag, is_marked}
use Rattle.fragment_walks.specs.Reads.{data_signals, is_driven, is_given}
use Rattle.fragment_walks.specs.Walks.{Contents, all_contents, all_definitions, all_memories, all_names, all_paths, all_processes, port_names}
use Rattle.fragment_walks.specs.Numbers.{first_at}
use Rattle.fragment_walks.proofs.Lists.{all_both, all_filtered, all_imp, all_joined, all_mapped, all_unmapped, any-append, or_none}
use Rattle.fragment_walks.proofs.WalkLaws.{walk_has, walk_length, walk_memory_length}
use Rattle.clock_domains.specs.declared.top.TopPorts.{TopPorts}
use Rattle.clock_domains.specs.declared.top.TopPorts.TheVariants.{Members, Held, Loose}
use Rattle.clock_domains.specs.declared.stop.ResolveStop.{ResolveStop}
use Rattle.clock_domains.specs.declared.stop.ResolveStop.TheVariants as stop
use Rattle.clock_domains.specs.Resolvable.{IsDefinition, IsDomainOf, IsMemoryOf, IsOpenSide, IsPlain, IsResolvable, IsSideOf, IsTree, domain_numbers, top_inputs}
use Rattle.clock_domains.specs.Resolved.{clash_after, clocked_data, column_of_port, column_of_register, columns_after, columns_of, circuit_of, defined_domain, domain_names, domain_ports, domain_signals, domain_stop, domains_from, driver_stop, has_width, is_clocked, is_past_limit, limit_where, made_domains, made_names, made_pool, named_registers, ports_named, ports_of, process_in, register_path, reset_refusal, resolved, resolved_in, signals_of, top_ports, unless, whole_pool, with_domains, IsResolveRefusal}
use Rattle.clock_domains.specs.Chosen.{IsSignal}
use Rattle.clock_domains.specs.Firsts.{AreNumbersThere, AreSites, IsPlace, column_under, first_site, known_column, path_at}
use Rattle.clock_domains.specs.Ready.{AreClocked, AreWalked, IsPlainMemory, IsReady}
use Rattle.clock_domains.specs.Stops.{IsOwed}
use Rattle.clock_domains.proofs.EachOnce.{once_all, once_distinct}
use Rattle.clock_domains.proofs.WalkedNames.{walk_definitions, walk_memory_named, walk_named, walk_names}
use Rattle.clock_domains.proofs.MadeDomains.{domains_length, length_with}
use Rattle.clock_domains.proofs.DriverLaws.{is_driven_none, plain_below}
use Rattle.clock_domains.proofs.ChoiceLaws.{range_all, range_split, domain_there, top_there}
use Rattle.clock_domains.proofs.DesignNames.{columns_length}
use Rattle.clock_domains.proofs.DesignSound.{first_none, top_wider}
use Rattle.clock_domains.proofs.DesignParts.{domain_signal_names, domains_signal}
use Rattle.clock_domains.proofs.DesignWhole.{IsApart, design_apart, design_sound}
use Rattle.clock_domains.proofs.GivenDomains.{domains_apart, domains_free, domains_known, domains_sound, few_names, names_distinct, ports_known}
use Rattle.clock_domains.proofs.HeldSignals.{held_signals}
use Rattle.clock_domains.proofs.PlacedLaws.{placed_rules, placed_signals}
use Rattle.clock_domains.proofs.PlacedParts.{IsMoved, all_together, moved_memory, roots_within, whole_domains, whole_memory, whole_side}
use Rattle.clock_domains.proofs.SiteLaws.{memory_none, site_none, site_path, site_place}
use Rattle.clock_domains.proofs.WalkedParts.{top_processes, walk_memories, walk_ports, walk_processes}

module _ (q : Pooled) (ds : List Domain) (own : List Process) (all : Contents) (top : TopPorts) (h : IsReady q ds own all top) where
  pub ready_domains : AllByRecursion (IsSignal q) ds
  ready_domains = domains_signal q ds h.domains

  pub ready_ports : AllByRecursion (λ (p : Port). p.sig.0 < length q.signals) (ports_of q ds own all top)
  ready_ports =
      all_joined (λ (p : Port). p.sig.0 < length q.signals) (domain_ports q (is_given q all.processes all.memories) ds) _ (domain_there q (is_given q all.processes all.memories) ds ready_domains)
      (all_filtered (λ (p : Port). p.sig.0 < length q.signals) _ (top_ports q ds own all top) (top_there q ds own all top h.ports))

  -- read ports give signals of the pool
  pub ready_data : AllByRecursion (λ s. s < length q.signals) (data_signals all.memories)
  ready_data =
      all_together (λ s. s < length q.signals) (λ (m : Memory). map (λ (r : MemRead). r.word.0) m.reads) all.memories
      (all_imp (λ (m : Memory) k. all_mapped (λ s. s < length q.signals) (λ (r : MemRead). r.word.0) m.reads (all_imp (λ (r : MemRead) x. x.word.there) m.reads k.memory.reads)) all.memories h.memories)

  pub ready_clocked : AreClocked q all.memories
  ready_clocked =
      all_imp (λ (m : Memory) k. all_mapped (λ s. s < length q.signals) (λ (r : MemRead). r.word.0) (filter (λ (r : MemRead). is_some r.domain) m.reads)
      (all_filtered (λ (r : MemRead). r.word.0 < length q.signals) (λ (r : MemRead). is_some r.domain) m.reads (all_imp (λ (r : MemRead) x. x.word.there) m.reads k.memory.reads))) all.memories h.memories

  -- and their expressions are there
  pub ready_exprs : AllBelow (length q.exprs) (flat_map memory_exprs all.memories)
  ready_exprs = plain_below q (flat_map memory_exprs all.memories) (all_together (IsPlain q) memory_exprs all.memories (all_imp (λ (m : Memory) k. k.expressions) all.memories h.memories))

  pub ready_design : IsPool q → driver_stop q ds all top ≡ None → length all.processes < 2 ^ 32 → IsDesign (circuit_of q ds all (ports_of q ds own all top))
  ready_design rules free few = design_sound q ds own all top h rules free few

  -- however many processes there are
  pub ready_apart : IsPool q → driver_stop q ds all top ≡ None → IsApart (circuit_of q ds all (ports_of q ds own all top))
  ready_apart rules free = design_apart q ds own all top h rules free

-- the ports look at processes and memories alone
module _ (q : Pooled) (ds : List Domain) (own : List Process) where
  of_both : TopPorts → List Process → List Memory → List Port
  of_both top ps ms = ports_of q ds own (record { processes = ps; paths = []; memories = ms; memory_paths = [] }) top

  both_alike : (top : TopPorts) (a : Contents) → ports_of q ds own a top ≡ of_both top a.processes a.memories
  unfolding of_both
  both_alike (Members given) a = refl
  both_alike (Held given) a = refl
  both_alike Loose a = refl

  pub ports_alike : (top : TopPorts) (a b : Contents) → a.processes ≡ b.processes → a.memories ≡ b.memories → ports_of q ds own a top ≡ ports_of q ds own b top
  ports_alike top a b e f = both_alike top a ∙ ap (λ ps. of_both top ps a.memories) e ∙ ap (of_both top b.processes) f ∙ sym (both_alike top b)

-- ---- named registers

filter_none : {A : Type 0} (p : A → Bool) (xs : List A) → AllByRecursion (λ x. p x ≡ false) xs → filter p xs ≡ []
filter_none p [] h = refl
filter_none p (x ∷ xs) h = let a = h.0 in let b = filter_none p xs h.1 in cc

filter_agree : {A : Type 0} (p q : A → Bool) (xs : List A) → AllByRecursion (λ x. p x ≡ q x) xs → filter p xs ≡ filter q xs
filter_agree p q [] h = refl
filter_agree p q (x ∷ xs) h = let a = h.0 in let b = filter_agree p q xs h.1 in cc

filter_shorter : (p : ℕ → Bool) (n m : ℕ) → n ≤ m → ((s : ℕ) → n ≤ s → p s ≡ false) → filter p (range_with_len 0 m) ≡ filter p (range_with_len 0 n)
filter_shorter p n m le none =
    ap (λ k. filter p (range_with_len 0 k)) (let e : m ≡ n + (m - n) = omega (arith, le) in e)
    ∙ ap (filter p) (range_split 0 n (m - n))
    ∙ filter-append p (range_with_len 0 n) (range_with_len (0 + n) (m - n))
    ∙ ap (λ xs. filter p (range_with_len 0 n) ++ xs) (filter_none p (range_with_len (0 + n) (m - n)) (range_all (λ s. p s ≡ false) (0 + n) (m - n) (λ s low high. none s (omega (arith, low)))))
    ∙ append-nil (filter p (range_with_len 0 n))

map_on : {A B : Type 0} (f g : A → B) (xs : List A) → AllByRecursion (λ x. f x ≡ g x) xs → map f xs ≡ map g xs
map_on f g [] h = refl
map_on f g (x ∷ xs) h = let a = h.0 in let b = map_on f g xs h.1 in cc

pub registers_there : (q : Pooled) (all : Contents) (ports : List Port) (rs : List SigId) → map (λ (s : SigId). s.0) rs ≡ named_registers q all ports → AllByRecursion (λ (s : SigId). s.0 < length q.signals) rs
registers_there q all ports rs e =
    all_unmapped (λ s. s < length q.signals) (λ (s : SigId). s.0) rs
    (subst (AllByRecursion (λ s. s < length q.signals)) (sym e) (all_filtered (λ s. s < length q.signals) _ (range_with_len 0 (length q.signals)) (range_all (λ s. s < length q.signals) 0 (length q.signals) (λ s low high. omega (arith, high)))))

module _ (q : Pooled) (all : Contents) (sites : List (Option ℕ)) (rules : IsPool q) (walk : AreWalked all) (clocked : AreClocked q all.memories) (f : AreSites q all.processes all.memories sites) where
  abbrev paths : List (Option (List ℕ))
  paths = all.paths ++ all.memory_paths

  -- the path at a signal's number is that of the register
  path_same : (s : ℕ) → s < 16384 → path_at paths (first_at sites s) ≡ register_path q all s
  path_same s small = ap (path_at paths) (f.each s small) ∙ site_path q all.processes all.memories all.paths all.memory_paths s walk.size

  path_none : (s : ℕ) → length q.signals ≤ s → register_path q all s ≡ None
  path_none s past = sym (site_path q all.processes all.memories all.paths all.memory_paths s walk.size) ∙ ap (path_at paths) (nowhere s past)
    where
      nowhere : (s : ℕ) → length q.signals ≤ s → first_site q all.processes all.memories s ≡ None
      nowhere s past = site_none q all.processes all.memories s (is_driven_none q (filter is_clocked all.processes) s rules past) (memory_none (length q.signals) all.memories s clocked past)

  pub registers_same : (ports : List Port) (is_port : List Bool) → Flag is_port (is_among (signals_of ports))
      → filter (λ s. is_some (path_at paths (first_at sites s)) && (not (is_marked is_port s) && has_width q s)) (range_with_len 0 (length sites)) ≡ named_registers q all ports
  registers_same ports is_port g =
      let test : ℕ → Bool = λ s. is_some (register_path q all s) && (not (is_among (signals_of ports) s) && has_width q s) in
      filter_agree (λ s. is_some (path_at paths (first_at sites s)) && (not (is_marked is_port s) && has_width q s)) test (range_with_len 0 (length sites))
      (range_all (λ s. (is_some (path_at paths (first_at sites s)) && (not (is_marked is_port s) && has_width q s)) ≡ (is_some (register_path q all s) && (not (is_among (signals_of ports) s) && has_width q s))) 0 (length sites)
      (λ s low high.
      let small : s < 16384 = omega (arith, high, f.size) in
      ap (λ o. is_some o && (not (is_marked is_port s) && has_width q s)) (path_same s small) ∙ ap (λ b. is_some (register_path q all s) && (not b && has_width q s)) (g.each s small)))
      ∙ filter_shorter test (length q.signals) (length sites) (omega (arith, rules.few_signals, f.size))
      (λ s le. ap (λ o. is_some o && (not (is_among (signals_of ports) s) && has_width q s)) (path_none s le))

  pub columns_same : (ds : List Domain) (ports : List Port) → map (known_column q ds paths sites) (named_registers q all ports) ≡ map (column_of_register q ds all) (named_registers q all ports)
  columns_same ds ports =
      map_on (known_column q ds paths sites) (column_of_register q ds all) (named_registers q all ports)
      (all_filtered (λ s. known_column q ds paths sites s ≡ column_of_register q ds all s) _ (range_with_len 0 (length q.signals))
      (range_all (λ s. known_column q ds paths sites s ≡ column_of_register q ds all s) 0 (length q.signals) (λ s low high. ap (λ o. column_under q ds o s) (path_same s (omega (arith, high, rules.few_signals))))))

  -- what is found by paths that are these
  pub registers_found : (xs : List (Option (List ℕ))) (ports : List Port) (is_port : List Bool) (found : List ℕ) → xs ≡ paths → Flag is_port (is_among (signals_of ports))
      → found ≡ filter (λ s. is_some (path_at xs (first_at sites s)) && (not (is_marked is_port s) && has_width q s)) (range_with_len 0 (length sites)) → found ≡ named_registers q all ports
  registers_found xs ports is_port found e g h = h ∙ ap (λ ys. filter (λ s. is_some (path_at ys (first_at sites s)) && (not (is_marked is_port s) && has_width q s)) (range_with_len 0 (length sites))) e ∙ registers_same ports is_port g

  pub columns_found : (ds : List Domain) (ports' ports : List Port) (xs : List (Option (List ℕ))) (found : List ℕ) (named : List Column) → ports' ≡ ports → xs ≡ paths → found ≡ named_registers q all ports → named ≡ map (known_column q ds xs sites) found
      → columns_after [] (map column_of_port ports' ++ named) ≡ columns_of q ds all ports (named_registers q all ports)
  columns_found ds ports' ports xs found named a b r e =
      ap (λ ps. columns_after [] (map column_of_port ps ++ named)) a
      ∙ ap (λ cs. columns_after [] (map column_of_port ports ++ cs)) (e ∙ ap (λ ys. map (known_column q ds ys sites) found) b ∙ ap (map (known_column q ds paths sites)) r ∙ columns_same ds ports)

  -- only signals of the pool have numbers
  pub sites_there : AreNumbersThere q sites
  sites_there = record { size = f.size; there = λ s is. elim (cases_lt s (length q.signals)) [ inl below ↦ below | inr past ↦ absurd (nowhere s past is) ] }
    where
      nowhere : (s : ℕ) → length q.signals ≤ s → is_some (first_at sites s) ≡ true → ⊥
      nowhere s past is =
          elim (cases_lt s 16384) [
            | inl small ↦ false≢true (sym (ap is_some (f.each s small ∙ site_none q all.processes all.memories s (is_driven_none q (filter is_clocked all.processes) s rules past) (memory_none (length q.signals) all.memories s clocked past))) ∙ is)
            | inr large ↦ false≢true (sym (ap is_some (get_or_past sites s None (omega (arith, large, f.size)))) ∙ is)
          ]

  -- each number is one of a path
  pub sites_places : (s : ℕ) → IsPlace (length paths) (first_at sites s)
  sites_places s =
      elim (cases_lt s 16384) [
        | inl small ↦ subst (IsPlace (length paths)) (sym (f.each s small))
            (subst (λ n. IsPlace n (first_site q all.processes all.memories s)) (sym (length-append all.paths all.memory_paths ∙ ap (λ n. n + length all.memory_paths) walk.size ∙ ap (λ n. length all.processes + n) walk.memory_size)) (site_place q all.processes all.memories s))
        | inr large ↦ subst (IsPlace (length paths)) (sym (get_or_past sites s None (omega (arith, large, f.size)))) tt
      ]

mapped_length : {A B : Type 0} (f : A → B) (xs : List A) → length (map f xs) ≡ length xs
mapped_length f [] = refl
mapped_length f (x ∷ xs) = ap suc (mapped_length f xs)

joined_length : {A : Type 0} (xs ys : List A) → length (xs ++ ys) ≡ length xs + length ys
joined_length [] ys = let e : length ys ≡ 0 + length ys = omega arith in e
joined_length (x ∷ xs) ys = omega (arith, joined_length xs ys)

pub columns_enough : (ports : List Port) (regs cols : List Column) → cols ≡ columns_after [] (map column_of_port ports ++ regs) → length ports ≤ length cols
columns_enough ports regs cols e = omega (arith, ap length e, columns_length [] (map column_of_port ports ++ regs), joined_length (map column_of_port ports) regs, mapped_length column_of_port ports)

-- ---- the whole

pub circuit_parts : (q : Pooled) (ds : List Domain) (all : Contents) (ports ports' : List Port) (processes : List DesignProcess) (memories : List Memory) (cols : List Column)
    → processes ≡ map (process_in ds) all.processes → memories ≡ all.memories → cols ≡ columns_of q ds all ports (named_registers q all ports) → ports' ≡ ports_named ports cols
    → ◌≡◌ {A = Circuit} (record { pool = q; processes = processes; memories = memories; domains = ds; ports = ports'; columns = cols }) (circuit_of q ds all ports)
circuit_parts q ds all ports ports' processes memories cols a b e f =
    let named : ports' ≡ ports_named ports (columns_of q ds all ports (named_registers q all ports)) = f ∙ ap (ports_named ports) e in
    whole (map (process_in ds) all.processes) all.memories (columns_of q ds all ports (named_registers q all ports)) (ports_named ports (columns_of q ds all ports (named_registers q all ports))) a b e named
  where
    whole : (x : List DesignProcess) (u : List Memory) (y : List Column) (z : List Port) → processes ≡ x → memories ≡ u → cols ≡ y → ports' ≡ z → ◌≡◌ {A = Circuit} (record { pool = q; processes = processes; memories = memories; domains = ds; ports = ports'; columns = cols }) (record { pool = q; processes = x; memories = u; domains = ds; ports = z; columns = y })
    whole x u y z a b e f = cc

-- parts that were made by domains that are these
pub whole_made : (q : Pooled) (ds ds' : List Domain) (own : List Process) (all : Contents) (top : TopPorts) (ports' : List Port) (processes : List DesignProcess) (memories : List Memory) (cols : List Column)
    → ds' ≡ ds → processes ≡ map (process_in ds') all.processes → memories ≡ all.memories → cols ≡ columns_of q ds' all (ports_of q ds' own all top) (named_registers q all (ports_of q ds' own all top)) → ports' ≡ ports_named (ports_of q ds' own all top) cols
    → ◌≡◌ {A = Circuit} (record { pool = q; processes = processes; memories = memories; domains = ds; ports = ports'; columns = cols }) (circuit_of q ds all (ports_of q ds own all top))
whole_made q ds ds' own all top ports' processes memories cols same a b e f =
    circuit_parts q ds all (ports_of q ds own all top) ports' processes memories cols
    (subst (λ x. processes ≡ map (process_in x) all.processes) same a) b
    (subst (λ x. cols ≡ columns_of q x all (ports_of q x own all top) (named_registers q all (ports_of q x own all top))) same e)
    (subst (λ x. ports' ≡ ports_named (ports_of q x own all top) cols) same f)

-- ---- what is refused first

unless_owed : (o : Option ResolveStop) (r : Result Circuit ResolveStop) (s : ResolveStop) → IsOwed o s → IsResolveRefusal (unless o r) s
unless_owed o r (stop.DomainClash p) h = ap (λ x. unless x r) h
unless_owed o r (stop.NoReset p) h = ap (λ x. unless x r) h
unless_owed o r (stop.TwoDrivers p) h = ap (λ x. unless x r) h
unless_owed o r (stop.DrivenInput p) h = ap (λ x. unless x r) h
unless_owed o r (stop.Limit p) h = ap (λ x. unless x r) h
unless_owed o r stop.NoMemory h = tt

pub unless_ok : (o : Option ResolveStop) (r : Result Circuit ResolveStop) (c : Circuit) → unless o r ≡ Ok c → (o ≡ None) × (r ≡ Ok c)
unless_ok None r c e = (refl, e)
unless_ok (Some s) r c e = cc

module _ (q : Pooled) (ds : List Domain) (own : List Process) (all : Contents) (top : TopPorts) where
  pub accepted_in : driver_stop q ds all top ≡ None → resolved_in q ds own all top ≡ Ok (circuit_of q ds all (ports_of q ds own all top))
  unfolding resolved_in
  accepted_in e = ap (λ o. unless o (Ok (circuit_of q ds all (ports_of q ds own all top)))) e

  pub refused_in : (s : ResolveStop) → IsOwed (driver_stop q ds all top) s → IsResolveRefusal (resolved_in q ds own all top) s
  unfolding resolved_in
  refused_in s h = unless_owed (driver_stop q ds all top) (Ok (circuit_of q ds all (ports_of q ds own all top))) s h

  -- the domains of the design are these
  pub in_domains : (c : Circuit) → resolved_in q ds own all top ≡ Ok c → (driver_stop q ds all top ≡ None) × (circuit_of q ds all (ports_of q ds own all top) ≡ c)
  unfolding resolved_in
  in_domains c e = let parts = unless_ok (driver_stop q ds all top) (Ok (circuit_of q ds all (ports_of q ds own all top))) c e in (parts.0, same parts.1)
    where
      same : ◌≡◌ {A = Result Circuit ResolveStop} (Ok (circuit_of q ds all (ports_of q ds own all top))) (Ok c) → circuit_of q ds all (ports_of q ds own all top) ≡ c
      same e = cc

-- ---- a module with those below it

abbrev HasText : List (List ℕ) → List ℕ → Type 0
HasText names n = list_any (λ m. text_eq m n) names ≡ true

all_texts : (names : List (List ℕ)) → AllByRecursion (HasText names) names
all_texts [] = tt
all_texts (n ∷ names) = (
  ap (λ b. b || list_any (λ m. text_eq m n) names) (text_eq_same n),
  (let f : (m : List ℕ) → HasText names m → HasText (n ∷ names) m = λ m h. or_true (text_eq n m) (list_any (λ k. text_eq k m) names) h in all_imp f names (all_texts names)),
)
  where
    or_true : (a b : Bool) → b ≡ true → (a || b) ≡ true
    or_true true b e = refl
    or_true false b e = e

-- the domains of a tree are domains of the pool in which they are made
module _ (q : Pooled) (root : Fragment) (tree : IsTree q root) where
  pub tree_defined : AllByRecursion (IsDefinition q) (all_definitions root)
  tree_defined = walk_definitions q root tree

  pub tree_named : AllByRecursion IsName (domain_names q root)
  tree_named = once_all IsName (all_names q root) (walk_names q root tree)

  pub tree_sound : AllByRecursion (IsDomainOf (made_pool q root)) (made_domains q root)
  tree_sound = domains_sound q (all_definitions root) (domain_names q root) tree_defined tree_named

module _ (q : Pooled) (root : Fragment) (top : TopPorts) where
  abbrev pub definitions : List DomainDef
  definitions = all_definitions root

  abbrev pub names : List (List ℕ)
  names = domain_names q root

  -- over the pool with the signals of the domains that are made, and with resets as signals
  abbrev pub made : Pooled
  made = made_pool q root

  abbrev pub within : Pooled
  within = whole_pool q root

  abbrev pub domains : List Domain
  domains = made_domains q root

  abbrev below : Result Circuit ResolveStop
  below = resolved_in within domains root.processes (all_contents root) top

  pub domain_owed : (s : ResolveStop) → IsOwed (domain_stop q root) s → IsResolveRefusal (resolved q root top) s
  unfolding resolved
  domain_owed s h = unless_owed (domain_stop q root) below s h

  pub resolved_is : domain_stop q root ≡ None → resolved q root top ≡ below
  unfolding resolved
  resolved_is e = ap (λ o. unless o below) e

  pub record IsResolved (c : Circuit) : Type 0 where
    pub placed : domain_stop q root ≡ None
    pub free : driver_stop within domains (all_contents root) top ≡ None
    pub whole : circuit_of within domains (all_contents root) (ports_of within domains root.processes (all_contents root) top) ≡ c

  -- what was refused in no way
  pub resolved_whole : (c : Circuit) → resolved q root top ≡ Ok c → IsResolved c
  unfolding resolved
  resolved_whole c e =
      let first = unless_ok (domain_stop q root) below c e in
      let second = in_domains within domains root.processes (all_contents root) top c first.1 in
      record { placed = first.0; free = second.0; whole = second.1 }

  -- each way in which domains are not refused
  pub record ArePlaced : Type 0 where
    pub no_clash : clash_after [] definitions ≡ None
    pub resets : reset_refusal definitions (held_resets q (fragment_exprs root)) ≡ None
    pub room : is_past_limit q definitions names ≡ false

  not_past : (b : Bool) → limit_where b ≡ None → b ≡ false
  not_past true e = cc
  not_past false e = refl

  pub are_placed : domain_stop q root ≡ None → ArePlaced
  are_placed e =
      let first = first_none (clash_after [] definitions) _ e in
      let second = first_none (reset_refusal definitions (held_resets q (fragment_exprs root))) (limit_where (is_past_limit q definitions names)) first.1 in
      record { no_clash = first.0; resets = second.0; room = not_past (is_past_limit q definitions names) second.1 }

  module _ (given : IsResolvable q root top) where
    defined : AllByRecursion (IsDefinition q) definitions
    defined = tree_defined q root given.tree

    named : AllByRecursion IsName names
    named = tree_named q root given.tree

    domains_made_sound : AllByRecursion (IsDomainOf made) domains
    domains_made_sound = tree_sound q root given.tree

    abbrev IsHeld : ExprId → Type 0
    IsHeld e = is_within made (fragment_exprs root) e.0 ≡ true

    held : AllByRecursion IsHeld (fragment_exprs root)
    held = roots_within made (fragment_exprs root)

    longer : (s : ℕ) → s < length q.signals → s < length within.signals
    longer s low = omega (arith, low, length_with q (made_names q root), ap length (placed_signals domains made (fragment_exprs root)))

    -- no read port gives a signal of a domain, or an input of the top
    itself : IsMoved q q
    itself = record { exprs = refl; forms = λ k. refl; more = []; signals = sym (append-nil q.signals) }

    memories_kept : AllByRecursion (IsMemoryOf q) (all_memories root)
    memories_kept = walk_memories q IsHeld (IsMemoryOf q) (λ name m path h v. moved_memory q q itself name m h) root given.tree held

    data_there : AllByRecursion (λ s. s < length q.signals) (data_signals (all_memories root))
    data_there =
        all_together (λ s. s < length q.signals) (λ (m : Memory). map (λ (r : MemRead). r.word.0) m.reads) (all_memories root)
        (all_imp (λ (m : Memory) k. all_mapped (λ s. s < length q.signals) (λ (r : MemRead). r.word.0) m.reads (all_imp (λ (r : MemRead) x. x.word.there) m.reads k.reads)) (all_memories root) memories_kept)

    free_data : AllByRecursion (λ s. is_among (flat_map domain_numbers domains ++ top_inputs top) s ≡ false) (data_signals (all_memories root))
    free_data = all_both one (data_signals (all_memories root)) data_there given.free_data
      where
        one : (s : ℕ) → s < length q.signals → is_among (flat_map (λ (d : DomainDef). domain_numbers d.domain) definitions ++ top_inputs top) s ≡ false → is_among (flat_map domain_numbers domains ++ top_inputs top) s ≡ false
        one s low h =
            let parts = or_none (is_among (flat_map (λ (d : DomainDef). domain_numbers d.domain) definitions) s) (is_among (top_inputs top) s) (sym (any-append (λ x. x == s) (flat_map (λ (d : DomainDef). domain_numbers d.domain) definitions) (top_inputs top)) ∙ h) in
            any-append (λ x. x == s) (flat_map domain_numbers domains) (top_inputs top)
            ∙ ap (λ b. b || is_among (top_inputs top) s) (domains_free q definitions names s low parts.0)
            ∙ parts.1

    -- what is asked of a module and of those below it is asked of what was walked
    module _ (rules : IsPool q) (rules_made : IsPool made) (placed : domain_stop q root ≡ None) where
      rules_within : IsPool within
      rules_within = placed_rules domains made (fragment_exprs root) domains_made_sound rules_made

      parts : ArePlaced
      parts = are_placed placed

      side : (p : Process) → IsOpenSide q p → AllByRecursion IsHeld (block_exprs p.body) → IsSideOf within p
      side p = whole_side q (made_names q root) domains (fragment_exprs root) rules rules_made rules_within (held_signals q root parts.resets) domains_made_sound p

      pub walked_ready : IsReady within domains root.processes (all_contents root) top
      walked_ready = record {
        walk = record { size = walk_length root; each = walk_named q root given.tree; memory_size = walk_memory_length root; memory_each = walk_memory_named q root given.tree };
        own_processes = top_processes q IsHeld (IsSideOf within) side root given.tree held;
        processes = walk_processes q IsHeld (IsSideOf within) side root given.tree held;
        memories =
            walk_memories q IsHeld (IsPlainMemory within)
            (λ name m path h v. whole_memory q (made_names q root) domains (fragment_exprs root) rules rules_made rules_within (held_signals q root parts.resets) domains_made_sound name m path h v) root given.tree held;
        names =
            subst (AllByRecursion (λ (x : Sig). IsName x.name)) (sym (placed_signals domains made (fragment_exprs root)))
            (all_joined (λ (x : Sig). IsName x.name) q.signals (flat_map domain_signals (made_names q root)) given.names
            (domain_signal_names (made_names q root) (all_filtered IsName (λ n. not (is_some (defined_domain definitions n))) names named)));
        ports = top_wider q within top longer given.ports;
        few = let e = domains_length definitions (length q.signals) names in let f = few_names q definitions names parts.room in omega (arith, e, f);
        domains = whole_domains q (made_names q root) domains (fragment_exprs root) domains_made_sound;
        domain_names = names_distinct q definitions names defined (once_distinct (all_names q root));
        apart = domains_apart q definitions defined given.apart parts.no_clash names (once_distinct (all_names q root));
        known = domains_known definitions (length q.signals) (all_names q root) (all_processes root) (walk_has q root);
        ports_known = all_imp (λ (m : Memory) h. ports_known definitions (length q.signals) (all_names q root) m h) (all_memories root) (walk_ports q (HasText (all_names q root)) root (all_texts (all_names q root)));
        free_data = free_data;
      }
